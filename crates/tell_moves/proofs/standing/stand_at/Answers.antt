use Rattle.std.proofs.Common.{◌≡◌, ◌∙◌, ◌-◌, ◌<◌, ap, sym, arith, length}
use Rattle.qc_model.specs.Game.{scope_domains}
use Rattle.qc_play.specs.Play.{is_move}
use Rattle.qc_play.proofs.AtLevels.{level_from, level_stop}
use Rattle.tell_moves.proofs.Going.{numbers_in}
use Rattle.tell_moves.proofs.Placed.{placed_first, width_is, ends_here, misses_here, bars_here, goes_on}
use Rattle.tell_moves.proofs.standing.stand_at.Goals as goal
use Rattle.tell_moves.proofs.standing.stand_at.Goals.{After-is_end}

-- how many variables the scope has
width : (c : After-is_end) → c.level-level.result.now.stop - c.level-level.result.now.from ≡ length (scope_domains c.args.problem.now c.loop-i.i)
width c =
    let g = c.args.problem.now in
    let level = c.level-level.result.now in
    let same = c.level-level.ensures.problem ∙ c.in_ok-levels.ensures in
    let from = level_from level g c.loop-i.i same c.level-level.ensures.number in
    let stop = level_stop level g c.loop-i.i same c.level-level.ensures.number in
    let wide = width_is g c.loop-i.i in
    omega (arith, from, stop, wide)

pub loop-i-init : goal.loop-i-init
loop-i-init c = placed_first c.args.problem.now c.args.values.now c.in_ok-taken.taken.items c.in_ok-taken.ensures.items

pub returns-then-is_end-clause-place : goal.returns-then-is_end-clause-place
returns-then-is_end-clause-place c =
    let w = width (goal.at.returns-then-is_end-clause-place c).After-is_end in
    let l : c.loop-i.i < length c.args.problem.now.scopes = omega arith in
    ends_here c.args.problem.now c.args.values.now c.loop-i.i c.loop-i.taken.items c.loop-i.rest.now l c.loop-i.invariant _ w (sym c.is_end.ensures ∙ c.if-is_end.true)

pub returns-then-rest-width-clause-place : goal.returns-then-rest-width-clause-place
returns-then-rest-width-clause-place c =
    let w = width (goal.at.returns-then-rest-width-clause-place c).After-is_end in
    let l : c.loop-i.i < length c.args.problem.now.scopes = omega arith in
    misses_here c.args.problem.now c.args.values.now c.loop-i.i c.loop-i.taken.items c.loop-i.rest.now l c.loop-i.invariant _ w (sym c.is_end.ensures ∙ c.if-is_end.false) c.if-rest-width.true

pub take_tuple-requires-clause-numbers : goal.take_tuple-requires-clause-numbers
take_tuple-requires-clause-numbers c = numbers_in c.args.problem.now c.known.ensures c.loop-i.taken.items c.loop-i.invariant.declared

pub returns-then-not-branch-clause-place : goal.returns-then-not-branch-clause-place
returns-then-not-branch-clause-place c =
    let g = c.args.problem.now in
    let a = c.loop-i.taken.items in
    let t = c.split_at.result.0.now in
    let level = c.level-level.result.now in
    let w = width (goal.at.returns-then-not-branch-clause-place c).After-is_end in
    let l : c.loop-i.i < length g.scopes = omega arith in
    let moved =
    c.in_ok-take_tuple.ensures.allowed
    ∙ (ap (λ h. is_move h level.number a t) (c.level-level.ensures.problem ∙ c.in_ok-levels.ensures) ∙ ap (λ j. is_move g j a t) c.level-level.ensures.number) in
    bars_here g c.args.values.now c.loop-i.i a c.loop-i.rest.now l c.loop-i.invariant _ w (sym c.is_end.ensures ∙ c.if-is_end.false) c.if-rest-width.false t c.split_at.ensures.front (sym moved ∙ c.if-not-branch.true)

pub loop-i-preserved : goal.loop-i-preserved
loop-i-preserved c =
    let g = c.args.problem.now in
    let a = c.loop-i.taken.items in
    let t = c.split_at.result.0.now in
    let level = c.level-level.result.now in
    let w = width (goal.at.loop-i-preserved c).After-is_end in
    let l : c.loop-i.i < length g.scopes = omega arith in
    let moved =
    c.in_ok-take_tuple.ensures.allowed
    ∙ (ap (λ h. is_move h level.number a t) (c.level-level.ensures.problem ∙ c.in_ok-levels.ensures) ∙ ap (λ j. is_move g j a t) c.level-level.ensures.number) in
    goes_on g c.args.values.now c.loop-i.i a c.loop-i.rest.now l c.loop-i.invariant _ w (sym c.is_end.ensures ∙ c.if-is_end.false) c.if-rest-width.false t c.split_at.ensures.front
    c.take_tuple.new.values.items c.split_at.result.1.now (c.in_ok-take_tuple.ensures.taken c.if-not-branch.false) c.split_at.ensures.back (sym moved ∙ c.if-not-branch.false)
