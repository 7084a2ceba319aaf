use Rattle.std.proofs.Common.{◌∙◌, ap, sym, not}
use Rattle.qc_model.specs.Domains.{has_empty}
use Rattle.game_search.proofs.Kept.{all_kept, first_keep, goes_on, kept_begun, stops_first}
use Rattle.game_search.proofs.pieces.keep_all.Goals as goal

pub loop-rest-init : goal.loop-rest-init
loop-rest-init c = kept_begun c.args.problem.now c.args.keeps.now c.args.remains.now c.requires.game c.requires.full c.requires.keeps

pub keep_one-requires-clause-game : goal.keep_one-requires-clause-game
keep_one-requires-clause-game c = c.loop-rest.invariant.game

pub keep_one-requires-clause-full : goal.keep_one-requires-clause-full
keep_one-requires-clause-full c = c.loop-rest.invariant.full

pub keep_one-requires-clause-keep : goal.keep_one-requires-clause-keep
keep_one-requires-clause-keep c = first_keep c.args.problem.now c.loop-rest.rest.now _ c.in-len1-up.len_at_least c.loop-rest.invariant.each

pub returns-then-not-branch-clause-some : goal.returns-then-not-branch-clause-some
returns-then-not-branch-clause-some c = stops_first c.args.problem.now c.args.keeps.now c.args.remains.now c.loop-rest.rest.now _ c.loop-rest.remains c.in-len1-up.len_at_least c.loop-rest.invariant (sym c.if-not-branch.true ∙ c.in_ok-keep_one.ensures.some)

pub loop-rest-preserved : goal.loop-rest-preserved
loop-rest-preserved c =
    let done = c.in_ok-keep_one.ensures in
    goes_on c.args.problem.now c.args.keeps.now c.args.remains.now c.loop-rest.rest.now _ c.loop-rest.remains c.keep_one.new.remains c.in-len1-up.len_at_least c.loop-rest.invariant (done.kept c.if-not-branch.false) (sym c.if-not-branch.false ∙ done.some) (done.here c.if-not-branch.false) done.game

pub returns-clause-kept : goal.returns-clause-kept
returns-clause-kept c = λ some. all_kept c.args.problem.now c.args.keeps.now c.args.remains.now c.loop-rest.rest.now c.loop-rest.remains c.in_default.len_below c.loop-rest.invariant

pub returns-clause-some : goal.returns-clause-some
returns-clause-some c =
    let kept = all_kept c.args.problem.now c.args.keeps.now c.args.remains.now c.loop-rest.rest.now c.loop-rest.remains c.in_default.len_below c.loop-rest.invariant in
    ap not (sym (ap has_empty (sym kept) ∙ c.loop-rest.invariant.full))

pub returns-clause-here : goal.returns-clause-here
returns-clause-here c = λ some. c.loop-rest.invariant.here
