use Rattle.std.proofs.Common.{◌≡◌, List, [], ◌∷◌, ◌++◌, rules}
use Rattle.qc_model.specs.Verdict.{Seen, seen_bound}
use Rattle.joins.specs.Joins.{StandsAt}
use Rattle.std.proofs.lemmas.Int.{to_z-of_z}
use mir.Val.{SFits}
use mir.Syntax.{w64}
use Rattle.qc_model.specs.Domains.{box_without, declared_box}
use Rattle.proof_tree.specs.declared.tree.Step.TheVariants.{Bound as BoundStep}
use Rattle.check_lines.specs.State.{is_own_step}
use Rattle.check_lines.specs.Ledger.{place_at}
use Rattle.check_lines.specs.Machine.{game_of}
use Rattle.check_lines.proofs.Parts.{bound_ready, bound_tells, no_ledger}
use Rattle.check_lines.proofs.machine.Machine.bound_line.Goals as goal

pub returns-in-None-clause-tells : goal.returns-in-None-clause-tells
returns-in-None-clause-tells c = λ n d es xs u few p k.
    let lo_fits : SFits w64 c.args.lo = search rules in
    let hi_fits : SFits w64 c.args.hi = search rules in
    let m = c.args.self.now in
    let illegal = simp to_z-of_z at (c.in-None.ensures.illegal (game_of m) m.horizon c.requires.within.sound.tracks) in
    no_ledger (is_own_step (game_of m) (place_at (game_of m) m.number m.horizon) (BoundStep c.args.x c.args.lo c.args.hi) m.remains.box) _ illegal

pub returns-in-Some-clause-tells : goal.returns-in-Some-clause-tells
returns-in-Some-clause-tells c =
    let lo_fits : SFits w64 c.args.lo = search rules in
    let hi_fits : SFits w64 c.args.hi = search rules in
    let m = c.args.self.now in
    let content : c.bound.new.remains.box ≡ box_without m.remains.box c.args.x.0 c.args.lo c.args.hi = simp to_z-of_z at c.in-Some.ensures.content in
    let best_fits : SFits w64 c.in-Some.best = search rules in
    let stands : (xs : List Seen) → StandsAt m.joins m.number xs → StandsAt c.add_bound.new.self m.number (xs ++ seen_bound c.in-Some.best ∷ []) = simp to_z-of_z at c.add_bound.ensures.stands in
    let shows = simp to_z-of_z at (c.in-Some.ensures.shows (game_of m) c.requires.within.sound.tracks) in
    bound_tells m c.requires.within c.bound.new.remains c.add_bound.new.self c.bound.ensures.past (c.bound.ensures.fewer (declared_box (game_of m)) c.requires.within.sound.declared) c.add_bound.ensures.others c.add_bound.ensures.same c.args.x c.args.lo c.args.hi c.in-Some.best content
    stands shows

pub returns-in-Some-clause-ready : goal.returns-in-Some-clause-ready
returns-in-Some-clause-ready c =
    let lo_fits : SFits w64 c.args.lo = search rules in
    let hi_fits : SFits w64 c.args.hi = search rules in
    let m = c.args.self.now in
    let content : c.bound.new.remains.box ≡ box_without m.remains.box c.args.x.0 c.args.lo c.args.hi = simp to_z-of_z at c.in-Some.ensures.content in
    bound_ready m c.requires.within c.bound.new.remains c.add_bound.new.self c.bound.ensures.past (c.bound.ensures.fewer (declared_box (game_of m)) c.requires.within.sound.declared) c.add_bound.ensures.others c.add_bound.ensures.same c.args.x c.args.lo c.args.hi (c.in-Some.best) content
