use Rattle.std.proofs.Common.{◌≡◌, ◌∙◌, ◌∷◌, ◌++◌, [], ap, sym, refl, rules, false, not}
use Rattle.std.proofs.lemmas.Int.{to_z-of_z}
use Rattle.std.specs.Prelude.{◌==◌}
use mir.Val.{SFits}
use mir.Syntax.{w64}
use Rattle.qc_model.specs.Domains.{box_without, is_none_left, values_left, values_within}
use Rattle.proof_tree.specs.declared.tree.Step.TheVariants.{Bound}
use Rattle.proof_tree.specs.Steps.{best_value}
use Rattle.search_box.specs.Bounds.{IsBounded}
use Rattle.search_box.proofs.GivenUp.{bounded_is, not_true_false, not_false_true}
use Rattle.box_laws.proofs.Emptying.{nothing_goes}
use Rattle.search_box.proofs.bounding.give_up.Goals as goal

pub returns-clause-answer : goal.returns-clause-answer
returns-clause-answer c =
    let lo_fits : SFits w64 c.args.lo = search rules in
    let hi_fits : SFits w64 c.args.hi = search rules in
    let best_fits : SFits w64 c.best_within-best.result = search rules in
    let vs = values_left c.args.store.now.box c.args.x.0 in
    let within = values_within c.args.lo c.args.hi vs in
    let asked : c.has_within.result ≡ not (is_none_left within) = simp to_z-of_z at c.has_within.ensures in
    let some : is_none_left within ≡ false = not_true_false (is_none_left within) (sym asked ∙ c.if-not-has_within.false) in
    let content : c.remove.new.self.box ≡ box_without c.reserve_trail.new.self.box c.args.x.0 c.args.lo c.args.hi = simp to_z-of_z at c.remove.ensures.content in
    let pushed : c.push.new.self ≡ c.args.steps.now ++ Bound c.args.x c.args.lo c.args.hi ∷ [] = simp to_z-of_z at c.in_ok-push.ensures.ok in
    let best : c.best_within-best.result ≡ best_value c.args.sense within = simp to_z-of_z at c.best_within-best.ensures in
    let is : IsBounded c.args.sense c.args.x c.args.lo c.args.hi c.args.store.now.box c.remove.new.self.box c.args.steps.now c.push.new.self (record { best = c.best_within-best.result; is_empty = c.size.result == 0 }) =
    bounded_is c.args.sense c.args.x c.args.lo c.args.hi c.args.store.now.box c.remove.new.self.box c.args.steps.now c.push.new.self (record { best = c.best_within-best.result; is_empty = c.size.result == 0 }) c.size.result c.requires.full c.requires.var c.requires.few
    c.requires.lo c.requires.hi some pushed (content ∙ ap (λ b. box_without b c.args.x.0 c.args.lo c.args.hi) c.reserve_trail.ensures.content) best c.size.ensures refl in
    simp to_z-of_z is

pub returns-then-not-has_within-clause-content : goal.returns-then-not-has_within-clause-content
returns-then-not-has_within-clause-content c =
    let lo_fits : SFits w64 c.args.lo = search rules in
    let hi_fits : SFits w64 c.args.hi = search rules in
    let within = values_within c.args.lo c.args.hi (values_left c.args.store.now.box c.args.x.0) in
    let asked : c.has_within.result ≡ not (is_none_left within) = simp to_z-of_z at c.has_within.ensures in
    nothing_goes c.args.store.now.box c.args.x.0 c.args.lo c.args.hi (not_false_true (is_none_left within) (sym asked ∙ c.if-not-has_within.true))
