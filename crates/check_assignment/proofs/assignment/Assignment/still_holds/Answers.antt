use Rattle.std.proofs.Common.{◌≡◌, ◌<◌, ◌∙◌, sym, true, length, slice_get, Some, subst}
use Rattle.qc_model.specs.Content.{Rule}
use Rattle.qc_model.specs.Holds.{holds_on}
use Rattle.check_assignment.specs.Assigned.{Assigned}
use Rattle.check_assignment.proofs.Told.{noted, stands_at}
use Rattle.check_assignment.proofs.assignment.Assignment.still_holds.Goals as goal

pub invariant_of-self : goal.invariant_of-self
invariant_of-self c =
    let g = c.self.inside.problem.now in
    let vs = c.self.inside.values.items in
    let P : Assigned → Type 0 = λ a. (r : Rule) → slice_get a.game.constraints c.args.k ≡ Some r → true ≡ holds_on r a.items in
    let Q : Assigned → Type 0 = λ a. c.args.k < length a.game.constraints in
    let holds = subst P (sym c.self.view_is) (λ r e. sym c.if-not-holds.false ∙ c.holds.ensures r e) in
    noted g vs c.self.inside.terms c.self.inside.standings.items c.args.k c.index_mut.result.now c.self.invariant (subst Q (sym c.self.view_is) c.requires) holds c.index_mut.ensures.value

pub returns-else-not-index-clause-holds : goal.returns-else-not-index-clause-holds
returns-else-not-index-clause-holds c =
    rw (← c.self.view_is)
    (λ r e. sym ((stands_at c.self.inside.problem.now c.self.inside.values.items c.self.inside.terms c.self.inside.standings.items c.args.k r c.index.result.now c.self.invariant e c.index.ensures).holds c.if-not-index.false))
