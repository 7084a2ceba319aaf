use Rattle.std.proofs.Common.{◌≡◌, refl, ap, sym, subst, ◌∙◌, true, rules}
use Rattle.std.proofs.lemmas.Int.{to_z-of_z}
use mir.Val.{SFits}
use mir.Syntax.{w64}
use Rattle.qc_model.specs.declared.problem.Arg.TheVariants.{Var}
use Rattle.qc_model.specs.Domains.{Values, values_left, least_value}
use Rattle.qc_refuter.specs.Met.{is_domain_left}
use Rattle.qc_refuter.proofs.Seen.{left_view, left_there, stands}
use Rattle.qc_refuter.proofs.Terms.{some_left}
use Rattle.qc_refuter.proofs.view.least_of.Goals as goal

pub returns-then-y-view : goal.returns-then-y-view
returns-then-y-view c =
    let v = c.args.view.now in
    let here = left_view v.store.now.box v.x.0 v.lo v.hi (Var c.args.y) c.args.y refl c.if-y-view.true in
    let left = subst (λ (d : Values). is_domain_left d ≡ true) here c.requires in
    let fits : SFits w64 v.ends.least = search rules in
    simp to_z-of_z ((v.shown (some_left _ left)).0 ∙ sym (ap least_value here))

pub min-requires-clause-left : goal.min-requires-clause-left
min-requires-clause-left c =
    let v = c.args.view.now in
    let there = left_there v.store.now.box v.x.0 v.lo v.hi (Var c.args.y) c.args.y refl c.if-y-view.false in
    some_left (values_left v.store.now.box c.args.y.0) (subst (λ (d : Values). is_domain_left d ≡ true) there c.requires)

pub min-requires-clause-var : goal.min-requires-clause-var
min-requires-clause-var c =
    let v = c.args.view.now in
    stands v.store.now.box v.x.0 v.lo v.hi (Var c.args.y) c.args.y refl c.requires

pub returns-else-y-view : goal.returns-else-y-view
returns-else-y-view c =
    let v = c.args.view.now in
    let there = left_there v.store.now.box v.x.0 v.lo v.hi (Var c.args.y) c.args.y refl c.if-y-view.false in
    let fits : SFits w64 c.min.result = search rules in
    to_z-of_z w64 c.min.result fits ∙ (c.min.ensures ∙ sym (ap least_value there))
