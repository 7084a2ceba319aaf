use Rattle.std.proofs.Common.{◌≡◌, refl, ap, ◌∙◌, rules, map}
use Rattle.std.proofs.lemmas.Int.{to_z-of_z}
use mir.Val.{SFits}
use mir.Syntax.{w64}
use Rattle.qc_model.specs.Verdict.{first_value}
use Rattle.joins.specs.Columns.{known_with}
use Rattle.joins.proofs.Gathered.{gathers_exact, sources_stay}
use Rattle.joins.proofs.forall_join.ForallJoin.add_exact.Goals as goal

pub returns-clause-stands : goal.returns-clause-stands
returns-clause-stands c =
    let j = c.args.self.now in
    let w = c.args.vector.now in
    let known_fits : SFits w64 j.known = search rules in
    let first_fits : SFits w64 c.first_value-first.result = search rules in
    let result_fits : SFits w64 c.known_with-self.result = search rules in
    let d : c.known_with-self.result ≡ known_with j.columns.items j.any_known j.known c.first_value-first.result = simp (to_z-of_z, c.as_slice.ensures.value) at c.known_with-self.ensures in
    let e : c.known_with-self.result ≡ known_with j.columns.items j.any_known j.known (first_value w) = d ∙ ap (known_with j.columns.items j.any_known j.known) c.first_value-first.ensures in
    λ xs g s. simp to_z-of_z (rw (e, c.add_vector.ensures) (gathers_exact j.columns.items j.any_lost j.all_exact j.all_known j.has_exact j.any_known j.known xs w g s))

pub returns-clause-scope : goal.returns-clause-scope
returns-clause-scope c =
    let j = c.args.self.now in
    record {
      sources = ap (map (λ c. c.source)) c.add_vector.ensures ∙ sources_stay j.has_exact c.args.vector.now j.columns.items;
      sense = refl;
    }
