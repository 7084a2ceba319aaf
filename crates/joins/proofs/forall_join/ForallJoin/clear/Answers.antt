use Rattle.std.proofs.Common.{◌≡◌, [], refl, ap, ◌∙◌, rules, map}
use Rattle.std.proofs.lemmas.Int.{to_z-of_z}
use mir.Val.{SFits}
use mir.Syntax.{w64}
use Rattle.joins.specs.Columns.{known_of}
use Rattle.joins.proofs.Gathered.{totals_emptied, sources_emptied}
use Rattle.joins.proofs.forall_join.ForallJoin.clear.Goals as goal

pub returns-clause-stands : goal.returns-clause-stands
returns-clause-stands c =
    let j = c.args.self.now in
    let result_fits : SFits w64 c.known_of_none-self.result = search rules in
    let e : c.known_of_none-self.result ≡ known_of c.empty.new.columns.items [] = c.known_of_none-self.ensures ∙ ap (λ cs. known_of cs []) c.as_slice.ensures.value in
    simp to_z-of_z
    (record {
      any_lost_is = refl;
      all_exact_is = refl;
      all_known_is = refl;
      has_exact_is = refl;
      any_known_is = refl;
      totals = rw c.empty.ensures (totals_emptied j.columns.items);
      known_is = e;
    })

pub returns-clause-scope : goal.returns-clause-scope
returns-clause-scope c =
    record {
      sources = ap (map (λ c. c.source)) c.empty.ensures ∙ sources_emptied c.args.self.now.columns.items;
      sense = refl;
    }
