-- No declared domain is empty.
use Rattle.std.specs.Prelude.{◌≡◌, true, false, ◌||◌, List, [], ◌∷◌, map}
use Rattle.std.proofs.Common.{refl, ap, ◌∙◌}
use Rattle.std.specs.List.{list_all}
use Rattle.qc_model.specs.declared.problem.Variable.{Variable}
use Rattle.qc_model.specs.Domains.{domain_values, has_empty}
use Rattle.qc_model.specs.Valid.{is_domain}
use Rattle.qc_model.proofs.DomainValues.{domain_full}
use Rattle.qc_model.proofs.Readable.{first, second}

pub none_empty : (xs : List Variable) → list_all (λ x. is_domain x.domain) xs ≡ true → has_empty (map (λ x. domain_values x.domain) xs) ≡ false
none_empty [] e = refl
none_empty (x ∷ xs) e =
    ap (λ b. b || has_empty (map (λ y. domain_values y.domain) xs)) (domain_full x.domain (first (is_domain x.domain) (list_all (λ y. is_domain y.domain) xs) e))
    ∙ none_empty xs (second (is_domain x.domain) (list_all (λ y. is_domain y.domain) xs) e)
