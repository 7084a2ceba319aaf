-- The box of declared domains is one to begin with.
use Rattle.std.proofs.Common.{◌≡◌, Bool, true, ◌&&◌, List, [], ◌∷◌, map, refl, ap, ◌∙◌, ℤ}
use Rattle.std.specs.List.{list_all}
use Rattle.std.specs.Ordering.{int_eq}
use Rattle.std.proofs.lemmas.Bool.{or_right, and_from}
use Rattle.qc_model.specs.declared.problem.Variable.{Variable}
use Rattle.qc_model.specs.Content.{Game}
use Rattle.qc_model.specs.Domains.{Values, Box, domain_values, declared_box, has_value, is_ascending, is_sub_box}
use Rattle.qc_model.specs.Valid.{IsValid, is_domain}
use Rattle.qc_model.proofs.Readable.{first, second}
use Rattle.model_arguments.specs.Asked.{is_box_of}
use Rattle.model_arguments.proofs.Values.{has_first}
use Rattle.model_levels.proofs.Ascends.{domain_ascends}

all_of : (p : ℤ → Bool) (vs : Values) → ((v : ℤ) → has_value vs v ≡ true → p v ≡ true) → list_all p vs ≡ true
all_of p [] f = refl
all_of p (v ∷ vs) f = and_from (p v) (list_all p vs) (f v (has_first v vs)) (all_of p vs (λ w h. f w (or_right (int_eq w v) (has_value vs w) h)))

-- a box of ascending values lies within itself
pub within_itself : (box : Box) → list_all is_ascending box ≡ true → is_sub_box box box ≡ true
within_itself [] h = refl
within_itself (d ∷ ds) h =
    and_from (is_ascending d && list_all (has_value d) d) (is_sub_box ds ds)
    (and_from (is_ascending d) (list_all (has_value d) d) (first (is_ascending d) (list_all is_ascending ds) h) (all_of (has_value d) d (λ v q. q)))
    (within_itself ds (second (is_ascending d) (list_all is_ascending ds) h))

all_ascend : (xs : List Variable) → list_all (λ x. is_domain x.domain) xs ≡ true → list_all is_ascending (map (λ x. domain_values x.domain) xs) ≡ true
all_ascend [] h = refl
all_ascend (x ∷ xs) h =
    and_from (is_ascending (domain_values x.domain)) (list_all is_ascending (map (λ x. domain_values x.domain) xs))
    (domain_ascends x.domain (first (is_domain x.domain) (list_all (λ x. is_domain x.domain) xs) h))
    (all_ascend xs (second (is_domain x.domain) (list_all (λ x. is_domain x.domain) xs) h))

pub declared_is_box : (g : Game) (box : Box) → IsValid g → box ≡ declared_box g → is_box_of g box ≡ true
declared_is_box g box v e = ap (is_box_of g) e ∙ within_itself (declared_box g) (all_ascend g.variables v.domains)
