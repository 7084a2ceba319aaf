-- The declared box is a box of the problem, and has a value for each variable.
use Rattle.std.proofs.Common.{◌≡◌, Bool, true, false, ◌&&◌, ◌||◌, List, [], ◌∷◌, map, refl, ap, ◌∙◌, ℤ}
use Rattle.std.specs.List.{list_all}
use Rattle.std.specs.Ordering.{int_eq}
use Rattle.std.proofs.lemmas.Bool.Decides.{Decides-int_eq}
use Rattle.std.proofs.lemmas.Bool.{and_from}
use Rattle.qc_model.specs.declared.problem.Variable.{Variable}
use Rattle.qc_model.specs.Content.{Game}
use Rattle.qc_model.specs.Domains.{Box, Values, domain_values, declared_box, has_value, has_empty, is_ascending, is_sub_box}
use Rattle.qc_model.specs.Valid.{is_domain}
use Rattle.qc_model.proofs.Readable.{first, second}
use Rattle.model_levels.proofs.Ascends.{domain_ascends}
use Rattle.model_arguments.specs.Asked.{is_box_of}
use Rattle.fd_store.proofs.FullDomains.{none_empty}

-- the declared values are declared
all_among : (all vs : Values) → ((v : ℤ) → has_value vs v ≡ true → has_value all v ≡ true) → list_all (has_value all) vs ≡ true
all_among all [] f = refl
all_among all (v ∷ vs) f =
    and_from (has_value all v) (list_all (has_value all) vs) (f v (ap (λ b. b || has_value vs v) ((Decides-int_eq v v).1 refl)))
    (all_among all vs (λ w h. f w (later (int_eq w v) (has_value vs w) h)))
  where
    later : (a b : Bool) → b ≡ true → (a || b) ≡ true
    later true b h = refl
    later false b h = h

declared_among : (xs : List Variable) → list_all (λ x. is_domain x.domain) xs ≡ true → is_sub_box (map (λ x. domain_values x.domain) xs) (map (λ x. domain_values x.domain) xs) ≡ true
declared_among [] h = refl
declared_among (x ∷ xs) h =
    let d = domain_values x.domain in
    and_from (is_ascending d && list_all (has_value d) d) (is_sub_box (map (λ y. domain_values y.domain) xs) (map (λ y. domain_values y.domain) xs))
    (and_from (is_ascending d) (list_all (has_value d) d) (domain_ascends x.domain (first (is_domain x.domain) (list_all (λ y. is_domain y.domain) xs) h)) (all_among d d (λ v k. k)))
    (declared_among xs (second (is_domain x.domain) (list_all (λ y. is_domain y.domain) xs) h))

pub declared_is : (g : Game) (box : Box) → list_all (λ x. is_domain x.domain) g.variables ≡ true → box ≡ declared_box g → is_box_of g box ≡ true
declared_is g box h e = ap (λ b. is_sub_box b (declared_box g)) e ∙ declared_among g.variables h

pub declared_full : (g : Game) → list_all (λ x. is_domain x.domain) g.variables ≡ true → has_empty (declared_box g) ≡ false
declared_full g e = none_empty g.variables e
