-- A constraint's variables are variables of the game.
use Rattle.std.proofs.Common.{◌≡◌, ◌<◌, ℕ, Bool, true, List, [], ◌∷◌, length, map, refl, subst, inl, inr, arith}
use Rattle.std.specs.Prelude.{nat_lt, slice_get, Some}
use Rattle.std.specs.List.{list_all}
use Rattle.std.proofs.lemmas.Bool.Decides.{nat_tests}
use Rattle.std.proofs.lemmas.Bool.{and_from}
use Rattle.qc_model.specs.declared.problem.Variable.{Variable}
use Rattle.qc_model.specs.Arguments.{variables_of}
use Rattle.qc_model.specs.Content.{Game, Rule}
use Rattle.qc_model.specs.Domains.{Box, domain_values, declared_box}
use Rattle.qc_model.specs.Lists.{Among}
use Rattle.qc_model.specs.Valid.{IsValid}
use Rattle.model_arguments.specs.Asked.{is_box_of}
use Rattle.box_laws.proofs.Declared.{declared_is}
use Rattle.dense_closing.proofs.Own.{own_place, rule_below}

pub all_if : {X : Type 0} (p : X → Bool) (xs : List X) → ((x : X) → Among x xs → p x ≡ true) → list_all p xs ≡ true
all_if p [] f = refl
all_if p (x ∷ xs) f = and_from (p x) (list_all p xs) (f x (inl refl)) (all_if p xs (λ y m. f y (inr m)))

-- its variables have places in each box of the game
pub own_within : (g : Game) → IsValid g → (k : ℕ) (c : Rule) (box : Box) → slice_get g.constraints k ≡ Some c → is_box_of g box ≡ true → (x : ℕ) → Among x (variables_of c.args) → x < length box
own_within g v k c box e d x m = own_place (length box) x c.args (rule_below g v box d k c e) m

declared_length : (xs : List Variable) → length (map (λ x. domain_values x.domain) xs) ≡ length xs
declared_length [] = refl
declared_length (x ∷ xs) = let l = declared_length xs in omega arith

pub own_below : (g : Game) → IsValid g → (k : ℕ) (c : Rule) → slice_get g.constraints k ≡ Some c → (n : ℕ) → n ≡ length g.variables → (xs : List ℕ) → xs ≡ variables_of c.args → list_all (λ x. nat_lt x n) xs ≡ true
own_below g v k c e n q xs s =
    all_if (λ x. nat_lt x n) xs (λ x m.
    (let l = own_within g v k c (declared_box g) e (declared_is g (declared_box g) v.domains refl) x (subst (Among x) s m) in
    let d = declared_length g.variables in
    less x n (omega arith)))
  where
    less : (x n : ℕ) → x < n → nat_lt x n ≡ true
    less x n h = grind (arith, nat_tests)
