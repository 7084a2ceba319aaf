-- Giving one variable one of its values alone.
use Rattle.std.proofs.Common.{◌≡◌, ◌≢◌, ℕ, zero, suc, ◌<◌, Bool, true, false, [], ◌∷◌, length, set, refl, sym, ap, ◌∙◌, subst, arith, ℤ}
use Rattle.std.specs.Prelude.{◌==◌}
use Rattle.std.proofs.lemmas.List.{get_or-set_same, get_or-set_other}
use Rattle.std.proofs.lemmas.Bool.Decides.{nat_tests}
use Rattle.qc_model.specs.declared.problem.Arg.{Arg}
use Rattle.qc_model.specs.declared.problem.Arg.TheVariants.{Var, Num}
use Rattle.qc_model.specs.Content.{Game, Rule}
use Rattle.qc_model.specs.Domains.{Values, Box, declared_box, values_left, has_value, is_sub_box}
use Rattle.qc_model.specs.Refuted.{left_to}
use Rattle.model_arguments.specs.Asked.{IsAsked}
use Rattle.model_arguments.proofs.Boxes.{sub_ascending, sub_within, set_full}
use Rattle.prop_base.proofs.Keeps.{within_one}
use Rattle.model_arguments.specs.Repeats.{is_variable}
use Rattle.prop_bool.proofs.Truths.{only_value}

pub has_place : (box : Box) (y : ℕ) (v : ℤ) → has_value (values_left box y) v ≡ true → y < length box
has_place [] y v h = cc
has_place (d ∷ box) zero v h = omega arith
has_place (d ∷ box) (suc y) v h = omega (arith, has_place box y v h)

distinct : (a b : ℕ) → (a == b) ≡ false → b ≢ a
distinct a b h = grind (arith, nat_tests)

same_place : (a b : ℕ) → (a == b) ≡ true → a ≡ b
same_place a b h = grind (arith, nat_tests)

-- the others keep their values
pub left_other : (box : Box) (y : ℕ) (d : Values) (a : Arg) → is_variable a y ≡ false → left_to (set box y d) a ≡ left_to box a
left_other box y d (Var x) h = get_or-set_other box y x.0 d [] (flipped x.0 y h)
  where
    flipped : (a b : ℕ) → (a == b) ≡ false → a ≢ b
    flipped a b h = grind (arith, nat_tests)
left_other box y d (Num n) h = refl

pub left_there : (box : Box) (y : ℕ) (d : Values) (a : Arg) → is_variable a y ≡ true → y < length box → left_to (set box y d) a ≡ d
left_there box y d (Var x) h l = ap (values_left (set box y d)) (same_place x.0 y h) ∙ get_or-set_same box y d [] l
left_there box y d (Num n) h l = cc

pub left_before : (box : Box) (y : ℕ) (a : Arg) → is_variable a y ≡ true → left_to box a ≡ values_left box y
left_before box y (Var x) h = ap (values_left box) (same_place x.0 y h)
left_before box y (Num n) h = cc

-- what has one value keeps it
pub fixed_stays : (box : Box) (y : ℕ) (v : ℤ) (a : Arg) (u : ℤ) → has_value (values_left box y) v ≡ true → left_to box a ≡ u ∷ [] → left_to (set box y (v ∷ [])) a ≡ u ∷ []
fixed_stays box y v a u h e = by (is_variable a y) refl
  where
    by : (b : Bool) → is_variable a y ≡ b → left_to (set box y (v ∷ [])) a ≡ u ∷ []
    by false k = left_other box y (v ∷ []) a k ∙ e
    by true k =
        let same : v ≡ u = only_value v u (subst (λ d. has_value d v ≡ true) (sym (left_before box y a k) ∙ e) h) in
        left_there box y (v ∷ []) a k (has_place box y v h) ∙ ap (λ z. z ∷ []) same

-- a box of the problem stays one
pub asked_at : (g : Game) (c : Rule) (box : Box) (y : ℕ) (v : ℤ) → IsAsked g c box → has_value (values_left box y) v ≡ true → IsAsked g c (set box y (v ∷ []))
asked_at g c box y v a h = record {
  rule = a.rule;
  declared = subst (λ b. is_sub_box b (declared_box g) ≡ true) (within_one box y v (sub_ascending box (declared_box g) y a.declared) h) (sub_within box (declared_box g) y v v a.declared);
  full = set_full box y (v ∷ []) a.full refl;
}
