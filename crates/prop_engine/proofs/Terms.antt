-- The terms of a bounded sum, and the ends that they rest on.
use Rattle.std.proofs.Common.{◌≡◌, ℕ, zero, suc, ◌<◌, Bool, true, false, ◌||◌, cond, List, [], ◌∷◌, length, get_or, refl, sym, ap, ◌∙◌, subst, arith, ℤ}
use Rattle.std.specs.Prelude.{slice_get, Option, Some, None, ◌==◌, pos, int_lt}
use Rattle.std.specs.List.{list_any}
use Rattle.std.proofs.lemmas.Bool.Decides.{nat_tests}
use Rattle.std.proofs.lemmas.Option.{same_Some, slice_get-get_or}
use Rattle.std.proofs.lemmas.Bool.{or_parts}
use Rattle.qc_model.specs.declared.problem.Arg.{Arg}
use Rattle.qc_model.specs.declared.problem.Arg.TheVariants.{Var, Num}
use Rattle.qc_model.specs.declared.problem.VarId.{VarId}
use Rattle.qc_model.specs.Arguments.{arg_variables}
use Rattle.qc_model.specs.Content.{Rule}
use Rattle.model_arguments.specs.Repeats.{same_variable, has_repeat}
use Rattle.model_arguments.specs.Written.{args_at, ints_at}
use Rattle.model_arguments.proofs.Bools.{clash}
use Rattle.prop_engine.specs.declared.watching.HeldBy.{HeldBy}
use Rattle.prop_engine.specs.declared.watching.HeldBy.TheVariants.{Least, Greatest}
use Rattle.prop_engine.specs.Watching.{has_number, IsBoundedSum, AreRising, resting_end, IsHeld}

none_in : (p : Arg → Bool) (xs : List Arg) (j : ℕ) (a : Arg) → list_any p xs ≡ false → slice_get xs j ≡ Some a → p a ≡ false
none_in p [] j a h e = cc
none_in p (x ∷ xs) zero a h e = ap p (sym (same_Some x a e)) ∙ (or_parts (p x) (list_any p xs) h).0
none_in p (x ∷ xs) (suc j) a h e = none_in p xs j a (or_parts (p x) (list_any p xs) h).1 e

same_number : (j k : ℕ) → j ≡ k → (j == k) ≡ true
same_number j k h = grind (arith, nat_tests)

-- a variable that doesn't stand twice stands at one place
same_place : (xs : List Arg) (i j : ℕ) (y z : VarId) → has_repeat xs ≡ false → slice_get xs i ≡ Some (Var y) → slice_get xs j ≡ Some (Var z) → z.0 ≡ y.0 → i ≡ j
same_place [] i j y z r p q e = cc
same_place (a ∷ xs) zero zero y z r p q e = refl
same_place (a ∷ xs) zero (suc j) y z r p q e =
    let none = none_in (same_variable a) xs j (Var z) (or_parts (list_any (same_variable a) xs) (has_repeat xs) r).0 q in
    absurd (clash (z.0 == y.0) (same_number z.0 y.0 e) (ap (λ b. same_variable b (Var z)) (sym (same_Some a (Var y) p)) ∙ none))
same_place (a ∷ xs) (suc i) zero y z r p q e =
    let none = none_in (same_variable a) xs i (Var y) (or_parts (list_any (same_variable a) xs) (has_repeat xs) r).0 p in
    absurd (clash (y.0 == z.0) (same_number y.0 z.0 (sym e)) (ap (λ b. same_variable b (Var y)) (sym (same_Some a (Var z) q)) ∙ none))
same_place (a ∷ xs) (suc i) (suc j) y z r p q e = ap suc (same_place xs i j y z (or_parts (list_any (same_variable a) xs) (has_repeat xs) r).1 p q e)

-- an item with this variable
with_variable : (a : Arg) (x : ℕ) (P : Type 0) → has_number (arg_variables a) x ≡ true → ((w : VarId) → a ≡ Var w → w.0 ≡ x → P) → P
with_variable (Var w) x P h f = f w refl (equal w.0 x (only (w.0 == x) h))
  where
    only : (b : Bool) → (b || false) ≡ true → b ≡ true
    only true h = refl
    only false h = cc

    equal : (j k : ℕ) → (j == k) ≡ true → j ≡ k
    equal j k h = grind (arith, nat_tests)
with_variable (Num n) x P h f = cc

-- the end that a term rests on is that of each term of its variable, which has no other
pub term_held : (c : Rule) (items : List Arg) (i : ℕ) (h : HeldBy) (d : Arg) (x : ℕ) → IsBoundedSum c → args_at c.args 1 ≡ items → has_repeat items ≡ false → i < length items → h ≡ resting_end (slice_get (ints_at c.args 0) i) →
    has_number (arg_variables (get_or items i d)) x ≡ true → IsHeld h c x
term_held c items i h d x b e r l q m = subst (λ z. IsHeld z c x) (sym q) (by (slice_get (ints_at c.args 0) i) refl)
  where
    rising : (n : ℤ) (t : Bool) → slice_get (ints_at c.args 0) i ≡ Some n → int_lt (pos 0) n ≡ t → AreRising t c x
    rising n t s u j k y p o v =
        with_variable (get_or items i d) x (int_lt (pos 0) k ≡ t) m
        (λ w f g.
        let place = same_place items i j w y r (slice_get-get_or items i d l ∙ ap Some f) (ap (λ z. slice_get z j) (sym e) ∙ o) (v ∙ sym g) in
        ap (int_lt (pos 0)) (same_Some k n (sym p ∙ (ap (slice_get (ints_at c.args 0)) (sym place) ∙ s))) ∙ u)

    ends : (n : ℤ) (t : Bool) → slice_get (ints_at c.args 0) i ≡ Some n → int_lt (pos 0) n ≡ t → IsHeld (cond t Least Greatest) c x
    ends n true s u = (b, rising n true s u)
    ends n false s u = (b, rising n false s u)

    by : (o : Option ℤ) → slice_get (ints_at c.args 0) i ≡ o → IsHeld (resting_end o) c x
    by None s = tt
    by (Some n) s = ends n (int_lt (pos 0) n) s refl
