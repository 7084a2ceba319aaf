-- Items in the order of their variables: none stands twice.
use Rattle.std.proofs.Common.{◌≡◌, ℕ, ◌+◌, ◌<◌, true, false, List, [], ◌∷◌, refl, arith, ℤ}
use Rattle.std.specs.Prelude.{nat_le, ◌==◌}
use Rattle.std.specs.List.{list_any}
use Rattle.std.proofs.lemmas.Bool.{leb-true, or_from}
use Rattle.std.proofs.lemmas.Bool.Decides.{nat_tests}
use Rattle.qc_model.specs.declared.problem.Arg.{Arg}
use Rattle.qc_model.specs.declared.problem.Arg.TheVariants.{Var, Num}
use Rattle.qc_model.specs.declared.problem.VarId.{VarId}
use Rattle.qc_model.proofs.Readable.{first, second}
use Rattle.model_arguments.specs.Repeats.{same_variable, has_repeat}
use Rattle.prop_linear.specs.Rising.{rise_from}

-- a variable below all of them is none of them
none_below : (x : VarId) (n : ℕ) (xs : List Arg) → x.0 < n → rise_from n xs ≡ true → list_any (same_variable (Var x)) xs ≡ false
none_below x n [] l h = refl
none_below x n (Num m ∷ xs) l h = none_below x n xs l h
none_below x n (Var y ∷ xs) l h =
    let m = leb-true n y.0 (first (nat_le n y.0) (rise_from (y.0 + 1) xs) h) in
    or_from (y.0 == x.0) (list_any (same_variable (Var x)) xs) (apart y.0 x.0 (omega (arith, l, m))) (none_below x (y.0 + 1) xs (omega (arith, l, m)) (second (nat_le n y.0) (rise_from (y.0 + 1) xs) h))
  where
    apart : (a b : ℕ) → b < a → (a == b) ≡ false
    apart a b h = grind (arith, nat_tests)

none_number : (n : ℤ) (xs : List Arg) → list_any (same_variable (Num n)) xs ≡ false
none_number n [] = refl
none_number n (x ∷ xs) = none_number n xs

pub none_twice : (n : ℕ) (xs : List Arg) → rise_from n xs ≡ true → has_repeat xs ≡ false
none_twice n [] h = refl
none_twice n (Num m ∷ xs) h = or_from (list_any (same_variable (Num m)) xs) (has_repeat xs) (none_number m xs) (none_twice n xs h)
none_twice n (Var x ∷ xs) h =
    let r = second (nat_le n x.0) (rise_from (x.0 + 1) xs) h in
    or_from (list_any (same_variable (Var x)) xs) (has_repeat xs) (none_below x (x.0 + 1) xs (omega arith) r) (none_twice (x.0 + 1) xs r)
