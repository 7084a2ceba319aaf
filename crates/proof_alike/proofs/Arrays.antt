-- The arrays and numbers among arguments that are filled.
use Rattle.std.proofs.Common.{◌≡◌, ℕ, zero, suc, List, [], ◌∷◌, map, drop, refl, ap, ℤ, Option, Some, None}
use Rattle.std.specs.Prelude.{slice_get}
use Rattle.qc_model.specs.declared.problem.Arg.{Arg}
use Rattle.qc_model.specs.declared.problem.Argument.{Argument}
use Rattle.qc_model.specs.declared.problem.Argument.TheVariants.{One, Many, Numbers, Members}
use Rattle.qc_model.specs.Arguments.{variables_of, fill, as_many, as_numbers, one, many, numbers}
use Rattle.proof_alike.proofs.Filling.{FillAlike, fill_all}

-- the items of an array, and the numbers of an array of numbers
abbrev pub items_of : Option Argument → List Arg
items_of None = []
items_of (Some (One a)) = []
items_of (Some (Many xs)) = xs
items_of (Some (Numbers ns)) = []
items_of (Some (Members s)) = []

abbrev pub numbers_of : Option Argument → List ℤ
numbers_of None = []
numbers_of (Some (One a)) = []
numbers_of (Some (Many xs)) = []
numbers_of (Some (Numbers ns)) = ns
numbers_of (Some (Members s)) = []

items_filled : {X : Type 0} (f : Arg → X) (a : Argument) → as_many (Some (fill f a)) ≡ map f (items_of (Some a))
items_filled f (One a) = refl
items_filled f (Many xs) = refl
items_filled f (Numbers ns) = refl
items_filled f (Members s) = refl

numbers_filled : {X : Type 0} (f : Arg → X) (a : Argument) → as_numbers (Some (fill f a)) ≡ numbers_of (Some a)
numbers_filled f (One a) = refl
numbers_filled f (Many xs) = refl
numbers_filled f (Numbers ns) = refl
numbers_filled f (Members s) = refl

pub many_filled : {X : Type 0} (f : Arg → X) (args : List Argument) (k : ℕ) → many (map (fill f) args) k ≡ map f (items_of (slice_get args k))
many_filled f [] k = refl
many_filled f (a ∷ args) zero = items_filled f a
many_filled f (a ∷ args) (suc k) = many_filled f args k

pub numbers_same : {X : Type 0} (f : Arg → X) (args : List Argument) (k : ℕ) → numbers (map (fill f) args) k ≡ numbers_of (slice_get args k)
numbers_same f [] k = refl
numbers_same f (a ∷ args) zero = numbers_filled f a
numbers_same f (a ∷ args) (suc k) = numbers_same f args k

-- what a sum is compared with
pub third_same : {X : Type 0} (d : X) (f h : Arg → X) (args : List Argument) → FillAlike f h (variables_of (drop 2 args)) → one d (map (fill f) args) 2 ≡ one d (map (fill h) args) 2
third_same d f h [] l = refl
third_same d f h (a ∷ []) l = refl
third_same d f h (a ∷ b ∷ args) l = ap (λ vs. one d vs 0) (fill_all f h args l)
