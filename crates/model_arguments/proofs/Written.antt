-- What stands in the places of the arguments, by the arguments as they are written.
use Rattle.std.proofs.Common.{◌≡◌, ℕ, zero, suc, ◌-◌, List, [], ◌∷◌, map, length, refl, ap}
use Rattle.std.specs.Prelude.{pos}
use Rattle.qc_model.specs.declared.problem.Arg.{Arg}
use Rattle.qc_model.specs.declared.problem.Arg.TheVariants.{Num}
use Rattle.qc_model.specs.declared.problem.Argument.{Argument}
use Rattle.qc_model.specs.declared.problem.Argument.TheVariants.{One, Many, Numbers, Members}
use Rattle.qc_model.specs.Arguments.{fill, one, many, numbers, as_one, last_of}
use Rattle.qc_model.specs.Domains.{Box}
use Rattle.qc_model.specs.Left.{left_at, lefts_at, last_left}
use Rattle.qc_model.specs.Refuted.{left_to}
use Rattle.model_arguments.proofs.Last.{last_place as last_filled}
use Rattle.model_arguments.specs.Written.{arg_at, args_at, ints_at, last_arg}

pub one_fill : {X : Type 0} (f : Arg → X) (args : List Argument) (k : ℕ) → one (f (Num (pos 0))) (map (fill f) args) k ≡ f (arg_at args k)
one_fill f [] zero = refl
one_fill f [] (suc k) = refl
one_fill f (One a ∷ args) zero = refl
one_fill f (Many xs ∷ args) zero = refl
one_fill f (Numbers ns ∷ args) zero = refl
one_fill f (Members s ∷ args) zero = refl
one_fill f (a ∷ args) (suc k) = one_fill f args k

pub many_fill : {X : Type 0} (f : Arg → X) (args : List Argument) (k : ℕ) → many (map (fill f) args) k ≡ map f (args_at args k)
many_fill f [] zero = refl
many_fill f [] (suc k) = refl
many_fill f (One a ∷ args) zero = refl
many_fill f (Many xs ∷ args) zero = refl
many_fill f (Numbers ns ∷ args) zero = refl
many_fill f (Members s ∷ args) zero = refl
many_fill f (a ∷ args) (suc k) = many_fill f args k

pub numbers_fill : {X : Type 0} (f : Arg → X) (args : List Argument) (k : ℕ) → numbers (map (fill f) args) k ≡ ints_at args k
numbers_fill f [] zero = refl
numbers_fill f [] (suc k) = refl
numbers_fill f (One a ∷ args) zero = refl
numbers_fill f (Many xs ∷ args) zero = refl
numbers_fill f (Numbers ns ∷ args) zero = refl
numbers_fill f (Members s ∷ args) zero = refl
numbers_fill f (a ∷ args) (suc k) = numbers_fill f args k

pub last_fill : {X : Type 0} (f : Arg → X) (args : List Argument) → as_one (f (Num (pos 0))) (last_of (map (fill f) args)) ≡ f (last_arg args)
last_fill f [] = refl
last_fill f (One a ∷ []) = refl
last_fill f (Many xs ∷ []) = refl
last_fill f (Numbers ns ∷ []) = refl
last_fill f (Members s ∷ []) = refl
last_fill f (a ∷ b ∷ args) = last_fill f (b ∷ args)

-- what a box leaves to each
pub left_written : (box : Box) (args : List Argument) (k : ℕ) → left_at (map (fill (left_to box)) args) k ≡ left_to box (arg_at args k)
left_written box args k = one_fill (left_to box) args k

pub lefts_written : (box : Box) (args : List Argument) (k : ℕ) → lefts_at (map (fill (left_to box)) args) k ≡ map (left_to box) (args_at args k)
lefts_written box args k = many_fill (left_to box) args k

pub numbers_written : (box : Box) (args : List Argument) (k : ℕ) → numbers (map (fill (left_to box)) args) k ≡ ints_at args k
numbers_written box args k = numbers_fill (left_to box) args k

pub last_written : (box : Box) (args : List Argument) → last_left (map (fill (left_to box)) args) ≡ left_to box (last_arg args)
last_written box args = last_fill (left_to box) args

pub last_place : (args : List Argument) → arg_at args (length args - 1) ≡ last_arg args
last_place args = ap (as_one (Num (pos 0))) (last_filled (fill (λ a. a)) args)
