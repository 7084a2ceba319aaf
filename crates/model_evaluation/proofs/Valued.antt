-- The arguments with their values, by the arguments as they are written; and what readable arguments have.
use Rattle.std.proofs.Common.{◌≡◌, ℕ, zero, suc, ◌≤◌, List, [], ◌∷◌, length, true, refl, sym, subst, ℤ, Some, None}
use Rattle.std.specs.Prelude.{nat_le, unsigned_abs}
use Rattle.std.specs.List.{list_all}
use Rattle.std.proofs.lemmas.Bool.{leb-true}
use Rattle.std.proofs.lemmas.Option.{same_Some}
use Rattle.qc_model.specs.declared.problem.Argument.{Argument}
use Rattle.qc_model.specs.declared.problem.Argument.TheVariants.{One, Many, Numbers, Members}
use Rattle.qc_model.specs.declared.problem.Set.{Set}
use Rattle.qc_model.specs.declared.problem.Set.TheVariants.{Listed}
use Rattle.qc_model.specs.Arguments.{members, numbers}
use Rattle.qc_model.specs.Holds.{arg_value, value_at, values_at, last_value}
use Rattle.qc_model.specs.Valid.{is_number, is_set}
use Rattle.qc_model.proofs.Conjunctions.{first, second}
use Rattle.model_arguments.specs.Written.{arg_at, args_at, ints_at, last_arg, set_at}
use Rattle.model_arguments.proofs.Written.{one_fill, many_fill, numbers_fill, last_fill}
use Rattle.model_evaluation.specs.Evaluation.{given, item_values, is_readable, are_readable}

pub value_written : (vs : List ℤ) (args : List Argument) (k : ℕ) → arg_value vs (arg_at args k) ≡ value_at (given vs args) k
value_written vs args k = sym (one_fill (arg_value vs) args k)

pub last_written : (vs : List ℤ) (args : List Argument) → arg_value vs (last_arg args) ≡ last_value (given vs args)
last_written vs args = sym (last_fill (arg_value vs) args)

pub items_written : (vs : List ℤ) (args : List Argument) (k : ℕ) → item_values vs (args_at args k) ≡ values_at (given vs args) k
items_written vs args k = sym (many_fill (arg_value vs) args k)

pub numbers_written : (vs : List ℤ) (args : List Argument) (k : ℕ) → ints_at args k ≡ numbers (given vs args) k
numbers_written vs args k = sym (numbers_fill (arg_value vs) args k)

pub set_written : (vs : List ℤ) (args : List Argument) (k : ℕ) (s : Set) → set_at args k ≡ Some s → s ≡ members (given vs args) k
set_written vs [] zero s h = cc
set_written vs [] (suc k) s h = cc
set_written vs (One a ∷ args) zero s h = cc
set_written vs (Many xs ∷ args) zero s h = cc
set_written vs (Numbers ns ∷ args) zero s h = cc
set_written vs (Members m ∷ args) zero s h = cc
set_written vs (a ∷ args) (suc k) s h = set_written vs args k s h

pub no_set_written : (vs : List ℤ) (args : List Argument) (k : ℕ) → set_at args k ≡ None → Listed [] ≡ members (given vs args) k
no_set_written vs [] zero h = refl
no_set_written vs [] (suc k) h = refl
no_set_written vs (One a ∷ args) zero h = refl
no_set_written vs (Many xs ∷ args) zero h = refl
no_set_written vs (Numbers ns ∷ args) zero h = refl
no_set_written vs (Members m ∷ args) zero h = cc
no_set_written vs (a ∷ args) (suc k) h = no_set_written vs args k h

rest_readable : (vs : List ℤ) (a : Argument) (args : List Argument) → are_readable vs (a ∷ args) ≡ true → are_readable vs args ≡ true
rest_readable vs a args h = second (is_readable vs a) (are_readable vs args) h

first_readable : (vs : List ℤ) (a : Argument) (args : List Argument) → are_readable vs (a ∷ args) ≡ true → is_readable vs a ≡ true
first_readable vs a args h = first (is_readable vs a) (are_readable vs args) h

value_is_number : (vs : List ℤ) (args : List Argument) (k : ℕ) → are_readable vs args ≡ true → is_number (arg_value vs (arg_at args k)) ≡ true
value_is_number vs [] zero h = refl
value_is_number vs [] (suc k) h = refl
value_is_number vs (One a ∷ args) zero h = first_readable vs (One a) args h
value_is_number vs (Many xs ∷ args) zero h = refl
value_is_number vs (Numbers ns ∷ args) zero h = refl
value_is_number vs (Members m ∷ args) zero h = refl
value_is_number vs (a ∷ args) (suc k) h = value_is_number vs args k (rest_readable vs a args h)

pub value_is_small : (vs : List ℤ) (args : List Argument) (k : ℕ) → are_readable vs args ≡ true → unsigned_abs (arg_value vs (arg_at args k)) ≤ 1000000000
value_is_small vs args k h = leb-true (unsigned_abs (arg_value vs (arg_at args k))) 1000000000 (value_is_number vs args k h)

items_readable : (vs : List ℤ) (args : List Argument) (k : ℕ) → are_readable vs args ≡ true → is_readable vs (Many (args_at args k)) ≡ true
items_readable vs [] zero h = refl
items_readable vs [] (suc k) h = refl
items_readable vs (One a ∷ args) zero h = refl
items_readable vs (Many xs ∷ args) zero h = first_readable vs (Many xs) args h
items_readable vs (Numbers ns ∷ args) zero h = refl
items_readable vs (Members m ∷ args) zero h = refl
items_readable vs (a ∷ args) (suc k) h = items_readable vs args k (rest_readable vs a args h)

pub items_are_few : (vs : List ℤ) (args : List Argument) (k : ℕ) → are_readable vs args ≡ true → length (args_at args k) ≤ 1000
items_are_few vs args k h =
    let items = args_at args k in
    leb-true (length items) 1000 (first (nat_le (length items) 1000) (list_all is_number (item_values vs items)) (items_readable vs args k h))

pub items_are_small : (vs : List ℤ) (args : List Argument) (k : ℕ) → are_readable vs args ≡ true → list_all is_number (item_values vs (args_at args k)) ≡ true
items_are_small vs args k h =
    let items = args_at args k in
    second (nat_le (length items) 1000) (list_all is_number (item_values vs items)) (items_readable vs args k h)

pub numbers_are_small : (vs : List ℤ) (args : List Argument) (k : ℕ) → are_readable vs args ≡ true → list_all is_number (ints_at args k) ≡ true
numbers_are_small vs [] zero h = refl
numbers_are_small vs [] (suc k) h = refl
numbers_are_small vs (One a ∷ args) zero h = refl
numbers_are_small vs (Many xs ∷ args) zero h = refl
numbers_are_small vs (Numbers ns ∷ args) zero h = first_readable vs (Numbers ns) args h
numbers_are_small vs (Members m ∷ args) zero h = refl
numbers_are_small vs (a ∷ args) (suc k) h = numbers_are_small vs args k (rest_readable vs a args h)

pub set_is_valid : (vs : List ℤ) (args : List Argument) (k : ℕ) (s : Set) → are_readable vs args ≡ true → set_at args k ≡ Some s → is_set s ≡ true
set_is_valid vs [] zero s h e = cc
set_is_valid vs [] (suc k) s h e = cc
set_is_valid vs (One a ∷ args) zero s h e = cc
set_is_valid vs (Many xs ∷ args) zero s h e = cc
set_is_valid vs (Numbers ns ∷ args) zero s h e = cc
set_is_valid vs (Members m ∷ args) zero s h e = subst (λ z. is_set z ≡ true) (same_Some m s e) (first_readable vs (Members m) args h)
set_is_valid vs (a ∷ args) (suc k) s h e = set_is_valid vs args k s (rest_readable vs a args h) e
