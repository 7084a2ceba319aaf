-- The arguments of a constraint can be read with any values within the limit.
use Rattle.std.proofs.Common.{◌≡◌, ℕ, zero, suc, Bool, true, false, ◌&&◌, ◌||◌, List, [], ◌∷◌, map, length, refl, subst, sym, IsTrue, ℤ}
use Rattle.std.specs.Prelude.{nat_le, pos, slice_index_or, slice_get, Some}
use Rattle.std.proofs.lemmas.Option.{same_Some}
use Rattle.std.specs.List.{list_all}
use Rattle.std.specs.Ordering.{int_eq}
use Rattle.std.proofs.lemmas.Bool.Decides.{Decides-int_eq}
use Rattle.std.proofs.lemmas.Bool.{and_from}
use Rattle.qc_model.specs.declared.problem.Arg.{Arg}
use Rattle.qc_model.specs.declared.problem.Arg.TheVariants.{Var, Num}
use Rattle.qc_model.specs.declared.problem.Argument.{Argument}
use Rattle.qc_model.specs.declared.problem.Argument.TheVariants.{One, Many, Numbers, Members}
use Rattle.qc_model.specs.declared.problem.Variable.{Variable}
use Rattle.qc_model.specs.Content.{Rule}
use Rattle.qc_model.specs.Holds.{arg_value}
use Rattle.qc_model.specs.Meaning.{meaning_of}
use Rattle.qc_model.specs.declared.signature.ArgKind.{ArgKind}
use Rattle.qc_model.specs.declared.signature.ArgKind.TheVariants.{Integer as integer, Boolean as boolean, Integers as integers, Booleans as booleans, Numbers as numbers, Truths as truths, Members as members}
use Rattle.qc_model.specs.Signature.{arg_kinds_of}
use Rattle.qc_model.specs.Valid.{is_number, is_truth, is_integer, is_boolean, is_of_sort, are_of_sorts, have_lengths, argument_sees, is_constraint}
use Rattle.qc_model.proofs.Conjunctions.{first, second}
use Rattle.model_evaluation.specs.Evaluation.{item_values, is_readable, are_readable}

value_is_number : (vs : List ℤ) (k : ℕ) → IsTrue (list_all is_number vs) → is_number (slice_index_or vs k (pos 0)) ≡ true
value_is_number [] k h = refl
value_is_number (v ∷ vs) zero h = first (is_number v) (list_all is_number vs) h
value_is_number (v ∷ vs) (suc k) h = value_is_number vs k (second (is_number v) (list_all is_number vs) h)

truth_is_number : (n : ℤ) → is_truth n ≡ true → is_number n ≡ true
truth_is_number n h = cases (int_eq n (pos 0)) (Decides-int_eq n (pos 0)).0 h
  where
    cases : (b : Bool) → (b ≡ true → n ≡ pos 0) → (b || int_eq n (pos 1)) ≡ true → is_number n ≡ true
    cases true zero_if k = subst (λ m. is_number m ≡ true) (sym (zero_if refl)) refl
    cases false zero_if k = subst (λ m. is_number m ≡ true) (sym ((Decides-int_eq n (pos 1)).0 k)) refl

integer_is_number : (xs : List Variable) (vs : List ℤ) → IsTrue (list_all is_number vs) → (a : Arg) → is_integer xs a ≡ true → is_number (arg_value vs a) ≡ true
integer_is_number xs vs small (Var x) h = value_is_number vs x.0 small
integer_is_number xs vs small (Num n) h = h

boolean_is_number : (xs : List Variable) (vs : List ℤ) → IsTrue (list_all is_number vs) → (a : Arg) → is_boolean xs a ≡ true → is_number (arg_value vs a) ≡ true
boolean_is_number xs vs small (Var x) h = value_is_number vs x.0 small
boolean_is_number xs vs small (Num n) h = truth_is_number n h

all_along : {X Y : Type 0} (p : X → Bool) (q : Y → Bool) (f : X → Y) → ((x : X) → p x ≡ true → q (f x) ≡ true) → (xs : List X) → list_all p xs ≡ true → list_all q (map f xs) ≡ true
all_along p q f step [] h = refl
all_along p q f step (x ∷ xs) h =
    and_from (q (f x)) (list_all q (map f xs)) (step x (first (p x) (list_all p xs) h)) (all_along p q f step xs (second (p x) (list_all p xs) h))

all_weaker : {X : Type 0} (p q : X → Bool) → ((x : X) → p x ≡ true → q x ≡ true) → (xs : List X) → list_all p xs ≡ true → list_all q xs ≡ true
all_weaker p q step [] h = refl
all_weaker p q step (x ∷ xs) h =
    and_from (q x) (list_all q xs) (step x (first (p x) (list_all p xs) h)) (all_weaker p q step xs (second (p x) (list_all p xs) h))

items_readable : (vs : List ℤ) (p : Arg → Bool) → ((a : Arg) → p a ≡ true → is_number (arg_value vs a) ≡ true) → (items : List Arg) → (nat_le (length items) 1000 && list_all p items) ≡ true → is_readable vs (Many (items)) ≡ true
items_readable vs p step items h =
    and_from (nat_le (length items) 1000) (list_all is_number (item_values vs items))
    (first (nat_le (length items) 1000) (list_all p items) h)
    (all_along p is_number (arg_value vs) step items (second (nat_le (length items) 1000) (list_all p items) h))

argument_readable : (xs : List Variable) (vs : List ℤ) → IsTrue (list_all is_number vs) → (s : ArgKind) (a : Argument) → is_of_sort xs s a ≡ true → is_readable vs a ≡ true
argument_readable xs vs small integer (One a) h = integer_is_number xs vs small a h
argument_readable xs vs small boolean (One a) h = boolean_is_number xs vs small a h
argument_readable xs vs small integers (One a) h = cc
argument_readable xs vs small booleans (One a) h = cc
argument_readable xs vs small numbers (One a) h = cc
argument_readable xs vs small truths (One a) h = cc
argument_readable xs vs small members (One a) h = cc
argument_readable xs vs small integers (Many items) h = items_readable vs (is_integer xs) (integer_is_number xs vs small) items h
argument_readable xs vs small booleans (Many items) h = items_readable vs (is_boolean xs) (boolean_is_number xs vs small) items h
argument_readable xs vs small integer (Many items) h = cc
argument_readable xs vs small boolean (Many items) h = cc
argument_readable xs vs small numbers (Many items) h = cc
argument_readable xs vs small truths (Many items) h = cc
argument_readable xs vs small members (Many items) h = cc
argument_readable xs vs small numbers (Numbers ns) h = second (nat_le (length ns) 100000) (list_all is_number ns) h
argument_readable xs vs small truths (Numbers ns) h = all_weaker is_truth is_number truth_is_number ns (second (nat_le (length ns) 100000) (list_all is_truth ns) h)
argument_readable xs vs small integer (Numbers ns) h = cc
argument_readable xs vs small boolean (Numbers ns) h = cc
argument_readable xs vs small integers (Numbers ns) h = cc
argument_readable xs vs small booleans (Numbers ns) h = cc
argument_readable xs vs small members (Numbers ns) h = cc
argument_readable xs vs small members (Members m) h = h
argument_readable xs vs small integer (Members m) h = cc
argument_readable xs vs small boolean (Members m) h = cc
argument_readable xs vs small integers (Members m) h = cc
argument_readable xs vs small booleans (Members m) h = cc
argument_readable xs vs small numbers (Members m) h = cc
argument_readable xs vs small truths (Members m) h = cc

arguments_readable : (xs : List Variable) (vs : List ℤ) → IsTrue (list_all is_number vs) → (sorts : List ArgKind) (args : List Argument) → are_of_sorts xs sorts args ≡ true → are_readable vs args ≡ true
arguments_readable xs vs small [] [] h = refl
arguments_readable xs vs small [] (a ∷ args) h = cc
arguments_readable xs vs small (s ∷ sorts) [] h = cc
arguments_readable xs vs small (s ∷ sorts) (a ∷ args) h =
    and_from (is_readable vs a) (are_readable vs args)
    (argument_readable xs vs small s a (first (is_of_sort xs s a) (are_of_sorts xs sorts args) h))
    (arguments_readable xs vs small sorts args (second (is_of_sort xs s a) (are_of_sorts xs sorts args) h))

pub constraint_readable : (xs : List Variable) (c : Rule) (vs : List ℤ) → IsTrue (is_constraint xs c) → IsTrue (list_all is_number vs) → IsTrue (are_readable vs c.args)
constraint_readable xs c vs h small =
    let sorted = are_of_sorts xs (arg_kinds_of c.pred) c.args in
    let lengths = have_lengths (meaning_of c.pred) c.args in
    arguments_readable xs vs small (arg_kinds_of c.pred) c.args (first sorted lengths (first (sorted && lengths) (list_all (argument_sees xs c.owner.0) c.args) h))

-- each member of a list whose members pass a test
pub passes_at : {X : Type 0} (p : X → Bool) (xs : List X) (k : ℕ) (x : X) → list_all p xs ≡ true → slice_get xs k ≡ Some x → p x ≡ true
passes_at p [] zero x h e = cc
passes_at p [] (suc k) x h e = cc
passes_at p (y ∷ xs) zero x h e = subst (λ z. p z ≡ true) (same_Some y x e) (first (p y) (list_all p xs) h)
passes_at p (y ∷ xs) (suc k) x h e = passes_at p xs k x (second (p y) (list_all p xs) h) e
