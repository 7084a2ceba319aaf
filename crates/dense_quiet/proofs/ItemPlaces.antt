-- An array of variables, an item of which is a number at a place.
use Rattle.std.proofs.Common.{◌≡◌, inl, inr, ℕ, zero, suc, ◌<◌, ◌+◌, ◌-◌, ◌==◌, ◌++◌, Bool, true, false, not, ◌&&◌, List, [], ◌∷◌, map, get_or, length, refl, sym, subst, arith, ℤ, cond}
use Rattle.std.specs.Prelude.{pos, ◌+ℤ◌, int_lt, unsigned_abs, Some, None, slice_get, flat_map}
use Rattle.std.specs.List.{list_any}
use Rattle.std.proofs.lemmas.Bool.Decides.{nat_tests}
use Rattle.std.proofs.lemmas.Int.{ints}
use Rattle.std.proofs.lemmas.Option.{same_Some}
use Rattle.std.proofs.lemmas.Bool.{or_left, or_right, or_parts, not_from_false, false_from_ne_true, or_cases, and_from}
use Rattle.qc_model.specs.declared.problem.Arg.{Arg}
use Rattle.qc_model.specs.declared.problem.Arg.TheVariants.{Var, Num}
use Rattle.qc_model.specs.declared.problem.Argument.{Argument}
use Rattle.qc_model.specs.declared.problem.Argument.TheVariants.{One, Many, Numbers, Members}
use Rattle.qc_model.specs.Arguments.{arg_variables, argument_variables, variables_of}
use Rattle.qc_model.specs.Domains.{Values, Box, has_value, misses}
use Rattle.qc_model.specs.Left.{some_item_meets}
use Rattle.qc_model.specs.Lists.{Among, Distinct}
use Rattle.qc_model.specs.Refuted.{left_to}
use Rattle.qc_model.proofs.Readable.{first, second}
use Rattle.model_arguments.specs.Repeats.{is_variable, same_variable}
use Rattle.model_arguments.specs.Written.{arg_at, args_at}
use Rattle.model_arguments.proofs.Values.{has_first}
use Rattle.dense_quiet.specs.Quiet.{item_at}
use Rattle.dense_quiet.proofs.OneEnd.{among_right, distinct_right}
use Rattle.dense_quiet.proofs.Places.{nothing_more, further}
use Rattle.dense_quiet.proofs.Shared.{in_both}
use Rattle.dense_quiet.proofs.Sums.{equal_numbers}

-- the variables of the argument at a place
abbrev variables_at : List Argument → ℕ → List ℕ
variables_at [] i = []
variables_at (a ∷ args) zero = argument_variables a
variables_at (a ∷ args) (suc i) = variables_at args i

among_left : (x : ℕ) (xs ys : List ℕ) → Among x xs → Among x (xs ++ ys)
among_left x [] ys m = absurd m
among_left x (y ∷ xs) ys (inl e) = inl e
among_left x (y ∷ xs) ys (inr m) = inr (among_left x xs ys m)

among_all : (args : List Argument) (i x : ℕ) → Among x (variables_at args i) → Among x (variables_of args)
among_all [] i x m = absurd m
among_all (a ∷ args) zero x m = among_left x (argument_variables a) (variables_of args) m
among_all (a ∷ args) (suc i) x m = among_right x (argument_variables a) (variables_of args) (among_all args i x m)

in_one : (x : ℕ) (xs ys : List ℕ) → Distinct (xs ++ ys) → Among x xs → Among x ys → ⊥
in_one x [] ys d m n = m
in_one x (y ∷ xs) ys d (inl e) n = d.0 (among_right y xs ys (subst (λ z. Among z ys) e n))
in_one x (y ∷ xs) ys d (inr m) n = in_one x xs ys d.1 m n

at_one : (args : List Argument) (i j x : ℕ) → i < j → Distinct (variables_of args) → Among x (variables_at args i) → Among x (variables_at args j) → ⊥
at_one args i zero x l d m n = absurd (omega arith)
at_one [] zero (suc j) x l d m n = m
at_one [] (suc i) (suc j) x l d m n = m
at_one (a ∷ args) zero (suc j) x l d m n = in_one x (argument_variables a) (variables_of args) d m (among_all args j x n)
at_one (a ∷ args) (suc i) (suc j) x l d m n = at_one args i j x (omega arith) (distinct_right (argument_variables a) (variables_of args) d) m n

arg_there : (args : List Argument) (i x : ℕ) → is_variable (arg_at args i) x ≡ true → Among x (variables_at args i)
arg_there [] zero x h = cc
arg_there [] (suc i) x h = cc
arg_there (One (Var y) ∷ args) zero x h = inl (sym (equal_numbers y.0 x h))
arg_there (One (Num n) ∷ args) zero x h = cc
arg_there (Many xs ∷ args) zero x h = cc
arg_there (Numbers ns ∷ args) zero x h = cc
arg_there (Members s ∷ args) zero x h = cc
arg_there (a ∷ args) (suc i) x h = arg_there args i x h

item_there : (xs : List Arg) (x : ℕ) → list_any (λ a. is_variable a x) xs ≡ true → Among x (flat_map arg_variables xs)
item_there [] x h = cc
item_there (Num n ∷ xs) x h = item_there xs x h
item_there (Var y ∷ xs) x h = elim (or_cases (is_variable (Var y) x) (list_any (λ a. is_variable a x) xs) h) [ inl e ↦ inl (sym (equal_numbers y.0 x e)) | inr m ↦ inr (item_there xs x m) ]

items_there : (args : List Argument) (i x : ℕ) → list_any (λ a. is_variable a x) (args_at args i) ≡ true → Among x (variables_at args i)
items_there [] zero x h = cc
items_there [] (suc i) x h = cc
items_there (One a ∷ args) zero x h = cc
items_there (Many xs ∷ args) zero x h = item_there xs x h
items_there (Numbers ns ∷ args) zero x h = cc
items_there (Members s ∷ args) zero x h = cc
items_there (a ∷ args) (suc i) x h = items_there args i x h

-- a variable that is an argument is no item of a later array, and of no earlier one
pub none_later : (args : List Argument) (i j x : ℕ) → i < j → Distinct (variables_of args) → is_variable (arg_at args i) x ≡ true → list_any (λ a. is_variable a x) (args_at args j) ≡ false
none_later args i j x l d h = false_from_ne_true (list_any (λ a. is_variable a x) (args_at args j)) (λ k. at_one args i j x l d (arg_there args i x h) (items_there args j x k))

pub none_earlier : (args : List Argument) (i j x : ℕ) → i < j → Distinct (variables_of args) → is_variable (arg_at args j) x ≡ true → list_any (λ a. is_variable a x) (args_at args i) ≡ false
none_earlier args i j x l d h = false_from_ne_true (list_any (λ a. is_variable a x) (args_at args i)) (λ k. at_one args i j x l d (items_there args i x k) (arg_there args j x h))

pub none_got : (p : Arg → Bool) (xs : List Arg) (k : ℕ) (a : Arg) → slice_get xs k ≡ Some a → list_any p xs ≡ false → p a ≡ false
none_got p [] zero a e h = cc
none_got p [] (suc k) a e h = cc
none_got p (x ∷ xs) zero a e h = subst (λ z. p z ≡ false) (same_Some x a e) (or_parts (p x) (list_any p xs) h).0
none_got p (x ∷ xs) (suc k) a e h = none_got p xs k a e (or_parts (p x) (list_any p xs) h).1

-- an item that has a value in common with c, at a place that is left
meets_in : (i : ℤ) (b c : Values) (f : Arg → Values) (xs : List Arg) (k : ℕ) (a : Arg) → slice_get xs k ≡ Some a → has_value b (i +ℤ pos k) ≡ true → misses (f a) c ≡ false → some_item_meets i b (map f xs) c ≡ true
meets_in i b c f [] zero a e h m = cc
meets_in i b c f [] (suc k) a e h m = cc
meets_in i b c f (x ∷ xs) zero a e h m =
    or_left (has_value b i && not (misses (f x) c)) (some_item_meets (i +ℤ pos 1) b (map f xs) c)
    (and_from (has_value b i) (not (misses (f x) c)) (subst (λ z. has_value b z ≡ true) (nothing_more i) h) (not_from_false (misses (f x) c) (subst (λ z. misses (f z) c ≡ false) (sym (same_Some x a e)) m)))
meets_in i b c f (x ∷ xs) (suc k) a e h m =
    or_right (has_value b i && not (misses (f x) c)) (some_item_meets (i +ℤ pos 1) b (map f xs) c)
    (meets_in (i +ℤ pos 1) b c f xs k a e (subst (λ z. has_value b z ≡ true) (further i k) h) m)

-- place k, counted from 0
pub meets_at : (b c : Values) (f : Arg → Values) (xs : List Arg) (k : ℕ) (a : Arg) → slice_get xs k ≡ Some a → has_value b (pos (k + 1)) ≡ true → misses (f a) c ≡ false → some_item_meets (pos 1) b (map f xs) c ≡ true
meets_at b c f xs k a e h m = meets_in (pos 1) b c f xs k a e (subst (λ z. has_value b z ≡ true) (from_one k) h) m
  where
    from_one : (k : ℕ) → pos (k + 1) ≡ pos 1 +ℤ pos k
    from_one k = omega (arith, ints)

-- the same of a place that is counted from 1
got_item : (xs : List Arg) (p : ℤ) (a : Arg) → item_at xs p ≡ Some a → (int_lt p (pos 1) ≡ false) × (slice_get xs (unsigned_abs p - 1) ≡ Some a)
got_item xs p a e = by (int_lt p (pos 1)) refl e
  where
    by : (t : Bool) → int_lt p (pos 1) ≡ t → cond t None (slice_get xs (unsigned_abs p - 1)) ≡ Some a → (int_lt p (pos 1) ≡ false) × (slice_get xs (unsigned_abs p - 1) ≡ Some a)
    by true h k = cc
    by false h k = (h, k)

pub meets_item : (b c : Values) (f : Arg → Values) (xs : List Arg) (p : ℤ) (a : Arg) → item_at xs p ≡ Some a → has_value b p ≡ true → misses (f a) c ≡ false → some_item_meets (pos 1) b (map f xs) c ≡ true
meets_item b c f xs p a e h m =
    let g = got_item xs p a e in
    meets_at b c f xs (unsigned_abs p - 1) a g.1 (subst (λ z. has_value b z ≡ true) (sym (back p g.0)) h) m
  where
    back : (p : ℤ) → int_lt p (pos 1) ≡ false → pos ((unsigned_abs p - 1) + 1) ≡ p
    back p o = grind (arith, ints)

pub held_at : (box : Box) (b : Values) (xs : List Arg) (k : ℕ) (a : Arg) (v : ℤ) → slice_get xs k ≡ Some a → (has_value (left_to box a) v && has_value b (pos (k + 1))) ≡ true → some_item_meets (pos 1) b (map (left_to box) xs) (v ∷ []) ≡ true
held_at box b xs k a v e h =
    let d = left_to box a in
    meets_at b (v ∷ []) (left_to box) xs k a e (second (has_value d v) (has_value b (pos (k + 1))) h) (in_both d (v ∷ []) v (first (has_value d v) (has_value b (pos (k + 1))) h) (has_first v []))

pub none_item : (f : Arg → Bool) (xs : List Arg) (p : ℤ) (a : Arg) → item_at xs p ≡ Some a → list_any f xs ≡ false → f a ≡ false
none_item f xs p a e h = none_got f xs (unsigned_abs p - 1) a (got_item xs p a e).1 h

pub got_at : (xs : List Arg) (k : ℕ) (a : Arg) → k < length xs → slice_get xs k ≡ Some (get_or xs k a)
got_at [] k a l = absurd (omega arith)
got_at (x ∷ xs) zero a l = refl
got_at (x ∷ xs) (suc k) a l = got_at xs k a (omega arith)

-- an argument that shares no variable with the item
pub no_item : (b a : Arg) → ((x : ℕ) → is_variable b x ≡ true → is_variable a x ≡ false) → same_variable b a ≡ false
no_item (Num n) a f = refl
no_item (Var y) a f = f y.0 (itself y.0)
  where
    itself : (k : ℕ) → (k == k) ≡ true
    itself k = grind (arith, nat_tests)
