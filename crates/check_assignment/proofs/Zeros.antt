-- Balances where each variable is 0.
use Rattle.std.proofs.Common.{◌≡◌, ℕ, zero, suc, ◌≤◌, ◌<◌, ◌+◌, ◌*◌, ◌^◌, true, List, [], ◌∷◌, length, map, drop, get_or, replicate, refl, sym, ap, ◌∙◌, subst, arith, ℤ}
use Rattle.std.specs.Prelude.{min, pos, ◌+ℤ◌, ◌-ℤ◌, ◌*ℤ◌, unsigned_abs, slice_index_or}
use Rattle.std.proofs.lemmas.Bool.{leb-true, and_from}
use Rattle.std.proofs.lemmas.Int.{ints}
use Rattle.std.proofs.lemmas.List.{drop_more, drop_all}
use Rattle.std.specs.List.{list_all}
use Rattle.qc_model.specs.declared.problem.Arg.{Arg}
use Rattle.qc_model.specs.declared.problem.Arg.TheVariants.{Var, Num}
use Rattle.qc_model.specs.Arguments.{fill}
use Rattle.qc_model.specs.Content.{Rule}
use Rattle.qc_model.specs.Holds.{arg_value, sum_of_products, value_at, values_at}
use Rattle.qc_model.specs.Valid.{is_number}
use Rattle.qc_model.proofs.Readable.{first, second}
use Rattle.model_arguments.specs.Written.{arg_at, args_at, ints_at}
use Rattle.model_arguments.proofs.Written.{one_fill, many_fill, numbers_fill}
use Rattle.model_evaluation.proofs.Items.{small_product, abs_sum}
use Rattle.check_assignment.specs.declared.test.Test.{Test}
use Rattle.check_assignment.specs.declared.test.Test.TheVariants.{Equal, Different, AtMost, Other}
use Rattle.check_assignment.specs.Balance.{balance, total_of}
use Rattle.check_assignment.proofs.Shape.{is_number_item}

-- a balance by the parts that it is made of
pub balance_parts : (vs : List ℤ) (c : Rule) → balance vs c ≡ sum_of_products (ints_at c.args 0) (map (arg_value vs) (args_at c.args 1)) -ℤ arg_value vs (arg_at c.args 2)
balance_parts vs c =
    let given = map (fill (arg_value vs)) c.args in
    ap (λ ns. sum_of_products ns (values_at given 1) -ℤ value_at given 2) (numbers_fill (arg_value vs) c.args 0)
    ∙ ap (λ xs. sum_of_products (ints_at c.args 0) xs -ℤ value_at given 2) (many_fill (arg_value vs) c.args 1)
    ∙ ap (λ z. sum_of_products (ints_at c.args 0) (map (arg_value vs) (args_at c.args 1)) -ℤ z) (one_fill (arg_value vs) c.args 2)

-- no value and the value 0 come to the same
zero_at : (n x : ℕ) → slice_index_or (replicate n (pos 0)) x (pos 0) ≡ pos 0
zero_at zero x = refl
zero_at (suc n) zero = refl
zero_at (suc n) (suc x) = zero_at n x

zero_value : (n : ℕ) (a : Arg) → arg_value [] a ≡ arg_value (replicate n (pos 0)) a
zero_value n (Var x) = sym (zero_at n x.0)
zero_value n (Num m) = refl

zero_values : (n : ℕ) (items : List Arg) → map (arg_value []) items ≡ map (arg_value (replicate n (pos 0))) items
zero_values n [] = refl
zero_values n (a ∷ items) = ap (λ z. z ∷ map (arg_value []) items) (zero_value n a) ∙ ap (λ zs. arg_value (replicate n (pos 0)) a ∷ zs) (zero_values n items)

balance_zeros : (n : ℕ) (c : Rule) → balance [] c ≡ balance (replicate n (pos 0)) c
balance_zeros n c =
    balance_parts [] c
    ∙ ap (λ xs. sum_of_products (ints_at c.args 0) xs -ℤ arg_value [] (arg_at c.args 2)) (zero_values n (args_at c.args 1))
    ∙ ap (λ z. sum_of_products (ints_at c.args 0) (map (arg_value (replicate n (pos 0))) (args_at c.args 1)) -ℤ z) (zero_value n (arg_at c.args 2))
    ∙ sym (balance_parts (replicate n (pos 0)) c)

pub total_zeros : (t : Test) (n : ℕ) (c : Rule) → total_of t [] c ≡ total_of t (replicate n (pos 0)) c
total_zeros Equal n c = balance_zeros n c
total_zeros Different n c = balance_zeros n c
total_zeros AtMost n c = balance_zeros n c
total_zeros Other n c = refl

-- what is left of a sum, from the item at k on
pub product_next : (k : ℕ) (fs : List ℤ) (items : List Arg) (f : ℤ) (a : Arg) → k < length fs → k < length items →
    sum_of_products (drop k fs) (map (arg_value []) (drop k items)) ≡ (get_or fs k f *ℤ arg_value [] (get_or items k a)) +ℤ sum_of_products (drop (k + 1) fs) (map (arg_value []) (drop (k + 1) items))
product_next k fs items f a l m =
    ap (λ zs. sum_of_products zs (map (arg_value []) (drop k items))) (drop_more fs k f l)
    ∙ ap (λ zs. sum_of_products (get_or fs k f ∷ drop (k + 1) fs) (map (arg_value []) zs)) (drop_more items k a m)

no_values : (fs : List ℤ) → sum_of_products fs [] ≡ pos 0
no_values [] = refl
no_values (f ∷ fs) = refl

pub product_past : (k : ℕ) (fs : List ℤ) (items : List Arg) → min (length fs) (length items) ≤ k → sum_of_products (drop k fs) (map (arg_value []) (drop k items)) ≡ pos 0
product_past k [] items h = ap (λ zs. sum_of_products zs (map (arg_value []) (drop k items))) (drop_all {X = ℤ} k [] (omega arith))
product_past k (f ∷ fs) [] h = ap (λ zs. sum_of_products (drop k (f ∷ fs)) (map (arg_value []) zs)) (drop_all {X = Arg} k [] (omega arith)) ∙ no_values (drop k (f ∷ fs))
product_past zero (f ∷ fs) (a ∷ items) h = absurd (omega arith)
product_past (suc k) (f ∷ fs) (a ∷ items) h = product_past k fs items (omega arith)

-- numbers within the limit
pub number_at : (ns : List ℤ) (k : ℕ) (d : ℤ) → list_all is_number ns ≡ true → k < length ns → unsigned_abs (get_or ns k d) ≤ 1000000000
number_at [] k d h l = absurd (omega arith)
number_at (n ∷ ns) zero d h l = leb-true (unsigned_abs n) 1000000000 (first (is_number n) (list_all is_number ns) h)
number_at (n ∷ ns) (suc k) d h l = number_at ns k d (second (is_number n) (list_all is_number ns) h) (omega arith)

pub value_at_small : (items : List Arg) (k : ℕ) (d : Arg) → list_all is_number (map (arg_value []) items) ≡ true → k < length items → unsigned_abs (arg_value [] (get_or items k d)) ≤ 1000000000
value_at_small [] k d h l = absurd (omega arith)
value_at_small (a ∷ items) zero d h l = leb-true (unsigned_abs (arg_value [] a)) 1000000000 (first (is_number (arg_value [] a)) (list_all is_number (map (arg_value []) items)) h)
value_at_small (a ∷ items) (suc k) d h l = value_at_small items k d (second (is_number (arg_value [] a)) (list_all is_number (map (arg_value []) items)) h) (omega arith)

pub values_small : (items : List Arg) → list_all is_number_item items ≡ true → list_all is_number (map (arg_value []) items) ≡ true
values_small [] h = refl
values_small (Var x ∷ items) h = values_small items h
values_small (Num n ∷ items) h = and_from (is_number n) (list_all is_number (map (arg_value []) items)) (first (is_number n) (list_all is_number_item items) h) (values_small items (second (is_number n) (list_all is_number_item items) h))

-- one product more
pub sum_more : (total next f v rest left all : ℤ) → next ≡ total +ℤ (f *ℤ v) → left ≡ (f *ℤ v) +ℤ rest → total +ℤ left ≡ all → next +ℤ rest ≡ all
sum_more total next f v rest left all e g h = grouped (f *ℤ v) e g
  where
    grouped : (p : ℤ) → next ≡ total +ℤ p → left ≡ p +ℤ rest → next +ℤ rest ≡ all
    grouped p e g = omega (arith, ints, e, g, h)

pub small_more : (total next f v : ℤ) (k : ℕ) → next ≡ total +ℤ (f *ℤ v) → unsigned_abs f ≤ 1000000000 → unsigned_abs v ≤ 1000000000 → unsigned_abs total ≤ k * 10 ^ 18 → unsigned_abs next ≤ (k + 1) * 10 ^ 18
small_more total next f v k e a b h =
    let s = abs_sum total (f *ℤ v) in
    let p = small_product f v a b in
    subst (λ z. unsigned_abs z ≤ (k + 1) * 10 ^ 18) (sym e) (omega (arith, s, p, h))

-- a sum less its number is the total of a constraint that is tested by its balance
pub total_first : (t : Test) (c : Rule) (a b z : ℤ) → (t ≡ Other → ⊥) → a ≡ sum_of_products (ints_at c.args 0) (map (arg_value []) (args_at c.args 1)) → b ≡ arg_value [] (arg_at c.args 2) → z ≡ a -ℤ b → z ≡ total_of t [] c
total_first t c a b z n e f g = at t n
  where
    parts : z ≡ balance [] c
    parts = g ∙ ap (λ x. x -ℤ b) e ∙ ap (λ x. sum_of_products (ints_at c.args 0) (map (arg_value []) (args_at c.args 1)) -ℤ x) f ∙ sym (balance_parts [] c)

    at : (s : Test) → (s ≡ Other → ⊥) → z ≡ total_of s [] c
    at Equal m = parts
    at Different m = parts
    at AtMost m = parts
    at Other m = absurd (m refl)
