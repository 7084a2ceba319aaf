-- How balances change with one value, and that they are small.
use Rattle.std.proofs.Common.{◌≡◌, ℕ, zero, suc, ◌==◌, ◌*◌, ◌^◌, ◌<◌, ◌≤◌, Bool, true, false, cond, List, [], ◌∷◌, length, map, set, refl, sym, ap, ◌∙◌, subst, arith, ℤ}
use Rattle.std.specs.Prelude.{pos, ◌+ℤ◌, ◌-ℤ◌, ◌*ℤ◌, slice_index_or, unsigned_abs}
use Rattle.std.specs.List.{list_all}
use Rattle.std.proofs.lemmas.Int.{ints}
use Rattle.std.proofs.lemmas.Bool.{leb-true, eqb-true}
use Rattle.std.proofs.lemmas.Bool.Decides.{nat_tests}
use Rattle.std.proofs.lemmas.List.{get_or-set_same, get_or-set_other}
use Rattle.qc_model.specs.declared.problem.Arg.{Arg}
use Rattle.qc_model.specs.declared.problem.Arg.TheVariants.{Var, Num}
use Rattle.qc_model.specs.declared.problem.Variable.{Variable}
use Rattle.qc_model.specs.Content.{Rule}
use Rattle.qc_model.specs.Arguments.{fill}
use Rattle.qc_model.specs.Holds.{sum_of_products, arg_value}
use Rattle.qc_model.specs.Valid.{is_number, is_constraint}
use Rattle.qc_model.proofs.Conjunctions.{first, second}
use Rattle.model_arguments.specs.Written.{args_at, ints_at}
use Rattle.model_evaluation.proofs.Items.{small_product, abs_sum}
use Rattle.check_assignment.specs.declared.test.Test.{Test}
use Rattle.check_assignment.specs.declared.test.Test.TheVariants.{Equal, Different, AtMost, Other}
use Rattle.check_assignment.specs.Balance.{balance_of, balance, test_of, total_of, factor_of, slope, slope_of}
use Rattle.check_assignment.proofs.Products.{times_moved}
use Rattle.check_assignment.proofs.TermSums.{plus_times}
use Rattle.check_assignment.proofs.Shape.{is_number_item, SumShape, sum_shape}

-- the sum less the number, and what it grows by, by the parts of the shape
pub balance_is : (vs : List ℤ) (c : Rule) (s : SumShape c) → balance vs c ≡ sum_of_products s.factors (map (arg_value vs) s.items) -ℤ s.number
balance_is vs c s = ap (λ args. balance_of (map (fill (arg_value vs)) args)) s.args

slope_is : (x : ℕ) (c : Rule) (s : SumShape c) → slope x (ints_at c.args 0) (args_at c.args 1) ≡ slope x s.factors s.items
slope_is x c s = ap (λ args. slope x (ints_at args 0) (args_at args 1)) s.args

still : (d : ℤ) → pos 0 ≡ pos 0 +ℤ (pos 0 *ℤ d)
still d = omega (arith, ints)

module _ (vs : List ℤ) (x : ℕ) (u : ℤ) (l : x < length vs) where
  item_set : (f : ℤ) (a : Arg) → f *ℤ arg_value (set vs x u) a ≡ (f *ℤ arg_value vs a) +ℤ (factor_of x f a *ℤ (u -ℤ slice_index_or vs x (pos 0)))
  item_set f (Num n) = omega (arith, ints)
  item_set f (Var y) = by (y.0 == x) refl
    where
      here : (w v : ℤ) → w ≡ u → f *ℤ w ≡ (f *ℤ v) +ℤ (f *ℤ (u -ℤ v))
      here w v e = ap (λ z. f *ℤ z) e ∙ times_moved f u v

      there : (w v d : ℤ) → w ≡ v → f *ℤ w ≡ (f *ℤ v) +ℤ (pos 0 *ℤ d)
      there w v d e = ap (λ z. f *ℤ z) e ∙ (let r : f *ℤ v ≡ (f *ℤ v) +ℤ (pos 0 *ℤ d) = omega (arith, ints) in r)

      by : (b : Bool) → (y.0 == x) ≡ b → f *ℤ slice_index_or (set vs x u) y.0 (pos 0) ≡ (f *ℤ slice_index_or vs y.0 (pos 0)) +ℤ (cond b f (pos 0) *ℤ (u -ℤ slice_index_or vs x (pos 0)))
      by true e =
          subst (λ k. f *ℤ slice_index_or (set vs x u) k (pos 0) ≡ (f *ℤ slice_index_or vs k (pos 0)) +ℤ (f *ℤ (u -ℤ slice_index_or vs x (pos 0)))) (sym (eqb-true y.0 x e))
          (here (slice_index_or (set vs x u) x (pos 0)) (slice_index_or vs x (pos 0)) (get_or-set_same vs x u (pos 0) l))
      by false e = there (slice_index_or (set vs x u) y.0 (pos 0)) (slice_index_or vs y.0 (pos 0)) (u -ℤ slice_index_or vs x (pos 0)) (get_or-set_other vs x y.0 u (pos 0) (grind (arith, nat_tests)))

  sum_set : (fs : List ℤ) (items : List Arg) → sum_of_products fs (map (arg_value (set vs x u)) items) ≡ sum_of_products fs (map (arg_value vs) items) +ℤ (slope x fs items *ℤ (u -ℤ slice_index_or vs x (pos 0)))
  sum_set [] items = still (u -ℤ slice_index_or vs x (pos 0))
  sum_set (f ∷ fs) [] = still (u -ℤ slice_index_or vs x (pos 0))
  sum_set (f ∷ fs) (a ∷ items) =
      joined (f *ℤ arg_value (set vs x u) a) (f *ℤ arg_value vs a) (sum_of_products fs (map (arg_value (set vs x u)) items)) (sum_of_products fs (map (arg_value vs) items)) (factor_of x f a) (slope x fs items) (u -ℤ slice_index_or vs x (pos 0))
      (item_set f a) (sum_set fs items)
    where
      joined : (p q s t a b d : ℤ) → p ≡ q +ℤ (a *ℤ d) → s ≡ t +ℤ (b *ℤ d) → p +ℤ s ≡ (q +ℤ t) +ℤ ((a +ℤ b) *ℤ d)
      joined p q s t a b d e h = regroup p q s t (a *ℤ d) (b *ℤ d) ((a +ℤ b) *ℤ d) e h (plus_times a b d)
        where
          regroup : (p q s t v w r : ℤ) → p ≡ q +ℤ v → s ≡ t +ℤ w → r ≡ v +ℤ w → p +ℤ s ≡ (q +ℤ t) +ℤ r
          regroup p q s t v w r e h k = omega (arith, ints, e, h, k)

pub balance_set : (vs : List ℤ) (x : ℕ) (u : ℤ) (c : Rule) → SumShape c → x < length vs → balance (set vs x u) c ≡ balance vs c +ℤ (slope x (ints_at c.args 0) (args_at c.args 1) *ℤ (u -ℤ slice_index_or vs x (pos 0)))
balance_set vs x u c s l =
    let d = u -ℤ slice_index_or vs x (pos 0) in
    let t = sum_of_products s.factors (map (arg_value vs) s.items) in
    balance_is (set vs x u) c s
    ∙ (ap (λ z. z -ℤ s.number) (sum_set vs x u l s.factors s.items)
    ∙ (less t (slope x s.factors s.items *ℤ d) s.number
    ∙ (ap (λ z. z +ℤ (slope x s.factors s.items *ℤ d)) (sym (balance_is vs c s))
    ∙ ap (λ z. balance vs c +ℤ (z *ℤ d)) (sym (slope_is x c s)))))
  where
    less : (a b n : ℤ) → (a +ℤ b) -ℤ n ≡ (a -ℤ n) +ℤ b
    less a b n = omega (arith, ints)

pub total_set : (vs : List ℤ) (x : ℕ) (u : ℤ) (xs : List Variable) (c : Rule) → is_constraint xs c ≡ true → x < length vs → total_of (test_of c) (set vs x u) c ≡ total_of (test_of c) vs c +ℤ (slope_of (test_of c) x c *ℤ (u -ℤ slice_index_or vs x (pos 0)))
total_set vs x u xs c h l = by (test_of c) refl
  where
    by : (t : Test) → test_of c ≡ t → total_of t (set vs x u) c ≡ total_of t vs c +ℤ (slope_of t x c *ℤ (u -ℤ slice_index_or vs x (pos 0)))
    by Equal e = balance_set vs x u c (sum_shape xs c h (λ o. cc)) l
    by Different e = balance_set vs x u c (sum_shape xs c h (λ o. cc)) l
    by AtMost e = balance_set vs x u c (sum_shape xs c h (λ o. cc)) l
    by Other e = still (u -ℤ slice_index_or vs x (pos 0))

value_small : (vs : List ℤ) (k : ℕ) → list_all is_number vs ≡ true → unsigned_abs (slice_index_or vs k (pos 0)) ≤ 1000000000
value_small [] k h = omega arith
value_small (v ∷ vs) zero h = leb-true (unsigned_abs v) 1000000000 (first (is_number v) (list_all is_number vs) h)
value_small (v ∷ vs) (suc k) h = value_small vs k (second (is_number v) (list_all is_number vs) h)

item_small : (vs : List ℤ) (a : Arg) → list_all is_number vs ≡ true → is_number_item a ≡ true → unsigned_abs (arg_value vs a) ≤ 1000000000
item_small vs (Var x) h n = value_small vs x.0 h
item_small vs (Num m) h n = leb-true (unsigned_abs m) 1000000000 n

sum_small : (vs : List ℤ) → list_all is_number vs ≡ true → (fs : List ℤ) (items : List Arg) → list_all is_number fs ≡ true → list_all is_number_item items ≡ true → unsigned_abs (sum_of_products fs (map (arg_value vs) items)) ≤ length items * 10 ^ 18
sum_small vs h [] items s n = omega arith
sum_small vs h (f ∷ fs) [] s n = omega arith
sum_small vs h (f ∷ fs) (a ∷ items) s n =
    let rest = sum_small vs h fs items (second (is_number f) (list_all is_number fs) s) (second (is_number_item a) (list_all is_number_item items) n) in
    let here = small_product f (arg_value vs a) (leb-true (unsigned_abs f) 1000000000 (first (is_number f) (list_all is_number fs) s)) (item_small vs a h (first (is_number_item a) (list_all is_number_item items) n)) in
    omega (arith, abs_sum (f *ℤ arg_value vs a) (sum_of_products fs (map (arg_value vs) items)), here, rest)

balance_small : (vs : List ℤ) (c : Rule) → SumShape c → list_all is_number vs ≡ true → unsigned_abs (balance vs c) ≤ 10 ^ 22
balance_small vs c s h =
    subst (λ z. unsigned_abs z ≤ 10 ^ 22) (sym (balance_is vs c s))
    (near (sum_of_products s.factors (map (arg_value vs) s.items)) s.number (length s.items) s.few (sum_small vs h s.factors s.items s.numbers s.literals) (leb-true (unsigned_abs s.number) 1000000000 s.small))
  where
    near : (t n : ℤ) (k : ℕ) → k ≤ 1000 → unsigned_abs t ≤ k * 10 ^ 18 → unsigned_abs n ≤ 1000000000 → unsigned_abs (t -ℤ n) ≤ 10 ^ 22
    near t n k f p q = omega (arith, ints, f, p, q)

pub total_small : (vs : List ℤ) (xs : List Variable) (c : Rule) → is_constraint xs c ≡ true → list_all is_number vs ≡ true → unsigned_abs (total_of (test_of c) vs c) ≤ 10 ^ 22
total_small vs xs c h n = by (test_of c) refl
  where
    by : (t : Test) → test_of c ≡ t → unsigned_abs (total_of t vs c) ≤ 10 ^ 22
    by Equal e = balance_small vs c (sum_shape xs c h (λ o. cc)) n
    by Different e = balance_small vs c (sum_shape xs c h (λ o. cc)) n
    by AtMost e = balance_small vs c (sum_shape xs c h (λ o. cc)) n
    by Other e = omega arith
