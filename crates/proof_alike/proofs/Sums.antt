-- Sums do the same where their known terms come to the same.
use Rattle.std.proofs.Common.{◌≡◌, ℕ, ◌<◌, ◌≤◌, Bool, true, false, not, List, [], ◌∷◌, map, drop, refl, sym, ap, ◌∙◌, subst, arith, ℤ, pos, ◌+ℤ◌, ◌*ℤ◌}
use Rattle.std.specs.Prelude.{slice_get, slice_index_or, int_lt, int_le}
use Rattle.std.specs.Ordering.{int_eq}
use Rattle.std.proofs.lemmas.Int.{ints}
use Rattle.qc_model.specs.declared.problem.Arg.{Arg}
use Rattle.qc_model.specs.declared.problem.Arg.TheVariants.{Var, Num}
use Rattle.qc_model.specs.declared.problem.Argument.{Argument}
use Rattle.qc_model.specs.Arguments.{fill, variables_of, many}
use Rattle.qc_model.specs.Content.{Game, Rule}
use Rattle.qc_model.specs.Domains.{Values, Box, values_left, least_value, greatest_value}
use Rattle.qc_model.specs.Game.{before}
use Rattle.qc_model.specs.Holds.{arg_value, sum_of_products, value_at, holds_as}
use Rattle.qc_model.specs.Left.{span, sum_range, sum_at, left_at}
use Rattle.qc_model.specs.Meaning.{Meaning, meaning_of}
use Rattle.qc_model.specs.Ranges.{Range, range_of, point, is_point, ranges_miss, range_sum, product}
use Rattle.qc_model.specs.Refuted.{left_to, refuted_as}
use Rattle.proof_tree.specs.Place.{position}
use Rattle.proof_alike.specs.Alike.{is_among, is_looked_at, AreAlike}
use Rattle.proof_alike.specs.Reading.{as_sum, reading_of, left_sum, known_sum}
use Rattle.proof_alike.proofs.Arrays.{items_of, numbers_of, many_filled, numbers_same, third_same}
use Rattle.proof_alike.proofs.Boxes.{Varied, SameRule}
use Rattle.proof_alike.proofs.Meanings.{sums_only}
use Rattle.proof_alike.proofs.Positions.{early_value, value_same}
use Rattle.proof_alike.proofs.Starting.{early, one_left}
use Rattle.proof_alike.proofs.Terms.{total, products_total, range_total, balance, cancel, one_product}

pub swapped : (p q : ℤ) → (p +ℤ q) ≡ (q +ℤ p)
swapped p q = omega (arith, ints)

module _ (g : Game) (i : ℕ) (a b : Box) (l : AreAlike g i a b) (u w : Box) (v : Varied g i a b u w) where
  -- the known value of a term before scope i, in each box
  abbrev pub first_known : Arg → ℤ
  first_known x = arg_value (position g i a) x

  abbrev pub second_known : Arg → ℤ
  second_known x = arg_value (position g i b) x

  pub known_same : (x : ℕ) → is_looked_at g i x ≡ true → slice_index_or (position g i a) x (pos 0) ≡ slice_index_or (position g i b) x (pos 0)
  known_same x q = value_same (before g i) x a b (l.same x q)

  -- a variable that isn't looked at has its known value alone
  pub first_left : (x : ℕ) → is_looked_at g i x ≡ false → least_value (values_left u x) ≡ slice_index_or (position g i a) x (pos 0)
  first_left x q = ap least_value (v.first x q) ∙ sym (early_value (before g i) x a (early g i x q))

  pub second_left : (x : ℕ) → is_looked_at g i x ≡ false → least_value (values_left w x) ≡ slice_index_or (position g i b) x (pos 0)
  second_left x q = ap least_value (v.second x q) ∙ sym (early_value (before g i) x b (early g i x q))

  first_term : (n : ℤ) (x : ℕ) → is_looked_at g i x ≡ false → product (point n) (span (values_left u x)) ≡ point (n *ℤ slice_index_or (position g i a) x (pos 0))
  first_term n x q =
      one_product n (values_left u x) (subst (λ vs. span vs ≡ point (least_value vs)) (sym (v.first x q)) (one_left g i a b l x q).0)
      ∙ ap (λ z. point (n *ℤ z)) (first_left x q)

  second_term : (n : ℤ) (x : ℕ) → is_looked_at g i x ≡ false → product (point n) (span (values_left w x)) ≡ point (n *ℤ slice_index_or (position g i b) x (pos 0))
  second_term n x q =
      one_product n (values_left w x) (subst (λ vs. span vs ≡ point (least_value vs)) (sym (v.second x q)) (one_left g i a b l x q).1)
      ∙ ap (λ z. point (n *ℤ z)) (second_left x q)

  -- an end of the range of a term differs in the two boxes as the known values do
  end_term : (e : Range → ℤ) → ((z : ℤ) → e (point z) ≡ z) → (n : ℤ) (x : Arg) →
      (e (product (point n) (span (left_to u x))) +ℤ (n *ℤ second_known x)) ≡ (e (product (point n) (span (left_to w x))) +ℤ (n *ℤ first_known x))
  end_term e p n (Num m) = refl
  end_term e p n (Var x) = by (is_looked_at g i x.0) refl
    where
      by : (q : Bool) → is_looked_at g i x.0 ≡ q → (e (product (point n) (span (values_left u x.0))) +ℤ (n *ℤ slice_index_or (position g i b) x.0 (pos 0)))
          ≡ (e (product (point n) (span (values_left w x.0))) +ℤ (n *ℤ slice_index_or (position g i a) x.0 (pos 0)))
      by true q =
          ap (λ vs. e (product (point n) (span vs)) +ℤ (n *ℤ slice_index_or (position g i b) x.0 (pos 0))) (v.same x.0 q)
          ∙ ap (λ z. e (product (point n) (span (values_left w x.0))) +ℤ (n *ℤ z)) (sym (known_same x.0 q))
      by false q =
          ap (λ z. z +ℤ (n *ℤ slice_index_or (position g i b) x.0 (pos 0))) (ap e (first_term n x.0 q) ∙ p (n *ℤ slice_index_or (position g i a) x.0 (pos 0)))
          ∙ swapped (n *ℤ slice_index_or (position g i a) x.0 (pos 0)) (n *ℤ slice_index_or (position g i b) x.0 (pos 0))
          ∙ ap (λ z. z +ℤ (n *ℤ slice_index_or (position g i a) x.0 (pos 0))) (sym (ap e (second_term n x.0 q) ∙ p (n *ℤ slice_index_or (position g i b) x.0 (pos 0))))

  -- and so do the values at a later position
  value_term : (k : ℕ) → before g i ≤ before g k → (n : ℤ) (x : Arg) →
      ((n *ℤ arg_value (position g k u) x) +ℤ (n *ℤ second_known x)) ≡ ((n *ℤ arg_value (position g k w) x) +ℤ (n *ℤ first_known x))
  value_term k h n (Num m) = refl
  value_term k h n (Var x) = by (is_looked_at g i x.0) refl
    where
      later : (y : ℕ) → y < before g i → before g i ≤ before g k → y < before g k
      later y p q = omega arith

      by : (q : Bool) → is_looked_at g i x.0 ≡ q → ((n *ℤ slice_index_or (position g k u) x.0 (pos 0)) +ℤ (n *ℤ slice_index_or (position g i b) x.0 (pos 0)))
          ≡ ((n *ℤ slice_index_or (position g k w) x.0 (pos 0)) +ℤ (n *ℤ slice_index_or (position g i a) x.0 (pos 0)))
      by true q =
          ap (λ z. (n *ℤ z) +ℤ (n *ℤ slice_index_or (position g i b) x.0 (pos 0))) (value_same (before g k) x.0 u w (v.same x.0 q))
          ∙ ap (λ z. (n *ℤ slice_index_or (position g k w) x.0 (pos 0)) +ℤ (n *ℤ z)) (sym (known_same x.0 q))
      by false q =
          let here = later x.0 (early g i x.0 q) h in
          ap (λ z. (n *ℤ z) +ℤ (n *ℤ slice_index_or (position g i b) x.0 (pos 0))) (early_value (before g k) x.0 u here ∙ first_left x.0 q)
          ∙ swapped (n *ℤ slice_index_or (position g i a) x.0 (pos 0)) (n *ℤ slice_index_or (position g i b) x.0 (pos 0))
          ∙ ap (λ z. (n *ℤ z) +ℤ (n *ℤ slice_index_or (position g i a) x.0 (pos 0))) (sym (early_value (before g k) x.0 w here ∙ second_left x.0 q))

  -- the known terms come to the same in both boxes
  abbrev SameKnown : List ℤ → List Arg → Type 0
  SameKnown ns xs = sum_of_products ns (map first_known xs) ≡ sum_of_products ns (map second_known xs)

  totals_same : (ns : List ℤ) (xs : List Arg) → SameKnown ns xs → total (λ n x. n *ℤ first_known x) ns xs ≡ total (λ n x. n *ℤ second_known x) ns xs
  totals_same ns xs k = sym (products_total first_known ns xs) ∙ k ∙ products_total second_known ns xs

  end_same : (e : Range → ℤ) → ((z : ℤ) → e (point z) ≡ z) → ((r s : Range) → e (range_sum r s) ≡ e r +ℤ e s) → (ns : List ℤ) (xs : List Arg) → SameKnown ns xs →
      e (sum_range ns (map (left_to u) xs)) ≡ e (sum_range ns (map (left_to w) xs))
  end_same e p s ns xs k =
      let t = λ (n : ℤ) (x : Arg). e (product (point n) (span (left_to u x))) in
      let r = λ (n : ℤ) (x : Arg). e (product (point n) (span (left_to w x))) in
      range_total e (p (pos 0)) s (left_to u) ns xs
      ∙ cancel (total t ns xs) (total r ns xs) (total (λ n x. n *ℤ first_known x) ns xs) (total (λ n x. n *ℤ second_known x) ns xs)
      (balance t r (λ n x. n *ℤ first_known x) (λ n x. n *ℤ second_known x) ns xs (end_term e p))
      (totals_same ns xs k)
      ∙ sym (range_total e (p (pos 0)) s (left_to w) ns xs)

  ranges_same : (ns : List ℤ) (xs : List Arg) → SameKnown ns xs → sum_range ns (map (left_to u) xs) ≡ sum_range ns (map (left_to w) xs)
  ranges_same ns xs k =
      ap (λ z. range_of z (sum_range ns (map (left_to u) xs)).to) (end_same (λ r. r.from) (λ z. refl) (λ r s. refl) ns xs k)
      ∙ ap (λ z. range_of (sum_range ns (map (left_to w) xs)).from z) (end_same (λ r. r.to) (λ z. refl) (λ r s. refl) ns xs k)

  sums_same : (k : ℕ) → before g i ≤ before g k → (ns : List ℤ) (xs : List Arg) → SameKnown ns xs →
      sum_of_products ns (map (arg_value (position g k u)) xs) ≡ sum_of_products ns (map (arg_value (position g k w)) xs)
  sums_same k h ns xs e =
      let t = λ (n : ℤ) (x : Arg). n *ℤ arg_value (position g k u) x in
      let r = λ (n : ℤ) (x : Arg). n *ℤ arg_value (position g k w) x in
      products_total (arg_value (position g k u)) ns xs
      ∙ cancel (total t ns xs) (total r ns xs) (total (λ n x. n *ℤ first_known x) ns xs) (total (λ n x. n *ℤ second_known x) ns xs)
      (balance t r (λ n x. n *ℤ first_known x) (λ n x. n *ℤ second_known x) ns xs (value_term k h))
      (totals_same ns xs e)
      ∙ sym (products_total (arg_value (position g k w)) ns xs)

  module _ (args : List Argument) (looks : (x : ℕ) → is_among (variables_of (drop 2 args)) x ≡ true → is_looked_at g i x ≡ true)
      (known : left_sum (map (fill (arg_value (position g i a))) args) ≡ left_sum (map (fill (arg_value (position g i b))) args)) where
    left_sum_is : (f : Arg → ℤ) → left_sum (map (fill f) args) ≡ sum_of_products (numbers_of (slice_get args 0)) (map f (items_of (slice_get args 1)))
    left_sum_is f =
        ap (λ ns. sum_of_products ns (many (map (fill f) args) 1)) (numbers_same f args 0)
        ∙ ap (λ xs. sum_of_products (numbers_of (slice_get args 0)) xs) (many_filled f args 1)

    sum_at_is : (f : Arg → Values) → sum_at (map (fill f) args) ≡ sum_range (numbers_of (slice_get args 0)) (map f (items_of (slice_get args 1)))
    sum_at_is f =
        ap (λ ns. sum_range ns (many (map (fill f) args) 1)) (numbers_same f args 0)
        ∙ ap (λ xs. sum_range (numbers_of (slice_get args 0)) xs) (many_filled f args 1)

    terms_known : SameKnown (numbers_of (slice_get args 0)) (items_of (slice_get args 1))
    terms_known = sym (left_sum_is first_known) ∙ known ∙ left_sum_is second_known

    range_same : sum_at (map (fill (left_to u)) args) ≡ sum_at (map (fill (left_to w)) args)
    range_same = sum_at_is (left_to u) ∙ ranges_same (numbers_of (slice_get args 0)) (items_of (slice_get args 1)) terms_known ∙ sym (sum_at_is (left_to w))

    sum_same : (k : ℕ) → before g i ≤ before g k → left_sum (map (fill (arg_value (position g k u))) args) ≡ left_sum (map (fill (arg_value (position g k w))) args)
    sum_same k h =
        left_sum_is (arg_value (position g k u))
        ∙ sums_same k h (numbers_of (slice_get args 0)) (items_of (slice_get args 1)) terms_known
        ∙ sym (left_sum_is (arg_value (position g k w)))

    bound_left : left_at (map (fill (left_to u)) args) 2 ≡ left_at (map (fill (left_to w)) args) 2
    bound_left = third_same (pos 0 ∷ []) (left_to u) (left_to w) args (record { number = λ n. refl; variable = λ x m. v.same x.0 (looks x.0 m) })

    bound_value : (k : ℕ) → value_at (map (fill (arg_value (position g k u))) args) 2 ≡ value_at (map (fill (arg_value (position g k w))) args) 2
    bound_value k =
        third_same (pos 0) (arg_value (position g k u)) (arg_value (position g k w)) args
        (record { number = λ n. refl; variable = λ x m. value_same (before g k) x.0 u w (v.same x.0 (looks x.0 m)) })

    pub sum_refutes : (m : Meaning) → reading_of m ≡ as_sum → refuted_as m (map (fill (left_to u)) args) ≡ refuted_as m (map (fill (left_to w)) args)
    sum_refutes =
        sums_only (λ m. refuted_as m (map (fill (left_to u)) args) ≡ refuted_as m (map (fill (left_to w)) args))
        (ap (λ r. ranges_miss r (span (left_at (map (fill (left_to u)) args) 2))) range_same
        ∙ ap (λ d. ranges_miss (sum_at (map (fill (left_to w)) args)) (span d)) bound_left)
        (ap (λ r. is_point (least_value (left_at (map (fill (left_to u)) args) 2)) r) range_same
        ∙ ap (λ d. is_point (least_value d) (sum_at (map (fill (left_to w)) args))) bound_left)
        (ap (λ r. int_lt (greatest_value (left_at (map (fill (left_to u)) args) 2)) r.from) range_same
        ∙ ap (λ d. int_lt (greatest_value d) (sum_at (map (fill (left_to w)) args)).from) bound_left)

    pub sum_holds : (k : ℕ) → before g i ≤ before g k → (m : Meaning) → reading_of m ≡ as_sum →
        holds_as m (map (fill (arg_value (position g k u))) args) ≡ holds_as m (map (fill (arg_value (position g k w))) args)
    sum_holds k h =
        sums_only (λ m. holds_as m (map (fill (arg_value (position g k u))) args) ≡ holds_as m (map (fill (arg_value (position g k w))) args))
        (ap (λ z. int_eq z (value_at (map (fill (arg_value (position g k u))) args) 2)) (sum_same k h)
        ∙ ap (λ z. int_eq (left_sum (map (fill (arg_value (position g k w))) args)) z) (bound_value k))
        (ap (λ z. not (int_eq z (value_at (map (fill (arg_value (position g k u))) args) 2))) (sum_same k h)
        ∙ ap (λ z. not (int_eq (left_sum (map (fill (arg_value (position g k w))) args)) z)) (bound_value k))
        (ap (λ z. int_le z (value_at (map (fill (arg_value (position g k u))) args) 2)) (sum_same k h)
        ∙ ap (λ z. int_le (left_sum (map (fill (arg_value (position g k w))) args)) z) (bound_value k))

  pub same_sum : (c : Rule) → reading_of (meaning_of c.pred) ≡ as_sum → ((x : ℕ) → is_among (variables_of (drop 2 c.args)) x ≡ true → is_looked_at g i x ≡ true) →
      known_sum (position g i a) c ≡ known_sum (position g i b) c → SameRule g i c u w
  same_sum c e looks known = record {
    refutes = sum_refutes c.args looks known (meaning_of c.pred) e;
    holds = λ k h. sum_holds c.args looks known k h (meaning_of c.pred) e;
  }
