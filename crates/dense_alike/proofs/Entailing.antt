-- A constraint that sees the same of two positions is entailed after both or after neither.
use Rattle.std.proofs.Common.{◌≡◌, inl, inr, ℕ, zero, suc, ◌<◌, ◌≤◌, ◌-◌, ◌==◌, Bool, true, false, not, ◌&&◌, ◌||◌, cond, List, [], ◌∷◌, length, map, drop, refl, sym, ap, ◌∙◌, subst, arith, ℤ, pos, ◌+ℤ◌, ◌-ℤ◌, ◌*ℤ◌, Option, Some, None}
use Rattle.std.specs.Prelude.{get_or, nat_lt, slice_get, slice_index_or, int_lt, int_le}
use Rattle.std.specs.List.{list_any, list_all}
use Rattle.std.proofs.lemmas.Bool.Decides.{nat_tests}
use Rattle.std.proofs.lemmas.Int.{ints}
use Rattle.std.proofs.lemmas.List.{get_or_append_left, get_or-append_right, get_or-map, get_or_past, length-map}
use Rattle.std.proofs.lemmas.Bool.{or_left, or_right, or_cases, and_from}
use Rattle.qc_model.specs.declared.problem.Arg.{Arg}
use Rattle.qc_model.specs.declared.problem.Arg.TheVariants.{Var, Num}
use Rattle.qc_model.specs.declared.problem.Argument.{Argument}
use Rattle.qc_model.specs.declared.problem.Argument.TheVariants.{One, Many, Numbers, Members}
use Rattle.qc_model.specs.declared.problem.Variable.{Variable}
use Rattle.qc_model.specs.Arguments.{fill, many, variables_of}
use Rattle.qc_model.specs.Content.{Game, Rule}
use Rattle.qc_model.specs.Domains.{Values, Box, declared_box, values_left, is_single, least_value, greatest_value}
use Rattle.qc_model.specs.Entailed.{entailed_as}
use Rattle.qc_model.specs.Holds.{arg_value, sum_of_products, value_at}
use Rattle.qc_model.specs.Left.{Lefts, span, sum_range, sum_at, left_at, is_only}
use Rattle.qc_model.specs.Meaning.{Meaning, sum_equal, sum_different, sum_at_most, plus, clause, meaning_of}
use Rattle.qc_model.specs.Ranges.{Range, range_of, point, is_point, ranges_miss, range_sum, product}
use Rattle.qc_model.specs.Refuted.{left_to, refuted_as}
use Rattle.qc_model.specs.Valid.{are_of_sorts, argument_sees, have_lengths, is_constraint, is_literal, is_sum, item_count}
use Rattle.qc_model.specs.Signature.{arg_kinds_of}
use Rattle.qc_model.proofs.Conjunctions.{first, second}
use Rattle.lemma_list.specs.Entailment.{is_settled, entailed_by_index, is_entailed, entailed_by}
use Rattle.proof_alike.specs.Alike.{is_among, is_looked_at, sees}
use Rattle.proof_alike.specs.Reading.{Reading, as_sum, as_plus, as_clause, by_value, reading, reading_of, left_sum, left_over, known_sum, known_plus, known_value, is_known_as, is_satisfied, own_values, seen_as}
use Rattle.proof_alike.proofs.Arrays.{items_of, numbers_of, many_filled, numbers_same}
use Rattle.proof_alike.proofs.Meanings.{sums_only, plus_only, clause_only}
use Rattle.proof_alike.proofs.Terms.{total, products_total, range_total, balance, cancel, one_product}
use Rattle.likeness.specs.Seeing.{is_telling, tells}
use Rattle.dense_alike.specs.Laid.{laid, viewed}
use Rattle.dense_tree.specs.Alike.{is_from}
use Rattle.qc_model.specs.Lists.{same_values}
use Rattle.dense_alike.proofs.Seeing.{same_at, same_itself, same_lists}
use Rattle.dense_alike.proofs.Viewing.{entailed_same, no_sight, same_view, seen_same, view_other}

less : (x n : ℕ) → nat_lt x n ≡ true → x < n
less x n e = grind (arith, nat_tests)

past : (x n : ℕ) → nat_lt x n ≡ false → n ≤ x
past x n e = grind (arith, nat_tests)

-- a variable with a value has it alone, and each other one its declared domain
module _ (g : Game) (vs : List ℤ) where
  laid_first : (x : ℕ) → x < length vs → values_left (laid g vs) x ≡ slice_index_or vs x (pos 0) ∷ []
  laid_first x l =
      get_or_append_left (map (λ v. v ∷ []) vs) (drop (length vs) (declared_box g)) [] x (omega (arith, l, length-map vs (λ (v : ℤ). v ∷ [])))
      ∙ get_or-map (λ v. v ∷ []) vs x (pos 0) [] l

  laid_later : (x : ℕ) → length vs ≤ x → values_left (laid g vs) x ≡ get_or (drop (length vs) (declared_box g)) (x - length vs) []
  laid_later x l = get_or-append_right (map (λ v. v ∷ []) vs) (drop (length vs) (declared_box g)) (length vs) x [] (length-map vs (λ (v : ℤ). v ∷ [])) l

  value_later : (x : ℕ) → length vs ≤ x → slice_index_or vs x (pos 0) ≡ pos 0
  value_later x l = get_or_past vs x (pos 0) l

-- what is entailed comes from four answers
entailed_by_parts : (m : Meaning) (us bs : Lefts) → entailed_as m us ≡ entailed_as m bs → entailed_by_index m us ≡ entailed_by_index m bs → list_all is_settled us ≡ list_all is_settled bs → refuted_as m us ≡ refuted_as m bs →
    is_entailed m us ≡ is_entailed m bs
entailed_by_parts m us bs e f h k =
    ap (λ p. (p || entailed_by_index m us) || (list_all is_settled us && not (refuted_as m us))) e
    ∙ (ap (λ p. (entailed_as m bs || p) || (list_all is_settled us && not (refuted_as m us))) f
    ∙ (ap (λ p. (entailed_as m bs || entailed_by_index m bs) || (p && not (refuted_as m us))) h
    ∙ ap (λ p. (entailed_as m bs || entailed_by_index m bs) || (list_all is_settled bs && not p)) k))

swapped : (p q : ℤ) → (p +ℤ q) ≡ (q +ℤ p)
swapped p q = omega (arith, ints)

-- p is to q as m is to n
abbrev IsShifted : ℤ → ℤ → ℤ → ℤ → Type 0
IsShifted p q m n = (p +ℤ n) ≡ (q +ℤ m)

sum_shifted : (p q r s t u k m n x y z : ℤ) → IsShifted p s k x → IsShifted q t m y → IsShifted r u n z → ((k +ℤ m) -ℤ n) ≡ ((x +ℤ y) -ℤ z) → IsShifted (p +ℤ q) (s +ℤ t) r u
sum_shifted p q r s t u k m n x y z d e f h = omega (arith, ints)

less_shifted : (p q m n : ℤ) → IsShifted p q m n → int_lt p m ≡ int_lt q n
less_shifted p q m n h = grind (arith, ints)

more_shifted : (p q m n : ℤ) → IsShifted p q m n → int_lt m p ≡ int_lt n q
more_shifted p q m n h = grind (arith, ints)

-- what a constraint is compared with is a number, which is left in each box
literal_left : (a b : Box) (args : List Argument) (k : ℕ) → is_literal (slice_get args k) ≡ true → left_at (map (fill (left_to a)) args) k ≡ left_at (map (fill (left_to b)) args) k
literal_left a b [] k e = refl
literal_left a b (One (Num n) ∷ args) zero e = refl
literal_left a b (One (Var x) ∷ args) zero e = cc
literal_left a b (Many xs ∷ args) zero e = refl
literal_left a b (Numbers ns ∷ args) zero e = refl
literal_left a b (Members s ∷ args) zero e = refl
literal_left a b (c ∷ args) (suc k) e = literal_left a b args k e

sum_literal : (xs : List Variable) (c : Rule) → is_constraint xs c ≡ true → reading c ≡ as_sum → is_literal (slice_get c.args 2) ≡ true
sum_literal xs c valid e =
    let shape = first (are_of_sorts xs (arg_kinds_of c.pred) c.args && have_lengths (meaning_of c.pred) c.args) (list_all (argument_sees xs c.owner.0) c.args) valid in
    let lengths = second (are_of_sorts xs (arg_kinds_of c.pred) c.args) (have_lengths (meaning_of c.pred) c.args) shape in
    second (item_count (slice_get c.args 0) == item_count (slice_get c.args 1)) (is_literal (slice_get c.args 2))
    (sums_only (λ m. have_lengths m c.args ≡ true → is_sum c.args ≡ true) (λ h. h) (λ h. h) (λ h. h) (meaning_of c.pred) e lengths)

-- two positions of as many variables
module _ (g : Game) (here there : List ℤ) (size : length here ≡ length there) where
  abbrev a : Box
  a = laid g here

  abbrev b : Box
  b = laid g there

  later_same : (x : ℕ) → length here ≤ x → values_left a x ≡ values_left b x
  later_same x l =
      laid_later g here x l
      ∙ (ap (λ n. get_or (drop n (declared_box g)) (x - n) []) size ∙ sym (laid_later g there x (subst (λ n. n ≤ x) size l)))

  first_here : (x : ℕ) → x < length here → values_left a x ≡ slice_index_or here x (pos 0) ∷ []
  first_here x l = laid_first g here x l

  first_there : (x : ℕ) → x < length here → values_left b x ≡ slice_index_or there x (pos 0) ∷ []
  first_there x l = laid_first g there x (subst (λ n. x < n) size l)

  left_same : (x : ℕ) → slice_index_or here x (pos 0) ≡ slice_index_or there x (pos 0) → values_left a x ≡ values_left b x
  left_same x e = by (nat_lt x (length here)) refl
    where
      by : (t : Bool) → nat_lt x (length here) ≡ t → values_left a x ≡ values_left b x
      by true h = let l = less x (length here) h in first_here x l ∙ (ap (λ v. v ∷ []) e ∙ sym (first_there x l))
      by false h = later_same x (past x (length here) h)

  single_alike : (x : ℕ) → is_single (values_left a x) ≡ is_single (values_left b x)
  single_alike x = by (nat_lt x (length here)) refl
    where
      by : (t : Bool) → nat_lt x (length here) ≡ t → is_single (values_left a x) ≡ is_single (values_left b x)
      by true h = let l = less x (length here) h in ap is_single (first_here x l) ∙ sym (ap is_single (first_there x l))
      by false h = ap is_single (later_same x (past x (length here) h))

  item_settled : (x : Arg) → is_single (left_to a x) ≡ is_single (left_to b x)
  item_settled (Var x) = single_alike x.0
  item_settled (Num n) = refl

  items_settled : (xs : List Arg) → list_all is_single (map (left_to a) xs) ≡ list_all is_single (map (left_to b) xs)
  items_settled [] = refl
  items_settled (x ∷ xs) = ap (λ p. p && list_all is_single (map (left_to a) xs)) (item_settled x) ∙ ap (λ p. is_single (left_to b x) && p) (items_settled xs)

  argument_settled : (x : Argument) → is_settled (fill (left_to a) x) ≡ is_settled (fill (left_to b) x)
  argument_settled (One x) = item_settled x
  argument_settled (Many xs) = items_settled xs
  argument_settled (Numbers ns) = refl
  argument_settled (Members s) = refl

  settled_alike : (args : List Argument) → list_all is_settled (map (fill (left_to a)) args) ≡ list_all is_settled (map (fill (left_to b)) args)
  settled_alike [] = refl
  settled_alike (x ∷ args) =
      ap (λ p. p && list_all is_settled (map (fill (left_to a)) args)) (argument_settled x) ∙ ap (λ p. is_settled (fill (left_to b) x) && p) (settled_alike args)

  -- a number that is told of what is left to an argument is to that of the other as the values are
  shifted : (f : Values → ℤ) (h : ℤ → ℤ) → ((z : ℤ) → f (z ∷ []) ≡ h z) → (x : Arg) → IsShifted (f (left_to a x)) (f (left_to b x)) (h (arg_value here x)) (h (arg_value there x))
  shifted f h one (Num n) = refl
  shifted f h one (Var x) = by (nat_lt x.0 (length here)) refl
    where
      v : ℤ
      v = slice_index_or here x.0 (pos 0)

      w : ℤ
      w = slice_index_or there x.0 (pos 0)

      by : (t : Bool) → nat_lt x.0 (length here) ≡ t → IsShifted (f (values_left a x.0)) (f (values_left b x.0)) (h v) (h w)
      by true k =
          let l = less x.0 (length here) k in
          ap (λ z. z +ℤ h w) (ap f (first_here x.0 l) ∙ one v)
          ∙ (swapped (h v) (h w) ∙ ap (λ z. z +ℤ h v) (sym (ap f (first_there x.0 l) ∙ one w)))
      by false k =
          let l = past x.0 (length here) k in
          ap (λ z. f z +ℤ h w) (later_same x.0 l)
          ∙ ap (λ z. f (values_left b x.0) +ℤ h z) (value_later g there x.0 (subst (λ n. n ≤ x.0) size l) ∙ sym (value_later g here x.0 l))

  -- sums
  abbrev SameKnown : List ℤ → List Arg → Type 0
  SameKnown ns xs = sum_of_products ns (map (arg_value here) xs) ≡ sum_of_products ns (map (arg_value there) xs)

  end_same : (e : Range → ℤ) → ((z : ℤ) → e (point z) ≡ z) → ((r s : Range) → e (range_sum r s) ≡ e r +ℤ e s) → (ns : List ℤ) (xs : List Arg) → SameKnown ns xs →
      e (sum_range ns (map (left_to a) xs)) ≡ e (sum_range ns (map (left_to b) xs))
  end_same e p s ns xs k =
      let t : ℤ → Arg → ℤ = λ n x. e (product (point n) (span (left_to a x))) in
      let r : ℤ → Arg → ℤ = λ n x. e (product (point n) (span (left_to b x))) in
      let v : ℤ → Arg → ℤ = λ n x. n *ℤ arg_value here x in
      let w : ℤ → Arg → ℤ = λ n x. n *ℤ arg_value there x in
      range_total e (p (pos 0)) s (left_to a) ns xs
      ∙ (cancel (total t ns xs) (total r ns xs) (total v ns xs) (total w ns xs)
      (balance t r v w ns xs (λ n x. shifted (λ d. e (product (point n) (span d))) (λ z. n *ℤ z) (λ z. ap e (one_product n (z ∷ []) refl) ∙ p (n *ℤ z)) x))
      (sym (products_total (arg_value here) ns xs) ∙ (k ∙ products_total (arg_value there) ns xs))
      ∙ sym (range_total e (p (pos 0)) s (left_to b) ns xs))

  ranges_same : (ns : List ℤ) (xs : List Arg) → SameKnown ns xs → sum_range ns (map (left_to a) xs) ≡ sum_range ns (map (left_to b) xs)
  ranges_same ns xs k =
      ap (λ z. range_of z (sum_range ns (map (left_to a) xs)).to) (end_same (λ r. r.from) (λ z. refl) (λ r s. refl) ns xs k)
      ∙ ap (λ z. range_of (sum_range ns (map (left_to b) xs)).from z) (end_same (λ r. r.to) (λ z. refl) (λ r s. refl) ns xs k)

  module _ (args : List Argument) where
    abbrev ns : List ℤ
    ns = numbers_of (slice_get args 0)

    abbrev xs : List Arg
    xs = items_of (slice_get args 1)

    abbrev us : Lefts
    us = map (fill (left_to a)) args

    abbrev bs : Lefts
    bs = map (fill (left_to b)) args

    sum_is : (f : Arg → ℤ) → left_sum (map (fill f) args) ≡ sum_of_products ns (map f xs)
    sum_is f = ap (λ us. sum_of_products us (many (map (fill f) args) 1)) (numbers_same f args 0) ∙ ap (sum_of_products ns) (many_filled f args 1)

    range_is : (f : Arg → Values) → sum_at (map (fill f) args) ≡ sum_range ns (map f xs)
    range_is f = ap (λ us. sum_range us (many (map (fill f) args) 1)) (numbers_same f args 0) ∙ ap (sum_range ns) (many_filled f args 1)

    sum_entails : left_sum (map (fill (arg_value here)) args) ≡ left_sum (map (fill (arg_value there)) args) → is_literal (slice_get args 2) ≡ true → (m : Meaning) → reading_of m ≡ as_sum → is_entailed m us ≡ is_entailed m bs
    sum_entails k l =
        sums_only (λ m. is_entailed m us ≡ is_entailed m bs)
        (entailed_by_parts sum_equal us bs equal_to refl (settled_alike args) missing)
        (entailed_by_parts sum_different us bs missing refl (settled_alike args) equal_to)
        (entailed_by_parts sum_at_most us bs below refl (settled_alike args) above)
      where
        ranges : sum_at us ≡ sum_at bs
        ranges = range_is (left_to a) ∙ (ranges_same ns xs (sym (sum_is (arg_value here)) ∙ (k ∙ sum_is (arg_value there))) ∙ sym (range_is (left_to b)))

        bound : left_at us 2 ≡ left_at bs 2
        bound = literal_left a b args 2 l

        equal_to : is_point (least_value (left_at us 2)) (sum_at us) ≡ is_point (least_value (left_at bs 2)) (sum_at bs)
        equal_to = ap (is_point (least_value (left_at us 2))) ranges ∙ ap (λ d. is_point (least_value d) (sum_at bs)) bound

        missing : ranges_miss (sum_at us) (span (left_at us 2)) ≡ ranges_miss (sum_at bs) (span (left_at bs 2))
        missing = ap (λ r. ranges_miss r (span (left_at us 2))) ranges ∙ ap (λ d. ranges_miss (sum_at bs) (span d)) bound

        below : int_le (sum_at us).to (least_value (left_at us 2)) ≡ int_le (sum_at bs).to (least_value (left_at bs 2))
        below = ap (λ r. int_le r.to (least_value (left_at us 2))) ranges ∙ ap (λ d. int_le (sum_at bs).to (least_value d)) bound

        above : int_lt (greatest_value (left_at us 2)) (sum_at us).from ≡ int_lt (greatest_value (left_at bs 2)) (sum_at bs).from
        above = ap (λ r. int_lt (greatest_value (left_at us 2)) r.from) ranges ∙ ap (λ d. int_lt (greatest_value d) (sum_at bs).from) bound

    plus_entails : left_over (map (fill (arg_value here)) args) ≡ left_over (map (fill (arg_value there)) args) → (m : Meaning) → reading_of m ≡ as_plus → is_entailed m us ≡ is_entailed m bs
    plus_entails k = plus_only (λ m. is_entailed m us ≡ is_entailed m bs) (entailed_by_parts plus us bs refl refl (settled_alike args) missing)
      where
        at : (f : Values → ℤ) → ((z : ℤ) → f (z ∷ []) ≡ z) → (ys : List Argument) (j : ℕ) →
            IsShifted (f (left_at (map (fill (left_to a)) ys) j)) (f (left_at (map (fill (left_to b)) ys) j)) (value_at (map (fill (arg_value here)) ys) j) (value_at (map (fill (arg_value there)) ys) j)
        at f one [] j = ap (λ z. z +ℤ pos 0) (one (pos 0)) ∙ sym (ap (λ z. z +ℤ pos 0) (one (pos 0)))
        at f one (One x ∷ ys) zero = shifted f (λ z. z) one x
        at f one (Many y ∷ ys) zero = refl
        at f one (Numbers y ∷ ys) zero = refl
        at f one (Members y ∷ ys) zero = refl
        at f one (y ∷ ys) (suc j) = at f one ys j

        and_from : (f h : Values → ℤ) → ((z : ℤ) → f (z ∷ []) ≡ z) → ((z : ℤ) → h (z ∷ []) ≡ z) → IsShifted (f (left_at us 0) +ℤ f (left_at us 1)) (f (left_at bs 0) +ℤ f (left_at bs 1)) (h (left_at us 2)) (h (left_at bs 2))
        and_from f h one two =
            sum_shifted (f (left_at us 0)) (f (left_at us 1)) (h (left_at us 2)) (f (left_at bs 0)) (f (left_at bs 1)) (h (left_at bs 2))
            (value_at (map (fill (arg_value here)) args) 0) (value_at (map (fill (arg_value here)) args) 1) (value_at (map (fill (arg_value here)) args) 2)
            (value_at (map (fill (arg_value there)) args) 0) (value_at (map (fill (arg_value there)) args) 1) (value_at (map (fill (arg_value there)) args) 2)
            (at f one args 0) (at f one args 1) (at h two args 2) k

        below : int_lt (greatest_value (left_at us 0) +ℤ greatest_value (left_at us 1)) (least_value (left_at us 2)) ≡ int_lt (greatest_value (left_at bs 0) +ℤ greatest_value (left_at bs 1)) (least_value (left_at bs 2))
        below =
            less_shifted (greatest_value (left_at us 0) +ℤ greatest_value (left_at us 1)) (greatest_value (left_at bs 0) +ℤ greatest_value (left_at bs 1)) (least_value (left_at us 2)) (least_value (left_at bs 2))
            (and_from greatest_value least_value (λ z. refl) (λ z. refl))

        above : int_lt (greatest_value (left_at us 2)) (least_value (left_at us 0) +ℤ least_value (left_at us 1)) ≡ int_lt (greatest_value (left_at bs 2)) (least_value (left_at bs 0) +ℤ least_value (left_at bs 1))
        above =
            more_shifted (least_value (left_at us 0) +ℤ least_value (left_at us 1)) (least_value (left_at bs 0) +ℤ least_value (left_at bs 1)) (greatest_value (left_at us 2)) (greatest_value (left_at bs 2))
            (and_from least_value greatest_value (λ z. refl) (λ z. refl))

        missing : refuted_as plus us ≡ refuted_as plus bs
        missing =
            ap (λ p. p || int_lt (greatest_value (left_at us 2)) (least_value (left_at us 0) +ℤ least_value (left_at us 1))) below
            ∙ ap (λ p. int_lt (greatest_value (left_at bs 0) +ℤ greatest_value (left_at bs 1)) (least_value (left_at bs 2)) || p) above

-- a literal that is known to be true has its value alone
module _ (g : Game) (p : ℕ → Bool) (vs : List ℤ) where
  known_only : (n : ℤ) (x : Arg) → is_known_as n (known_value p vs x) ≡ true → is_only n (left_to (laid g vs) x) ≡ true
  known_only n (Num m) h = h
  known_only n (Var x) h = by (p x.0) (slice_get vs x.0) refl h
    where
      inside : (us : List ℤ) (k : ℕ) (v : ℤ) → slice_get us k ≡ Some v → k < length us
      inside [] k v e = cc
      inside (u ∷ us) zero v e = omega arith
      inside (u ∷ us) (suc k) v e = omega (arith, inside us k v e)

      value : (us : List ℤ) (k : ℕ) (v : ℤ) → slice_get us k ≡ Some v → slice_index_or us k (pos 0) ≡ v
      value [] k v e = cc
      value (u ∷ us) zero v e = cc
      value (u ∷ us) (suc k) v e = value us k v e

      by : (q : Bool) (o : Option ℤ) → slice_get vs x.0 ≡ o → is_known_as n (cond q o None) ≡ true → is_only n (values_left (laid g vs) x.0) ≡ true
      by true None e k = cc
      by true (Some v) e k = ap (is_only n) (laid_first g vs x.0 (inside vs x.0 v e) ∙ ap (λ z. z ∷ []) (value vs x.0 v e)) ∙ k
      by false o e k = cc

  some_only : (n : ℤ) (xs : List Arg) → list_any (is_known_as n) (map (known_value p vs) xs) ≡ true → list_any (is_only n) (map (left_to (laid g vs)) xs) ≡ true
  some_only n [] h = cc
  some_only n (x ∷ xs) h = elim (or_cases (is_known_as n (known_value p vs x)) (list_any (is_known_as n) (map (known_value p vs) xs)) h) [
    | inl k ↦ or_left (is_only n (left_to (laid g vs) x)) (list_any (is_only n) (map (left_to (laid g vs)) xs)) (known_only n x k)
    | inr k ↦ or_right (is_only n (left_to (laid g vs) x)) (list_any (is_only n) (map (left_to (laid g vs)) xs)) (some_only n xs k)
  ]

  array_only : (n : ℤ) (args : List Argument) (k : ℕ) → list_any (is_known_as n) (many (map (fill (known_value p vs)) args) k) ≡ true → list_any (is_only n) (many (map (fill (left_to (laid g vs))) args) k) ≡ true
  array_only n args k h =
      ap (list_any (is_only n)) (many_filled (left_to (laid g vs)) args k)
      ∙ some_only n (items_of (slice_get args k)) (sym (ap (list_any (is_known_as n)) (many_filled (known_value p vs) args k)) ∙ h)

  satisfied_entails : (c : Rule) → meaning_of c.pred ≡ clause → is_satisfied p vs c ≡ true → entailed_by c (laid g vs) ≡ true
  satisfied_entails c e h =
      let us : Lefts = map (fill (left_to (laid g vs))) c.args in
      ap (λ m. is_entailed m us) e
      ∙ or_left (entailed_as clause us || false) (list_all is_settled us && not (refuted_as clause us))
      (or_left (entailed_as clause us) false (elim (or_cases (list_any (is_known_as (pos 1)) (many (map (fill (known_value p vs)) c.args) 0)) (list_any (is_known_as (pos 0)) (many (map (fill (known_value p vs)) c.args) 1)) h) [
        | inl k ↦ or_left (list_any (is_only (pos 1)) (many us 0)) (list_any (is_only (pos 0)) (many us 1)) (array_only (pos 1) c.args 0 k)
        | inr k ↦ or_right (list_any (is_only (pos 1)) (many us 0)) (list_any (is_only (pos 0)) (many us 1)) (array_only (pos 0) c.args 1 k)
      ]))

none_of : (f : ℕ → ℤ) (xs : List ℕ) (x : ℕ) → map f xs ≡ [] → is_among xs x ≡ true → ⊥
none_of f [] x e m = cc
none_of f (y ∷ xs) x e m = cc

-- the law
module _ (g : Game) (i : ℕ) (here there : List ℤ) (size : length here ≡ length there) (c : Rule) where
  abbrev p : ℕ → Bool
  p x = not (is_looked_at g i x)

  clause_entails : reading c ≡ as_clause → seen_as as_clause p here c ≡ seen_as as_clause p there c → entailed_by c (laid g here) ≡ entailed_by c (laid g there)
  clause_entails e h = by (is_satisfied p here c) (is_satisfied p there c) refl refl h
    where
      m : meaning_of c.pred ≡ clause
      m = clause_only (meaning_of c.pred) e

      none : (vs : List ℤ) → own_values vs c ≡ [] → entailed_by c (laid g here) ≡ entailed_by c (laid g there)
      none vs k = entailed_same c (laid g here) (laid g there) (λ x n. absurd (none_of (λ y. slice_index_or vs y (pos 0)) (variables_of c.args) x k n))

      by : (s t : Bool) → is_satisfied p here c ≡ s → is_satisfied p there c ≡ t → cond s [] (own_values here c) ≡ cond t [] (own_values there c) → entailed_by c (laid g here) ≡ entailed_by c (laid g there)
      by true true q r k = satisfied_entails g p here c m q ∙ sym (satisfied_entails g p there c m r)
      by true false q r k = none there (sym k)
      by false true q r k = none here k
      by false false q r k =
          entailed_same c (laid g here) (laid g there)
          (λ x n. left_same g here there size x (same_at (λ y. slice_index_or here y (pos 0)) (λ y. slice_index_or there y (pos 0)) (variables_of c.args) x k n))

  pub seen_entailed : is_constraint g.variables c ≡ true → tells c ≡ true → sees g i here c ≡ sees g i there c → entailed_by c (laid g here) ≡ entailed_by c (laid g there)
  seen_entailed valid t h = by (reading c) refl t h
    where
      one : (u v : ℤ) → u ∷ [] ≡ v ∷ [] → u ≡ v
      one u v e = cc

      by : (r : Reading) → reading c ≡ r → is_telling r ≡ true → seen_as r p here c ≡ seen_as r p there c → entailed_by c (laid g here) ≡ entailed_by c (laid g there)
      by as_sum e t h = sum_entails g here there size c.args (one (known_sum here c) (known_sum there c) h) (sum_literal g.variables c valid e) (meaning_of c.pred) e
      by as_plus e t h = plus_entails g here there size c.args (one (known_plus here c) (known_plus there c) h) (meaning_of c.pred) e
      by as_clause e t h = clause_entails e h
      by by_value e t h = cc

-- so where all see the same of both positions, all views are the same
module _ (g : Game) (i : ℕ) (here there : List ℤ) (size : length here ≡ length there) where
  view_seen : (c : Rule) → is_constraint g.variables c ≡ true → seen_same g i here there c ≡ true → same_view g i here there c ≡ true
  view_seen c valid h = by (is_from i c) (tells c) refl refl
    where
      strip : (p q : Bool) → p ≡ true → (not p || q) ≡ true → q ≡ true
      strip true q e h = h
      strip false q e h = cc

      h_here : Bool
      h_here = entailed_by c (laid g here)

      h_there : Bool
      h_there = entailed_by c (laid g there)

      widen : (p q : Bool) → q ≡ true → (not p || q) ≡ true
      widen true q e = e
      widen false q e = refl

      by : (f t : Bool) → is_from i c ≡ f → tells c ≡ t → same_view g i here there c ≡ true
      by false t e m = view_other g i here there c e
      by true false e m =
          widen (is_from i c) (same_values (viewed g i here h_here c) (viewed g i there h_there c))
          (ap (λ us. same_values us (viewed g i there h_there c)) (no_sight g i here c h_here m) ∙ ap (same_values []) (no_sight g i there c h_there m))
      by true true e m =
          let s = same_lists (sees g i here c) (sees g i there c) (strip (is_from i c) (same_values (sees g i here c) (sees g i there c)) e h) in
          widen (is_from i c) (same_values (viewed g i here h_here c) (viewed g i there h_there c))
          (ap (λ p. same_values (cond p [] (sees g i here c)) (viewed g i there h_there c)) (seen_entailed g i here there size c valid m s)
          ∙ (ap (λ us. same_values (cond h_there [] us) (viewed g i there h_there c)) s ∙ same_itself (viewed g i there h_there c)))

  all_seen : (cs : List Rule) → list_all (is_constraint g.variables) cs ≡ true → list_all (seen_same g i here there) cs ≡ true → list_all (same_view g i here there) cs ≡ true
  all_seen [] v h = refl
  all_seen (c ∷ cs) v h =
      and_from (same_view g i here there c) (list_all (same_view g i here there) cs)
      (view_seen c (first (is_constraint g.variables c) (list_all (is_constraint g.variables) cs) v) (first (seen_same g i here there c) (list_all (seen_same g i here there) cs) h))
      (all_seen cs (second (is_constraint g.variables c) (list_all (is_constraint g.variables) cs) v) (second (seen_same g i here there c) (list_all (seen_same g i here there) cs) h))

  pub views_seen : list_all (is_constraint g.variables) g.constraints ≡ true → list_all (seen_same g i here there) g.constraints ≡ true → list_all (same_view g i here there) g.constraints ≡ true
  views_seen v h = all_seen g.constraints v h
