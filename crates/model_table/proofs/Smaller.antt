-- Where a constraint refutes a box, it refutes every smaller box without an empty domain.
use Rattle.std.proofs.Common.{◌≡◌, inl, inr, ℕ, Bool, true, false, ◌&&◌, ◌||◌, not, List, [], ◌∷◌, length, map, refl, sym, ◌∙◌, subst, arith, slice_get, Some}
use Rattle.std.specs.Prelude.{ℤ, pos, ◌≤ℤ◌, int_lt, int_le, ⊤}
use Rattle.std.specs.Ordering.{int_eq}
use Rattle.std.specs.List.{list_any, list_all}
use Rattle.std.proofs.lemmas.Int.{ints}
use Rattle.std.proofs.lemmas.Bool.{and_parts, or_cases, or_left, or_right, and_from, true_from_ne_false}
use Rattle.qc_model.specs.declared.problem.Set.{Set}
use Rattle.qc_model.specs.Content.{Game, Rule}
use Rattle.qc_model.specs.Lists.{Among}
use Rattle.qc_model.specs.Domains.{Values, Box, least_value, greatest_value, has_value, is_single, set_has, is_sub_box, has_empty}
use Rattle.qc_model.specs.Ranges.{Range, point, is_point, ranges_miss, range_sum, product, absolute_range, smaller_range, greater_range, quotient_range, remainder_range}
use Rattle.qc_model.specs.Arguments.{numbers, members}
use Rattle.qc_model.specs.Meaning.{Meaning, equal, different, at_most, below, sum_equal, sum_different, sum_at_most, plus, times, absolute_value, smaller, greater, quotient, remainder, element, variable_element, minimum, maximum, member, both, either, exactly_one, all_items, some_item, odd_items, clause, all_different, table, reified, meaning_of}
use Rattle.qc_model.specs.Holds.{rows, odd_ones, same_truth, is_one}
use Rattle.qc_model.specs.Left.{Lefts, left_at, lefts_at, last_left, range_at, sum_at, some_item_in, some_item_meets, least_range, greatest_range, least_item_range, greatest_item_range, is_only, row_fits}
use Rattle.qc_model.specs.Entailed.{entailed_as}
use Rattle.qc_model.specs.Refuted.{refuted_as, refuted_by}
use Rattle.qc_model.specs.Valid.{IsValid, have_lengths, is_sum}
use Rattle.qc_model.specs.declared.problem.Argument.{Argument}
use Rattle.qc_model.specs.Visible.{ArgumentsBelow}
use Rattle.qc_model.proofs.Sound.{differ}
use Rattle.model_table.proofs.Typing.{is_contradicted, is_wrong_xor}
use Rattle.model_table.proofs.Fits.{any_at, any_from, all_at}
use Rattle.model_table.proofs.Typed.{lefts_of}
use Rattle.model_table.proofs.Kinded.{sum_literal, has_lengths}
use Rattle.model_table.proofs.Ordered.{constraint_at}
use Rattle.model_table.proofs.Parts.{IsPart, AreParts, Parts, part_at, parts_at, last_part, same_numbers, same_members, lefts_parts, span_low, span_high}
use Rattle.model_table.proofs.Inside.{Within, Inside, within, range_inside, still_miss, still_point, sum_inside, product_inside, given_sums_inside, absolute_within, smaller_within, greater_within}
use Rattle.model_table.proofs.InsideQuotients.{quotient_inside, remainder_within, still_divided}
use Rattle.model_table.proofs.SmallerItems.{not_more, more_values, still_misses, still_one_value, still_all_only, still_some_only, all_same, more_items, more_variable_items, least_within, greatest_within, least_items_within, greatest_items_within, itself, still_crowd, same_length, more_rows}

-- the two arguments that are numbers in a sum, which no box makes smaller
module _ (ds es : Lefts) (p : Parts ds es) where
  inside_at : (k : ℕ) → Inside (range_at ds k) (range_at es k)
  inside_at k = range_inside ds es p k

  within_at : (k : ℕ) → Within (range_at ds k) (range_at es k)
  within_at k = within (range_at ds k) (range_at es k) (inside_at k)

  -- a result whose range narrows with those of the first two arguments
  still_apart : (range : Range → Range → Range) → Within (range (range_at ds 0) (range_at ds 1)) (range (range_at es 0) (range_at es 1)) → ranges_miss (range (range_at es 0) (range_at es 1)) (range_at es 2) ≡ true → ranges_miss (range (range_at ds 0) (range_at ds 1)) (range_at ds 2) ≡ true
  still_apart range w e = still_miss (range (range_at ds 0) (range_at ds 1)) (range (range_at es 0) (range_at es 1)) (range_at ds 2) (range_at es 2) w (within_at 2) e

  same_literal : left_at ds 2 ≡ left_at es 2 → is_point (least_value (left_at es 2)) (sum_at es) ≡ true → is_point (least_value (left_at ds 2)) (sum_at ds) ≡ true
  same_literal l e =
      subst (λ (d : Values). is_point (least_value d) (sum_at ds) ≡ true) (sym l) (still_point (least_value (left_at es 2)) (sum_at ds) (sum_at es) (given_sums_inside ds es p) e)

  sums_still_miss : ranges_miss (sum_at es) (range_at es 2) ≡ true → ranges_miss (sum_at ds) (range_at ds 2) ≡ true
  sums_still_miss e = still_miss (sum_at ds) (sum_at es) (range_at ds 2) (range_at es 2) (within (sum_at ds) (sum_at es) (given_sums_inside ds es p)) (within_at 2) e

  still_member : not (list_any (set_has (members es 1)) (left_at es 0)) ≡ true → not (list_any (set_has (members ds 1)) (left_at ds 0)) ≡ true
  still_member e =
      subst (λ (s : Set). not (list_any (set_has s) (left_at ds 0)) ≡ true) (sym (same_members ds es 1 p))
      (not_more (list_any (set_has (members es 1)) (left_at ds 0)) (list_any (set_has (members es 1)) (left_at es 0)) more e)
    where
      more : list_any (set_has (members es 1)) (left_at ds 0) ≡ true → list_any (set_has (members es 1)) (left_at es 0) ≡ true
      more h = let r = any_at (set_has (members es 1)) (left_at ds 0) h in any_from (set_has (members es 1)) (left_at es 0) r.0 ((part_at ds es 0 p).each r.0 r.1) r.2

  still_all_in : list_all (set_has (members es 1)) (left_at es 0) ≡ true → list_all (set_has (members ds 1)) (left_at ds 0) ≡ true
  still_all_in e =
      subst (λ (s : Set). list_all (set_has s) (left_at ds 0) ≡ true) (sym (same_members ds es 1 p))
      (all_from (left_at ds 0) (λ v m. all_at (set_has (members es 1)) (left_at es 0) v e ((part_at ds es 0 p).each v m)))
    where
      all_from : (d : Values) → ((v : ℤ) → Among v d → set_has (members es 1) v ≡ true) → list_all (set_has (members es 1)) d ≡ true
      all_from [] f = refl
      all_from (v ∷ d) f = and_from (set_has (members es 1) v) (list_all (set_has (members es 1)) d) (f v (inl refl)) (all_from d (λ w m. f w (inr m)))

  still_truth : (refuted entailed refuted_still entailed_still : Bool) → (refuted ≡ true → refuted_still ≡ true) → (entailed ≡ true → entailed_still ≡ true) → is_contradicted (last_left es) refuted entailed ≡ true → is_contradicted (last_left ds) refuted_still entailed_still ≡ true
  still_truth refuted entailed refuted_still entailed_still f g e =
      let q = and_parts (not (has_value (last_left es) (pos 1)) || refuted) (not (has_value (last_left es) (pos 0)) || entailed) e in
      and_from (not (has_value (last_left ds) (pos 1)) || refuted_still) (not (has_value (last_left ds) (pos 0)) || entailed_still)
      (either_still (pos 1) refuted refuted_still f q.0) (either_still (pos 0) entailed entailed_still g q.1)
    where
      either_still : (n : ℤ) (a b : Bool) → (a ≡ true → b ≡ true) → (not (has_value (last_left es) n) || a) ≡ true → (not (has_value (last_left ds) n) || b) ≡ true
      either_still n a b f e =
          elim (or_cases (not (has_value (last_left es) n)) a e) [
            | inl h ↦ or_left (not (has_value (last_left ds) n)) b (not_more (has_value (last_left ds) n) (has_value (last_left es) n) (more_values (last_left ds) (last_left es) (last_part ds es p) n) h)
            | inr h ↦ or_right (not (has_value (last_left ds) n)) b (f h)
          ]

  lows : (k : ℕ) → least_value (left_at es k) ≤ℤ least_value (left_at ds k)
  lows k = span_low (left_at ds k) (left_at es k) (part_at ds es k p)

  highs : (k : ℕ) → greatest_value (left_at ds k) ≤ℤ greatest_value (left_at es k)
  highs k = span_high (left_at ds k) (left_at es k) (part_at ds es k p)

-- single values stay
still_xor : (a b c x y z : Values) → IsPart a x → IsPart b y → IsPart c z → is_wrong_xor x y z ≡ true → is_wrong_xor a b c ≡ true
still_xor a b c x y z p q r e =
    let s = and_parts (is_single x && is_single y && is_single z) (not (same_truth (is_one (least_value z)) (not (int_eq (least_value x) (least_value y))))) e in
    let t = and_parts (is_single x && is_single y) (is_single z) s.0 in
    let u = and_parts (is_single x) (is_single y) t.0 in
    subst (λ (k : Values). is_wrong_xor k b c ≡ true) (sym (p.only u.0)) (subst (λ (k : Values). is_wrong_xor x k c ≡ true) (sym (q.only u.1)) (subst (λ (k : Values). is_wrong_xor x y k ≡ true) (sym (r.only t.1)) e))

-- the number of a sum, the same in both boxes
abbrev pub Literals : Meaning → Lefts → Lefts → Type 0
Literals sum_equal ds es = left_at ds 2 ≡ left_at es 2
Literals sum_different ds es = left_at ds 2 ≡ left_at es 2
Literals (reified m) ds es = Literals m ds es
Literals _ ds es = ⊤

still_at_most : (a b c d : ℤ) → a ≤ℤ b → c ≤ℤ d → int_le b c ≡ true → int_le a d ≡ true
still_at_most a b c d p q e = true_from_ne_false (int_le a d) (λ z. omega (arith, ints))

still_below : (a b c d : ℤ) → a ≤ℤ b → c ≤ℤ d → int_lt b c ≡ true → int_lt a d ≡ true
still_below a b c d p q e = true_from_ne_false (int_lt a d) (λ z. omega (arith, ints))

pub still_entailed : (m : Meaning) (ds es : Lefts) → Parts ds es → Literals m ds es → entailed_as m es ≡ true → entailed_as m ds ≡ true
still_entailed equal ds es p l e = still_one_value (left_at ds 0) (left_at es 0) (left_at ds 1) (left_at es 1) (part_at ds es 0 p) (part_at ds es 1 p) e
still_entailed different ds es p l e = still_misses (left_at ds 0) (left_at es 0) (left_at ds 1) (left_at es 1) (part_at ds es 0 p) (part_at ds es 1 p) e
still_entailed at_most ds es p l e = still_at_most (greatest_value (left_at ds 0)) (greatest_value (left_at es 0)) (least_value (left_at es 1)) (least_value (left_at ds 1)) (highs ds es p 0) (lows ds es p 1) e
still_entailed below ds es p l e = still_below (greatest_value (left_at ds 0)) (greatest_value (left_at es 0)) (least_value (left_at es 1)) (least_value (left_at ds 1)) (highs ds es p 0) (lows ds es p 1) e
still_entailed sum_equal ds es p l e = same_literal ds es p l e
still_entailed sum_different ds es p l e = sums_still_miss ds es p e
still_entailed sum_at_most ds es p l e = still_at_most (sum_at ds).to (sum_at es).to (least_value (left_at es 2)) (least_value (left_at ds 2)) (given_sums_inside ds es p).high (lows ds es p 2) e
still_entailed member ds es p l e = still_all_in ds es p e
still_entailed clause ds es p l e =
    elim (or_cases (list_any (is_only (pos 1)) (lefts_at es 0)) (list_any (is_only (pos 0)) (lefts_at es 1)) e) [
      | inl q ↦ or_left (list_any (is_only (pos 1)) (lefts_at ds 0)) (list_any (is_only (pos 0)) (lefts_at ds 1)) (still_some_only (pos 1) (lefts_at ds 0) (lefts_at es 0) (parts_at ds es 0 p) q)
      | inr q ↦ or_right (list_any (is_only (pos 1)) (lefts_at ds 0)) (list_any (is_only (pos 0)) (lefts_at ds 1)) (still_some_only (pos 0) (lefts_at ds 1) (lefts_at es 1) (parts_at ds es 1 p) q)
    ]
still_entailed m ds es p l e = absurd (differ e)

pub still_refuted : (m : Meaning) (ds es : Lefts) → Parts ds es → Literals m ds es → refuted_as m es ≡ true → refuted_as m ds ≡ true
still_refuted equal ds es p l e = still_misses (left_at ds 0) (left_at es 0) (left_at ds 1) (left_at es 1) (part_at ds es 0 p) (part_at ds es 1 p) e
still_refuted different ds es p l e = still_one_value (left_at ds 0) (left_at es 0) (left_at ds 1) (left_at es 1) (part_at ds es 0 p) (part_at ds es 1 p) e
still_refuted at_most ds es p l e = still_below (greatest_value (left_at ds 1)) (greatest_value (left_at es 1)) (least_value (left_at es 0)) (least_value (left_at ds 0)) (highs ds es p 1) (lows ds es p 0) e
still_refuted below ds es p l e = still_at_most (greatest_value (left_at ds 1)) (greatest_value (left_at es 1)) (least_value (left_at es 0)) (least_value (left_at ds 0)) (highs ds es p 1) (lows ds es p 0) e
still_refuted sum_equal ds es p l e = sums_still_miss ds es p e
still_refuted sum_different ds es p l e = same_literal ds es p l e
still_refuted sum_at_most ds es p l e = still_below (greatest_value (left_at ds 2)) (greatest_value (left_at es 2)) (sum_at es).from (sum_at ds).from (highs ds es p 2) (given_sums_inside ds es p).low e
still_refuted plus ds es p l e = still_apart ds es p range_sum (within (range_sum (range_at ds 0) (range_at ds 1)) (range_sum (range_at es 0) (range_at es 1)) (sum_inside (range_at ds 0) (range_at es 0) (range_at ds 1) (range_at es 1) (inside_at ds es p 0) (inside_at ds es p 1))) e
still_refuted times ds es p l e = still_apart ds es p product (within (product (range_at ds 0) (range_at ds 1)) (product (range_at es 0) (range_at es 1)) (product_inside (range_at ds 0) (range_at es 0) (range_at ds 1) (range_at es 1) (inside_at ds es p 0) (inside_at ds es p 1))) e
still_refuted absolute_value ds es p l e = still_miss (absolute_range (range_at ds 0)) (absolute_range (range_at es 0)) (range_at ds 1) (range_at es 1) (absolute_within (range_at ds 0) (range_at es 0) (inside_at ds es p 0)) (within_at ds es p 1) e
still_refuted smaller ds es p l e = still_apart ds es p smaller_range (smaller_within (range_at ds 0) (range_at es 0) (range_at ds 1) (range_at es 1) (within_at ds es p 0) (within_at ds es p 1)) e
still_refuted greater ds es p l e = still_apart ds es p greater_range (greater_within (range_at ds 0) (range_at es 0) (range_at ds 1) (range_at es 1) (within_at ds es p 0) (within_at ds es p 1)) e
still_refuted quotient ds es p l e =
    still_divided quotient_range (λ a b c d i j z. within (quotient_range a c) (quotient_range b d) (quotient_inside a b c d i j z))
    (range_at ds 0) (range_at es 0) (range_at ds 1) (range_at es 1) (range_at ds 2) (range_at es 2) (inside_at ds es p 0) (inside_at ds es p 1) (inside_at ds es p 2) e
still_refuted remainder ds es p l e =
    still_divided remainder_range remainder_within
    (range_at ds 0) (range_at es 0) (range_at ds 1) (range_at es 1) (range_at ds 2) (range_at es 2) (inside_at ds es p 0) (inside_at ds es p 1) (inside_at ds es p 2) e
still_refuted element ds es p l e =
    subst (λ (ns : List ℤ). not (some_item_in (pos 1) (left_at ds 0) ns (left_at ds 2)) ≡ true) (sym (same_numbers ds es 1 p))
    (not_more (some_item_in (pos 1) (left_at ds 0) (numbers es 1) (left_at ds 2)) (some_item_in (pos 1) (left_at es 0) (numbers es 1) (left_at es 2))
    (more_items (pos 1) (left_at ds 0) (left_at es 0) (left_at ds 2) (left_at es 2) (numbers es 1) (part_at ds es 0 p) (part_at ds es 2 p)) e)
still_refuted variable_element ds es p l e =
    not_more (some_item_meets (pos 1) (left_at ds 0) (lefts_at ds 1) (left_at ds 2)) (some_item_meets (pos 1) (left_at es 0) (lefts_at es 1) (left_at es 2))
    (more_variable_items (pos 1) (left_at ds 0) (left_at es 0) (left_at ds 2) (left_at es 2) (lefts_at ds 1) (lefts_at es 1) (part_at ds es 0 p) (part_at ds es 2 p) (parts_at ds es 1 p)) e
still_refuted minimum ds es p l e = still_miss (least_item_range (lefts_at ds 1)) (least_item_range (lefts_at es 1)) (range_at ds 0) (range_at es 0) (least_items_within (lefts_at ds 1) (lefts_at es 1) (parts_at ds es 1 p)) (within_at ds es p 0) e
still_refuted maximum ds es p l e = still_miss (greatest_item_range (lefts_at ds 1)) (greatest_item_range (lefts_at es 1)) (range_at ds 0) (range_at es 0) (greatest_items_within (lefts_at ds 1) (lefts_at es 1) (parts_at ds es 1 p)) (within_at ds es p 0) e
still_refuted member ds es p l e = still_member ds es p e
still_refuted both ds es p l e = still_apart ds es p smaller_range (smaller_within (range_at ds 0) (range_at es 0) (range_at ds 1) (range_at es 1) (within_at ds es p 0) (within_at ds es p 1)) e
still_refuted either ds es p l e = still_apart ds es p greater_range (greater_within (range_at ds 0) (range_at es 0) (range_at ds 1) (range_at es 1) (within_at ds es p 0) (within_at ds es p 1)) e
still_refuted exactly_one ds es p l e = still_xor (left_at ds 0) (left_at ds 1) (left_at ds 2) (left_at es 0) (left_at es 1) (left_at es 2) (part_at ds es 0 p) (part_at ds es 1 p) (part_at ds es 2 p) e
still_refuted all_items ds es p l e = still_miss (least_range (point (pos 1)) (lefts_at ds 0)) (least_range (point (pos 1)) (lefts_at es 0)) (range_at ds 1) (range_at es 1) (least_within (point (pos 1)) (point (pos 1)) (lefts_at ds 0) (lefts_at es 0) (itself (point (pos 1))) (parts_at ds es 0 p)) (within_at ds es p 1) e
still_refuted some_item ds es p l e = still_miss (greatest_range (point (pos 0)) (lefts_at ds 0)) (greatest_range (point (pos 0)) (lefts_at es 0)) (range_at ds 1) (range_at es 1) (greatest_within (point (pos 0)) (point (pos 0)) (lefts_at ds 0) (lefts_at es 0) (itself (point (pos 0))) (parts_at ds es 0 p)) (within_at ds es p 1) e
still_refuted odd_items ds es p l e =
    let q = and_parts (list_all is_single (lefts_at es 0)) (not (odd_ones (map least_value (lefts_at es 0)))) e in
    subst (λ (xs : List Values). (list_all is_single xs && not (odd_ones (map least_value xs))) ≡ true) (sym (all_same (lefts_at ds 0) (lefts_at es 0) (parts_at ds es 0 p) q.0)) e
still_refuted clause ds es p l e =
    let q = and_parts (list_all (is_only (pos 0)) (lefts_at es 0)) (list_all (is_only (pos 1)) (lefts_at es 1)) e in
    and_from (list_all (is_only (pos 0)) (lefts_at ds 0)) (list_all (is_only (pos 1)) (lefts_at ds 1))
    (still_all_only (pos 0) (lefts_at ds 0) (lefts_at es 0) (parts_at ds es 0 p) q.0) (still_all_only (pos 1) (lefts_at ds 1) (lefts_at es 1) (parts_at ds es 1 p) q.1)
still_refuted all_different ds es p l e = still_crowd (lefts_at ds 0) (lefts_at es 0) (parts_at ds es 0 p) e
still_refuted table ds es p l e =
    let q = parts_at ds es 0 p in
    subst (λ (n : ℕ). not (list_any (row_fits (lefts_at ds 0)) (rows n (numbers ds 1))) ≡ true) (sym (same_length (lefts_at ds 0) (lefts_at es 0) q))
    (subst (λ (ns : List ℤ). not (list_any (row_fits (lefts_at ds 0)) (rows (length (lefts_at es 0)) ns)) ≡ true) (sym (same_numbers ds es 1 p))
    (not_more (list_any (row_fits (lefts_at ds 0)) (rows (length (lefts_at es 0)) (numbers es 1))) (list_any (row_fits (lefts_at es 0)) (rows (length (lefts_at es 0)) (numbers es 1))) (more q) e))
  where
    more : AreParts (lefts_at ds 0) (lefts_at es 0) → list_any (row_fits (lefts_at ds 0)) (rows (length (lefts_at es 0)) (numbers es 1)) ≡ true → list_any (row_fits (lefts_at es 0)) (rows (length (lefts_at es 0)) (numbers es 1)) ≡ true
    more q h =
        let r = any_at (row_fits (lefts_at ds 0)) (rows (length (lefts_at es 0)) (numbers es 1)) h in
        any_from (row_fits (lefts_at es 0)) (rows (length (lefts_at es 0)) (numbers es 1)) r.0 r.1 (more_rows (lefts_at ds 0) (lefts_at es 0) r.0 q r.2)
still_refuted (reified m) ds es p l e =
    still_truth ds es p (refuted_as m es) (entailed_as m es) (refuted_as m ds) (entailed_as m ds) (still_refuted m ds es p l) (still_entailed m ds es p l) e

same_thirds : (small large : Box) (args : List Argument) → is_sum args ≡ true → left_at (lefts_of small args) 2 ≡ left_at (lefts_of large args) 2
same_thirds small large args e = sum_literal [] small args e ∙ sym (sum_literal [] large args e)

literals_of : (m : Meaning) (small large : Box) (args : List Argument) → have_lengths m args ≡ true → Literals m (lefts_of small args) (lefts_of large args)
literals_of sum_equal small large args e = same_thirds small large args e
literals_of sum_different small large args e = same_thirds small large args e
literals_of (reified m) small large args e = literals_of m small large args e
literals_of m small large args e = tt

pub valid_smaller : (g : Game) → IsValid g → (k : ℕ) (c : Rule) (small large : Box) → slice_get g.constraints k ≡ Some c → ArgumentsBelow (length small) c.args → is_sub_box small large ≡ true → has_empty small ≡ false → refuted_by c large ≡ true → refuted_by c small ≡ true
valid_smaller g v k c small large e l s n r =
    still_refuted (meaning_of c.pred) (lefts_of small c.args) (lefts_of large c.args)
    (lefts_parts small large s n c.args l)
    (literals_of (meaning_of c.pred) small large c.args (has_lengths g.variables c (constraint_at g v k c e))) r
