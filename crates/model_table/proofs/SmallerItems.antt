-- What is refuted stays so for smaller boxes: values and arrays.
use Rattle.std.proofs.Common.{◌≡◌, inl, inr, ℕ, suc, ◌≤◌, Bool, true, false, ◌&&◌, not, cond, List, [], ◌∷◌, length, refl, sym, ap, ap₂, ◌∙◌, subst, arith}
use Rattle.std.specs.Prelude.{ℤ, pos, ◌+ℤ◌, ◌-ℤ◌, ◌≤ℤ◌, int_le, int_lt}
use Rattle.std.specs.Ordering.{int_eq}
use Rattle.std.specs.List.{list_any, list_all, count_by}
use Rattle.std.proofs.lemmas.Int.{ints}
use Rattle.std.proofs.lemmas.Bool.{or_cases, or_left, or_right, and_from, true_from_ne_false, and_parts}
use Rattle.qc_model.specs.Lists.{Among}
use Rattle.qc_model.specs.Domains.{Values, least_value, greatest_value, has_value, misses, is_single}
use Rattle.qc_model.specs.Ranges.{Range, point}
use Rattle.qc_model.specs.Left.{span, are_one_value, some_item_in, some_item_meets, least_range, greatest_range, least_item_range, greatest_item_range, is_only, has_crowd, row_fits}
use Rattle.qc_model.proofs.Sound.{has_it}
use Rattle.model_table.proofs.Fits.{any_at, not_unless, both_false}
use Rattle.model_table.proofs.Items.{among_of, meets_at}
use Rattle.model_table.proofs.Crowded.{count_step, ends_within}
use Rattle.model_table.proofs.CrowdEnds.{crowd_of_ends, crowd_has_ends}
use Rattle.model_table.proofs.Parts.{IsPart, AreParts, span_low, span_high}
use Rattle.model_table.proofs.Inside.{Within, within, span_inside, smaller_within, greater_within}

-- what would pass with fewer values passes with more, so what fails with more fails with fewer
pub not_more : (a b : Bool) → (a ≡ true → b ≡ true) → not b ≡ true → not a ≡ true
not_more a b f n = not_unless a (λ h. both_false b (f h) n)

pub more_values : (d e : Values) → IsPart d e → (v : ℤ) → has_value d v ≡ true → has_value e v ≡ true
more_values d e p v h = has_it e v (p.each v (among_of v d h))

share : (d e : Values) → not (misses d e) ≡ true → (v : ℤ) × Among v d × Among v e
share d e n = shared (any_at (has_value e) d (twice (list_any (has_value e) d) n))
  where
    twice : (b : Bool) → not (not b) ≡ true → b ≡ true
    twice true e = refl
    twice false e = e

    shared : ((v : ℤ) × Among v d × (has_value e v ≡ true)) → (v : ℤ) × Among v d × Among v e
    shared r = (r.0, r.1, among_of r.0 e r.2)

pub still_misses : (a b c d : Values) → IsPart a b → IsPart c d → misses b d ≡ true → misses a c ≡ true
still_misses a b c d p q m = by (misses a c) refl
  where
    by : (t : Bool) → misses a c ≡ t → t ≡ true
    by true e = refl
    by false e = let r = share a c (ap not e) in absurd (both_false (misses b d) m (meets_at b d r.0 (p.each r.0 r.1) (q.each r.0 r.2)))

more_meet : (a b c d : Values) → IsPart a b → IsPart c d → not (misses a c) ≡ true → not (misses b d) ≡ true
more_meet a b c d p q n = let r = share a c n in meets_at b d r.0 (p.each r.0 r.1) (q.each r.0 r.2)

pub still_one_value : (a b c d : Values) → IsPart a b → IsPart c d → are_one_value b d ≡ true → are_one_value a c ≡ true
still_one_value a b c d p q e =
    let r = and_parts (is_single b && is_single d) (int_eq (least_value b) (least_value d)) e in
    let s = and_parts (is_single b) (is_single d) r.0 in
    subst (λ (x : Values). are_one_value x c ≡ true) (sym (p.only s.0)) (subst (λ (x : Values). are_one_value b x ≡ true) (sym (q.only s.1)) e)

still_only : (n : ℤ) (d e : Values) → IsPart d e → is_only n e ≡ true → is_only n d ≡ true
still_only n d e p o = ap (is_only n) (p.only (and_parts (is_single e) (int_eq (least_value e) n) o).0) ∙ o

pub still_all_only : (n : ℤ) (ds es : List Values) → AreParts ds es → list_all (is_only n) es ≡ true → list_all (is_only n) ds ≡ true
still_all_only n [] [] p e = refl
still_all_only n [] (e ∷ es) p o = absurd p
still_all_only n (d ∷ ds) [] p e = absurd p
still_all_only n (d ∷ ds) (e ∷ es) p o =
    let q = and_parts (is_only n e) (list_all (is_only n) es) o in
    and_from (is_only n d) (list_all (is_only n) ds) (still_only n d e p.0 q.0) (still_all_only n ds es p.1 q.1)

pub still_some_only : (n : ℤ) (ds es : List Values) → AreParts ds es → list_any (is_only n) es ≡ true → list_any (is_only n) ds ≡ true
still_some_only n [] [] p e = e
still_some_only n [] (e ∷ es) p o = absurd p
still_some_only n (d ∷ ds) [] p e = absurd p
still_some_only n (d ∷ ds) (e ∷ es) p o =
    elim (or_cases (is_only n e) (list_any (is_only n) es) o) [
      | inl q ↦ or_left (is_only n d) (list_any (is_only n) ds) (still_only n d e p.0 q)
      | inr q ↦ or_right (is_only n d) (list_any (is_only n) ds) (still_some_only n ds es p.1 q)
    ]

pub all_same : (ds es : List Values) → AreParts ds es → list_all is_single es ≡ true → ds ≡ es
all_same [] [] p e = refl
all_same [] (e ∷ es) p o = absurd p
all_same (d ∷ ds) [] p e = absurd p
all_same (d ∷ ds) (e ∷ es) p o = let q = and_parts (is_single e) (list_all is_single es) o in ap₂ ◌∷◌ (p.0.only q.0) (all_same ds es p.1 q.1)

pub more_items : (k : ℤ) (a b c d : Values) (ns : List ℤ) → IsPart a b → IsPart c d → some_item_in k a ns c ≡ true → some_item_in k b ns d ≡ true
more_items k a b c d [] p q e = e
more_items k a b c d (n ∷ ns) p q e =
    elim (or_cases (has_value a k && has_value c n) (some_item_in (k +ℤ pos 1) a ns c) e) [
      | inl h ↦ (let r = and_parts (has_value a k) (has_value c n) h in
          or_left (has_value b k && has_value d n) (some_item_in (k +ℤ pos 1) b ns d) (and_from (has_value b k) (has_value d n) (more_values a b p k r.0) (more_values c d q n r.1)))
      | inr h ↦ or_right (has_value b k && has_value d n) (some_item_in (k +ℤ pos 1) b ns d) (more_items (k +ℤ pos 1) a b c d ns p q h)
    ]

pub more_variable_items : (k : ℤ) (a b c d : Values) (ds es : List Values) → IsPart a b → IsPart c d → AreParts ds es → some_item_meets k a ds c ≡ true → some_item_meets k b es d ≡ true
more_variable_items k a b c d [] [] p q s e = e
more_variable_items k a b c d [] (y ∷ es) p q s e = absurd s
more_variable_items k a b c d (x ∷ ds) [] p q s e = absurd s
more_variable_items k a b c d (x ∷ ds) (y ∷ es) p q s e =
    elim (or_cases (has_value a k && not (misses x c)) (some_item_meets (k +ℤ pos 1) a ds c) e) [
      | inl h ↦ (let r = and_parts (has_value a k) (not (misses x c)) h in
          or_left (has_value b k && not (misses y d)) (some_item_meets (k +ℤ pos 1) b es d) (and_from (has_value b k) (not (misses y d)) (more_values a b p k r.0) (more_meet x y c d s.0 q r.1)))
      | inr h ↦ or_right (has_value b k && not (misses y d)) (some_item_meets (k +ℤ pos 1) b es d) (more_variable_items (k +ℤ pos 1) a b c d ds es p q s.1 h)
    ]

pub least_within : (r s : Range) (ds es : List Values) → Within r s → AreParts ds es → Within (least_range r ds) (least_range s es)
least_within r s [] [] w p = w
least_within r s [] (e ∷ es) w p = absurd p
least_within r s (d ∷ ds) [] w p = absurd p
least_within r s (d ∷ ds) (e ∷ es) w p =
    smaller_within (span d) (span e) (least_range r ds) (least_range s es) (within (span d) (span e) (span_inside d e p.0)) (least_within r s ds es w p.1)

pub greatest_within : (r s : Range) (ds es : List Values) → Within r s → AreParts ds es → Within (greatest_range r ds) (greatest_range s es)
greatest_within r s [] [] w p = w
greatest_within r s [] (e ∷ es) w p = absurd p
greatest_within r s (d ∷ ds) [] w p = absurd p
greatest_within r s (d ∷ ds) (e ∷ es) w p =
    greater_within (span d) (span e) (greatest_range r ds) (greatest_range s es) (within (span d) (span e) (span_inside d e p.0)) (greatest_within r s ds es w p.1)

pub itself : (r : Range) → Within r r
itself r = record { low = omega (arith, ints); high = omega (arith, ints) }

pub least_items_within : (ds es : List Values) → AreParts ds es → Within (least_item_range ds) (least_item_range es)
least_items_within [] [] p = itself (point (pos 0))
least_items_within [] (e ∷ es) p = absurd p
least_items_within (d ∷ ds) [] p = absurd p
least_items_within (d ∷ ds) (e ∷ es) p = least_within (span d) (span e) ds es (within (span d) (span e) (span_inside d e p.0)) p.1

pub greatest_items_within : (ds es : List Values) → AreParts ds es → Within (greatest_item_range ds) (greatest_item_range es)
greatest_items_within [] [] p = itself (point (pos 0))
greatest_items_within [] (e ∷ es) p = absurd p
greatest_items_within (d ∷ ds) [] p = absurd p
greatest_items_within (d ∷ ds) (e ∷ es) p = greatest_within (span d) (span e) ds es (within (span d) (span e) (span_inside d e p.0)) p.1

-- an item whose ends lie within l..h keeps them there
still_within : (l h : ℤ) (d e : Values) → IsPart d e → cond (ends_within l h e) 1 0 ≤ cond (ends_within l h d) 1 0
still_within l h d e p = by (span_low d e p) (span_high d e p) (int_le l (least_value e)) refl (int_le (greatest_value e) h) refl (int_le l (least_value d)) refl (int_le (greatest_value d) h) refl
  where
    by : least_value e ≤ℤ least_value d → greatest_value d ≤ℤ greatest_value e → (s : Bool) → int_le l (least_value e) ≡ s → (t : Bool) → int_le (greatest_value e) h ≡ t → (u : Bool) → int_le l (least_value d) ≡ u → (v : Bool) → int_le (greatest_value d) h ≡ v → cond (s && t) 1 0 ≤ cond (u && v) 1 0
    by a b true s true t true u true v = omega arith
    by a b true s true t true u false v = absurd (omega (arith, ints))
    by a b true s true t false u v w = absurd (omega (arith, ints))
    by a b true s false t u v w x = omega arith
    by a b false s t u v w x y = omega arith

count_still : (l h : ℤ) (ds es : List Values) → AreParts ds es → count_by (ends_within l h) es ≤ count_by (ends_within l h) ds
count_still l h [] [] p = omega arith
count_still l h [] (e ∷ es) p = absurd p
count_still l h (d ∷ ds) [] p = absurd p
count_still l h (d ∷ ds) (e ∷ es) p =
    omega (arith, count_step (ends_within l h) d ds, count_step (ends_within l h) e es, still_within l h d e p.0, count_still l h ds es p.1)

pub still_crowd : (ds es : List Values) → AreParts ds es → has_crowd es ≡ true → has_crowd ds ≡ true
still_crowd ds es p e =
    let r = crowd_has_ends es e in
    let q = and_parts (int_le r.0 r.1) (int_lt ((r.1 -ℤ r.0) +ℤ pos 1) (pos (count_by (ends_within r.0 r.1) es))) r.2 in
    crowd_of_ends ds r.0 r.1
    (and_from (int_le r.0 r.1) (int_lt ((r.1 -ℤ r.0) +ℤ pos 1) (pos (count_by (ends_within r.0 r.1) ds))) q.0
    (fewer (r.1 -ℤ r.0) (count_by (ends_within r.0 r.1) es) (count_by (ends_within r.0 r.1) ds) q.1 (count_still r.0 r.1 ds es p)))
  where
    fewer : (n : ℤ) (c d : ℕ) → int_lt (n +ℤ pos 1) (pos c) ≡ true → c ≤ d → int_lt (n +ℤ pos 1) (pos d) ≡ true
    fewer n c d e l = true_from_ne_false (int_lt (n +ℤ pos 1) (pos d)) (λ z. omega (arith, ints))

pub same_length : (ds es : List Values) → AreParts ds es → length ds ≡ length es
same_length [] [] p = refl
same_length [] (e ∷ es) p = absurd p
same_length (d ∷ ds) [] p = absurd p
same_length (d ∷ ds) (e ∷ es) p = ap suc (same_length ds es p.1)

pub more_rows : (ds es : List Values) (row : List ℤ) → AreParts ds es → row_fits ds row ≡ true → row_fits es row ≡ true
more_rows [] [] row p e = e
more_rows [] (e ∷ es) row p o = absurd p
more_rows (d ∷ ds) [] row p e = absurd p
more_rows (d ∷ ds) (e ∷ es) [] p o = o
more_rows (d ∷ ds) (e ∷ es) (n ∷ row) p o =
    let q = and_parts (has_value d n) (row_fits ds row) o in
    and_from (has_value e n) (row_fits es row) (more_values d e p.0 n q.0) (more_rows ds es row p.1 q.1)
