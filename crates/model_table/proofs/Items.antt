-- The first law for arrays: elements, the least and the greatest item, rows of a table.
use Rattle.std.proofs.Common.{◌≡◌, inl, inr, ℕ, Bool, true, false, ◌&&◌, not, List, [], ◌∷◌, length, refl, sym, subst, arith}
use Rattle.std.specs.Prelude.{ℤ, pos, ◌+ℤ◌, int_le, ◌≤ℤ◌}
use Rattle.std.specs.Ordering.{int_eq}
use Rattle.std.specs.Int.{int_min, int_max}
use Rattle.std.specs.List.{list_any, list_all}
use Rattle.std.proofs.lemmas.Int.{ints, clamps}
use Rattle.std.proofs.lemmas.Bool.{or_cases, or_left, or_right, and_from, and_parts}
use Rattle.qc_model.specs.Lists.{Among, LiesIn, same_values}
use Rattle.qc_model.specs.Domains.{Values, has_value, misses}
use Rattle.qc_model.specs.Ranges.{Range}
use Rattle.qc_model.specs.Arguments.{numbers}
use Rattle.qc_model.specs.Meaning.{element, variable_element, minimum, maximum, table}
use Rattle.qc_model.specs.Holds.{Given, value_at, values_at, holds_as, item_is, is_least, is_greatest, rows}
use Rattle.qc_model.specs.Left.{Lefts, left_at, lefts_at, range_at, span, some_item_in, some_item_meets, least_range, greatest_range, least_item_range, greatest_item_range, row_fits}
use Rattle.qc_model.specs.Refuted.{refuted_as}
use Rattle.qc_model.proofs.Visible.{Fits, one_fits}
use Rattle.qc_model.proofs.Sound.{InRange, in_span, at_range, apart, differ, not_true, has_it, any_of, items_sound, is_false}
use Rattle.model_table.proofs.Fits.{many_fits, numbers_fit, length_fits, any_at, any_from}
use Rattle.model_table.proofs.Sums.{same_number}

pub element_sound : (vs : Given) (ds : Lefts) → Fits vs ds → refuted_as element ds ≡ true → holds_as element vs ≡ true → ⊥
element_sound vs ds f r h =
    items_sound (pos 1) (value_at vs 0) (value_at vs 2) (numbers ds 1) (left_at ds 0) (left_at ds 2) (one_fits vs ds 0 f) (one_fits vs ds 2 f)
    (is_false (some_item_in (pos 1) (left_at ds 0) (numbers ds 1) (left_at ds 2)) r)
    (subst (λ (ns : List ℤ). item_is (pos 1) (value_at vs 0) ns (value_at vs 2) ≡ true) (numbers_fit vs ds 1 f) h)

-- they share the value
pub meets_at : (d e : Values) (v : ℤ) → Among v d → Among v e → not (misses d e) ≡ true
meets_at d e v h k = twice (list_any (has_value e) d) (any_of (has_value e) d v h (has_it e v k))
  where
    twice : (b : Bool) → b ≡ true → not (not b) ≡ true
    twice true e = refl
    twice false e = e

item_meets : (k b c : ℤ) (vs : List ℤ) (ds : List Values) (d e : Values) → LiesIn vs ds → Among b d → Among c e → item_is k b vs c ≡ true → some_item_meets k d ds e ≡ true
item_meets k b c [] ds d e h m n t = absurd (differ t)
item_meets k b c (v ∷ vs) [] d e h m n t = absurd h
item_meets k b c (v ∷ vs) (f ∷ ds) d e h m n t =
    elim (or_cases (int_eq k b && int_eq v c) (item_is (k +ℤ pos 1) b vs c) t) [
      | inl q ↦ (let p = and_parts (int_eq k b) (int_eq v c) q in
          or_left (has_value d k && not (misses f e)) (some_item_meets (k +ℤ pos 1) d ds e)
          (and_from (has_value d k) (not (misses f e))
          (has_it d k (subst (λ (x : ℤ). Among x d) (sym (same_number k b p.0)) m))
          (meets_at f e v h.0 (subst (λ (x : ℤ). Among x e) (sym (same_number v c p.1)) n))))
      | inr q ↦ or_right (has_value d k && not (misses f e)) (some_item_meets (k +ℤ pos 1) d ds e) (item_meets (k +ℤ pos 1) b c vs ds d e h.1 m n q)
    ]

pub variable_element_sound : (vs : Given) (ds : Lefts) → Fits vs ds → refuted_as variable_element ds ≡ true → holds_as variable_element vs ≡ true → ⊥
variable_element_sound vs ds f r h =
    not_true (some_item_meets (pos 1) (left_at ds 0) (lefts_at ds 1) (left_at ds 2)) r
    (item_meets (pos 1) (value_at vs 0) (value_at vs 2) (values_at vs 1) (lefts_at ds 1) (left_at ds 0) (left_at ds 2) (many_fits vs ds 1 f) (one_fits vs ds 0 f) (one_fits vs ds 2 f) h)

-- an item is at least the least of the ends
least_low : (m : ℤ) (r : Range) (vs : List ℤ) (ds : List Values) → LiesIn vs ds → Among m vs → (least_range r ds).from ≤ℤ m
least_low m r [] ds h a = absurd a
least_low m r (v ∷ vs) [] h a = absurd h
least_low m r (v ∷ vs) (d ∷ ds) h (inl e) = let i = in_span v d h.0 in below (span d).from (least_range r ds).from m (omega (arith, ints, i.low))
  where
    below : (a b m : ℤ) → a ≤ℤ m → int_min a b ≤ℤ m
    below a b m h = omega (arith, ints, clamps)
least_low m r (v ∷ vs) (d ∷ ds) h (inr t) = below (span d).from (least_range r ds).from m (least_low m r vs ds h.1 t)
  where
    below : (a b m : ℤ) → b ≤ℤ m → int_min a b ≤ℤ m
    below a b m h = omega (arith, ints, clamps)

least_start : (m : ℤ) (r : Range) (ds : List Values) → r.from ≤ℤ m → (least_range r ds).from ≤ℤ m
least_start m r [] h = h
least_start m r (d ∷ ds) h = below (span d).from (least_range r ds).from m (least_start m r ds h)
  where
    below : (a b m : ℤ) → b ≤ℤ m → int_min a b ≤ℤ m
    below a b m h = omega (arith, ints, clamps)

least_high : (m : ℤ) (r : Range) (vs : List ℤ) (ds : List Values) → LiesIn vs ds → m ≤ℤ r.to → list_all (λ x. int_le m x) vs ≡ true → m ≤ℤ (least_range r ds).to
least_high m r [] [] h k a = k
least_high m r [] (d ∷ ds) h k a = absurd h
least_high m r (v ∷ vs) [] h k a = absurd h
least_high m r (v ∷ vs) (d ∷ ds) h k a =
    let p = and_parts (int_le m v) (list_all (λ x. int_le m x) vs) a in
    let i = in_span v d h.0 in
    above (span d).to (least_range r ds).to m (omega (arith, ints, i.high, p.0)) (least_high m r vs ds h.1 k p.1)
  where
    above : (a b m : ℤ) → m ≤ℤ a → m ≤ℤ b → m ≤ℤ int_min a b
    above a b m h k = omega (arith, ints, clamps)

greatest_high : (m : ℤ) (r : Range) (vs : List ℤ) (ds : List Values) → LiesIn vs ds → Among m vs → m ≤ℤ (greatest_range r ds).to
greatest_high m r [] ds h a = absurd a
greatest_high m r (v ∷ vs) [] h a = absurd h
greatest_high m r (v ∷ vs) (d ∷ ds) h (inl e) = let i = in_span v d h.0 in above (span d).to (greatest_range r ds).to m (omega (arith, ints, i.high))
  where
    above : (a b m : ℤ) → m ≤ℤ a → m ≤ℤ int_max a b
    above a b m h = omega (arith, ints, clamps)
greatest_high m r (v ∷ vs) (d ∷ ds) h (inr t) = above (span d).to (greatest_range r ds).to m (greatest_high m r vs ds h.1 t)
  where
    above : (a b m : ℤ) → m ≤ℤ b → m ≤ℤ int_max a b
    above a b m h = omega (arith, ints, clamps)

greatest_start : (m : ℤ) (r : Range) (ds : List Values) → m ≤ℤ r.to → m ≤ℤ (greatest_range r ds).to
greatest_start m r [] h = h
greatest_start m r (d ∷ ds) h = above (span d).to (greatest_range r ds).to m (greatest_start m r ds h)
  where
    above : (a b m : ℤ) → m ≤ℤ b → m ≤ℤ int_max a b
    above a b m h = omega (arith, ints, clamps)

greatest_low : (m : ℤ) (r : Range) (vs : List ℤ) (ds : List Values) → LiesIn vs ds → r.from ≤ℤ m → list_all (λ x. int_le x m) vs ≡ true → (greatest_range r ds).from ≤ℤ m
greatest_low m r [] [] h k a = k
greatest_low m r [] (d ∷ ds) h k a = absurd h
greatest_low m r (v ∷ vs) [] h k a = absurd h
greatest_low m r (v ∷ vs) (d ∷ ds) h k a =
    let p = and_parts (int_le v m) (list_all (λ x. int_le x m) vs) a in
    let i = in_span v d h.0 in
    below (span d).from (greatest_range r ds).from m (omega (arith, ints, i.low, p.0)) (greatest_low m r vs ds h.1 k p.1)
  where
    below : (a b m : ℤ) → a ≤ℤ m → b ≤ℤ m → int_max a b ≤ℤ m
    below a b m h k = omega (arith, ints, clamps)

-- the tested item is one
pub among_of : (m : ℤ) (vs : List ℤ) → list_any (int_eq m) vs ≡ true → Among m vs
among_of m [] e = absurd (differ e)
among_of m (v ∷ vs) e = elim (or_cases (int_eq m v) (list_any (int_eq m) vs) e) [ inl q ↦ inl (same_number m v q) | inr q ↦ inr (among_of m vs q) ]

least_in : (m : ℤ) (vs : List ℤ) (ds : List Values) → LiesIn vs ds → is_least m vs ≡ true → InRange m (least_item_range ds)
least_in m [] ds h e = absurd (differ e)
least_in m (v ∷ vs) [] h e = absurd h
least_in m (v ∷ vs) (d ∷ ds) h e =
    let p = and_parts (list_any (int_eq m) (v ∷ vs)) (list_all (λ x. int_le m x) (v ∷ vs)) e in
    let q = and_parts (int_le m v) (list_all (λ x. int_le m x) vs) p.1 in
    let i = in_span v d h.0 in
    record {
      low = elim (among_of m (v ∷ vs) p.0) [
        | inl s ↦ least_start m (span d) ds (subst (λ (x : ℤ). (span d).from ≤ℤ x) (sym s) i.low)
        | inr t ↦ least_low m (span d) vs ds h.1 t
      ];
      high = least_high m (span d) vs ds h.1 (omega (arith, ints, i.high, q.0)) q.1;
    }

greatest_in : (m : ℤ) (vs : List ℤ) (ds : List Values) → LiesIn vs ds → is_greatest m vs ≡ true → InRange m (greatest_item_range ds)
greatest_in m [] ds h e = absurd (differ e)
greatest_in m (v ∷ vs) [] h e = absurd h
greatest_in m (v ∷ vs) (d ∷ ds) h e =
    let p = and_parts (list_any (int_eq m) (v ∷ vs)) (list_all (λ x. int_le x m) (v ∷ vs)) e in
    let q = and_parts (int_le v m) (list_all (λ x. int_le x m) vs) p.1 in
    let i = in_span v d h.0 in
    record {
      low = greatest_low m (span d) vs ds h.1 (omega (arith, ints, i.low, q.0)) q.1;
      high = elim (among_of m (v ∷ vs) p.0) [
        | inl s ↦ greatest_start m (span d) ds (subst (λ (x : ℤ). x ≤ℤ (span d).to) (sym s) i.high)
        | inr t ↦ greatest_high m (span d) vs ds h.1 t
      ];
    }

pub minimum_sound : (vs : Given) (ds : Lefts) → Fits vs ds → refuted_as minimum ds ≡ true → holds_as minimum vs ≡ true → ⊥
minimum_sound vs ds f r h =
    apart (value_at vs 0) (least_item_range (lefts_at ds 1)) (range_at ds 0) r
    (least_in (value_at vs 0) (values_at vs 1) (lefts_at ds 1) (many_fits vs ds 1 f) h) (at_range vs ds 0 f)

pub maximum_sound : (vs : Given) (ds : Lefts) → Fits vs ds → refuted_as maximum ds ≡ true → holds_as maximum vs ≡ true → ⊥
maximum_sound vs ds f r h =
    apart (value_at vs 0) (greatest_item_range (lefts_at ds 1)) (range_at ds 0) r
    (greatest_in (value_at vs 0) (values_at vs 1) (lefts_at ds 1) (many_fits vs ds 1 f) h) (at_range vs ds 0 f)

same_fits : (vs : List ℤ) (ds : List Values) (row : List ℤ) → LiesIn vs ds → same_values vs row ≡ true → row_fits ds row ≡ true
same_fits [] [] [] h e = refl
same_fits [] [] (n ∷ row) h e = e
same_fits [] (d ∷ ds) row h e = absurd h
same_fits (v ∷ vs) [] row h e = absurd h
same_fits (v ∷ vs) (d ∷ ds) [] h e = e
same_fits (v ∷ vs) (d ∷ ds) (n ∷ row) h e =
    let p = and_parts (int_eq v n) (same_values vs row) e in
    and_from (has_value d n) (row_fits ds row)
    (has_it d n (subst (λ (x : ℤ). Among x d) (same_number v n p.0) h.0)) (same_fits vs ds row h.1 p.1)

pub table_sound : (vs : Given) (ds : Lefts) → Fits vs ds → refuted_as table ds ≡ true → holds_as table vs ≡ true → ⊥
table_sound vs ds f r h =
    let l = many_fits vs ds 0 f in
    let g : list_any (same_values (values_at vs 0)) (rows (length (lefts_at ds 0)) (numbers ds 1)) ≡ true = subst (λ (ns : List ℤ). list_any (same_values (values_at vs 0)) (rows (length (lefts_at ds 0)) ns) ≡ true) (numbers_fit vs ds 1 f) (subst (λ (n : ℕ). list_any (same_values (values_at vs 0)) (rows n (numbers vs 1)) ≡ true) (length_fits (values_at vs 0) (lefts_at ds 0) l) h) in
    let p = any_at (same_values (values_at vs 0)) (rows (length (lefts_at ds 0)) (numbers ds 1)) g in
    not_true (list_any (row_fits (lefts_at ds 0)) (rows (length (lefts_at ds 0)) (numbers ds 1))) r
    (any_from (row_fits (lefts_at ds 0)) (rows (length (lefts_at ds 0)) (numbers ds 1)) p.0 p.1 (same_fits (values_at vs 0) (lefts_at ds 0) p.0 l p.2))
