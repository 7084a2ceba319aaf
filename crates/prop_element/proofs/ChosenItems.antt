-- Places whose items fit what is left, and what each variable may keep.
use Rattle.std.proofs.Common.{◌≡◌, ◌≢◌, ℕ, zero, suc, ◌+◌, ◌<◌, ◌≤◌, ◌⊎◌, inl, inr, Bool, true, false, not, ◌&&◌, ◌||◌, List, [], ◌∷◌, length, map, set, get_or, refl, sym, ap, ◌∙◌, subst, arith, ℤ}
use Rattle.std.specs.Prelude.{int_lt, int_le, pos, ◌+ℤ◌, ◌≤ℤ◌, ◌==◌}
use Rattle.std.specs.Prelude.{Option, Some, None, IfNone, IfSome}
use Rattle.std.specs.Option.{is_some}
use Rattle.std.specs.List.{list_any, list_all}
use Rattle.std.proofs.lemmas.Int.{ints}
use Rattle.std.proofs.lemmas.List.{get_or-map}
use Rattle.std.proofs.lemmas.Bool.Decides.{nat_tests}
use Rattle.std.proofs.lemmas.Bool.{or_left, or_right, or_from, or_parts, not_from_false, cases_lt, and_from}
use Rattle.qc_model.specs.declared.problem.Arg.{Arg}
use Rattle.qc_model.specs.declared.problem.Arg.TheVariants.{Var, Num}
use Rattle.qc_model.specs.declared.problem.VarId.{VarId}
use Rattle.qc_model.specs.Closed.{refutes_at}
use Rattle.qc_model.specs.Content.{Rule}
use Rattle.qc_model.specs.Domains.{Values, Box, values_left, values_within, box_within, is_within, has_value, least_value, greatest_value, misses}
use Rattle.qc_model.specs.Left.{some_item_meets}
use Rattle.qc_model.specs.Refuted.{left_to, refuted_by}
use Rattle.qc_model.proofs.Readable.{first, second}
use Rattle.model_arguments.specs.Repeats.{same_variable, has_repeat}
use Rattle.model_arguments.proofs.Values.{has_first}
use Rattle.model_arguments.proofs.Bools.{clash}
use Rattle.model_arguments.proofs.Items.{flipped, other_left, none_at}
use Rattle.model_arguments.proofs.Kept.{through, reaches, low_end, high_end, apart, at_least, at_most, passes, was_left, same_end}
use Rattle.qc_refuter.specs.Commons.{IsLeastCommon, IsGreatestCommon}
use Rattle.qc_refuter.specs.Met.{is_domain_left, is_open}
use Rattle.qc_refuter.proofs.Domains.{small_left, some_left, none_common, some_common}
use Rattle.qc_refuter.proofs.Commons.{walk_start}
use Rattle.prop_base.specs.Closed.{keeps_arg}
use Rattle.prop_compare.proofs.Sides.{open_place}
use Rattle.prop_element.specs.Choices.{IsChoice, item_fits, IsFirstItem, IsLastItem, NoItem, IsLeastMet, IsMet, IsMetSomewhere, IsLowestMet, IsHighestMet, IsLowerMet, IsHigherMet}
use Rattle.prop_element.specs.Elements.{NoneFrom}
use Rattle.prop_element.specs.Extremes.{item_at}
use Rattle.prop_element.specs.Hulls.{IsHull}
use Rattle.prop_element.proofs.Moved.{set_here, all_each, itself}
use Rattle.prop_element.proofs.Supports.{ordered_by}

-- some place meets, counted from any number on
next_place : (n : ℕ) → pos n +ℤ pos 1 ≡ pos (n + 1)
next_place n = omega (arith, ints)

shifted : (n k : ℕ) → n + suc k ≡ (n + 1) + k
shifted n k = omega arith

plain : (n : ℕ) → n ≡ n + 0
plain n = omega arith

turned : (k : ℕ) → 1 + k ≡ k + 1
turned k = omega arith

some_from : (n : ℕ) (b : Values) (ds : List Values) (c : Values) (k : ℕ) → k < length ds → (has_value b (pos (n + k)) && not (misses (get_or ds k []) c)) ≡ true → some_item_meets (pos n) b ds c ≡ true
some_from n b [] c k h p = absurd (omega arith)
some_from n b (d ∷ ds) c zero h p = or_left (has_value b (pos n) && not (misses d c)) (some_item_meets (pos n +ℤ pos 1) b ds c) (ap (λ z. has_value b (pos z) && not (misses d c)) (plain n) ∙ p)
some_from n b (d ∷ ds) c (suc k) h p =
    or_right (has_value b (pos n) && not (misses d c)) (some_item_meets (pos n +ℤ pos 1) b ds c)
    (ap (λ z. some_item_meets z b ds c) (next_place n) ∙ some_from (n + 1) b ds c k (omega arith) (ap (λ z. has_value b (pos z) && not (misses (get_or ds k []) c)) (sym (shifted n k)) ∙ p))

none_from : (n : ℕ) (b : Values) (ds : List Values) (c : Values) → ((k : ℕ) → k < length ds → (has_value b (pos (n + k)) && not (misses (get_or ds k []) c)) ≡ false) → some_item_meets (pos n) b ds c ≡ false
none_from n b [] c f = refl
none_from n b (d ∷ ds) c f =
    or_from (has_value b (pos n) && not (misses d c)) (some_item_meets (pos n +ℤ pos 1) b ds c) (ap (λ z. has_value b (pos z) && not (misses d c)) (plain n) ∙ f 0 (omega arith))
    (ap (λ z. some_item_meets z b ds c) (next_place n) ∙ none_from (n + 1) b ds c (λ k h. ap (λ z. has_value b (pos z) && not (misses (get_or ds k []) c)) (sym (shifted n k)) ∙ f (suc k) (omega arith)))

-- what is left to an item
item_left : (box : Box) (items : List Arg) (k : ℕ) → k < length items → get_or (map (left_to box) items) k [] ≡ left_to box (item_at items k)
item_left box items k h = get_or-map (left_to box) items k (Var (record { 0 = 0 })) [] h

map_length : (box : Box) (items : List Arg) → length (map (left_to box) items) ≡ length items
map_length box [] = refl
map_length box (a ∷ items) = ap suc (map_length box items)

fits_from : (box : Box) (a : Arg) (items : List Arg) (r : Arg) (k : ℕ) → k < length items →
    (has_value (left_to box a) (pos (1 + k)) && not (misses (get_or (map (left_to box) items) k []) (left_to box r))) ≡ item_fits box a items r k
fits_from box a items r k h =
    ap (λ z. has_value (left_to box a) (pos z) && not (misses (get_or (map (left_to box) items) k []) (left_to box r))) (turned k)
    ∙ ap (λ d. has_value (left_to box a) (pos (k + 1)) && not (misses d (left_to box r))) (item_left box items k h)

pub none_refuted : (c : Rule) (box : Box) (a : Arg) (items : List Arg) (r : Arg) → IsChoice c a items r → NoItem box a items r → refuted_by c box ≡ true
none_refuted c box a items r e f =
    e.refuted box
    ∙ ap not (none_from 1 (left_to box a) (map (left_to box) items) (left_to box r) (λ k h. let l : k < length items = omega (arith, h, map_length box items) in fits_from box a items r k l ∙ f k l))

stays : (c : Rule) (box : Box) (a : Arg) (items : List Arg) (r : Arg) (k : ℕ) → IsChoice c a items r → k < length items → item_fits box a items r k ≡ true → refuted_by c box ≡ false
stays c box a items r k e h p =
    e.refuted box ∙ ap not (some_from 1 (left_to box a) (map (left_to box) items) (left_to box r) k (omega (arith, h, map_length box items)) (fits_from box a items r k h ∙ p))

-- a place that is met fits, and one that isn't doesn't
met_fits : (box : Box) (a : Arg) (items : List Arg) (r : Arg) (k : ℕ) (v : ℤ) → IsMet box a items r k v → item_fits box a items r k ≡ true
met_fits box a items r k v m =
    let d = left_to box (item_at items k) in
    let e = left_to box r in
    and_from (has_value (left_to box a) (pos (k + 1))) (not (misses d e)) m.left (not_from_false (misses d e) (some_common d e v m.item m.result))

unmet : (box : Box) (a : Arg) (items : List Arg) (r : Arg) (k : ℕ) → ((v : ℤ) → IsMet box a items r k v → ⊥) → item_fits box a items r k ≡ false
unmet box a items r k f = by (has_value (left_to box a) (pos (k + 1))) refl
  where
    by : (b : Bool) → has_value (left_to box a) (pos (k + 1)) ≡ b → (b && not (misses (left_to box (item_at items k)) (left_to box r))) ≡ false
    by false h = refl
    by true h = ap not (none_common (left_to box (item_at items k)) (left_to box r) (λ v i j. f v (record { left = h; item = i; result = j })))

-- which variables differ
pub record AreApart (a : Arg) (items : List Arg) (r : Arg) : Type 0 where
  pub ends : same_variable a r ≡ false
  pub first : (k : ℕ) → k < length items → same_variable a (item_at items k) ≡ false
  pub last : (k : ℕ) → k < length items → same_variable r (item_at items k) ≡ false
  pub each : (j k : ℕ) → j < length items → k < length items → j ≢ k → same_variable (item_at items j) (item_at items k) ≡ false

items_apart : (items : List Arg) (j k : ℕ) → has_repeat items ≡ false → j < length items → k < length items → j ≢ k → same_variable (item_at items j) (item_at items k) ≡ false
items_apart [] j k r h l n = absurd (omega arith)
items_apart (a ∷ items) zero zero r h l n = absurd (n refl)
items_apart (a ∷ items) zero (suc k) r h l n = none_at (same_variable a) items k (Var (record { 0 = 0 })) (or_parts (list_any (same_variable a) items) (has_repeat items) r).0 (omega arith)
items_apart (a ∷ items) (suc j) zero r h l n = flipped a (item_at items j) (none_at (same_variable a) items j (Var (record { 0 = 0 })) (or_parts (list_any (same_variable a) items) (has_repeat items) r).0 (omega arith))
items_apart (a ∷ items) (suc j) (suc k) r h l n = items_apart items j k (or_parts (list_any (same_variable a) items) (has_repeat items) r).1 (omega arith) (omega arith) (λ e. n (ap suc e))

apart_of : (a : Arg) (items : List Arg) (r : Arg) → has_repeat (a ∷ r ∷ items) ≡ false → AreApart a items r
apart_of a items r h =
    let p = or_parts (same_variable a r || list_any (same_variable a) items) (list_any (same_variable r) items || has_repeat items) h in
    let q = or_parts (same_variable a r) (list_any (same_variable a) items) p.0 in
    let s = or_parts (list_any (same_variable r) items) (has_repeat items) p.1 in
    record {
      ends = q.0;
      first = λ k l. none_at (same_variable a) items k (Var (record { 0 = 0 })) q.1 l;
      last = λ k l. none_at (same_variable r) items k (Var (record { 0 = 0 })) s.0 l;
      each = λ j k l m n. items_apart items j k s.1 l m n;
    }

-- the place has other values
place_met : (box : Box) (x : VarId) (us : Values) (items : List Arg) (r : Arg) (k : ℕ) (v : ℤ) → x.0 < length box → AreApart (Var x) items r → k < length items → IsMet (set box x.0 us) (Var x) items r k v →
    (has_value us (pos (k + 1)) ≡ true) × (has_value (left_to box (item_at items k)) v ≡ true) × (has_value (left_to box r) v ≡ true)
place_met box x us items r k v l p h m = (
  sym (ap (λ d. has_value d (pos (k + 1))) (set_here box x us l)) ∙ m.left,
  sym (ap (λ d. has_value d v) (other_left box x us (item_at items k) (flipped (Var x) (item_at items k) (p.first k h)))) ∙ m.item,
  sym (ap (λ d. has_value d v) (other_left box x us r (flipped (Var x) r p.ends))) ∙ m.result,
)

-- the place keeps what fits
kept_place : (c : Rule) (box : Box) (x : VarId) (items : List Arg) (r : Arg) (k : ℕ) (v : ℤ) → x.0 < length box → IsChoice c (Var x) items r → k < length items → item_fits box (Var x) items r k ≡ true → v ≡ pos (k + 1) → refutes_at c box x.0 v ≡ false
kept_place c box x items r k v l e h f q =
    let p = apart_of (Var x) items r e.once in
    let b = set box x.0 (v ∷ []) in
    stays c b (Var x) items r k e h
    (and_from (has_value (left_to b (Var x)) (pos (k + 1))) (not (misses (left_to b (item_at items k)) (left_to b r)))
    (ap (λ us. has_value us (pos (k + 1))) (set_here box x (v ∷ []) l) ∙ subst (λ z. has_value (z ∷ []) (pos (k + 1)) ≡ true) (sym q) (has_first (pos (k + 1)) []))
    (ap (λ d. not (misses d (left_to b r))) (other_left box x (v ∷ []) (item_at items k) (flipped (Var x) (item_at items k) (p.first k h)))
    ∙ (ap (λ d. not (misses (left_to box (item_at items k)) d)) (other_left box x (v ∷ []) r (flipped (Var x) r p.ends))
    ∙ second (has_value (values_left box x.0) (pos (k + 1))) (not (misses (left_to box (item_at items k)) (left_to box r))) f)))

place_down : (j k : ℕ) → (j < k → ⊥) → pos (k + 1) ≤ℤ pos (j + 1)
place_down j k f = grind (arith, ints)

from_first : (box : Box) (a : Arg) (items : List Arg) (r : Arg) (k j : ℕ) → IsFirstItem box a items r k → item_fits box a items r j ≡ true → pos (k + 1) ≤ℤ pos (j + 1)
from_first box a items r k j p h = place_down j k (λ l. clash (item_fits box a items r j) h (p.none j l))

up_to_last : (box : Box) (a : Arg) (items : List Arg) (r : Arg) (k j : ℕ) → IsLastItem box a items r k → j < length items → item_fits box a items r j ≡ true → pos (j + 1) ≤ℤ pos (k + 1)
up_to_last box a items r k j p m h = place_down k j (λ l. clash (item_fits box a items r j) h (p.none j l m))

pub place_hull : (c : Rule) (box : Box) (x : VarId) (items : List Arg) (r : Arg) (k m : ℕ) → is_open box (Var x) ≡ true → IsChoice c (Var x) items r → IsFirstItem box (Var x) items r k → IsLastItem box (Var x) items r m →
    IsHull c box x.0 (pos (k + 1)) (pos (m + 1))
place_hull c box x items r k m o e p q =
    let d = values_left box x.0 in
    let lx = open_place box x o in
    let t = apart_of (Var x) items r e.once in
    let s = first (has_value d (pos (k + 1))) (not (misses (left_to box (item_at items k)) (left_to box r))) p.fits in
    let u = first (has_value d (pos (m + 1))) (not (misses (left_to box (item_at items m)) (left_to box r))) q.fits in
    record {
      small_low = small_left d (pos (k + 1)) o s;
      small_high = small_left d (pos (m + 1)) o u;
      below = λ l h n g. none_refuted c (box_within box x.0 l h) (Var x) items r e (λ j i. unmet (box_within box x.0 l h) (Var x) items r j (λ v w.
          let z = place_met box x (values_within l h d) items r j v lx t i w in
          let f = met_fits box (Var x) items r j v (record { left = was_left (is_within l h) d (pos (j + 1)) z.0; item = z.1; result = z.2 }) in
          apart h (pos (k + 1)) g (through (pos (k + 1)) (pos (j + 1)) h (from_first box (Var x) items r k j p f) (at_most l h (pos (j + 1)) (passes (is_within l h) d (pos (j + 1)) z.0)))));
      above = λ l h n g. none_refuted c (box_within box x.0 l h) (Var x) items r e (λ j i. unmet (box_within box x.0 l h) (Var x) items r j (λ v w.
          let z = place_met box x (values_within l h d) items r j v lx t i w in
          let f = met_fits box (Var x) items r j v (record { left = was_left (is_within l h) d (pos (j + 1)) z.0; item = z.1; result = z.2 }) in
          apart (pos (m + 1)) l g (through l (pos (j + 1)) (pos (m + 1)) (at_least l h (pos (j + 1)) (passes (is_within l h) d (pos (j + 1)) z.0)) (up_to_last box (Var x) items r m j q i f))));
      first = λ g w. kept_place c box x items r k (least_value d) lx e p.place p.fits (same_end (least_value d) (pos (k + 1)) (low_end d (pos (k + 1)) s) g);
      last = λ g w. kept_place c box x items r m (greatest_value d) lx e q.place q.fits (same_end (greatest_value d) (pos (m + 1)) w (high_end d (pos (m + 1)) u));
    }

-- the result has other values
result_met : (box : Box) (x : VarId) (us : Values) (a : Arg) (items : List Arg) (k : ℕ) (v : ℤ) → x.0 < length box → AreApart a items (Var x) → k < length items → IsMet (set box x.0 us) a items (Var x) k v →
    (has_value (left_to box a) (pos (k + 1)) ≡ true) × (has_value (left_to box (item_at items k)) v ≡ true) × (has_value us v ≡ true)
result_met box x us a items k v l p h m = (
  sym (ap (λ d. has_value d (pos (k + 1))) (other_left box x us a p.ends)) ∙ m.left,
  sym (ap (λ d. has_value d v) (other_left box x us (item_at items k) (flipped (Var x) (item_at items k) (p.last k h)))) ∙ m.item,
  sym (ap (λ d. has_value d v) (set_here box x us l)) ∙ m.result,
)

-- and keeps what is met
kept_result : (c : Rule) (box : Box) (x : VarId) (a : Arg) (items : List Arg) (k : ℕ) (v w : ℤ) → x.0 < length box → IsChoice c a items (Var x) → k < length items → IsMet box a items (Var x) k v → w ≡ v → refutes_at c box x.0 w ≡ false
kept_result c box x a items k v w l e h m q =
    let p = apart_of a items (Var x) e.once in
    let b = set box x.0 (w ∷ []) in
    stays c b a items (Var x) k e h
    (met_fits b a items (Var x) k v
    (record {
      left = ap (λ d. has_value d (pos (k + 1))) (other_left box x (w ∷ []) a p.ends) ∙ m.left;
      item = ap (λ d. has_value d v) (other_left box x (w ∷ []) (item_at items k) (flipped (Var x) (item_at items k) (p.last k h))) ∙ m.item;
      result = ap (λ d. has_value d v) (set_here box x (w ∷ []) l) ∙ subst (λ z. has_value (z ∷ []) v ≡ true) (sym q) (has_first v []);
    }))

pub result_hull : (c : Rule) (box : Box) (x : VarId) (a : Arg) (items : List Arg) (low high : ℤ) → is_open box (Var x) ≡ true → IsChoice c a items (Var x) → IsLowestMet box a items (Var x) low → IsHighestMet box a items (Var x) high →
    IsHull c box x.0 low high
result_hull c box x a items low high o e p q =
    let d = values_left box x.0 in
    let lx = open_place box x o in
    let t = apart_of a items (Var x) e.once in
    let s = p.some.met.result in
    let u = q.some.met.result in
    record {
      small_low = small_left d low o s;
      small_high = small_left d high o u;
      below = λ l h n g. none_refuted c (box_within box x.0 l h) a items (Var x) e (λ j i. unmet (box_within box x.0 l h) a items (Var x) j (λ v w.
          let z = result_met box x (values_within l h d) a items j v lx t i w in
          apart h low g (through low v h (p.all j v i (record { left = z.0; item = z.1; result = was_left (is_within l h) d v z.2 })) (at_most l h v (passes (is_within l h) d v z.2)))));
      above = λ l h n g. none_refuted c (box_within box x.0 l h) a items (Var x) e (λ j i. unmet (box_within box x.0 l h) a items (Var x) j (λ v w.
          let z = result_met box x (values_within l h d) a items j v lx t i w in
          apart high l g (through l v high (at_least l h v (passes (is_within l h) d v z.2)) (q.all j v i (record { left = z.0; item = z.1; result = was_left (is_within l h) d v z.2 })))));
      first = λ g w. kept_result c box x a items p.some.at low (least_value d) lx e p.some.place p.some.met (same_end (least_value d) low (low_end d low s) g);
      last = λ g w. kept_result c box x a items q.some.at high (greatest_value d) lx e q.some.place q.some.met (same_end (greatest_value d) high w (high_end d high u));
    }

-- an item has other values
item_met : (box : Box) (x : VarId) (us : Values) (a : Arg) (items : List Arg) (r : Arg) (p k : ℕ) (v : ℤ) → x.0 < length box → AreApart a items r → p < length items → item_at items p ≡ Var x → k < length items → IsMet (set box x.0 us) a items r k v →
    (has_value (left_to box a) (pos (k + 1)) ≡ true) × (k ≡ p → has_value us v ≡ true) × (k ≢ p → has_value (left_to box (item_at items k)) v ≡ true) × (has_value (left_to box r) v ≡ true)
item_met box x us a items r p k v l t h q i m = (
  sym (ap (λ d. has_value d (pos (k + 1))) (other_left box x us a (ap (same_variable a) (sym q) ∙ t.first p h))) ∙ m.left,
  λ e. sym (ap (λ d. has_value d v) (ap (left_to (set box x.0 us)) (ap (item_at items) e ∙ q) ∙ set_here box x us l)) ∙ m.item,
  λ n. sym (ap (λ d. has_value d v) (other_left box x us (item_at items k) (ap (same_variable (item_at items k)) (sym q) ∙ t.each k p i h n))) ∙ m.item,
  sym (ap (λ d. has_value d v) (other_left box x us r (ap (same_variable r) (sym q) ∙ t.last p h))) ∙ m.result,
)

-- while another place is met, an item keeps everything
other_kept : (c : Rule) (box : Box) (x : VarId) (a : Arg) (items : List Arg) (r : Arg) (p k : ℕ) (w : ℤ) → IsChoice c a items r → p < length items → item_at items p ≡ Var x → k < length items → k ≢ p → item_fits box a items r k ≡ true → refutes_at c box x.0 w ≡ false
other_kept c box x a items r p k w e h q i n f =
    let t = apart_of a items r e.once in
    let b = set box x.0 (w ∷ []) in
    stays c b a items r k e i
    (ap (λ d. has_value d (pos (k + 1)) && not (misses (left_to b (item_at items k)) (left_to b r))) (other_left box x (w ∷ []) a (ap (same_variable a) (sym q) ∙ t.first p h))
    ∙ (ap (λ d. has_value (left_to box a) (pos (k + 1)) && not (misses d (left_to b r))) (other_left box x (w ∷ []) (item_at items k) (ap (same_variable (item_at items k)) (sym q) ∙ t.each k p i h n))
    ∙ (ap (λ d. has_value (left_to box a) (pos (k + 1)) && not (misses (left_to box (item_at items k)) d)) (other_left box x (w ∷ []) r (ap (same_variable r) (sym q) ∙ t.last p h))
    ∙ f)))

pub others_keep : (c : Rule) (box : Box) (a : Arg) (items : List Arg) (r : Arg) (p k : ℕ) → IsChoice c a items r → p < length items → k < length items → k ≢ p → item_fits box a items r k ≡ true → keeps_arg c box (item_at items p) ≡ true
others_keep c box a items r p k e h i n f = by (item_at items p) refl
  where
    by : (b : Arg) → item_at items p ≡ b → keeps_arg c box b ≡ true
    by (Num v) q = refl
    by (Var x) q =
        and_from (not (refutes_at c box x.0 (least_value (values_left box x.0)))) (not (refutes_at c box x.0 (greatest_value (values_left box x.0))))
        (not_from_false (refutes_at c box x.0 (least_value (values_left box x.0))) (other_kept c box x a items r p k (least_value (values_left box x.0)) e h q i n f))
        (not_from_false (refutes_at c box x.0 (greatest_value (values_left box x.0))) (other_kept c box x a items r p k (greatest_value (values_left box x.0)) e h q i n f))

-- where it alone is left, it keeps what is met
same_or_not : (j k : ℕ) → (j ≡ k) ⊎ (j ≢ k)
same_or_not j k = by (j == k) (equal j k) (differ j k)
  where
    equal : (j k : ℕ) → (j == k) ≡ true → j ≡ k
    equal j k h = grind (arith, nat_tests)

    differ : (j k : ℕ) → (j == k) ≡ false → j ≢ k
    differ j k h = grind (arith, nat_tests)

    by : (b : Bool) → (b ≡ true → j ≡ k) → (b ≡ false → j ≢ k) → (j ≡ k) ⊎ (j ≢ k)
    by true f g = inl (f refl)
    by false f g = inr (g refl)

kept_item : (c : Rule) (box : Box) (x : VarId) (a : Arg) (items : List Arg) (r : Arg) (p : ℕ) (v w : ℤ) → x.0 < length box → IsChoice c a items r → p < length items → item_at items p ≡ Var x → IsMet box a items r p v → w ≡ v → refutes_at c box x.0 w ≡ false
kept_item c box x a items r p v w l e h q m s =
    let t = apart_of a items r e.once in
    let b = set box x.0 (w ∷ []) in
    stays c b a items r p e h
    (met_fits b a items r p v
    (record {
      left = ap (λ d. has_value d (pos (p + 1))) (other_left box x (w ∷ []) a (ap (same_variable a) (sym q) ∙ t.first p h)) ∙ m.left;
      item = ap (λ d. has_value d v) (ap (left_to b) q ∙ set_here box x (w ∷ []) l) ∙ subst (λ z. has_value (z ∷ []) v ≡ true) (sym s) (has_first v []);
      result = ap (λ d. has_value d v) (other_left box x (w ∷ []) r (ap (same_variable r) (sym q) ∙ t.last p h)) ∙ m.result;
    }))

alone : (box : Box) (a : Arg) (items : List Arg) (r : Arg) (p j : ℕ) → IsFirstItem box a items r p → IsLastItem box a items r p → j < length items → item_fits box a items r j ≡ true → j ≡ p
alone box a items r p j f g i h = by (same_or_not j p)
  where
    less : (j p : ℕ) → j ≢ p → (j < p → ⊥) → p < j
    less j p n k = grind (arith, nat_tests)

    by : (j ≡ p) ⊎ (j ≢ p) → j ≡ p
    by (inl e) = e
    by (inr n) = absurd (clash (item_fits box a items r j) h (g.none j (less j p n (λ l. clash (item_fits box a items r j) h (f.none j l))) i))

pub item_hull : (c : Rule) (box : Box) (x : VarId) (a : Arg) (items : List Arg) (r : Arg) (p : ℕ) (low high : ℤ) → is_open box (Var x) ≡ true → IsChoice c a items r → item_at items p ≡ Var x → IsFirstItem box a items r p → IsLastItem box a items r p →
    IsLowestMet box a items r low → IsHighestMet box a items r high → IsHull c box x.0 low high
item_hull c box x a items r p low high o e y f g s u =
    let d = values_left box x.0 in
    let lx = open_place box x o in
    let t = apart_of a items r e.once in
    let there : (v : ℤ) → has_value (left_to box (item_at items p)) v ≡ true → has_value d v ≡ true = λ v h. sym (ap (λ z. has_value (left_to box z) v) y) ∙ h in
    let m = at_p low s.some in
    let n = at_p high u.some in
    record {
      small_low = small_left d low o (there low m.item);
      small_high = small_left d high o (there high n.item);
      below = λ l h k i. none_refuted c (box_within box x.0 l h) a items r e (λ j w. unmet (box_within box x.0 l h) a items r j (λ v q. within_met l h j v w (item_met box x (values_within l h d) a items r p j v lx t f.place y w q) (λ b z. apart h low i (through low v h (s.all p v f.place b) (at_most l h v z)))));
      above = λ l h k i. none_refuted c (box_within box x.0 l h) a items r e (λ j w. unmet (box_within box x.0 l h) a items r j (λ v q. within_met l h j v w (item_met box x (values_within l h d) a items r p j v lx t f.place y w q) (λ b z. apart high l i (through l v high (at_least l h v z) (u.all p v f.place b)))));
      first = λ k w. kept_item c box x a items r p low (least_value d) lx e f.place y m (same_end (least_value d) low (low_end d low (there low m.item)) k);
      last = λ k w. kept_item c box x a items r p high (greatest_value d) lx e f.place y n (same_end (greatest_value d) high w (high_end d high (there high n.item)));
    }
  where
    at_p : (v : ℤ) → IsMetSomewhere box a items r v → IsMet box a items r p v
    at_p v s = subst (λ k. IsMet box a items r k v) (alone box a items r p s.at f g s.place (met_fits box a items r s.at v s.met)) s.met

    within_met : (l h : ℤ) (j : ℕ) (v : ℤ) → j < length items →
        (has_value (left_to box a) (pos (j + 1)) ≡ true) × (j ≡ p → has_value (values_within l h (values_left box x.0)) v ≡ true) × (j ≢ p → has_value (left_to box (item_at items j)) v ≡ true) × (has_value (left_to box r) v ≡ true) →
        (IsMet box a items r p v → is_within l h v ≡ true → ⊥) → ⊥
    within_met l h j v w z k = by (same_or_not j p)
      where
        by : (j ≡ p) ⊎ (j ≢ p) → ⊥
        by (inl q) =
            let i = z.1 q in
            k (record {
              left = subst (λ n. has_value (left_to box a) (pos (n + 1)) ≡ true) q z.0;
              item = ap (λ b. has_value (left_to box b) v) y ∙ was_left (is_within l h) (values_left box x.0) v i;
              result = z.3;
            }) (passes (is_within l h) (values_left box x.0) v i)
        by (inr n) = n (alone box a items r p j f g w (met_fits box a items r j v (record { left = z.0; item = z.2 n; result = z.3 })))

-- what one step of the walk over the places knows
pub place_of : (box : Box) (a : Arg) (items : List Arg) (r : Arg) (k : ℕ) → has_value (left_to box a) (pos (k + 1)) ≡ false → (w : ℤ) → IsMet box a items r k w → ⊥
place_of box a items r k h w m = clash (has_value (left_to box a) (pos (k + 1))) m.left h

pub low_met : (box : Box) (a : Arg) (items : List Arg) (r : Arg) (k : ℕ) (v : ℤ) → k < length items → has_value (left_to box a) (pos (k + 1)) ≡ true → IsLeastCommon (left_to box (item_at items k)) (left_to box r) v → IsMetSomewhere box a items r v
low_met box a items r k v h p c = record { at = k; place = h; met = record { left = p; item = c.first; result = c.second } }

pub high_met : (box : Box) (a : Arg) (items : List Arg) (r : Arg) (k : ℕ) (v : ℤ) → k < length items → has_value (left_to box a) (pos (k + 1)) ≡ true → IsGreatestCommon (left_to box (item_at items k)) (left_to box r) v → IsMetSomewhere box a items r v
high_met box a items r k v h p c = record { at = k; place = h; met = record { left = p; item = c.first; result = c.second } }

split_last : (j k : ℕ) → j < k + 1 → (j < k) ⊎ (j ≡ k)
split_last j k h = grind (arith, nat_tests)

pub lower_more : (box : Box) (a : Arg) (items : List Arg) (r : Arg) (best : ℤ) (k : ℕ) (v : ℤ) → IsLowerMet box a items r best k v → ((j : ℕ) (w : ℤ) → j < k → IsMet box a items r j w → best ≤ℤ w) →
    (j : ℕ) (w : ℤ) → j < k + 1 → IsMet box a items r j w → v ≤ℤ w
lower_more box a items r best k v p g j w h m = by (split_last j k h)
  where
    by : (j < k) ⊎ (j ≡ k) → v ≤ℤ w
    by (inl i) = through v best w p.was (g j w i m)
    by (inr e) = p.here w (subst (λ z. IsMet box a items r z w) e m)

pub higher_more : (box : Box) (a : Arg) (items : List Arg) (r : Arg) (best : ℤ) (k : ℕ) (v : ℤ) → IsHigherMet box a items r best k v → ((j : ℕ) (w : ℤ) → j < k → IsMet box a items r j w → w ≤ℤ best) →
    (j : ℕ) (w : ℤ) → j < k + 1 → IsMet box a items r j w → w ≤ℤ v
higher_more box a items r best k v p g j w h m = by (split_last j k h)
  where
    by : (j < k) ⊎ (j ≡ k) → w ≤ℤ v
    by (inl i) = through w best v (g j w i m) p.was
    by (inr e) = p.here w (subst (λ z. IsMet box a items r z w) e m)

pub none_before : (box : Box) (a : Arg) (items : List Arg) (r : Arg) (k j : ℕ) (w : ℤ) → IsFirstItem box a items r k → j < k → IsMet box a items r j w → ⊥
none_before box a items r k j w p h m = clash (item_fits box a items r j) (met_fits box a items r j w m) (p.none j h)

-- with nothing in common, and with a lesser value, or a greater one
nothing_met : (box : Box) (a : Arg) (items : List Arg) (r : Arg) (k : ℕ) (w : ℤ) → misses (left_to box (item_at items k)) (left_to box r) ≡ true → IsMet box a items r k w → ⊥
nothing_met box a items r k w h m = clash (misses (left_to box (item_at items k)) (left_to box r)) h (some_common (left_to box (item_at items k)) (left_to box r) w m.item m.result)

pub higher_none : (box : Box) (a : Arg) (items : List Arg) (r : Arg) (best : ℤ) (k : ℕ) → IsMetSomewhere box a items r best → misses (left_to box (item_at items k)) (left_to box r) ≡ true → IsHigherMet box a items r best k best
higher_none box a items r best k s h = record { some = s; was = itself best; here = λ w m. absurd (nothing_met box a items r k w h m) }

pub lower_some : (box : Box) (a : Arg) (items : List Arg) (r : Arg) (best : ℤ) (k : ℕ) (v : ℤ) → k < length items → has_value (left_to box a) (pos (k + 1)) ≡ true → IsLeastCommon (left_to box (item_at items k)) (left_to box r) v → int_lt v best ≡ true → IsLowerMet box a items r best k v
lower_some box a items r best k v h p c l = record { some = low_met box a items r k v h p c; was = below v best l; here = λ w m. c.all w m.item m.result }
  where
    below : (v b : ℤ) → int_lt v b ≡ true → v ≤ℤ b
    below v b l = grind (arith, ints)

pub higher_some : (box : Box) (a : Arg) (items : List Arg) (r : Arg) (best : ℤ) (k : ℕ) (v : ℤ) → k < length items → has_value (left_to box a) (pos (k + 1)) ≡ true → IsGreatestCommon (left_to box (item_at items k)) (left_to box r) v → int_lt best v ≡ true → IsHigherMet box a items r best k v
higher_some box a items r best k v h p c l = record { some = high_met box a items r k v h p c; was = below best v l; here = λ w m. c.all w m.item m.result }
  where
    below : (v b : ℤ) → int_lt v b ≡ true → v ≤ℤ b
    below v b l = grind (arith, ints)

-- no value that is left is less than the least, or greater than the greatest
pub lowest_stop : (box : Box) (a : Arg) (items : List Arg) (r : Arg) (best v : ℤ) → IsMetSomewhere box a items r best → v ≡ least_value (left_to box r) → int_le best v ≡ true → IsLowestMet box a items r best
lowest_stop box a items r best v s e h = record {
  some = s;
  all = λ j w i m. through best (least_value (left_to box r)) w (subst (λ z. best ≤ℤ z) e (ordered_by best v h)) (low_end (left_to box r) w m.result);
}

pub highest_stop : (box : Box) (a : Arg) (items : List Arg) (r : Arg) (best v : ℤ) → IsMetSomewhere box a items r best → v ≡ greatest_value (left_to box r) → int_le v best ≡ true → IsHighestMet box a items r best
highest_stop box a items r best v s e h = record {
  some = s;
  all = λ j w i m. through w (greatest_value (left_to box r)) best (high_end (left_to box r) w m.result) (subst (λ z. z ≤ℤ best) e (ordered_by v best h));
}

-- all items keep their ends
pub two_keep : (c : Rule) (box : Box) (a : Arg) (items : List Arg) (r : Arg) (s e : ℕ) → IsChoice c a items r → IsFirstItem box a items r s → IsLastItem box a items r e → s < e → list_all (keeps_arg c box) items ≡ true
two_keep c box a items r s e t f g l =
    all_each (keeps_arg c box) items (λ j h. by j h (same_or_not s j))
  where
    after : (s e j : ℕ) → s < e → s ≡ j → e ≢ j
    after s e j l q p = omega (arith, l, q, p)

    by : (j : ℕ) → j < length items → (s ≡ j) ⊎ (s ≢ j) → keeps_arg c box (item_at items j) ≡ true
    by j h (inl q) = others_keep c box a items r j e t h g.place (after s e j l q) g.fits
    by j h (inr n) = others_keep c box a items r j s t h f.place n f.fits

pub one_keeps : (c : Rule) (box : Box) (a : Arg) (items : List Arg) (r : Arg) (s : ℕ) → IsChoice c a items r → IsFirstItem box a items r s → keeps_arg c box (item_at items s) ≡ true → list_all (keeps_arg c box) items ≡ true
one_keeps c box a items r s t f k =
    all_each (keeps_arg c box) items (λ j h. by j h (same_or_not s j))
  where
    by : (j : ℕ) → j < length items → (s ≡ j) ⊎ (s ≢ j) → keeps_arg c box (item_at items j) ≡ true
    by j h (inl q) = subst (λ n. keeps_arg c box (item_at items n) ≡ true) q k
    by j h (inr n) = others_keep c box a items r j s t h f.place n f.fits

pub only_one : (box : Box) (a : Arg) (items : List Arg) (r : Arg) (s e : ℕ) → IsFirstItem box a items r s → IsLastItem box a items r e → (s < e → ⊥) → IsLastItem box a items r s
only_one box a items r s e f g n = subst (λ k. IsLastItem box a items r k) (sym (equal s e n (λ l. clash (item_fits box a items r e) g.fits (f.none e l)))) g
  where
    equal : (s e : ℕ) → (s < e → ⊥) → (e < s → ⊥) → s ≡ e
    equal s e n m = grind (arith, nat_tests)

pub some_met : (box : Box) (a : Arg) (items : List Arg) (r : Arg) (k : ℕ) (v : ℤ) → IsFirstItem box a items r k → IsLeastCommon (left_to box (item_at items k)) (left_to box r) v → IsMetSomewhere box a items r v
some_met box a items r k v f c = low_met box a items r k v f.place (first (has_value (left_to box a) (pos (k + 1))) (not (misses (left_to box (item_at items k)) (left_to box r))) f.fits) c

-- the least of the item, where r may be it
pub least_is_common : (d e : Values) (v : ℤ) → is_domain_left d ≡ true → v ≡ least_value d → has_value e v ≡ true → IsLeastCommon d e v
least_is_common d e v o q h =
    let w = walk_start d e v (some_left d o) q in
    record {
      first = w.there;
      second = h;
      all = w.all;
    }

-- a place that is not left, and one that is met
pub place_gone : (box : Box) (a : Arg) (items : List Arg) (r : Arg) (k : ℕ) → has_value (left_to box a) (pos (k + 1)) ≡ false → item_fits box a items r k ≡ false
place_gone box a items r k h = ap (λ z. z && not (misses (left_to box (item_at items k)) (left_to box r))) h

pub least_met : (box : Box) (a : Arg) (items : List Arg) (r : Arg) (k : ℕ) (v : ℤ) → has_value (left_to box a) (pos (k + 1)) ≡ true → IsLeastCommon (left_to box (item_at items k)) (left_to box r) v → IsLeastMet box a items r k v
least_met box a items r k v h c = record {
  fits = and_from (has_value (left_to box a) (pos (k + 1))) (not (misses (left_to box (item_at items k)) (left_to box r))) h (ap not (some_common (left_to box (item_at items k)) (left_to box r) v c.first c.second));
  least = c;
}

pub some_exactly : (o : Option ℤ) (b : Bool) (P : ℤ → Type 0) → IfNone o (b ≡ false) → IfSome o P → ((v : ℤ) → P v → b ≡ true) → is_some o ≡ b
some_exactly None b P n s f = sym n
some_exactly (Some v) b P n s f = sym (f v s)

none_met : (box : Box) (a : Arg) (items : List Arg) (r : Arg) (k : ℕ) (w : ℤ) → item_fits box a items r k ≡ false → IsMet box a items r k w → ⊥
none_met box a items r k w h m = clash (item_fits box a items r k) (met_fits box a items r k w m) h

left_at : (box : Box) (a : Arg) (items : List Arg) (r : Arg) (k : ℕ) → item_fits box a items r k ≡ true → has_value (left_to box a) (pos (k + 1)) ≡ true
left_at box a items r k f = first (has_value (left_to box a) (pos (k + 1))) (not (misses (left_to box (item_at items k)) (left_to box r))) f

-- what one place adds to the best value
pub lower_unfit : (box : Box) (a : Arg) (items : List Arg) (r : Arg) (best : ℤ) (k : ℕ) → IsMetSomewhere box a items r best → item_fits box a items r k ≡ false → IsLowerMet box a items r best k best
lower_unfit box a items r best k s h = record { some = s; was = itself best; here = λ w m. absurd (none_met box a items r k w h m) }

pub lower_over : (box : Box) (a : Arg) (items : List Arg) (r : Arg) (best v : ℤ) (k : ℕ) → IsMetSomewhere box a items r best → v ≡ least_value (left_to box (item_at items k)) → int_le best v ≡ true → IsLowerMet box a items r best k best
lower_over box a items r best v k s e h = record {
  some = s;
  was = itself best;
  here = λ w m. through best (least_value (left_to box (item_at items k))) w (subst (λ z. best ≤ℤ z) e (ordered_by best v h)) (low_end (left_to box (item_at items k)) w m.item);
}

pub higher_under : (box : Box) (a : Arg) (items : List Arg) (r : Arg) (best v : ℤ) (k : ℕ) → IsMetSomewhere box a items r best → v ≡ greatest_value (left_to box (item_at items k)) → int_le v best ≡ true → IsHigherMet box a items r best k best
higher_under box a items r best v k s e h = record {
  some = s;
  was = itself best;
  here = λ w m. through w (greatest_value (left_to box (item_at items k))) best (high_end (left_to box (item_at items k)) w m.item) (subst (λ z. z ≤ℤ best) e (ordered_by v best h));
}

pub higher_kept : (box : Box) (a : Arg) (items : List Arg) (r : Arg) (best : ℤ) (k : ℕ) (v : ℤ) → IsMetSomewhere box a items r best → IsGreatestCommon (left_to box (item_at items k)) (left_to box r) v → int_lt best v ≡ false → IsHigherMet box a items r best k best
higher_kept box a items r best k v s c l = record { some = s; was = itself best; here = λ w m. through w v best (c.all w m.item m.result) (reaches best v l) }

pub lower_kept : (box : Box) (a : Arg) (items : List Arg) (r : Arg) (best : ℤ) (k : ℕ) (v : ℤ) → IsMetSomewhere box a items r best → IsLeastMet box a items r k v → int_lt v best ≡ false → IsLowerMet box a items r best k best
lower_kept box a items r best k v s c l = record { some = s; was = itself best; here = λ w m. through best v w (reaches v best l) (c.least.all w m.item m.result) }

pub lower_taken : (box : Box) (a : Arg) (items : List Arg) (r : Arg) (best : ℤ) (k : ℕ) (v : ℤ) → k < length items → IsLeastMet box a items r k v → int_lt v best ≡ true → IsLowerMet box a items r best k v
lower_taken box a items r best k v h c l = lower_some box a items r best k v h (left_at box a items r k c.fits) c.least l

pub no_item : (box : Box) (a : Arg) (items : List Arg) (r : Arg) (k m : ℕ) → ((j : ℕ) → j < k → item_fits box a items r j ≡ false) → m ≤ k → NoneFrom (left_to box a) (length items) m → NoItem box a items r
no_item box a items r k m f l g j h = by (cases_lt j k)
  where
    by : (j < k) ⊎ (k ≤ j) → item_fits box a items r j ≡ false
    by (inl i) = f j i
    by (inr i) = place_gone box a items r j (g j (omega (arith, l, i)) h)

pub lowest_start : (box : Box) (a : Arg) (items : List Arg) (r : Arg) (s : ℕ) (v : ℤ) → IsFirstItem box a items r s → IsLeastCommon (left_to box (item_at items s)) (left_to box r) v → (j : ℕ) (w : ℤ) → j < s + 1 → IsMet box a items r j w → v ≤ℤ w
lowest_start box a items r s v f c j w h m = by (split_last j s h)
  where
    by : (j < s) ⊎ (j ≡ s) → v ≤ℤ w
    by (inl i) = absurd (none_before box a items r s j w f i m)
    by (inr e) = let n = subst (λ z. IsMet box a items r z w) e m in c.all w n.item n.result

past_last : (box : Box) (a : Arg) (items : List Arg) (r : Arg) (e k j : ℕ) (w : ℤ) → IsLastItem box a items r e → e + 1 ≤ k → j < length items → IsMet box a items r j w → j < k
past_last box a items r e k j w p l i m = by (cases_lt j k)
  where
    by : (j < k) ⊎ (k ≤ j) → j < k
    by (inl h) = h
    by (inr h) = absurd (none_met box a items r j w (p.none j (omega (arith, l, h)) i) m)

pub lowest_all : (box : Box) (a : Arg) (items : List Arg) (r : Arg) (e k : ℕ) (v : ℤ) → IsLastItem box a items r e → e + 1 ≤ k → IsMetSomewhere box a items r v → ((j : ℕ) (w : ℤ) → j < k → IsMet box a items r j w → v ≤ℤ w) → IsLowestMet box a items r v
lowest_all box a items r e k v p l s g = record {
  some = s;
  all = λ j w i m. g j w (past_last box a items r e k j w p l i m) m;
}

pub highest_all : (box : Box) (a : Arg) (items : List Arg) (r : Arg) (e k : ℕ) (v : ℤ) → IsLastItem box a items r e → e + 1 ≤ k → IsMetSomewhere box a items r v → ((j : ℕ) (w : ℤ) → j < k → IsMet box a items r j w → w ≤ℤ v) → IsHighestMet box a items r v
highest_all box a items r e k v p l s g = record {
  some = s;
  all = λ j w i m. g j w (past_last box a items r e k j w p l i m) m;
}
