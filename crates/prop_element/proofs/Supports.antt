-- Places of an array of numbers that fit what is left, and what each variable may keep.
use Rattle.std.proofs.Common.{◌≡◌, ℕ, zero, suc, ◌+◌, ◌<◌, ◌≤◌, ◌⊎◌, inl, inr, Bool, true, false, not, ◌&&◌, List, [], ◌∷◌, length, set, get_or, refl, sym, ap, ◌∙◌, subst, arith, ℤ}
use Rattle.std.specs.Prelude.{pos, ◌+ℤ◌, ◌≤ℤ◌, ◌<ℤ◌, int_le, int_lt}
use Rattle.std.proofs.lemmas.Int.{ints}
use Rattle.std.proofs.lemmas.Bool.Decides.{nat_tests}
use Rattle.std.proofs.lemmas.Bool.{or_left, or_right, or_from, false_from_ne_true, cases_lt, and_from}
use Rattle.qc_model.specs.declared.problem.Arg.{Arg}
use Rattle.qc_model.specs.declared.problem.Arg.TheVariants.{Var}
use Rattle.qc_model.specs.declared.problem.VarId.{VarId}
use Rattle.qc_model.specs.Closed.{refutes_at}
use Rattle.qc_model.specs.Content.{Rule}
use Rattle.qc_model.specs.Domains.{Values, Box, values_left, values_within, box_within, is_within, has_value, least_value, greatest_value}
use Rattle.qc_model.specs.Left.{some_item_in}
use Rattle.qc_model.specs.Refuted.{left_to, refuted_by}
use Rattle.qc_model.proofs.Readable.{first, second}
use Rattle.model_arguments.proofs.Values.{has_first}
use Rattle.model_arguments.proofs.Bools.{clash}
use Rattle.qc_refuter.proofs.Domains.{small_left}
use Rattle.qc_refuter.specs.Met.{is_open}
use Rattle.model_arguments.proofs.Kept.{through, low_end, high_end, apart, at_least, at_most, passes, was_left, same_end}
use Rattle.model_arguments.proofs.Items.{flipped}
use Rattle.prop_compare.proofs.Sides.{open_place, with_other}
use Rattle.prop_element.specs.Hulls.{IsHull}
use Rattle.prop_element.specs.Elements.{IsElement, place_fits, IsFirstPlace, IsLastPlace, NoPlace, NoneBefore, NoneFrom, IsLowerPlace, IsHigherPlace, IsLowestPlace, IsHighestPlace}
use Rattle.prop_element.proofs.Moved.{set_here}
use Rattle.prop_element.proofs.Sets.{left_none, left_none_over}

-- some place fits, counted from any number on
next_place : (n : ℕ) → pos n +ℤ pos 1 ≡ pos (n + 1)
next_place n = omega (arith, ints)

shifted : (n k : ℕ) → n + suc k ≡ (n + 1) + k
shifted n k = omega arith

some_from : (n : ℕ) (b : Values) (ns : List ℤ) (c : Values) (k : ℕ) → k < length ns → has_value b (pos (n + k)) ≡ true → has_value c (get_or ns k (pos 0)) ≡ true → some_item_in (pos n) b ns c ≡ true
some_from n b [] c k h p q = absurd (omega arith)
some_from n b (x ∷ ns) c zero h p q = or_left (has_value b (pos n) && has_value c x) (some_item_in (pos n +ℤ pos 1) b ns c) (and_from (has_value b (pos n)) (has_value c x) (ap (λ z. has_value b (pos z)) (plain n) ∙ p) q)
  where
    plain : (n : ℕ) → n ≡ n + 0
    plain n = omega arith
some_from n b (x ∷ ns) c (suc k) h p q =
    or_right (has_value b (pos n) && has_value c x) (some_item_in (pos n +ℤ pos 1) b ns c)
    (ap (λ z. some_item_in z b ns c) (next_place n) ∙ some_from (n + 1) b ns c k (omega arith) (ap (λ z. has_value b (pos z)) (sym (shifted n k)) ∙ p) q)

none_from : (n : ℕ) (b : Values) (ns : List ℤ) (c : Values) → ((k : ℕ) → k < length ns → (has_value b (pos (n + k)) && has_value c (get_or ns k (pos 0))) ≡ false) → some_item_in (pos n) b ns c ≡ false
none_from n b [] c f = refl
none_from n b (x ∷ ns) c f =
    or_from (has_value b (pos n) && has_value c x) (some_item_in (pos n +ℤ pos 1) b ns c) (ap (λ z. has_value b (pos z) && has_value c x) (plain n) ∙ f 0 (omega arith))
    (ap (λ z. some_item_in z b ns c) (next_place n) ∙ none_from (n + 1) b ns c (λ k h. ap (λ z. has_value b (pos z) && has_value c (get_or ns k (pos 0))) (sym (shifted n k)) ∙ f (suc k) (omega arith)))
  where
    plain : (n : ℕ) → n ≡ n + 0
    plain n = omega arith

turned : (k : ℕ) → 1 + k ≡ k + 1
turned k = omega arith

pub none_refuted : (c : Rule) (box : Box) (a : Arg) (ns : List ℤ) (r : Arg) → IsElement c a ns r → NoPlace (left_to box a) ns (left_to box r) → refuted_by c box ≡ true
none_refuted c box a ns r e f =
    e.refuted box ∙ ap not (none_from 1 (left_to box a) ns (left_to box r) (λ k h. ap (λ z. has_value (left_to box a) (pos z) && has_value (left_to box r) (get_or ns k (pos 0))) (turned k) ∙ f k h))

stays : (c : Rule) (box : Box) (a : Arg) (ns : List ℤ) (r : Arg) (k : ℕ) → IsElement c a ns r → k < length ns → has_value (left_to box a) (pos (k + 1)) ≡ true → has_value (left_to box r) (get_or ns k (pos 0)) ≡ true → refuted_by c box ≡ false
stays c box a ns r k e h p q = e.refuted box ∙ ap not (some_from 1 (left_to box a) ns (left_to box r) k h (ap (λ z. has_value (left_to box a) (pos z)) (turned k) ∙ p) q)

place_up : (j k : ℕ) → pos (k + 1) ≤ℤ pos (j + 1) → k ≤ j
place_up j k h = grind (arith, ints)

place_down : (j k : ℕ) → (j < k → ⊥) → pos (k + 1) ≤ℤ pos (j + 1)
place_down j k f = grind (arith, ints)

-- where no place before or after fits
from_first : (b : Values) (ns : List ℤ) (c : Values) (k j : ℕ) → IsFirstPlace b ns c k → place_fits b ns c j ≡ true → pos (k + 1) ≤ℤ pos (j + 1)
from_first b ns c k j p h = place_down j k (λ l. clash (place_fits b ns c j) h (p.none j l))

up_to_last : (b : Values) (ns : List ℤ) (c : Values) (k j : ℕ) → IsLastPlace b ns c k → j < length ns → place_fits b ns c j ≡ true → pos (j + 1) ≤ℤ pos (k + 1)
up_to_last b ns c k j p m h = place_down k j (λ l. clash (place_fits b ns c j) h (p.none j l m))

-- the place
kept_place : (c : Rule) (box : Box) (x : VarId) (ns : List ℤ) (r : Arg) (k : ℕ) (v : ℤ) → x.0 < length box → IsElement c (Var x) ns r → k < length ns → place_fits (values_left box x.0) ns (left_to box r) k ≡ true → v ≡ pos (k + 1) → refutes_at c box x.0 v ≡ false
kept_place c box x ns r k v l e h f q =
    stays c (set box x.0 (v ∷ [])) (Var x) ns r k e h
    (ap (λ us. has_value us (pos (k + 1))) (set_here box x (v ∷ []) l) ∙ subst (λ z. has_value (z ∷ []) (pos (k + 1)) ≡ true) (sym q) (has_first (pos (k + 1)) []))
    (ap (λ us. has_value us (get_or ns k (pos 0))) (with_other box (Var x) r (v ∷ []) e.apart) ∙ second (has_value (values_left box x.0) (pos (k + 1))) (has_value (left_to box r) (get_or ns k (pos 0))) f)

was_fit : (c : Rule) (box : Box) (x : VarId) (ns : List ℤ) (r : Arg) (l h : ℤ) (j : ℕ) → x.0 < length box → IsElement c (Var x) ns r → place_fits (left_to (box_within box x.0 l h) (Var x)) ns (left_to (box_within box x.0 l h) r) j ≡ true →
    (place_fits (values_left box x.0) ns (left_to box r) j ≡ true) × (is_within l h (pos (j + 1)) ≡ true)
was_fit c box x ns r l h j lx e f =
    let d = values_left box x.0 in
    let n = get_or ns j (pos 0) in
    let p = sym (ap (λ us. has_value us (pos (j + 1))) (set_here box x (values_within l h d) lx)) ∙ first (has_value (left_to (box_within box x.0 l h) (Var x)) (pos (j + 1))) (has_value (left_to (box_within box x.0 l h) r) n) f in
    let q = sym (ap (λ us. has_value us n) (with_other box (Var x) r (values_within l h d) e.apart)) ∙ second (has_value (left_to (box_within box x.0 l h) (Var x)) (pos (j + 1))) (has_value (left_to (box_within box x.0 l h) r) n) f in
    (and_from (has_value d (pos (j + 1))) (has_value (left_to box r) n) (was_left (is_within l h) d (pos (j + 1)) p) q, passes (is_within l h) d (pos (j + 1)) p)

pub place_hull : (c : Rule) (box : Box) (x : VarId) (ns : List ℤ) (r : Arg) (k m : ℕ) → is_open box (Var x) ≡ true → IsElement c (Var x) ns r → IsFirstPlace (values_left box x.0) ns (left_to box r) k → IsLastPlace (values_left box x.0) ns (left_to box r) m →
    IsHull c box x.0 (pos (k + 1)) (pos (m + 1))
place_hull c box x ns r k m o e p q =
    let d = values_left box x.0 in
    let f = left_to box r in
    let lx = open_place box x o in
    let s = first (has_value d (pos (k + 1))) (has_value f (get_or ns k (pos 0))) p.fits in
    let t = first (has_value d (pos (m + 1))) (has_value f (get_or ns m (pos 0))) q.fits in
    record {
      small_low = small_left d (pos (k + 1)) o s;
      small_high = small_left d (pos (m + 1)) o t;
      below = λ l h n u. none_refuted c (box_within box x.0 l h) (Var x) ns r e (λ j i. false_from_ne_true (place_fits (left_to (box_within box x.0 l h) (Var x)) ns (left_to (box_within box x.0 l h) r) j) (λ w.
          let z = was_fit c box x ns r l h j lx e w in
          apart h (pos (k + 1)) u (through (pos (k + 1)) (pos (j + 1)) h (from_first d ns f k j p z.0) (at_most l h (pos (j + 1)) z.1))));
      above = λ l h n u. none_refuted c (box_within box x.0 l h) (Var x) ns r e (λ j i. false_from_ne_true (place_fits (left_to (box_within box x.0 l h) (Var x)) ns (left_to (box_within box x.0 l h) r) j) (λ w.
          let z = was_fit c box x ns r l h j lx e w in
          apart (pos (m + 1)) l u (through l (pos (j + 1)) (pos (m + 1)) (at_least l h (pos (j + 1)) z.1) (up_to_last d ns f m j q i z.0))));
      first = λ u w. kept_place c box x ns r k (least_value d) lx e p.place p.fits (same_end (least_value d) (pos (k + 1)) (low_end d (pos (k + 1)) s) u);
      last = λ u w. kept_place c box x ns r m (greatest_value d) lx e q.place q.fits (same_end (greatest_value d) (pos (m + 1)) w (high_end d (pos (m + 1)) t));
    }

-- the number
kept_number : (c : Rule) (box : Box) (x : VarId) (ns : List ℤ) (a : Arg) (k : ℕ) (v : ℤ) → x.0 < length box → IsElement c a ns (Var x) → k < length ns → place_fits (left_to box a) ns (values_left box x.0) k ≡ true → v ≡ get_or ns k (pos 0) → refutes_at c box x.0 v ≡ false
kept_number c box x ns a k v l e h f q =
    stays c (set box x.0 (v ∷ [])) a ns (Var x) k e h
    (ap (λ us. has_value us (pos (k + 1))) (with_other box (Var x) a (v ∷ []) (flipped a (Var x) e.apart)) ∙ first (has_value (left_to box a) (pos (k + 1))) (has_value (values_left box x.0) (get_or ns k (pos 0))) f)
    (ap (λ us. has_value us (get_or ns k (pos 0))) (set_here box x (v ∷ []) l) ∙ subst (λ z. has_value (z ∷ []) (get_or ns k (pos 0)) ≡ true) (sym q) (has_first (get_or ns k (pos 0)) []))

was_number : (c : Rule) (box : Box) (x : VarId) (ns : List ℤ) (a : Arg) (l h : ℤ) (j : ℕ) → x.0 < length box → IsElement c a ns (Var x) → place_fits (left_to (box_within box x.0 l h) a) ns (left_to (box_within box x.0 l h) (Var x)) j ≡ true →
    (place_fits (left_to box a) ns (values_left box x.0) j ≡ true) × (is_within l h (get_or ns j (pos 0)) ≡ true)
was_number c box x ns a l h j lx e f =
    let d = values_left box x.0 in
    let n = get_or ns j (pos 0) in
    let p = sym (ap (λ us. has_value us (pos (j + 1))) (with_other box (Var x) a (values_within l h d) (flipped a (Var x) e.apart))) ∙ first (has_value (left_to (box_within box x.0 l h) a) (pos (j + 1))) (has_value (left_to (box_within box x.0 l h) (Var x)) n) f in
    let q = sym (ap (λ us. has_value us n) (set_here box x (values_within l h d) lx)) ∙ second (has_value (left_to (box_within box x.0 l h) a) (pos (j + 1))) (has_value (left_to (box_within box x.0 l h) (Var x)) n) f in
    (and_from (has_value (left_to box a) (pos (j + 1))) (has_value d n) p (was_left (is_within l h) d n q), passes (is_within l h) d n q)

pub number_hull : (c : Rule) (box : Box) (x : VarId) (ns : List ℤ) (a : Arg) (k m : ℕ) → is_open box (Var x) ≡ true → IsElement c a ns (Var x) → IsLowestPlace (left_to box a) ns (values_left box x.0) k → IsHighestPlace (left_to box a) ns (values_left box x.0) m →
    IsHull c box x.0 (get_or ns k (pos 0)) (get_or ns m (pos 0))
number_hull c box x ns a k m o e p q =
    let d = values_left box x.0 in
    let b = left_to box a in
    let lx = open_place box x o in
    let low = get_or ns k (pos 0) in
    let high = get_or ns m (pos 0) in
    let s = second (has_value b (pos (k + 1))) (has_value d low) p.fits in
    let t = second (has_value b (pos (m + 1))) (has_value d high) q.fits in
    record {
      small_low = small_left d low o s;
      small_high = small_left d high o t;
      below = λ l h n u. none_refuted c (box_within box x.0 l h) a ns (Var x) e (λ j i. false_from_ne_true (place_fits (left_to (box_within box x.0 l h) a) ns (left_to (box_within box x.0 l h) (Var x)) j) (λ w.
          let z = was_number c box x ns a l h j lx e w in
          apart h low u (through low (get_or ns j (pos 0)) h (p.all j i z.0) (at_most l h (get_or ns j (pos 0)) z.1))));
      above = λ l h n u. none_refuted c (box_within box x.0 l h) a ns (Var x) e (λ j i. false_from_ne_true (place_fits (left_to (box_within box x.0 l h) a) ns (left_to (box_within box x.0 l h) (Var x)) j) (λ w.
          let z = was_number c box x ns a l h j lx e w in
          apart high l u (through l (get_or ns j (pos 0)) high (at_least l h (get_or ns j (pos 0)) z.1) (q.all j i z.0))));
      first = λ u w. kept_number c box x ns a k (least_value d) lx e p.place p.fits (same_end (least_value d) low (low_end d low s) u);
      last = λ u w. kept_number c box x ns a m (greatest_value d) lx e q.place q.fits (same_end (greatest_value d) high w (high_end d high t));
    }

-- the walk over the places
pub ordered_by : (a b : ℤ) → int_le a b ≡ true → a ≤ℤ b
ordered_by a b h = grind (arith, ints)

split_last : (j k : ℕ) → j < k + 1 → (j < k) ⊎ (j ≡ k)
split_last j k h = grind (arith, nat_tests)

pub lower_more : (b : Values) (ns : List ℤ) (c : Values) (best k n : ℕ) → IsLowerPlace b ns c best k n → ((j : ℕ) → j < k → place_fits b ns c j ≡ true → get_or ns best (pos 0) ≤ℤ get_or ns j (pos 0)) →
    (j : ℕ) → j < k + 1 → place_fits b ns c j ≡ true → get_or ns n (pos 0) ≤ℤ get_or ns j (pos 0)
lower_more b ns c best k n p g j h f = by (split_last j k h)
  where
    by : (j < k) ⊎ (j ≡ k) → get_or ns n (pos 0) ≤ℤ get_or ns j (pos 0)
    by (inl m) = through (get_or ns n (pos 0)) (get_or ns best (pos 0)) (get_or ns j (pos 0)) p.best (g j m f)
    by (inr e) = subst (λ z. get_or ns n (pos 0) ≤ℤ get_or ns z (pos 0)) (sym e) (p.other (subst (λ z. place_fits b ns c z ≡ true) e f))

pub higher_more : (b : Values) (ns : List ℤ) (c : Values) (best k n : ℕ) → IsHigherPlace b ns c best k n → ((j : ℕ) → j < k → place_fits b ns c j ≡ true → get_or ns j (pos 0) ≤ℤ get_or ns best (pos 0)) →
    (j : ℕ) → j < k + 1 → place_fits b ns c j ≡ true → get_or ns j (pos 0) ≤ℤ get_or ns n (pos 0)
higher_more b ns c best k n p g j h f = by (split_last j k h)
  where
    by : (j < k) ⊎ (j ≡ k) → get_or ns j (pos 0) ≤ℤ get_or ns n (pos 0)
    by (inl m) = through (get_or ns j (pos 0)) (get_or ns best (pos 0)) (get_or ns n (pos 0)) (g j m f) p.best
    by (inr e) = subst (λ z. get_or ns z (pos 0) ≤ℤ get_or ns n (pos 0)) (sym e) (p.other (subst (λ z. place_fits b ns c z ≡ true) e f))

-- no number that is left is less than the least, or greater than the greatest
pub lowest_stop : (b : Values) (ns : List ℤ) (c : Values) (k : ℕ) (v : ℤ) → k < length ns → place_fits b ns c k ≡ true → v ≡ least_value c → int_le (get_or ns k (pos 0)) v ≡ true → IsLowestPlace b ns c k
lowest_stop b ns c k v p f e h = record {
  place = p;
  fits = f;
  all = λ j l g. through (get_or ns k (pos 0)) (least_value c) (get_or ns j (pos 0)) (subst (λ z. get_or ns k (pos 0) ≤ℤ z) e (ordered_by (get_or ns k (pos 0)) v h)) (low_end c (get_or ns j (pos 0)) (second (has_value b (pos (j + 1))) (has_value c (get_or ns j (pos 0))) g));
}

pub highest_stop : (b : Values) (ns : List ℤ) (c : Values) (k : ℕ) (v : ℤ) → k < length ns → place_fits b ns c k ≡ true → v ≡ greatest_value c → int_le v (get_or ns k (pos 0)) ≡ true → IsHighestPlace b ns c k
highest_stop b ns c k v p f e h = record {
  place = p;
  fits = f;
  all = λ j l g. through (get_or ns j (pos 0)) (greatest_value c) (get_or ns k (pos 0)) (high_end c (get_or ns j (pos 0)) (second (has_value b (pos (j + 1))) (has_value c (get_or ns j (pos 0))) g)) (subst (λ z. z ≤ℤ get_or ns k (pos 0)) e (ordered_by v (get_or ns k (pos 0)) h));
}

-- places that are not left
pub before_least : (b : Values) (v : ℤ) (k : ℕ) → v ≡ least_value b → pos (k + 1) ≡ v → NoneBefore b k
before_least b v k e f j h = left_none b (pos (j + 1)) (subst (λ z. pos (j + 1) <ℤ z) (f ∙ e) (under j k h))
  where
    under : (j k : ℕ) → j < k → pos (j + 1) <ℤ pos (k + 1)
    under j k h = grind (arith, ints)

pub over_greatest : (b : Values) (v : ℤ) (n k : ℕ) → v ≡ greatest_value b → pos (k + 1) ≡ v → NoneFrom b n (k + 1)
over_greatest b v n k e f j h l = left_none_over b (pos (j + 1)) (subst (λ z. z <ℤ pos (j + 1)) (f ∙ e) (over j k h))
  where
    over : (j k : ℕ) → k + 1 ≤ j → pos (k + 1) <ℤ pos (j + 1)
    over j k h = grind (arith, ints)

pub none_counted : (b : Values) (v : ℤ) (n : ℕ) → v ≡ greatest_value b → int_lt v (pos 1) ≡ true → NoneFrom b n 0
none_counted b v n e f j h l = left_none_over b (pos (j + 1)) (subst (λ z. z <ℤ pos (j + 1)) e (over j v f))
  where
    over : (j : ℕ) (v : ℤ) → int_lt v (pos 1) ≡ true → v <ℤ pos (j + 1)
    over j v f = grind (arith, ints)

pub unfit_before : (b : Values) (ns : List ℤ) (c : Values) (k : ℕ) → NoneBefore b k → (j : ℕ) → j < k → place_fits b ns c j ≡ false
unfit_before b ns c k f j h = ap (λ z. z && has_value c (get_or ns j (pos 0))) (f j h)

pub unfit_from : (b : Values) (ns : List ℤ) (c : Values) (n k : ℕ) → NoneFrom b n k → (j : ℕ) → k ≤ j → j < n → place_fits b ns c j ≡ false
unfit_from b ns c n k f j h l = ap (λ z. z && has_value c (get_or ns j (pos 0))) (f j h l)

pub unfit_by_number : (b : Values) (ns : List ℤ) (c : Values) (k : ℕ) → has_value c (get_or ns k (pos 0)) ≡ false → place_fits b ns c k ≡ false
unfit_by_number b ns c k h = by (has_value b (pos (k + 1))) (has_value c (get_or ns k (pos 0))) h
  where
    by : (p q : Bool) → q ≡ false → (p && q) ≡ false
    by true q e = e
    by false q e = refl

pub no_place : (b : Values) (ns : List ℤ) (c : Values) (k m : ℕ) → ((j : ℕ) → j < k → place_fits b ns c j ≡ false) → m ≤ k → NoneFrom b (length ns) m → NoPlace b ns c
no_place b ns c k m f l g j h = by (cases_lt j k)
  where
    by : (j < k) ⊎ (k ≤ j) → place_fits b ns c j ≡ false
    by (inl i) = f j i
    by (inr i) = unfit_from b ns c (length ns) m g j (omega (arith, l, i)) h

-- the walk has passed all places but the last that fits, or has come to it
last_or_not : (j k e : ℕ) → e ≤ k → (j < k) ⊎ ((j ≡ e) ⊎ (e < j))
last_or_not j k e h = grind (arith, nat_tests)

pub lowest_done : (b : Values) (ns : List ℤ) (c : Values) (k e n : ℕ) → IsLastPlace b ns c e → e ≤ k → n < length ns → place_fits b ns c n ≡ true → get_or ns n (pos 0) ≤ℤ get_or ns e (pos 0) →
    ((j : ℕ) → j < k → place_fits b ns c j ≡ true → get_or ns n (pos 0) ≤ℤ get_or ns j (pos 0)) → IsLowestPlace b ns c n
lowest_done b ns c k e n p l h f q g = record {
  place = h;
  fits = f;
  all = λ j i t. by j i t (last_or_not j k e l);
}
  where
    by : (j : ℕ) → j < length ns → place_fits b ns c j ≡ true → (j < k) ⊎ ((j ≡ e) ⊎ (e < j)) → get_or ns n (pos 0) ≤ℤ get_or ns j (pos 0)
    by j i t (inl m) = g j m t
    by j i t (inr (inl m)) = subst (λ z. get_or ns n (pos 0) ≤ℤ get_or ns z (pos 0)) (sym m) q
    by j i t (inr (inr m)) = absurd (clash (place_fits b ns c j) t (p.none j m i))

pub highest_done : (b : Values) (ns : List ℤ) (c : Values) (k e n : ℕ) → IsLastPlace b ns c e → e ≤ k → n < length ns → place_fits b ns c n ≡ true → get_or ns e (pos 0) ≤ℤ get_or ns n (pos 0) →
    ((j : ℕ) → j < k → place_fits b ns c j ≡ true → get_or ns j (pos 0) ≤ℤ get_or ns n (pos 0)) → IsHighestPlace b ns c n
highest_done b ns c k e n p l h f q g = record {
  place = h;
  fits = f;
  all = λ j i t. by j i t (last_or_not j k e l);
}
  where
    by : (j : ℕ) → j < length ns → place_fits b ns c j ≡ true → (j < k) ⊎ ((j ≡ e) ⊎ (e < j)) → get_or ns j (pos 0) ≤ℤ get_or ns n (pos 0)
    by j i t (inl m) = g j m t
    by j i t (inr (inl m)) = subst (λ z. get_or ns z (pos 0) ≤ℤ get_or ns n (pos 0)) (sym m) q
    by j i t (inr (inr m)) = absurd (clash (place_fits b ns c j) t (p.none j m i))
