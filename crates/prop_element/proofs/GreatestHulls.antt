-- What a constraint that a number is the greatest item lets each variable keep.
use Rattle.std.proofs.Common.{◌≡◌, ℕ, ◌<◌, ◌⊎◌, inl, inr, Bool, true, false, not, ◌&&◌, List, [], ◌∷◌, length, set, refl, sym, ap, ◌∙◌, subst, ℤ}
use Rattle.std.specs.Prelude.{negsuc, ◌≤ℤ◌, ◌<ℤ◌, int_le}
use Rattle.std.specs.List.{list_all}
use Rattle.qc_model.specs.declared.problem.Arg.{Arg}
use Rattle.qc_model.specs.declared.problem.Arg.TheVariants.{Var}
use Rattle.qc_model.specs.declared.problem.VarId.{VarId}
use Rattle.qc_model.specs.Closed.{refutes_at}
use Rattle.qc_model.specs.Content.{Rule}
use Rattle.qc_model.specs.Domains.{Values, Box, values_left, values_within, box_within, is_none_left, greatest_value, least_value}
use Rattle.qc_model.specs.Refuted.{left_to, refuted_by}
use Rattle.qc_refuter.proofs.Domains.{some_left, small_left}
use Rattle.qc_refuter.specs.Met.{is_open}
use Rattle.prop_base.specs.Closed.{keeps_at}
use Rattle.model_arguments.specs.Repeats.{same_variable}
use Rattle.model_arguments.proofs.Kept.{through, ordered, high_end, low_end, apart, over_low}
use Rattle.model_arguments.proofs.Items.{flipped}
use Rattle.prop_compare.proofs.Sides.{open_place, with_other}
use Rattle.prop_element.specs.Hulls.{IsHull}
use Rattle.prop_element.specs.Extremes.{IsGreatest, IsHighestAt, IsGreatestReady, IsAloneHigh, HasOtherHigh, item_at, some_high, all_low}
use Rattle.prop_element.proofs.Moved.{IsHere, IsElsewhere, moved, set_here, same_tests, any_at, none_any, all_each, fails_at, at_most_is, above_not, over_least, under_most, itself, part_of, open_item, small_least, small_greatest, keeps_same, least_kept, greatest_kept}

-- by the two tests
none_high : (c : Rule) (m : Arg) (items : List Arg) (b : Box) (v : ℤ) → IsGreatest c m items → least_value (left_to b m) ≡ v → some_high b items v ≡ false → refuted_by c b ≡ true
none_high c m items b v r e h = r.refuted b ∙ ap (λ z. not (z && all_low b items (greatest_value (left_to b m)))) (ap (some_high b items) e ∙ h)

not_low : (c : Rule) (m : Arg) (items : List Arg) (b : Box) (v : ℤ) → IsGreatest c m items → greatest_value (left_to b m) ≡ v → all_low b items v ≡ false → refuted_by c b ≡ true
not_low c m items b v r e h = r.refuted b ∙ by (some_high b items (least_value (left_to b m))) (all_low b items (greatest_value (left_to b m))) (ap (all_low b items) e ∙ h)
  where
    by : (s t : Bool) → t ≡ false → not (s && t) ≡ true
    by true t k = ap not k
    by false t k = refl

stays : (c : Rule) (m : Arg) (items : List Arg) (b : Box) (v w : ℤ) → IsGreatest c m items → least_value (left_to b m) ≡ v → greatest_value (left_to b m) ≡ w → some_high b items v ≡ true → all_low b items w ≡ true → refuted_by c b ≡ false
stays c m items b v w r e f h k = r.refuted b ∙ by (some_high b items (least_value (left_to b m))) (all_low b items (greatest_value (left_to b m))) (ap (some_high b items) e ∙ h) (ap (all_low b items) f ∙ k)
  where
    by : (s t : Bool) → s ≡ true → t ≡ true → not (s && t) ≡ false
    by true t p q = ap not q
    by false t p q = cc

-- the whole box
pub high_refuted : (c : Rule) (box : Box) (m : Arg) (items : List Arg) (p : ℕ) → IsGreatest c m items → IsHighestAt (λ x. greatest_value (left_to box x)) items p → greatest_value (left_to box (item_at items p)) <ℤ least_value (left_to box m) → refuted_by c box ≡ true
high_refuted c box m items p r l h =
    none_high c m items box (least_value (left_to box m)) r refl
    (none_any (λ x. int_le (least_value (left_to box m)) (greatest_value (left_to box x))) items
    (λ j k. above_not (least_value (left_to box m)) (greatest_value (left_to box (item_at items j))) (under_most (greatest_value (left_to box (item_at items j))) (greatest_value (left_to box (item_at items p))) (least_value (left_to box m)) (l.all j k) h)))

pub low_refuted : (c : Rule) (box : Box) (m : Arg) (items : List Arg) (q : ℕ) → IsGreatest c m items → q < length items → greatest_value (left_to box m) <ℤ least_value (left_to box (item_at items q)) → refuted_by c box ≡ true
low_refuted c box m items q r l h =
    not_low c m items box (greatest_value (left_to box m)) r refl
    (fails_at (λ x. int_le (least_value (left_to box x)) (greatest_value (left_to box m))) items q l (above_not (least_value (left_to box (item_at items q))) (greatest_value (left_to box m)) h))

-- m at a value between the greatest greatest value and the greatest least one
m_stays : (c : Rule) (box : Box) (x : VarId) (items : List Arg) (p q : ℕ) (v : ℤ) → x.0 < length box → IsGreatest c (Var x) items → IsHighestAt (λ y. greatest_value (left_to box y)) items p → IsHighestAt (λ y. least_value (left_to box y)) items q →
    v ≤ℤ greatest_value (left_to box (item_at items p)) → least_value (left_to box (item_at items q)) ≤ℤ v → refutes_at c box x.0 v ≡ false
m_stays c box x items p q v l r high low h k =
    stays c (Var x) items b v v r (ap least_value here) (ap greatest_value here)
    (any_at (λ y. int_le v (greatest_value (left_to b y))) items p high.place (first_case (moved box x (v ∷ []) (item_at items p) l)))
    (all_each (λ y. int_le (least_value (left_to b y)) v) items (λ j t. second_case j t (moved box x (v ∷ []) (item_at items j) l)))
  where
    b : Box
    b = set box x.0 (v ∷ [])

    here : left_to (set box x.0 (v ∷ [])) (Var x) ≡ v ∷ []
    here = set_here box x (v ∷ []) l

    first_case : IsHere box x (v ∷ []) (item_at items p) ⊎ IsElsewhere box x (v ∷ []) (item_at items p) → int_le v (greatest_value (left_to (set box x.0 (v ∷ [])) (item_at items p))) ≡ true
    first_case (inl e) = ap (λ us. int_le v (greatest_value us)) e.now ∙ at_most_is v v (itself v)
    first_case (inr e) = ap (λ us. int_le v (greatest_value us)) e.stays ∙ at_most_is v (greatest_value (left_to box (item_at items p))) h

    second_case : (j : ℕ) → j < length items → IsHere box x (v ∷ []) (item_at items j) ⊎ IsElsewhere box x (v ∷ []) (item_at items j) → int_le (least_value (left_to (set box x.0 (v ∷ [])) (item_at items j))) v ≡ true
    second_case j t (inl e) = ap (λ us. int_le (least_value us) v) e.now ∙ at_most_is v v (itself v)
    second_case j t (inr e) = ap (λ us. int_le (least_value us) v) e.stays ∙ at_most_is (least_value (left_to box (item_at items j))) v (through (least_value (left_to box (item_at items j))) (least_value (left_to box (item_at items q))) v (low.all j t) k)

m_above : (c : Rule) (box : Box) (x : VarId) (items : List Arg) (p : ℕ) (l h : ℤ) → x.0 < length box → IsGreatest c (Var x) items → IsHighestAt (λ y. greatest_value (left_to box y)) items p → is_none_left (values_within l h (values_left box x.0)) ≡ false →
    greatest_value (left_to box (item_at items p)) <ℤ l → refuted_by c (box_within box x.0 l h) ≡ true
m_above c box x items p l h lx r high n t =
    none_high c (Var x) items (box_within box x.0 l h) (least_value w) r (ap least_value (set_here box x w lx))
    (none_any (λ y. int_le (least_value w) (greatest_value (left_to (box_within box x.0 l h) y))) items (λ j k. by j k (moved box x w (item_at items j) lx)))
  where
    w : Values
    w = values_within l h (values_left box x.0)

    by : (j : ℕ) → j < length items → IsHere box x (values_within l h (values_left box x.0)) (item_at items j) ⊎ IsElsewhere box x (values_within l h (values_left box x.0)) (item_at items j) →
        int_le (least_value (values_within l h (values_left box x.0))) (greatest_value (left_to (box_within box x.0 l h) (item_at items j))) ≡ false
    by j k (inl e) =
        let d = values_left box x.0 in
        let u = part_of d l h n in
        absurd (apart (greatest_value (left_to box (item_at items p))) l t
        (through l (greatest_value d) (greatest_value (left_to box (item_at items p))) (through l u.value (greatest_value d) u.from (high_end d u.value u.there)) (subst (λ us. greatest_value us ≤ℤ greatest_value (left_to box (item_at items p))) e.was (high.all j k))))
    by j k (inr e) =
        let d = values_left box x.0 in
        let u = part_of d l h n in
        let g = least_value (values_within l h d) in
        ap (λ us. int_le g (greatest_value us)) e.stays
        ∙ above_not g (greatest_value (left_to box (item_at items j))) (over_least (greatest_value (left_to box (item_at items j))) l g (under_most (greatest_value (left_to box (item_at items j))) (greatest_value (left_to box (item_at items p))) l (high.all j k) t) u.least)

m_below : (c : Rule) (box : Box) (x : VarId) (items : List Arg) (q : ℕ) (l h : ℤ) → x.0 < length box → IsGreatest c (Var x) items → q < length items → is_none_left (values_within l h (values_left box x.0)) ≡ false →
    h <ℤ least_value (left_to box (item_at items q)) → refuted_by c (box_within box x.0 l h) ≡ true
m_below c box x items q l h lx r lq n t =
    not_low c (Var x) items (box_within box x.0 l h) (greatest_value w) r (ap greatest_value (set_here box x w lx))
    (fails_at (λ y. int_le (least_value (left_to (box_within box x.0 l h) y)) (greatest_value w)) items q lq (by (moved box x w (item_at items q) lx)))
  where
    w : Values
    w = values_within l h (values_left box x.0)

    by : IsHere box x (values_within l h (values_left box x.0)) (item_at items q) ⊎ IsElsewhere box x (values_within l h (values_left box x.0)) (item_at items q) →
        int_le (least_value (left_to (box_within box x.0 l h) (item_at items q))) (greatest_value (values_within l h (values_left box x.0))) ≡ false
    by (inl e) =
        let d = values_left box x.0 in
        let u = part_of d l h n in
        absurd (apart h (least_value (left_to box (item_at items q))) t
        (through (least_value (left_to box (item_at items q))) u.value h (subst (λ us. least_value us ≤ℤ u.value) (sym e.was) (low_end d u.value u.there)) u.to))
    by (inr e) =
        let d = values_left box x.0 in
        let u = part_of d l h n in
        let f = greatest_value (values_within l h d) in
        ap (λ us. int_le (least_value us) f) e.stays
        ∙ above_not (least_value (left_to box (item_at items q))) f (under_most f h (least_value (left_to box (item_at items q))) u.greatest t)

pub m_hull : (c : Rule) (box : Box) (x : VarId) (items : List Arg) (p q : ℕ) → is_open box (Var x) ≡ true → list_all (is_open box) items ≡ true → IsGreatest c (Var x) items → IsHighestAt (λ y. greatest_value (left_to box y)) items p → IsHighestAt (λ y. least_value (left_to box y)) items q →
    IsHull c box x.0 (least_value (left_to box (item_at items q))) (greatest_value (left_to box (item_at items p)))
m_hull c box x items p q o os r high low =
    let lx = open_place box x o in
    let d = values_left box x.0 in
    let s = ordered d (some_left d o) in
    record {
      small_high = small_greatest box (item_at items p) (open_item box items p os high.place);
      small_low = small_least box (item_at items q) (open_item box items q os low.place);
      above = λ l h n t. m_above c box x items p l h lx r high n t;
      below = λ l h n t. m_below c box x items q l h lx r low.place n t;
      last = λ g f. m_stays c box x items p q (greatest_value d) lx r high low f (through (least_value (left_to box (item_at items q))) (least_value d) (greatest_value d) g s);
      first = λ g f. m_stays c box x items p q (least_value d) lx r high low (through (least_value d) (greatest_value d) (greatest_value (left_to box (item_at items p))) s f) g;
    }

-- another item than the variable that may be at most v
record HasHighBeside (box : Box) (items : List Arg) (x : VarId) (v : ℤ) : Type 0 where
  at : ℕ
  place : at < length items
  other : same_variable (Var x) (item_at items at) ≡ false
  high : v ≤ℤ greatest_value (left_to box (item_at items at))

beside_high : (box : Box) (items : List Arg) (x : VarId) (us : Values) (v : ℤ) → x.0 < length box → HasHighBeside box items x v → some_high (set box x.0 us) items v ≡ true
beside_high box items x us v l h =
    any_at (λ y. int_le v (greatest_value (left_to (set box x.0 us) y))) items h.at h.place
    (ap (λ vs. int_le v (greatest_value vs)) (with_other box (Var x) (item_at items h.at) us h.other) ∙ at_most_is v (greatest_value (left_to box (item_at items h.at))) h.high)

-- x at one of its ends v, where it may be at most what m may be, or another item may
x_stays : (c : Rule) (box : Box) (m : Arg) (items : List Arg) (p k : ℕ) (x : VarId) (v : ℤ) → x.0 < length box → IsGreatest c m items → IsGreatestReady c box m items p → k < length items → item_at items k ≡ Var x →
    (keeps_at c box x.0 ≡ true → refutes_at c box x.0 v ≡ false) → v ≤ℤ greatest_value (left_to box m) → (least_value (left_to box m) ≤ℤ v) ⊎ HasHighBeside box items x (least_value (left_to box m)) → refutes_at c box x.0 v ≡ false
x_stays c box m items p k x v l r y kl e f a t = by (moved box x (v ∷ []) m l) t
  where
    b : Box
    b = set box x.0 (v ∷ [])

    low : (j : ℕ) → j < length items → IsHere box x (v ∷ []) (item_at items j) ⊎ IsElsewhere box x (v ∷ []) (item_at items j) → int_le (least_value (left_to (set box x.0 (v ∷ [])) (item_at items j))) (greatest_value (left_to box m)) ≡ true
    low j q (inl i) = ap (λ us. int_le (least_value us) (greatest_value (left_to box m))) i.now ∙ at_most_is v (greatest_value (left_to box m)) a
    low j q (inr i) = ap (λ us. int_le (least_value us) (greatest_value (left_to box m))) i.stays ∙ at_most_is (least_value (left_to box (item_at items j))) (greatest_value (left_to box m)) (y.under j q)

    all : all_low (set box x.0 (v ∷ [])) items (greatest_value (left_to box m)) ≡ true
    all = all_each (λ z. int_le (least_value (left_to (set box x.0 (v ∷ [])) z)) (greatest_value (left_to box m))) items (λ j q. low j q (moved box x (v ∷ []) (item_at items j) l))

    here : left_to (set box x.0 (v ∷ [])) (item_at items k) ≡ v ∷ []
    here = ap (left_to (set box x.0 (v ∷ []))) e ∙ set_here box x (v ∷ []) l

    by : IsHere box x (v ∷ []) m ⊎ IsElsewhere box x (v ∷ []) m → (least_value (left_to box m) ≤ℤ v) ⊎ HasHighBeside box items x (least_value (left_to box m)) → refuted_by c (set box x.0 (v ∷ [])) ≡ false
    by (inl i) t = f (keeps_same c box x m i.same y.kept)
    by (inr i) (inl u) =
        stays c m items b (least_value (left_to box m)) (greatest_value (left_to box m)) r (ap least_value i.stays) (ap greatest_value i.stays)
        (any_at (λ z. int_le (least_value (left_to box m)) (greatest_value (left_to (set box x.0 (v ∷ [])) z))) items k kl (ap (λ us. int_le (least_value (left_to box m)) (greatest_value us)) here ∙ at_most_is (least_value (left_to box m)) v u))
        all
    by (inr i) (inr u) =
        stays c m items b (least_value (left_to box m)) (greatest_value (left_to box m)) r (ap least_value i.stays) (ap greatest_value i.stays)
        (beside_high box items x (v ∷ []) (least_value (left_to box m)) l u)
        all

x_above : (c : Rule) (box : Box) (m : Arg) (items : List Arg) (k : ℕ) (x : VarId) (l h : ℤ) → x.0 < length box → IsGreatest c m items → k < length items → item_at items k ≡ Var x → is_none_left (values_within l h (values_left box x.0)) ≡ false →
    greatest_value (left_to box m) <ℤ l → refuted_by c (box_within box x.0 l h) ≡ true
x_above c box m items k x l h lx r kl e n t = by (moved box x (values_within l h (values_left box x.0)) m lx)
  where
    by : IsHere box x (values_within l h (values_left box x.0)) m ⊎ IsElsewhere box x (values_within l h (values_left box x.0)) m → refuted_by c (box_within box x.0 l h) ≡ true
    by (inl i) =
        let d = values_left box x.0 in
        let u = part_of d l h n in
        absurd (apart (greatest_value (left_to box m)) l t (through l u.value (greatest_value (left_to box m)) u.from (subst (λ us. u.value ≤ℤ greatest_value us) (sym i.was) (high_end d u.value u.there))))
    by (inr i) =
        let d = values_left box x.0 in
        let w = values_within l h d in
        let u = part_of d l h n in
        let a = greatest_value (left_to box m) in
        not_low c m items (box_within box x.0 l h) a r (ap greatest_value i.stays)
        (fails_at (λ y. int_le (least_value (left_to (box_within box x.0 l h) y)) a) items k kl
        (ap (λ us. int_le (least_value us) a) (ap (left_to (box_within box x.0 l h)) e ∙ set_here box x w lx) ∙ above_not (least_value w) a (over_least a l (least_value w) t u.least)))

x_below : (c : Rule) (box : Box) (m : Arg) (items : List Arg) (x : VarId) (l h : ℤ) → x.0 < length box → IsGreatest c m items → ((j : ℕ) → j < length items → same_variable (Var x) (item_at items j) ≡ false → greatest_value (left_to box (item_at items j)) <ℤ least_value (left_to box m)) →
    is_none_left (values_within l h (values_left box x.0)) ≡ false → h <ℤ least_value (left_to box m) → refuted_by c (box_within box x.0 l h) ≡ true
x_below c box m items x l h lx r f n t = by (moved box x (values_within l h (values_left box x.0)) m lx)
  where
    each : (j : ℕ) → j < length items → IsHere box x (values_within l h (values_left box x.0)) (item_at items j) ⊎ IsElsewhere box x (values_within l h (values_left box x.0)) (item_at items j) →
        int_le (least_value (left_to box m)) (greatest_value (left_to (box_within box x.0 l h) (item_at items j))) ≡ false
    each j q (inl i) =
        let d = values_left box x.0 in
        let u = part_of d l h n in
        let g = least_value (left_to box m) in
        ap (λ us. int_le g (greatest_value us)) i.now ∙ above_not g (greatest_value (values_within l h d)) (under_most (greatest_value (values_within l h d)) h g u.greatest t)
    each j q (inr i) =
        let g = least_value (left_to box m) in
        ap (λ us. int_le g (greatest_value us)) i.stays ∙ above_not g (greatest_value (left_to box (item_at items j))) (f j q i.other)

    by : IsHere box x (values_within l h (values_left box x.0)) m ⊎ IsElsewhere box x (values_within l h (values_left box x.0)) m → refuted_by c (box_within box x.0 l h) ≡ true
    by (inl i) =
        let d = values_left box x.0 in
        let u = part_of d l h n in
        absurd (apart h (least_value (left_to box m)) t (through (least_value (left_to box m)) u.value h (subst (λ us. least_value us ≤ℤ u.value) (sym i.was) (low_end d u.value u.there)) u.to))
    by (inr i) =
        none_high c m items (box_within box x.0 l h) (least_value (left_to box m)) r (ap least_value i.stays)
        (none_any (λ y. int_le (least_value (left_to box m)) (greatest_value (left_to (box_within box x.0 l h) y))) items (λ j q. each j q (moved box x (values_within l h (values_left box x.0)) (item_at items j) lx)))

-- where another item may be at most what m may be, x has no upper bound
free_hull : (c : Rule) (box : Box) (m : Arg) (items : List Arg) (p k : ℕ) (x : VarId) → is_open box m ≡ true → list_all (is_open box) items ≡ true → IsGreatest c m items → IsGreatestReady c box m items p → k < length items → item_at items k ≡ Var x →
    HasHighBeside box items x (least_value (left_to box m)) → IsHull c box x.0 (negsuc 999999999) (greatest_value (left_to box m))
free_hull c box m items p k x om os r y kl e u =
    let o = subst (λ z. is_open box z ≡ true) e (open_item box items k os kl) in
    let lx = open_place box x o in
    let d = values_left box x.0 in
    record {
      small_high = small_greatest box m om;
      small_low = refl;
      above = λ l h n t. x_above c box m items k x l h lx r kl e n t;
      below = λ l h n t. let w = part_of d l h n in absurd (apart h (negsuc 999999999) t (through (negsuc 999999999) w.value h (over_low w.value (small_left d w.value o w.there)) w.to));
      last = λ g f. x_stays c box m items p k x (greatest_value d) lx r y kl e (greatest_kept c box x.0) f (inr u);
      first = λ g f. x_stays c box m items p k x (least_value d) lx r y kl e (least_kept c box x.0) (through (least_value d) (greatest_value d) (greatest_value (left_to box m)) (ordered d (some_left d o)) f) (inr u);
    }

-- where none may, x is from be at most what m may be
alone_hull : (c : Rule) (box : Box) (m : Arg) (items : List Arg) (p k : ℕ) (x : VarId) → is_open box m ≡ true → list_all (is_open box) items ≡ true → IsGreatest c m items → IsGreatestReady c box m items p → k < length items → item_at items k ≡ Var x →
    ((j : ℕ) → j < length items → same_variable (Var x) (item_at items j) ≡ false → greatest_value (left_to box (item_at items j)) <ℤ least_value (left_to box m)) → IsHull c box x.0 (least_value (left_to box m)) (greatest_value (left_to box m))
alone_hull c box m items p k x om os r y kl e u =
    let o = subst (λ z. is_open box z ≡ true) e (open_item box items k os kl) in
    let lx = open_place box x o in
    let d = values_left box x.0 in
    let s = ordered d (some_left d o) in
    record {
      small_high = small_greatest box m om;
      small_low = small_least box m om;
      above = λ l h n t. x_above c box m items k x l h lx r kl e n t;
      below = λ l h n t. x_below c box m items x l h lx r u n t;
      last = λ g f. x_stays c box m items p k x (greatest_value d) lx r y kl e (greatest_kept c box x.0) f (inl (through (least_value (left_to box m)) (least_value d) (greatest_value d) g s));
      first = λ g f. x_stays c box m items p k x (least_value d) lx r y kl e (least_kept c box x.0) (through (least_value d) (greatest_value d) (greatest_value (left_to box m)) s f) (inl g);
    }

-- by what the walk under the items found
pub item_alone : (c : Rule) (box : Box) (m : Arg) (items : List Arg) (p k : ℕ) (x : VarId) → is_open box m ≡ true → list_all (is_open box) items ≡ true → IsGreatest c m items → IsGreatestReady c box m items p → k < length items → item_at items k ≡ Var x →
    IsAloneHigh box items p (least_value (left_to box m)) → same_variable (item_at items p) (item_at items k) ≡ true → IsHull c box x.0 (least_value (left_to box m)) (greatest_value (left_to box m))
item_alone c box m items p k x om os r y kl e u s =
    alone_hull c box m items p k x om os r y kl e (λ j q l. u j q (same_tests (item_at items p) x (item_at items j) (ap (same_variable (item_at items p)) (sym e) ∙ s) ∙ l))

pub item_free : (c : Rule) (box : Box) (m : Arg) (items : List Arg) (p k : ℕ) (x : VarId) (alone : Bool) → is_open box m ≡ true → list_all (is_open box) items ≡ true → IsGreatest c m items → IsGreatestReady c box m items p → k < length items → item_at items k ≡ Var x →
    (alone ≡ false → HasOtherHigh box items p (least_value (left_to box m))) → (alone && same_variable (item_at items p) (item_at items k)) ≡ false → IsHull c box x.0 (negsuc 999999999) (greatest_value (left_to box m))
item_free c box m items p k x alone om os r y kl e u s =
    free_hull c box m items p k x om os r y kl e (by (same_variable (item_at items p) (Var x)) refl alone u (ap (λ z. alone && same_variable (item_at items p) z) (sym e) ∙ s))
  where
    by : (b : Bool) → same_variable (item_at items p) (Var x) ≡ b → (a : Bool) → (a ≡ false → HasOtherHigh box items p (least_value (left_to box m))) → (a && same_variable (item_at items p) (Var x)) ≡ false → HasHighBeside box items x (least_value (left_to box m))
    by false q a v t = record { at = p; place = y.place; other = flipped (item_at items p) (Var x) q; high = y.reached }
    by true q true v t = cc
    by true q false v t =
        let w = v refl in
        record { at = w.at; place = w.place; other = sym (same_tests (item_at items p) x (item_at items w.at) q) ∙ w.other; high = w.high }
