-- The tests of comparisons: they stay true of fewer values, and false_from_ne_true both refute and entail.
use Rattle.std.proofs.Common.{◌≡◌, ◌⊎◌, inl, inr, Bool, true, false, not, ◌&&◌, ◌||◌, [], ◌∷◌, Option, Some, None, refl, sym, ap, ◌∙◌, subst, ℤ, arith}
use Rattle.std.specs.Prelude.{IfNone, IfSome, is_some, pos, ◌+ℤ◌, ◌≤ℤ◌, int_lt}
use Rattle.std.specs.List.{list_all}
use Rattle.std.specs.Ordering.{int_eq}
use Rattle.std.proofs.lemmas.Int.{ints}
use Rattle.std.proofs.lemmas.Bool.Decides.{Decides-int_eq}
use Rattle.std.proofs.lemmas.Bool.{false_from_ne_true}
use Rattle.qc_model.specs.Domains.{Values, is_none_left, is_single, is_ascending, has_value, least_value, greatest_value, misses}
use Rattle.qc_model.specs.Left.{are_one_value}
use Rattle.qc_model.specs.Valid.{is_truth}
use Rattle.qc_model.proofs.Readable.{first, second}
use Rattle.qc_model.proofs.Sound.{misses_apart}
use Rattle.model_arguments.proofs.Values.{has_least}
use Rattle.model_arguments.proofs.Kept.{among_of, low_end, high_end, lower, reaches, is_lower}
use Rattle.qc_refuter.proofs.Domains.{none_common, some_common, some_left, ascending_left}
use Rattle.qc_refuter.specs.Met.{is_domain_left}
use Rattle.prop_compare.specs.Compared.{is_over}
use Rattle.qc_refuter.specs.Commons.{IsLeastCommon}
use Rattle.prop_compare.specs.Telling.{refuting, entailing, truth_of, refuting_as, is_mistold}
use Rattle.prop_compare.specs.declared.comparing.Comparison.{Comparison}
use Rattle.prop_compare.specs.declared.comparing.Comparison.TheVariants.{Equal, Different, AtMost, Below}
use Rattle.prop_compare.proofs.Kept.{single_value}
use Rattle.prop_compare.proofs.Losing.{swapped}

-- values in common
misses_first : (d e : Values) (v : ℤ) → has_value d v ≡ true → misses d e ≡ true → misses (v ∷ []) e ≡ true
misses_first d e v h m =
    none_common (v ∷ []) e (λ u p q. misses_apart d e u m (among_of u d (subst (λ z. has_value d z ≡ true) (sym (single_value (v ∷ []) u refl p)) h)) (among_of u e q))

misses_second : (d e : Values) (v : ℤ) → has_value e v ≡ true → misses d e ≡ true → misses d (v ∷ []) ≡ true
misses_second d e v h m =
    none_common d (v ∷ []) (λ u p q. misses_apart d e u m (among_of u d p) (among_of u e (subst (λ z. has_value e z ≡ true) (sym (single_value (v ∷ []) u refl q)) h)))

pub none_apart : (d e : Values) (r : Option ℤ) → IfNone r (misses d e ≡ true) → IfSome r (λ v. IsLeastCommon d e v) → (b : Bool) → is_some r ≡ not b → b ≡ misses d e
none_apart d e None h k true i = sym h
none_apart d e None h k false i = cc
none_apart d e (Some v) h k true i = cc
none_apart d e (Some v) h k false i = sym (some_common d e v k.first k.second)

-- one value, the same
record AreAll (p q i : Bool) : Type 0 where
  one : p ≡ true
  two : q ≡ true
  three : i ≡ true

all_of : (p q i : Bool) → (p && q && i) ≡ true → AreAll p q i
all_of true true true h = record { one = refl; two = refl; three = refl }
all_of true true false h = cc
all_of true false i h = cc
all_of false q i h = cc

all_from : (p q i : Bool) → p ≡ true → q ≡ true → i ≡ true → (p && q && i) ≡ true
all_from true true true f g h = refl
all_from true true false f g h = cc
all_from true false i f g h = cc
all_from false q i f g h = cc

parts : (d e : Values) → are_one_value d e ≡ true → AreAll (is_single d) (is_single e) (int_eq (least_value d) (least_value e))
parts d e h = all_of (is_single d) (is_single e) (int_eq (least_value d) (least_value e)) h

one_first : (d e : Values) (v : ℤ) → has_value d v ≡ true → are_one_value d e ≡ true → are_one_value (v ∷ []) e ≡ true
one_first d e v h o =
    let p = parts d e o in
    all_from true (is_single e) (int_eq v (least_value e)) refl p.two (subst (λ z. int_eq z (least_value e) ≡ true) (sym (single_value d v p.one h)) p.three)

one_second : (d e : Values) (v : ℤ) → has_value e v ≡ true → are_one_value d e ≡ true → are_one_value d (v ∷ []) ≡ true
one_second d e v h o = swapped d (v ∷ []) ∙ one_first e d v h (swapped e d ∙ o)

-- ends
over_first : (gap : ℤ) (d e : Values) (v : ℤ) → has_value d v ≡ true → is_over gap d e ≡ true → is_over gap (v ∷ []) e ≡ true
over_first gap d e v h o = more (greatest_value e) (least_value d) v o (low_end d v h)
  where
    more : (g l v : ℤ) → int_lt g (l +ℤ gap) ≡ true → l ≤ℤ v → int_lt g (v +ℤ gap) ≡ true
    more g l v h k = let m = lower g (l +ℤ gap) h in is_lower g (v +ℤ gap) (omega (arith, ints, m, k))

over_second : (gap : ℤ) (d e : Values) (v : ℤ) → has_value e v ≡ true → is_over gap d e ≡ true → is_over gap d (v ∷ []) ≡ true
over_second gap d e v h o = less (greatest_value e) (least_value d) v o (high_end e v h)
  where
    less : (g l v : ℤ) → int_lt g (l +ℤ gap) ≡ true → v ≤ℤ g → int_lt v (l +ℤ gap) ≡ true
    less g l v h k = let m = lower g (l +ℤ gap) h in is_lower v (l +ℤ gap) (omega (arith, ints, m, k))

-- what refutes some values refutes each of them
pub as_first : (k : Comparison) (t : Bool) (d e : Values) (v : ℤ) → has_value d v ≡ true → refuting_as k t d e ≡ true → refuting_as k t (v ∷ []) e ≡ true
as_first Equal true d e v h r = misses_first d e v h r
as_first Equal false d e v h r = one_first d e v h r
as_first Different true d e v h r = one_first d e v h r
as_first Different false d e v h r = misses_first d e v h r
as_first AtMost true d e v h r = over_first (pos 0) d e v h r
as_first AtMost false d e v h r = over_second (pos 1) e d v h r
as_first Below true d e v h r = over_first (pos 1) d e v h r
as_first Below false d e v h r = over_second (pos 0) e d v h r

pub as_second : (k : Comparison) (t : Bool) (d e : Values) (v : ℤ) → has_value e v ≡ true → refuting_as k t d e ≡ true → refuting_as k t d (v ∷ []) ≡ true
as_second Equal true d e v h r = misses_second d e v h r
as_second Equal false d e v h r = one_second d e v h r
as_second Different true d e v h r = one_second d e v h r
as_second Different false d e v h r = misses_second d e v h r
as_second AtMost true d e v h r = over_second (pos 0) d e v h r
as_second AtMost false d e v h r = over_first (pos 1) e d v h r
as_second Below true d e v h r = over_second (pos 1) d e v h r
as_second Below false d e v h r = over_first (pos 0) e d v h r

-- values that miss each other aren't one value
one_meets : (d e : Values) → is_none_left d ≡ false → is_none_left e ≡ false → misses d e ≡ true → are_one_value d e ≡ true → ⊥
one_meets d e n m h o =
    let p = parts d e o in
    let v = least_value d in
    misses_apart d e v h (among_of v d (has_least d n)) (among_of v e (subst (λ z. has_value e z ≡ true) (sym ((Decides-int_eq v (least_value e)).0 p.three)) (has_least e m)))

-- nor is each over each in both orders, where the gaps come to one
crossed : (g h : ℤ) (d e : Values) → g +ℤ h ≡ pos 1 → is_none_left d ≡ false → is_none_left e ≡ false → is_over g d e ≡ true → is_over h e d ≡ true → ⊥
crossed g h d e s n m o p = clash (least_value d) (greatest_value d) (least_value e) (greatest_value e) (high_end d (least_value d) (has_least d n)) (high_end e (least_value e) (has_least e m)) o p
  where
    clash : (l u i j : ℤ) → l ≤ℤ u → i ≤ℤ j → int_lt j (l +ℤ g) ≡ true → int_lt u (i +ℤ h) ≡ true → ⊥
    clash l u i j a b x y = let x1 = lower j (l +ℤ g) x in let y1 = lower u (i +ℤ h) y in omega (arith, ints, s, a, b, x1, y1)

pub never_both : (k : Comparison) (d e : Values) → is_none_left d ≡ false → is_none_left e ≡ false → refuting k d e ≡ true → entailing k d e ≡ true → ⊥
never_both Equal d e n m h o = one_meets d e n m h o
never_both Different d e n m h o = one_meets d e n m o h
never_both AtMost d e n m h o = crossed (pos 0) (pos 1) d e refl n m h o
never_both Below d e n m h o = crossed (pos 1) (pos 0) d e refl n m h o

never_other : (k : Comparison) (t : Bool) (d e : Values) → is_none_left d ≡ false → is_none_left e ≡ false → refuting_as k t d e ≡ true → refuting_as k (not t) d e ≡ true → ⊥
never_other k true d e n m h o = never_both k d e n m h o
never_other k false d e n m h o = never_both k d e n m o h

-- where one of both tests says yes the other says no
pub other_fails : (k : Comparison) (t : Bool) (d e : Values) → is_none_left d ≡ false → is_none_left e ≡ false → refuting_as k t d e ≡ true → refuting_as k (not t) d e ≡ false
other_fails k t d e n m h = false_from_ne_true (refuting_as k (not t) d e) (never_other k t d e n m h)

-- what is told by one truth value, and by both
pub mistold_one : (k : Comparison) (t : Bool) (d e : Values) → is_mistold k d e (truth_of t ∷ []) ≡ refuting_as k t d e
mistold_one k true d e = and_true (refuting k d e)
  where
    and_true : (b : Bool) → (b && true) ≡ b
    and_true true = refl
    and_true false = refl
mistold_one k false d e = refl

pub mistold_both : (k : Comparison) (d e : Values) → is_none_left d ≡ false → is_none_left e ≡ false → is_mistold k d e (pos 0 ∷ pos 1 ∷ []) ≡ false
mistold_both k d e n m = by (refuting k d e) (entailing k d e) (never_both k d e n m)
  where
    by : (p q : Bool) → (p ≡ true → q ≡ true → ⊥) → (p && q) ≡ false
    by true true f = absurd (f refl refl)
    by true false f = refl
    by false q f = refl

-- truth values that are left
truth_is : (v : ℤ) → is_truth v ≡ true → (v ≡ pos 0) ⊎ (v ≡ pos 1)
truth_is v h = by (int_eq v (pos 0)) (int_eq v (pos 1)) (Decides-int_eq v (pos 0)).0 (Decides-int_eq v (pos 1)).0 h
  where
    by : (p q : Bool) → (p ≡ true → v ≡ pos 0) → (q ≡ true → v ≡ pos 1) → (p || q) ≡ true → (v ≡ pos 0) ⊎ (v ≡ pos 1)
    by true q f g h = inl (f refl)
    by false true f g h = inr (g refl)
    by false false f g h = cc

pub two_values : (v : ℤ) → has_value (pos 0 ∷ pos 1 ∷ []) v ≡ true → (v ≡ pos 0) ⊎ (v ≡ pos 1)
two_values v h = by (int_eq v (pos 0)) (int_eq v (pos 1)) (Decides-int_eq v (pos 0)).0 (Decides-int_eq v (pos 1)).0 h
  where
    by : (p q : Bool) → (p ≡ true → v ≡ pos 0) → (q ≡ true → v ≡ pos 1) → (p || (q || false)) ≡ true → (v ≡ pos 0) ⊎ (v ≡ pos 1)
    by true q f g h = inl (f refl)
    by false true f g h = inr (g refl)
    by false false f g h = cc

two_truths : (v w : ℤ) → (v ≡ pos 0) ⊎ (v ≡ pos 1) → (w ≡ pos 0) ⊎ (w ≡ pos 1) → int_lt v w ≡ true → (v ≡ pos 0) × (w ≡ pos 1)
two_truths v w (inl p) (inl q) h = absurd (let l = lower v w h in omega (arith, ints, l, p, q))
two_truths v w (inl p) (inr q) h = (p, q)
two_truths v w (inr p) (inl q) h = absurd (let l = lower v w h in omega (arith, ints, l, p, q))
two_truths v w (inr p) (inr q) h = absurd (let l = lower v w h in omega (arith, ints, l, p, q))

not_both : (w : ℤ) → w ≡ pos 1 → w ≡ pos 0 → ⊥
not_both w p q = omega (arith, ints, p, q)

pub both_truths : (d : Values) → is_domain_left d ≡ true → list_all is_truth d ≡ true → is_single d ≡ false → d ≡ pos 0 ∷ pos 1 ∷ []
both_truths d o t s = by d (some_left d o) (ascending_left d o) t s
  where
    by : (d : Values) → is_none_left d ≡ false → is_ascending d ≡ true → list_all is_truth d ≡ true → is_single d ≡ false → d ≡ pos 0 ∷ pos 1 ∷ []
    by [] n a t s = cc
    by (v ∷ []) n a t s = cc
    by (v ∷ w ∷ []) n a t s =
        let p = truth_is v (first (is_truth v) (is_truth w && true) t) in
        let q = truth_is w (first (is_truth w) true (second (is_truth v) (is_truth w && true) t)) in
        let e = two_truths v w p q (first (int_lt v w) true a) in
        ap (λ z. z ∷ w ∷ []) e.0 ∙ ap (λ z. pos 0 ∷ z ∷ []) e.1
    by (v ∷ w ∷ u ∷ d) n a t s =
        let rest = second (is_truth v) (is_truth w && (is_truth u && list_all is_truth d)) t in
        let p = truth_is v (first (is_truth v) (is_truth w && (is_truth u && list_all is_truth d)) t) in
        let q = truth_is w (first (is_truth w) (is_truth u && list_all is_truth d) rest) in
        let r = truth_is u (first (is_truth u) (list_all is_truth d) (second (is_truth w) (is_truth u && list_all is_truth d) rest)) in
        let later = second (int_lt v w) (int_lt w u && is_ascending (u ∷ d)) a in
        let e = two_truths v w p q (first (int_lt v w) (int_lt w u && is_ascending (u ∷ d)) a) in
        let f = two_truths w u q r (first (int_lt w u) (is_ascending (u ∷ d)) later) in
        absurd (not_both w e.1 f.0)

pub one_truth : (d : Values) (v : ℤ) (t : Bool) → is_single d ≡ true → list_all is_truth d ≡ true → v ≡ least_value d → int_lt (pos 0) v ≡ t → d ≡ truth_of t ∷ []
one_truth [] v t s h e l = cc
one_truth (u ∷ w ∷ d) v t s h e l = cc
one_truth (u ∷ []) v t s h e l = ap (λ z. z ∷ []) (by t (truth_is u (first (is_truth u) true h)) (ap (int_lt (pos 0)) (sym e) ∙ l))
  where
    by : (t : Bool) → (u ≡ pos 0) ⊎ (u ≡ pos 1) → int_lt (pos 0) u ≡ t → u ≡ truth_of t
    by true (inr p) l = p
    by false (inl p) l = p
    by true (inl p) l = let k = lower (pos 0) u l in absurd (omega (arith, ints, p, k))
    by false (inr p) l = let k = reaches (pos 0) u l in absurd (omega (arith, ints, p, k))
