-- One place of a sum, and the others.
use Rattle.std.proofs.Common.{◌≡◌, ℕ, zero, suc, ◌<◌, true, false, not, List, [], ◌∷◌, length, map, take, set, get_or, refl, sym, ap, ◌∙◌, subst, arith, ℤ}
use Rattle.std.specs.Prelude.{pos, ◌+ℤ◌, ◌*ℤ◌, ◌≤ℤ◌, ◌<ℤ◌}
use Rattle.std.specs.Int.{int_min, int_max}
use Rattle.std.specs.List.{list_any}
use Rattle.std.proofs.lemmas.Int.{ints, clamps}
use Rattle.std.proofs.lemmas.List.{get_or-set_same}
use Rattle.std.proofs.lemmas.Bool.{or_parts, not_from_false, and_from}
use Rattle.qc_model.specs.declared.problem.Arg.{Arg}
use Rattle.qc_model.specs.declared.problem.Arg.TheVariants.{Var, Num}
use Rattle.qc_model.specs.declared.problem.VarId.{VarId}
use Rattle.qc_model.specs.Closed.{refutes_at, keeps_ends}
use Rattle.qc_model.specs.Content.{Rule}
use Rattle.qc_model.specs.Domains.{Values, Box, values_left, values_within, values_outside, box_within, box_without, box_at, least_value, greatest_value}
use Rattle.qc_model.specs.Left.{sum_range}
use Rattle.qc_model.specs.Refuted.{left_to, refuted_by}
use Rattle.model_arguments.proofs.Items.{none_at, other_left, others_left, all_by}
use Rattle.model_arguments.proofs.Kept.{not_lower}
use Rattle.prop_base.specs.Closed.{keeps_arg}
use Rattle.model_arguments.specs.Repeats.{same_variable, has_repeat}
use Rattle.prop_linear.specs.Tightening.{term_of, IsNear, IsTightening, AllNear, AlikeOutside, least_sum, IsBounded}
use Rattle.prop_linear.specs.Sides.{IsPast}
use Rattle.prop_linear.proofs.Alike.{alike_same, alike_at}
use Rattle.prop_linear.proofs.Spread.{low_of, high_of}

-- the sum moves by its one place
pub moved : (ns : List ℤ) (xs : List Arg) (k : ℕ) (box : Box) (x : VarId) (us : Values) (d : ℤ) (e : Arg) → has_repeat xs ≡ false → k < length ns → k < length xs → get_or xs k e ≡ Var x → x.0 < length box →
    least_sum ns xs (set box x.0 us) +ℤ (term_of (get_or ns k d) (values_left box x.0)).from ≡ least_sum ns xs box +ℤ (term_of (get_or ns k d) us).from
moved [] xs k box x us d e r h l q m = absurd (omega arith)
moved (n ∷ ns) [] k box x us d e r h l q m = absurd (omega arith)
moved (n ∷ ns) (a ∷ xs) zero box x us d e r h l q m =
    let p = or_parts (list_any (same_variable a) xs) (has_repeat xs) r in
    let here = ap (left_to (set box x.0 us)) q ∙ get_or-set_same box x.0 us [] m in
    let was = ap (left_to box) q in
    let rest = others_left box x us xs (sym (ap (λ z. list_any (same_variable z) xs) q) ∙ p.0) in
    swap (term_of n (left_to (set box x.0 us) a)).from (term_of n us).from (term_of n (left_to box a)).from (term_of n (values_left box x.0)).from
    (sum_range ns (map (left_to (set box x.0 us)) xs)).from (sum_range ns (map (left_to box) xs)).from
    (ap (λ v. (term_of n v).from) here) (ap (λ v. (term_of n v).from) was) (ap (λ v. (sum_range ns v).from) rest)
  where
    swap : (a b c d r s : ℤ) → a ≡ b → c ≡ d → r ≡ s → (a +ℤ r) +ℤ d ≡ (c +ℤ s) +ℤ b
    swap a b c d r s h k l = omega (arith, ints, h, k, l)
moved (n ∷ ns) (a ∷ xs) (suc k) box x us d e r h l q m =
    let p = or_parts (list_any (same_variable a) xs) (has_repeat xs) r in
    let apart = ap (same_variable a) (sym q) ∙ none_at (same_variable a) xs k e p.0 (omega arith) in
    let stays = ap (λ v. (term_of n v).from) (other_left box x us a apart) in
    join (term_of n (left_to (set box x.0 us) a)).from (term_of n (left_to box a)).from
    (sum_range ns (map (left_to (set box x.0 us)) xs)).from (sum_range ns (map (left_to box) xs)).from (term_of (get_or ns k d) (values_left box x.0)).from (term_of (get_or ns k d) us).from
    stays (moved ns xs k box x us d e p.1 (omega arith) (omega arith) q m)
  where
    join : (a b r s u v : ℤ) → a ≡ b → r +ℤ u ≡ s +ℤ v → (a +ℤ r) +ℤ u ≡ (b +ℤ s) +ℤ v
    join a b r s u v h k = omega (arith, ints, h, k)

-- the places before it stay near
pub near_kept : (s : ℕ) (ns : List ℤ) (xs : List Arg) (k : ℕ) (box : Box) (x : VarId) (us : Values) (e : Arg) → has_repeat xs ≡ false → k < length xs → get_or xs k e ≡ Var x →
    AllNear s (take k ns) (take k xs) box → AllNear s (take k ns) (take k xs) (set box x.0 us)
near_kept s ns xs zero box x us e r l q h = tt
near_kept s [] xs (suc k) box x us e r l q h = tt
near_kept s (n ∷ ns) [] (suc k) box x us e r l q h = tt
near_kept s (n ∷ ns) (a ∷ xs) (suc k) box x us e r l q h =
    let p = or_parts (list_any (same_variable a) xs) (has_repeat xs) r in
    let apart = ap (same_variable a) (sym q) ∙ none_at (same_variable a) xs k e p.0 (omega arith) in
    (subst (λ v. IsNear n s v) (sym (other_left box x us a apart)) h.0, near_kept s ns xs k box x us e p.1 (omega arith) q h.1)

-- one more place
pub near_more : (s : ℕ) (ns : List ℤ) (xs : List Arg) (k : ℕ) (box : Box) (d : ℤ) (e : Arg) → k < length ns → k < length xs → AllNear s (take k ns) (take k xs) box → IsNear (get_or ns k d) s (left_to box (get_or xs k e)) →
    AllNear s (take (suc k) ns) (take (suc k) xs) box
near_more s [] xs k box d e h l a n = absurd (omega arith)
near_more s (m ∷ ns) [] k box d e h l a n = absurd (omega arith)
near_more s (m ∷ ns) (x ∷ xs) zero box d e h l a n = (n, none (take 0 ns) (take 0 xs) refl)
  where
    none : (us : List ℤ) (vs : List Arg) → us ≡ [] → AllNear s us vs box
    none [] vs q = tt
    none (u ∷ us) vs q = cc
near_more s (m ∷ ns) (x ∷ xs) (suc k) box d e h l a n = (a.0, near_more s ns xs k box d e (omega arith) (omega arith) a.1 n)

pub near_at : (s : ℕ) (ns : List ℤ) (xs : List Arg) (k : ℕ) (box : Box) (d : ℤ) (e : Arg) → k < length ns → k < length xs → AllNear s ns xs box → IsNear (get_or ns k d) s (left_to box (get_or xs k e))
near_at s [] xs k box d e h l a = absurd (omega arith)
near_at s (n ∷ ns) [] k box d e h l a = absurd (omega arith)
near_at s (n ∷ ns) (x ∷ xs) zero box d e h l a = a.0
near_at s (n ∷ ns) (x ∷ xs) (suc k) box d e h l a = near_at s ns xs k box d e (omega arith) (omega arith) a.1

-- the ends are no more than the greatest of the term
pub times_low : (n : ℤ) (d : Values) → (n *ℤ least_value d) ≤ℤ (term_of n d).to
times_low n d = low (n *ℤ least_value d) (n *ℤ greatest_value d) (term_of n d).to (high_of n (least_value d) (greatest_value d))
  where
    low : (p q t : ℤ) → t ≡ int_max p q → p ≤ℤ t
    low p q t h = omega (arith, ints, clamps, h)

pub times_high : (n : ℤ) (d : Values) → (n *ℤ greatest_value d) ≤ℤ (term_of n d).to
times_high n d = high (n *ℤ least_value d) (n *ℤ greatest_value d) (term_of n d).to (high_of n (least_value d) (greatest_value d))
  where
    high : (p q t : ℤ) → t ≡ int_max p q → q ≤ℤ t
    high p q t h = omega (arith, ints, clamps, h)

-- a near variable at such a value leaves the sum within s above its least
pub value_near : (ns : List ℤ) (xs : List Arg) (s : ℕ) (box : Box) (k : ℕ) (x : VarId) (v : ℤ) → has_repeat xs ≡ false → length ns ≡ length xs → k < length xs →
    get_or xs k (Num (pos 0)) ≡ Var x → x.0 < length box → IsNear (get_or ns k (pos 0)) s (values_left box x.0) → (get_or ns k (pos 0) *ℤ v) ≤ℤ (term_of (get_or ns k (pos 0)) (values_left box x.0)).to →
    least_sum ns xs (box_at box x.0 v) ≤ℤ (least_sum ns xs box +ℤ pos s)
value_near ns xs s box k x v r l h q m near t =
    let n = get_or ns k (pos 0) in
    let d = values_left box x.0 in
    let one = v ∷ [] in
    sum (least_sum ns xs (box_at box x.0 v)) (least_sum ns xs box) (term_of n d).from (term_of n d).to (term_of n one).from (n *ℤ v)
    (moved ns xs k box x one (pos 0) (Num (pos 0)) r (omega (arith, l)) h q m) (low_of n v v) near t
  where
    sum : (r u f t g w : ℤ) → r +ℤ f ≡ u +ℤ g → g ≡ int_min w w → t ≤ℤ (f +ℤ pos s) → w ≤ℤ t → r ≤ℤ (u +ℤ pos s)
    sum r u f t g w h i l m = omega (arith, ints, clamps, h, i, l, m)

keeps_value : (c : Rule) (ns : List ℤ) (xs : List Arg) (bound : ℤ) (s : ℕ) (box : Box) (x : VarId) (v : ℤ) → IsBounded c box ns xs bound → AlikeOutside xs box (box_at box x.0 v) → bound ≡ least_sum ns xs box +ℤ pos s →
    least_sum ns xs (box_at box x.0 v) ≤ℤ (least_sum ns xs box +ℤ pos s) → not (refutes_at c box x.0 v) ≡ true
keeps_value c ns xs bound s box x v b f e n =
    not_from_false (refutes_at c box x.0 v) (b.refuted (box_at box x.0 v) f ∙ not_lower bound (least_sum ns xs (box_at box x.0 v)) (subst (λ z. least_sum ns xs (box_at box x.0 v) ≤ℤ z) (sym e) n))

-- near places keep their ends
keeps_place : (c : Rule) (ns : List ℤ) (xs : List Arg) (bound : ℤ) (s : ℕ) (box : Box) (k : ℕ) (a : Arg) → IsBounded c box ns xs bound → has_repeat xs ≡ false → length ns ≡ length xs → k < length xs →
    get_or xs k (Num (pos 0)) ≡ a → ((x : VarId) → a ≡ Var x → x.0 < length box) → bound ≡ least_sum ns xs box +ℤ pos s → IsNear (get_or ns k (pos 0)) s (left_to box a) → keeps_arg c box a ≡ true
keeps_place c ns xs bound s box k (Num n) b r l h q f e near = refl
keeps_place c ns xs bound s box k (Var x) b r l h q f e near =
    let d = values_left box x.0 in
    let n = get_or ns k (pos 0) in
    and_from (not (refutes_at c box x.0 (least_value d))) (not (refutes_at c box x.0 (greatest_value d)))
    (keeps_value c ns xs bound s box x (least_value d) b (alike_at xs box k x (least_value d ∷ []) (Num (pos 0)) h q) e (value_near ns xs s box k x (least_value d) r l h q (f x refl) near (times_low n d)))
    (keeps_value c ns xs bound s box x (greatest_value d) b (alike_at xs box k x (greatest_value d ∷ []) (Num (pos 0)) h q) e (value_near ns xs s box k x (greatest_value d) r l h q (f x refl) near (times_high n d)))

pub keeps_items : (c : Rule) (ns : List ℤ) (xs : List Arg) (bound : ℤ) (s : ℕ) (box : Box) → IsBounded c box ns xs bound → has_repeat xs ≡ false → length ns ≡ length xs →
    ((k : ℕ) (x : VarId) → k < length xs → get_or xs k (Num (pos 0)) ≡ Var x → x.0 < length box) → bound ≡ least_sum ns xs box +ℤ pos s → AllNear s ns xs box → keeps_ends box c ≡ true
keeps_items c ns xs bound s box b r l f e near =
    b.own box (alike_same xs box)
    (b.refuted box (alike_same xs box) ∙ not_lower bound (least_sum ns xs box) (within (least_sum ns xs box) e))
    (all_by (keeps_arg c box) xs (Num (pos 0))
    (λ k h. keeps_place c ns xs bound s box k (get_or xs k (Num (pos 0))) b r l h refl (λ x q. f k x h q) e (near_at s ns xs k box (pos 0) (Num (pos 0)) (omega (arith, l)) h near)))
  where
    within : (z : ℤ) → bound ≡ z +ℤ pos s → z ≤ℤ bound
    within z h = omega (arith, ints, h)

-- the cut of a place is refuted
pub cut_refuted : (c : Rule) (ns : List ℤ) (xs : List Arg) (s : ℕ) (box : Box) (k : ℕ) (x : VarId) (lo hi : ℤ) (e : Arg) → IsPast c box ns xs (least_sum ns xs box +ℤ pos s) → has_repeat xs ≡ false → k < length ns → k < length xs →
    get_or xs k e ≡ Var x → x.0 < length box → IsTightening (get_or ns k (pos 0)) s (values_left box x.0) lo hi → refuted_by c (box_within box x.0 lo hi) ≡ true
cut_refuted c ns xs s box k x lo hi e b r l h q m t =
    let n = get_or ns k (pos 0) in
    let d = values_left box x.0 in
    let us = values_within lo hi d in
    let move = moved ns xs k box x us (pos 0) e r l h q m in
    b (box_within box x.0 lo hi) (alike_at xs box k x us e h q) (above (least_sum ns xs (box_within box x.0 lo hi)) (least_sum ns xs box) (term_of n d).from (term_of n us).from move t.far)
  where
    above : (r u f g : ℤ) → r +ℤ f ≡ u +ℤ g → (f +ℤ pos s) <ℤ g → (u +ℤ pos s) <ℤ r
    above r u f g h k = omega (arith, ints, h, k)

pub sum_kept : (ns : List ℤ) (xs : List Arg) (s : ℕ) (box : Box) (k : ℕ) (x : VarId) (lo hi : ℤ) (e : Arg) → has_repeat xs ≡ false → k < length ns → k < length xs →
    get_or xs k e ≡ Var x → x.0 < length box → IsTightening (get_or ns k (pos 0)) s (values_left box x.0) lo hi → least_sum ns xs (box_without box x.0 lo hi) ≡ least_sum ns xs box
sum_kept ns xs s box k x lo hi e r l h q m t =
    let n = get_or ns k (pos 0) in
    let d = values_left box x.0 in
    let us = values_outside lo hi d in
    same (least_sum ns xs (box_without box x.0 lo hi)) (least_sum ns xs box) (term_of n d).from (term_of n us).from (moved ns xs k box x us (pos 0) e r l h q m) t.same
  where
    same : (r u f g : ℤ) → r +ℤ f ≡ u +ℤ g → g ≡ f → r ≡ u
    same r u f g h k = omega (arith, ints, h, k)

pub near_after : (s : ℕ) (ns : List ℤ) (xs : List Arg) (k : ℕ) (box : Box) (x : VarId) (lo hi : ℤ) (e : Arg) → has_repeat xs ≡ false → k < length ns → k < length xs → get_or xs k e ≡ Var x → x.0 < length box →
    IsTightening (get_or ns k (pos 0)) s (values_left box x.0) lo hi → AllNear s (take k ns) (take k xs) box → AllNear s (take (suc k) ns) (take (suc k) xs) (box_without box x.0 lo hi)
near_after s ns xs k box x lo hi e r l h q m t a =
    let us = values_outside lo hi (values_left box x.0) in
    let left : left_to (box_without box x.0 lo hi) (get_or xs k e) ≡ us = ap (left_to (box_without box x.0 lo hi)) q ∙ get_or-set_same box x.0 us [] m in
    near_more s ns xs k (box_without box x.0 lo hi) (pos 0) e l h (near_kept s ns xs k box x us e r h q a) (subst (λ v. IsNear (get_or ns k (pos 0)) s v) (sym left) t.near)

pub near_number : (a : ℤ) (s : ℕ) (n : ℤ) → IsNear a s (n ∷ [])
near_number a s n = by (a *ℤ n) (term_of a (n ∷ [])).from (term_of a (n ∷ [])).to (low_of a n n) (high_of a n n)
  where
    by : (w f t : ℤ) → f ≡ int_min w w → t ≡ int_max w w → t ≤ℤ (f +ℤ pos s)
    by w f t h k = omega (arith, ints, clamps, h, k)
