-- The last term that can be more than one number.
use Rattle.std.proofs.Common.{◌≡◌, ◌≢◌, ◌⊎◌, inl, inr, ℕ, zero, suc, ◌<◌, Bool, true, false, not, ◌&&◌, ◌||◌, List, [], ◌∷◌, length, map, set, get_or, refl, sym, ap, ◌∙◌, subst, arith, ℤ}
use Rattle.std.specs.Prelude.{pos, ◌+ℤ◌, ◌*ℤ◌, ◌<ℤ◌, ◌==◌, int_lt}
use Rattle.std.specs.Int.{int_min, int_max}
use Rattle.std.specs.List.{list_all, list_any}
use Rattle.std.specs.Ordering.{int_eq}
use Rattle.std.proofs.lemmas.Int.{ints, clamps}
use Rattle.std.proofs.lemmas.List.{get_or-set_same}
use Rattle.std.proofs.lemmas.Bool.Decides.{Decides-int_eq, nat_tests}
use Rattle.std.proofs.lemmas.Bool.{or_parts, false_from_ne_true, and_from}
use Rattle.qc_model.specs.declared.problem.Arg.{Arg}
use Rattle.qc_model.specs.declared.problem.Arg.TheVariants.{Var, Num}
use Rattle.qc_model.specs.declared.problem.VarId.{VarId}
use Rattle.qc_model.specs.Closed.{refutes_at, keeps_ends}
use Rattle.qc_model.specs.Content.{Rule}
use Rattle.qc_model.specs.Domains.{Values, Box, values_left, box_at, has_value, is_ascending, is_none_left, is_single, is_within, values_outside, least_value, greatest_value}
use Rattle.qc_model.specs.Left.{sum_range}
use Rattle.qc_model.specs.Ranges.{Range, is_point}
use Rattle.qc_model.specs.Refuted.{left_to, refuted_by}
use Rattle.qc_model.specs.Valid.{is_number}
use Rattle.qc_model.proofs.Readable.{first, second}
use Rattle.model_arguments.proofs.Values.{value_passes, has_least, has_greatest}
use Rattle.model_arguments.proofs.Kept.{keeps, passes, was_left, some_of}
use Rattle.model_arguments.proofs.Bools.{not_false}
use Rattle.model_arguments.proofs.Items.{none_at, other_left, flipped, all_by}
use Rattle.qc_refuter.proofs.Domains.{some_left}
use Rattle.qc_refuter.specs.Met.{is_domain_left, is_open}
use Rattle.qc_refuter.proofs.Terms.{open_at}
use Rattle.prop_base.specs.Closed.{IsCut, keeps_arg}
use Rattle.prop_base.proofs.Keeps.{within_one, stays}
use Rattle.model_arguments.specs.Repeats.{same_variable, has_repeat}
use Rattle.prop_linear.specs.Tightening.{AlikeOutside, term_of, least_sum}
use Rattle.prop_linear.specs.Unequal.{is_loose, loose_at, IsUnequal, IsHit}
use Rattle.prop_linear.proofs.Alike.{alike_more, alike_at}
use Rattle.prop_linear.proofs.Hits.{one_hit}
use Rattle.prop_linear.proofs.Loose.{two_apart, loose_apart, sum_apart, apart_point, left_at_place, length_left, keeps_both, open_some, no_term, stays_sum}
use Rattle.prop_linear.proofs.Moves.{moved}
use Rattle.prop_linear.proofs.Spread.{low_of, high_of}

-- the items of two places differ
no_repeat_at : (xs : List Arg) (j p : ℕ) (e : Arg) → has_repeat xs ≡ false → j < length xs → p < length xs → j ≢ p → same_variable (get_or xs j e) (get_or xs p e) ≡ false
no_repeat_at [] j p e r h k n = absurd (omega arith)
no_repeat_at (a ∷ xs) zero zero e r h k n = absurd (n refl)
no_repeat_at (a ∷ xs) zero (suc p) e r h k n = none_at (same_variable a) xs p e (or_parts (list_any (same_variable a) xs) (has_repeat xs) r).0 (omega arith)
no_repeat_at (a ∷ xs) (suc j) zero e r h k n = flipped a (get_or xs j e) (none_at (same_variable a) xs j e (or_parts (list_any (same_variable a) xs) (has_repeat xs) r).0 (omega arith))
no_repeat_at (a ∷ xs) (suc j) (suc p) e r h k n = no_repeat_at xs j p e (or_parts (list_any (same_variable a) xs) (has_repeat xs) r).1 (omega arith) (omega arith) (λ q. n (ap suc q))

-- what is left to the others stays
left_other : (xs : List Arg) (box : Box) (j p : ℕ) (x : VarId) (us : Values) (e : Arg) → has_repeat xs ≡ false → j < length xs → p < length xs → j ≢ p → get_or xs p e ≡ Var x → left_to (set box x.0 us) (get_or xs j e) ≡ left_to box (get_or xs j e)
left_other xs box j p x us e r h k n q =
    other_left box x us (get_or xs j e) (ap (same_variable (get_or xs j e)) (sym q) ∙ no_repeat_at xs j p e r h k n)

-- all places but p are one number each
abbrev pub OthersTight : List ℤ → List Arg → Box → ℕ → Type 0
OthersTight ns xs box p = (j : ℕ) → j < length xs → j ≢ p → loose_at ns xs box j ≡ false

others_tight : (ns : List ℤ) (xs : List Arg) (box : Box) (p : ℕ) (x : VarId) (us : Values) → has_repeat xs ≡ false → p < length xs → get_or xs p (Num (pos 0)) ≡ Var x → OthersTight ns xs box p → OthersTight ns xs (set box x.0 us) p
others_tight ns xs box p x us r k q t = λ j h n.
    ap (is_loose (get_or ns j (pos 0))) (left_other xs box j p x us (Num (pos 0)) r h k n q) ∙ t j h n

-- a term that is one number, and a sum of such
tight_term : (a : ℤ) (d : Values) → is_loose a d ≡ false → is_none_left d ≡ false → (term_of a d).from ≡ (term_of a d).to
tight_term a d t s = by (int_eq a (pos 0)) ((Decides-int_eq a (pos 0)).0) t
  where
    alone : (d : Values) → is_single d ≡ true → (term_of a d).from ≡ (term_of a d).to
    alone [] h = cc
    alone (v ∷ []) h = one (a *ℤ v) (term_of a (v ∷ [])).from (term_of a (v ∷ [])).to (low_of a v v) (high_of a v v)
      where
        one : (w f t : ℤ) → f ≡ int_min w w → t ≡ int_max w w → f ≡ t
        one w f t h k = omega (arith, ints, clamps, h, k)
    alone (v ∷ w ∷ d) h = cc

    single : (b : Bool) → (not false && not b) ≡ false → b ≡ true
    single true h = refl
    single false h = cc

    by : (z : Bool) → (z ≡ true → a ≡ pos 0) → (not z && not (is_single d)) ≡ false → (term_of a d).from ≡ (term_of a d).to
    by true e h =
        let q = ap (λ k. term_of k d) (e refl) ∙ no_term d in
        ap (λ (r : Range). r.from) q ∙ sym (ap (λ (r : Range). r.to) q)
    by false e h = alone d (single (is_single d) h)

tight_sum : (ns : List ℤ) (xs : List Arg) (box : Box) → length ns ≡ length xs → list_all (is_open box) xs ≡ true → ((j : ℕ) → j < length xs → loose_at ns xs box j ≡ false) → (sum_range ns (map (left_to box) xs)).from ≡ (sum_range ns (map (left_to box) xs)).to
tight_sum [] xs box l o f = refl
tight_sum (n ∷ ns) [] box l o f = refl
tight_sum (n ∷ ns) (a ∷ xs) box l o f =
    by (term_of n (left_to box a)).from (term_of n (left_to box a)).to (sum_range ns (map (left_to box) xs)).from (sum_range ns (map (left_to box) xs)).to
    (tight_term n (left_to box a) (f 0 (omega arith)) (some (left_to box a) (first (is_open box a) (list_all (is_open box) xs) o)))
    (tight_sum ns xs box (omega (arith, l)) (second (is_open box a) (list_all (is_open box) xs) o) (λ j k. f (suc j) (omega (arith, k))))
  where
    some : (d : Values) → is_domain_left d ≡ true → is_none_left d ≡ false
    some d h = not_false (is_none_left d) (first (not (is_none_left d)) (is_ascending d) (first (not (is_none_left d) && is_ascending d) (list_all is_number d) h))

    by : (a b c d : ℤ) → a ≡ b → c ≡ d → a +ℤ c ≡ b +ℤ d
    by a b c d h k = omega (arith, ints, h, k)

-- the least of the sum with the last variable at a value
least_at : (ns : List ℤ) (xs : List Arg) (box : Box) (p : ℕ) (x : VarId) (v : ℤ) → has_repeat xs ≡ false → length ns ≡ length xs → p < length xs → get_or xs p (Num (pos 0)) ≡ Var x → x.0 < length box →
    least_sum ns xs (box_at box x.0 v) +ℤ (term_of (get_or ns p (pos 0)) (values_left box x.0)).from ≡ least_sum ns xs box +ℤ (get_or ns p (pos 0) *ℤ v)
least_at ns xs box p x v r l k q m =
    let n = get_or ns p (pos 0) in
    let d = values_left box x.0 in
    by (least_sum ns xs (box_at box x.0 v)) (least_sum ns xs box) (term_of n d).from (term_of n (v ∷ [])).from (n *ℤ v) (moved ns xs p box x (v ∷ []) (pos 0) (Num (pos 0)) r (omega (arith, l, k)) k q m) (low_of n v v)
  where
    by : (a u f g w : ℤ) → a +ℤ f ≡ u +ℤ g → g ≡ int_min w w → a +ℤ f ≡ u +ℤ w
    by a u f g w h i = omega (arith, ints, clamps, h, i)

-- so the bound is met there alone where the value is hit
hit_of : (ns : List ℤ) (xs : List Arg) (box : Box) (p : ℕ) (x : VarId) (v bound : ℤ) → has_repeat xs ≡ false → length ns ≡ length xs → p < length xs → get_or xs p (Num (pos 0)) ≡ Var x → x.0 < length box →
    is_point bound (sum_range ns (map (left_to (box_at box x.0 v)) xs)) ≡ true → IsHit (least_sum ns xs box) (get_or ns p (pos 0)) (values_left box x.0) bound v
hit_of ns xs box p x v bound r l k q m h =
    let s = sum_range ns (map (left_to (box_at box x.0 v)) xs) in
    let e = (Decides-int_eq s.from bound).0 (first (int_eq s.from bound) (int_eq s.to bound) h) in
    sym (ap (λ z. z +ℤ (term_of (get_or ns p (pos 0)) (values_left box x.0)).from) (sym e) ∙ least_at ns xs box p x v r l k q m)

-- the open box with the variable at a value
open_set : (box : Box) (x : VarId) (v : ℤ) (xs : List Arg) → x.0 < length box → is_number v ≡ true → list_all (is_open box) xs ≡ true → list_all (is_open (box_at box x.0 v)) xs ≡ true
open_set box x v [] m n o = refl
open_set box x v (a ∷ xs) m n o =
    and_from (is_open (box_at box x.0 v) a) (list_all (is_open (box_at box x.0 v)) xs)
    (one (same_variable a (Var x)) a refl (first (is_open box a) (list_all (is_open box) xs) o))
    (open_set box x v xs m n (second (is_open box a) (list_all (is_open box) xs) o))
  where
    same : (a b : ℕ) → (a == b) ≡ true → a ≡ b
    same a b h = grind (arith, nat_tests)

    alone : (b : Bool) → b ≡ true → ((true && true) && (b && true)) ≡ true
    alone true h = refl
    alone false h = cc

    one : (b : Bool) (a : Arg) → same_variable a (Var x) ≡ b → is_open box a ≡ true → is_open (box_at box x.0 v) a ≡ true
    one false a e h = ap is_domain_left (other_left box x (v ∷ []) a e) ∙ h
    one true (Num k) e h = cc
    one true (Var y) e h =
        ap is_domain_left (ap (values_left (box_at box x.0 v)) (sym (same x.0 y.0 e)) ∙ get_or-set_same box x.0 (v ∷ []) [] m) ∙ alone (is_number v) n

-- the value that is hit may go
pub hit_cut : (c : Rule) (ns : List ℤ) (xs : List Arg) (bound : ℤ) (box : Box) (p : ℕ) (x : VarId) (v : ℤ) → IsUnequal c box ns xs bound → has_repeat xs ≡ false → length ns ≡ length xs → p < length xs → get_or xs p (Num (pos 0)) ≡ Var x → x.0 < length box →
    list_all (is_open box) xs ≡ true → is_domain_left (values_left box x.0) ≡ true → OthersTight ns xs box p → has_value (values_left box x.0) v ≡ true → IsHit (least_sum ns xs box) (get_or ns p (pos 0)) (values_left box x.0) bound v → IsCut c box (record { x = x; lo = v; hi = v })
hit_cut c ns xs bound box p x v u r l k q m o dom t h hit =
    let d = values_left box x.0 in
    let n = get_or ns p (pos 0) in
    let at = box_at box x.0 v in
    let s = sum_range ns (map (left_to at) xs) in
    let asc = second (not (is_none_left d)) (is_ascending d) (first (not (is_none_left d) && is_ascending d) (list_all is_number d) dom) in
    let small = value_passes is_number d v (second (not (is_none_left d) && is_ascending d) (list_all is_number d) dom) h in
    let low : s.from ≡ bound = cancel s.from (least_sum ns xs box) (n *ℤ v) (term_of n d).from (least_at ns xs box p x v r l k q m) hit in
    let same = tight_sum ns xs at l (open_set box x v xs m small o) (all_tight ns xs box p x v r k q m t) in
    record {
      x = m;
      low = small;
      high = small;
      some = stays d v asc h;
      refuted =
          ap (refuted_by c) (within_one box x.0 v asc h)
          ∙ (u.refuted at (alike_at xs box p x (v ∷ []) (Num (pos 0)) k q) ∙ and_from (int_eq s.from bound) (int_eq s.to bound) ((Decides-int_eq s.from bound).1 low) ((Decides-int_eq s.to bound).1 (sym same ∙ low)));
    }
  where
    cancel : (a u w f : ℤ) → a +ℤ f ≡ u +ℤ w → u +ℤ w ≡ bound +ℤ f → a ≡ bound
    cancel a u w f h i = omega (arith, ints, h, i)

    all_tight : (ns : List ℤ) (xs : List Arg) (box : Box) (p : ℕ) (x : VarId) (v : ℤ) → has_repeat xs ≡ false → p < length xs → get_or xs p (Num (pos 0)) ≡ Var x → x.0 < length box → OthersTight ns xs box p → (j : ℕ) → j < length xs → loose_at ns xs (box_at box x.0 v) j ≡ false
    all_tight ns xs box p x v r k q m t j h = by (j == p) (same j p) (differ j p)
      where
        same : (a b : ℕ) → (a == b) ≡ true → a ≡ b
        same a b h = grind (arith, nat_tests)

        differ : (a b : ℕ) → (a == b) ≡ false → a ≢ b
        differ a b h = grind (arith, nat_tests)

        and_false : (b : Bool) → (b && false) ≡ false
        and_false true = refl
        and_false false = refl

        here : loose_at ns xs (box_at box x.0 v) p ≡ false
        here =
            ap (is_loose (get_or ns p (pos 0))) (ap (left_to (box_at box x.0 v)) q ∙ get_or-set_same box x.0 (v ∷ []) [] m) ∙ and_false (not (int_eq (get_or ns p (pos 0)) (pos 0)))

        by : (b : Bool) → (b ≡ true → j ≡ p) → (b ≡ false → j ≢ p) → loose_at ns xs (box_at box x.0 v) j ≡ false
        by true e f = subst (λ i. loose_at ns xs (box_at box x.0 v) i ≡ false) (sym (e refl)) here
        by false e f = others_tight ns xs box p x (v ∷ []) r k q t j h (f refl)

set_twice : (box : Box) (x : ℕ) (us vs : Values) → set (set box x us) x vs ≡ set box x vs
set_twice [] x us vs = refl
set_twice (d ∷ box) zero us vs = refl
set_twice (d ∷ box) (suc x) us vs = ap (λ b. d ∷ b) (set_twice box x us vs)

has_place : (box : Box) (x : ℕ) (v : ℤ) → has_value (values_left box x) v ≡ true → x < length box
has_place [] x v h = cc
has_place (d ∷ box) zero v h = omega arith
has_place (d ∷ box) (suc x) v h = omega (arith, has_place box x v h)

-- with values that don't hit, the sum isn't the bound
sum_off : (ns : List ℤ) (xs : List Arg) (bound : ℤ) (box : Box) (p : ℕ) (x : VarId) (us : Values) → has_repeat xs ≡ false → length ns ≡ length xs → p < length xs → get_or xs p (Num (pos 0)) ≡ Var x → x.0 < length box → is_domain_left us ≡ true →
    int_eq (get_or ns p (pos 0)) (pos 0) ≡ false → ((w : ℤ) → has_value us w ≡ true → IsHit (least_sum ns xs box) (get_or ns p (pos 0)) (values_left box x.0) bound w → ⊥) → is_point bound (sum_range ns (map (left_to (set box x.0 us)) xs)) ≡ false
sum_off ns xs bound box p x [] r l k q m o z f = cc
sum_off ns xs bound box p x (w ∷ []) r l k q m o z f =
    false_from_ne_true (is_point bound (sum_range ns (map (left_to (set box x.0 (w ∷ []))) xs))) (λ h. f w (self w) (hit_of ns xs box p x w bound r l k q m h))
  where
    self : (w : ℤ) → has_value (w ∷ []) w ≡ true
    self w = by (int_eq w w) ((Decides-int_eq w w).1 refl)
      where
        by : (b : Bool) → b ≡ true → (b || false) ≡ true
        by true h = refl
        by false h = cc
sum_off ns xs bound box p x (w ∷ v ∷ us) r l k q m o z f =
    let at = set box x.0 (w ∷ v ∷ us) in
    let n = get_or ns p (pos 0) in
    let ds = map (left_to at) xs in
    let here : get_or ds p [] ≡ w ∷ v ∷ us = left_at_place at xs p (Num (pos 0)) k ∙ (ap (left_to at) q ∙ get_or-set_same box x.0 (w ∷ v ∷ us) [] m) in
    let P : Values → Type 0 = λ d. (term_of n d).from <ℤ (term_of n d).to in
    apart_point bound (sum_range ns ds) (sum_apart ns ds p (omega (arith, l, k)) (omega (arith, length_left at xs, k)) (subst P (sym here) (loose_apart n (w ∷ v ∷ us) o (loose (int_eq n (pos 0)) z))))
  where
    loose : (b : Bool) → b ≡ false → (not b && true) ≡ true
    loose true h = cc
    loose false h = refl

-- where no value that is left hits, all ends are kept
pub last_keeps : (c : Rule) (ns : List ℤ) (xs : List Arg) (bound : ℤ) (box : Box) (p : ℕ) (x : VarId) (us : Values) → IsUnequal c box ns xs bound → has_repeat xs ≡ false → length ns ≡ length xs → p < length xs → get_or xs p (Num (pos 0)) ≡ Var x → x.0 < length box →
    list_all (is_open (set box x.0 us)) xs ≡ true → OthersTight ns xs box p → int_eq (get_or ns p (pos 0)) (pos 0) ≡ false → ((w : ℤ) → has_value us w ≡ true → IsHit (least_sum ns xs box) (get_or ns p (pos 0)) (values_left box x.0) bound w → ⊥) →
    keeps_ends (set box x.0 us) c ≡ true
last_keeps c ns xs bound box p x us u r l k q m o t z f =
    u.own b2 alike (u.refuted b2 alike ∙ sum_off ns xs bound box p x us r l k q m dom z f)
    (all_by (keeps_arg c b2) xs (Num (pos 0))
    (λ j h. keeps_both c b2 (get_or xs j (Num (pos 0))) (λ y w g i. by (y.0 == x.0) y w (alike_more xs box b2 (box_at b2 y.0 w) alike (alike_at xs b2 j y (w ∷ []) (Num (pos 0)) h g)) (same y.0 x.0) refl i) (λ y g. open_some b2 (get_or xs j (Num (pos 0))) y (open_at b2 xs j (Num (pos 0)) h o) g)))
  where
    b2 : Box
    b2 = set box x.0 us

    alike : AlikeOutside xs box b2
    alike = alike_at xs box p x us (Num (pos 0)) k q

    same : (a b : ℕ) → (a == b) ≡ true → a ≡ b
    same a b h = grind (arith, nat_tests)

    differ : (a b : ℕ) → (a == b) ≡ false → a ≢ b
    differ a b h = grind (arith, nat_tests)

    left_here : values_left b2 x.0 ≡ us
    left_here = get_or-set_same box x.0 us [] m

    dom : is_domain_left us ≡ true
    dom = sym (ap is_domain_left (ap (left_to b2) q ∙ left_here)) ∙ open_at b2 xs p (Num (pos 0)) k o

    here : (w : ℤ) → has_value us w ≡ true → refutes_at c b2 x.0 w ≡ false
    here w h =
        ap (refuted_by c) (set_twice box x.0 us (w ∷ []))
        ∙ (u.refuted (box_at box x.0 w) (alike_at xs box p x (w ∷ []) (Num (pos 0)) k q) ∙ false_from_ne_true (is_point bound (sum_range ns (map (left_to (box_at box x.0 w)) xs))) (λ g. f w h (hit_of ns xs box p x w bound r l k q m g)))

    apart : (y : VarId) → (y.0 == x.0) ≡ false → (j : ℕ) → j < length xs → (is_loose (get_or ns j (pos 0)) (left_to b2 (get_or xs j (Num (pos 0)))) ≡ false) ⊎ (same_variable (get_or xs j (Num (pos 0))) (Var y) ≡ false)
    apart y e j h = split (j == p) (same j p) (differ j p)
      where
        split : (b : Bool) → (b ≡ true → j ≡ p) → (b ≡ false → j ≢ p) → (is_loose (get_or ns j (pos 0)) (left_to b2 (get_or xs j (Num (pos 0)))) ≡ false) ⊎ (same_variable (get_or xs j (Num (pos 0))) (Var y) ≡ false)
        split true g n = inr (ap (λ i. same_variable (get_or xs i (Num (pos 0))) (Var y)) (g refl) ∙ (ap (λ a. same_variable a (Var y)) q ∙ e))
        split false g n = inl (others_tight ns xs box p x us r k q t j h (n refl))

    by : (b : Bool) (y : VarId) (w : ℤ) → AlikeOutside xs box (box_at b2 y.0 w) → ((y.0 == x.0) ≡ true → y.0 ≡ x.0) → (y.0 == x.0) ≡ b → has_value (values_left b2 y.0) w ≡ true → refutes_at c b2 y.0 w ≡ false
    by true y w a s e h =
        let i = s e in
        ap (λ n. refutes_at c b2 n w) i ∙ here w (ap (λ d. has_value d w) (sym left_here) ∙ (ap (λ n. has_value (values_left b2 n) w) (sym i) ∙ h))
    by false y w a s e h =
        u.refuted (box_at b2 y.0 w) a
        ∙ (ap (is_point bound) (stays_sum ns xs b2 y w (Num (pos 0)) (has_place b2 y.0 w h) h l (apart y e)) ∙ sum_off ns xs bound box p x us r l k q m dom z f)

-- a default that isn't taken
pub any_default : (xs : List Arg) (k : ℕ) (d e : Arg) → k < length xs → get_or xs k d ≡ get_or xs k e
any_default [] k d e h = absurd (omega arith)
any_default (x ∷ xs) zero d e h = refl
any_default (x ∷ xs) (suc k) d e h = any_default xs k d e (omega arith)

set_left : (box : Box) (x : ℕ) → set box x (values_left box x) ≡ box
set_left [] x = refl
set_left (d ∷ box) zero = refl
set_left (d ∷ box) (suc x) = ap (λ b. d ∷ b) (set_left box x)

pub factor_of : (a : ℤ) (d : Values) → is_loose a d ≡ true → int_eq a (pos 0) ≡ false
factor_of a d h = not_false (int_eq a (pos 0)) (first (not (int_eq a (pos 0))) (not (is_single d)) h)

-- no value hits, so all may stay
pub all_stay : (c : Rule) (ns : List ℤ) (xs : List Arg) (bound : ℤ) (box : Box) (p : ℕ) (x : VarId) → IsUnequal c box ns xs bound → has_repeat xs ≡ false → length ns ≡ length xs → p < length xs → get_or xs p (Num (pos 0)) ≡ Var x → x.0 < length box →
    list_all (is_open box) xs ≡ true → OthersTight ns xs box p → int_eq (get_or ns p (pos 0)) (pos 0) ≡ false → ((w : ℤ) → has_value (values_left box x.0) w ≡ true → IsHit (least_sum ns xs box) (get_or ns p (pos 0)) (values_left box x.0) bound w → ⊥) →
    keeps_ends box c ≡ true
all_stay c ns xs bound box p x u r l k q m o t z f =
    let same = set_left box x.0 in
    sym (ap (λ b. keeps_ends b c) same) ∙ last_keeps c ns xs bound box p x (values_left box x.0) u r l k q m (ap (λ b. list_all (is_open b) xs) same ∙ o) t z f

-- of two values one is another
pub one_leaves : (d : Values) (v : ℤ) → is_domain_left d ≡ true → is_single d ≡ false → is_none_left (values_outside v v d) ≡ false
one_leaves d v o s =
    let some = some_left d o in
    by (int_lt v (greatest_value d)) refl (two_apart d o s) (has_least d some) (has_greatest d some)
  where
    up : (v g : ℤ) → int_lt v g ≡ true → not (is_within v v g) ≡ true
    up v g h = grind (arith, ints)

    down : (v l g : ℤ) → int_lt v g ≡ false → l <ℤ g → not (is_within v v l) ≡ true
    down v l g h k = grind (arith, ints)

    by : (b : Bool) → int_lt v (greatest_value d) ≡ b → least_value d <ℤ greatest_value d → has_value d (least_value d) ≡ true → has_value d (greatest_value d) ≡ true → is_none_left (values_outside v v d) ≡ false
    by true e a l g = some_of (values_outside v v d) (greatest_value d) (keeps (λ w. not (is_within v v w)) d (greatest_value d) (up v (greatest_value d) e) g)
    by false e a l g = some_of (values_outside v v d) (least_value d) (keeps (λ w. not (is_within v v w)) d (least_value d) (down v (least_value d) (greatest_value d) e a) l)

-- the value that goes isn't among those that stay
pub others_miss : (least a : ℤ) (d : Values) (bound v w : ℤ) → int_eq a (pos 0) ≡ false → has_value d v ≡ true → IsHit least a d bound v → has_value (values_outside v v d) w ≡ true → IsHit least a d bound w → ⊥
others_miss least a d bound v w z h k m n =
    let out = λ (u : ℤ). not (is_within v v u) in
    clash v w (one_hit least a d bound v w z h (was_left out d w m) k n) (passes out d w m)
  where
    clash : (v w : ℤ) → v ≡ w → not (is_within v v w) ≡ true → ⊥
    clash v w e h = grind (arith, ints)
