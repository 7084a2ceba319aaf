-- More different numbers than a range has don't fit into it: the first law for all_different.
use Rattle.std.proofs.Common.{◌≡◌, ℕ, zero, suc, ◌+◌, ◌≤◌, Bool, true, false, ◌&&◌, not, cond, List, [], ◌∷◌, refl, sym, ◌∙◌, subst, arith}
use Rattle.std.specs.Prelude.{ℤ, pos, ◌+ℤ◌, ◌-ℤ◌, ◌≤ℤ◌, int_le, int_lt, nat_abs}
use Rattle.std.specs.Ordering.{int_eq}
use Rattle.std.specs.List.{list_any, count_by}
use Rattle.std.proofs.lemmas.Int.{ints}
use Rattle.std.proofs.lemmas.Bool.Decides.{Decides-int_eq}
use Rattle.std.proofs.lemmas.List.Sums.{sum_by-cons}
use Rattle.std.proofs.lemmas.Bool.{or_left, or_right, and_parts}
use Rattle.qc_model.specs.Lists.{Among, LiesIn}
use Rattle.qc_model.specs.Domains.{Values, least_value, greatest_value}
use Rattle.qc_model.specs.Meaning.{all_different}
use Rattle.qc_model.specs.Holds.{Given, values_at, holds_as, all_differ}
use Rattle.qc_model.specs.Left.{Lefts, lefts_at, span, is_crowded}
use Rattle.qc_model.specs.Refuted.{refuted_as}
use Rattle.qc_model.proofs.Visible.{Fits}
use Rattle.qc_model.proofs.Sound.{InRange, in_span, differ, not_true}
use Rattle.model_table.proofs.Fits.{many_fits, any_at}
use Rattle.model_table.proofs.Sums.{same_number}

-- one more where the first passes
pub count_step : {X : Type 0} (p : X → Bool) (x : X) (xs : List X) → count_by p (x ∷ xs) ≡ cond (p x) 1 0 + count_by p xs
count_step p x xs = sum_by-cons (λ y. cond (p y) 1 0) x xs

-- a number that isn't an item is counted nowhere, and one that is at most once
count_none : (x : ℤ) (vs : List ℤ) → (list_any (int_eq x) vs ≡ true → ⊥) → count_by (int_eq x) vs ≡ 0
count_none x [] n = refl
count_none x (v ∷ vs) n = count_step (int_eq x) v vs ∙ by (int_eq x v) refl (count_none x vs (λ e. n (or_right (int_eq x v) (list_any (int_eq x) vs) e)))
  where
    by : (b : Bool) → int_eq x v ≡ b → count_by (int_eq x) vs ≡ 0 → cond b 1 0 + count_by (int_eq x) vs ≡ 0
    by true e h = absurd (n (or_left (int_eq x v) (list_any (int_eq x) vs) e))
    by false e h = omega arith

count_once : (x : ℤ) (vs : List ℤ) → all_differ vs ≡ true → count_by (int_eq x) vs ≤ 1
count_once x [] a = omega arith
count_once x (v ∷ vs) a =
    let p = and_parts (not (list_any (int_eq v) vs)) (all_differ vs) a in
    subst (λ (n : ℕ). n ≤ 1) (sym (count_step (int_eq x) v vs)) (by p.0 (count_once x vs p.1) (int_eq x v) refl)
  where
    by : not (list_any (int_eq v) vs) ≡ true → count_by (int_eq x) vs ≤ 1 → (b : Bool) → int_eq x v ≡ b → cond b 1 0 + count_by (int_eq x) vs ≤ 1
    by n h true e =
        let z = subst (λ (y : ℤ). count_by (int_eq y) vs ≡ 0) (sym (same_number x v e)) (count_none v vs (λ m. not_true (list_any (int_eq v) vs) n m)) in
        omega arith
    by n h false e = omega arith

-- the numbers from l on, as many as n
abbrev in_first : ℤ → ℕ → ℤ → Bool
in_first l n v = int_le l v && int_lt v (l +ℤ pos n)

last_apart : (l : ℤ) (n : ℕ) (v : ℤ) → cond (in_first l (suc n) v) 1 0 ≤ cond (in_first l n v) 1 0 + cond (int_eq (l +ℤ pos n) v) 1 0
last_apart l n v = by (int_le l v) refl (int_lt v (l +ℤ pos (suc n))) refl (int_lt v (l +ℤ pos n)) refl (int_eq (l +ℤ pos n) v) refl
  where
    by : (a : Bool) → int_le l v ≡ a → (b : Bool) → int_lt v (l +ℤ pos (suc n)) ≡ b → (c : Bool) → int_lt v (l +ℤ pos n) ≡ c → (d : Bool) → int_eq (l +ℤ pos n) v ≡ d → cond (a && b) 1 0 ≤ cond (a && c) 1 0 + cond d 1 0
    by true e true f true g d h = omega arith
    by true e true f false g true h = omega arith
    by true e true f false g false h = absurd (differ (sym h ∙ (Decides-int_eq (l +ℤ pos n) v).1 (omega (arith, ints))))
    by true e false f c g d h = omega arith
    by false e b f c g d h = omega arith

count_split : (l : ℤ) (n : ℕ) (vs : List ℤ) → count_by (in_first l (suc n)) vs ≤ count_by (in_first l n) vs + count_by (int_eq (l +ℤ pos n)) vs
count_split l n [] = omega arith
count_split l n (v ∷ vs) =
    omega (arith, count_step (in_first l (suc n)) v vs, count_step (in_first l n) v vs, count_step (int_eq (l +ℤ pos n)) v vs, last_apart l n v, count_split l n vs)

none_first : (l : ℤ) (vs : List ℤ) → count_by (in_first l 0) vs ≡ 0
none_first l [] = refl
none_first l (v ∷ vs) = count_step (in_first l 0) v vs ∙ by (int_le l v) refl (int_lt v (l +ℤ pos 0)) refl (none_first l vs)
  where
    by : (a : Bool) → int_le l v ≡ a → (b : Bool) → int_lt v (l +ℤ pos 0) ≡ b → count_by (in_first l 0) vs ≡ 0 → cond (a && b) 1 0 + count_by (in_first l 0) vs ≡ 0
    by true e true f h = absurd (omega (arith, ints))
    by true e false f h = omega arith
    by false e b f h = omega arith

pub pigeonhole : (l : ℤ) (n : ℕ) (vs : List ℤ) → all_differ vs ≡ true → count_by (in_first l n) vs ≤ n
pigeonhole l zero vs a = omega (arith, none_first l vs)
pigeonhole l (suc n) vs a = omega (arith, count_split l n vs, count_once (l +ℤ pos n) vs a, pigeonhole l n vs a)

-- a place whose ends lie within l..h has its value there
abbrev pub ends_within : ℤ → ℤ → Values → Bool
ends_within l h d = int_le l (least_value d) && int_le (greatest_value d) h

value_within : (l h : ℤ) (n : ℕ) (v : ℤ) (d : Values) → h ≡ l +ℤ pos n → Among v d → cond (ends_within l h d) 1 0 ≤ cond (in_first l (suc n) v) 1 0
value_within l h n v d e m = by (in_span v d m) (int_le l (least_value d)) refl (int_le (greatest_value d) h) refl (int_le l v) refl (int_lt v (l +ℤ pos (suc n))) refl
  where
    by : InRange v (span d) → (a : Bool) → int_le l (least_value d) ≡ a → (b : Bool) → int_le (greatest_value d) h ≡ b → (p : Bool) → int_le l v ≡ p → (q : Bool) → int_lt v (l +ℤ pos (suc n)) ≡ q → cond (a && b) 1 0 ≤ cond (p && q) 1 0
    by i true x true y true z true w = omega arith
    by i true x true y true z false w = absurd (omega (arith, ints, i.low, i.high))
    by i true x true y false z q w = absurd (omega (arith, ints, i.low, i.high))
    by i true x false y p z q w = omega arith
    by i false x b y p z q w = omega arith

count_within : (l h : ℤ) (n : ℕ) (vs : List ℤ) (ds : List Values) → h ≡ l +ℤ pos n → LiesIn vs ds → count_by (ends_within l h) ds ≤ count_by (in_first l (suc n)) vs
count_within l h n [] [] e k = omega arith
count_within l h n [] (d ∷ ds) e k = absurd k
count_within l h n (v ∷ vs) [] e k = absurd k
count_within l h n (v ∷ vs) (d ∷ ds) e k =
    omega (arith, count_step (ends_within l h) d ds, count_step (in_first l (suc n)) v vs, value_within l h n v d e k.0, count_within l h n vs ds e k.1)

-- the distance of two numbers in order
distance : (l h : ℤ) → l ≤ℤ h → (n : ℕ) × (h ≡ l +ℤ pos n)
distance l h e = (nat_abs (h -ℤ l), omega (arith, ints))

pub crowd_repeats : (l h : ℤ) (vs : List ℤ) (ds : List Values) → LiesIn vs ds → is_crowded ds l h ≡ true → all_differ vs ≡ true → ⊥
crowd_repeats l h vs ds k c a =
    let p = and_parts (int_le l h) (int_lt ((h -ℤ l) +ℤ pos 1) (pos (count_by (ends_within l h) ds))) c in
    let d = distance l h (omega (arith, ints)) in
    let m = count_within l h d.0 vs ds d.1 k in
    let n = pigeonhole l (suc d.0) vs a in
    clash d.0 (count_by (ends_within l h) ds) d.1 p.1 (omega arith)
  where
    clash : (n c : ℕ) → h ≡ l +ℤ pos n → int_lt ((h -ℤ l) +ℤ pos 1) (pos c) ≡ true → c ≤ suc n → ⊥
    clash n c e q m = omega (arith, ints)

pub all_different_sound : (vs : Given) (ds : Lefts) → Fits vs ds → refuted_as all_different ds ≡ true → holds_as all_different vs ≡ true → ⊥
all_different_sound vs ds f r h =
    let p = any_at (λ d. list_any (λ e. is_crowded (lefts_at ds 0) (least_value d) (greatest_value e)) (lefts_at ds 0)) (lefts_at ds 0) r in
    let q = any_at (λ e. is_crowded (lefts_at ds 0) (least_value p.0) (greatest_value e)) (lefts_at ds 0) p.2 in
    crowd_repeats (least_value p.0) (greatest_value q.0) (values_at vs 0) (lefts_at ds 0) (many_fits vs ds 0 f) q.2 h
