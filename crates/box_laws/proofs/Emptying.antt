-- When a box has a variable with no value, and values in a range.
use Rattle.std.proofs.Common.{◌≡◌, ℕ, zero, suc, Bool, true, false, not, ◌||◌, cond, [], ◌∷◌, refl, sym, ap, ◌∙◌, arith, ℤ, Some, None}
use Rattle.std.specs.Prelude.{filter, int_le, int_lt, ◌≤ℤ◌, ◌<ℤ◌}
use Rattle.std.specs.Ordering.{int_eq}
use Rattle.std.proofs.lemmas.Int.{ints}
use Rattle.std.proofs.lemmas.Bool.Decides.{Decides-int_eq}
use Rattle.qc_model.specs.Domains.{Values, Box, values_left, values_within, values_outside, is_within, is_none_left, has_empty, box_without, least_from, least_value, greatest_value, has_value}
use Rattle.model_arguments.proofs.Kept.{low_end, high_end}
use Rattle.fd_store.specs.declared.answer.Removed.TheVariants.{Emptied}
use Rattle.fd_store.specs.Held.{removal, values_from, least_of}
use Rattle.box_laws.proofs.Filters.{filter_two}

-- nothing goes
all_stay : (p : ℤ → Bool) (vs : Values) → is_none_left (filter p vs) ≡ true → filter (λ v. not (p v)) vs ≡ vs
all_stay p [] e = refl
all_stay p (v ∷ vs) e = by (p v) e (all_stay p vs)
  where
    by : (b : Bool) → is_none_left (cond b (v ∷ filter p vs) (filter p vs)) ≡ true → (is_none_left (filter p vs) ≡ true → filter (λ v. not (p v)) vs ≡ vs) → cond (not b) (v ∷ filter (λ v. not (p v)) vs) (filter (λ v. not (p v)) vs) ≡ v ∷ vs
    by true e f = cc
    by false e f = ap (λ us. v ∷ us) (f e)

some_before : (p : ℤ → Bool) (vs : Values) → is_none_left (filter p vs) ≡ false → is_none_left vs ≡ false
some_before p [] e = e
some_before p (v ∷ vs) e = refl

differ : {X : Type 0} → true ≡ false → X
differ e = cc

-- the variable has none left where it had none, unless it was emptied
same_none : (lo hi : ℤ) (vs : Values) → (removal (values_within lo hi vs) (values_outside lo hi vs) ≡ Emptied → ⊥) → is_none_left (values_outside lo hi vs) ≡ is_none_left vs
same_none lo hi vs n = by (values_within lo hi vs) (values_outside lo hi vs) refl refl n
  where
    by : (go stay : Values) → values_within lo hi vs ≡ go → values_outside lo hi vs ≡ stay → (removal go stay ≡ Emptied → ⊥) → is_none_left (values_outside lo hi vs) ≡ is_none_left vs
    by [] stay e f n = ap is_none_left (all_stay (is_within lo hi) vs (ap is_none_left e))
    by (v ∷ go) [] e f n = absurd (n refl)
    by (v ∷ go) (w ∷ stay) e f n = ap is_none_left f ∙ sym (some_before (is_within lo hi) vs (ap is_none_left e))

pub same_empty : (box : Box) (x : ℕ) (lo hi : ℤ) → (removal (values_within lo hi (values_left box x)) (values_outside lo hi (values_left box x)) ≡ Emptied → ⊥) → has_empty (box_without box x lo hi) ≡ has_empty box
same_empty [] x lo hi n = refl
same_empty (vs ∷ box) zero lo hi n = ap (λ b. b || has_empty box) (same_none lo hi vs n)
same_empty (vs ∷ box) (suc x) lo hi n = ap (λ b. is_none_left vs || b) (same_empty box x lo hi n)

or_true : (b : Bool) → (b || true) ≡ true
or_true true = refl
or_true false = refl

-- the least value from lo on tells whether there is one up to hi
least_below : (h n : ℤ) (vs : Values) → int_le (least_from n vs) h ≡ not (is_none_left (filter (λ v. int_le v h) (n ∷ vs)))
least_below h n [] = by (int_le n h)
  where
    by : (b : Bool) → b ≡ not (is_none_left (cond b (n ∷ []) []))
    by true = refl
    by false = refl
least_below h n (v ∷ vs) = by (int_lt v n) (int_le n h) (int_le v h) refl refl refl (least_below h v vs) (least_below h n vs)
  where
    never : (a b c : ℤ) → int_lt b a ≡ true → int_le a c ≡ true → int_le b c ≡ true
    never a b c p q = grind (arith, ints)

    never2 : (a b c : ℤ) → int_lt b a ≡ false → int_le b c ≡ true → int_le a c ≡ true
    never2 a b c p q = grind (arith, ints)

    by : (a b c : Bool) → int_lt v n ≡ a → int_le n h ≡ b → int_le v h ≡ c →
        int_le (least_from v vs) h ≡ not (is_none_left (cond c (v ∷ filter (λ u. int_le u h) vs) (filter (λ u. int_le u h) vs))) →
        int_le (least_from n vs) h ≡ not (is_none_left (cond b (n ∷ filter (λ u. int_le u h) vs) (filter (λ u. int_le u h) vs))) →
        int_le (least_from (cond a v n) vs) h ≡ not (is_none_left (cond b (n ∷ cond c (v ∷ filter (λ u. int_le u h) vs) (filter (λ u. int_le u h) vs)) (cond c (v ∷ filter (λ u. int_le u h) vs) (filter (λ u. int_le u h) vs))))
    by true true true e f k p q = p
    by true true false e f k p q = differ (sym (never n v h e f) ∙ k)
    by true false c e f k p q = p
    by false true c e f k p q = q
    by false false true e f k p q = differ (sym (never2 n v h e k) ∙ f)
    by false false false e f k p q = q

pub some_within : (vs : Values) (lo hi v : ℤ) → Some v ≡ least_of (values_from lo vs) → int_le v hi ≡ not (is_none_left (values_within lo hi vs))
some_within vs lo hi v e = by (values_from lo vs) refl e
  where
    by : (us : Values) → values_from lo vs ≡ us → Some v ≡ least_of us → int_le v hi ≡ not (is_none_left (values_within lo hi vs))
    by [] f e = cc
    by (w ∷ us) f e =
        let h : v ≡ least_from w us = cc in
        ap (λ n. int_le n hi) h ∙ (least_below hi w us ∙ ap (λ k. not (is_none_left k)) (sym (ap (filter (λ u. int_le u hi)) f) ∙ filter_two (int_le lo) (λ u. int_le u hi) vs))

pub none_within : (vs : Values) (lo hi : ℤ) → None ≡ least_of (values_from lo vs) → false ≡ not (is_none_left (values_within lo hi vs))
none_within vs lo hi e = by (values_from lo vs) refl e
  where
    by : (us : Values) → values_from lo vs ≡ us → None ≡ least_of us → false ≡ not (is_none_left (values_within lo hi vs))
    by [] f e = ap (λ k. not (is_none_left k)) (sym (ap (filter (λ u. int_le u hi)) f) ∙ filter_two (int_le lo) (λ u. int_le u hi) vs)
    by (w ∷ us) f e = cc

-- no value lies between the two, so nothing goes
box_stays : (box : Box) (x : ℕ) (lo hi : ℤ) → is_none_left (values_within lo hi (values_left box x)) ≡ true → box_without box x lo hi ≡ box
box_stays [] x lo hi e = refl
box_stays (vs ∷ box) zero lo hi e = ap (λ us. us ∷ box) (all_stay (is_within lo hi) vs e)
box_stays (vs ∷ box) (suc x) lo hi e = ap (λ b. vs ∷ b) (box_stays box x lo hi e)

pub nothing_goes : (box : Box) (x : ℕ) (lo hi : ℤ) → is_none_left (values_within lo hi (values_left box x)) ≡ true → box ≡ box_without box x lo hi
nothing_goes box x lo hi e = sym (box_stays box x lo hi e)

none_passes : (p : ℤ → Bool) (vs : Values) → ((v : ℤ) → has_value vs v ≡ true → p v ≡ false) → is_none_left (filter p vs) ≡ true
none_passes p [] h = refl
none_passes p (v ∷ vs) h = by (p v) (h v (here v vs)) (none_passes p vs (λ u k. h u (later u v vs k)))
  where
    here : (v : ℤ) (vs : Values) → has_value (v ∷ vs) v ≡ true
    here v vs = ap (λ b. b || has_value vs v) ((Decides-int_eq v v).1 refl)

    later : (u v : ℤ) (vs : Values) → has_value vs u ≡ true → has_value (v ∷ vs) u ≡ true
    later u v vs k = ap (λ b. int_eq u v || b) k ∙ or_true (int_eq u v)

    by : (b : Bool) → b ≡ false → is_none_left (filter p vs) ≡ true → is_none_left (cond b (v ∷ filter p vs) (filter p vs)) ≡ true
    by true e f = cc
    by false e f = f

-- both numbers lie above the values, or below them
pub none_above : (lo hi : ℤ) (vs : Values) → greatest_value vs <ℤ lo → is_none_left (values_within lo hi vs) ≡ true
none_above lo hi vs h = none_passes (is_within lo hi) vs (λ v k. out lo hi v (greatest_value vs) h (high_end vs v k))
  where
    out : (lo hi v g : ℤ) → g <ℤ lo → v ≤ℤ g → is_within lo hi v ≡ false
    out lo hi v g h k = grind (arith, ints)

pub none_below : (lo hi : ℤ) (vs : Values) → hi <ℤ least_value vs → is_none_left (values_within lo hi vs) ≡ true
none_below lo hi vs h = none_passes (is_within lo hi) vs (λ v k. out lo hi v (least_value vs) h (low_end vs v k))
  where
    out : (lo hi v l : ℤ) → hi <ℤ l → l ≤ℤ v → is_within lo hi v ≡ false
    out lo hi v l h k = grind (arith, ints)
