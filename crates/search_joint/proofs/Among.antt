-- Values that are among others.
use Rattle.std.proofs.Common.{◌≡◌, ℕ, suc, Bool, true, false, not, ◌||◌, cond, [], ◌∷◌, length, refl, sym, ap, ◌∙◌, subst, arith, ℤ, Some, None}
use Rattle.std.specs.Prelude.{filter, int_le, int_lt, pos, negsuc, ◌+ℤ◌, ◌-ℤ◌}
use Rattle.std.specs.List.{list_all}
use Rattle.std.specs.Ordering.{int_eq}
use Rattle.std.proofs.lemmas.Int.{ints}
use Rattle.std.proofs.lemmas.Bool.Decides.{nat_tests, Decides-int_eq}
use Rattle.std.proofs.lemmas.Bool.{and_from, or_right}
use Rattle.qc_model.specs.Domains.{Values, has_value, is_ascending, is_none_left, is_within, least_from, least_value, greatest_from, greatest_value, values_outside}
use Rattle.qc_model.specs.Valid.{is_number}
use Rattle.qc_model.proofs.Readable.{first, second}
use Rattle.model_arguments.proofs.Values.{value_passes, above_first, ascending_rest, has_least}
use Rattle.fd_store.specs.Held.{values_from, least_of}
use Rattle.search_joint.specs.Narrowed.{AreAmong}

pub among_same : (vs ws : Values) → vs ≡ ws → AreAmong vs ws
among_same vs ws e = record { each = λ v h. ap (λ us. has_value us v) (sym e) ∙ h }

pub among_more : (us vs ws : Values) → AreAmong us vs → AreAmong vs ws → AreAmong us ws
among_more us vs ws p q = record { each = λ v h. q.each v (p.each v h) }

pub kept_is : (p : ℤ → Bool) (vs : Values) (v : ℤ) → has_value (filter p vs) v ≡ true → (has_value vs v ≡ true) × (p v ≡ true)
kept_is p [] v h = cc
kept_is p (w ∷ vs) v h = by (p w) refl h (kept_is p vs v)
  where
    at : (b : Bool) → (b ≡ true → v ≡ w) → p w ≡ true → (b || has_value (filter p vs) v) ≡ true → (has_value (filter p vs) v ≡ true → (has_value vs v ≡ true) × (p v ≡ true)) → ((b || has_value vs v) ≡ true) × (p v ≡ true)
    at true e f h k = (refl, subst (λ z. p z ≡ true) (sym (e refl)) f)
    at false e f h k = k h

    by : (b : Bool) → p w ≡ b → has_value (cond b (w ∷ filter p vs) (filter p vs)) v ≡ true → (has_value (filter p vs) v ≡ true → (has_value vs v ≡ true) × (p v ≡ true)) → (has_value (w ∷ vs) v ≡ true) × (p v ≡ true)
    by true f h k = at (int_eq v w) (Decides-int_eq v w).0 f h k
    by false f h k = let r = k h in (or_right (int_eq v w) (has_value vs v) r.0, r.1)

not_of : (b : Bool) → not b ≡ true → b ≡ false
not_of true h = cc
not_of false h = refl

-- values that stay where some go
pub outside_is : (lo hi : ℤ) (vs : Values) (v : ℤ) → has_value (values_outside lo hi vs) v ≡ true → (has_value vs v ≡ true) × (is_within lo hi v ≡ false)
outside_is lo hi vs v h = let r = kept_is (λ u. not (is_within lo hi u)) vs v h in (r.0, not_of (is_within lo hi v) r.1)

pub among_outside : (lo hi : ℤ) (vs : Values) → AreAmong (values_outside lo hi vs) vs
among_outside lo hi vs = record { each = λ v h. (outside_is lo hi vs v h).0 }

-- the ends lie around each value
first_least : (n : ℤ) (vs : Values) → int_le (least_from n vs) n ≡ true
first_least n [] = grind (arith, ints)
first_least n (v ∷ vs) = by (int_lt v n) refl (first_least v vs) (first_least n vs)
  where
    through : (a : ℤ) → int_lt v n ≡ true → int_le a v ≡ true → int_le a n ≡ true
    through a p q = grind (arith, ints)

    by : (b : Bool) → int_lt v n ≡ b → int_le (least_from v vs) v ≡ true → int_le (least_from n vs) n ≡ true → int_le (least_from (cond b v n) vs) n ≡ true
    by true e p q = through (least_from v vs) e p
    by false e p q = q

first_greatest : (n : ℤ) (vs : Values) → int_le n (greatest_from n vs) ≡ true
first_greatest n [] = grind (arith, ints)
first_greatest n (v ∷ vs) = by (int_lt n v) refl (first_greatest v vs) (first_greatest n vs)
  where
    through : (a : ℤ) → int_lt n v ≡ true → int_le v a ≡ true → int_le n a ≡ true
    through a p q = grind (arith, ints)

    by : (b : Bool) → int_lt n v ≡ b → int_le v (greatest_from v vs) ≡ true → int_le n (greatest_from n vs) ≡ true → int_le n (greatest_from (cond b v n) vs) ≡ true
    by true e p q = through (greatest_from v vs) e p
    by false e p q = q

each_least : (n : ℤ) (vs : Values) → list_all (int_le (least_from n vs)) vs ≡ true
each_least n [] = refl
each_least n (v ∷ vs) = by (int_lt v n) refl (each_least v vs) (each_least n vs)
  where
    here : int_lt v n ≡ false → int_le (least_from n vs) n ≡ true → int_le (least_from n vs) v ≡ true
    here e p = grind (arith, ints)

    by : (b : Bool) → int_lt v n ≡ b → list_all (int_le (least_from v vs)) vs ≡ true → list_all (int_le (least_from n vs)) vs ≡ true → list_all (int_le (least_from (cond b v n) vs)) (v ∷ vs) ≡ true
    by true e p q = and_from (int_le (least_from v vs) v) (list_all (int_le (least_from v vs)) vs) (first_least v vs) p
    by false e p q = and_from (int_le (least_from n vs) v) (list_all (int_le (least_from n vs)) vs) (here e (first_least n vs)) q

each_greatest : (n : ℤ) (vs : Values) → list_all (λ v. int_le v (greatest_from n vs)) vs ≡ true
each_greatest n [] = refl
each_greatest n (v ∷ vs) = by (int_lt n v) refl (each_greatest v vs) (each_greatest n vs)
  where
    here : int_lt n v ≡ false → int_le n (greatest_from n vs) ≡ true → int_le v (greatest_from n vs) ≡ true
    here e p = grind (arith, ints)

    by : (b : Bool) → int_lt n v ≡ b → list_all (λ u. int_le u (greatest_from v vs)) vs ≡ true → list_all (λ u. int_le u (greatest_from n vs)) vs ≡ true → list_all (λ u. int_le u (greatest_from (cond b v n) vs)) (v ∷ vs) ≡ true
    by true e p q = and_from (int_le v (greatest_from v vs)) (list_all (λ u. int_le u (greatest_from v vs)) vs) (first_greatest v vs) p
    by false e p q = and_from (int_le v (greatest_from n vs)) (list_all (λ u. int_le u (greatest_from n vs)) vs) (here e (first_greatest n vs)) q

pub above_least : (vs : Values) (v : ℤ) → has_value vs v ≡ true → int_le (least_value vs) v ≡ true
above_least [] v h = cc
above_least (w ∷ vs) v h =
    value_passes (int_le (least_from w vs)) (w ∷ vs) v (and_from (int_le (least_from w vs) w) (list_all (int_le (least_from w vs)) vs) (first_least w vs) (each_least w vs)) h

pub below_greatest : (vs : Values) (v : ℤ) → has_value vs v ≡ true → int_le v (greatest_value vs) ≡ true
below_greatest [] v h = cc
below_greatest (w ∷ vs) v h =
    value_passes (λ u. int_le u (greatest_from w vs)) (w ∷ vs) v (and_from (int_le w (greatest_from w vs)) (list_all (λ u. int_le u (greatest_from w vs)) vs) (first_greatest w vs) (each_greatest w vs)) h

-- values from a number on, where the least one is, and where what lies below is gone
pub from_least : (vs : Values) (lo v : ℤ) → int_le lo (least_value vs) ≡ true → has_value vs v ≡ true → int_le lo v ≡ true
from_least vs lo v p h = by (least_value vs) p (above_least vs v h)
  where
    by : (a : ℤ) → int_le lo a ≡ true → int_le a v ≡ true → int_le lo v ≡ true
    by a p q = grind (arith, ints)

pub from_cut : (lo v : ℤ) → is_number v ≡ true → is_within (negsuc 999999999) (lo -ℤ pos 1) v ≡ false → int_le lo v ≡ true
from_cut lo v n p = grind (arith, nat_tests, ints)

-- values up to a number, where some number that is at most as large bounds them, and where what lies above is gone
pub up_to_most : (most hi v : ℤ) → int_le most hi ≡ true → int_le v most ≡ true → int_le v hi ≡ true
up_to_most most hi v p q = grind (arith, ints)

pub up_to_cut : (hi v : ℤ) → is_number v ≡ true → is_within (hi +ℤ pos 1) (pos 1000000000) v ≡ false → int_le v hi ≡ true
up_to_cut hi v n p = grind (arith, nat_tests, ints)

-- ascending values that are as many as lie between their ends
reaches : (v : ℤ) (vs : Values) → is_ascending (v ∷ vs) ≡ true → int_le (v +ℤ pos (length vs)) (greatest_from v vs) ≡ true
reaches v [] a = self_reach v
  where
    self_reach : (v : ℤ) → int_le (v +ℤ pos 0) v ≡ true
    self_reach v = grind (arith, ints)
reaches v (w ∷ vs) a =
    let up = first (int_lt v w) (is_ascending (w ∷ vs)) a in
    ap (λ b. int_le (v +ℤ pos (length (w ∷ vs))) (greatest_from (cond b w v) vs)) up ∙ further v w (greatest_from w vs) (length vs) up (reaches w vs (ascending_rest v (w ∷ vs) a))
  where
    further : (v w g : ℤ) (n : ℕ) → int_lt v w ≡ true → int_le (w +ℤ pos n) g ≡ true → int_le (v +ℤ pos (suc n)) g ≡ true
    further v w g n p q = grind (arith, ints)

fills : (v : ℤ) (vs : Values) (u : ℤ) → is_ascending (v ∷ vs) ≡ true → int_lt (greatest_from v vs -ℤ v) (pos (length (v ∷ vs))) ≡ true → int_le v u ≡ true → int_le u (greatest_from v vs) ≡ true → has_value (v ∷ vs) u ≡ true
fills v [] u a n l h = ap (λ b. b || false) (alone v u l h)
  where
    alone : (v u : ℤ) → int_le v u ≡ true → int_le u v ≡ true → int_eq u v ≡ true
    alone v u l h = grind (arith, ints)
fills v (w ∷ vs) u a n l h =
    let up = first (int_lt v w) (is_ascending (w ∷ vs)) a in
    let rest = ascending_rest v (w ∷ vs) a in
    let top : greatest_from v (w ∷ vs) ≡ greatest_from w vs = ap (λ b. greatest_from (cond b w v) vs) up in
    let few : int_lt (greatest_from w vs -ℤ v) (pos (suc (suc (length vs)))) ≡ true = sym (ap (λ g. int_lt (g -ℤ v) (pos (length (v ∷ w ∷ vs)))) top) ∙ n in
    let high : int_le u (greatest_from w vs) ≡ true = sym (ap (int_le u) top) ∙ h in
    by (int_eq u v) refl (λ e. fills w vs u rest (fewer v w (greatest_from w vs) (length vs) up few) (next v w u (greatest_from w vs) (length vs) (reaches w vs rest) few l e) high)
  where
    fewer : (v w g : ℤ) (n : ℕ) → int_lt v w ≡ true → int_lt (g -ℤ v) (pos (suc (suc n))) ≡ true → int_lt (g -ℤ w) (pos (suc n)) ≡ true
    fewer v w g n p q = grind (arith, ints)

    next : (v w u g : ℤ) (n : ℕ) → int_le (w +ℤ pos n) g ≡ true → int_lt (g -ℤ v) (pos (suc (suc n))) ≡ true → int_le v u ≡ true → int_eq u v ≡ false → int_le w u ≡ true
    next v w u g n p q l e = grind (arith, ints)

    by : (b : Bool) → int_eq u v ≡ b → (int_eq u v ≡ false → has_value (w ∷ vs) u ≡ true) → (b || has_value (w ∷ vs) u) ≡ true
    by true e k = refl
    by false e k = k e

least_is : (v : ℤ) (vs : Values) → list_all (int_lt v) vs ≡ true → least_from v vs ≡ v
least_is v [] h = refl
least_is v (w ∷ vs) h = ap (λ b. least_from (cond b w v) vs) (no_less v w (first (int_lt v w) (list_all (int_lt v) vs) h)) ∙ least_is v vs (second (int_lt v w) (list_all (int_lt v) vs) h)
  where
    no_less : (v w : ℤ) → int_lt v w ≡ true → int_lt w v ≡ false
    no_less v w h = grind (arith, ints)

-- so each number between the ends is one of them
pub all_between : (vs : Values) (lo hi : ℤ) (n : ℕ) → is_ascending vs ≡ true → is_none_left vs ≡ false → lo ≡ least_value vs → hi ≡ greatest_value vs → n ≡ length vs → int_lt (hi -ℤ lo) (pos n) ≡ true →
    (v : ℤ) → is_within (least_value vs) (greatest_value vs) v ≡ true → has_value vs v ≡ true
all_between [] lo hi n a s p q r f v h = cc
all_between (w ∷ vs) lo hi n a s p q r f v h =
    let begin : least_from w vs ≡ w = least_is w vs (above_first w vs a) in
    let few : int_lt (greatest_from w vs -ℤ w) (pos (length (w ∷ vs))) ≡ true = sym (ap (λ z. int_lt (hi -ℤ z) (pos n)) (p ∙ begin) ∙ (ap (λ z. int_lt (z -ℤ w) (pos n)) q ∙ ap (λ k. int_lt (greatest_from w vs -ℤ w) (pos k)) r)) ∙ f in
    fills w vs v a few
    (sym (ap (λ z. int_le z v) begin) ∙ first (int_le (least_from w vs) v) (int_le v (greatest_from w vs)) h)
    (second (int_le (least_from w vs) v) (int_le v (greatest_from w vs)) h)

-- the first of the values from a number on
is_kept : (p : ℤ → Bool) (vs : Values) (v : ℤ) → has_value vs v ≡ true → p v ≡ true → has_value (filter p vs) v ≡ true
is_kept p [] v h k = cc
is_kept p (w ∷ vs) v h k = by (int_eq v w) refl (Decides-int_eq v w).0 h (λ r. is_kept p vs v r k)
  where
    here : (b : Bool) → b ≡ true → int_eq v w ≡ true → has_value (cond b (w ∷ filter p vs) (filter p vs)) v ≡ true
    here true e f = ap (λ c. c || has_value (filter p vs) v) f
    here false e f = cc

    later : (b : Bool) → has_value (filter p vs) v ≡ true → has_value (cond b (w ∷ filter p vs) (filter p vs)) v ≡ true
    later true f = or_right (int_eq v w) (has_value (filter p vs) v) f
    later false f = f

    by : (b : Bool) → int_eq v w ≡ b → (b ≡ true → v ≡ w) → (b || has_value vs v) ≡ true → (has_value vs v ≡ true → has_value (filter p vs) v ≡ true) → has_value (filter p (w ∷ vs)) v ≡ true
    by true f e h q = here (p w) (subst (λ z. p z ≡ true) (e refl) k) f
    by false f e h q = later (p w) (q h)

pub record IsFirstFrom (vs : Values) (at v : ℤ) : Type 0 where
  pub left : has_value vs v ≡ true
  pub up : int_le at v ≡ true
  pub least : (u : ℤ) → has_value vs u ≡ true → int_le at u ≡ true → int_le v u ≡ true

pub first_from : (vs : Values) (at v : ℤ) → Some v ≡ least_of (values_from at vs) → IsFirstFrom vs at v
first_from vs at v e = by (values_from at vs) refl e
  where
    by : (us : Values) → values_from at vs ≡ us → Some v ≡ least_of us → IsFirstFrom vs at v
    by [] f e = cc
    by (w ∷ us) f e =
        let got : v ≡ least_value (w ∷ us) = cc in
        let one : has_value (values_from at vs) v ≡ true = ap (λ l. has_value l v) f ∙ (ap (has_value (w ∷ us)) got ∙ has_least (w ∷ us) refl) in
        let both = kept_is (int_le at) vs v one in
        record {
          left = both.0;
          up = both.1;
          least = λ u h k. ap (λ z. int_le z u) got ∙ above_least (w ∷ us) u (sym (ap (λ l. has_value l u) f) ∙ is_kept (int_le at) vs u h k);
        }

pub none_from : (vs : Values) (at : ℤ) → None ≡ least_of (values_from at vs) → (u : ℤ) → has_value vs u ≡ true → int_lt u at ≡ true
none_from vs at e u h = by (values_from at vs) refl e
  where
    below : int_le at u ≡ false → int_lt u at ≡ true
    below k = grind (arith, ints)

    none : (b : Bool) → int_le at u ≡ b → has_value (values_from at vs) u ≡ false → int_lt u at ≡ true
    none true k f = let g = is_kept (int_le at) vs u h k in cc
    none false k f = below k

    by : (us : Values) → values_from at vs ≡ us → None ≡ least_of us → int_lt u at ≡ true
    by [] f e = none (int_le at u) refl (ap (λ l. has_value l u) f)
    by (w ∷ us) f e = cc
