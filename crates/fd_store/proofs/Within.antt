-- The least of the values from low on is the least of those from low to high, where there is one; and the greatest alike.
use Rattle.std.proofs.Common.{◌≡◌, Bool, true, false, ◌&&◌, cond, [], ◌∷◌, refl, sym, ap, ◌∙◌, arith, ℤ, None, Some}
use Rattle.std.specs.Prelude.{◌≤ℤ◌, ◌<ℤ◌, int_lt, int_le}
use Rattle.std.proofs.lemmas.Int.{ints}
use Rattle.qc_model.specs.Domains.{Values, is_none_left, least_from, greatest_from, least_value, greatest_value, values_within}
use Rattle.fd_store.specs.Held.{values_from, values_up_to, least_of, greatest_of}

lesser_up_to : (v m high : ℤ) → v ≤ℤ high → m ≤ℤ high → cond (int_lt v m) v m ≤ℤ high
lesser_up_to v m high h k = by (int_lt v m)
  where
    by : (b : Bool) → cond b v m ≤ℤ high
    by true = h
    by false = k

greater_from : (v m low : ℤ) → low ≤ℤ v → low ≤ℤ m → low ≤ℤ cond (int_lt m v) v m
greater_from v m low h k = by (int_lt m v)
  where
    by : (b : Bool) → low ≤ℤ cond b v m
    by true = h
    by false = k

lesser_above : (v m high : ℤ) → high <ℤ v → high <ℤ m → high <ℤ cond (int_lt v m) v m
lesser_above v m high h k = by (int_lt v m)
  where
    by : (b : Bool) → high <ℤ cond b v m
    by true = h
    by false = k

greater_below : (v m low : ℤ) → v <ℤ low → m <ℤ low → cond (int_lt m v) v m <ℤ low
greater_below v m low h k = by (int_lt m v)
  where
    by : (b : Bool) → cond b v m <ℤ low
    by true = h
    by false = k

lesser_is : (v m : ℤ) (b : Bool) → int_lt v m ≡ b → cond (int_lt v m) v m ≡ cond b v m
lesser_is v m b e = ap (λ q. cond q v m) e

-- the least, from one that is at most high on
least_reached : (low high m : ℤ) (vs : Values) → m ≤ℤ high → least_from m (values_from low vs) ≡ least_from m (values_within low high vs)
least_reached low high m [] h = refl
least_reached low high m (v ∷ vs) h = by (int_le low v) (int_le v high) refl (λ k l. least_reached low high k vs l)
  where
    by : (a b : Bool) → int_le v high ≡ b → ((k : ℤ) → k ≤ℤ high → least_from k (values_from low vs) ≡ least_from k (values_within low high vs)) →
        least_from m (cond a (v ∷ values_from low vs) (values_from low vs)) ≡ least_from m (cond (a && b) (v ∷ values_within low high vs) (values_within low high vs))
    by true true e q = q (cond (int_lt v m) v m) (lesser_up_to v m high (grind (arith, ints)) h)
    by true false e q = ap (λ k. least_from k (values_from low vs)) (lesser_is v m false (grind (arith, ints))) ∙ q m h
    by false b e q = q m h

-- the least, from one that is above high on
least_awaited : (low high m : ℤ) (vs : Values) → high <ℤ m → is_none_left (values_within low high vs) ≡ false → least_from m (values_from low vs) ≡ least_value (values_within low high vs)
least_awaited low high m [] h f = cc
least_awaited low high m (v ∷ vs) h f = by (int_le low v) (int_le v high) refl f (λ k l g. least_awaited low high k vs l g)
  where
    by : (a b : Bool) → int_le v high ≡ b → is_none_left (cond (a && b) (v ∷ values_within low high vs) (values_within low high vs)) ≡ false →
        ((k : ℤ) → high <ℤ k → is_none_left (values_within low high vs) ≡ false → least_from k (values_from low vs) ≡ least_value (values_within low high vs)) →
        least_from m (cond a (v ∷ values_from low vs) (values_from low vs)) ≡ least_value (cond (a && b) (v ∷ values_within low high vs) (values_within low high vs))
    by true true e f q = ap (λ k. least_from k (values_from low vs)) (lesser_is v m true (grind (arith, ints))) ∙ least_reached low high v vs (grind (arith, ints))
    by true false e f q = q (cond (int_lt v m) v m) (lesser_above v m high (grind (arith, ints)) h) f
    by false b e f q = q m h f

pub least_within : (low high : ℤ) (vs : Values) → is_none_left (values_within low high vs) ≡ false → least_value (values_from low vs) ≡ least_value (values_within low high vs)
least_within low high [] f = refl
least_within low high (v ∷ vs) f = by (int_le low v) (int_le v high) refl f (λ g. least_within low high vs g)
  where
    by : (a b : Bool) → int_le v high ≡ b → is_none_left (cond (a && b) (v ∷ values_within low high vs) (values_within low high vs)) ≡ false →
        (is_none_left (values_within low high vs) ≡ false → least_value (values_from low vs) ≡ least_value (values_within low high vs)) →
        least_value (cond a (v ∷ values_from low vs) (values_from low vs)) ≡ least_value (cond (a && b) (v ∷ values_within low high vs) (values_within low high vs))
    by true true e f q = least_reached low high v vs (grind (arith, ints))
    by true false e f q = least_awaited low high v vs (grind (arith, ints)) f
    by false b e f q = q f

-- the greatest, from one that is at least low on
greatest_reached : (low high m : ℤ) (vs : Values) → low ≤ℤ m → greatest_from m (values_up_to high vs) ≡ greatest_from m (values_within low high vs)
greatest_reached low high m [] h = refl
greatest_reached low high m (v ∷ vs) h = by (int_le low v) (int_le v high) refl (λ k l. greatest_reached low high k vs l)
  where
    by : (a b : Bool) → int_le low v ≡ a → ((k : ℤ) → low ≤ℤ k → greatest_from k (values_up_to high vs) ≡ greatest_from k (values_within low high vs)) →
        greatest_from m (cond b (v ∷ values_up_to high vs) (values_up_to high vs)) ≡ greatest_from m (cond (a && b) (v ∷ values_within low high vs) (values_within low high vs))
    by true true e q = q (cond (int_lt m v) v m) (greater_from v m low (grind (arith, ints)) h)
    by false true e q = ap (λ k. greatest_from k (values_up_to high vs)) (ap (λ t. cond t v m) (int_lt_no e)) ∙ q m h
      where
        int_lt_no : int_le low v ≡ false → int_lt m v ≡ false
        int_lt_no e = grind (arith, ints)
    by true false e q = q m h
    by false false e q = q m h

-- the greatest, from one that is below low on
greatest_awaited : (low high m : ℤ) (vs : Values) → m <ℤ low → is_none_left (values_within low high vs) ≡ false → greatest_from m (values_up_to high vs) ≡ greatest_value (values_within low high vs)
greatest_awaited low high m [] h f = cc
greatest_awaited low high m (v ∷ vs) h f = by (int_le low v) (int_le v high) refl f (λ k l g. greatest_awaited low high k vs l g)
  where
    up : int_le low v ≡ true → int_lt m v ≡ true
    up e = grind (arith, ints)

    by : (a b : Bool) → int_le low v ≡ a → is_none_left (cond (a && b) (v ∷ values_within low high vs) (values_within low high vs)) ≡ false →
        ((k : ℤ) → k <ℤ low → is_none_left (values_within low high vs) ≡ false → greatest_from k (values_up_to high vs) ≡ greatest_value (values_within low high vs)) →
        greatest_from m (cond b (v ∷ values_up_to high vs) (values_up_to high vs)) ≡ greatest_value (cond (a && b) (v ∷ values_within low high vs) (values_within low high vs))
    by true true e f q = ap (λ k. greatest_from k (values_up_to high vs)) (ap (λ t. cond t v m) (up e)) ∙ greatest_reached low high v vs (grind (arith, ints))
    by false true e f q = q (cond (int_lt m v) v m) (greater_below v m low (grind (arith, ints)) h) f
    by true false e f q = q m h f
    by false false e f q = q m h f

pub greatest_within : (low high : ℤ) (vs : Values) → is_none_left (values_within low high vs) ≡ false → greatest_value (values_up_to high vs) ≡ greatest_value (values_within low high vs)
greatest_within low high [] f = refl
greatest_within low high (v ∷ vs) f = by (int_le low v) (int_le v high) refl f (λ g. greatest_within low high vs g)
  where
    by : (a b : Bool) → int_le low v ≡ a → is_none_left (cond (a && b) (v ∷ values_within low high vs) (values_within low high vs)) ≡ false →
        (is_none_left (values_within low high vs) ≡ false → greatest_value (values_up_to high vs) ≡ greatest_value (values_within low high vs)) →
        greatest_value (cond b (v ∷ values_up_to high vs) (values_up_to high vs)) ≡ greatest_value (cond (a && b) (v ∷ values_within low high vs) (values_within low high vs))
    by true true e f q = greatest_reached low high v vs (grind (arith, ints))
    by false true e f q = greatest_awaited low high v vs (grind (arith, ints)) f
    by true false e f q = q f
    by false false e f q = q f

-- what the next value is, and the one before, within ends
none_from : (low high : ℤ) (vs : Values) → values_from low vs ≡ [] → is_none_left (values_within low high vs) ≡ true
none_from low high [] e = refl
none_from low high (v ∷ vs) e = by (int_le low v) (int_le v high) e (none_from low high vs)
  where
    by : (a b : Bool) → cond a (v ∷ values_from low vs) (values_from low vs) ≡ [] → (values_from low vs ≡ [] → is_none_left (values_within low high vs) ≡ true) →
        is_none_left (cond (a && b) (v ∷ values_within low high vs) (values_within low high vs)) ≡ true
    by true b e q = cc
    by false b e q = q e

none_up_to : (low high : ℤ) (vs : Values) → values_up_to high vs ≡ [] → is_none_left (values_within low high vs) ≡ true
none_up_to low high [] e = refl
none_up_to low high (v ∷ vs) e = by (int_le low v) (int_le v high) e (none_up_to low high vs)
  where
    by : (a b : Bool) → cond b (v ∷ values_up_to high vs) (values_up_to high vs) ≡ [] → (values_up_to high vs ≡ [] → is_none_left (values_within low high vs) ≡ true) →
        is_none_left (cond (a && b) (v ∷ values_within low high vs) (values_within low high vs)) ≡ true
    by a true e q = cc
    by true false e q = q e
    by false false e q = q e

least_found : (n : ℤ) (us : Values) → Some n ≡ least_of us → n ≡ least_value us
least_found n [] e = cc
least_found n (u ∷ us) e = cc

least_missed : (us : Values) → None ≡ least_of us → us ≡ []
least_missed [] e = refl
least_missed (u ∷ us) e = cc

greatest_found : (n : ℤ) (us : Values) → Some n ≡ greatest_of us → n ≡ greatest_value us
greatest_found n [] e = cc
greatest_found n (u ∷ us) e = cc

greatest_missed : (us : Values) → None ≡ greatest_of us → us ≡ []
greatest_missed [] e = refl
greatest_missed (u ∷ us) e = cc

pub min_found : (low high n : ℤ) (vs : Values) → is_none_left (values_within low high vs) ≡ false → Some n ≡ least_of (values_from low vs) → n ≡ least_value (values_within low high vs)
min_found low high n vs f e = least_found n (values_from low vs) e ∙ least_within low high vs f

pub min_missed : (low high : ℤ) (vs : Values) → is_none_left (values_within low high vs) ≡ false → None ≡ least_of (values_from low vs) → ⊥
min_missed low high vs f e = let none : is_none_left (values_within low high vs) ≡ true = none_from low high vs (least_missed (values_from low vs) e) in cc

pub max_found : (low high n : ℤ) (vs : Values) → is_none_left (values_within low high vs) ≡ false → Some n ≡ greatest_of (values_up_to high vs) → n ≡ greatest_value (values_within low high vs)
max_found low high n vs f e = greatest_found n (values_up_to high vs) e ∙ greatest_within low high vs f

pub max_missed : (low high : ℤ) (vs : Values) → is_none_left (values_within low high vs) ≡ false → None ≡ greatest_of (values_up_to high vs) → ⊥
max_missed low high vs f e = let none : is_none_left (values_within low high vs) ≡ true = none_up_to low high vs (greatest_missed (values_up_to high vs) e) in cc

-- a single number within which some value lies is that value
least_stays : (v : ℤ) (vs : Values) → least_from v (values_within v v vs) ≡ v
least_stays v [] = refl
least_stays v (w ∷ ws) = by (int_le v w) (int_le w v) refl refl (least_stays v ws)
  where
    by : (a b : Bool) → int_le v w ≡ a → int_le w v ≡ b → least_from v (values_within v v ws) ≡ v → least_from v (cond (a && b) (w ∷ values_within v v ws) (values_within v v ws)) ≡ v
    by true true e f q = ap (λ b. least_from (cond b w v) (values_within v v ws)) no_less ∙ q
      where
        no_less : int_lt w v ≡ false
        no_less = grind (arith, ints)
    by true false e f q = q
    by false b e f q = q

greatest_stays : (v : ℤ) (vs : Values) → greatest_from v (values_within v v vs) ≡ v
greatest_stays v [] = refl
greatest_stays v (w ∷ ws) = by (int_le v w) (int_le w v) refl refl (greatest_stays v ws)
  where
    by : (a b : Bool) → int_le v w ≡ a → int_le w v ≡ b → greatest_from v (values_within v v ws) ≡ v → greatest_from v (cond (a && b) (w ∷ values_within v v ws) (values_within v v ws)) ≡ v
    by true true e f q = ap (λ b. greatest_from (cond b w v) (values_within v v ws)) no_more ∙ q
      where
        no_more : int_lt v w ≡ false
        no_more = grind (arith, ints)
    by true false e f q = q
    by false b e f q = q

same_number : (v w : ℤ) → int_le v w ≡ true → int_le w v ≡ true → w ≡ v
same_number v w e f = grind (arith, ints)

pub single_least : (v : ℤ) (vs : Values) → is_none_left (values_within v v vs) ≡ false → v ≡ least_value (values_within v v vs)
single_least v [] h = cc
single_least v (w ∷ ws) h = by (int_le v w) (int_le w v) refl refl h (single_least v ws)
  where
    by : (a b : Bool) → int_le v w ≡ a → int_le w v ≡ b → is_none_left (cond (a && b) (w ∷ values_within v v ws) (values_within v v ws)) ≡ false →
        (is_none_left (values_within v v ws) ≡ false → v ≡ least_value (values_within v v ws)) →
        v ≡ least_value (cond (a && b) (w ∷ values_within v v ws) (values_within v v ws))
    by true true e f h q = sym (ap (λ m. least_from m (values_within v v ws)) (same_number v w e f) ∙ least_stays v ws)
    by true false e f h q = q h
    by false b e f h q = q h

pub single_greatest : (v : ℤ) (vs : Values) → is_none_left (values_within v v vs) ≡ false → v ≡ greatest_value (values_within v v vs)
single_greatest v [] h = cc
single_greatest v (w ∷ ws) h = by (int_le v w) (int_le w v) refl refl h (single_greatest v ws)
  where
    by : (a b : Bool) → int_le v w ≡ a → int_le w v ≡ b → is_none_left (cond (a && b) (w ∷ values_within v v ws) (values_within v v ws)) ≡ false →
        (is_none_left (values_within v v ws) ≡ false → v ≡ greatest_value (values_within v v ws)) →
        v ≡ greatest_value (cond (a && b) (w ∷ values_within v v ws) (values_within v v ws))
    by true true e f h q = sym (ap (λ m. greatest_from m (values_within v v ws)) (same_number v w e f) ∙ greatest_stays v ws)
    by true false e f h q = q h
    by false b e f h q = q h
