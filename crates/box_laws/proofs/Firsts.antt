-- Ascending values from one of them on.
use Rattle.std.proofs.Common.{◌≡◌, Bool, true, false, ◌||◌, cond, [], ◌∷◌, refl, sym, ap, ◌∙◌, subst, arith, ℤ}
use Rattle.std.specs.Prelude.{filter, int_le, int_lt, negsuc}
use Rattle.std.specs.List.{list_all}
use Rattle.std.specs.Ordering.{int_eq}
use Rattle.std.proofs.lemmas.Int.{ints}
use Rattle.std.proofs.lemmas.Bool.Decides.{nat_tests, Decides-int_eq}
use Rattle.std.proofs.lemmas.Bool.{and_from}
use Rattle.qc_model.specs.Domains.{Values, has_value, least_from, is_ascending}
use Rattle.qc_model.specs.Valid.{is_number}
use Rattle.qc_model.proofs.Readable.{first, second}
use Rattle.model_arguments.proofs.Values.{above_first, ascending_rest, value_passes}
use Rattle.fd_store.specs.Held.{values_from}
use Rattle.box_laws.proofs.Filters.{filter_all, all_weaker}

pub self_le : (v : ℤ) → int_le v v ≡ true
self_le v = grind (arith, ints)

pub lt_le : (v w : ℤ) → int_lt v w ≡ true → int_le v w ≡ true
lt_le v w h = grind (arith, ints)

gt_not_le : (v w : ℤ) → int_lt w v ≡ true → int_le v w ≡ false
gt_not_le v w h = grind (arith, ints)

-- from the first of ascending values on there are all
pub from_itself : (v : ℤ) (vs : Values) → is_ascending (v ∷ vs) ≡ true → values_from v (v ∷ vs) ≡ v ∷ vs
from_itself v vs a = filter_all (int_le v) (v ∷ vs) (and_from (int_le v v) (list_all (int_le v) vs) (self_le v) (all_weaker (int_lt v) (int_le v) (lt_le v) vs (above_first v vs a)))

-- one before it is left aside
pub from_later : (v w : ℤ) (vs : Values) → is_ascending (w ∷ vs) ≡ true → has_value vs v ≡ true → values_from v (w ∷ vs) ≡ values_from v vs
from_later v w vs a h = ap (λ b. cond b (w ∷ values_from v vs) (values_from v vs)) (gt_not_le v w (value_passes (int_lt w) vs v (above_first w vs a) h))

-- a value is the first, or among the others
pub where_is : {X : Type 0} (v w : ℤ) (vs : Values) → has_value (w ∷ vs) v ≡ true → (v ≡ w → X) → (has_value vs v ≡ true → X) → X
where_is {X} v w vs h f k = by (int_eq v w) (Decides-int_eq v w).0 h
  where
    by : (b : Bool) → (b ≡ true → v ≡ w) → (b || has_value vs v) ≡ true → X
    by true e h = f (e refl)
    by false e h = k h

pub least_is : (v : ℤ) (vs : Values) → list_all (int_lt v) vs ≡ true → least_from v vs ≡ v
least_is v [] h = refl
least_is v (w ∷ vs) h = ap (λ b. least_from (cond b w v) vs) (no_less v w (first (int_lt v w) (list_all (int_lt v) vs) h)) ∙ least_is v vs (second (int_lt v w) (list_all (int_lt v) vs) h)
  where
    no_less : (v w : ℤ) → int_lt v w ≡ true → int_lt w v ≡ false
    no_less v w h = grind (arith, ints)

-- the first of the values that pass
pub passes : (p : ℤ → Bool) (vs : Values) (v : ℤ) (rest : Values) → filter p vs ≡ v ∷ rest → p v ≡ true
passes p [] v rest e = cc
passes p (u ∷ vs) v rest e = go (p u) refl e (passes p vs v rest)
  where
    go : (b : Bool) → p u ≡ b → cond b (u ∷ filter p vs) (filter p vs) ≡ v ∷ rest → (filter p vs ≡ v ∷ rest → p v ≡ true) → p v ≡ true
    go true f e k = let h : u ≡ v = cc in subst (λ z. p z ≡ true) h f
    go false f e k = k e

pub first_among : (p : ℤ → Bool) (vs : Values) (v : ℤ) (rest : Values) → filter p vs ≡ v ∷ rest → has_value vs v ≡ true
first_among p [] v rest e = cc
first_among p (u ∷ vs) v rest e = by (p u) e (first_among p vs v rest)
  where
    here : (u v : ℤ) (vs : Values) → u ≡ v → (int_eq v u || has_value vs v) ≡ true
    here u v vs h = ap (λ b. b || has_value vs v) ((Decides-int_eq v u).1 (sym h))

    later : (b c : Bool) → c ≡ true → (b || c) ≡ true
    later true c e = refl
    later false c e = e

    by : (b : Bool) → cond b (u ∷ filter p vs) (filter p vs) ≡ v ∷ rest → (filter p vs ≡ v ∷ rest → has_value vs v ≡ true) → has_value (u ∷ vs) v ≡ true
    by true e f = let h : u ≡ v = cc in here u v vs h
    by false e f = later (int_eq v u) (has_value vs v) (f e)

-- the values from a number on are those from the first of them on
pub from_first : (n v : ℤ) (rest vs : Values) → is_ascending vs ≡ true → values_from n vs ≡ v ∷ rest → values_from n vs ≡ values_from v vs
from_first n v rest [] a e = cc
from_first n v rest (w ∷ vs) a e = by (int_le n w) refl e (from_first n v rest vs (ascending_rest w vs a))
  where
    all_from : (u : ℤ) → int_lt w u ≡ true → int_le n w ≡ true → int_le n u ≡ true
    all_from u h k = grind (arith, ints)

    by : (b : Bool) → int_le n w ≡ b → cond b (w ∷ filter (int_le n) vs) (filter (int_le n) vs) ≡ v ∷ rest → (values_from n vs ≡ v ∷ rest → values_from n vs ≡ values_from v vs) → cond b (w ∷ filter (int_le n) vs) (filter (int_le n) vs) ≡ values_from v (w ∷ vs)
    by true f e q =
        let h : w ≡ v = cc in
        let one : filter (int_le n) vs ≡ vs = filter_all (int_le n) vs (all_weaker (int_lt w) (int_le n) (λ u k. all_from u k f) vs (above_first w vs a)) in
        ap (λ us. w ∷ us) one ∙ subst (λ u. w ∷ vs ≡ values_from u (w ∷ vs)) h (sym (from_itself w vs a))
    by false f e q = q e ∙ sym (from_later v w vs a (first_among (int_le n) vs v rest e))

-- all numbers are from the least on
pub from_least : (vs : Values) → list_all is_number vs ≡ true → values_from (negsuc 999999999) vs ≡ vs
from_least [] h = refl
from_least (v ∷ vs) h = ap (λ b. cond b (v ∷ filter (int_le (negsuc 999999999)) vs) (filter (int_le (negsuc 999999999)) vs)) (low v (first (is_number v) (list_all is_number vs) h)) ∙ ap (λ us. v ∷ us) (from_least vs (second (is_number v) (list_all is_number vs) h))
  where
    low : (v : ℤ) → is_number v ≡ true → int_le (negsuc 999999999) v ≡ true
    low v e = grind (arith, nat_tests, ints)
