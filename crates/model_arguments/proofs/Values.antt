-- Ascending values: their ends, and what stays of them.
use Rattle.std.proofs.Common.{◌≡◌, Bool, true, false, ◌||◌, cond, [], ◌∷◌, refl, sym, ap, ◌∙◌, subst, arith, ℤ}
use Rattle.std.specs.Prelude.{int_lt, filter}
use Rattle.std.specs.List.{list_all}
use Rattle.std.specs.Ordering.{int_eq}
use Rattle.std.proofs.lemmas.Int.{ints}
use Rattle.std.proofs.lemmas.Bool.Decides.{Decides-int_eq}
use Rattle.std.proofs.lemmas.Bool.{or_right, and_from}
use Rattle.qc_model.specs.Domains.{Values, least_from, greatest_from, least_value, greatest_value, has_value, is_none_left, is_within, values_within, is_ascending}
use Rattle.qc_model.proofs.Readable.{first, second}

pub value_passes : (p : ℤ → Bool) (vs : Values) (v : ℤ) → list_all p vs ≡ true → has_value vs v ≡ true → p v ≡ true
value_passes p [] v a h = cc
value_passes p (x ∷ vs) v a h = by (int_eq v x) (Decides-int_eq v x).0 (λ k. value_passes p vs v (second (p x) (list_all p vs) a) k) h
  where
    by : (b : Bool) → (b ≡ true → v ≡ x) → (has_value vs v ≡ true → p v ≡ true) → (b || has_value vs v) ≡ true → p v ≡ true
    by true e f k = subst (λ z. p z ≡ true) (sym (e refl)) (first (p x) (list_all p vs) a)
    by false e f k = f k

pub all_kept : (p q : ℤ → Bool) (vs : Values) → list_all p vs ≡ true → list_all p (filter q vs) ≡ true
all_kept p q [] h = refl
all_kept p q (v ∷ vs) h = by (q v) (all_kept p q vs (second (p v) (list_all p vs) h))
  where
    by : (b : Bool) → list_all p (filter q vs) ≡ true → list_all p (cond b (v ∷ filter q vs) (filter q vs)) ≡ true
    by true k = and_from (p v) (list_all p (filter q vs)) (first (p v) (list_all p vs) h) k
    by false k = k

pub ascending_rest : (v : ℤ) (vs : Values) → is_ascending (v ∷ vs) ≡ true → is_ascending vs ≡ true
ascending_rest v [] h = refl
ascending_rest v (w ∷ vs) h = second (int_lt v w) (is_ascending (w ∷ vs)) h

below_all : (v w : ℤ) (vs : Values) → int_lt v w ≡ true → list_all (int_lt w) vs ≡ true → list_all (int_lt v) vs ≡ true
below_all v w [] l h = refl
below_all v w (x ∷ vs) l h =
    and_from (int_lt v x) (list_all (int_lt v) vs) (through v w x l (first (int_lt w x) (list_all (int_lt w) vs) h)) (below_all v w vs l (second (int_lt w x) (list_all (int_lt w) vs) h))
  where
    through : (a b c : ℤ) → int_lt a b ≡ true → int_lt b c ≡ true → int_lt a c ≡ true
    through a b c p q = grind (arith, ints)

pub above_first : (v : ℤ) (vs : Values) → is_ascending (v ∷ vs) ≡ true → list_all (int_lt v) vs ≡ true
above_first v [] h = refl
above_first v (w ∷ vs) h =
    let l = first (int_lt v w) (is_ascending (w ∷ vs)) h in
    let r = second (int_lt v w) (is_ascending (w ∷ vs)) h in
    and_from (int_lt v w) (list_all (int_lt v) vs) l (below_all v w vs l (above_first w vs r))

ascending_from : (v : ℤ) (vs : Values) → list_all (int_lt v) vs ≡ true → is_ascending vs ≡ true → is_ascending (v ∷ vs) ≡ true
ascending_from v [] a h = refl
ascending_from v (w ∷ vs) a h = and_from (int_lt v w) (is_ascending (w ∷ vs)) (first (int_lt v w) (list_all (int_lt v) vs) a) h

pub ascending_kept : (q : ℤ → Bool) (vs : Values) → is_ascending vs ≡ true → is_ascending (filter q vs) ≡ true
ascending_kept q [] h = refl
ascending_kept q (v ∷ vs) h = by (q v) (ascending_kept q vs (ascending_rest v vs h))
  where
    by : (b : Bool) → is_ascending (filter q vs) ≡ true → is_ascending (cond b (v ∷ filter q vs) (filter q vs)) ≡ true
    by true k = ascending_from v (filter q vs) (all_kept (int_lt v) q vs (above_first v vs h)) k
    by false k = k

none_within : (v : ℤ) (vs : Values) → list_all (int_lt v) vs ≡ true → values_within v v vs ≡ []
none_within v [] h = refl
none_within v (x ∷ vs) h = by (is_within v v x) (out v x (first (int_lt v x) (list_all (int_lt v) vs) h)) (none_within v vs (second (int_lt v x) (list_all (int_lt v) vs) h))
  where
    out : (v x : ℤ) → int_lt v x ≡ true → is_within v v x ≡ false
    out v x l = grind (arith, ints)

    by : (b : Bool) → b ≡ false → values_within v v vs ≡ [] → cond b (x ∷ values_within v v vs) (values_within v v vs) ≡ []
    by true e k = cc
    by false e k = k

-- one value alone
pub only_within : (v : ℤ) (vs : Values) → is_ascending vs ≡ true → has_value vs v ≡ true → values_within v v vs ≡ v ∷ []
only_within v [] a h = cc
only_within v (x ∷ vs) a h =
    by (int_eq v x) (is_within v v x) (same v x) (apart v x) (Decides-int_eq v x).0 (λ k. only_within v vs (ascending_rest x vs a) k) h
  where
    same : (v x : ℤ) → int_eq v x ≡ true → is_within v v x ≡ true
    same v x e = grind (arith, ints)

    apart : (v x : ℤ) → int_eq v x ≡ false → is_within v v x ≡ false
    apart v x e = grind (arith, ints)

    here : v ≡ x → x ∷ values_within v v vs ≡ v ∷ []
    here e =
        ap (λ z. z ∷ values_within v v vs) (sym e)
        ∙ ap (λ l. v ∷ l) (none_within v vs (subst (λ z. list_all (int_lt z) vs ≡ true) (sym e) (above_first x vs a)))

    by : (b w : Bool) → (b ≡ true → w ≡ true) → (b ≡ false → w ≡ false) → (b ≡ true → v ≡ x) → (has_value vs v ≡ true → values_within v v vs ≡ v ∷ []) → (b || has_value vs v) ≡ true →
        cond w (x ∷ values_within v v vs) (values_within v v vs) ≡ v ∷ []
    by true true f g e i k = here (e refl)
    by true false f g e i k = let z = f refl in cc
    by false true f g e i k = let z = g refl in cc
    by false false f g e i k = i k

or_skip : (a b c : Bool) → (a || c) ≡ true → (a || (b || c)) ≡ true
or_skip true b c h = refl
or_skip false true c h = refl
or_skip false false c h = h

pub has_first : (n : ℤ) (vs : Values) → has_value (n ∷ vs) n ≡ true
has_first n vs = by (int_eq n n) (same n)
  where
    same : (n : ℤ) → int_eq n n ≡ true
    same n = grind (arith, ints)

    by : (b : Bool) → b ≡ true → (b || has_value vs n) ≡ true
    by true e = refl
    by false e = cc

least_has : (n : ℤ) (vs : Values) → has_value (n ∷ vs) (least_from n vs) ≡ true
least_has n [] = has_first n []
least_has n (v ∷ vs) = by (int_lt v n) (least_has v vs) (least_has n vs)
  where
    by : (b : Bool) → has_value (v ∷ vs) (least_from v vs) ≡ true → has_value (n ∷ vs) (least_from n vs) ≡ true → has_value (n ∷ v ∷ vs) (least_from (cond b v n) vs) ≡ true
    by true p q = or_right (int_eq (least_from v vs) n) (has_value (v ∷ vs) (least_from v vs)) p
    by false p q = or_skip (int_eq (least_from n vs) n) (int_eq (least_from n vs) v) (has_value vs (least_from n vs)) q

greatest_has : (n : ℤ) (vs : Values) → has_value (n ∷ vs) (greatest_from n vs) ≡ true
greatest_has n [] = has_first n []
greatest_has n (v ∷ vs) = by (int_lt n v) (greatest_has v vs) (greatest_has n vs)
  where
    by : (b : Bool) → has_value (v ∷ vs) (greatest_from v vs) ≡ true → has_value (n ∷ vs) (greatest_from n vs) ≡ true → has_value (n ∷ v ∷ vs) (greatest_from (cond b v n) vs) ≡ true
    by true p q = or_right (int_eq (greatest_from v vs) n) (has_value (v ∷ vs) (greatest_from v vs)) p
    by false p q = or_skip (int_eq (greatest_from n vs) n) (int_eq (greatest_from n vs) v) (has_value vs (greatest_from n vs)) q

pub has_least : (vs : Values) → is_none_left vs ≡ false → has_value vs (least_value vs) ≡ true
has_least [] h = cc
has_least (v ∷ vs) h = least_has v vs

pub has_greatest : (vs : Values) → is_none_left vs ≡ false → has_value vs (greatest_value vs) ≡ true
has_greatest [] h = cc
has_greatest (v ∷ vs) h = greatest_has v vs
