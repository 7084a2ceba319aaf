-- Values that lie in the front of a box.
use Rattle.std.proofs.Common.{◌≡◌, ◌⊎◌, inl, inr, ℕ, zero, suc, ◌<◌, Bool, true, false, ◌||◌, not, List, [], ◌∷◌, ◌++◌, length, map, take, drop, set, get_or, filter, refl, sym, ap, ◌∙◌, subst, arith, cond}
use Rattle.std.specs.Prelude.{ℤ}
use Rattle.std.specs.List.{list_all, list_any}
use Rattle.std.proofs.lemmas.Bool.{and_parts}
use Rattle.qc_model.specs.Lists.{Among, LiesIn}
use Rattle.qc_model.specs.Domains.{Box, InBox, is_single, is_none_left, least_value}
use Rattle.qc_model.proofs.Moves.{among_either}

-- each domain has its one value
abbrev pub singles : List ℤ → Box
singles [] = []
singles (v ∷ w) = (v ∷ []) ∷ singles w

pub differ : false ≡ true → ⊥
differ e = cc

pub in_take : (w : List ℤ) (ds : Box) → InBox w ds → LiesIn w (take (length w) ds)
in_take [] ds h = tt
in_take (v ∷ w) [] h = absurd h
in_take (v ∷ w) (d ∷ ds) h = (h.0, in_take w ds h.1)

pub from_take : (n : ℕ) (w : List ℤ) (ds : Box) → LiesIn w (take n ds) → InBox w ds
from_take n [] ds h = tt
from_take zero (v ∷ w) ds h = absurd h
from_take (suc n) (v ∷ w) [] h = absurd h
from_take (suc n) (v ∷ w) (d ∷ ds) h = (h.0, from_take n w ds h.1)

pub in_append : (u t : List ℤ) (ds : Box) → InBox u ds → InBox t (drop (length u) ds) → InBox (u ++ t) ds
in_append [] t ds h k = k
in_append (v ∷ u) t [] h k = absurd h
in_append (v ∷ u) t (d ∷ ds) h k = (h.0, in_append u t ds h.1 k)

pub in_front : (u t : List ℤ) (ds : Box) → InBox (u ++ t) ds → InBox u ds
in_front [] t ds h = tt
in_front (v ∷ u) t [] h = absurd h
in_front (v ∷ u) t (d ∷ ds) h = (h.0, in_front u t ds h.1)

pub in_rest : (u t : List ℤ) (ds : Box) → InBox (u ++ t) ds → InBox t (drop (length u) ds)
in_rest [] t ds h = h
in_rest (v ∷ u) t [] h = absurd h
in_rest (v ∷ u) t (d ∷ ds) h = in_rest u t ds h.1

pub in_singles : (w : List ℤ) (n : ℕ) (ds : Box) → take n ds ≡ singles w → InBox w ds
in_singles w n ds e = from_take n w ds (subst (LiesIn w) (sym e) (own w))
  where
    own : (w : List ℤ) → LiesIn w (singles w)
    own [] = tt
    own (v ∷ w) = (inl refl, own w)

pub singles_only : (u w : List ℤ) → LiesIn u (singles w) → u ≡ w
singles_only [] [] h = refl
singles_only [] (v ∷ w) h = absurd h
singles_only (x ∷ u) [] h = absurd h
singles_only (x ∷ u) (v ∷ w) h =
    let e : x ≡ v = elim h.0 [ inl q ↦ q | inr m ↦ absurd m ] in
    let r : u ≡ w = singles_only u w h.1 in cc

pub singles_of : (ds : Box) → list_all is_single ds ≡ true → ds ≡ singles (map least_value ds)
singles_of [] e = refl
singles_of (d ∷ ds) e =
    let p = and_parts (is_single d) (list_all is_single ds) e in
    let k : d ≡ least_value d ∷ [] = one d p.0 in
    let r : ds ≡ singles (map least_value ds) = singles_of ds p.1 in
    ap (λ x. x ∷ ds) k ∙ ap (λ xs. (least_value d ∷ []) ∷ xs) r
  where
    one : (d : List ℤ) → is_single d ≡ true → d ≡ least_value d ∷ []
    one [] e = cc
    one (v ∷ []) e = refl
    one (v ∷ u ∷ d) e = cc

pub all_single : (w : List ℤ) → list_all is_single (singles w) ≡ true
all_single [] = refl
all_single (v ∷ w) = all_single w

pub heads_singles : (w : List ℤ) → map least_value (singles w) ≡ w
heads_singles [] = refl
heads_singles (v ∷ w) = ap (λ u. v ∷ u) (heads_singles w)

-- a domain set to some of its values
among_filter : (p : ℤ → Bool) (v : ℤ) (d : List ℤ) → Among v (filter p d) → Among v d
among_filter p v [] h = h
among_filter p v (x ∷ d) h = go (p x) h (among_filter p v d)
  where
    go : (b : Bool) → Among v (cond b (x ∷ filter p d) (filter p d)) → (Among v (filter p d) → Among v d) → (v ≡ x) ⊎ Among v d
    go true h f = elim h [ inl e ↦ inl e | inr m ↦ inr (f m) ]
    go false h f = inr (f h)

pub filter_widen : (p : ℤ → Bool) (ds : Box) (x : ℕ) (w : List ℤ) → InBox w (set ds x (filter p (get_or ds x []))) → InBox w ds
filter_widen p ds x [] h = tt
filter_widen p [] x (v ∷ w) h = h
filter_widen p (d ∷ ds) zero (v ∷ w) h = (among_filter p v d h.0, h.1)
filter_widen p (d ∷ ds) (suc x) (v ∷ w) h = (h.0, filter_widen p ds x w h.1)

among_split : (p : ℤ → Bool) (v : ℤ) (d : List ℤ) → Among v d → Among v (filter p d) ⊎ Among v (filter (λ u. not (p u)) d)
among_split p v [] h = absurd h
among_split p v (x ∷ d) h = go (p x) (elim h [ inl e ↦ inl e | inr m ↦ inr (among_split p v d m) ])
  where
    go : (b : Bool) → (v ≡ x) ⊎ (Among v (filter p d) ⊎ Among v (filter (λ u. not (p u)) d)) →
        Among v (cond b (x ∷ filter p d) (filter p d)) ⊎ Among v (cond (not b) (x ∷ filter (λ u. not (p u)) d) (filter (λ u. not (p u)) d))
    go true h = elim h [ inl e ↦ inl (inl e) | inr m ↦ elim m [ inl k ↦ inl (inr k) | inr k ↦ inr k ] ]
    go false h = elim h [ inl e ↦ inr (inl e) | inr m ↦ elim m [ inl k ↦ inl k | inr k ↦ inr (inr k) ] ]

pub filter_split : (p : ℤ → Bool) (ds : Box) (x : ℕ) (w : List ℤ) → InBox w ds →
    InBox w (set ds x (filter p (get_or ds x []))) ⊎ InBox w (set ds x (filter (λ u. not (p u)) (get_or ds x [])))
filter_split p ds x [] h = inr tt
filter_split p [] x (v ∷ w) h = absurd h
filter_split p (d ∷ ds) zero (v ∷ w) h = elim (among_split p v d h.0) [ inl k ↦ inl (k, h.1) | inr k ↦ inr (k, h.1) ]
filter_split p (d ∷ ds) (suc x) (v ∷ w) h = elim (filter_split p ds x w h.1) [ inl k ↦ inl (h.0, k) | inr k ↦ inr (h.0, k) ]

-- a domain set to some of its values, to more of them, and to the values of two lists
pub some_widen : (ds : Box) (x : ℕ) (us w : List ℤ) → ((z : ℤ) → Among z us → Among z (get_or ds x [])) → InBox w (set ds x us) → InBox w ds
some_widen ds x us [] f h = tt
some_widen [] x us (u ∷ w) f h = h
some_widen (d ∷ ds) zero us (u ∷ w) f h = (f u h.0, h.1)
some_widen (d ∷ ds) (suc x) us (u ∷ w) f h = (h.0, some_widen ds x us w f h.1)

pub set_widen : (ds : Box) (x : ℕ) (us vs w : List ℤ) → ((z : ℤ) → Among z us → Among z vs) → InBox w (set ds x us) → InBox w (set ds x vs)
set_widen ds x us vs [] f h = tt
set_widen [] x us vs (u ∷ w) f h = h
set_widen (d ∷ ds) zero us vs (u ∷ w) f h = (f u h.0, h.1)
set_widen (d ∷ ds) (suc x) us vs (u ∷ w) f h = (h.0, set_widen ds x us vs w f h.1)

pub values_split : (ds : Box) (x : ℕ) (us vs w : List ℤ) → InBox w (set ds x (us ++ vs)) → InBox w (set ds x us) ⊎ InBox w (set ds x vs)
values_split ds x us vs [] h = inl tt
values_split [] x us vs (u ∷ w) h = absurd h
values_split (d ∷ ds) zero us vs (u ∷ w) h = elim (among_either u us vs h.0) [ inl m ↦ inl (m, h.1) | inr m ↦ inr (m, h.1) ]
values_split (d ∷ ds) (suc x) us vs (u ∷ w) h = elim (values_split ds x us vs w h.1) [ inl k ↦ inl (h.0, k) | inr k ↦ inr (h.0, k) ]

pub none_at : (ds : Box) (x : ℕ) (w : List ℤ) → x < length w → InBox w (set ds x []) → ⊥
none_at ds x [] l h = absurd (omega arith)
none_at [] x (v ∷ w) l h = h
none_at (d ∷ ds) zero (v ∷ w) l h = h.0
none_at (d ∷ ds) (suc x) (v ∷ w) l h = none_at ds x w (omega arith) h.1

-- an empty domain lies past the values
pub empty_past : (w : List ℤ) (ds : Box) → InBox w ds → list_any is_none_left ds ≡ true → list_any is_none_left (drop (length w) ds) ≡ true
empty_past [] ds h e = e
empty_past (v ∷ w) [] h e = e
empty_past (v ∷ w) (d ∷ ds) h e = empty_past w ds h.1 (go d h.0 e)
  where
    go : (d : List ℤ) → Among v d → (is_none_left d || list_any is_none_left ds) ≡ true → list_any is_none_left ds ≡ true
    go [] h e = absurd h
    go (u ∷ d) h e = e

pub none_past : (n : ℕ) (ds : Box) → list_any is_none_left ds ≡ false → list_any is_none_left (drop n ds) ≡ false
none_past zero ds e = e
none_past (suc n) [] e = e
none_past (suc n) (d ∷ ds) e = none_past n ds (go (is_none_left d) (list_any is_none_left ds) e)
  where
    go : (a b : Bool) → (a || b) ≡ false → b ≡ false
    go true b e = cc
    go false b e = e

-- earlier variables stay as they were, unless a domain is empty
pub singles_stay : (p : ℤ → Bool) (n : ℕ) (ds : Box) (x : ℕ) (w : List ℤ) → take n ds ≡ singles w → list_any is_none_left (set ds x (filter p (get_or ds x []))) ≡ false →
    take n (set ds x (filter p (get_or ds x []))) ≡ singles w
singles_stay p zero ds x w e h = e
singles_stay p (suc n) [] x w e h = e
singles_stay p (suc n) (d ∷ ds) x [] e h = cc
singles_stay p (suc n) (d ∷ ds) zero (v ∷ w) e h =
    let q : d ≡ v ∷ [] = cc in
    let r : take n ds ≡ singles w = cc in
    let k : filter p d ≡ v ∷ [] = kept d q h in
    ap (λ z. z ∷ take n ds) k ∙ ap (λ zs. (v ∷ []) ∷ zs) r
  where
    kept_by : (b : Bool) → (is_none_left (cond b (v ∷ []) []) || list_any is_none_left ds) ≡ false → cond b (v ∷ []) [] ≡ v ∷ []
    kept_by true h = refl
    kept_by false h = cc

    kept : (d : List ℤ) → d ≡ v ∷ [] → (is_none_left (filter p d) || list_any is_none_left ds) ≡ false → filter p d ≡ v ∷ []
    kept d q h = ap (filter p) q ∙ kept_by (p v) (subst (λ z. (is_none_left (filter p z) || list_any is_none_left ds) ≡ false) q h)
singles_stay p (suc n) (d ∷ ds) (suc x) (v ∷ w) e h =
    let q : d ≡ v ∷ [] = cc in
    let r : take n ds ≡ singles w = cc in
    let s = singles_stay p n ds x w r (go (is_none_left d) (list_any is_none_left (set ds x (filter p (get_or ds x [])))) h) in
    ap (λ z. z ∷ take n (set ds x (filter p (get_or ds x [])))) q ∙ ap (λ zs. (v ∷ []) ∷ zs) s
  where
    go : (a b : Bool) → (a || b) ≡ false → b ≡ false
    go true b e = cc
    go false b e = e
