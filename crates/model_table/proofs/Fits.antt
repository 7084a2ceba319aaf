-- What fits a box, place by place; and tests on lists.
use Rattle.std.proofs.Common.{◌≡◌, inl, inr, ℕ, zero, suc, Bool, true, false, not, List, [], ◌∷◌, length, map, refl, sym, ap, ◌∙◌, Some}
use Rattle.std.specs.Prelude.{ℤ}
use Rattle.std.specs.List.{list_any, list_all}
use Rattle.std.proofs.lemmas.Bool.{or_cases, or_left, or_right, and_parts}
use Rattle.qc_model.specs.Lists.{Among, LiesIn}
use Rattle.qc_model.specs.Domains.{Values, least_value, is_single}
use Rattle.qc_model.specs.Arguments.{Filled, filled_one, filled_many, filled_numbers, filled_members, as_many, as_numbers, as_members, numbers, members}
use Rattle.qc_model.specs.Holds.{Given, values_at, last_value}
use Rattle.qc_model.specs.Left.{Lefts, lefts_at, last_left}
use Rattle.qc_model.proofs.Visible.{FitsOne, Fits, as_one_fits}
use Rattle.qc_model.proofs.Sound.{differ}

as_many_fits : (v : Filled ℤ) (d : Filled Values) → FitsOne v d → LiesIn (as_many (Some v)) (as_many (Some d))
as_many_fits (filled_one v) (filled_one d) h = tt
as_many_fits (filled_many vs) (filled_many ds) h = h
as_many_fits (filled_numbers ns) (filled_numbers ms) h = tt
as_many_fits (filled_members s) (filled_members t) h = tt
as_many_fits v d h = absurd h

as_numbers_fit : (v : Filled ℤ) (d : Filled Values) → FitsOne v d → as_numbers (Some v) ≡ as_numbers (Some d)
as_numbers_fit (filled_one v) (filled_one d) h = refl
as_numbers_fit (filled_many vs) (filled_many ds) h = refl
as_numbers_fit (filled_numbers ns) (filled_numbers ms) h = h
as_numbers_fit (filled_members s) (filled_members t) h = refl
as_numbers_fit v d h = absurd h

as_members_fit : (v : Filled ℤ) (d : Filled Values) → FitsOne v d → as_members (Some v) ≡ as_members (Some d)
as_members_fit (filled_one v) (filled_one d) h = refl
as_members_fit (filled_many vs) (filled_many ds) h = refl
as_members_fit (filled_numbers ns) (filled_numbers ms) h = refl
as_members_fit (filled_members s) (filled_members t) h = h
as_members_fit v d h = absurd h

pub many_fits : (vs : Given) (ds : Lefts) (k : ℕ) → Fits vs ds → LiesIn (values_at vs k) (lefts_at ds k)
many_fits [] [] k h = tt
many_fits [] (d ∷ ds) k h = absurd h
many_fits (v ∷ vs) [] k h = absurd h
many_fits (v ∷ vs) (d ∷ ds) zero h = as_many_fits v d h.0
many_fits (v ∷ vs) (d ∷ ds) (suc k) h = many_fits vs ds k h.1

pub numbers_fit : (vs : Given) (ds : Lefts) (k : ℕ) → Fits vs ds → numbers vs k ≡ numbers ds k
numbers_fit [] [] k h = refl
numbers_fit [] (d ∷ ds) k h = absurd h
numbers_fit (v ∷ vs) [] k h = absurd h
numbers_fit (v ∷ vs) (d ∷ ds) zero h = as_numbers_fit v d h.0
numbers_fit (v ∷ vs) (d ∷ ds) (suc k) h = numbers_fit vs ds k h.1

pub members_fit : (vs : Given) (ds : Lefts) (k : ℕ) → Fits vs ds → members vs k ≡ members ds k
members_fit [] [] k h = refl
members_fit [] (d ∷ ds) k h = absurd h
members_fit (v ∷ vs) [] k h = absurd h
members_fit (v ∷ vs) (d ∷ ds) zero h = as_members_fit v d h.0
members_fit (v ∷ vs) (d ∷ ds) (suc k) h = members_fit vs ds k h.1

pub last_fits : (vs : Given) (ds : Lefts) → Fits vs ds → Among (last_value vs) (last_left ds)
last_fits [] [] h = inl refl
last_fits [] (d ∷ ds) h = absurd h
last_fits (v ∷ vs) [] h = absurd h
last_fits (v ∷ []) (d ∷ []) h = as_one_fits v d h.0
last_fits (v ∷ []) (d ∷ e ∷ ds) h = absurd h.1
last_fits (v ∷ w ∷ vs) (d ∷ []) h = absurd h.1
last_fits (v ∷ w ∷ vs) (d ∷ e ∷ ds) h = last_fits (w ∷ vs) (e ∷ ds) h.1

pub length_fits : (vs : List ℤ) (ds : List Values) → LiesIn vs ds → length vs ≡ length ds
length_fits [] [] h = refl
length_fits [] (d ∷ ds) h = absurd h
length_fits (v ∷ vs) [] h = absurd h
length_fits (v ∷ vs) (d ∷ ds) h = ap suc (length_fits vs ds h.1)

-- the only value left
pub only_value : (v : ℤ) (d : Values) → is_single d ≡ true → Among v d → v ≡ least_value d
only_value v [] s h = absurd h
only_value v (w ∷ []) s h = elim h [ inl e ↦ e | inr n ↦ absurd n ]
only_value v (w ∷ x ∷ d) s h = absurd (differ s)

pub only_values : (vs : List ℤ) (ds : List Values) → list_all is_single ds ≡ true → LiesIn vs ds → vs ≡ map least_value ds
only_values [] [] s h = refl
only_values [] (d ∷ ds) s h = absurd h
only_values (v ∷ vs) [] s h = absurd h
only_values (v ∷ vs) (d ∷ ds) s h =
    let p = and_parts (is_single d) (list_all is_single ds) s in
    ap (λ x. x ∷ vs) (only_value v d p.0 h.0) ∙ ap (λ xs. least_value d ∷ xs) (only_values vs ds p.1 h.1)

pub both_false : (b : Bool) → b ≡ true → not b ≡ true → ⊥
both_false true e f = differ f
both_false false e f = differ e

pub not_unless : (b : Bool) → (b ≡ true → ⊥) → not b ≡ true
not_unless true f = absurd (f refl)
not_unless false f = refl

pub all_at : {X : Type 0} (p : X → Bool) (xs : List X) (x : X) → list_all p xs ≡ true → Among x xs → p x ≡ true
all_at p [] x e h = absurd h
all_at p (y ∷ xs) x e h = let s = and_parts (p y) (list_all p xs) e in elim h [ inl q ↦ ap p q ∙ s.0 | inr m ↦ all_at p xs x s.1 m ]

pub any_at : {X : Type 0} (p : X → Bool) (xs : List X) → list_any p xs ≡ true → (x : X) × Among x xs × (p x ≡ true)
any_at p [] e = absurd (differ e)
any_at p (y ∷ xs) e =
    elim (or_cases (p y) (list_any p xs) e) [
      | inl q ↦ (y, inl refl, q)
      | inr m ↦ (let r = any_at p xs m in (r.0, inr r.1, r.2))
    ]

pub any_from : {X : Type 0} (p : X → Bool) (xs : List X) (x : X) → Among x xs → p x ≡ true → list_any p xs ≡ true
any_from p [] x h e = absurd h
any_from p (y ∷ xs) x h e =
    elim h [ inl q ↦ or_left (p y) (list_any p xs) (ap p (sym q) ∙ e) | inr m ↦ or_right (p y) (list_any p xs) (any_from p xs x m e) ]
