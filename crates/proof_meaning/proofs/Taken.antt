-- Values whose front lies in a box.
use Rattle.std.proofs.Common.{inl, inr, ℕ, zero, suc, ◌<◌, ◌≤◌, Bool, List, [], ◌∷◌, ◌++◌, length, take, set, get_or, filter, subst, arith}
use Rattle.std.specs.Prelude.{ℤ}
use Rattle.qc_model.specs.Lists.{Among}
use Rattle.qc_model.specs.Domains.{Box, InBox}
use Rattle.qc_model.specs.Lists.{Distinct}
use Rattle.qc_model.proofs.Moves.{among_left, among_right}
use Rattle.model_laws.specs.Distinct.{EachDistinct}
use Rattle.model_laws.proofs.Order.{distinct_filter}

pub taken_less : (m n : ℕ) (w : List ℤ) (ds : Box) → m ≤ n → InBox (take n w) ds → InBox (take m w) ds
taken_less zero n w ds l h = tt
taken_less (suc m) n [] ds l h = tt
taken_less (suc m) zero (v ∷ w) ds l h = absurd (omega arith)
taken_less (suc m) (suc n) (v ∷ w) [] l h = absurd h
taken_less (suc m) (suc n) (v ∷ w) (d ∷ ds) l h = (h.0, taken_less m n w ds (omega arith) h.1)

pub taken_all : (n : ℕ) (w : List ℤ) (ds : Box) → length w ≤ n → InBox (take n w) ds → InBox w ds
taken_all n [] ds l h = tt
taken_all zero (v ∷ w) ds l h = absurd (omega arith)
taken_all (suc n) (v ∷ w) [] l h = absurd h
taken_all (suc n) (v ∷ w) (d ∷ ds) l h = (h.0, taken_all n w ds (omega arith) h.1)

pub taken_from : (n : ℕ) (w : List ℤ) (ds : Box) → InBox w ds → InBox (take n w) ds
taken_from zero w ds h = tt
taken_from (suc n) [] ds h = tt
taken_from (suc n) (v ∷ w) [] h = absurd h
taken_from (suc n) (v ∷ w) (d ∷ ds) h = (h.0, taken_from n w ds h.1)

-- the front of values that go on
pub taken_front : (n : ℕ) (u r : List ℤ) (ds : Box) → n ≤ length u → InBox u ds → InBox (take n (u ++ r)) ds
taken_front zero u r ds l h = tt
taken_front (suc n) [] r ds l h = absurd (omega arith)
taken_front (suc n) (v ∷ u) r [] l h = absurd h
taken_front (suc n) (v ∷ u) r (d ∷ ds) l h = (h.0, taken_front n u r ds (omega arith) h.1)

-- a domain is set that the front reaches
pub still_in : (n x : ℕ) (d : List ℤ) (w : List ℤ) (ds : Box) → x < n → InBox w ds → InBox (take n w) (set ds x d) → InBox w (set ds x d)
still_in n x d [] ds l h k = tt
still_in zero x d (v ∷ w) ds l h k = absurd (omega arith)
still_in (suc n) x d (v ∷ w) [] l h k = absurd h
still_in (suc n) zero d (v ∷ w) (e ∷ ds) l h k = (k.0, h.1)
still_in (suc n) (suc x) d (v ∷ w) (e ∷ ds) l h k = (h.0, still_in n x d w ds (omega arith) h.1 k.1)

-- boxes whose domains repeat no value
pub set_distinct : (ds : Box) (x : ℕ) (d : List ℤ) → EachDistinct ds → Distinct d → EachDistinct (set ds x d)
set_distinct [] x d h k = h
set_distinct (e ∷ ds) zero d h k = (k, h.1)
set_distinct (e ∷ ds) (suc x) d h k = (h.0, set_distinct ds x d h.1 k)

pub get_distinct : (ds : Box) (x : ℕ) → EachDistinct ds → Distinct (get_or ds x [])
get_distinct [] x h = tt
get_distinct (e ∷ ds) zero h = h.0
get_distinct (e ∷ ds) (suc x) h = get_distinct ds x h.1

pub filtered_distinct : (p : ℤ → Bool) (ds : Box) (x : ℕ) → EachDistinct ds → EachDistinct (set ds x (filter p (get_or ds x [])))
filtered_distinct p ds x h = set_distinct ds x (filter p (get_or ds x [])) h (distinct_filter p (get_or ds x []) (get_distinct ds x h))

-- no values lie in the boxes of two cases
pub apart : (ds : Box) (x : ℕ) (us vs w : List ℤ) → x < length w → ((z : ℤ) → Among z us → ¬ Among z vs) → InBox w (set ds x us) → InBox w (set ds x vs) → ⊥
apart ds x us vs [] l n h k = absurd (omega arith)
apart [] x us vs (u ∷ w) l n h k = h
apart (d ∷ ds) zero us vs (u ∷ w) l n h k = n u h.0 k.0
apart (d ∷ ds) (suc x) us vs (u ∷ w) l n h k = apart ds x us vs w (omega arith) n h.1 k.1

-- the parts of a list that repeats no value
pub record AreApart (us vs : List ℤ) : Type 0 where
  pub first : Distinct us
  pub second : Distinct vs
  pub none : (z : ℤ) → Among z us → ¬ Among z vs

pub distinct_parts : (us vs : List ℤ) → Distinct (us ++ vs) → AreApart us vs
distinct_parts [] vs h = record { first = tt; second = h; none = λ z m k. m }
distinct_parts (u ∷ us) vs h =
    let p = distinct_parts us vs h.1 in
    record {
      first = (λ m. h.0 (among_left u us vs m), p.first);
      second = p.second;
      none = λ z m k. elim m [ inl e ↦ h.0 (among_right u us vs (subst (λ y. Among y vs) e k)) | inr n ↦ p.none z n k ];
    }
