-- Boxes in which a variable is given a domain, and their empty domains.
use Rattle.std.proofs.Common.{◌≡◌, ℕ, zero, suc, ◌<◌, Bool, true, false, ◌||◌, [], ◌∷◌, length, set, refl, ap, ◌∙◌, arith, ℤ}
use Rattle.std.proofs.lemmas.Bool.{or_left, or_right, or_from, or_parts}
use Rattle.qc_model.specs.Domains.{Values, Box, values_left, values_outside, is_none_left, has_empty}

-- a domain that is given to x in both
pub set_both : (a b : Box) (x y : ℕ) (us : Values) → length a ≡ length b → values_left a y ≡ values_left b y → values_left (set a x us) y ≡ values_left (set b x us) y
set_both [] [] x y us l h = refl
set_both [] (e ∷ b) x y us l h = cc
set_both (d ∷ a) [] x y us l h = cc
set_both (d ∷ a) (e ∷ b) zero zero us l h = refl
set_both (d ∷ a) (e ∷ b) zero (suc y) us l h = h
set_both (d ∷ a) (e ∷ b) (suc x) zero us l h = h
set_both (d ∷ a) (e ∷ b) (suc x) (suc y) us l h = set_both a b x y us (omega (arith, l)) h

-- a domain that is given to another variable
pub set_other : (a : Box) (x y : ℕ) (us : Values) → (x ≡ y → ⊥) → values_left (set a x us) y ≡ values_left a y
set_other [] x y us n = refl
set_other (d ∷ a) zero zero us n = absurd (n refl)
set_other (d ∷ a) zero (suc y) us n = refl
set_other (d ∷ a) (suc x) zero us n = refl
set_other (d ∷ a) (suc x) (suc y) us n = set_other a x y us (λ e. n (ap suc e))

-- where x keeps some value in both, or the one has none
pub set_full : (a b : Box) (x y : ℕ) (us : Values) → length a ≡ length b → (is_none_left (values_left a y) ≡ false → is_none_left (values_left b y) ≡ false) →
    is_none_left (values_left (set a x us) y) ≡ false → is_none_left (values_left (set b x us) y) ≡ false
set_full [] [] x y us l h e = e
set_full [] (d ∷ b) x y us l h e = cc
set_full (c ∷ a) [] x y us l h e = cc
set_full (c ∷ a) (d ∷ b) zero zero us l h e = e
set_full (c ∷ a) (d ∷ b) zero (suc y) us l h e = h e
set_full (c ∷ a) (d ∷ b) (suc x) zero us l h e = h e
set_full (c ∷ a) (d ∷ b) (suc x) (suc y) us l h e = set_full a b x y us (omega (arith, l)) h e

outside_full : (vs : Values) (low high : ℤ) → is_none_left (values_outside low high vs) ≡ false → is_none_left vs ≡ false
outside_full [] low high e = e
outside_full (v ∷ vs) low high e = refl

-- a domain that has a value after values are taken away had one before
pub was_full : (a : Box) (x y : ℕ) (vs : Values) (low high : ℤ) → values_left a x ≡ vs → is_none_left (values_left (set a x (values_outside low high vs)) y) ≡ false → is_none_left (values_left a y) ≡ false
was_full [] x y vs low high h e = e
was_full (d ∷ a) zero zero vs low high h e = ap is_none_left h ∙ outside_full vs low high e
was_full (d ∷ a) zero (suc y) vs low high h e = e
was_full (d ∷ a) (suc x) zero vs low high h e = e
was_full (d ∷ a) (suc x) (suc y) vs low high h e = was_full a x y vs low high h e

-- no domain is empty where none is in another box
pub all_full : (a b : Box) → length a ≡ length b → ((x : ℕ) → is_none_left (values_left a x) ≡ false → is_none_left (values_left b x) ≡ false) → has_empty a ≡ false → has_empty b ≡ false
all_full [] [] l f e = e
all_full [] (d ∷ b) l f e = cc
all_full (c ∷ a) [] l f e = cc
all_full (c ∷ a) (d ∷ b) l f e =
    let p = or_parts (is_none_left c) (has_empty a) e in
    or_from (is_none_left d) (has_empty b) (f 0 p.0) (all_full a b (omega (arith, l)) (λ x. f (suc x)) p.1)

-- where a domain becomes empty it is that of the variable that was given one
pub now_empty : (a : Box) (x : ℕ) (us : Values) → has_empty a ≡ false → has_empty (set a x us) ≡ true → (x < length (set a x us)) × (is_none_left (values_left (set a x us) x) ≡ true)
now_empty [] x us h e = cc
now_empty (d ∷ a) zero us h e =
    let p = or_parts (is_none_left d) (has_empty a) h in
    (omega arith, left (is_none_left us) (has_empty a) p.1 e)
  where
    left : (p q : Bool) → q ≡ false → (p || q) ≡ true → p ≡ true
    left true q n e = refl
    left false q n e = cc
now_empty (d ∷ a) (suc x) us h e =
    let p = or_parts (is_none_left d) (has_empty a) h in
    let r = now_empty a x us p.1 (right (is_none_left d) (has_empty (set a x us)) p.0 e) in
    (more x (length (set a x us)) r.0, r.1)
  where
    right : (p q : Bool) → p ≡ false → (p || q) ≡ true → q ≡ true
    right true q n e = cc
    right false q n e = e

    more : (m n : ℕ) → m < n → suc m < suc n
    more m n h = omega arith

pub has_one : (b : Box) (x : ℕ) → x < length b → is_none_left (values_left b x) ≡ true → has_empty b ≡ true
has_one [] x n e = absurd (omega (arith, n))
has_one (d ∷ b) zero n e = or_left (is_none_left d) (has_empty b) e
has_one (d ∷ b) (suc x) n e = or_right (is_none_left d) (has_empty b) (has_one b x (omega (arith, n)) e)
