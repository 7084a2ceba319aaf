-- Values that are kept, their ends, and what two of them have in common.
use Rattle.std.proofs.Common.{◌≡◌, Bool, true, false, not, ◌&&◌, ◌||◌, cond, [], ◌∷◌, refl, ap, ◌∙◌, arith, ℤ}
use Rattle.std.specs.Prelude.{pos, ◌+ℤ◌, ◌-ℤ◌, ◌≤ℤ◌, ◌<ℤ◌, filter}
use Rattle.std.specs.Ordering.{int_eq}
use Rattle.std.proofs.lemmas.Int.{ints}
use Rattle.std.proofs.lemmas.Bool.Decides.{Decides-int_eq}
use Rattle.std.proofs.lemmas.Bool.{or_right, not_from_false, false_from_ne_true, and_from}
use Rattle.qc_model.specs.Domains.{Values, values_within, values_outside, is_within, has_value, is_none_left, is_single, least_value, greatest_value}
use Rattle.qc_model.proofs.Readable.{first, second}
use Rattle.model_arguments.proofs.Values.{has_first}
use Rattle.model_arguments.proofs.Kept.{keeps, some_of, low_end, high_end, inside, at_least, at_most, out_low, out_high, is_out_low, is_out_high}
use Rattle.model_arguments.proofs.Bools.{bools_same}

-- one filter after another
pub filter_twice : (p q : ℤ → Bool) (vs : Values) → filter q (filter p vs) ≡ filter (λ v. p v && q v) vs
filter_twice p q [] = refl
filter_twice p q (x ∷ vs) = by (p x) (filter_twice p q vs)
  where
    by : (b : Bool) → filter q (filter p vs) ≡ filter (λ v. p v && q v) vs → filter q (cond b (x ∷ filter p vs) (filter p vs)) ≡ cond (b && q x) (x ∷ filter (λ v. p v && q v) vs) (filter (λ v. p v && q v) vs)
    by true h = ap (λ l. cond (q x) (x ∷ l) l) h
    by false h = h

pub filter_alike : (p q : ℤ → Bool) (vs : Values) → ((v : ℤ) → has_value vs v ≡ true → p v ≡ q v) → filter p vs ≡ filter q vs
filter_alike p q [] f = refl
filter_alike p q (x ∷ vs) f =
    ap (λ b. cond b (x ∷ filter p vs) (filter p vs)) (f x (has_first x vs))
    ∙ ap (λ l. cond (q x) (x ∷ l) l) (filter_alike p q vs (λ v h. f v (or_right (int_eq v x) (has_value vs v) h)))

from_before : (lo v : ℤ) → (lo -ℤ pos 1) <ℤ v → lo ≤ℤ v
from_before lo v h = omega (arith, ints, h)

to_after : (hi v : ℤ) → v <ℤ (hi +ℤ pos 1) → v ≤ℤ hi
to_after hi v h = omega (arith, ints, h)

before : (lo v : ℤ) → lo ≤ℤ v → (lo -ℤ pos 1) <ℤ v
before lo v h = omega (arith, ints, h)

after : (hi v : ℤ) → v ≤ℤ hi → v <ℤ (hi +ℤ pos 1)
after hi v h = omega (arith, ints, h)

-- what lies neither below lo nor above hi lies within
pub outside_both : (lo hi : ℤ) (vs : Values) →
    values_outside (hi +ℤ pos 1) (greatest_value vs) (values_outside (least_value vs) (lo -ℤ pos 1) vs) ≡ values_within lo hi vs
outside_both lo hi vs =
    let l = least_value vs in
    let g = greatest_value vs in
    filter_twice (λ v. not (is_within l (lo -ℤ pos 1) v)) (λ v. not (is_within (hi +ℤ pos 1) g v)) vs
    ∙ filter_alike (λ v. not (is_within l (lo -ℤ pos 1) v) && not (is_within (hi +ℤ pos 1) g v)) (is_within lo hi) vs (λ v h. alike l g v (low_end vs v h) (high_end vs v h))
  where
    alike : (l g v : ℤ) → l ≤ℤ v → v ≤ℤ g → (not (is_within l (lo -ℤ pos 1) v) && not (is_within (hi +ℤ pos 1) g v)) ≡ is_within lo hi v
    alike l g v h k =
        bools_same (not (is_within l (lo -ℤ pos 1) v) && not (is_within (hi +ℤ pos 1) g v)) (is_within lo hi v)
        (λ b.
        inside lo hi v
        (from_before lo v (out_high l (lo -ℤ pos 1) v (first (not (is_within l (lo -ℤ pos 1) v)) (not (is_within (hi +ℤ pos 1) g v)) b) h))
        (to_after hi v (out_low (hi +ℤ pos 1) g v (second (not (is_within l (lo -ℤ pos 1) v)) (not (is_within (hi +ℤ pos 1) g v)) b) k)))
        (λ b.
        and_from (not (is_within l (lo -ℤ pos 1) v)) (not (is_within (hi +ℤ pos 1) g v))
        (is_out_high l (lo -ℤ pos 1) v (before lo v (at_least lo hi v b)))
        (is_out_low (hi +ℤ pos 1) g v (after hi v (at_most lo hi v b))))

-- nothing lies within
pub none_taken : (lo hi : ℤ) (vs : Values) → is_none_left (values_within lo hi vs) ≡ true → values_outside lo hi vs ≡ vs
none_taken lo hi vs h = filter_alike (λ v. not (is_within lo hi v)) (λ v. true) vs (λ v k. not_from_false (is_within lo hi v) (false_from_ne_true (is_within lo hi v) (λ w. clash (is_none_left (values_within lo hi vs)) h (some_of (values_within lo hi vs) v (keeps (is_within lo hi) vs v w k))))) ∙ all vs
  where
    clash : (b : Bool) → b ≡ true → b ≡ false → ⊥
    clash true h k = cc
    clash false h k = cc

    all : (us : Values) → filter (λ v. true) us ≡ us
    all [] = refl
    all (u ∷ us) = ap (λ l. u ∷ l) (all us)

-- some of one value are all of it
pub one_kept : (q : ℤ → Bool) (n : ℤ) → is_none_left (filter q (n ∷ [])) ≡ false → filter q (n ∷ []) ≡ n ∷ []
one_kept q n h = by (q n) h
  where
    by : (b : Bool) → is_none_left (cond b (n ∷ []) []) ≡ false → cond b (n ∷ []) [] ≡ n ∷ []
    by true k = refl
    by false k = cc

-- one value of one
pub single_value : (d : Values) (v : ℤ) → is_single d ≡ true → has_value d v ≡ true → v ≡ least_value d
single_value [] v s h = cc
single_value (x ∷ []) v s h = by (int_eq v x) (Decides-int_eq v x).0 h
  where
    by : (b : Bool) → (b ≡ true → v ≡ x) → (b || false) ≡ true → v ≡ x
    by true f k = f refl
    by false f k = cc
single_value (x ∷ y ∷ d) v s h = cc
