-- The walk over the terms of a sum, as the code goes.
use Rattle.std.proofs.Common.{◌≡◌, ℕ, ◌+◌, ◌*◌, ◌<◌, ◌≤◌, ◌^◌, true, List, [], ◌∷◌, length, get_or, min, refl, sym, ap, subst, ◌∙◌, arith, ℤ}
use Rattle.std.specs.Prelude.{pos, ◌+ℤ◌, ◌*ℤ◌, ◌≤ℤ◌, unsigned_abs}
use Rattle.std.specs.List.{list_all}
use Rattle.std.specs.Int.{int_min, int_max}
use Rattle.std.proofs.lemmas.Int.{ints, clamps, fits_signed_from_abs}
use Rattle.std.proofs.lemmas.List.Recursion.{and_at}
use mir.Val.{SFits}
use mir.Syntax.{w64, w128}
use Rattle.qc_model.specs.Domains.{Values, least_value, greatest_value}
use Rattle.qc_model.specs.Left.{span}
use Rattle.qc_model.specs.Ranges.{Range, range_of, range_sum, point, product}
use Rattle.qc_model.specs.Valid.{is_number}
use Rattle.qc_refuter.proofs.Terms.{abs_sum, product_small, term_range}
use Rattle.dense_quiet.specs.Slack.{IsNear}

-- a place of both lists, and the number that is read there
pub within_first : (a b n k : ℕ) → n ≡ min a b → k < n → k < a
within_first a b n k e h = omega arith

pub within_second : (a b n k : ℕ) → n ≡ min a b → k < n → k < b
within_second a b n k e h = omega arith

pub number_read : (ns : List ℤ) (k : ℕ) (d : ℤ) → k < length ns → list_all is_number ns ≡ true → is_number (get_or ns k d) ≡ true
number_read ns k d h t = and_at (list_all is_number) is_number refl (λ _ _. refl) ns k d h t

-- a product fits
pub product_fits : (a b : ℤ) → is_number a ≡ true → is_number b ≡ true → SFits w64 (a *ℤ b)
product_fits a b h k = fits_signed_from_abs w64 (a *ℤ b) (under (unsigned_abs (a *ℤ b)) (product_small a b h k))
  where
    under : (n : ℕ) → n ≤ 10 ^ 18 → n < 2 ^ 63
    under n h = omega arith

-- a term fits, and so does a sum of few terms with one more
pub term_wide : (z : ℤ) → unsigned_abs z ≤ 10 ^ 18 → SFits w128 z
term_wide z h = fits_signed_from_abs w128 z (omega (arith, h))

pub more_wide : (s z : ℤ) (a b n k : ℕ) → n ≡ min a b → k < n → b ≤ 1000 → unsigned_abs s ≤ k * 10 ^ 18 → unsigned_abs z ≤ 10 ^ 18 → SFits w128 (s +ℤ z)
more_wide s z a b n k e h l m q = fits_signed_from_abs w128 (s +ℤ z) (omega (arith, abs_sum s z, e, h, l, m, q))

-- the sum's distance from 0
pub more_small : (s z : ℤ) (k : ℕ) → unsigned_abs s ≤ k * 10 ^ 18 → unsigned_abs z ≤ 10 ^ 18 → unsigned_abs (s +ℤ z) ≤ (k + 1) * 10 ^ 18
more_small s z k m q = omega (arith, abs_sum s z, m, q)

pub all_small : (s : ℤ) (a b n k : ℕ) → n ≡ min a b → k ≤ n → b ≤ 1000 → unsigned_abs s ≤ k * 10 ^ 18 → unsigned_abs s ≤ 10 ^ 21
all_small s a b n k e h l m = omega (arith, e, h, l, m)

-- before the first term
pub none_first : (r : Range) → range_sum (range_of (pos 0) (pos 0)) r ≡ r
none_first r = ap (λ z. range_of z (pos 0 +ℤ r.to)) (zero_first r.from) ∙ ap (range_of r.from) (zero_first r.to)
  where
    zero_first : (z : ℤ) → pos 0 +ℤ z ≡ z
    zero_first z = omega (arith, ints)

pub none_before : (i : ℕ) (P : Type 0) → i < 0 → P
none_before i P h = absurd (omega arith)

-- past the last place of one of both, and a place of both
pub past_both : (a b d n k : ℕ) → n ≡ min a b → d ≡ b → n ≤ k → min a d ≤ k
past_both a b d n k e f h = omega arith

pub before_end : (a b n k i : ℕ) → n ≡ min a b → n ≤ k → i < a → i < b → i < k
before_end a b n k i e h l m = omega arith

-- what a factor times a number is
one_range : (p : ℤ) → range_of p p ≡ range_of (int_min p p) (int_max p p)
one_range p = ap (λ z. range_of z p) (least p) ∙ ap (range_of (int_min p p)) (greatest p)
  where
    least : (p : ℤ) → p ≡ int_min p p
    least p = omega (arith, ints, clamps)

    greatest : (p : ℤ) → p ≡ int_max p p
    greatest p = omega (arith, ints, clamps)

pub term_one : (f n p : ℤ) (d : Values) → d ≡ n ∷ [] → p ≡ f *ℤ n → range_of p p ≡ product (point f) (span d)
term_one f n p d e h = term_range f n n p p (range_of p p) d (sym (ap least_value e)) (sym (ap greatest_value e)) h h (one_range p)

pub near_one : (s f n : ℤ) (d : Values) → d ≡ n ∷ [] → pos 0 ≤ℤ s → IsNear s f d
near_one s f n d e z = subst (IsNear s f) (sym e) (record { up = above (f *ℤ n) s z; down = above (f *ℤ n) s z })
  where
    above : (p s : ℤ) → pos 0 ≤ℤ s → p ≤ℤ (p +ℤ s)
    above p s z = omega (arith, ints)
