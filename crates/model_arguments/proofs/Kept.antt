-- Values that are left, those of them that are kept, and their ends.
use Rattle.std.proofs.Common.{◌≡◌, ℕ, zero, suc, ◌≤◌, Bool, true, false, not, ◌&&◌, ◌||◌, cond, [], ◌∷◌, inl, inr, refl, sym, ap, ◌∙◌, arith, ℤ}
use Rattle.std.specs.Prelude.{pos, negsuc, ◌≤ℤ◌, ◌<ℤ◌, unsigned_abs, filter, int_lt}
use Rattle.std.specs.Ordering.{int_eq}
use Rattle.std.proofs.lemmas.Int.{ints}
use Rattle.std.proofs.lemmas.Bool.{leb-true, and_from}
use Rattle.std.proofs.lemmas.Bool.Decides.{Decides-int_eq, nat_tests}
use Rattle.qc_model.specs.Domains.{Values, Box, values_left, values_within, box_within, is_within, has_value, is_none_left, least_value, greatest_value}
use Rattle.qc_model.specs.Lists.{Among}
use Rattle.qc_model.specs.Valid.{is_number}
use Rattle.qc_model.proofs.Readable.{first, second}
use Rattle.qc_model.proofs.Sound.{lo_of, hi_of}
use Rattle.model_arguments.proofs.Values.{has_least, has_greatest}

pub among_of : (v : ℤ) (vs : Values) → has_value vs v ≡ true → Among v vs
among_of v [] h = cc
among_of v (x ∷ vs) h = by (int_eq v x) (Decides-int_eq v x).0 (among_of v vs) h
  where
    by : (b : Bool) → (b ≡ true → v ≡ x) → (has_value vs v ≡ true → Among v vs) → (b || has_value vs v) ≡ true → Among v (x ∷ vs)
    by true e f h = inl (e refl)
    by false e f h = inr (f h)

pub some_of : (vs : Values) (v : ℤ) → has_value vs v ≡ true → is_none_left vs ≡ false
some_of [] v h = cc
some_of (x ∷ vs) v h = refl

pub low_end : (vs : Values) (v : ℤ) → has_value vs v ≡ true → least_value vs ≤ℤ v
low_end vs v h = lo_of v vs (among_of v vs h)

pub high_end : (vs : Values) (v : ℤ) → has_value vs v ≡ true → v ≤ℤ greatest_value vs
high_end vs v h = hi_of v vs (among_of v vs h)

pub ordered : (vs : Values) → is_none_left vs ≡ false → least_value vs ≤ℤ greatest_value vs
ordered vs n = low_end vs (greatest_value vs) (has_greatest vs n)

and_false : (b : Bool) → false ≡ (b && false)
and_false true = refl
and_false false = refl

has_branch : (w : Bool) (x v : ℤ) (us : Values) → has_value (cond w (x ∷ us) us) v ≡ cond w (int_eq v x || has_value us v) (has_value us v)
has_branch true x v us = refl
has_branch false x v us = refl

has_table : (w u b p q : Bool) → (b ≡ true → u ≡ w) → p ≡ (u && q) → cond w (b || p) p ≡ (u && (b || q))
has_table true true true p q f h = refl
has_table true true false p q f h = h
has_table true false true p q f h = let e = f refl in cc
has_table true false false p q f h = h
has_table false true true p q f h = let e = f refl in cc
has_table false true false p q f h = h
has_table false false b p q f h = h

-- a value that is left, and passes
pub has_kept : (q : ℤ → Bool) (vs : Values) (v : ℤ) → has_value (filter q vs) v ≡ (q v && has_value vs v)
has_kept q [] v = and_false (q v)
has_kept q (x ∷ vs) v =
    has_branch (q x) x v (filter q vs)
    ∙ has_table (q x) (q v) (int_eq v x) (has_value (filter q vs) v) (has_value vs v) (λ e. ap q ((Decides-int_eq v x).0 e)) (has_kept q vs v)

pub keeps : (q : ℤ → Bool) (vs : Values) (v : ℤ) → q v ≡ true → has_value vs v ≡ true → has_value (filter q vs) v ≡ true
keeps q vs v h k = has_kept q vs v ∙ and_from (q v) (has_value vs v) h k

pub passes : (q : ℤ → Bool) (vs : Values) (v : ℤ) → has_value (filter q vs) v ≡ true → q v ≡ true
passes q vs v h = first (q v) (has_value vs v) (sym (has_kept q vs v) ∙ h)

pub was_left : (q : ℤ → Bool) (vs : Values) (v : ℤ) → has_value (filter q vs) v ≡ true → has_value vs v ≡ true
was_left q vs v h = second (q v) (has_value vs v) (sym (has_kept q vs v) ∙ h)

-- the ends of what is kept are kept
pub least_kept : (q : ℤ → Bool) (vs : Values) → is_none_left (filter q vs) ≡ false → (q (least_value (filter q vs)) ≡ true) × (has_value vs (least_value (filter q vs)) ≡ true)
least_kept q vs h = let k = has_least (filter q vs) h in (passes q vs (least_value (filter q vs)) k, was_left q vs (least_value (filter q vs)) k)

pub greatest_kept : (q : ℤ → Bool) (vs : Values) → is_none_left (filter q vs) ≡ false → (q (greatest_value (filter q vs)) ≡ true) × (has_value vs (greatest_value (filter q vs)) ≡ true)
greatest_kept q vs h = let k = has_greatest (filter q vs) h in (passes q vs (greatest_value (filter q vs)) k, was_left q vs (greatest_value (filter q vs)) k)

-- within a range
pub within_at : (box : Box) (x : ℕ) (lo hi : ℤ) → values_left (box_within box x lo hi) x ≡ values_within lo hi (values_left box x)
within_at [] zero lo hi = refl
within_at [] (suc x) lo hi = refl
within_at (vs ∷ box) zero lo hi = refl
within_at (vs ∷ box) (suc x) lo hi = within_at box x lo hi

pub inside : (lo hi v : ℤ) → lo ≤ℤ v → v ≤ℤ hi → is_within lo hi v ≡ true
inside lo hi v h k = grind (arith, ints)

pub at_least : (lo hi v : ℤ) → is_within lo hi v ≡ true → lo ≤ℤ v
at_least lo hi v h = grind (arith, ints)

pub at_most : (lo hi v : ℤ) → is_within lo hi v ≡ true → v ≤ℤ hi
at_most lo hi v h = grind (arith, ints)

pub out_low : (lo hi v : ℤ) → not (is_within lo hi v) ≡ true → v ≤ℤ hi → v <ℤ lo
out_low lo hi v h k = grind (arith, ints)

pub out_high : (lo hi v : ℤ) → not (is_within lo hi v) ≡ true → lo ≤ℤ v → hi <ℤ v
out_high lo hi v h k = grind (arith, ints)

pub is_out_low : (lo hi v : ℤ) → v <ℤ lo → not (is_within lo hi v) ≡ true
is_out_low lo hi v h = grind (arith, ints)

pub is_out_high : (lo hi v : ℤ) → hi <ℤ v → not (is_within lo hi v) ≡ true
is_out_high lo hi v h = grind (arith, ints)

pub small_between : (a b v : ℤ) → is_number a ≡ true → is_number b ≡ true → a ≤ℤ v → v ≤ℤ b → is_number v ≡ true
small_between a b v h k l m = by (leb-true (unsigned_abs a) 1000000000 h) (leb-true (unsigned_abs b) 1000000000 k)
  where
    by : unsigned_abs a ≤ 1000000000 → unsigned_abs b ≤ 1000000000 → is_number v ≡ true
    by p q = grind (arith, nat_tests, ints)

-- tests of numbers
pub same_end : (a b : ℤ) → a ≤ℤ b → b ≤ℤ a → a ≡ b
same_end a b h k = grind (arith, ints)

pub through : (a b c : ℤ) → a ≤ℤ b → b ≤ℤ c → a ≤ℤ c
through a b c h k = omega (arith, ints, h, k)

pub lower : (a b : ℤ) → int_lt a b ≡ true → a <ℤ b
lower a b h = grind (arith, ints)

pub is_lower : (a b : ℤ) → a <ℤ b → int_lt a b ≡ true
is_lower a b h = grind (arith, ints)

pub not_lower : (a b : ℤ) → b ≤ℤ a → int_lt a b ≡ false
not_lower a b h = grind (arith, ints)

pub reaches : (a b : ℤ) → int_lt a b ≡ false → b ≤ℤ a
reaches a b h = grind (arith, ints)

-- a number that isn't at most another
pub less_of : (a b : ℤ) → (b ≤ℤ a → ⊥) → a <ℤ b
less_of a b f = by (int_lt a b) refl
  where
    by : (t : Bool) → int_lt a b ≡ t → a <ℤ b
    by true h = lower a b h
    by false h = absurd (f (reaches a b h))

pub apart : (a b : ℤ) → a <ℤ b → b ≤ℤ a → ⊥
apart a b h k = omega (arith, ints, h, k)

-- the limit of numbers
pub over_low : (v : ℤ) → is_number v ≡ true → negsuc 999999999 ≤ℤ v
over_low v h = grind (arith, nat_tests, ints)

pub under_high : (v : ℤ) → is_number v ≡ true → v ≤ℤ pos 1000000000
under_high v h = grind (arith, nat_tests, ints)

pub small_of : (v : ℤ) → negsuc 999999999 ≤ℤ v → v ≤ℤ pos 1000000000 → is_number v ≡ true
small_of v h k = grind (arith, nat_tests, ints)
