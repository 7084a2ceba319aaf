use Rattle.std.proofs.Common.{◌≡◌, ◌∙◌, ap, sym, subst, ◌≤◌, true, ℤ, to_z, of_z, arith}
use Rattle.std.specs.Prelude.{pos, negsuc, ◌-ℤ◌, ◌+ℤ◌, ◌≤ℤ◌, nat_abs}
use Rattle.std.proofs.lemmas.Int.{ints, to_z-of_z}
use mir.Val.{SFits, Fits}
use mir.Syntax.{w64, w32}
use lib.Dec.{T}
use lib.Signed.{non_neg}
use Rattle.qc_model.specs.Valid.{is_number}
use Rattle.model_arguments.proofs.spans.width.Goals as goal

-- how far two numbers are apart
apart_fits : (low high : ℤ) → is_number low ≡ true → is_number high ≡ true → SFits w64 (high -ℤ low)
apart_fits low high a b = grind (arith, ints)

apart_small : (low high : ℤ) → is_number low ≡ true → is_number high ≡ true → nat_abs (high -ℤ low) ≤ 2000000000
apart_small low high a b = grind (arith, ints)

apart_value : (low high : ℤ) → low ≤ℤ high → low +ℤ pos (nat_abs (high -ℤ low)) ≡ high
apart_value low high o = grind (arith, ints)

not_below : (z : ℤ) → pos 0 ≤ℤ z → T (non_neg z)
not_below (pos n) h = tt
not_below (negsuc n) h = absurd (omega (arith, ints, h))

apart_cast : (low high : ℤ) → is_number low ≡ true → is_number high ≡ true → low ≤ℤ high → T (non_neg (high -ℤ low)) × Fits w32 (nat_abs (high -ℤ low))
apart_cast low high a b o = (not_below (high -ℤ low) (omega (arith, ints, o)), omega (arith, apart_small low high a b))

-- the same of numbers that were passed on
passed_apart : (low high : ℤ) → SFits w64 low → SFits w64 high → to_z w64 (of_z w64 high) -ℤ to_z w64 (of_z w64 low) ≡ high -ℤ low
passed_apart low high f g = ap (λ z. z -ℤ to_z w64 (of_z w64 low)) (to_z-of_z w64 high g) ∙ ap (λ z. high -ℤ z) (to_z-of_z w64 low f)

told_apart : (low high : ℤ) → SFits w64 low → SFits w64 high → is_number low ≡ true → is_number high ≡ true →
    to_z w64 (of_z w64 (to_z w64 (of_z w64 high) -ℤ to_z w64 (of_z w64 low))) ≡ high -ℤ low
told_apart low high f g a b = ap (λ z. to_z w64 (of_z w64 z)) (passed_apart low high f g) ∙ to_z-of_z w64 (high -ℤ low) (apart_fits low high a b)

pub overflow_sub-result : goal.overflow_sub-result
overflow_sub-result c = subst (SFits w64) (sym (passed_apart c.args.low c.args.high c.ranges.low c.ranges.high)) (apart_fits c.args.low c.args.high c.requires.low c.requires.high)

pub returns-clause-small : goal.returns-clause-small
returns-clause-small c =
    subst (λ z. nat_abs z ≤ 2000000000) (sym (told_apart c.args.low c.args.high c.ranges.low c.ranges.high c.requires.low c.requires.high)) (apart_small c.args.low c.args.high c.requires.low c.requires.high)

pub returns-clause-value : goal.returns-clause-value
returns-clause-value c =
    ap (λ z. c.args.low +ℤ pos (nat_abs z)) (told_apart c.args.low c.args.high c.ranges.low c.ranges.high c.requires.low c.requires.high) ∙ apart_value c.args.low c.args.high c.requires.order

pub overflow_cast-result : goal.overflow_cast-result
overflow_cast-result c =
    subst (λ z. T (non_neg z) × Fits w32 (nat_abs z)) (sym (told_apart c.args.low c.args.high c.ranges.low c.ranges.high c.requires.low c.requires.high))
    (apart_cast c.args.low c.args.high c.requires.low c.requires.high c.requires.order)
