-- Numbers of 64 bits that are reckoned with in 128.
use Rattle.std.proofs.Common.{◌≡◌, ◌∙◌, ◌+◌, ◌≤◌, ◌^◌, sym, ap, subst, arith, ℤ}
use Rattle.std.specs.Prelude.{◌+ℤ◌, ◌-ℤ◌, ◌*ℤ◌, unsigned_abs}
use Rattle.std.proofs.lemmas.Int.{ints, to_z-of_z, fits_signed_from_abs, fits_signed_mul}
use mir.Val.{SFits, to_z, of_z}
use mir.Syntax.{w64, w128}

-- a number as it is passed on in 128 bits, and one of 64 bits as it is taken there
abbrev wide : ℤ → ℤ
wide z = to_z w128 (of_z w128 z)

abbrev doubled : ℤ → ℤ
doubled z = wide (to_z w64 (of_z w64 z))

small : (z : ℤ) → SFits w64 z → unsigned_abs z ≤ 2 ^ 63
small z f = omega (arith, ints)

fits_wide : (z : ℤ) → SFits w64 z → SFits w128 z
fits_wide z f = fits_signed_from_abs w128 z (omega (arith, small z f))

pub doubled_fits : (z : ℤ) → SFits w64 z → SFits w128 (to_z w64 (of_z w64 z))
doubled_fits z f = subst (SFits w128) (sym (to_z-of_z w64 z f)) (fits_wide z f)

doubled_is : (z : ℤ) → SFits w64 z → doubled z ≡ z
doubled_is z f = ap wide (to_z-of_z w64 z f) ∙ to_z-of_z w128 z (fits_wide z f)

-- a product
times_is : (x y : ℤ) → SFits w64 x → SFits w64 y → doubled x *ℤ doubled y ≡ x *ℤ y
times_is x y f g = ap (λ z. z *ℤ doubled y) (doubled_is x f) ∙ ap (λ z. x *ℤ z) (doubled_is y g)

pub product_fits : (x y : ℤ) → SFits w64 x → SFits w64 y → SFits w128 (doubled x *ℤ doubled y)
product_fits x y f g = subst (SFits w128) (sym (times_is x y f g)) (fits_signed_mul w128 x y (2 ^ 63) (2 ^ 63) (small x f) (small y g) (omega arith))

pub product_is : (x y : ℤ) → SFits w64 x → SFits w64 y → wide (doubled x *ℤ doubled y) ≡ x *ℤ y
product_is x y f g = to_z-of_z w128 (doubled x *ℤ doubled y) (product_fits x y f g) ∙ times_is x y f g

-- a sum of two, and what is left of it
abs_sum : (a b : ℤ) → unsigned_abs (a +ℤ b) ≤ unsigned_abs a + unsigned_abs b
abs_sum a b = grind (arith, ints)

abs_gap : (a b : ℤ) → unsigned_abs (a -ℤ b) ≤ unsigned_abs a + unsigned_abs b
abs_gap a b = grind (arith, ints)

plus_is : (a b : ℤ) → SFits w64 a → SFits w64 b → doubled a +ℤ doubled b ≡ a +ℤ b
plus_is a b f g = ap (λ z. z +ℤ doubled b) (doubled_is a f) ∙ ap (λ z. a +ℤ z) (doubled_is b g)

pub sum_fits : (a b : ℤ) → SFits w64 a → SFits w64 b → SFits w128 (doubled a +ℤ doubled b)
sum_fits a b f g = subst (SFits w128) (sym (plus_is a b f g)) (fits_signed_from_abs w128 (a +ℤ b) (omega (arith, abs_sum a b, small a f, small b g)))

less_is : (a b c : ℤ) → SFits w64 a → SFits w64 b → SFits w64 c → wide (doubled a +ℤ doubled b) -ℤ doubled c ≡ (a +ℤ b) -ℤ c
less_is a b c f g h = ap (λ z. z -ℤ doubled c) (to_z-of_z w128 (doubled a +ℤ doubled b) (sum_fits a b f g) ∙ plus_is a b f g) ∙ ap (λ z. (a +ℤ b) -ℤ z) (doubled_is c h)

pub less_fits : (a b c : ℤ) → SFits w64 a → SFits w64 b → SFits w64 c → SFits w128 (wide (doubled a +ℤ doubled b) -ℤ doubled c)
less_fits a b c f g h =
    subst (SFits w128) (sym (less_is a b c f g h)) (fits_signed_from_abs w128 ((a +ℤ b) -ℤ c) (omega (arith, abs_gap (a +ℤ b) c, abs_sum a b, small a f, small b g, small c h)))

pub left_is : (a b c : ℤ) → SFits w64 a → SFits w64 b → SFits w64 c → wide (wide (doubled a +ℤ doubled b) -ℤ doubled c) ≡ (a +ℤ b) -ℤ c
left_is a b c f g h = to_z-of_z w128 (wide (doubled a +ℤ doubled b) -ℤ doubled c) (less_fits a b c f g h) ∙ less_is a b c f g h
