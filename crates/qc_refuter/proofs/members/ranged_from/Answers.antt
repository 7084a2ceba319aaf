use Rattle.std.proofs.Common.{◌≡◌, true, false, ℤ, rules, arith}
use Rattle.std.specs.Prelude.{int_lt, ◌≤ℤ◌}
use Rattle.std.proofs.lemmas.Int.{ints, to_z-of_z}
use mir.Val.{SFits}
use mir.Syntax.{w64}
use Rattle.qc_model.specs.declared.problem.Set.TheVariants.{Range as SetRange}
use Rattle.qc_model.specs.Domains.{is_within}
use Rattle.qc_model.specs.Valid.{is_range}
use Rattle.qc_refuter.specs.Members.{IsMemberFrom, NoMemberFrom}
use Rattle.qc_refuter.proofs.members.ranged_from.Goals as goal

-- what a range says of a number
from_low : (low high u : ℤ) → is_within low high u ≡ true → low ≤ℤ u
from_low low high u h = grind (arith, ints)

to_high : (low high u : ℤ) → is_within low high u ≡ true → u ≤ℤ high
to_high low high u h = grind (arith, ints)

-- a number above a range, below it and in it
above : (low high v : ℤ) → int_lt high v ≡ true → NoMemberFrom (SetRange low high) v
above low high v h u l m = apart high v u h l (to_high low high u m)
  where
    apart : (high v u : ℤ) → int_lt high v ≡ true → v ≤ℤ u → u ≤ℤ high → ⊥
    apart high v u h l m = grind (arith, ints)

below : (low high v : ℤ) → is_range low high ≡ true → int_lt v low ≡ true → IsMemberFrom (SetRange low high) v low
below low high v r h = record {
  up = up low v h;
  member = first low high r;
  all = λ u l m. from_low low high u m;
}
  where
    up : (low v : ℤ) → int_lt v low ≡ true → v ≤ℤ low
    up low v h = grind (arith, ints)

    first : (low high : ℤ) → is_range low high ≡ true → is_within low high low ≡ true
    first low high r = grind (arith, ints)

inside : (low high v : ℤ) → int_lt high v ≡ false → int_lt v low ≡ false → IsMemberFrom (SetRange low high) v v
inside low high v h l = record {
  up = same v;
  member = within low high v h l;
  all = λ u k m. k;
}
  where
    same : (v : ℤ) → v ≤ℤ v
    same v = omega (arith, ints)

    within : (low high v : ℤ) → int_lt high v ≡ false → int_lt v low ≡ false → is_within low high v ≡ true
    within low high v h l = grind (arith, ints)

pub returns-then-high-v-clause-none : goal.returns-then-high-v-clause-none
returns-then-high-v-clause-none c =
    let high_fits : SFits w64 c.args.high = search rules in
    let v_fits : SFits w64 c.args.v = search rules in
    let over = simp to_z-of_z at c.if-high-v.true in
    above c.args.low c.args.high c.args.v over

pub returns-then-v-low-clause-some : goal.returns-then-v-low-clause-some
returns-then-v-low-clause-some c =
    let low_fits : SFits w64 c.args.low = search rules in
    let v_fits : SFits w64 c.args.v = search rules in
    let under = simp to_z-of_z at c.if-v-low.true in
    simp to_z-of_z (below c.args.low c.args.high c.args.v c.requires under)

pub returns-clause-some : goal.returns-clause-some
returns-clause-some c =
    let low_fits : SFits w64 c.args.low = search rules in
    let high_fits : SFits w64 c.args.high = search rules in
    let v_fits : SFits w64 c.args.v = search rules in
    let most = simp to_z-of_z at c.if-high-v.false in
    let least = simp to_z-of_z at c.if-v-low.false in
    simp to_z-of_z (inside c.args.low c.args.high c.args.v most least)
