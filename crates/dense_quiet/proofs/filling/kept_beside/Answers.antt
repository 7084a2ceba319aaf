use Rattle.std.proofs.Common.{rules, ◌≡◌, false, subst, arith}
use Rattle.std.specs.Prelude.{pos, ◌+ℤ◌, ◌-ℤ◌, ◌≤ℤ◌, int_lt, ℤ}
use Rattle.std.proofs.lemmas.Int.{ints, to_z-of_z}
use mir.Val.{SFits}
use mir.Syntax.{w64}
use Rattle.qc_model.specs.Domains.{values_left, greatest_value, least_value}
use Rattle.dense_quiet.specs.Guessing.{PassesOutside, refuted_with}
use Rattle.dense_quiet.proofs.Filled.{begins_filled, ends_filled}
use Rattle.dense_quiet.proofs.filling.kept_beside.Goals as goal

pub returns-then-low-filled : goal.returns-then-low-filled
returns-then-low-filled c = λ full.
    let test = refuted_with c.args.rule.now c.args.x.0 c.args.store.now.box in
    let d = values_left c.args.store.now.box c.args.x.0 in
    let from = c.args.filled.low in
    let to = c.args.filled.high in
    let from_fits : SFits w64 from = search rules in
    let to_fits : SFits w64 to = search rules in
    let low_fits : SFits w64 c.min-low.result = search rules in
    let high_fits : SFits w64 c.max-high.result = search rules in
    let over : int_lt to c.max-high.result ≡ false = simp to_z-of_z at c.if-filled-high.false in
    let before_fits : SFits w64 (from -ℤ pos 1) = search rules in
    let upto : greatest_value d ≤ℤ to = subst (λ z. z ≤ℤ to) c.max-high.ensures (not_over to c.max-high.result over) in
    let kept : PassesOutside test d c.min-low.result (from -ℤ pos 1) = ends_filled test d from to (c.is_filled_beside.ensures full) c.min-low.result (from -ℤ pos 1) upto (last from) c.min-low.ensures in
    simp to_z-of_z kept
  where
    last : (n : ℤ) → n ≤ℤ ((n -ℤ pos 1) +ℤ pos 1)
    last n = omega (arith, ints)

    not_over : (a b : ℤ) → int_lt a b ≡ false → b ≤ℤ a
    not_over a b h = grind (arith, ints)

pub returns : goal.returns
returns c = λ full.
    let test = refuted_with c.args.rule.now c.args.x.0 c.args.store.now.box in
    let d = values_left c.args.store.now.box c.args.x.0 in
    let from = c.args.filled.low in
    let to = c.args.filled.high in
    let from_fits : SFits w64 from = search rules in
    let to_fits : SFits w64 to = search rules in
    let low_fits : SFits w64 c.min-low.result = search rules in
    let high_fits : SFits w64 c.max-high.result = search rules in
    let under : int_lt c.min-low.result from ≡ false = simp to_z-of_z at c.if-low-filled.false in
    let past_fits : SFits w64 (to +ℤ pos 1) = search rules in
    let since : from ≤ℤ least_value d = subst (λ z. from ≤ℤ z) c.min-low.ensures (not_over c.min-low.result from under) in
    let kept : PassesOutside test d (to +ℤ pos 1) c.max-high.result = begins_filled test d from to (c.is_filled_beside-2.ensures full) (to +ℤ pos 1) c.max-high.result since (next to) c.max-high.ensures in
    simp to_z-of_z kept
  where
    next : (n : ℤ) → (n +ℤ pos 1) ≤ℤ (n +ℤ pos 1)
    next n = omega (arith, ints)

    not_over : (a b : ℤ) → int_lt a b ≡ false → b ≤ℤ a
    not_over a b h = grind (arith, ints)
