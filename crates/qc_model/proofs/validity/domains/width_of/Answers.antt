use Rattle.std.proofs.Common.{◌≡◌, ◌+◌, ◌-ℤ◌, arith, to_z-of_z}
use Rattle.std.specs.Prelude.{nat_abs}
use Rattle.qc_model.specs.Valid.{width_of}
use Rattle.qc_model.proofs.Widths.{width_by_ends, listed_ascends}
use Rattle.qc_model.proofs.validity.domains.width_of.Goals as goal

pub returns-in-Some-Some : goal.returns-in-Some-Some
returns-in-Some-Some c =
    let least = c.in-Some-Some.ensures.item.3 in
    let greatest = c.in-Some-Some.ensures'.item.3 in
    let width : nat_abs (c.in-Some-Some.greatest.now -ℤ c.in-Some-Some.least.now) + 1 ≡ width_of c.args.numbers.now =
    width_by_ends c.args.numbers.now c.in-Some-Some.least.now c.in-Some-Some.greatest.now least.0 (listed_ascends c.args.numbers.now c.requires) (least.1 c.in-Some-Some.least.now) (greatest.1 c.in-Some-Some.greatest.now) in
    grind (arith, to_z-of_z, width, c.abs_diff.ensures)
