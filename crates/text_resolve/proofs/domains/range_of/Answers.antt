use Rattle.std.proofs.Common.{rules, to_z-of_z, w64}
use Rattle.std.proofs.Common.{SFits}
use Rattle.text_resolve.proofs.Ascending.{ends, range_made, no_range}
use Rattle.text_resolve.proofs.domains.range_of.Goals as goal

pub returns-then-abs_diff-values : goal.returns-then-abs_diff-values
returns-then-abs_diff-values c =
    let low : SFits w64 c.in-Some-Some.low.now = search rules in
    let high : SFits w64 c.in-Some-Some.high.now = search rules in
    let diff = simp to_z-of_z at c.abs_diff.ensures in
    let both = ends c.args.values.now c.in-Some-Some.low.now c.in-Some-Some.high.now c.in-Some-Some.ensures.item.3.0 c.requires c.in-Some-Some.ensures.item.1 c.in-Some-Some.ensures'.item.1 in
    simp to_z-of_z (range_made c.args.values.now c.in-Some-Some.low.now c.in-Some-Some.high.now c.abs_diff.result both.0 both.1 diff c.if-abs_diff-values.true)

pub returns-else-abs_diff-values : goal.returns-else-abs_diff-values
returns-else-abs_diff-values c =
    let low : SFits w64 c.in-Some-Some.low.now = search rules in
    let high : SFits w64 c.in-Some-Some.high.now = search rules in
    let diff = simp to_z-of_z at c.abs_diff.ensures in
    let both = ends c.args.values.now c.in-Some-Some.low.now c.in-Some-Some.high.now c.in-Some-Some.ensures.item.3.0 c.requires c.in-Some-Some.ensures.item.1 c.in-Some-Some.ensures'.item.1 in
    no_range c.args.values.now c.in-Some-Some.low.now c.in-Some-Some.high.now c.abs_diff.result both.0 both.1 diff c.if-abs_diff-values.false
