use Rattle.std.proofs.Common.{arith, rules, get_or}
use Rattle.std.proofs.lemmas.Int.{to_z-of_z}
use mir.Val.{SFits}
use mir.Syntax.{w64}
use Rattle.qc_model.specs.Refuted.{left_to}
use Rattle.qc_refuter.specs.Met.{seen}
use Rattle.qc_refuter.proofs.Fill.{not_past, past_counted}
use Rattle.qc_refuter.proofs.full.count_end.Goals as goal

pub returns-then-past-counts-clause-counts : goal.returns-then-past-counts-clause-counts
returns-then-past-counts-clause-counts c k h =
    let l_fits : SFits w64 c.args.low = search rules in
    let s = simp to_z-of_z at c.in-Some.ensures.some in
    not_past c.args.low c.in-Some.past k (get_or c.args.counts.now k 0) (left_to (seen c.args.view.now) c.args.arg) s.1 (omega (arith, h, c.if-past-counts.true))

pub returns-clause-counts : goal.returns-clause-counts
returns-clause-counts c k h =
    let l_fits : SFits w64 c.args.low = search rules in
    let s = simp to_z-of_z at c.in-Some.ensures.some in
    past_counted c.args.low c.in-Some.past k (left_to (seen c.args.view.now) c.args.arg) c.args.counts.now s.0 s.1 c.if-past-counts.false
