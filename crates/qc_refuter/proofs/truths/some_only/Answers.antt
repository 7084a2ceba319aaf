use Rattle.std.proofs.Common.{refl}
use Rattle.std.proofs.lemmas.Int.{to_z-of_z}
use mir.Val.{SFits, to_z, of_z}
use mir.Syntax.{w64}
use Rattle.qc_model.specs.declared.problem.Arg.TheVariants.{Var}
use Rattle.qc_model.specs.Left.{is_only}
use Rattle.qc_model.specs.Refuted.{left_to}
use Rattle.qc_refuter.specs.Met.{seen}
use Rattle.qc_refuter.proofs.Terms.{open_at}
use Rattle.qc_refuter.proofs.ItemWalks.{some_next, some_stop, some_end}
use Rattle.qc_refuter.proofs.truths.some_only.Goals as goal

pub has_only-requires : goal.has_only-requires
has_only-requires c = open_at (seen c.args.view.now) c.args.items.now c.loop-item.item-index (Var (record { 0 = 0 })) c.loop-item-test.true c.requires

pub loop-item-init : goal.loop-item-init
loop-item-init c = refl

pub loop-item-preserved : goal.loop-item-preserved
loop-item-preserved c = some_next (is_only (to_z w64 (of_z w64 c.args.number))) (left_to (seen c.args.view.now)) c.args.items.now c.loop-item.item-index (Var (record { 0 = 0 })) _ _ c.loop-item-test.true c.has_only.ensures c.if-has_only.false c.loop-item.invariant

pub returns-then-has_only : goal.returns-then-has_only
returns-then-has_only c =
    let fits : SFits w64 c.args.number = c.ranges.number in
    simp to_z-of_z at (some_stop (is_only (to_z w64 (of_z w64 c.args.number))) (left_to (seen c.args.view.now)) c.args.items.now c.loop-item.item-index (Var (record { 0 = 0 })) _ _ c.loop-item-test.true c.has_only.ensures c.if-has_only.true c.loop-item.invariant)

pub returns : goal.returns
returns c =
    let fits : SFits w64 c.args.number = c.ranges.number in
    simp to_z-of_z at (some_end (is_only (to_z w64 (of_z w64 c.args.number))) (left_to (seen c.args.view.now)) c.args.items.now c.loop-item.item-index _ c.loop-item-test.false c.loop-item.invariant)
