use Rattle.std.proofs.Common.{arith}
use Rattle.qc_model.specs.declared.problem.Arg.TheVariants.{Var}
use Rattle.qc_refuter.specs.Full.{lies_in}
use Rattle.qc_refuter.specs.Met.{seen}
use Rattle.qc_refuter.proofs.Fill.{counted_take, passed_before, crowd_of_two}
use Rattle.qc_refuter.proofs.differing.two_have_first.Goals as goal

pub loop-item-preserved-then-not-has_first_alone : goal.loop-item-preserved-then-not-has_first_alone
loop-item-preserved-then-not-has_first_alone c e =
    omega (arith, c.loop-item.invariant e, counted_take (lies_in c.args.view.now.lo 1) (seen c.args.view.now) c.args.items.now c.loop-item.item-index (Var (record { 0 = 0 })) c.loop-item-test.true)

pub loop-item-preserved : goal.loop-item-preserved
loop-item-preserved c e =
    omega (arith, passed_before (lies_in c.args.view.now.lo 1) (seen c.args.view.now) c.args.items.now c.loop-item.item-index 0 (Var (record { 0 = 0 })) c.loop-item-test.true (c.has_first_alone.ensures c.if-not-has_first_alone.false) (omega arith))

pub returns-then-met : goal.returns-then-met
returns-then-met c e =
    crowd_of_two (seen c.args.view.now) c.args.items.now c.args.view.now.lo c.loop-item.item-index (Var (record { 0 = 0 })) c.loop-item-test.true (c.has_first_alone.ensures c.if-not-has_first_alone.false) (c.loop-item.invariant c.if-met.true)
