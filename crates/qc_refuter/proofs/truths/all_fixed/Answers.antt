use Rattle.std.proofs.Common.{refl}
use Rattle.qc_model.specs.declared.problem.Arg.TheVariants.{Var}
use Rattle.qc_model.specs.Domains.{is_single}
use Rattle.qc_model.specs.Refuted.{left_to}
use Rattle.qc_refuter.specs.Met.{seen}
use Rattle.qc_refuter.proofs.Terms.{open_at}
use Rattle.qc_refuter.proofs.ItemWalks.{all_next, all_stop, all_end}
use Rattle.qc_refuter.proofs.truths.all_fixed.Goals as goal

pub is_fixed-requires : goal.is_fixed-requires
is_fixed-requires c = open_at (seen c.args.view.now) c.args.items.now c.loop-item.item-index (Var (record { 0 = 0 })) c.loop-item-test.true c.requires

pub loop-item-init : goal.loop-item-init
loop-item-init c = refl

pub loop-item-preserved : goal.loop-item-preserved
loop-item-preserved c = all_next is_single (left_to (seen c.args.view.now)) c.args.items.now c.loop-item.item-index (Var (record { 0 = 0 })) _ _ c.loop-item-test.true c.is_fixed.ensures c.if-not-is_fixed.false c.loop-item.invariant

pub returns-then-not-is_fixed : goal.returns-then-not-is_fixed
returns-then-not-is_fixed c = all_stop is_single (left_to (seen c.args.view.now)) c.args.items.now c.loop-item.item-index (Var (record { 0 = 0 })) _ _ c.loop-item-test.true c.is_fixed.ensures c.if-not-is_fixed.true c.loop-item.invariant

pub returns : goal.returns
returns c = all_end is_single (left_to (seen c.args.view.now)) c.args.items.now c.loop-item.item-index _ c.loop-item-test.false c.loop-item.invariant
