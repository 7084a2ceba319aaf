use Rattle.qc_model.specs.declared.problem.Arg.TheVariants.{Var}
use Rattle.qc_model.specs.Refuted.{left_to}
use Rattle.qc_refuter.specs.Met.{seen}
use Rattle.qc_refuter.proofs.Terms.{open_at}
use Rattle.qc_refuter.proofs.ItemWalks.{odd_next, odd_end, one_word, twice_not, differ}
use Rattle.qc_refuter.proofs.truths.odd_least.Goals as goal

pub least-requires : goal.least-requires
least-requires c = open_at (seen c.args.view.now) c.args.items.now c.loop-item.item-index (Var (record { 0 = 0 })) c.loop-item-test.true c.requires

pub loop-item-init : goal.loop-item-init
loop-item-init c = twice_not _

pub loop-item-preserved : goal.loop-item-preserved
loop-item-preserved c =
    odd_next (left_to (seen c.args.view.now)) c.args.items.now c.loop-item.item-index (Var (record { 0 = 0 })) c.loop-item.odd _ _ _ c.loop-item-test.true (one_word c.least.result _ (record { sfits = c.least.type_inv }) c.least.ensures) (differ c.loop-item.odd _) c.loop-item.invariant

pub returns : goal.returns
returns c = odd_end (left_to (seen c.args.view.now)) c.args.items.now c.loop-item.item-index c.loop-item.odd _ c.loop-item-test.false c.loop-item.invariant
