use Rattle.std.proofs.Common.{◌-◌}
use Rattle.qc_model.specs.declared.problem.Arg.TheVariants.{Var}
use Rattle.qc_refuter.specs.Met.{seen}
use Rattle.qc_refuter.proofs.Terms.{open_at}
use Rattle.qc_refuter.proofs.SumPlaces.{last_within, less_within, most_first, most_second}
use Rattle.qc_refuter.proofs.sums.is_rather_below.Goals as goal

pub bounds-factors-k : goal.bounds-factors-k
bounds-factors-k c = last_within _ _ c.loop-k-test.true c.loop-k.invariant.factor

pub bounds-items-k : goal.bounds-items-k
bounds-items-k c = last_within _ _ c.loop-k-test.true c.loop-k.invariant.item

pub bounds-items-k-then-is_own : goal.bounds-items-k-then-is_own
bounds-items-k-then-is_own c = last_within _ _ c.loop-k-test.true c.loop-k.invariant.item

pub loop-k-init : goal.loop-k-init
loop-k-init c = record { factor = most_first _ _ _ c.min-k.ensures; item = most_second _ _ _ c.min-k.ensures }

pub loop-k-preserved : goal.loop-k-preserved
loop-k-preserved c = record { factor = less_within _ _ c.loop-k.invariant.factor; item = less_within _ _ c.loop-k.invariant.item }

pub shows_least-requires : goal.shows_least-requires
shows_least-requires c = open_at (seen c.args.view.now) c.args.items.now (c.loop-k.k - 1) (Var (record { 0 = 0 })) (last_within _ _ c.loop-k-test.true c.loop-k.invariant.item) c.requires
