use Rattle.std.proofs.Common.{◌<◌, arith}
use Rattle.model_generated.specs.Links.{bases_of}
use Rattle.model_generated.proofs.Counted.{flat_step}
use Rattle.model_generated.proofs.figures.bases.Goals as goal

pub loop-customer-preserved : goal.loop-customer-preserved
loop-customer-preserved c =
    let below : c.loop-customer.customer < 13 = omega arith in
    rw c.in_ok-push_bases.ensures (flat_step (bases_of c.args.n) c.loop-customer.customer 13 c.loop-customer.numbers _ below c.loop-customer.invariant)
