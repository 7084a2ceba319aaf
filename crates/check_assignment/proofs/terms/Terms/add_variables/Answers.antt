use Rattle.std.proofs.Common.{length, arith}
use Rattle.check_assignment.proofs.Adding.{place_at}
use Rattle.check_assignment.proofs.terms.Terms.add_variables.Goals as goal

pub push-requires : goal.push-requires
push-requires c =
    let e = c.loop-x.invariant.count in
    let h = place_at (length c.args.self.now) c.args.own.now c.loop-x.x-index (record { 0 = 0 }) c.loop-x-test.true c.requires in
    omega arith
