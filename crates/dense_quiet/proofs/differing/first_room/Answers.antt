use Rattle.std.proofs.Common.{[], get_or, arith}
use Rattle.dense_quiet.specs.declared.differing.Ends.{Ends}
use Rattle.dense_quiet.proofs.differing.first_room.Goals as goal

pub returns-clause-alone : goal.returns-clause-alone
returns-clause-alone c = λ z ds v s h w k l.
    let e : Ends = record { low = 0; high = 0 } in
    c.loop-k.invariant k (omega (arith, c.loop-k-test.false, h.count, l)) e ds v (get_or ds k []) s (h.each k e l) w
