use Rattle.std.proofs.Common.{arith, ◌≡◌}
use Rattle.std.proofs.lemmas.Grind.{common_steps}
use Rattle.fd_interval.proofs.Remainders.{only_holds, size_holds}
use Rattle.fd_interval.proofs.division.rem.Goals as goal

pub returns-then-are_single-clause-holds : goal.returns-then-are_single-clause-holds
returns-then-are_single-clause-holds c =
    let a : c.args.a.lo ≡ c.args.a.hi = grind (arith, common_steps) in
    let b : c.args.b.lo ≡ c.args.b.hi = grind (arith, common_steps) in
    only_holds c.args.a c.args.b c.only_remainder.result a b c.only_remainder.ensures.lo c.only_remainder.ensures.hi

pub returns-else-are_single-clause-holds : goal.returns-else-are_single-clause-holds
returns-else-are_single-clause-holds c = size_holds c.args.a c.args.b c.by_size.result c.by_size.ensures.lo c.by_size.ensures.hi
