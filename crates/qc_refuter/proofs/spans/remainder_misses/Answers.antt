use Rattle.std.proofs.Common.{refl}
use Rattle.qc_refuter.proofs.Remainders.{all_miss, some_miss}
use Rattle.qc_refuter.proofs.spans.remainder_misses.Goals as goal

pub returns-in-None : goal.returns-in-None
returns-in-None c = all_miss c.args.b _ (c.in-None.ensures.none.0 refl)

pub returns-in-Some : goal.returns-in-Some
returns-in-Some c =
    let e = c.in-Some.ensures in
    some_miss c.args.a c.args.b c.args.c c.in-Some.remainders c.misses.result (λ z. let no = e.none.1 z in cc) e.lo e.hi c.misses.ensures
