use Rattle.std.proofs.Common.{◌≡◌, drop}
use Rattle.text_resolve.specs.Hidden.{universal_from, next_universal}
use Rattle.text_resolve.proofs.hidden.next_universal.Given as goal

abbrev pub invariant-loop-n : goal.invariant-loop-n
invariant-loop-n l = universal_from l.n (drop l.n l.kinds) ≡ next_universal l.kinds l.i
