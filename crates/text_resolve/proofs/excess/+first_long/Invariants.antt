use Rattle.std.proofs.Common.{length}
use Rattle.text_resolve.proofs.excess.+first_long.Given as goal

abbrev pub decreases-first_long : goal.decreases-first_long
decreases-first_long l = length l.sorts.now
