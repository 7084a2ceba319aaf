use Rattle.std.proofs.Common.{◌≡◌, length}
use Rattle.dense_close.proofs.having.Having.new.Given as goal

abbrev pub invariant-loop : goal.invariant-loop
invariant-loop l = length l.lists.items ≡ l.counter
