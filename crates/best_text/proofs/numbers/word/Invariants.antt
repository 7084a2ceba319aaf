use Rattle.std.proofs.Common.{◌≡◌, ◌++◌, take}
use Rattle.best_text.proofs.numbers.word.Given as goal

abbrev pub invariant-loop-next : goal.invariant-loop-next
invariant-loop-next l = take l.next-index l.wanted ++ l.rest ≡ l.bytes
