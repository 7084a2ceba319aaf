use Rattle.std.proofs.Common.{◌≡◌, ◌++◌, drop}
use Rattle.tell_commands.specs.Opening.{named_lines}
use Rattle.tell_commands.proofs.opening.put_all.Given as goal

abbrev pub invariant-loop-k : goal.invariant-loop-k
invariant-loop-k l =
    l.out.items ++ named_lines (drop l.k l.variables) (drop l.k l.values) ≡ l.fn.out.items ++ named_lines l.variables l.values
