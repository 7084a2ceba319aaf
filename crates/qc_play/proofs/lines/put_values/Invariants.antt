use Rattle.std.proofs.Common.{◌≡◌, ◌++◌, drop}
use Rattle.qc_play.specs.PlayText.{values_text}
use Rattle.qc_play.proofs.lines.put_values.Given as goal

abbrev pub invariant-loop-value : goal.invariant-loop-value
invariant-loop-value l = l.out.items ++ values_text (drop l.value-index l.values) ≡ l.fn.out.items ++ values_text l.values
