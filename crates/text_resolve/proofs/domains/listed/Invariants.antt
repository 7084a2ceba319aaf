use Rattle.std.proofs.Common.{◌≡◌, take}
use Rattle.text_resolve.proofs.domains.listed.Given as goal

abbrev pub invariant-loop-value : goal.invariant-loop-value
invariant-loop-value l = l.numbers ≡ take l.value-index l.values
