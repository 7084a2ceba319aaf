use Rattle.std.proofs.Common.{◌≡◌, drop}
use Rattle.text_resolve.specs.Numbers.{first_far}
use Rattle.text_resolve.proofs.far.first_far.Given as goal

abbrev pub invariant-loop-token : goal.invariant-loop-token
invariant-loop-token l = first_far (drop l.token-index l.tokens) ≡ first_far l.tokens
