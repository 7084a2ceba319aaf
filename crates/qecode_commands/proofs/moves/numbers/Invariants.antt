use Rattle.std.proofs.Common.{◌≡◌, ◌++◌, drop}
use Rattle.qecode_commands.specs.Moves.{numbers_of, first_other}
use Rattle.qecode_commands.proofs.moves.numbers.Given as goal

-- the tokens so far are these numbers
abbrev pub invariant-loop-token : goal.invariant-loop-token
invariant-loop-token l = record {
  numbers : l.numbers.items ++ numbers_of (drop l.token-index l.tokens) ≡ numbers_of l.tokens;
  good : first_other (drop l.token-index l.tokens) ≡ first_other l.tokens;
}
