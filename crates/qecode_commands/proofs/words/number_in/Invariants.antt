use Rattle.std.proofs.Common.{◌≡◌, ◌<◌, ◌^◌, drop}
use Rattle.qecode_commands.specs.Words.{digits_after}
use Rattle.qecode_commands.proofs.words.number_in.Given as goal

-- the digits so far wrote the number, which is as small as they are few
abbrev pub invariant-loop-digit : goal.invariant-loop-digit
invariant-loop-digit l = (digits_after 0 l.digits ≡ digits_after l.number (drop l.digit-index l.digits)) × (l.number < 10 ^ l.digit-index)
