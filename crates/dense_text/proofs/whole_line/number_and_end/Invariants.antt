use Rattle.std.proofs.Common.{◌≡◌, ◌++◌, length}
use Rattle.lemma_text.specs.Numerals.{numeral_text, FitsNumeral}
use Rattle.dense_text.proofs.whole_line.number_and_end.Given as goal

-- the bytes before the rest are what was read of the number
abbrev pub invariant-loop-byte : goal.invariant-loop-byte
invariant-loop-byte l = record {
  fits : FitsNumeral l.field l.numeral;
  text : l.bytes ≡ numeral_text l.numeral ++ l.rest;
}

abbrev pub decreases-loop-byte : goal.decreases-loop-byte
decreases-loop-byte l = length l.rest
