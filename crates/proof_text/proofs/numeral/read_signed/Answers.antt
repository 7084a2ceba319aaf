use Rattle.proof_text.proofs.Numerals.{zero_done}
use Rattle.proof_text.proofs.numeral.read_signed.Goals as goal

pub returns-then-byte-end : goal.returns-then-byte-end
returns-then-byte-end c = zero_done c.args.most c.args.end c.args.byte c.args.so_far c.in-Zero.is c.if-byte-end.true
