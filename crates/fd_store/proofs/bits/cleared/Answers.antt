use Rattle.std.proofs.Common.{arith}
use Rattle.fd_store.proofs.Masks.{cleared_bit}
use Rattle.fd_store.proofs.bits.cleared.Goals as goal

pub returns : goal.returns
returns c = λ i h. cleared_bit c.args.word c.mask.result i _ (omega arith) h (c.mask.ensures i h)
