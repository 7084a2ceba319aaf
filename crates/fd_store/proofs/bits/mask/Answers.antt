use Rattle.fd_store.proofs.Masks.{mask_bit}
use Rattle.fd_store.proofs.bits.mask.Goals as goal

pub returns : goal.returns
returns c = λ i h. mask_bit c.args.a c.args.e i c.requires.order c.requires.inside h
