use Rattle.fd_store.proofs.Masks.{picked_bit}
use Rattle.fd_store.proofs.bits.picked.Goals as goal

pub returns : goal.returns
returns c = λ i h. picked_bit c.args.word c.mask.result i _ (c.mask.ensures i h)
