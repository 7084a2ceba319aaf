use Rattle.std.proofs.Common.{◌-◌, ◌<◌, length, ap, inr, subst, arith}
use Rattle.dense_close.specs.Memory.{Memories, IsOneOf}
use Rattle.dense_close.proofs.Kept.{kept_at}
use Rattle.dense_close.proofs.memories.Memories.last.Goals as goal

pub returns : goal.returns
returns c =
    let v = c.self.inside in
    let i = c.made_by-used.result - 1 in
    let l : i < length v.kept.items = omega (arith, c.made_by-used.ensures, ap (λ (w : Memories). length w.kept) c.self.view_is, c.if-used-eq0.false) in
    subst (λ (w : Memories). IsOneOf c.index.result.now w) c.self.view_is (inr (kept_at v.kept.items i c.index.result.now l c.index.ensures))
