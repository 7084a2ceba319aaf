use Rattle.std.proofs.Common.{sym, subst, length}
use Rattle.fd_store.specs.Held.{Held}
use Rattle.dense_close.specs.Memory.{Memories, AreMemories, IsAsSeen}
use Rattle.dense_close.proofs.Kept.{present_anew}
use Rattle.dense_close.proofs.memories.Memories.end.Goals as goal

pub returns : goal.returns
returns c =
    let t = c.args.task.now in
    let g = t.problem.now in
    let v = c.self.inside in
    let were = subst (λ (w : Memories). AreMemories t.taking g w) (sym c.self.view_is) c.requires.memories in
    let seen = subst (λ (h : Held). IsAsSeen (length g.variables) t.taking g c.look_again.new.self h.box) c.store.ensures c.look_again.ensures in
    let own = c.settle.ensures c.args.remains.now.box c.requires.declared seen c.requires.keeps in
    λ m h. present_anew t.taking g v.present c.settle.new.self v.kept.items were own m (c.keep.ensures m h)
