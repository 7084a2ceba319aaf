use Rattle.std.proofs.Common.{inl, refl, sym, subst}
use Rattle.dense_close.specs.Memory.{Memories, AreMemories}
use Rattle.dense_close.proofs.Kept.{present_anew}
use Rattle.dense_close.proofs.memories.Memories.begin.Goals as goal

pub look-requires-clause-memory : goal.look-requires-clause-memory
look-requires-clause-memory c =
    let t = c.args.task.now in
    let g = t.problem.now in
    let were = subst (λ (w : Memories). AreMemories t.taking g w) (sym c.self.view_is) c.requires.memories in
    let now : AreMemories t.taking g c.restore.new.self = λ m h. were m (c.restore.ensures m h) in
    let here = subst (λ (w : Memories). AreMemories t.taking g w) (sym c.self-2.view_is) now in
    here c.self-2.inside.present (inl refl)

pub returns-clause-memories : goal.returns-clause-memories
returns-clause-memories c =
    let t = c.args.task.now in
    let g = t.problem.now in
    let were = subst (λ (w : Memories). AreMemories t.taking g w) (sym c.self.view_is) c.requires.memories in
    let now : AreMemories t.taking g c.restore.new.self = λ m h. were m (c.restore.ensures m h) in
    let here = subst (λ (w : Memories). AreMemories t.taking g w) (sym c.self-2.view_is) now in
    present_anew t.taking g c.self-2.inside.present c.look.new.self c.self-2.inside.kept.items here c.look.ensures.memory
