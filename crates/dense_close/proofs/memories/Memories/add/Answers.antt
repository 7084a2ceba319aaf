use Rattle.std.proofs.Common.{sym, subst, List}
use Rattle.dense_quiet.specs.declared.taking.Taking.{Taking}
use Rattle.dense_close.specs.Memory.{Memory, Memories, AreMemories}
use Rattle.dense_close.proofs.Kept.{kept_more}
use Rattle.dense_close.proofs.memories.Memories.add.Goals as goal

pub returns : goal.returns
returns c =
    let g = c.args.problem.now in
    let v = c.self.inside in
    let were = subst (λ (w : Memories). (t : Taking) → AreMemories t g w) (sym c.self.view_is) c.requires in
    λ t.
    subst (λ (ks : List Memory). AreMemories t g (record { present = v.present; kept = ks })) (sym c.in_ok-push.ensures.items)
    (kept_more t g v.present c.in_ok-new.field-0 v.kept.items (were t) (c.in_ok-new.ensures t))
