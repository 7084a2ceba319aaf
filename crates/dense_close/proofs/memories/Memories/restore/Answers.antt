use Rattle.std.proofs.Common.{◌-◌, ◌<◌, length, sym, subst, arith}
use Rattle.qc_model.specs.Lists.{Among}
use Rattle.dense_close.specs.Memory.{Memory, Memories, IsAlike}
use Rattle.dense_close.proofs.Kept.{kept_at, kept_restored}
use Rattle.dense_close.proofs.memories.Memories.restore.Goals as goal

pub copy-requires : goal.copy-requires
copy-requires c =
    let v = c.self.inside in
    let l : v.used - 1 < length v.kept.items = omega (arith, c.self.invariant, c.if-self-gt0.true) in
    let alike = subst (λ (w : Memories). (m : Memory) → Among m w.kept → IsAlike w.present m) (sym c.self.view_is) c.requires.alike in
    record { alike = alike c.index.result.now (kept_at v.kept.items (v.used - 1) c.index.result.now l c.index.ensures) }

pub returns-then-self-gt0 : goal.returns-then-self-gt0
returns-then-self-gt0 c =
    let v = c.self.inside in
    let l : v.used - 1 < length v.kept.items = omega (arith, c.self.invariant, c.if-self-gt0.true) in
    kept_restored c.args.self.now v.present c.copy.new.self c.index.result.now v.kept.items (v.used - 1) c.self.view_is l c.index.ensures c.copy.ensures
