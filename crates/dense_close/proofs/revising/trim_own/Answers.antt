use Rattle.std.proofs.Common.{◌<◌, sym, subst, length}
use Rattle.fd_store.specs.Held.{Held}
use Rattle.dense_close.proofs.Own.{own_within}
use Rattle.dense_close.proofs.revising.trim_own.Goals as goal

pub is_fixed-requires : goal.is_fixed-requires
is_fixed-requires c =
    let r = c.constraint-rule.result.now in
    subst (λ (h : Held). c.args.x.0 < length h.box) (sym c.store.ensures)
    (own_within c.args.task.now.problem.now c.known.ensures c.args.c.0 r c.args.remains.now.box c.constraint-rule.ensures c.requires.declared c.args.x.0 (c.requires.own r c.constraint-rule.ensures))
