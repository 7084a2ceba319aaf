use Rattle.std.proofs.Common.{subst, sym}
use Rattle.fd_store.specs.Held.{Held}
use Rattle.model_arguments.specs.Asked.{IsAsked}
use Rattle.dense_quiet.specs.Guessing.{IsKept}
use Rattle.dense_close.proofs.Cuts.{asked}
use Rattle.dense_close.proofs.Looked.{one_rule}
use Rattle.dense_close.proofs.advising.cut_beside.Goals as goal

pub kept_beside-kept-requires-clause-asked : goal.kept_beside-kept-requires-clause-asked
kept_beside-kept-requires-clause-asked c =
    let g = c.args.problem.now in
    subst (λ (h : Held). IsAsked g c.constraint-rule.result.now h.box) (sym c.store.ensures) (asked g c.known.ensures c.args.remains.now.box c.requires.declared c.requires.full c.args.c.0 c.constraint-rule.result.now c.constraint-rule.ensures)

pub cut_outside-requires-clause-told : goal.cut_outside-requires-clause-told
cut_outside-requires-clause-told c = λ sure.
    let r = c.constraint-rule.result.now in
    let s = c.kept_beside-kept.result.stretch in
    one_rule c.args.problem.now c.args.c.0 r c.constraint-rule.ensures (λ z. IsKept z c.args.x.0 c.args.remains.now.box s.low s.high)
    (subst (λ (h : Held). IsKept r c.args.x.0 h.box s.low s.high) c.store.ensures (c.kept_beside-kept.ensures sure))
