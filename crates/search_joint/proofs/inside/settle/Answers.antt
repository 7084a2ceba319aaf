use Rattle.std.proofs.Common.{sym, subst, List}
use Rattle.qc_model.specs.declared.problem.VarId.{VarId}
use Rattle.search_joint.specs.Inside.{IsSettled}
use Rattle.search_joint.proofs.Settling.{settled_cut}
use Rattle.search_joint.proofs.inside.settle.Goals as goal

pub returns-clause-settled : goal.returns-clause-settled
returns-clause-settled c = λ some.
    let x = c.args.x in
    let before = c.args.changed.now.items in
    let s = c.args.store.now in
    let t = c.narrow.new.store in
    let large = c.args.within.now.box in
    subst (λ (after : List VarId). IsSettled x.0 before after s.box t.box large) (sym c.in_ok-push.ensures.items)
    (settled_cut x before s t large c.size.result c.narrow.ensures.narrowed c.in_ok-narrow.ensures.among c.size.ensures some)
