use Rattle.std.proofs.Common.{◌∙◌, ◌+◌, sym, ap, drop, None}
use Rattle.qc_model.specs.Block.{of_kind}
use Rattle.proof_tree.specs.Place.{tracked_first}
use Rattle.dense_box.proofs.Tracking.{tracked_here}
use Rattle.dense_box.proofs.wishes.wish_of.Goals as goal

pub returns-in-Exists : goal.returns-in-Exists
returns-in-Exists c =
    let g = c.args.problem.now in
    let i = c.args.i.0 in
    c.first_wish.ensures ∙ sym (tracked_here g i c.args.list.now c.scope.result.now c.scope.ensures ∙ ap (λ k. of_kind k (tracked_first g (drop (i + 1) g.scopes) (i + 1) c.args.list.now) None) c.in-Exists.is)

pub returns-in-Forall : goal.returns-in-Forall
returns-in-Forall c =
    let g = c.args.problem.now in
    let i = c.args.i.0 in
    sym (tracked_here g i c.args.list.now c.scope.result.now c.scope.ensures ∙ ap (λ k. of_kind k (tracked_first g (drop (i + 1) g.scopes) (i + 1) c.args.list.now) None) c.in-Forall.is)
