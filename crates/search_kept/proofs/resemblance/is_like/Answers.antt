use Rattle.std.proofs.Common.{sym, subst, List, ℤ}
use Rattle.qc_model.specs.Content.{Game}
use Rattle.proof_tree.specs.Place.{position}
use Rattle.likeness.specs.Likeness.{SeenAlike}
use Rattle.likeness.proofs.Likes.{like_kept}
use Rattle.search_kept.proofs.resemblance.is_like.Goals as goal

pub returns-then-is_like_itself : goal.returns-then-is_like_itself
returns-then-is_like_itself c =
    let l = c.args.level.now in
    let g = l.problem.now in
    let i = l.number in
    let vs = c.args.values.now in
    let box = c.args.remains.now.store.box in
    λ e.
    let there = subst (λ (u : Game). SeenAlike u i vs c.values_before-here.result.now) (sym c.requires.game) (c.is_like.ensures e) in
    let seen = subst (λ (ws : List ℤ). SeenAlike g i vs ws) c.values_before-here.ensures there in
    like_kept g i vs (position g i box) box (c.is_like_itself.ensures c.if-is_like_itself.true) seen
