use Rattle.std.proofs.Common.{◌≡◌, ◌≤◌, ◌∙◌, length, ap, arith}
use Rattle.qc_model.specs.Content.{Game}
use Rattle.qc_model.specs.Game.{before}
use Rattle.search_kept.proofs.Knowing.{like_here}
use Rattle.search_kept.proofs.resemblance.is_like_itself.Goals as goal

pub returns : goal.returns
returns c =
    let l = c.args.level.now in
    let g = l.problem.now in
    let b = c.args.remains.now in
    let size : length b.store.box ≡ length g.variables = c.known.ensures.size ∙ ap (λ (k : Game). length k.variables) c.requires.here.game in
    let few : before g l.number ≤ length b.store.box = omega (arith, size, l.rises, l.stop_within, l.has_from) in
    λ e. like_here g l.number b c.requires.here c.known.ensures.declared few (c.is_fresh.ensures e)
