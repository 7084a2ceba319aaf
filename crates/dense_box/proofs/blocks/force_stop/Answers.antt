use Rattle.std.proofs.Common.{◌≡◌, ◌∙◌, sym, ap, ◌+◌, drop, length, arith}
use Rattle.std.proofs.lemmas.Bool.Decides.{nat_tests}
use Rattle.qc_model.specs.Block.{of_kind, block_stop}
use Rattle.model_levels.proofs.BlockLaws.{force_here}
use Rattle.dense_box.proofs.Stops.{with_goal, before_goal}
use Rattle.dense_box.proofs.blocks.force_stop.Goals as goal

pub returns-in-Forall : goal.returns-in-Forall
returns-in-Forall c =
    let g = c.args.level.now.problem.now in
    let i = c.args.level.now.number in
    sym (force_here g.scopes i c.args.level.now.kind c.args.level.now.has_kind ∙ ap (λ k. of_kind k (block_stop (drop (i + 1) g.scopes) (i + 1)) (i + 1)) c.in-Forall.is)

pub returns-then-next-scopes : goal.returns-then-next-scopes
returns-then-next-scopes c =
    let g = c.args.level.now.problem.now in
    let i = c.args.level.now.number in
    let last : c.args.level.now.block_end + 1 ≡ length g.scopes = grind (arith, nat_tests) in
    with_goal g i c.args.level.now.block_end c.args.level.now.is_scope c.args.level.now.has_end last
    ∙ sym (force_here g.scopes i c.args.level.now.kind c.args.level.now.has_kind ∙ ap (λ k. of_kind k (block_stop (drop (i + 1) g.scopes) (i + 1)) (i + 1)) c.in-Exists.is)

pub returns : goal.returns
returns c =
    let g = c.args.level.now.problem.now in
    let i = c.args.level.now.number in
    before_goal g i c.args.level.now.block_end c.args.level.now.is_scope c.args.level.now.has_end (λ last. grind (arith, nat_tests))
    ∙ sym (force_here g.scopes i c.args.level.now.kind c.args.level.now.has_kind ∙ ap (λ k. of_kind k (block_stop (drop (i + 1) g.scopes) (i + 1)) (i + 1)) c.in-Exists.is)
