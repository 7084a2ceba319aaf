use Rattle.std.proofs.Common.{◌∙◌, sym, ap, ◌+◌, drop}
use Rattle.qc_model.specs.Block.{of_kind, block_stop as block_stop_of}
use Rattle.model_levels.proofs.BlockLaws.{stop_here}
use Rattle.model_levels.proofs.blocks.block_stop.Goals as goal

pub returns-in-Forall-clause-stop : goal.returns-in-Forall-clause-stop
returns-in-Forall-clause-stop c =
    let ss = c.args.problem.now.scopes in
    let i = c.loop-at.at in
    sym (stop_here ss i c.scope.result.now c.scope.ensures ∙ ap (λ k. of_kind k (block_stop_of (drop (i + 1) ss) (i + 1)) i) c.in-Forall.is) ∙ c.loop-at.invariant

pub loop-at-preserved : goal.loop-at-preserved
loop-at-preserved c =
    let ss = c.args.problem.now.scopes in
    let i = c.loop-at.at in
    sym (stop_here ss i c.scope.result.now c.scope.ensures ∙ ap (λ k. of_kind k (block_stop_of (drop (i + 1) ss) (i + 1)) i) c.in-Exists.is) ∙ c.loop-at.invariant
