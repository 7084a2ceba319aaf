use Rattle.std.proofs.Common.{◌∙◌, sym, ap, ◌+◌, drop}
use Rattle.qc_model.specs.Block.{of_kind, block_stop as block_stop_of}
use Rattle.model_levels.proofs.BlockLaws.{force_here}
use Rattle.model_levels.proofs.blocks.force_stop.Goals as goal

pub returns-in-Exists-clause-stop : goal.returns-in-Exists-clause-stop
returns-in-Exists-clause-stop c =
    let ss = c.args.problem.now.scopes in
    let i = c.args.i in
    c.block_stop.ensures.stop ∙ sym (force_here ss i c.args.kind c.requires.kind ∙ ap (λ k. of_kind k (block_stop_of (drop (i + 1) ss) (i + 1)) (i + 1)) c.in-Exists.is)

pub returns-in-Forall-clause-stop : goal.returns-in-Forall-clause-stop
returns-in-Forall-clause-stop c =
    let ss = c.args.problem.now.scopes in
    let i = c.args.i in
    sym (force_here ss i c.args.kind c.requires.kind ∙ ap (λ k. of_kind k (block_stop_of (drop (i + 1) ss) (i + 1)) (i + 1)) c.in-Forall.is)
