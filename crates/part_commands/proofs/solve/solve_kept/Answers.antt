use Rattle.std.proofs.Common.{◌∙◌, ap, subst}
use Rattle.std.specs.Prelude.{IfNone, IfSome, IsTrue}
use Rattle.qc_model.specs.Domains.{has_empty}
use Rattle.game_search.specs.Pieces.{PieceLines, kept_box}
use Rattle.qecode_commands.proofs.Written.{Wrote-weaker}
use Rattle.part_commands.specs.Pieces.{piece_head}
use Rattle.part_commands.specs.View.{asked, keeps_seen}
use Rattle.part_commands.proofs.Answered.{emptied, piece_told}
use Rattle.part_commands.proofs.solve.solve_kept.Goals as goal

pub returns-in-Ok-None-clause-wrote : goal.returns-in-Ok-None-clause-wrote
returns-in-Ok-None-clause-wrote g c =
    Wrote-weaker _ _ _ _ c.finish.result _ _
    (emptied (asked c.args.command.now) c.args.problem.now c.args.keeps.now c.requires.named
    (subst (λ o. IfNone o (IsTrue (has_empty (kept_box c.args.problem.now c.args.keeps.now)))) c.in-Ok-None.field-0-is c.in-Ok-None.ensures.none))
    c.finish.ensures.wrote

pub returns-in-Ok-Some-clause-wrote : goal.returns-in-Ok-Some-clause-wrote
returns-in-Ok-Some-clause-wrote g c =
    let p = asked c.args.command.now in
    let k = c.args.problem.now in
    let head = c.as_slice-in-Ok-Some.ensures.value ∙ (c.in-Ok.ensures ∙ ap (λ ks. piece_head (keeps_seen ks) c.args.command.now.reached) c.as_slice.ensures.value) in
    let piece = subst (λ o. IfSome o (λ f. PieceLines k (kept_box k c.args.keeps.now) p.reached p.turns f.outcome f.optimum f.arena)) c.in-Ok-Some.field-0-is c.in-Ok-Some.ensures.solved in
    Wrote-weaker _ _ _ _ c.write_flat.result _ _ (piece_told p k c.args.keeps.now c.requires.named _ _ _ piece _ head) c.write_flat.ensures.wrote
