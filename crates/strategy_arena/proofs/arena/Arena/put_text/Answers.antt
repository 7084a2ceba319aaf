use Rattle.std.proofs.Common.{◌++◌, codes, flat_map, refl}
use Rattle.std.proofs.lemmas.Result.{on_ok_weaker, on_err_weaker}
use Rattle.proof_tree.specs.Text.{line_text, outcome_text}
use Rattle.qc_io.proofs.Known.{on_err}
use Rattle.strategy_arena.proofs.Parts.{first_fails, both_put, second_fails}
use Rattle.strategy_arena.proofs.arena.Arena.put_text.Goals as goal

pub returns-in_err-put_head-clause-err : goal.returns-in_err-put_head-clause-err
returns-in_err-put_head-clause-err g c =
    on_err _ (first_fails _ _ c.args.pieces.now (codes "qcert 2\n" ++ outcome_text c.args.outcome c.args.optimum) (flat_map line_text c.args.self.now) c.in_err-put_head.ensures.err)

pub returns-clause-ok : goal.returns-clause-ok
returns-clause-ok g c =
    on_ok_weaker _ (both_put _ _ _ c.args.pieces.now (codes "qcert 2\n" ++ outcome_text c.args.outcome c.args.optimum) _ _ (flat_map line_text c.args.self.now) _ c.in_ok-put_head.ensures.ok refl)
    c.put_lines.ensures.ok

pub returns-clause-err : goal.returns-clause-err
returns-clause-err g c =
    on_err_weaker _ (second_fails _ _ _ c.args.pieces.now (codes "qcert 2\n" ++ outcome_text c.args.outcome c.args.optimum) _ _ (flat_map line_text c.args.self.now) c.in_ok-put_head.ensures.ok refl)
    c.put_lines.ensures.err
