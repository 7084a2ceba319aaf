use Rattle.std.proofs.Common.{◌∙◌, codes}
use Rattle.std.proofs.lemmas.Result.{on_ok_weaker, on_err_weaker}
use Rattle.proof_tree.specs.Text.{outcome_text}
use Rattle.qc_io.proofs.Known.{on_err}
use Rattle.strategy_arena.proofs.Parts.{first_fails, both_put, second_fails}
use Rattle.strategy_arena.proofs.write.put_head.Goals as goal

pub returns-in_err-put_all-clause-err : goal.returns-in_err-put_all-clause-err
returns-in_err-put_all-clause-err g c = on_err _ (first_fails _ _ c.args.pieces.now (codes "qcert 2\n") (outcome_text c.args.outcome c.args.optimum) c.in_err-put_all.ensures.err)

pub returns-clause-ok : goal.returns-clause-ok
returns-clause-ok g c =
    on_ok_weaker _ (both_put _ _ _ c.args.pieces.now (codes "qcert 2\n") _ _ (outcome_text c.args.outcome c.args.optimum) _ c.in_ok-put_all.ensures.ok (c.as_bytes.ensures.value ∙ c.as_str.ensures.value ∙ c.spell_outcome.ensures))
    c.put_all-2.ensures.ok

pub returns-clause-err : goal.returns-clause-err
returns-clause-err g c =
    on_err_weaker _ (second_fails _ _ _ c.args.pieces.now (codes "qcert 2\n") _ _ (outcome_text c.args.outcome c.args.optimum) c.in_ok-put_all.ensures.ok (c.as_bytes.ensures.value ∙ c.as_str.ensures.value ∙ c.spell_outcome.ensures))
    c.put_all-2.ensures.err
