use Rattle.std.proofs.Common.{subst, sym, ◌+◌, ◌++◌, ℤ, w64}
use Rattle.std.proofs.lemmas.Int.{to_z-of_z}
use Rattle.best_text.specs.Text.{head_text}
use Rattle.best_judge.specs.Parts.{AreShown}
use Rattle.best_judge.specs.Proof.{IsBestProof, IsFaultOfBest}
use Rattle.best_judge.proofs.Verdicts.{proved, not_both, fault_behind}
use Rattle.best_judge.proofs.judge.verdict_of.Goals as goal

pub returns-in-Proved : goal.returns-in-Proved
returns-in-Proved c = λ won lost many lists fits size a s.
    subst (λ (v : ℤ). IsBestProof c.args.problem.now (head_text c.args.value many ++ lists) v) (sym (to_z-of_z w64 c.args.value c.ranges.value))
    (proved c.args.problem.now c.args.value many lists won lost c.known.ensures c.optimum_by_two_games.ensures fits a (subst (AreShown won lost many lists) c.in-Proved.is s))

pub returns-in-NotProved : goal.returns-in-NotProved
returns-in-NotProved c = λ won lost many lists fits size a s. not_both c.args.problem.now c.args.value many lists won lost fits a (subst (AreShown won lost many lists) c.in-NotProved.is s)

pub returns-in-Fault : goal.returns-in-Fault
returns-in-Fault c = λ won lost many lists fits size a s.
    subst (λ k. IsFaultOfBest (k + c.in-Fault.at) (head_text c.args.value many ++ lists)) (sym size) (fault_behind c.args.value many c.in-Fault.at lists fits (subst (AreShown won lost many lists) c.in-Fault.is s))
