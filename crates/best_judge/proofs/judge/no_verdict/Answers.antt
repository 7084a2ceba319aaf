use Rattle.std.proofs.Common.{subst, sym, ◌+◌, ◌++◌}
use Rattle.best_text.specs.Text.{head_text}
use Rattle.best_judge.specs.Parts.{AreShown}
use Rattle.best_judge.specs.Proof.{IsFaultOfBest}
use Rattle.best_judge.proofs.Verdicts.{none_asked_both, none_asked_not, fault_behind}
use Rattle.best_judge.proofs.judge.no_verdict.Goals as goal

pub returns-in-Proved : goal.returns-in-Proved
returns-in-Proved c = λ won lost many lists fits size none s. none_asked_both c.args.problem.now c.args.value many lists won lost fits none (subst (AreShown won lost many lists) c.in-Proved.is s)

pub returns-in-NotProved : goal.returns-in-NotProved
returns-in-NotProved c = λ won lost many lists fits size none s. none_asked_not c.args.problem.now c.args.value many lists won lost fits none (subst (AreShown won lost many lists) c.in-NotProved.is s)

pub returns-in-Fault : goal.returns-in-Fault
returns-in-Fault c = λ won lost many lists fits size none s.
    subst (λ k. IsFaultOfBest (k + c.in-Fault.at) (head_text c.args.value many ++ lists)) (sym size) (fault_behind c.args.value many c.in-Fault.at lists fits (subst (AreShown won lost many lists) c.in-Fault.is s))
