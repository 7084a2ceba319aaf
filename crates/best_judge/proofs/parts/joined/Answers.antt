use Rattle.std.proofs.Common.{subst, ◌^◌, take}
use Rattle.qc_model.specs.declared.problem.Kind.TheVariants.{Forall}
use Rattle.best_judge.specs.Parts.{IsShown, IsWithin}
use Rattle.best_judge.specs.Proof.{in_first}
use Rattle.best_judge.proofs.parts.joined.Goals as goal

pub returns-in-Proved-clause-shown : goal.returns-in-Proved-clause-shown
returns-in-Proved-clause-shown c = λ won lost bytes le p q. c.after_proof.ensures.shown won lost bytes le (subst (IsShown won (take c.args.many bytes) Forall) c.in-Proved.is p) q

pub returns-in-NotProved-clause-shown : goal.returns-in-NotProved-clause-shown
returns-in-NotProved-clause-shown c = λ won lost bytes le p q. c.after_other.ensures.shown won lost bytes le (subst (IsShown won (take c.args.many bytes) Forall) c.in-NotProved.is p) q

pub returns-in-Fault-clause-shown : goal.returns-in-Fault-clause-shown
returns-in-Fault-clause-shown c = λ won lost bytes le p q. in_first (subst (IsShown won (take c.args.many bytes) Forall) c.in-Fault.is p)

pub returns-in-Fault-clause-within : goal.returns-in-Fault-clause-within
returns-in-Fault-clause-within c = subst (IsWithin (2 ^ 32)) c.in-Fault.is c.requires.first
