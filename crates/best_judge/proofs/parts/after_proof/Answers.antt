use Rattle.std.proofs.Common.{subst, ◌≤◌, ◌-◌, ◌^◌, drop, take, arith}
use Rattle.qc_model.specs.declared.problem.Kind.TheVariants.{Exists, Forall}
use Rattle.best_judge.specs.Parts.{IsShown, IsWithin}
use Rattle.best_judge.proofs.Lists.{both, second_fails, second_fault, text_of}
use Rattle.best_judge.proofs.parts.after_proof.Goals as goal

pub returns-in-Proved-clause-shown : goal.returns-in-Proved-clause-shown
returns-in-Proved-clause-shown c = λ won lost bytes le p q. both won lost c.args.many bytes le p (subst (IsShown lost (drop c.args.many bytes) Exists) c.in-Proved.is q)

pub returns-in-NotProved-clause-shown : goal.returns-in-NotProved-clause-shown
returns-in-NotProved-clause-shown c = λ won lost bytes le p q. second_fails won lost c.args.many bytes le p (subst (IsShown lost (drop c.args.many bytes) Exists) c.in-NotProved.is q)

pub returns-in-Fault-clause-shown : goal.returns-in-Fault-clause-shown
returns-in-Fault-clause-shown c = λ won lost bytes le p q.
    second_fault c.args.many c.in-Fault.at bytes le (text_of won (take c.args.many bytes) Forall p) (subst (IsShown lost (drop c.args.many bytes) Exists) c.in-Fault.is q)

pub returns-in-Fault-clause-within : goal.returns-in-Fault-clause-within
returns-in-Fault-clause-within c = let w : c.in-Fault.at ≤ 2 ^ 32 - c.args.many = subst (IsWithin (2 ^ 32 - c.args.many)) c.in-Fault.is c.requires.second in let m = c.requires.small in omega arith

pub overflow_add-result : goal.overflow_add-result
overflow_add-result c = let w : c.in-Fault.at ≤ 2 ^ 32 - c.args.many = subst (IsWithin (2 ^ 32 - c.args.many)) c.in-Fault.is c.requires.second in let m = c.requires.small in omega arith
