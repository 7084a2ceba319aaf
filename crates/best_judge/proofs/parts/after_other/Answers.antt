use Rattle.std.proofs.Common.{subst, ◌≤◌, ◌-◌, ◌^◌, drop, arith}
use Rattle.qc_model.specs.declared.problem.Kind.TheVariants.{Exists}
use Rattle.best_judge.specs.Parts.{IsShown, IsWithin}
use Rattle.best_judge.proofs.Lists.{first_fails, both_fail, second_fault}
use Rattle.best_judge.proofs.parts.after_other.Goals as goal

pub returns-in-Proved-clause-shown : goal.returns-in-Proved-clause-shown
returns-in-Proved-clause-shown c = λ won lost bytes le p q. first_fails won lost c.args.many bytes le p (subst (IsShown lost (drop c.args.many bytes) Exists) c.in-Proved.is q)

pub returns-in-NotProved-clause-shown : goal.returns-in-NotProved-clause-shown
returns-in-NotProved-clause-shown c = λ won lost bytes le p q. both_fail won lost c.args.many bytes le p (subst (IsShown lost (drop c.args.many bytes) Exists) c.in-NotProved.is q)

pub returns-in-Fault-clause-shown : goal.returns-in-Fault-clause-shown
returns-in-Fault-clause-shown c = λ won lost bytes le p q. second_fault c.args.many c.in-Fault.at bytes le p.text (subst (IsShown lost (drop c.args.many bytes) Exists) c.in-Fault.is q)

pub returns-in-Fault-clause-within : goal.returns-in-Fault-clause-within
returns-in-Fault-clause-within c = let w : c.in-Fault.at ≤ 2 ^ 32 - c.args.many = subst (IsWithin (2 ^ 32 - c.args.many)) c.in-Fault.is c.requires.second in let m = c.requires.small in omega arith

pub overflow_add-result : goal.overflow_add-result
overflow_add-result c = let w : c.in-Fault.at ≤ 2 ^ 32 - c.args.many = subst (IsWithin (2 ^ 32 - c.args.many)) c.in-Fault.is c.requires.second in let m = c.requires.small in omega arith
