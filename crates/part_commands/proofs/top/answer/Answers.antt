use Rattle.std.proofs.Common.{[], refl}
use Rattle.qc_io.proofs.Known.{Appends-nil}
use Rattle.part_commands.proofs.Asking.{memory_answered, may_run_out}
use Rattle.part_commands.proofs.top.answer.Goals as goal

pub returns-in-Ok-Some-clause-wrote : goal.returns-in-Ok-Some-clause-wrote
returns-in-Ok-Some-clause-wrote g c = rw (← c.in-Ok-Some.ensures.asked, c.in-Ok-Some.field-0-is) c.solve_file.ensures.wrote

pub returns-in-Err-clause-wrote : goal.returns-in-Err-clause-wrote
returns-in-Err-clause-wrote g c = (refl, ([], memory_answered _ _ _, Appends-nil _))

pub returns-in-Err-clause-memory : goal.returns-in-Err-clause-memory
returns-in-Err-clause-memory g c = λ _. may_run_out c.args.words.now _ c.in-Err.ensures.memory
