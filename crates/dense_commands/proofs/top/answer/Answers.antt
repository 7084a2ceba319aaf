use Rattle.dense_commands.proofs.top.answer.Goals as goal

pub returns-in-Some-Solve-clause-wrote : goal.returns-in-Some-Solve-clause-wrote
returns-in-Some-Solve-clause-wrote g c = rw (← c.in-Some-Solve.ensures.asked, c.in-Some-Solve.field-0-is) c.solve_file.ensures.wrote

pub returns-in-Some-Decide-clause-wrote : goal.returns-in-Some-Decide-clause-wrote
returns-in-Some-Decide-clause-wrote g c = rw (← c.in-Some-Decide.ensures.asked, c.in-Some-Decide.field-0-is) c.decide_file.ensures.wrote

pub returns-in-Some-Check-clause-wrote : goal.returns-in-Some-Check-clause-wrote
returns-in-Some-Check-clause-wrote g c = rw (← c.in-Some-Check.ensures.asked, c.in-Some-Check.field-0-is) c.check_files.ensures.wrote
