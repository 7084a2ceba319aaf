use Rattle.tell_commands.proofs.top.answer.Goals as goal

pub returns-in-Some-First-clause-wrote : goal.returns-in-Some-First-clause-wrote
returns-in-Some-First-clause-wrote g c = rw (← c.in-Some-First.ensures.asked, c.in-Some-First.field-0-is) c.begin_files.ensures.wrote

pub returns-in-Some-Allowed-clause-wrote : goal.returns-in-Some-Allowed-clause-wrote
returns-in-Some-Allowed-clause-wrote g c = rw (← c.in-Some-Allowed.ensures.asked, c.in-Some-Allowed.field-0-is) c.list_files.ensures.wrote

pub returns-in-Some-Hopeful-clause-wrote : goal.returns-in-Some-Hopeful-clause-wrote
returns-in-Some-Hopeful-clause-wrote g c = rw (← c.in-Some-Hopeful.ensures.asked, c.in-Some-Hopeful.field-0-is) c.solve_file.ensures.wrote

pub returns-in-Some-Sure-clause-wrote : goal.returns-in-Some-Sure-clause-wrote
returns-in-Some-Sure-clause-wrote g c = rw (← c.in-Some-Sure.ensures.asked, c.in-Some-Sure.field-0-is) c.oppose_file.ensures.wrote
