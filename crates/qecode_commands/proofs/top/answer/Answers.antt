use Rattle.qecode_commands.proofs.top.answer.Goals as goal

pub returns-in-Some-Solve-clause-wrote : goal.returns-in-Some-Solve-clause-wrote
returns-in-Some-Solve-clause-wrote g c = rw (← c.in-Some-Solve.ensures.asked, c.in-Some-Solve.field-0-is) c.solve_file.ensures.wrote

pub returns-in-Some-Check-clause-wrote : goal.returns-in-Some-Check-clause-wrote
returns-in-Some-Check-clause-wrote g c = rw (← c.in-Some-Check.ensures.asked, c.in-Some-Check.field-0-is) c.check_files.ensures.wrote

pub returns-in-Some-Print-clause-wrote : goal.returns-in-Some-Print-clause-wrote
returns-in-Some-Print-clause-wrote g c = rw (← c.in-Some-Print.ensures.asked, c.in-Some-Print.field-0-is) c.print_file.ensures.wrote

pub returns-in-Some-Decide-clause-wrote : goal.returns-in-Some-Decide-clause-wrote
returns-in-Some-Decide-clause-wrote g c = rw (← c.in-Some-Decide.ensures.asked, c.in-Some-Decide.field-0-is) c.decide_file.ensures.wrote

pub returns-in-Some-Rewrite-clause-wrote : goal.returns-in-Some-Rewrite-clause-wrote
returns-in-Some-Rewrite-clause-wrote g c = rw (← c.in-Some-Rewrite.ensures.asked, c.in-Some-Rewrite.field-0-is) c.rewrite_file.ensures.wrote

pub returns-in-Some-Make-clause-wrote : goal.returns-in-Some-Make-clause-wrote
returns-in-Some-Make-clause-wrote g c = rw (← c.in-Some-Make.ensures.asked, c.in-Some-Make.field-0-is) c.solve_made.ensures.wrote

pub returns-in-Some-Show-clause-wrote : goal.returns-in-Some-Show-clause-wrote
returns-in-Some-Show-clause-wrote g c = rw (← c.in-Some-Show.ensures.asked, c.in-Some-Show.field-0-is) c.show_made.ensures.wrote

pub returns-in-Some-Oppose-clause-wrote : goal.returns-in-Some-Oppose-clause-wrote
returns-in-Some-Oppose-clause-wrote g c = rw (← c.in-Some-Oppose.ensures.asked, c.in-Some-Oppose.field-0-is) c.oppose_file.ensures.wrote

pub returns-in-Some-Restate-clause-wrote : goal.returns-in-Some-Restate-clause-wrote
returns-in-Some-Restate-clause-wrote g c = rw (← c.in-Some-Restate.ensures.asked, c.in-Some-Restate.field-0-is) c.restate_file.ensures.wrote

pub returns-in-Some-Play-clause-wrote : goal.returns-in-Some-Play-clause-wrote
returns-in-Some-Play-clause-wrote g c = rw (← c.in-Some-Play.ensures.asked, c.in-Some-Play.field-0-is) c.play_files.ensures.wrote

pub returns-in-Some-Compare-clause-wrote : goal.returns-in-Some-Compare-clause-wrote
returns-in-Some-Compare-clause-wrote g c = rw (← c.in-Some-Compare.ensures.asked, c.in-Some-Compare.field-0-is) c.compare_file.ensures.wrote
