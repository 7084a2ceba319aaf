use Rattle.text_grammar.proofs.Stops.{problem_stops_nowhere, problem_or_stop, one_stop}
use Rattle.text_grammar.proofs.laws.others_stop_at_one_place.Goals as goal

pub returns-clause-nowhere : goal.returns-clause-nowhere
returns-clause-nowhere c = problem_stops_nowhere

pub returns-clause-somewhere : goal.returns-clause-somewhere
returns-clause-somewhere c = problem_or_stop

pub returns-clause-once : goal.returns-clause-once
returns-clause-once c = one_stop
