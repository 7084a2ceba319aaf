use Rattle.box_laws.proofs.Readings.{box_size, read_numbers}
use Rattle.box_laws.proofs.laws.values_are_numbers.Goals as goal

pub returns-clause-sized : goal.returns-clause-sized
returns-clause-sized c = box_size

pub returns-clause-numbers : goal.returns-clause-numbers
returns-clause-numbers c = read_numbers
