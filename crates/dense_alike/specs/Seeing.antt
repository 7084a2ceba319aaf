-- How constraints read, in the words of the code.
use Rattle.proof_alike.specs.Reading.{Reading, as_sum, as_plus, as_clause, by_value}
use Rattle.dense_alike.specs.declared.reading.Reading.{Reading as ReadingOfCode}
use Rattle.dense_alike.specs.declared.reading.Reading.TheVariants.{Sum, Plus, Clause, Value}

-- a reading of the code
abbrev pub read_as : ReadingOfCode → Reading
read_as Sum = as_sum
read_as Plus = as_plus
read_as Clause = as_clause
read_as Value = by_value
