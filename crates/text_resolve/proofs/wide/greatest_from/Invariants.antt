use Rattle.std.proofs.Common.{◌≡◌, drop}
use Rattle.qc_model.specs.Domains.{greatest_from}
use Rattle.text_resolve.specs.Numbers.{number_values}
use Rattle.text_resolve.proofs.wide.greatest_from.Given as goal

abbrev pub invariant-loop-number : goal.invariant-loop-number
invariant-loop-number l = greatest_from l.greatest (number_values (drop l.number-index l.numbers)) ≡ greatest_from l.first (number_values l.numbers)
