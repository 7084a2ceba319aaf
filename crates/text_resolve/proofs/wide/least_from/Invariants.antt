use Rattle.std.proofs.Common.{◌≡◌, drop}
use Rattle.qc_model.specs.Domains.{least_from}
use Rattle.text_resolve.specs.Numbers.{number_values}
use Rattle.text_resolve.proofs.wide.least_from.Given as goal

abbrev pub invariant-loop-number : goal.invariant-loop-number
invariant-loop-number l = least_from l.least (number_values (drop l.number-index l.numbers)) ≡ least_from l.first (number_values l.numbers)
