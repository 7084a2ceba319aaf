use Rattle.std.proofs.Common.{◌≡◌, ◌++◌, drop, map}
use Rattle.std.specs.Prelude.{codes, flat_map}
use Rattle.qc_model.specs.Canonical.{literal_text}
use Rattle.qc_print.proofs.arguments.put_other_literals.Given as goal

abbrev pub invariant-loop-number : goal.invariant-loop-number
invariant-loop-number l =
    l.out.items ++ flat_map (λ u. codes "," ++ u) (map (literal_text l.sort) (drop l.number-index l.numbers))
    ≡ l.fn.out.items ++ flat_map (λ u. codes "," ++ u) (map (literal_text l.sort) l.numbers)
