use Rattle.std.proofs.Common.{◌≡◌, ◌++◌, drop, map}
use Rattle.std.specs.Prelude.{codes, flat_map}
use Rattle.std.specs.Fmt.{signed_decimal}
use Rattle.qc_print.proofs.parts.put_others.Given as goal

abbrev pub invariant-loop-number : goal.invariant-loop-number
invariant-loop-number l =
    l.out.items ++ flat_map (λ u. codes "," ++ u) (map signed_decimal (drop l.number-index l.numbers))
    ≡ l.fn.out.items ++ flat_map (λ u. codes "," ++ u) (map signed_decimal l.numbers)
