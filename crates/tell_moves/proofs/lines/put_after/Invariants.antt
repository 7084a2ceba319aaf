use Rattle.std.proofs.Common.{◌≡◌, ◌++◌, drop, codes, flat_map}
use Rattle.std.specs.Fmt.{signed_decimal}
use Rattle.tell_moves.proofs.lines.put_after.Given as goal

abbrev pub invariant-loop-value : goal.invariant-loop-value
invariant-loop-value l =
    l.out.items ++ flat_map (λ u. codes " " ++ signed_decimal u) (drop l.value-index l.values) ≡ l.fn.out.items ++ flat_map (λ u. codes " " ++ signed_decimal u) l.values
