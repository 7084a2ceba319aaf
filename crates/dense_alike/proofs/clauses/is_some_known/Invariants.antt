use Rattle.std.proofs.Common.{◌≡◌, map, drop, not}
use Rattle.std.specs.List.{list_any}
use Rattle.proof_alike.specs.Alike.{is_looked_at}
use Rattle.proof_alike.specs.Reading.{is_known_as, known_value}
use Rattle.dense_alike.proofs.clauses.is_some_known.Given as goal

abbrev pub invariant-loop-item : goal.invariant-loop-item
invariant-loop-item l =
    list_any (is_known_as l.wanted) (map (known_value (λ x. not (is_looked_at l.reads l.i.0 x)) l.values) (drop l.item-index l.items))
    ≡ list_any (is_known_as l.wanted) (map (known_value (λ x. not (is_looked_at l.reads l.i.0 x)) l.values) l.items)
