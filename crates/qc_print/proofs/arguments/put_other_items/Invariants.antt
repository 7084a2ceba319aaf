use Rattle.std.proofs.Common.{◌≡◌, ◌++◌, drop, map}
use Rattle.std.specs.Prelude.{codes, flat_map}
use Rattle.qc_model.specs.Canonical.{arg_text, literal_text}
use Rattle.qc_print.proofs.arguments.put_other_items.Given as goal

abbrev pub invariant-loop-item : goal.invariant-loop-item
invariant-loop-item l =
    l.out.items ++ flat_map (λ u. codes "," ++ u) (map (arg_text (literal_text l.sort) l.variables) (drop l.item-index l.items))
    ≡ l.fn.out.items ++ flat_map (λ u. codes "," ++ u) (map (arg_text (literal_text l.sort) l.variables) l.items)
