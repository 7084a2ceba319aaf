use Rattle.std.proofs.Common.{◌≡◌, drop, flat_map}
use Rattle.text_resolve.specs.Names.{declared, first_word, is_unknown, item_uses}
use Rattle.text_resolve.proofs.unknown.first_unknown.Given as goal

abbrev pub invariant-loop-item : goal.invariant-loop-item
invariant-loop-item l =
    let unknown = is_unknown l.names.text.now (declared l.names.text.now l.names.items.now) in
    first_word unknown (flat_map item_uses (drop l.item-index l.names.items.now)) ≡ first_word unknown (flat_map item_uses l.names.items.now)
