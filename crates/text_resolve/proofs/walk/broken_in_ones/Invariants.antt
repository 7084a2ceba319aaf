use Rattle.std.proofs.Common.{◌≡◌, drop, flat_map}
use Rattle.text_resolve.specs.Names.{declared, first_word, one_uses}
use Rattle.text_resolve.specs.Rules.{breaks}
use Rattle.text_resolve.proofs.walk.broken_in_ones.Given as goal

abbrev pub invariant-loop-one : goal.invariant-loop-one
invariant-loop-one l =
    let broken = breaks l.names.text.now (declared l.names.text.now l.names.items.now) l.rule in
    first_word broken (flat_map one_uses (drop l.one-index l.ones)) ≡ first_word broken (flat_map one_uses l.ones)
