use Rattle.std.proofs.Common.{◌≡◌, drop, flat_map}
use Rattle.text_resolve.specs.Names.{declared, first_word, argument_uses}
use Rattle.text_resolve.specs.Rules.{breaks}
use Rattle.text_resolve.proofs.walk.broken_in_arguments.Given as goal

abbrev pub invariant-loop-argument : goal.invariant-loop-argument
invariant-loop-argument l =
    let broken = breaks l.names.text.now (declared l.names.text.now l.names.items.now) l.rule in
    first_word broken (flat_map argument_uses (drop l.argument-index l.arguments)) ≡ first_word broken (flat_map argument_uses l.arguments)
