use Rattle.std.proofs.Common.{arith}
use Rattle.text_resolve.specs.Names.{argument_uses, declared}
use Rattle.text_resolve.specs.Rules.{breaks}
use Rattle.text_resolve.proofs.Uses.{found_at, not_found_at}
use Rattle.text_resolve.proofs.walk.broken_in_arguments.Goals as goal

pub returns-in-Some : goal.returns-in-Some
returns-in-Some c =
    let broken = breaks c.args.names.now.text.now (declared c.args.names.now.text.now c.args.names.now.items.now) c.args.rule in
    found_at broken argument_uses c.args.arguments.now c.loop-argument.argument-index c.argument-item.result c.in-Some.at _ (omega arith) c.argument-item.is c.in-Some.ensures c.loop-argument.invariant

pub loop-argument-preserved : goal.loop-argument-preserved
loop-argument-preserved c =
    let broken = breaks c.args.names.now.text.now (declared c.args.names.now.text.now c.args.names.now.items.now) c.args.rule in
    not_found_at broken argument_uses c.args.arguments.now c.loop-argument.argument-index c.argument-item.result _ (omega arith) c.argument-item.is c.in_default.ensures c.loop-argument.invariant
