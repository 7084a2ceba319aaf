use Rattle.std.proofs.Common.{arith}
use Rattle.text_resolve.specs.Names.{item_uses, declared, is_unknown}
use Rattle.text_resolve.proofs.Uses.{found_at, not_found_at}
use Rattle.text_resolve.proofs.unknown.first_unknown.Goals as goal

pub returns-in-Some : goal.returns-in-Some
returns-in-Some c =
    let unknown = is_unknown c.args.names.now.text.now (declared c.args.names.now.text.now c.args.names.now.items.now) in
    found_at unknown item_uses c.args.names.now.items.now c.loop-item.item-index c.item-item.result c.in-Some.at _ (omega arith) c.item-item.is c.in-Some.ensures c.loop-item.invariant

pub loop-item-preserved : goal.loop-item-preserved
loop-item-preserved c =
    let unknown = is_unknown c.args.names.now.text.now (declared c.args.names.now.text.now c.args.names.now.items.now) in
    not_found_at unknown item_uses c.args.names.now.items.now c.loop-item.item-index c.item-item.result _ (omega arith) c.item-item.is c.in_default.ensures c.loop-item.invariant
