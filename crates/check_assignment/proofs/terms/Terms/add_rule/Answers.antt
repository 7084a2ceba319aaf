use Rattle.check_assignment.proofs.Adding.{own_below, items_below}
use Rattle.check_assignment.proofs.terms.Terms.add_rule.Goals as goal

pub add_variables-requires : goal.add_variables-requires
add_variables-requires c =
    let own = own_below c.args.problem.now.variables c.args.rule.now c.requires.constraint in
    rw (c.requires.count, c.as_slice.ensures.value, c.in_ok-own-in-Other.ensures {u = tt}, c.arguments-args.ensures) own

pub add_items-requires : goal.add_items-requires
add_items-requires c =
    let own = items_below c.args.problem.now.variables c.args.rule.now 1 c.requires.constraint in
    rw (c.requires.count, c.items_at.ensures, c.arguments-args.ensures) own
