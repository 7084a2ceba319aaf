use Rattle.std.proofs.Common.{◌∙◌, sym}
use Rattle.prop_linear.proofs.Order.{none_twice}
use Rattle.prop_linear.proofs.repeats.is_any_twice.Goals as goal

pub returns-then-rise : goal.returns-then-rise
returns-then-rise c = sym (none_twice 0 c.args.items.now (sym c.rise.ensures ∙ c.if-rise.true))
