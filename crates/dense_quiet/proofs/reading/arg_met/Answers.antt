use Rattle.std.proofs.Common.{ap, sym, ◌∙◌, is_some}
use Rattle.dense_quiet.proofs.ReadAt.{one_there, one_open, none_there}
use Rattle.dense_quiet.proofs.reading.arg_met.Goals as goal

pub returns-in-Some-One-clause-open : goal.returns-in-Some-One-clause-open
returns-in-Some-One-clause-open c = one_open c.args.store.now.box c.args.args.now c.args.place c.in-Some-One.field-0.now c.in-Some-One.arg c.in-Some-One.ensures.lookup.0 c.in-Some-One.ensures.lookup.1 c.in-Some-One.field-0-is c.requires

pub returns-in-Some-One-clause-is : goal.returns-in-Some-One-clause-is
returns-in-Some-One-clause-is c = one_there c.args.args.now c.args.place c.in-Some-One.field-0.now c.in-Some-One.arg c.in-Some-One.ensures.lookup.0 c.in-Some-One.ensures.lookup.1 c.in-Some-One.field-0-is

pub returns-in_default-2-clause-is : goal.returns-in_default-2-clause-is
returns-in_default-2-clause-is c = none_there c.args.args.now c.args.place (sym c.get.ensures.lookup.0 ∙ ap is_some c.in_default.is)
