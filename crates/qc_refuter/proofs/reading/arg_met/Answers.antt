use Rattle.std.proofs.Common.{ap, sym, ◌∙◌, is_some}
use Rattle.qc_refuter.proofs.ReadAt.{one_there, one_open, none_there}
use Rattle.qc_refuter.specs.Met.{seen}
use Rattle.qc_refuter.proofs.reading.arg_met.Goals as goal

pub returns-in-Some-One-clause-left : goal.returns-in-Some-One-clause-left
returns-in-Some-One-clause-left c = one_there (seen c.args.view.now) c.args.args.now c.args.place c.in-Some-One.field-0.now c.in-Some-One.arg c.in-Some-One.ensures.lookup.0 c.in-Some-One.ensures.lookup.1 c.in-Some-One.field-0-is

pub returns-in-Some-One-clause-open : goal.returns-in-Some-One-clause-open
returns-in-Some-One-clause-open c = one_open (seen c.args.view.now) c.args.args.now c.args.place c.in-Some-One.field-0.now c.in-Some-One.arg c.in-Some-One.ensures.lookup.0 c.in-Some-One.ensures.lookup.1 c.in-Some-One.field-0-is c.requires

pub returns-in_default-2-clause-left : goal.returns-in_default-2-clause-left
returns-in_default-2-clause-left c = none_there (seen c.args.view.now) c.args.args.now c.args.place (sym c.get.ensures.lookup.0 ∙ ap is_some c.in_default.is)
