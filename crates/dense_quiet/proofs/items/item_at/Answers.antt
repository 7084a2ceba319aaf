use Rattle.qc_model.specs.declared.problem.Arg.TheVariants.{Var}
use Rattle.dense_quiet.proofs.ItemRead.{past_items, item_read, read_open}
use Rattle.dense_quiet.proofs.items.item_at.Goals as goal

pub returns-then-k-items-clause-is : goal.returns-then-k-items-clause-is
returns-then-k-items-clause-is c = past_items c.args.items.now c.args.place c.ranges.place c.if-place-lt1.false c.if-k-items.true

pub returns-clause-is : goal.returns-clause-is
returns-clause-is c = item_read c.args.items.now c.args.place (Var (record { 0 = 0 })) c.ranges.place c.if-place-lt1.false c.if-k-items.false

pub returns-clause-open : goal.returns-clause-open
returns-clause-open c = read_open c.args.store.now.box c.args.items.now _ (Var (record { 0 = 0 })) c.if-k-items.false c.requires.items
