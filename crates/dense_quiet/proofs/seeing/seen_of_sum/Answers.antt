use Rattle.dense_quiet.proofs.PastRoom.{short_refuted}
use Rattle.dense_quiet.proofs.seeing.seen_of_sum.Goals as goal

pub returns-then-is_short : goal.returns-then-is_short
returns-then-is_short c = λ takes. short_refuted c.args.rule.now c.args.room c.args.store.now.box c.requires.tells (c.is_short.ensures.short c.if-is_short.true)
