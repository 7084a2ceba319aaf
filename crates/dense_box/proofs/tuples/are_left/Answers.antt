use Rattle.std.proofs.Common.{sym, arith}
use Rattle.dense_box.proofs.Tupled.{miscounted}
use Rattle.dense_box.proofs.tuples.are_left.Goals as goal

pub returns-then-values-stop : goal.returns-then-values-stop
returns-then-values-stop c = sym (miscounted c.args.store.now.box c.args.from c.args.stop c.args.values.now c.requires.bound (λ e. omega (arith, e)))
