use Rattle.std.proofs.Common.{◌∙◌, ◌||◌, sym, ap, not, Bool, ℕ}
use Rattle.qc_model.specs.Domains.{is_single, values_left}
use Rattle.dense_tree.specs.Alike.{each_below, is_read}
use Rattle.dense_alike.proofs.Below.{below_fails, test_fails}
use Rattle.dense_alike.proofs.leasts.is_read_once.Goals as goal

pub returns-then-is_read : goal.returns-then-is_read
returns-then-is_read c =
    let p : ℕ → Bool = λ x. not (is_read c.args.reads.now c.args.i.0 x) || is_single (values_left c.args.store.now.box x) in
    sym (ap (λ n. each_below n p) (sym c.requires.first) ∙ below_fails p c.args.first c.loop-k.k c.loop-k-test.true (test_fails _ _ (sym c.is_read.ensures ∙ c.if-is_read.true) (sym c.is_fixed.ensures ∙ c.if-not-is_fixed.true)))
