use Rattle.std.proofs.Common.{◌∙◌, ◌||◌, arith, sym, ap, not, Bool, ℕ}
use Rattle.qc_model.specs.Domains.{is_single, values_left}
use Rattle.dense_tree.specs.Alike.{each_below, is_read}
use Rattle.dense_alike.proofs.Below.{below_all, below_fails, test_fails, test_holds}
use Rattle.dense_alike.proofs.leasts.is_kept_once.Goals as goal

pub returns-then-not-is_single : goal.returns-then-not-is_single
returns-then-not-is_single c =
    let p : ℕ → Bool = λ x. not (is_read c.args.reads.now c.args.i.0 x) || is_single (values_left c.args.kept.now x) in
    sym (ap (λ n. each_below n p) (sym c.requires.first) ∙ below_fails p c.args.first c.loop-k.k c.loop-k-test.true (test_fails _ _ (sym c.is_read.ensures ∙ c.if-is_read.true) (sym c.is_single.ensures ∙ c.if-not-is_single.true)))

pub returns-then-first-fixed : goal.returns-then-first-fixed
returns-then-first-fixed c =
    let p : ℕ → Bool = λ x. not (is_read c.args.reads.now c.args.i.0 x) || is_single (values_left c.args.kept.now x) in
    sym
    (ap (λ n. each_below n p) (sym c.requires.first)
    ∙ below_all p c.args.first (λ x l. test_holds (is_read c.args.reads.now c.args.i.0 x) (is_single (values_left c.args.kept.now x)) (c.fixed.ensures x (omega (arith, l, c.if-first-fixed.true)))))
