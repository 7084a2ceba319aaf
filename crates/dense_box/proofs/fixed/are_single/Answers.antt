use Rattle.std.proofs.Common.{◌∙◌, sym, arith}
use Rattle.qc_model.specs.Domains.{is_single}
use Rattle.dense_box.proofs.Rows.{row_fails, row_goes, row_ends}
use Rattle.dense_box.proofs.fixed.are_single.Goals as goal

pub returns-then-not-is_fixed : goal.returns-then-not-is_fixed
returns-then-not-is_fixed c =
    sym (row_fails is_single c.args.store.now.box c.loop-k.k c.args.stop c.loop-k-test.true c.requires.bound (sym c.is_fixed.ensures ∙ c.if-not-is_fixed.true)) ∙ c.loop-k.invariant

pub loop-k-preserved : goal.loop-k-preserved
loop-k-preserved c =
    row_goes is_single c.args.store.now.box c.loop-k.k c.args.stop c.loop-k-test.true c.requires.bound (sym c.is_fixed.ensures ∙ c.if-not-is_fixed.false) ∙ c.loop-k.invariant

pub returns : goal.returns
returns c = sym (row_ends is_single c.args.store.now.box c.loop-k.k c.args.stop (omega arith)) ∙ c.loop-k.invariant
