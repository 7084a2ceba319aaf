use Rattle.std.proofs.Common.{◌∙◌, ◌-◌, sym, arith, length}
use Rattle.dense_box.specs.Standing.{is_passed}
use Rattle.dense_box.proofs.Scoped.{fails_before, all_later, zero_le}
use Rattle.dense_box.proofs.freedom.first_free.Goals as goal

pub returns-then-not-is_passed : goal.returns-then-not-is_passed
returns-then-not-is_passed c =
    let ms = c.args.standings.now in
    λ k h. fails_before is_passed ms (length ms - c.loop-back.back) (length ms - 1 - c.loop-back.back) _ (omega arith) (omega arith) c.loop-back.invariant (sym c.is_passed.ensures ∙ c.if-not-is_passed.true) k

pub returns : goal.returns
returns c =
    let ms = c.args.standings.now in
    λ k h. all_later is_passed ms (length ms - c.loop-back.back) k c.loop-back.invariant (omega arith) ∙ sym (zero_le k)
