use Rattle.std.proofs.Common.{◌≡◌, ◌+◌, ◌-◌, ◌*◌, ◌/◌, ◌∙◌, max, min, refl, sym, subst, arith}
use Rattle.std.specs.Prelude.{pos, ◌+ℤ◌}
use Rattle.fd_store.specs.Takes.{Takes}
use Rattle.fd_store.proofs.Steps.{takes_start, takes_next}
use Rattle.fd_store.proofs.table.Table.clear.Goals as goal

pub loop-w-init : goal.loop-w-init
loop-w-init c =
    let q = c.requires in
    let a = c.args.a in
    let at : max a (min c.args.e (64 * (a / 64))) ≡ a = omega arith in
    record {
      takes = subst (λ m. Takes c.args.x (c.args.cell.base +ℤ pos a) (c.args.cell.base +ℤ pos (m - 1)) c.args.self.now c.args.self.now) (sym at)
          (takes_start c.args.self.now c.args.x c.args.cell a q.sound q.var q.at (omega arith));
      step = omega arith;
      var = q.var;
      at = q.at;
      same = record { base = refl; start = refl; width = refl; first = refl; end = refl };
      right = q.right;
    }

pub loop-w-preserved : goal.loop-w-preserved
loop-w-preserved c =
    let i = c.loop-w.invariant in
    let r = c.clear_word-left.ensures in
    let w = c.loop-w.w in
    let a = c.args.a in
    let e = c.args.e in
    let from : max a (min e (64 * w)) ≡ c.max.result = omega arith in
    let to : max a (min e (64 * (w + 1))) ≡ c.min.result = omega arith in
    let before : Takes c.args.x (c.args.cell.base +ℤ pos a) (c.args.cell.base +ℤ pos (c.max.result - 1)) c.args.self.now c.loop-w.self =
    subst (λ m. Takes c.args.x (c.args.cell.base +ℤ pos a) (c.args.cell.base +ℤ pos (m - 1)) c.args.self.now c.loop-w.self) from i.takes in
    record {
      takes = subst (λ m. Takes c.args.x (c.args.cell.base +ℤ pos a) (c.args.cell.base +ℤ pos (m - 1)) c.args.self.now c.clear_word-left.new.self) (sym to)
          (takes_next c.args.self.now c.loop-w.self c.clear_word-left.new.self c.args.x c.args.cell.base c.loop-w.left.base a c.max.result c.min.result
          c.requires.var (omega arith) (omega arith) (omega arith) i.same.base before r.takes);
      step = omega (arith, i.step, r.step);
      var = omega (arith, i.var, r.long);
      at = r.at;
      same = record {
        base = r.same.base ∙ i.same.base;
        start = r.same.start ∙ i.same.start;
        width = r.same.width ∙ i.same.width;
        first = r.same.first ∙ i.same.first;
        end = r.same.end ∙ i.same.end;
      };
      right = r.right;
    }
