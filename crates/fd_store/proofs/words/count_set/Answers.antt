use Rattle.std.proofs.Common.{◌+◌, ◌-◌, ◌*◌, ◌∙◌, ap, arith, get_or}
use Rattle.fd_store.proofs.Runs.{count_more, word_few}
use Rattle.fd_store.proofs.words.count_set.Goals as goal

pub overflow_add-n : goal.overflow_add-n
overflow_add-n c =
    let few = word_few (get_or c.args.words.now c.loop-w.w 0) (c.max.result - 64 * c.loop-w.w) (c.min.result - 64 * c.loop-w.w) in
    omega (arith, few, c.count_in_word-n.ensures, c.requires.small, c.loop-w.invariant.few)

pub loop-w-preserved : goal.loop-w-preserved
loop-w-preserved c =
    let w = c.loop-w.w in
    let few = word_few (get_or c.args.words.now w 0) (c.max.result - 64 * w) (c.min.result - 64 * w) in
    record {
      few = omega (arith, few, c.count_in_word-n.ensures, c.loop-w.invariant.few);
      same = ap (λ m. c.loop-w.n + m) c.count_in_word-n.ensures
          ∙ count_more c.args.words.now c.args.a c.args.e w c.loop-w.n _ _ c.requires.order (ap (λ m. m - 64 * w) c.max.ensures) (ap (λ m. m - 64 * w) c.min.ensures) (omega arith) (omega arith) c.loop-w.invariant.same;
    }
