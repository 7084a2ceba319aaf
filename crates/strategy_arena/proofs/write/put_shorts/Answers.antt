use Rattle.std.proofs.Common.{rules, ap}
use Rattle.qc_io.proofs.Known.{on_err}
use Rattle.proof_tree.specs.Text.{line_text}
use Rattle.strategy_arena.specs.Short.{short_text}
use Rattle.strategy_arena.specs.declared.short.Short.TheVariants.{Horizon}
use Rattle.strategy_arena.proofs.Parts.{next_put, next_fails, moves_as, prefix_as}
use Rattle.strategy_arena.proofs.write.put_shorts.Goals as goal

pub loop-short-preserved : goal.loop-short-preserved
loop-short-preserved g c =
    let text = short_text c.args.wide.now in
    record {
      moves = next_put text _ _ _ c.args.pieces.now _ _ c.args.shorts.now c.loop-short.short-index (Horizon 0) c.loop-short-test.true c.loop-short.invariant.moves (moves_as _ _ _ _ _ _ (ap (λ x. line_text x) c.lengthen.ensures) c.in_ok-put_line.ensures.ok);
      faults = search rules;
    }

pub returns-in_err-put_line-clause-err : goal.returns-in_err-put_line-clause-err
returns-in_err-put_line-clause-err g c =
    on_err _ (next_fails (short_text c.args.wide.now) _ _ _ c.args.pieces.now _ c.args.shorts.now c.loop-short.short-index (Horizon 0) c.loop-short-test.true c.loop-short.invariant.moves (prefix_as _ _ _ _ _ (ap (λ x. line_text x) c.lengthen.ensures) c.in_err-put_line.ensures.err))
