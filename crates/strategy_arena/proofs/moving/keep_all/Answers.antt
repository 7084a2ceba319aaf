use Rattle.std.proofs.Common.{arith}
use Rattle.strategy_arena.proofs.Shorts.{stand_one, put_one, extends_twice, one_more_kept, all_kept}
use Rattle.proof_tree.specs.declared.line.Line.TheVariants.{Horizon as HorizonLine}
use Rattle.strategy_arena.proofs.moving.keep_all.Goals as goal

pub loop-line-preserved : goal.loop-line-preserved
loop-line-preserved c =
    let i = c.loop-line.invariant in
    let grown = c.keep.ensures.grown in
    let put = put_one _ _ grown _ _ c.in_ok-short.short _ i.stand c.in_ok-push.ensures.items c.in_ok-short.ensures.kept.0 in
    let before = c.loop-line-test.true in
    record {
      kept = one_more_kept _ _ c.args.lines.now c.loop-line.line-index (HorizonLine 0) (omega (arith, before)) put i.kept;
      stand = stand_one _ _ grown _ _ c.in_ok-short.short i.stand c.in_ok-push.ensures.items c.in_ok-short.ensures.kept.1;
      grown = extends_twice _ _ _ i.grown grown;
    }

pub returns-clause-kept : goal.returns-clause-kept
returns-clause-kept c = all_kept _ c.args.lines.now c.loop-line.line-index c.loop-line-test.false c.loop-line.invariant.kept

pub returns-in_err-short-clause-grown : goal.returns-in_err-short-clause-grown
returns-in_err-short-clause-grown c = extends_twice _ _ _ c.loop-line.invariant.grown c.keep.ensures.grown

pub returns-in_err-push-clause-grown : goal.returns-in_err-push-clause-grown
returns-in_err-push-clause-grown c = extends_twice _ _ _ c.loop-line.invariant.grown c.keep.ensures.grown
