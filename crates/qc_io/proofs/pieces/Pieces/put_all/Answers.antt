use Rattle.std.proofs.Common.{rules, arith, refl, sym, append-nil}
use Rattle.qc_io.proofs.Known.{on_err, moves_none, moves_more, prefix_more, last_more, take_rest}
use Rattle.qc_io.proofs.pieces.Pieces.put_all.Goals as goal

pub loop-done-init : goal.loop-done-init
loop-done-init g c = record {
  bound = omega arith;
  moves = moves_none _ _ _ (sym (append-nil _));
  whole = (0, omega arith, search rules);
  faults = refl;
}

pub loop-done-preserved : goal.loop-done-preserved
loop-done-preserved g c = record {
  bound = search rules;
  moves = moves_more _ _ _ _ _ c.args.bytes.now _ _ c.loop-done.done c.in_ok-done.field-0 c.loop-done.invariant.moves c.in_ok-done.ensures.ok (take_rest c.args.bytes.now c.loop-done.done);
  whole = last_more _ _ _ _ _ c.loop-done.invariant.whole c.in_ok-done.ensures.whole;
  faults = search rules;
}

pub returns-in_err-done-clause-err : goal.returns-in_err-done-clause-err
returns-in_err-done-clause-err g c = on_err _ (prefix_more _ _ _ _ _ c.args.bytes.now _ c.loop-done.done c.loop-done.invariant.moves c.in_err-done.ensures.err (take_rest c.args.bytes.now c.loop-done.done))
