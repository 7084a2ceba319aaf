use Rattle.std.proofs.Common.{arith}
use Rattle.proof_tree.specs.declared.line.Line.TheVariants.{Horizon as HorizonLine}
use Rattle.strategy_arena.specs.Short.{lines_of}
use Rattle.strategy_arena.proofs.Shorts.{no_shorter, stand_kept, stand_one, put_one, extends_twice, one_more_put, still_first, none_put, all_put, begins_same, room_first}
use Rattle.strategy_arena.proofs.moving.put_each.Goals as goal

pub loop-line-preserved : goal.loop-line-preserved
loop-line-preserved c =
    let i = c.loop-line.invariant in
    let grown = c.keep.ensures.grown in
    let put = put_one _ _ grown _ _ c.in_ok-short.short _ i.stand c.push_reserved.ensures.items c.in_ok-short.ensures.kept.0 in
    let before = c.loop-line-test.true in
    let room = i.room in
    let len = c.push_reserved.ensures.len in
    let capacity = c.push_reserved.ensures.capacity in
    record {
      put = one_more_put _ _ (lines_of c.args.wide.now.items c.args.lines.now.items) c.args.with.now c.loop-line.line-index (HorizonLine 0) (omega (arith, before)) put i.put;
      stand = stand_one _ _ grown _ _ c.in_ok-short.short i.stand c.push_reserved.ensures.items c.in_ok-short.ensures.kept.1;
      first = still_first _ _ _ c.in_ok-short.short i.first c.push_reserved.ensures.items;
      grown = extends_twice _ _ _ i.grown grown;
      room = omega (arith, room, len, capacity);
    }

pub returns-in_err-short-clause-stand : goal.returns-in_err-short-clause-stand
returns-in_err-short-clause-stand c = stand_kept _ _ (no_shorter _ _ c.keep.ensures.grown) _ c.loop-line.invariant.stand

pub loop-line-init : goal.loop-line-init
loop-line-init c = record {
  put = none_put (lines_of c.args.wide.now.items c.args.lines.now.items) c.args.with.now;
  stand = c.requires.stand;
  first = begins_same c.args.lines.now.items;
  grown = begins_same c.args.wide.now.items;
  room = room_first _ _ _ c.requires.room;
}

pub returns-clause-put : goal.returns-clause-put
returns-clause-put c = all_put _ (lines_of c.args.wide.now.items c.args.lines.now.items) c.args.with.now c.loop-line.line-index c.loop-line-test.false c.loop-line.invariant.put

pub returns-in_err-short-clause-grown : goal.returns-in_err-short-clause-grown
returns-in_err-short-clause-grown c = extends_twice _ _ _ c.loop-line.invariant.grown c.keep.ensures.grown
