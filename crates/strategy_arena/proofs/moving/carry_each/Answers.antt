use Rattle.std.proofs.Common.{arith, get_or}
use Rattle.strategy_arena.specs.Short.{line_of, lines_of}
use Rattle.strategy_arena.specs.declared.short.Short.TheVariants.{Horizon}
use Rattle.strategy_arena.proofs.Shorts.{carried_all, stand_carried, no_shorter, stand_kept, stand_one, put_one, extends_twice, still_first, one_more_carried, none_carried, all_carried, begins_same, room_first}
use Rattle.strategy_arena.proofs.moving.carry_each.Goals as goal

pub loop-short-preserved : goal.loop-short-preserved
loop-short-preserved c =
    let i = c.loop-short.invariant in
    let grown = c.carry.ensures.grown in
    let known = c.args.known.now in
    let k = c.loop-short.short-index in
    let put = put_one _ _ grown _ _ c.in_ok-carried.carried (line_of known (get_or c.args.from.now k (Horizon 0))) i.stand c.push_reserved.ensures.items c.in_ok-carried.ensures.kept.0 in
    let before = c.loop-short-test.true in
    let room = i.room in
    let len = c.push_reserved.ensures.len in
    let capacity = c.push_reserved.ensures.capacity in
    record {
      put = one_more_carried known _ _ (lines_of c.args.wide.now.items c.args.lines.now.items) c.args.from.now k (Horizon 0) (omega (arith, before)) put i.put;
      stand = stand_one _ _ grown _ _ c.in_ok-carried.carried i.stand c.push_reserved.ensures.items c.in_ok-carried.ensures.kept.1;
      first = still_first _ _ _ c.in_ok-carried.carried i.first c.push_reserved.ensures.items;
      grown = extends_twice _ _ _ i.grown grown;
      room = omega (arith, room, len, capacity);
    }

pub returns-in_err-carried-clause-stand : goal.returns-in_err-carried-clause-stand
returns-in_err-carried-clause-stand c = stand_kept _ _ (no_shorter _ _ c.carry.ensures.grown) _ c.loop-short.invariant.stand

pub returns-then-known-eq0-clause-put : goal.returns-then-known-eq0-clause-put
returns-then-known-eq0-clause-put c =
    let none = c.if-known-eq0.true in
    carried_all c.args.known.now c.args.wide.now.items c.args.from.now c.args.lines.now.items _ (omega (arith, none)) c.requires.known c.in_ok-extend_from_slice.ensures.items

pub returns-then-known-eq0-clause-stand : goal.returns-then-known-eq0-clause-stand
returns-then-known-eq0-clause-stand c =
    let none = c.if-known-eq0.true in
    stand_carried c.args.known.now _ c.args.from.now c.args.lines.now.items _ (omega (arith, none)) c.requires.known c.requires.stand c.in_ok-extend_from_slice.ensures.items

pub loop-short-init : goal.loop-short-init
loop-short-init c = record {
  put = none_carried c.args.known.now (lines_of c.args.wide.now.items c.args.lines.now.items) c.args.from.now;
  stand = c.requires.stand;
  first = begins_same c.args.lines.now.items;
  grown = begins_same c.args.wide.now.items;
  room = room_first _ _ _ c.requires.room;
}

pub returns-clause-put : goal.returns-clause-put
returns-clause-put c = all_carried c.args.known.now _ (lines_of c.args.wide.now.items c.args.lines.now.items) c.args.from.now c.loop-short.short-index c.loop-short-test.false c.loop-short.invariant.put

pub returns-in_err-carried-clause-grown : goal.returns-in_err-carried-clause-grown
returns-in_err-carried-clause-grown c = extends_twice _ _ _ c.loop-short.invariant.grown c.carry.ensures.grown
