use Rattle.std.proofs.Common.{◌≡◌, ◌+◌, take, get_or, subst, arith}
use Rattle.std.proofs.lemmas.List.{take_all}
use Rattle.qc_refuter.specs.declared.stretches.Ends.{Ends}
use Rattle.qc_refuter.proofs.LowPlaces.{some_low}
use Rattle.qc_refuter.proofs.Seated.{AreUncrowded, began, none_seated, one_began, more_seated, crowd_seated, first_skips, fuller_skips}
use Rattle.qc_refuter.proofs.stretches.are_too_many.Goals as goal

pub loop-item-init : goal.loop-item-init
loop-item-init c = record {
  skips = first_skips c.open_stretches.new.free c.link_stretches.new.skips (omega (arith, c.open_stretches.ensures.length, c.link_stretches.ensures.length)) c.link_stretches.ensures.next;
  seated = none_seated c.args.items.now c.args.lows.now c.open_stretches.new.free c.last_low-top.result c.open_stretches.ensures.free c.last_low-top.ensures;
}

pub loop-item-preserved : goal.loop-item-preserved
loop-item-preserved c =
    let items = c.args.items.now in
    let lows = c.args.lows.now in
    let j = c.loop-item.item-index in
    let d : Ends = record { low = 0; high = 0 } in
    let h = c.loop-item-test.true in
    let s = c.loop-item.invariant.seated in
    record {
      skips = fuller_skips c.loop-item.free c.take_number.new.free c.stretch_from-stretch.new.skips c.take_number.ensures.length c.take_number.ensures.fewer c.stretch_from-stretch.ensures.skips;
      seated = more_seated items lows c.take_number.new.free j c.take_number.new.top d c.requires.items h (c.requires.placed j d h) s.none
          (c.take_number.ensures.taken c.if-not-take_number.false (began items j) (began items (j + 1)) (get_or items j d).low s.last (s.later j d (omega arith) h) (one_began items j d h) c.stretch_from-stretch.ensures.stretch s.room);
    }

pub returns-then-not-take_number-clause-crowd : goal.returns-then-not-take_number-clause-crowd
returns-then-not-take_number-clause-crowd c e =
    let items = c.args.items.now in
    let j = c.loop-item.item-index in
    let d : Ends = record { low = 0; high = 0 } in
    let h = c.loop-item-test.true in
    let s = c.loop-item.invariant.seated in
    let q = c.take_number.ensures.none c.if-not-take_number.true (began items j) (get_or items j d).low s.last c.stretch_from-stretch.ensures.stretch s.room in
    crowd_seated items c.args.lows.now j q.0 d c.requires.items h (c.requires.placed j d h) q.1 q.2

pub returns-clause-none : goal.returns-clause-none
returns-clause-none c e =
    let all : take c.loop-item.item-index c.args.items.now ≡ c.args.items.now = take_all c.loop-item.item-index c.args.items.now (omega arith) in
    subst (AreUncrowded c.args.lows.now) all c.loop-item.invariant.seated.none

pub returns-clause-crowd : goal.returns-clause-crowd
returns-clause-crowd c = λ e. cc

pub returns-then-not-take_number-clause-none : goal.returns-then-not-take_number-clause-none
returns-then-not-take_number-clause-none c = λ e. cc

pub stretch_from-stretch-requires-clause-some : goal.stretch_from-stretch-requires-clause-some
stretch_from-stretch-requires-clause-some c = some_low c.args.lows.now _ (c.requires.placed c.loop-item.item-index (record { low = 0; high = 0 }) c.loop-item-test.true)

pub take_number-requires-clause-small : goal.take_number-requires-clause-small
take_number-requires-clause-small c = (c.requires.placed c.loop-item.item-index (record { low = 0; high = 0 }) c.loop-item-test.true).small

pub take_number-requires-clause-open : goal.take_number-requires-clause-open
take_number-requires-clause-open c = c.stretch_from-stretch.ensures.stretch.next.left

pub stretch_from-stretch-requires-clause-skips : goal.stretch_from-stretch-requires-clause-skips
stretch_from-stretch-requires-clause-skips c = c.loop-item.invariant.skips
