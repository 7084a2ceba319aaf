use Rattle.std.proofs.Common.{◌∙◌, sym, ap}
use Rattle.qc_model.specs.Domains.{has_empty}
use Rattle.box_laws.proofs.Declared.{declared_full}
use Rattle.check_box.proofs.Rooms.{room_at_first}
use Rattle.check_box.proofs.remains.Remains.new.Goals as goal

pub invariant_of-result : goal.invariant_of-result
invariant_of-result c =
    let first = c.in_ok-store.ensures in (
      sym (ap has_empty (c.reserve_trail.ensures.content ∙ first.0) ∙ declared_full c.args.problem.now c.known.ensures.domains),
      room_at_first c.in_ok-store.store c.reserve_trail.new.self c.count_values-values.result first.1 c.reserve_trail.ensures.content c.reserve_trail.ensures.past c.count_values-values.ensures.count c.in_ok-reserve_trail.ensures.reserved,
    )
