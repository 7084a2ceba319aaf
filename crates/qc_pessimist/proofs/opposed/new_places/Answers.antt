use Rattle.std.proofs.Common.{arith}
use Rattle.qc_pessimist.specs.Refusals.{is_chosen}
use Rattle.qc_pessimist.proofs.Steps.{places_step}
use Rattle.qc_pessimist.proofs.opposed.new_places.Goals as goal

pub loop-i-preserved : goal.loop-i-preserved
loop-i-preserved c =
    let few = c.loop-i.invariant.1 in
    let one = c.added_for.ensures.few in (
      places_step (is_chosen c.args.places) c.args.problem.now.scopes c.loop-i.i c.scope-scope.result.now c.chosen_wish.result
          c.loop-i.place c.added_for.result c.loop-i.table.items c.push.new.self.items _
          c.scope-scope.ensures c.loop-i.invariant.0 c.in_ok-push.ensures.items c.chosen_wish.ensures c.added_for.ensures.counts,
      omega arith,
    )
