use Rattle.search_scout.proofs.Going.{back_undone, few_left, within_box}
use Rattle.search_scout.proofs.diving.+dive.Goals as goal

pub step-smallest-requires-clause-bound : goal.step-smallest-requires-clause-bound
step-smallest-requires-clause-bound t c = let l = c.args.level.now in within_box l.problem.now _ _ l.stop c.requires.sound l.stop_within

pub step-smallest-requires-clause-few : goal.step-smallest-requires-clause-few
step-smallest-requires-clause-few t c = let l = c.args.level.now in few_left l.problem.now _ _ c.requires.sound c.known.ensures.few_variables

pub step-read_values-requires-clause-bound : goal.step-read_values-requires-clause-bound
step-read_values-requires-clause-bound t c = let l = c.args.level.now in within_box l.problem.now _ _ l.stop c.requires.sound l.stop_within

pub step-read_values-requires-clause-few : goal.step-read_values-requires-clause-few
step-read_values-requires-clause-few t c = let l = c.args.level.now in few_left l.problem.now _ _ c.requires.sound c.known.ensures.few_variables

pub with_value-returns-clause-back : goal.with_value-returns-clause-back
with_value-returns-clause-back t c =
    let d = c.args.ground.now in
    let e = c.below_value-outcome.new.ground in
    back_undone c.args.level.now.problem.now d.engine e.engine d.store e.store c.undo_to.new.self c.mark-mark.result.at c.requires.sound c.below_value-outcome.ensures.went c.mark-mark.ensures c.undo_to.ensures.past
