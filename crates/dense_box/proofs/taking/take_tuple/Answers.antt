use Rattle.std.proofs.Common.{◌≤◌, ◌∙◌, length, arith}
use Rattle.box_laws.proofs.Readings.{box_size}
use Rattle.dense_box.proofs.Tupled.{taken_is}
use Rattle.dense_box.proofs.taking.take_tuple.Goals as goal

pub take_values-requires-clause-bound : goal.take_values-requires-clause-bound
take_values-requires-clause-bound c =
    omega (arith, box_size c.args.level.now.problem.now c.args.remains.now.box c.requires.declared, c.args.level.now.stop_within)

pub take_values-requires-clause-few : goal.take_values-requires-clause-few
take_values-requires-clause-few c =
    omega (arith, box_size c.args.level.now.problem.now c.args.remains.now.box c.requires.declared, c.known.ensures.few_variables)

pub returns-clause-content : goal.returns-clause-content
returns-clause-content c =
    let l = c.args.level.now in
    let box = c.args.remains.now.box in
    let within : l.stop ≤ length box = omega (arith, box_size l.problem.now box c.requires.declared, l.stop_within) in
    c.take_values.ensures.content ∙ taken_is l.problem.now l.number l.from l.stop c.args.values.now box l.has_from l.has_stop l.rises within c.requires.tuple
