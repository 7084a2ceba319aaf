use Rattle.std.proofs.Common.{rules}
use Rattle.std.proofs.lemmas.Int.{to_z-of_z}
use mir.Val.{SFits}
use mir.Syntax.{w64}
use Rattle.dense_check.proofs.Turning.{takes_part, takes_node, takes_named, takes_body, takes_case, takes_ranged, takes_first, ready_after}
use Rattle.dense_check.proofs.machine.DenseMachine.take.Goals as goal

pub returns-in-Given-clause-goes : goal.returns-in-Given-clause-goes
returns-in-Given-clause-goes c = takes_first c.first_line.result c.args.self.now c.first_line.new.self c.args.tuple.now c.args.line c.in-Given.is c.first_line.ensures.goes

pub returns-in-Given-clause-ready : goal.returns-in-Given-clause-ready
returns-in-Given-clause-ready c = ready_after c.first_line.result c.args.self.now c.first_line.new.self c.args.tuple.now c.args.line c.requires.few c.requires.ready (returns-in-Given-clause-goes c)

pub returns-in-Node-clause-goes : goal.returns-in-Node-clause-goes
returns-in-Node-clause-goes c = takes_node c.node_line.result c.args.self.now c.node_line.new.self c.args.tuple.now c.args.line c.in-Node.e c.in-Node.is c.node_line.ensures.goes

pub returns-in-Node-clause-ready : goal.returns-in-Node-clause-ready
returns-in-Node-clause-ready c = ready_after c.node_line.result c.args.self.now c.node_line.new.self c.args.tuple.now c.args.line c.requires.few c.requires.ready (returns-in-Node-clause-goes c)

pub returns-in-Named-clause-goes : goal.returns-in-Named-clause-goes
returns-in-Named-clause-goes c = takes_named c.named_body_line.result c.args.self.now c.named_body_line.new.self c.args.tuple.now c.args.line c.in-Named.e c.in-Named.is c.named_body_line.ensures.goes

pub returns-in-Named-clause-ready : goal.returns-in-Named-clause-ready
returns-in-Named-clause-ready c = ready_after c.named_body_line.result c.args.self.now c.named_body_line.new.self c.args.tuple.now c.args.line c.requires.few c.requires.ready (returns-in-Named-clause-goes c)

pub returns-in-Body-clause-goes : goal.returns-in-Body-clause-goes
returns-in-Body-clause-goes c = takes_body c.body_line.result c.args.self.now c.body_line.new.self c.args.tuple.now c.args.line c.in-Body.e c.in-Body.is c.body_line.ensures.goes

pub returns-in-Body-clause-ready : goal.returns-in-Body-clause-ready
returns-in-Body-clause-ready c = ready_after c.body_line.result c.args.self.now c.body_line.new.self c.args.tuple.now c.args.line c.requires.few c.requires.ready (returns-in-Body-clause-goes c)

pub returns-in-Part-clause-goes : goal.returns-in-Part-clause-goes
returns-in-Part-clause-goes c = takes_part c.part_line.result c.args.self.now c.part_line.new.self c.args.tuple.now c.args.line c.in-Part.bounded c.in-Part.is c.part_line.ensures.goes

pub returns-in-Part-clause-ready : goal.returns-in-Part-clause-ready
returns-in-Part-clause-ready c = ready_after c.part_line.result c.args.self.now c.part_line.new.self c.args.tuple.now c.args.line c.requires.few c.requires.ready (returns-in-Part-clause-goes c)

pub returns-in-Case-clause-goes : goal.returns-in-Case-clause-goes
returns-in-Case-clause-goes c = takes_case c.fork_line.result c.args.self.now c.fork_line.new.self c.args.tuple.now c.args.line c.in-Case.is c.fork_line.ensures.goes

pub returns-in-Case-clause-ready : goal.returns-in-Case-clause-ready
returns-in-Case-clause-ready c = ready_after c.fork_line.result c.args.self.now c.fork_line.new.self c.args.tuple.now c.args.line c.requires.few c.requires.ready (returns-in-Case-clause-goes c)

pub returns-in-Ranged-clause-goes : goal.returns-in-Ranged-clause-goes
returns-in-Ranged-clause-goes c =
    let high : SFits w64 c.in-Ranged.high = search rules in
    takes_ranged c.case_line.result c.args.self.now c.case_line.new.self c.args.tuple.now c.args.line c.in-Ranged.high c.in-Ranged.is (simp to_z-of_z at c.case_line.ensures.goes)

pub returns-in-Ranged-clause-ready : goal.returns-in-Ranged-clause-ready
returns-in-Ranged-clause-ready c = ready_after c.case_line.result c.args.self.now c.case_line.new.self c.args.tuple.now c.args.line c.requires.few c.requires.ready (returns-in-Ranged-clause-goes c)
