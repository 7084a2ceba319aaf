use Rattle.std.proofs.Common.{rules, ◌<◌, length, sym, subst}
use Rattle.model_arguments.proofs.Boxes.{some_left}
use Rattle.box_laws.proofs.Readings.{box_size}
use Rattle.dense_close.proofs.memory.Memory.next_unseen.Goals as goal

pub is_as_seen-requires-clause-store : goal.is_as_seen-requires-clause-store
is_as_seen-requires-clause-store c = subst (λ n. c.loop-x.x < n) (sym (box_size c.args.task.now.problem.now c.args.store.now.box c.requires.declared)) (search rules)

pub is_as_seen-requires-clause-some : goal.is_as_seen-requires-clause-some
is_as_seen-requires-clause-some c =
    let box = c.args.store.now.box in
    let x : c.loop-x.x < length box = subst (λ n. c.loop-x.x < n) (sym (box_size c.args.task.now.problem.now box c.requires.declared)) (search rules) in
    some_left box c.loop-x.x c.requires.full x
