use Rattle.std.proofs.Common.{◌<◌, length, sym, subst}
use Rattle.model_arguments.proofs.Boxes.{some_left}
use Rattle.box_laws.proofs.Readings.{box_size}
use Rattle.qc_model.specs.Domains.{values_left}
use Rattle.dense_close.proofs.Remembered.{looked_anew, looked_same}
use Rattle.dense_close.proofs.memory.Memory.look_at.Goals as goal

pub is_as_seen-requires-clause-store : goal.is_as_seen-requires-clause-store
is_as_seen-requires-clause-store c = subst (λ n. c.args.x.0 < n) (sym (box_size c.args.task.now.problem.now c.args.store.now.box c.requires.declared)) c.requires.x

pub is_as_seen-requires-clause-some : goal.is_as_seen-requires-clause-some
is_as_seen-requires-clause-some c =
    let box = c.args.store.now.box in
    let x : c.args.x.0 < length box = subst (λ n. c.args.x.0 < n) (sym (box_size c.args.task.now.problem.now box c.requires.declared)) c.requires.x in
    some_left box c.args.x.0 c.requires.full x

pub sight_of-requires : goal.sight_of-requires
sight_of-requires c =
    let box = c.args.store.now.box in
    let x : c.args.x.0 < length box = subst (λ n. c.args.x.0 < n) (sym (box_size c.args.task.now.problem.now box c.requires.declared)) c.requires.x in
    record { x = x; some = some_left box c.args.x.0 c.requires.full x }

pub returns-then-not-is_as_seen : goal.returns-then-not-is_as_seen
returns-then-not-is_as_seen c =
    let t = c.args.task.now in
    looked_anew t.index.now.having c.args.x.0 c.sight_of.result (values_left c.args.store.now.box c.args.x.0) c.args.self.now c.see.new.self c.see.ensures c.sight_of.ensures

pub returns-else-not-is_as_seen : goal.returns-else-not-is_as_seen
returns-else-not-is_as_seen c =
    let t = c.args.task.now in
    looked_same t.index.now.having c.args.x.0 (values_left c.args.store.now.box c.args.x.0) c.args.self.now (c.is_as_seen.ensures c.if-not-is_as_seen.false)
