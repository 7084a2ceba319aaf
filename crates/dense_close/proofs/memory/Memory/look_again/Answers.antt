use Rattle.std.proofs.Common.{◌<◌, ◌+◌, length, subst, arith, rules}
use Rattle.box_laws.proofs.Readings.{box_size}
use Rattle.fd_store.specs.Held.{past_box}
use Rattle.dense_close.specs.Memory.{IsUnchanged}
use Rattle.dense_close.proofs.Remembered.{seen_at_end, seen_more, seen_since, since_next}
use Rattle.dense_close.proofs.memory.Memory.look_again.Goals as goal

pub loop-n-init : goal.loop-n-init
loop-n-init c =
    let t = c.args.task.now in
    record { inside = c.requires.at; seen = seen_since t.taking t.problem.now c.args.self.now (past_box c.args.store.now c.args.at) c.args.store.now.box c.requires.seen }

pub overflow_cast-x : goal.overflow_cast-x
overflow_cast-x c =
    let g = c.args.task.now.problem.now in
    let x : c.changed_at-x.result < length g.variables = subst (λ n. c.changed_at-x.result < n) (box_size g c.args.store.now.box c.requires.declared) c.changed_at-x.ensures.var in
    let few = c.known.ensures.few_variables in
    search rules

pub look_at-requires : goal.look_at-requires
look_at-requires c =
    let g = c.args.task.now.problem.now in
    record {
      declared = c.requires.declared;
      full = c.requires.full;
      x = subst (λ n. c.changed_at-x.result < n) (box_size g c.args.store.now.box c.requires.declared) c.changed_at-x.ensures.var;
      variables = c.loop-n.invariant.seen.memory.variables;
    }

pub loop-n-preserved : goal.loop-n-preserved
loop-n-preserved c =
    let t = c.args.task.now in
    let g = t.problem.now in
    let h = c.args.store.now in
    let n = c.loop-n.n in
    let x = c.changed_at-x.result in
    record {
      inside = omega (arith, c.loop-n-test.true, c.mark-n-end.ensures);
      seen = seen_more t.taking g t.index.now t.index_is (IsUnchanged g (past_box h n) h.box) (IsUnchanged g (past_box h (n + 1)) h.box) x c.loop-n.self c.look_at.new.self h.box c.loop-n.invariant.seen c.look_at.ensures
          (since_next g x (past_box h n) (past_box h (n + 1)) h.box c.changed_at-x.ensures.others);
    }

pub returns : goal.returns
returns c =
    let t = c.args.task.now in
    seen_at_end t.taking t.problem.now c.loop-n.self c.args.store.now c.loop-n.n (omega (arith, c.loop-n-test.false, c.mark-n-end.ensures)) c.loop-n.invariant.seen
