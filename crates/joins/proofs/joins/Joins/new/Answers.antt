use Rattle.std.proofs.Common.{◌≤◌, ◌<◌, length, refl, ap, subst}
use Rattle.joins.proofs.ScopesJoined.{none_joined, joined_more, count_more, all_joined, at_goal, count_fits, number_fits, up_to}
use Rattle.joins.proofs.joins.Joins.new.Goals as goal

pub loop-i-init : goal.loop-i-init
loop-i-init c =
    let none = c.in_ok-joins.ensures.items in
    record { count = ap length none; each = none_joined c.args.problem.now c.in_ok-joins.joins.items none }

pub loop-i-preserved : goal.loop-i-preserved
loop-i-preserved c =
    let i = c.loop-i.invariant in
    let pushed = c.in_ok-push.ensures.items in
    record {
      count = count_more c.loop-i.joins.items c.push.new.self.items c.loop-i.i c.in_ok-join.join i.count pushed;
      each = joined_more c.args.problem.now c.loop-i.joins.items c.push.new.self.items c.loop-i.i c.in_ok-join.join i.count pushed i.each c.in_ok-join.ensures;
    }

pub new-requires-2-clause-lists : goal.new-requires-2-clause-lists
new-requires-2-clause-lists c = c.in_ok-demands.ensures

pub new-requires-2-clause-scope : goal.new-requires-2-clause-scope
new-requires-2-clause-scope c = up_to _ _ c.scopes-count.ensures

pub scope_join-requires-clause-lists : goal.scope_join-requires-clause-lists
scope_join-requires-clause-lists c = c.in_ok-demands.ensures

pub scope_join-requires-clause-scope : goal.scope_join-requires-clause-scope
scope_join-requires-clause-scope c = subst (λ n. c.loop-i.i < n) c.scopes-count.ensures c.loop-i-test.true

pub overflow_cast-count : goal.overflow_cast-count
overflow_cast-count c = record { fits = count_fits _ _ c.scopes-count.ensures c.known.ensures.few_scopes }

pub overflow_cast-i : goal.overflow_cast-i
overflow_cast-i c = record { fits = number_fits _ _ _ c.loop-i-test.true c.scopes-count.ensures c.known.ensures.few_scopes }

pub invariant_of-result : goal.invariant_of-result
invariant_of-result c =
    let i = c.loop-i.invariant in
    let all = c.scopes-count.ensures in
    record {
      joined = all_joined c.args.problem.now c.loop-i.joins.items c.loop-i.i c.scopes-count.result i.count c.loop-i.auto.i-end c.loop-i-test.false all i.each;
      at_goal = at_goal c.args.problem.now c.scopes-count.result c.in_ok-new.field-0 all c.in_ok-new.ensures.scope c.in_ok-new.ensures.stands;
      room = subst (λ n. n ≤ c.in_ok-new-2.field-0.list.capacity) all c.in_ok-new-2.ensures.room;
    }

pub returns : goal.returns
returns c = record { same = refl }
