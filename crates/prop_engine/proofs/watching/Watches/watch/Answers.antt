use Rattle.std.proofs.Common.{◌<◌, length, sym, subst}
use Rattle.prop_engine.specs.declared.watching.Watch.{Watch}
use Rattle.prop_engine.specs.Watching.{AscendTo, AreRight}
use Rattle.prop_engine.proofs.Watched.{list_of, right_after, right_one, ascend_after}
use Rattle.prop_engine.proofs.watching.Watches.watch.Goals as goal

pub returns-clause-right : goal.returns-clause-right
returns-clause-right c a =
    let w : Watch = record { c = c.args.c; held_by = c.args.held_by } in
    let items = c.self.inside.lists.items in
    let game = c.args.problem.now in
    let o = sym c.self.view_is in
    let v = list_of items c.args.x.0 c.index_mut.result.now c.index_mut.result.now (subst (λ l. c.args.x.0 < length l) o c.requires.x) c.index_mut.ensures.value in
    right_after c.push.result game items c.args.x.0 w c.index_mut.result.now c.push.new.self c.push.ensures.ok c.push.ensures.err v
    (right_one game c.args.c.0 c.args.rule.now c.args.held_by c.args.x.0 c.requires.rule c.requires.held) (subst (AreRight game) o a)

pub returns-clause-order : goal.returns-clause-order
returns-clause-order c a =
    let w : Watch = record { c = c.args.c; held_by = c.args.held_by } in
    let items = c.self.inside.lists.items in
    let o = sym c.self.view_is in
    let v = list_of items c.args.x.0 c.index_mut.result.now c.index_mut.result.now (subst (λ l. c.args.x.0 < length l) o c.requires.x) c.index_mut.ensures.value in
    ascend_after c.push.result items c.args.x.0 w c.index_mut.result.now c.push.new.self c.push.ensures.ok c.push.ensures.err v (subst (AscendTo c.args.c.0) o a)
