use Rattle.std.proofs.Common.{◌∙◌, ap, ◌≤◌, sym, subst, length, ◌<◌}
use Rattle.qc_model.specs.Domains.{has_empty}
use Rattle.prop_base.specs.Pruning.{is_just}
use Rattle.prop_base.proofs.Steps.{pruning_more}
use Rattle.prop_engine.specs.Closing.{is_between, IsRun}
use Rattle.prop_engine.proofs.Kept.{inside_first, inside_rest, between_below, kept_ran, kept_all, inside_exist, found_changed}
use Rattle.prop_engine.proofs.Rules.{pruning_of}
use Rattle.prop_engine.proofs.engine.next_change.Goals as goal

pub pop-requires-clause-exist : goal.pop-requires-clause-exist
pop-requires-clause-exist g c =
    let i = c.loop-c.invariant in
    inside_exist c.args.span.first c.args.span.end _ c.loop-c.list.queue (subst (λ n. c.args.span.end ≤ n) (sym i.count) c.requires.span) i.inside

pub returns-in_err-run_filter-clause-pruning : goal.returns-in_err-run_filter-clause-pruning
returns-in_err-run_filter-clause-pruning g c =
    let ok = is_between c.args.span.first c.args.span.end in
    let i = c.loop-c.invariant in
    let here = inside_first ok c.loop-c.list.queue c.pop.new.self.queue c.in-Some.c c.in-Some.ensures.some i.inside in
    pruning_more ok c.args.problem.now _ _ _ _ _ _ i.pruning (pruning_of ok c.in-Some.c.0 c.args.problem.now _ _ _ _ here c.run_filter.ensures.pruning)

pub returns-in-Emptied-clause-pruning : goal.returns-in-Emptied-clause-pruning
returns-in-Emptied-clause-pruning g c =
    let ok = is_between c.args.span.first c.args.span.end in
    let i = c.loop-c.invariant in
    let here = inside_first ok c.loop-c.list.queue c.pop.new.self.queue c.in-Some.c c.in-Some.ensures.some i.inside in
    pruning_more ok c.args.problem.now _ _ _ _ _ _ i.pruning (pruning_of ok c.in-Some.c.0 c.args.problem.now _ _ _ _ here c.run_filter.ensures.pruning)

pub returns-in-Changed-clause-pruning : goal.returns-in-Changed-clause-pruning
returns-in-Changed-clause-pruning g c =
    let ok = is_between c.args.span.first c.args.span.end in
    let i = c.loop-c.invariant in
    let here = inside_first ok c.loop-c.list.queue c.pop.new.self.queue c.in-Some.c c.in-Some.ensures.some i.inside in
    pruning_more ok c.args.problem.now _ _ _ _ _ _ i.pruning (pruning_of ok c.in-Some.c.0 c.args.problem.now _ _ _ _ here c.run_filter.ensures.pruning)

pub returns-in-Changed-clause-answer : goal.returns-in-Changed-clause-answer
returns-in-Changed-clause-answer g c =
    let ok = is_between c.args.span.first c.args.span.end in
    let game = c.args.problem.now in
    let i = c.loop-c.invariant in
    let d = c.in-Some.c in
    let a = subst (λ f. IsRun f (is_just d.0) game c.loop-c.store.box c.run_filter.new.store.box c.loop-c.steps c.run_filter.new.steps) c.in-Changed.is c.in_ok-run_filter.ensures.answer in
    let found = found_changed ok game d c.loop-c.list c.pop.new.self c.loop-c.store.box c.run_filter.new.store.box c.args.store.now.box i.content c.in-Some.ensures.others i.kept a.2 in
    (a.0, subst (λ l. length l < length c.run_filter.new.steps) i.same a.1, found)

pub run_filter-requires-clause-c : goal.run_filter-requires-clause-c
run_filter-requires-clause-c g c =
    let ok = is_between c.args.span.first c.args.span.end in
    between_below c.args.span.first c.args.span.end _ c.in-Some.c.0 c.requires.span (inside_first ok c.loop-c.list.queue c.pop.new.self.queue c.in-Some.c c.in-Some.ensures.some c.loop-c.invariant.inside)

pub loop-c-preserved : goal.loop-c-preserved
loop-c-preserved g c =
    let ok = is_between c.args.span.first c.args.span.end in
    let game = c.args.problem.now in
    let i = c.loop-c.invariant in
    let d = c.in-Some.c in
    let p = c.in-Some.ensures in
    let a = subst (λ f. IsRun f (is_just d.0) game c.loop-c.store.box c.run_filter.new.store.box c.loop-c.steps c.run_filter.new.steps) c.in-Stable.is c.in_ok-run_filter.ensures.answer in
    let here = inside_first ok c.loop-c.list.queue c.pop.new.self.queue d p.some i.inside in
    record {
      pruning = pruning_more ok game _ _ _ _ _ _ i.pruning (pruning_of ok d.0 game _ _ _ _ here c.run_filter.ensures.pruning);
      content = a.0 ∙ i.content;
      same = a.1 ∙ i.same;
      count = p.count ∙ i.count;
      waiting = p.waiting;
      inside = inside_rest ok c.loop-c.list.queue c.pop.new.self.queue d p.some i.inside;
      kept = kept_ran ok game d c.loop-c.list c.pop.new.self c.loop-c.store.box c.run_filter.new.store.box a.0 p.others i.kept a.2;
    }

pub returns-clause-answer : goal.returns-clause-answer
returns-clause-answer g c =
    let i = c.loop-c.invariant in
    (ap has_empty i.content ∙ c.requires.full, kept_all (is_between c.args.span.first c.args.span.end) c.args.problem.now c.loop-c.list c.loop-c.store.box c.in_default.ensures.none.0 i.waiting i.kept)
