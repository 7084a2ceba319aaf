use Rattle.std.proofs.lemmas.Result.{IfOk-weaker}
use Rattle.search_box.proofs.Entering.{leads_further}
use Rattle.search_walk.proofs.Losing.{first_closed, on_ok}
use Rattle.search_walk.proofs.Remains.{goes_first}
use Rattle.search_walk.proofs.narrowing.narrow_first.Goals as goal

pub returns-clause-goes : goal.returns-clause-goes
returns-clause-goes c =
    let l = c.args.stage.now.level.now in
    IfOk-weaker c.close.result _ _ (λ closed answer. goes_first closed l.problem.now l.number l.from c.close.new.self l.has_from answer c.close.ensures.here) c.close.ensures.answer

pub returns-clause-told : goal.returns-clause-told
returns-clause-told c =
    let l = c.args.stage.now.level.now in
    let b = c.args.walk.now.remains in
    let m = c.bound_first.new.walk in
    on_ok c.close.result
    (λ s. first_closed l.problem.now l.number b.store.box m.remains.store.box c.close.new.self.store.box m.joins c.bound_first.new.walk.steps c.close.new.steps (c.in_ok-bound_first.ensures.told s) c.close.ensures.pruned c.close.ensures.on.fewer)

pub returns-clause-on : goal.returns-clause-on
returns-clause-on c = leads_further c.args.walk.now.remains c.bound_first.new.walk.remains c.close.new.self c.bound_first.ensures.on c.close.ensures.on
