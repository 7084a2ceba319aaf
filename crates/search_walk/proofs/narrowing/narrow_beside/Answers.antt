use Rattle.std.proofs.Common.{◌∙◌, ap, subst}
use Rattle.std.proofs.lemmas.Result.{IfOk-weaker}
use Rattle.qc_model.specs.Domains.{has_empty}
use Rattle.search_box.proofs.Entering.{entered_on, leads_further}
use Rattle.search_walk.specs.Narrowed.{IsGivenUp}
use Rattle.search_walk.specs.declared.narrowing.GivenUp.{GivenUp}
use Rattle.search_walk.proofs.Losing.{closed_told, on_ok}
use Rattle.search_walk.proofs.Remains.{goes_first}
use Rattle.search_walk.proofs.narrowing.narrow_beside.Goals as goal

pub close-requires : goal.close-requires
close-requires c =
    let l = c.args.stage.now.level.now in
    let b = c.args.walk.now.remains in
    let m = c.give_up.new.walk.remains in
    let lost = subst (λ (a : GivenUp). IsGivenUp a b.store.box m.store.box) c.in-Nothing.is c.in_ok-give_up.ensures.lost in
    entered_on l.problem.now l.number b m c.requires.here c.give_up.ensures.on (ap has_empty lost ∙ c.requires.here.full)

pub close-requires-in-Values : goal.close-requires-in-Values
close-requires-in-Values c =
    let l = c.args.stage.now.level.now in
    let b = c.args.walk.now.remains in
    let m = c.give_up.new.walk.remains in
    let lost = subst (λ (a : GivenUp). IsGivenUp a b.store.box m.store.box) c.in-Values.is c.in_ok-give_up.ensures.lost in
    entered_on l.problem.now l.number b m c.requires.here c.give_up.ensures.on lost.full

pub returns-in-Nothing-clause-goes : goal.returns-in-Nothing-clause-goes
returns-in-Nothing-clause-goes c =
    let l = c.args.stage.now.level.now in
    IfOk-weaker c.close.result _ _ (λ closed answer. goes_first closed l.problem.now l.number l.from c.close.new.self l.has_from answer c.close.ensures.here) c.close.ensures.answer

pub returns-in-Nothing-clause-told : goal.returns-in-Nothing-clause-told
returns-in-Nothing-clause-told c =
    let l = c.args.stage.now.level.now in
    let m = c.give_up.new.walk in
    on_ok c.close.result
    (λ before s. closed_told l.problem.now l.number c.args.walk.now.remains.store.box m.remains.store.box c.close.new.self.store.box before m.joins m.steps c.close.new.steps (c.in_ok-give_up.ensures.told before s) c.close.ensures.pruned c.close.ensures.on.fewer)

pub returns-in-Nothing-clause-on : goal.returns-in-Nothing-clause-on
returns-in-Nothing-clause-on c = leads_further c.args.walk.now.remains c.give_up.new.walk.remains c.close.new.self c.give_up.ensures.on c.close.ensures.on

pub returns-in-Values-clause-goes : goal.returns-in-Values-clause-goes
returns-in-Values-clause-goes c =
    let l = c.args.stage.now.level.now in
    let closed = c.close-in-Values in
    IfOk-weaker closed.result _ _ (λ a answer. goes_first a l.problem.now l.number l.from closed.new.self l.has_from answer closed.ensures.here) closed.ensures.answer

pub returns-in-Values-clause-told : goal.returns-in-Values-clause-told
returns-in-Values-clause-told c =
    let l = c.args.stage.now.level.now in
    let m = c.give_up.new.walk in
    let closed = c.close-in-Values in
    on_ok closed.result
    (λ before s. closed_told l.problem.now l.number c.args.walk.now.remains.store.box m.remains.store.box closed.new.self.store.box before m.joins m.steps closed.new.steps (c.in_ok-give_up.ensures.told before s) closed.ensures.pruned closed.ensures.on.fewer)

pub returns-in-Values-clause-on : goal.returns-in-Values-clause-on
returns-in-Values-clause-on c = leads_further c.args.walk.now.remains c.give_up.new.walk.remains c.close-in-Values.new.self c.give_up.ensures.on c.close-in-Values.ensures.on
