use Rattle.std.proofs.Common.{◌≡◌, ◌<◌, ◌∙◌, ap, subst, arith, rules, suc, length, [], ◌∷◌, true, w64}
use Rattle.std.proofs.lemmas.Int.{to_z-of_z}
use Rattle.std.proofs.lemmas.Result.{IfOk-weaker}
use mir.Val.{SFits}
use Rattle.qc_model.specs.Content.{Game}
use Rattle.qc_model.specs.Domains.{Box}
use Rattle.qc_model.specs.Game.{before}
use Rattle.model_arguments.specs.Asked.{is_box_of}
use Rattle.proof_tree.specs.Cover.{box_to}
use Rattle.search_box.proofs.Entering.{entered_on, leads_further}
use Rattle.search_walk.specs.Narrowed.{NarrowTold, IsGivenUp}
use Rattle.search_walk.specs.declared.narrowing.GivenUp.{GivenUp}
use Rattle.search_walk.proofs.Losing.{closed_told, on_ok}
use Rattle.search_walk.proofs.Remains.{goes_next, was_closed, was_closed_more}
use Rattle.search_walk.proofs.narrowing.narrow.Goals as goal

pub returns-in_err-give_up-clause-on : goal.returns-in_err-give_up-clause-on
returns-in_err-give_up-clause-on c = leads_further c.args.walk.now.remains c.take.new.self c.give_up.new.walk.remains c.take.ensures.on c.give_up.ensures.on

pub close_after-requires-in-Values-clause-here : goal.close_after-requires-in-Values-clause-here
close_after-requires-in-Values-clause-here c =
    let l = c.args.stage.now.level.now in
    let lost = subst (λ (a : GivenUp). IsGivenUp a c.take.new.self.store.box c.give_up.new.walk.remains.store.box) c.in-Values.is c.in_ok-give_up.ensures.lost in
    entered_on l.problem.now l.number c.take.new.self c.give_up.new.walk.remains (c.take.ensures.here l.problem.now l.number c.requires.going.within.here) c.give_up.ensures.on lost.full

pub close_after-requires-clause-earlier : goal.close_after-requires-clause-earlier
close_after-requires-clause-earlier c =
    let l = c.args.stage.now.level.now in
    let b = c.args.walk.now.remains in
    let m = c.give_up.new.walk.remains in
    let fits : SFits w64 c.args.value = search rules in
    let content : c.take.new.self.store.box ≡ box_to b.store.box c.args.x.0 (c.args.value ∷ []) = simp to_z-of_z at c.in_ok-take.ensures.content in
    let declared = subst (λ (f : Game). is_box_of f b.store.box ≡ true) c.requires.going.within.here.game c.known-2.ensures.declared in
    let lost = subst (λ (a : GivenUp). IsGivenUp a c.take.new.self.store.box m.store.box) c.in-Nothing.is c.in_ok-give_up.ensures.lost in
    let on = leads_further b c.take.new.self m c.take.ensures.on c.give_up.ensures.on in
    was_closed l.problem.now l.number c.args.x c.args.value b m declared c.requires.going.closed on.fewer (lost ∙ content)

pub close_after-requires-in-Values-clause-earlier : goal.close_after-requires-in-Values-clause-earlier
close_after-requires-in-Values-clause-earlier c =
    let l = c.args.stage.now.level.now in
    let g = l.problem.now in
    let b = c.args.walk.now.remains in
    let m = c.give_up.new.walk.remains in
    let fits : SFits w64 c.args.value = search rules in
    let content : c.take.new.self.store.box ≡ box_to b.store.box c.args.x.0 (c.args.value ∷ []) = simp to_z-of_z at c.in_ok-take.ensures.content in
    let declared = subst (λ (f : Game). is_box_of f b.store.box ≡ true) c.requires.going.within.here.game c.known-2.ensures.declared in
    let lost = subst (λ (a : GivenUp). IsGivenUp a c.take.new.self.store.box m.store.box) c.in-Values.is c.in_ok-give_up.ensures.lost in
    was_closed_more g l.number c.in-Values.y (c.args.x ∷ []) lost.kept c.take.new.self m c.give_up.ensures.on.fewer lost.is_new
    (was_closed g l.number c.args.x c.args.value b c.take.new.self declared c.requires.going.closed c.take.ensures.on.fewer content)

pub returns-in-All-clause-on : goal.returns-in-All-clause-on
returns-in-All-clause-on c = leads_further c.args.walk.now.remains c.take.new.self c.give_up.new.walk.remains c.take.ensures.on c.give_up.ensures.on

pub returns-in-Nothing-clause-goes : goal.returns-in-Nothing-clause-goes
returns-in-Nothing-clause-goes c =
    let l = c.args.stage.now.level.now in
    let g = l.problem.now in
    let b = c.args.walk.now.remains in
    let w = c.requires.going.within in
    let fits : SFits w64 c.args.value = search rules in
    let content : c.take.new.self.store.box ≡ box_to b.store.box c.args.x.0 (c.args.value ∷ []) = simp to_z-of_z at c.in_ok-take.ensures.content in
    let size = c.known-2.ensures.size ∙ ap (λ (f : Game). length f.variables) w.here.game in
    let below : c.args.x.0 < before g (suc l.number) = subst (λ n. c.args.x.0 < n) l.has_stop c.requires.var in
    let inside : c.args.x.0 < length b.store.box = omega (arith, c.requires.var, l.stop_within, size) in
    let d = c.close_after.new.self in
    let on = leads_further c.take.new.self c.give_up.new.walk.remains d c.give_up.ensures.on c.close_after.ensures.on in
    IfOk-weaker c.close_after.result _ _ (λ closed answer. goes_next closed g l.number c.args.x.0 c.args.value b c.take.new.self d w below inside content (c.take.ensures.here g l.number w.here) on answer c.close_after.ensures.here) c.close_after.ensures.answer

pub returns-in-Nothing-clause-told : goal.returns-in-Nothing-clause-told
returns-in-Nothing-clause-told c =
    let l = c.args.stage.now.level.now in
    let g = l.problem.now in
    let b = c.args.walk.now.remains in
    let w = c.requires.going.within in
    let fits : SFits w64 c.args.value = search rules in
    let content : c.take.new.self.store.box ≡ box_to b.store.box c.args.x.0 (c.args.value ∷ []) = simp to_z-of_z at c.in_ok-take.ensures.content in
    on_ok c.close_after.result
    (λ before s.
    closed_told g l.number (box_to b.store.box c.args.x.0 (c.args.value ∷ [])) c.give_up.new.walk.remains.store.box c.close_after.new.self.store.box before c.give_up.new.walk.joins c.give_up.new.walk.steps c.close_after.new.steps
    (subst (λ (d : Box). NarrowTold g l.number d c.give_up.new.walk.remains.store.box before c.give_up.new.walk.joins c.give_up.new.walk.steps) content (c.in_ok-give_up.ensures.told before s)) c.close_after.ensures.pruned c.close_after.ensures.on.fewer)

pub returns-in-Nothing-clause-on : goal.returns-in-Nothing-clause-on
returns-in-Nothing-clause-on c =
    let b = c.args.walk.now.remains in
    leads_further b c.give_up.new.walk.remains c.close_after.new.self (leads_further b c.take.new.self c.give_up.new.walk.remains c.take.ensures.on c.give_up.ensures.on) c.close_after.ensures.on

pub returns-in-Values-clause-goes : goal.returns-in-Values-clause-goes
returns-in-Values-clause-goes c =
    let l = c.args.stage.now.level.now in
    let g = l.problem.now in
    let b = c.args.walk.now.remains in
    let w = c.requires.going.within in
    let fits : SFits w64 c.args.value = search rules in
    let content : c.take.new.self.store.box ≡ box_to b.store.box c.args.x.0 (c.args.value ∷ []) = simp to_z-of_z at c.in_ok-take.ensures.content in
    let size = c.known-2.ensures.size ∙ ap (λ (f : Game). length f.variables) w.here.game in
    let below : c.args.x.0 < before g (suc l.number) = subst (λ n. c.args.x.0 < n) l.has_stop c.requires.var in
    let inside : c.args.x.0 < length b.store.box = omega (arith, c.requires.var, l.stop_within, size) in
    let d = c.close_after-in-Values.new.self in
    let on = leads_further c.take.new.self c.give_up.new.walk.remains d c.give_up.ensures.on c.close_after-in-Values.ensures.on in
    IfOk-weaker c.close_after-in-Values.result _ _ (λ closed answer. goes_next closed g l.number c.args.x.0 c.args.value b c.take.new.self d w below inside content (c.take.ensures.here g l.number w.here) on answer c.close_after-in-Values.ensures.here) c.close_after-in-Values.ensures.answer

pub returns-in-Values-clause-told : goal.returns-in-Values-clause-told
returns-in-Values-clause-told c =
    let l = c.args.stage.now.level.now in
    let g = l.problem.now in
    let b = c.args.walk.now.remains in
    let w = c.requires.going.within in
    let fits : SFits w64 c.args.value = search rules in
    let content : c.take.new.self.store.box ≡ box_to b.store.box c.args.x.0 (c.args.value ∷ []) = simp to_z-of_z at c.in_ok-take.ensures.content in
    on_ok c.close_after-in-Values.result
    (λ before s.
    closed_told g l.number (box_to b.store.box c.args.x.0 (c.args.value ∷ [])) c.give_up.new.walk.remains.store.box c.close_after-in-Values.new.self.store.box before c.give_up.new.walk.joins c.give_up.new.walk.steps c.close_after-in-Values.new.steps
    (subst (λ (d : Box). NarrowTold g l.number d c.give_up.new.walk.remains.store.box before c.give_up.new.walk.joins c.give_up.new.walk.steps) content (c.in_ok-give_up.ensures.told before s)) c.close_after-in-Values.ensures.pruned c.close_after-in-Values.ensures.on.fewer)

pub returns-in-Values-clause-on : goal.returns-in-Values-clause-on
returns-in-Values-clause-on c =
    let b = c.args.walk.now.remains in
    leads_further b c.give_up.new.walk.remains c.close_after-in-Values.new.self (leads_further b c.take.new.self c.give_up.new.walk.remains c.take.ensures.on c.give_up.ensures.on) c.close_after-in-Values.ensures.on
