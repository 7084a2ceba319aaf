use Rattle.std.proofs.Common.{◌≡◌, ◌∙◌, sym, ap, refl, length}
use Rattle.qc_model.specs.Content.{Game}
use Rattle.qc_model.specs.Demands.{demands}
use Rattle.qc_model.specs.ForallVerdict.{goal_verdict}
use Rattle.qc_model.specs.Game.{allows}
use Rattle.proof_tree.specs.Place.{position}
use Rattle.check_box.proofs.Placing.{position_placed}
use Rattle.qc_play.specs.Walk.{game_of}
use Rattle.qc_play.proofs.AtLevels.{all_values}
use Rattle.qc_play.proofs.Backs.{back_all}
use Rattle.qc_play.proofs.walk.Walk.goal.Goals as goal

pub returns-clause-back : goal.returns-clause-back
returns-clause-back c = back_all (game_of c.args.tables.now) c.args.i.0 c.args.self.now c.goal-found.new.self c.requires.within c.goal-found.ensures.same c.goal-found.ensures.all

pub returns-clause-shows : goal.returns-clause-shows
returns-clause-shows c =
    let t = c.args.tables.now in
    let g = game_of t in
    let w = c.args.self.now in
    let i = c.args.i.0 in
    let h = c.requires.within in
    let a = position g i w.remains.box in
    let b = c.goal_holds-holds.result in
    let all : w.values.items ≡ a = sym (all_values g i w.values.items c.requires.last t.levels.has_all h.each) ∙ sym (position_placed g i w.values.items w.remains.box (h.placed c.requires.full)) in
    let holds : b ≡ allows g i a = c.goal_holds-holds.ensures ∙ (ap (allows g (length g.scopes)) (c.as_slice.ensures.value ∙ all) ∙ ap (λ j. allows g j a) (sym c.requires.last)) in
    record {
      verdict =
          c.goal-found.ensures.verdict
          ∙ (ap (λ (u : Game). goal_verdict u b (demands u (length u.scopes)) c.as_slice-2.result.now) h.joined
          ∙ (ap (goal_verdict g b (demands g (length g.scopes))) (c.as_slice-2.ensures.value ∙ all) ∙ (ap (λ j. goal_verdict g b (demands g j) a) (sym c.requires.last) ∙ ap (λ q. goal_verdict g q (demands g i) a) holds)));
      plan = λ e. refl;
      counter = λ e. refl;
    }
