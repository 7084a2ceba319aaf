use Rattle.std.proofs.Common.{◌≡◌, ◌∙◌, sym, ap, take, drop}
use Rattle.qc_model.specs.Content.{Game}
use Rattle.qc_model.specs.Demands.{demands}
use Rattle.joins.specs.Verdicts.{stuck_of}
use Rattle.proof_tree.specs.Place.{position}
use Rattle.check_lines.proofs.LedgerTurns.{stuck_comes}
use Rattle.check_box.proofs.Placing.{position_placed}
use Rattle.qc_play.specs.Walk.{game_of}
use Rattle.qc_play.proofs.AtLevels.{level_from, level_kind, stuck_strategy_at, stuck_counterstrategy_at}
use Rattle.qc_play.proofs.Backs.{back_join}
use Rattle.qc_play.proofs.Starts.{plan_is, counter_is}
use Rattle.qc_play.proofs.walk.Walk.stuck_scope.Goals as goal

pub returns-clause-back : goal.returns-clause-back
returns-clause-back c = back_join (game_of c.args.tables.now) c.args.i.0 c.args.self.now c.stuck-found.new.self c.requires.within c.stuck-found.ensures.same c.stuck-found.ensures.others

pub returns-clause-shows : goal.returns-clause-shows
returns-clause-shows c =
    let g = game_of c.args.tables.now in
    let w = c.args.self.now in
    let i = c.args.i.0 in
    let l = c.level-level in
    let h = c.requires.within in
    let a = position g i w.remains.box in
    let later = drop i g.scopes in
    let d = demands g i in
    let kind = level_kind l.result.now g i l.ensures.problem l.ensures.number in
    let values : take l.result.now.from c.deref.result.now ≡ a =
    ap (take l.result.now.from) c.deref.ensures.value
    ∙ (ap (λ k. take k w.values.items) (level_from l.result.now g i l.ensures.problem l.ensures.number) ∙ sym (position_placed g i w.values.items w.remains.box (h.placed c.requires.full))) in
    record {
      verdict =
          c.stuck-found.ensures.verdict
          ∙ (ap (λ (u : Game). stuck_of (drop i u.scopes) u (demands u i) (take l.result.now.from c.deref.result.now)) h.joined ∙ (ap (stuck_of later g d) values ∙ stuck_comes g later d a));
      plan = λ e. c.stuck_plan.ensures ∙ (sym (stuck_strategy_at g i l.result.now.kind kind) ∙ plan_is later g d a);
      counter = λ e. c.stuck_counter.ensures ∙ (sym (stuck_counterstrategy_at g i l.result.now.kind kind) ∙ counter_is later g d a);
    }
