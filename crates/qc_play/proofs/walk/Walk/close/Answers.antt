use Rattle.std.proofs.Common.{◌≡◌, ◌∙◌, sym, ap, map, take}
use Rattle.qc_model.specs.Content.{Game}
use Rattle.joins.specs.Joins.{out_of}
use Rattle.joins.specs.Verdicts.{verdict_at}
use Rattle.proof_tree.specs.Finding.{seen_of}
use Rattle.proof_tree.specs.Place.{position}
use Rattle.check_box.proofs.Placing.{position_placed}
use Rattle.qc_play.specs.Walk.{game_of}
use Rattle.qc_play.proofs.AtLevels.{level_from}
use Rattle.qc_play.proofs.Backs.{back_all}
use Rattle.qc_play.proofs.Outcomes.{on_each, if_ok}
use Rattle.qc_play.proofs.ScopeEnds.{position_length, scope_shows}
use Rattle.qc_play.proofs.walk.Walk.close.Goals as goal

pub returns-clause-back : goal.returns-clause-back
returns-clause-back c = on_each c.finish.result (back_all (game_of c.args.tables.now) c.args.i.0 c.args.self.now c.finish-found.new.self c.requires.within c.finish-found.ensures.same c.finish-found.ensures.all)

pub returns-clause-shows : goal.returns-clause-shows
returns-clause-shows c = if_ok c.finish.result (λ s shown n ls seen answered.
    let g = game_of c.args.tables.now in
    let w = c.args.self.now in
    let i = c.args.i.0 in
    let l = c.level-level in
    let h = c.requires.within in
    let a = position g i w.remains.box in
    let v = out_of c.finish-found.new.self in
    let values : take l.result.now.from c.deref.result.now ≡ a =
    ap (take l.result.now.from) c.deref.ensures.value
    ∙ (ap (λ k. take k w.values.items) (level_from l.result.now g i l.ensures.problem l.ensures.number) ∙ sym (position_placed g i w.values.items w.remains.box (h.placed c.requires.full))) in
    let verdict =
    c.finish-found.ensures.verdict (map seen_of ls) seen.stands
    ∙ (ap (λ (u : Game). verdict_at u i (take l.result.now.from c.deref.result.now) (map seen_of ls)) h.joined ∙ ap (λ b. verdict_at g i b (map seen_of ls)) values) in
    scope_shows g i c.args.leaves a ls c.known.ensures c.requires.scope seen.kind seen.wishes answered s c.finish-found.result v (position_length g i w.remains.box h.declared ∙ sym seen.place) seen.gathers verdict shown)
    c.finish.ensures
