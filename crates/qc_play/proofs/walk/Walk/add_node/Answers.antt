use Rattle.std.proofs.Common.{◌≡◌, ◌∙◌, sym, ap, subst, suc, map, take, ◌++◌, ◌∷◌, []}
use Rattle.joins.specs.Joins.{out_of, LeafFits}
use Rattle.joins.specs.Seen.{verdict_of}
use Rattle.proof_tree.specs.Finding.{leaf_node, seen_of}
use Rattle.proof_tree.specs.Place.{position}
use Rattle.check_box.proofs.Placing.{position_placed}
use Rattle.qc_play.specs.Gathers.{Gathers}
use Rattle.qc_play.specs.Shown.{Shows}
use Rattle.qc_play.specs.Walk.{game_of}
use Rattle.qc_play.proofs.AtLevels.{level_stop}
use Rattle.qc_play.proofs.Backs.{back_join, within_fewer}
use Rattle.qc_play.proofs.Leafing.{leaf_told}
use Rattle.qc_play.proofs.walk.Walk.add_node.Goals as goal

pub returns-clause-back : goal.returns-clause-back
returns-clause-back c =
    let g = game_of c.args.tables.now in
    back_join g c.args.i.0 c.args.self.now c.add_node.new.self (within_fewer g c.args.i.0 c.args.self.now c.requires.within) c.add_node.ensures.same c.add_node.ensures.others

pub returns-clause-tells : goal.returns-clause-tells
returns-clause-tells c = λ f ends shows long come n ls few seen.
    let g = game_of c.args.tables.now in
    let w = c.args.self.now in
    let i = c.args.i.0 in
    let l = c.level-level in
    let h = c.requires.within in
    let a = position g (suc i) w.remains.box in
    let u = verdict_of c.args.shown.found (out_of w.joins) in
    let ks = c.add_node.new.self in
    let vector = c.vector.result.now in
    let handed : vector ≡ out_of w.joins = c.vector.ensures ∙ c.add_node.ensures.out in
    let values : take l.result.now.stop c.deref.result.now ≡ a =
    ap (take l.result.now.stop) c.deref.ensures.value
    ∙ (ap (λ k. take k w.values.items) (level_stop l.result.now g i l.ensures.problem l.ensures.number) ∙ sym (position_placed g (suc i) w.values.items w.remains.box (h.placed c.requires.full))) in
    let gathered = c.in_ok-add.ensures.leaf ls f seen.gathers (subst (λ v. Shows f v c.args.shown) (sym handed) shows) in
    leaf_told g i w.joins ks c.args.leaves.now c.add.new.self a f u ends n ls seen few c.add.ensures.scope long come shows.verdict
    (λ fits. c.add_node.ensures.stands (map seen_of ls) seen.stands (subst (λ v. LeafFits v i (map seen_of ls) u) (sym h.joined) fits))
    (subst (λ v. Gathers c.add.new.self (ls ++ leaf_node v f ∷ [])) values gathered)
