use Rattle.std.proofs.Common.{◌∙◌, ap, rules, ◌≡◌, ◌+◌, List, [], ◌∷◌, ◌++◌, length, length-append, arith}
use Rattle.std.proofs.lemmas.Int.{to_z-of_z}
use mir.Val.{SFits}
use mir.Syntax.{w64}
use Rattle.qc_model.specs.Domains.{box_without}
use Rattle.prop_base.proofs.Steps.{follows_same, follows_more, pruning_cut, cut_emptied}
use Rattle.prop_base.proofs.removal.prune_named.Goals as goal

pub returns-clause-pruning : goal.returns-clause-pruning
returns-clause-pruning c =
    let lo_fits : SFits w64 c.args.cut.lo = search rules in
    let hi_fits : SFits w64 c.args.cut.hi = search rules in
    let k = c.args.cut in
    let e = simp to_z-of_z at c.remove.ensures.content in
    let same = c.reserve_trail.ensures.content in
    let f = e ∙ ap (λ b. box_without b k.x.0 k.lo k.hi) same in
    let w = follows_more c.args.store.now c.reserve_trail.new.self c.remove.new.self (follows_same c.args.store.now c.reserve_trail.new.self same c.reserve_trail.ensures.past) c.remove.ensures.past in
    let pushed = simp to_z-of_z at c.in_ok-push.ensures.ok in
    pruning_cut c.args.asked.problem.now c.args.asked.rule.now c.args.store.now c.remove.new.self c.args.steps.now c.push.new.self k c.args.asked.c c.args.asked.listed c.requires.full c.requires.cut f w pushed

pub returns-clause-emptied : goal.returns-clause-emptied
returns-clause-emptied c =
    let lo_fits : SFits w64 c.args.cut.lo = search rules in
    let hi_fits : SFits w64 c.args.cut.hi = search rules in
    let k = c.args.cut in
    let e = simp to_z-of_z at c.remove.ensures.content in
    let f = e ∙ ap (λ b. box_without b k.x.0 k.lo k.hi) c.reserve_trail.ensures.content in
    cut_emptied c.args.store.now.box c.remove.new.self.box k.x.0 k.lo k.hi c.size.result c.requires.full c.requires.cut.x f c.size.ensures

-- one step more at the end
one_longer : {X : Type 0} (old new : List X) (x : X) → new ≡ old ++ x ∷ [] → length new ≡ length old + 1
one_longer old new x e = omega (arith, ap length e, length-append old (x ∷ []))

pub returns-clause-grown : goal.returns-clause-grown
returns-clause-grown c = one_longer c.args.steps.now c.push.new.self _ c.in_ok-push.ensures.ok
