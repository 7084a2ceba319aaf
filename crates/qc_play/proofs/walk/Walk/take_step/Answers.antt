use Rattle.std.proofs.Common.{◌≡◌, ◌∙◌, sym, ap, subst, rules, List, [], ◌∷◌, ◌++◌, append-nil, true}
use Rattle.std.proofs.lemmas.Int.{to_z-of_z}
use mir.Val.{SFits}
use mir.Syntax.{w64}
use Rattle.qc_model.specs.Domains.{box_without, declared_box}
use Rattle.qc_model.specs.Verdict.{Seen}
use Rattle.joins.specs.Joins.{StandsAt}
use Rattle.proof_tree.specs.declared.tree.Step.TheVariants.{Bound}
use Rattle.proof_tree.specs.Steps.{after_step}
use Rattle.qc_play.specs.Walk.{game_of, steps_fit, marks_seen}
use Rattle.qc_play.proofs.Backs.{keeps_store}
use Rattle.qc_play.proofs.Stepping.{prune_some, cut_within, cut_leads}
use Rattle.qc_play.proofs.walk.Walk.take_step.Goals as goal
use Rattle.qc_play.proofs.walk.Walk.take_step.Goals.{In-Prune, After-cut}

pub cut-requires : goal.cut-requires
cut-requires c =
    let g = game_of c.args.tables.now in
    let box = c.args.self.now.remains.box in
    record { var = prune_some g c.args.i.0 c.in-Prune.x c.in-Prune.lo c.in-Prune.hi _ box (subst (λ s. steps_fit g (s ∷ []) c.args.i.0 box ≡ true) c.in-Prune.is c.requires.fits) }

content : (c : After-cut) → c.cut.new.self.box ≡ box_without c.args.self.now.remains.box c.in-Prune.x.0 c.in-Prune.lo c.in-Prune.hi
content c =
    let lo_fits : SFits w64 c.in-Prune.lo = search rules in
    let hi_fits : SFits w64 c.in-Prune.hi = search rules in
    simp to_z-of_z at c.cut.ensures.content

pub returns-in-Prune-clause-content : goal.returns-in-Prune-clause-content
returns-in-Prune-clause-content c = content (goal.at.returns-in-Prune-clause-content c).After-cut ∙ sym (ap (λ s. after_step s c.args.self.now.remains.box) c.in-Prune.is)

pub returns-in-Prune-clause-within : goal.returns-in-Prune-clause-within
returns-in-Prune-clause-within c =
    let g = game_of c.args.tables.now in
    let w = c.args.self.now in
    cut_within g c.args.i.0 w (record w { remains = c.cut.new.self }) c.in-Prune.x.0 c.in-Prune.lo c.in-Prune.hi c.requires.within (keeps_store g c.args.i.0 w c.cut.new.self c.requires.within) (content (goal.at.returns-in-Prune-clause-within c).After-cut) (c.cut.ensures.fewer (declared_box g) c.requires.within.declared)

pub returns-in-Prune-clause-on : goal.returns-in-Prune-clause-on
returns-in-Prune-clause-on c = cut_leads (game_of c.args.tables.now) c.args.i.0 c.args.self.now c.cut.new.self c.requires.within c.cut.ensures.past

pub returns-in-Prune-clause-stands : goal.returns-in-Prune-clause-stands
returns-in-Prune-clause-stands c = λ xs k.
    let g = game_of c.args.tables.now in
    let i = c.args.i.0 in
    let js = c.args.self.now.joins in
    subst (λ s. StandsAt js i (xs ++ marks_seen g i (s ∷ []) c.args.self.now.remains.box)) (sym c.in-Prune.is) (subst (StandsAt js i) (sym (append-nil xs)) k)

pub take_bound-requires-clause-fits : goal.take_bound-requires-clause-fits
take_bound-requires-clause-fits c =
    let g = game_of c.args.tables.now in
    let lo_fits : SFits w64 c.in-Bound.lo = search rules in
    let hi_fits : SFits w64 c.in-Bound.hi = search rules in
    simp to_z-of_z (subst (λ s. steps_fit g (s ∷ []) c.args.i.0 c.args.self.now.remains.box ≡ true) c.in-Bound.is c.requires.fits)

pub returns-in-Bound-clause-content : goal.returns-in-Bound-clause-content
returns-in-Bound-clause-content c =
    let lo_fits : SFits w64 c.in-Bound.lo = search rules in
    let hi_fits : SFits w64 c.in-Bound.hi = search rules in
    let made : c.take_bound.new.self.remains.box ≡ after_step (Bound c.in-Bound.x c.in-Bound.lo c.in-Bound.hi) c.args.self.now.remains.box = simp to_z-of_z at c.take_bound.ensures.content in
    made ∙ sym (ap (λ s. after_step s c.args.self.now.remains.box) c.in-Bound.is)

pub returns-in-Bound-clause-stands : goal.returns-in-Bound-clause-stands
returns-in-Bound-clause-stands c =
    let g = game_of c.args.tables.now in
    let i = c.args.i.0 in
    let lo_fits : SFits w64 c.in-Bound.lo = search rules in
    let hi_fits : SFits w64 c.in-Bound.hi = search rules in
    let js = c.args.self.now.joins in
    let ks = c.take_bound.new.self.joins in
    let box = c.args.self.now.remains.box in
    let made : (xs : List Seen) → StandsAt js i xs → StandsAt ks i (xs ++ marks_seen g i (Bound c.in-Bound.x c.in-Bound.lo c.in-Bound.hi ∷ []) box) = simp to_z-of_z at c.take_bound.ensures.stands in
    subst (λ s. (xs : List Seen) → StandsAt js i xs → StandsAt ks i (xs ++ marks_seen g i (s ∷ []) box)) (sym c.in-Bound.is) made
