use Rattle.std.proofs.Common.{◌≡◌, ◌<◌, sym, subst, rules, length, ℕ, List, [], ◌∷◌, ◌++◌, false, true}
use Rattle.std.proofs.lemmas.Int.{to_z-of_z}
use mir.Val.{SFits}
use mir.Syntax.{w64}
use Rattle.qc_model.specs.declared.problem.Scope.{Scope}
use Rattle.qc_model.specs.Content.{Game}
use Rattle.qc_model.specs.Domains.{box_without, declared_box, is_none_left, values_left, values_within}
use Rattle.qc_model.specs.Verdict.{Seen, seen_bound}
use Rattle.joins.specs.Joins.{StandsAt}
use Rattle.fd_store.specs.Held.{Held}
use Rattle.proof_tree.specs.declared.tree.Step.TheVariants.{Bound}
use Rattle.proof_tree.specs.Place.{tracked_variable}
use Rattle.proof_tree.specs.Steps.{is_tracked, step_marks}
use Rattle.qc_play.specs.Walk.{game_of}
use Rattle.qc_play.proofs.Stepping.{bound_place, bound_left, bound_marks, bound_leads, bound_within}
use Rattle.qc_play.proofs.walk.Walk.take_bound.Goals as goal
use Rattle.qc_play.proofs.walk.Walk.take_bound.Goals.{After-cut}

pub best_of-best-requires-clause-var : goal.best_of-best-requires-clause-var
best_of-best-requires-clause-var c =
    subst (λ (h : Held). c.args.x.0 < length h.box) (sym c.store.ensures) (bound_place (game_of c.args.tables.now) c.args.i.0 c.args.x c.args.lo c.args.hi c.args.self.now.remains.box c.requires.fits)

pub best_of-best-requires-clause-left : goal.best_of-best-requires-clause-left
best_of-best-requires-clause-left c =
    let lo_fits : SFits w64 c.args.lo = search rules in
    let hi_fits : SFits w64 c.args.hi = search rules in
    simp to_z-of_z
    (subst (λ (h : Held). is_none_left (values_within c.args.lo c.args.hi (values_left h.box c.args.x.0)) ≡ false) (sym c.store.ensures)
    (bound_left (game_of c.args.tables.now) c.args.i.0 c.args.x c.args.lo c.args.hi c.args.self.now.remains.box c.requires.fits))

pub cut-requires : goal.cut-requires
cut-requires c = record { var = bound_place (game_of c.args.tables.now) c.args.i.0 c.args.x c.args.lo c.args.hi c.args.self.now.remains.box c.requires.fits }

content : (c : After-cut) → c.cut.new.self.box ≡ box_without c.args.self.now.remains.box c.args.x.0 c.args.lo c.args.hi
content c =
    let lo_fits : SFits w64 c.args.lo = search rules in
    let hi_fits : SFits w64 c.args.hi = search rules in
    simp to_z-of_z at c.cut.ensures.content

pub returns-clause-content : goal.returns-clause-content
returns-clause-content c = content (goal.at.returns-clause-content c).After-cut

pub returns-clause-within : goal.returns-clause-within
returns-clause-within c =
    let g = game_of c.args.tables.now in
    bound_within g c.args.i.0 c.args.self.now c.cut.new.self c.add_bound.new.self c.args.x.0 c.args.lo c.args.hi c.requires.within c.add_bound.ensures.same (content (goal.at.returns-clause-within c).After-cut) (c.cut.ensures.fewer (declared_box g) c.requires.within.declared)

pub returns-clause-on : goal.returns-clause-on
returns-clause-on c = bound_leads (game_of c.args.tables.now) c.args.i.0 c.args.self.now c.cut.new.self c.add_bound.new.self c.requires.within c.cut.ensures.past c.add_bound.ensures.same c.add_bound.ensures.others

pub returns-clause-stands : goal.returns-clause-stands
returns-clause-stands c = λ xs k.
    let g = game_of c.args.tables.now in
    let i = c.args.i.0 in
    let box = c.args.self.now.remains.box in
    let lo_fits : SFits w64 c.args.lo = search rules in
    let hi_fits : SFits w64 c.args.hi = search rules in
    let best_fits : SFits w64 c.best_of-best.result = search rules in
    let best : (g : Game) (later : List Scope) (i : ℕ) → is_tracked c.args.x.0 (tracked_variable g later i c.list-after.result.now) ≡ true → step_marks (tracked_variable g later i c.list-after.result.now) (Bound c.args.x c.args.lo c.args.hi ∷ []) c.store.result.now.box ≡ c.best_of-best.result ∷ [] = simp to_z-of_z at c.best_of-best.ensures in
    let marks = bound_marks g i c.args.x c.args.lo c.args.hi c.best_of-best.result box c.list-after.result.now c.requires.scope (c.list-after.ensures g c.requires.lists) c.requires.fits
    (subst (λ (h : Held). (g : Game) (later : List Scope) (i : ℕ) → is_tracked c.args.x.0 (tracked_variable g later i c.list-after.result.now) ≡ true → step_marks (tracked_variable g later i c.list-after.result.now) (Bound c.args.x c.args.lo c.args.hi ∷ []) h.box ≡ c.best_of-best.result ∷ []) c.store.ensures best) in
    let stands : (xs : List Seen) → StandsAt c.args.self.now.joins i xs → StandsAt c.add_bound.new.self i (xs ++ seen_bound c.best_of-best.result ∷ []) = simp to_z-of_z at c.add_bound.ensures.stands in
    subst (λ us. StandsAt c.add_bound.new.self i (xs ++ us)) (sym marks) (stands xs k)
