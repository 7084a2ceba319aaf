use Rattle.std.proofs.Common.{◌∙◌, rules, refl, sym, ap, true, false, None, [], ◌∷◌, w64}
use Rattle.std.proofs.lemmas.Int.{to_z-of_z}
use mir.Val.{SFits}
use Rattle.proof_tree.specs.InPlace.{is_horizon}
use Rattle.joins.specs.Joins.{StandsAt}
use Rattle.search_box.specs.Looking.{scope_number}
use Rattle.search_walk.specs.Here.{here_at}
use Rattle.game_search.specs.Pieces.{leaf_at}
use Rattle.search_walk.specs.Rivals.{outdoes}
use Rattle.game_search.proofs.RootTold.{searched_beside, stuck_beside}
use Rattle.game_search.proofs.Roots.{some_first}
use Rattle.search_walk.proofs.Searched.{same_place}
use Rattle.game_search.proofs.beside.root_beside.Goals as goal

pub look_ahead-requires-clause-scope : goal.look_ahead-requires-clause-scope
look_ahead-requires-clause-scope c = some_first c.args.levels.now.problem.now.scopes c.requires.reached.first

pub returns-then-is_here-clause-told : goal.returns-then-is_here-clause-told
returns-then-is_here-clause-told c =
    let g = c.args.levels.now.problem.now in
    let a = c.args.walk.now in
    let v = c.args.value in
    let fits : SFits w64 v = search rules in
    let stands : StandsAt c.reach.new.joins 0 (leaf_at v ∷ []) = simp to_z-of_z at c.reach.ensures.stands in
    let level = c.level-level.result.now in
    let e = c.verdict.ensures in
    let here = sym (ap (λ h. is_horizon h 0) c.in_ok-below.ensures.below) ∙ (sym c.is_here.ensures ∙ c.if-is_here.true) in
    λ few.
    stuck_beside c.args.cuts g v c.requires.reached level.problem.now level.number c.level-level.ensures.problem c.level-level.ensures.number c.in_ok-ahead.ahead a c.in_ok-ahead.ensures.answer c.verdict.result c.look_ahead.new.self.store.box c.reach.new.joins c.put.new.self a.left c.verdict.new.walk
    c.look_ahead.ensures.content e.verdict e.joins e.lines e.left c.put_horizon.new.lines here c.in_ok-below.ensures.lines c.in_ok-put.ensures.put refl stands

pub returns-clause-told : goal.returns-clause-told
returns-clause-told c =
    let g = c.args.levels.now.problem.now in
    let a = c.args.walk.now in
    let v = c.args.value in
    let fits : SFits w64 v = search rules in
    let stands : StandsAt c.reach.new.joins 0 (leaf_at v ∷ []) = simp to_z-of_z at c.reach.ensures.stands in
    let level = c.level-level.result.now in
    let mid = c.part_beside.new.walk in
    let e = c.verdict-2.ensures in
    let back = c.in_ok-part_beside.ensures.back in
    let below = scope_number c.in_ok-below.below in
    let own = outdoes level.problem.now level.number None in
    let place = same_place c.args.cuts own level.problem.now g level.number 0 c.look_ahead.new.self.store.box a.remains.store.box below c.level-level.ensures.problem c.level-level.ensures.number c.look_ahead.ensures.content in
    let same = place ∙ ap (here_at c.args.cuts own g 0 a.remains.store.box) c.in_ok-below.ensures.below in
    let apart = sym (ap (λ h. is_horizon h 0) c.in_ok-below.ensures.below) ∙ (sym c.is_here.ensures ∙ c.if-is_here.false) in
    λ few.
    searched_beside c.args.cuts g v c.requires.reached level.problem.now level.number c.level-level.ensures.problem c.level-level.ensures.number c.in_ok-ahead.ahead a c.in_ok-ahead.ensures.answer c.verdict-2.result mid.remains.store.box mid.joins mid.lines mid.left c.verdict-2.new.walk
    (back.box ∙ c.look_ahead.ensures.content) e.verdict e.joins e.lines e.left _ c.reach.new.joins c.put_horizon.new.lines few same apart c.in_ok-below.ensures.lines stands c.in_ok-part_beside.ensures.told
