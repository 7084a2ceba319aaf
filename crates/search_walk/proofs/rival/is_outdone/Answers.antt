use Rattle.std.proofs.Common.{◌≡◌, ◌∙◌, sym, ap, Option, w64, rules}
use Rattle.std.proofs.lemmas.Int.{to_z-of_z}
use mir.Val.{SFits}
use Rattle.qc_model.specs.ExistsVerdict.{beats}
use Rattle.joins.specs.Joins.{game_of}
use Rattle.search_walk.specs.Rivals.{beaten_by}
use Rattle.search_walk.specs.declared.rival.Rival.{Rival}
use Rattle.search_walk.proofs.Outdoing.{outdone_by}
use Rattle.search_walk.proofs.rival.is_outdone.Goals as goal

pub returns : goal.returns
returns c =
    let g = game_of c.args.joins.now in
    let r = c.in-Some.rival in
    let bound = c.in-Some-side_bound.bound in
    let fits : SFits w64 bound = search rules in
    let tells : c.beats.result ≡ beats r.sense r.is_alone r.best bound = simp to_z-of_z at c.beats.ensures in
    λ h xs s.
    outdone_by g c.args.i.0 c.args.rival xs bound (sym (c.side_bound.ensures xs s) ∙ c.in-Some-side_bound.is) (ap (λ (o : Option Rival). beaten_by o bound) c.in-Some.is ∙ (sym tells ∙ h))
