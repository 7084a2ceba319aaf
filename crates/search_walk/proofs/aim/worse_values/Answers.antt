use Rattle.std.proofs.Common.{◌∙◌, refl, sym, subst, Option, w64, rules}
use Rattle.std.proofs.lemmas.Int.{to_z-of_z}
use mir.Val.{SFits}
use Rattle.joins.specs.Joins.{game_of}
use Rattle.search_walk.specs.Aims.{IsAim, IsAimed, AreRuledOut}
use Rattle.search_walk.specs.declared.aim.Aim.{Aim}
use Rattle.search_walk.proofs.Ruling.{none_reached, worse_so}
use Rattle.search_walk.proofs.aim.worse_values.Goals as goal

pub returns-in_default-incumbent : goal.returns-in_default-incumbent
returns-in_default-incumbent c =
    let joins = c.args.joins.now in
    let g = game_of joins in
    let m : IsAim g c.args.i.0 c.in-Some.aim = subst (λ (a : Option Aim). IsAimed g c.args.i.0 a) c.in-Some.is c.requires.aimed in
    none_reached g joins c.args.i.0 c.in-Some.aim m (λ xs s. sym c.in_default-incumbent.is ∙ c.incumbent.ensures xs s)

pub returns : goal.returns
returns c =
    let joins = c.args.joins.now in
    let g = game_of joins in
    let best = c.in-Some-incumbent.best in
    let fits : SFits w64 best = search rules in
    let m : IsAim g c.args.i.0 c.in-Some.aim = subst (λ (a : Option Aim). IsAimed g c.args.i.0 a) c.in-Some.is c.requires.aimed in
    let ruled : AreRuledOut c.in-Some.aim best c.worse_than.result = simp to_z-of_z at c.worse_than.ensures in
    worse_so g joins c.args.i.0 c.in-Some.aim c.worse_than.result m refl c.requires.scope best (λ xs s. sym c.in-Some-incumbent.is ∙ c.incumbent.ensures xs s) ruled
