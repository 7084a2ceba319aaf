use Rattle.std.proofs.Common.{◌≡◌, ◌∙◌, sym, ◌∷◌, ◌-◌, w64, rules}
use Rattle.std.proofs.lemmas.Int.{to_z-of_z}
use mir.Val.{SFits}
use Rattle.joins.specs.Joins.{game_of}
use Rattle.joins.specs.Verdicts.{wishes_at}
use Rattle.search_walk.proofs.Ruling.{none_counted}
use Rattle.search_walk.proofs.Rivals.{rival_sense, rival_beats}
use Rattle.search_walk.proofs.rival.rival_of.Goals as goal

pub returns-clause-sense : goal.returns-clause-sense
returns-clause-sense c =
    let joins = c.args.joins.now in
    let wishes : wishes_at (game_of joins) (c.args.i.0 - 1) ≡ c.in-Some.first.now ∷ c.in-Some.rest.now = sym c.wishes.ensures ∙ c.in-Some.ensures.cases.0 in
    rival_sense joins c.args.i.0 c.if-i-eq0.false c.requires c.in-Some.first.now c.in-Some.rest.now wishes

pub returns-clause-beats : goal.returns-clause-beats
returns-clause-beats c =
    let joins = c.args.joins.now in
    let best = c.in-Some-incumbent.best in
    let fits : SFits w64 best = search rules in
    let wishes : wishes_at (game_of joins) (c.args.i.0 - 1) ≡ c.in-Some.first.now ∷ c.in-Some.rest.now = sym c.wishes.ensures ∙ c.in-Some.ensures.cases.0 in
    simp to_z-of_z
    (rival_beats joins c.args.i.0 c.if-i-eq0.false c.requires c.in-Some.first.now c.in-Some.rest.now wishes c.is_empty.result best (none_counted c.in-Some.rest.now c.is_empty.result c.is_empty.ensures) (λ up s. sym c.in-Some-incumbent.is ∙ c.incumbent.ensures up s))
