use Rattle.std.proofs.Common.{◌∙◌, sym, ap, Some, add-one}
use Rattle.qc_model.specs.Demands.{demands}
use Rattle.qc_play.specs.Walk.{game_of}
use Rattle.qc_play.proofs.AtLevels.{level_from, level_kind}
use Rattle.qc_play.proofs.tables.Tables.gathering.Goals as goal

pub returns-clause-kind : goal.returns-clause-kind
returns-clause-kind c =
    let l = c.level-level in
    level_kind l.result.now (game_of c.args.self.now) c.args.i.0 l.ensures.problem l.ensures.number ∙ ap Some (sym c.new.ensures.owner)

pub returns-clause-wishes : goal.returns-clause-wishes
returns-clause-wishes c =
    let g = game_of c.args.self.now in
    λ e. c.new.ensures.wishes (sym c.new.ensures.owner ∙ e) ∙ (c.list-after.ensures g c.requires.lists ∙ ap (demands g) (add-one c.args.i.0))

pub returns-clause-place : goal.returns-clause-place
returns-clause-place c =
    let l = c.level-level in
    c.new.ensures.before ∙ level_from l.result.now (game_of c.args.self.now) c.args.i.0 l.ensures.problem l.ensures.number
