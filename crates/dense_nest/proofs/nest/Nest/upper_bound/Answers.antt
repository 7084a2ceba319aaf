use Rattle.std.proofs.Common.{◌∙◌, sym}
use Rattle.joins.specs.Joins.{out_of}
use Rattle.dense_nest.specs.Ends.{given_to}
use Rattle.dense_nest.specs.Telling.{game_of}
use Rattle.dense_nest.proofs.Bounds.{upper_by_variable}
use Rattle.dense_nest.proofs.nest.Nest.upper_bound.Goals as goal

pub returns-in-Var : goal.returns-in-Var
returns-in-Var c = λ us p w h.
    let m = c.args.self.now in
    let list = h.list ∙ sym (c.list.ensures (game_of m) c.requires.here.made.lists) in
    c.bound_by_variable.ensures us p w h
    ∙ upper_by_variable (given_to m us) p c.list.result.now c.in-Some.field-0.now c.in-Var.x (out_of m.joins) list c.in-Some.ensures.value c.in-Var.is
