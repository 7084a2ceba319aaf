use Rattle.std.proofs.Common.{◌∙◌, sym, ap, [], ◌∷◌, ◌++◌, rules, to_z, of_z}
use Rattle.std.specs.Prelude.{is_some}
use Rattle.std.proofs.lemmas.Int.{to_z-of_z}
use mir.Val.{SFits}
use mir.Syntax.{w64}
use Rattle.dense_tree.specs.InPlace.{best_placed, list_best}
use Rattle.dense_ledger.specs.Ledger.{setting_of, part_ended}
use Rattle.dense_check.specs.declared.machine.DenseMachine.{DenseMachine}
use Rattle.dense_check.specs.Telling.{game_of, here_in}
use Rattle.dense_check.proofs.Stepping.{here_at}
use Rattle.dense_check.proofs.Ending.{refused_end, nest_part_after, best_over}
use Rattle.dense_check.proofs.machine.DenseMachine.best_line.Goals as goal

pub returns-in_default-clause-goes : goal.returns-in_default-clause-goes
returns-in_default-clause-goes c = refused_end c.refuse.result c.args.self.now c.refuse.new.self (λ d. best_placed (here_in c.args.self.now c.args.bounded)) (λ d. part_ended (setting_of (game_of c.args.self.now) d) d (record (d.own) { bests = d.own.bests ++ list_best (here_in c.args.self.now c.args.bounded).list (here_in c.args.self.now c.args.bounded).box }) d.frames) (ap (λ (z : DenseMachine). z.nest.due) c.refuse.ensures) (λ d h. sym (c.best_end.ensures.placed (setting_of (game_of c.args.self.now) d) (here_in c.args.self.now c.args.bounded) (here_at c.args.self.now d c.args.bounded c.scope-i.result.0 c.scope-i.ensures)) ∙ ap is_some c.in_default.is)

pub part_over-requires : goal.part_over-requires
part_over-requires c = record { part = nest_part_after c.args.self.now c.add_best.new.self (λ w. record w { bests = w.bests ++ to_z w64 (of_z w64 c.in-Some.best) ∷ [] }) c.add_best.ensures.stays c.requires.part }

pub returns-clause-goes : goal.returns-clause-goes
returns-clause-goes c =
    let best = c.in-Some.best in
    let fits : SFits w64 best = search rules in
    best_over c.part_over.result c.args.self.now c.add_best.new.self c.part_over.new.self c.args.bounded (to_z w64 (of_z w64 best)) c.add_best.ensures.same c.part_over.ensures.same c.add_best.ensures.stays c.part_over.ensures.goes
    (λ d h. sym (c.best_end.ensures.placed (setting_of (game_of c.args.self.now) d) (here_in c.args.self.now c.args.bounded) (here_at c.args.self.now d c.args.bounded c.scope-i.result.0 c.scope-i.ensures)) ∙ ap is_some c.in-Some.is)
    (λ d h. simp to_z-of_z (c.in-Some.ensures.best (setting_of (game_of c.args.self.now) d) (here_in c.args.self.now c.args.bounded) (here_at c.args.self.now d c.args.bounded c.scope-i.result.0 c.scope-i.ensures)))
