use Rattle.std.proofs.Common.{◌∙◌, sym, ap, subst, ◌<◌, [], ◌∷◌, length}
use Rattle.qc_model.specs.Verdict.{seen_barred}
use Rattle.dense_tree.specs.InPlace.{barred_placed}
use Rattle.dense_ledger.specs.Ledger.{setting_of, part_ended, with_seen}
use Rattle.dense_check.specs.declared.machine.DenseMachine.{DenseMachine}
use Rattle.dense_check.specs.Telling.{game_of, here_in}
use Rattle.dense_check.proofs.Going.{with_nest}
use Rattle.dense_check.proofs.Stepping.{here_at}
use Rattle.dense_check.proofs.Ending.{refused_end, accepted_end, nest_part_after, scope_there, box_there, over_after}
use Rattle.dense_check.proofs.machine.DenseMachine.barred_line.Goals as goal

pub may_be_barred-requires-clause-scope : goal.may_be_barred-requires-clause-scope
may_be_barred-requires-clause-scope c = subst (λ k. k < length (game_of c.args.self.now).scopes) (sym c.scope-i.ensures) (scope_there c.args.self.now c.requires.part)

pub may_be_barred-requires-clause-declared : goal.may_be_barred-requires-clause-declared
may_be_barred-requires-clause-declared c = box_there c.args.self.now c.requires.part

pub part_over-requires : goal.part_over-requires
part_over-requires c = record { part = nest_part_after c.args.self.now c.add_barred.new.self (with_seen (seen_barred ∷ [])) c.add_barred.ensures.stays c.requires.part }

pub returns-then-not-may_be_barred-clause-goes : goal.returns-then-not-may_be_barred-clause-goes
returns-then-not-may_be_barred-clause-goes c = refused_end c.refuse.result c.args.self.now c.refuse.new.self (λ d. barred_placed (setting_of (game_of c.args.self.now) d) (here_in c.args.self.now c.args.bounded)) (λ d. part_ended (setting_of (game_of c.args.self.now) d) d (with_seen (seen_barred ∷ []) d.own) d.frames) (ap (λ (z : DenseMachine). z.nest.due) c.refuse.ensures) (λ d h. sym (c.may_be_barred.ensures (setting_of (game_of c.args.self.now) d) (here_in c.args.self.now c.args.bounded) (here_at c.args.self.now d c.args.bounded c.scope-i.result.0 c.scope-i.ensures)) ∙ c.if-not-may_be_barred.true)

pub returns-clause-goes : goal.returns-clause-goes
returns-clause-goes c =
    accepted_end c.part_over.result c.args.self.now (with_nest c.part_over.new.self c.args.self.now) (λ d. barred_placed (setting_of (game_of c.args.self.now) d) (here_in c.args.self.now c.args.bounded)) (λ d. part_ended (setting_of (game_of c.args.self.now) d) d (with_seen (seen_barred ∷ []) d.own) d.frames)
    (λ d h. sym (c.may_be_barred.ensures (setting_of (game_of c.args.self.now) d) (here_in c.args.self.now c.args.bounded) (here_at c.args.self.now d c.args.bounded c.scope-i.result.0 c.scope-i.ensures)) ∙ c.if-not-may_be_barred.false)
    (over_after c.part_over.result c.args.self.now c.add_barred.new.self c.part_over.new.self (with_seen (seen_barred ∷ [])) c.add_barred.ensures.same c.part_over.ensures.same c.add_barred.ensures.stays c.part_over.ensures.goes)
