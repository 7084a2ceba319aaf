use Rattle.std.proofs.Common.{◌∙◌, sym, ap, subst, ◌<◌, length}
use Rattle.dense_box.specs.Here.{IsHere}
use Rattle.dense_tree.specs.Place.{is_free_choice}
use Rattle.dense_tree.specs.InPlace.{empty_placed}
use Rattle.dense_tree.specs.Read.{empty_leaves}
use Rattle.dense_ledger.specs.Ledger.{setting_of, part_ended, with_seen}
use Rattle.dense_check.specs.declared.machine.DenseMachine.{DenseMachine}
use Rattle.dense_check.specs.Telling.{game_of, here_in}
use Rattle.dense_check.proofs.Ending.{refused_end, nest_part, scope_there, in_part_on, empty_lost, empty_over}
use Rattle.dense_check.proofs.machine.DenseMachine.empty_line.Goals as goal

pub is_free_choice-requires : goal.is_free_choice-requires
is_free_choice-requires c = subst (λ k. k < length (game_of c.is_emptied.new.self).scopes) (sym c.scope-i.ensures) (scope_there c.is_emptied.new.self (in_part_on c.args.self.now c.is_emptied.new.self c.is_emptied.ensures.rest c.is_emptied.ensures.past c.is_emptied.ensures.declared c.requires.part))

pub lost_end-requires : goal.lost_end-requires
lost_end-requires c = record { part = in_part_on c.args.self.now c.is_emptied.new.self c.is_emptied.ensures.rest c.is_emptied.ensures.past c.is_emptied.ensures.declared c.requires.part }

pub part_over-requires : goal.part_over-requires
part_over-requires c = record { part = nest_part c.is_emptied.new.self (in_part_on c.args.self.now c.is_emptied.new.self c.is_emptied.ensures.rest c.is_emptied.ensures.past c.is_emptied.ensures.declared c.requires.part) }

pub returns-then-not-is_emptied-clause-goes : goal.returns-then-not-is_emptied-clause-goes
returns-then-not-is_emptied-clause-goes c = refused_end c.refuse.result c.args.self.now c.refuse.new.self (λ d. empty_placed (setting_of (game_of c.args.self.now) d) (here_in c.args.self.now c.args.bounded)) (λ d. part_ended (setting_of (game_of c.args.self.now) d) d (with_seen (empty_leaves (is_free_choice (setting_of (game_of c.args.self.now) d) (here_in c.args.self.now c.args.bounded))) d.own) d.frames) (ap (λ (z : DenseMachine). z.nest.due) c.refuse.ensures) (λ d h. sym (c.is_emptied.ensures.emptied d h c.args.bounded) ∙ c.if-not-is_emptied.true)

pub returns-then-is_free_choice-clause-goes : goal.returns-then-is_free_choice-clause-goes
returns-then-is_free_choice-clause-goes c = empty_lost c.args.self.now c.is_emptied.new.self c.is_emptied.ensures.rest c.is_emptied.ensures.past c.is_emptied.ensures.declared c.args.bounded c.lost_end.result c.lost_end.new.self (λ d h. sym (c.is_emptied.ensures.emptied d h c.args.bounded) ∙ c.if-not-is_emptied.false) (λ box s p h. sym c.if-is_free_choice.true ∙ c.is_free_choice.ensures box s p (subst (λ k. IsHere (game_of c.is_emptied.new.self) k box s p) (sym c.scope-i.ensures) h)) c.lost_end.ensures.goes

pub returns-clause-goes : goal.returns-clause-goes
returns-clause-goes c = empty_over c.args.self.now c.is_emptied.new.self c.is_emptied.ensures.rest c.is_emptied.ensures.past c.is_emptied.ensures.declared c.args.bounded c.part_over.result c.part_over.new.self c.part_over.ensures.same (λ d h. sym (c.is_emptied.ensures.emptied d h c.args.bounded) ∙ c.if-not-is_emptied.false) (λ box s p h. sym c.if-is_free_choice.false ∙ c.is_free_choice.ensures box s p (subst (λ k. IsHere (game_of c.is_emptied.new.self) k box s p) (sym c.scope-i.ensures) h)) c.part_over.ensures.goes
