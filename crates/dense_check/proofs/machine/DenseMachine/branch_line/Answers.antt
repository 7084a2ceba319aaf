use Rattle.std.proofs.Common.{◌∙◌, sym, ap, ◌∷◌}
use Rattle.qc_model.specs.Domains.{values_left}
use Rattle.dense_tree.specs.InPlace.{branch_placed}
use Rattle.dense_ledger.specs.Ledger.{setting_of, forked, case_due}
use Rattle.dense_check.specs.declared.machine.DenseMachine.{DenseMachine}
use Rattle.dense_check.specs.Telling.{game_of, here_in}
use Rattle.dense_check.proofs.Going.{with_nest}
use Rattle.dense_check.proofs.Stepping.{here_at}
use Rattle.dense_check.proofs.Ending.{refused_end, accepted_end, nest_goes, branch_full, branch_there}
use Rattle.dense_check.proofs.machine.DenseMachine.branch_line.Goals as goal

pub branch-self-requires-clause-full : goal.branch-self-requires-clause-full
branch-self-requires-clause-full c = let d = c.requires.part.0 in branch_full (setting_of (game_of c.args.self.now) d) (here_in c.args.self.now c.args.bounded) c.args.x.0 (sym (c.may_branch.ensures (setting_of (game_of c.args.self.now) d) (here_in c.args.self.now c.args.bounded) (here_at c.args.self.now d c.args.bounded c.scope-i.result.0 c.scope-i.ensures)) ∙ c.if-not-may_branch.false)

pub branch-self-requires-clause-variable : goal.branch-self-requires-clause-variable
branch-self-requires-clause-variable c = let d = c.requires.part.0 in branch_there (setting_of (game_of c.args.self.now) d) (here_in c.args.self.now c.args.bounded) c.args.x.0 (sym (c.may_branch.ensures (setting_of (game_of c.args.self.now) d) (here_in c.args.self.now c.args.bounded) (here_at c.args.self.now d c.args.bounded c.scope-i.result.0 c.scope-i.ensures)) ∙ c.if-not-may_branch.false)

pub returns-then-not-may_branch-clause-goes : goal.returns-then-not-may_branch-clause-goes
returns-then-not-may_branch-clause-goes c = refused_end c.refuse.result c.args.self.now c.refuse.new.self (λ d. branch_placed (setting_of (game_of c.args.self.now) d) (here_in c.args.self.now c.args.bounded) c.args.x.0) (λ d. record d { due = case_due; frames = forked (record { place = (here_in c.args.self.now c.args.bounded); variable = c.args.x.0; left = values_left c.args.self.now.nest.remains.box c.args.x.0 }) ∷ d.frames }) (ap (λ (z : DenseMachine). z.nest.due) c.refuse.ensures) (λ d h. sym (c.may_branch.ensures (setting_of (game_of c.args.self.now) d) (here_in c.args.self.now c.args.bounded) (here_at c.args.self.now d c.args.bounded c.scope-i.result.0 c.scope-i.ensures)) ∙ c.if-not-may_branch.true)

pub returns-clause-goes : goal.returns-clause-goes
returns-clause-goes c = accepted_end c.branch-self.result c.args.self.now (with_nest c.branch-self.new.self c.args.self.now) (λ d. branch_placed (setting_of (game_of c.args.self.now) d) (here_in c.args.self.now c.args.bounded) c.args.x.0) (λ d. record d { due = case_due; frames = forked (record { place = (here_in c.args.self.now c.args.bounded); variable = c.args.x.0; left = values_left c.args.self.now.nest.remains.box c.args.x.0 }) ∷ d.frames }) (λ d h. sym (c.may_branch.ensures (setting_of (game_of c.args.self.now) d) (here_in c.args.self.now c.args.bounded) (here_at c.args.self.now d c.args.bounded c.scope-i.result.0 c.scope-i.ensures)) ∙ c.if-not-may_branch.false) (nest_goes c.branch-self.result c.args.self.now c.branch-self.new.self (λ d. record d { due = case_due; frames = forked (record { place = (here_in c.args.self.now c.args.bounded); variable = c.args.x.0; left = values_left c.args.self.now.nest.remains.box c.args.x.0 }) ∷ d.frames }) c.branch-self.ensures.same c.branch-self.ensures.goes)
