use Rattle.std.proofs.Common.{◌∙◌, refl, sym, ap, ◌&&◌, [], ◌∷◌}
use Rattle.qc_model.specs.Verdict.{lost, seen_node}
use Rattle.dense_tree.specs.InPlace.{dead_placed, no_play_placed}
use Rattle.dense_ledger.specs.Ledger.{setting_of, part_ended, with_seen}
use Rattle.dense_check.specs.declared.machine.DenseMachine.{DenseMachine}
use Rattle.dense_check.specs.Telling.{game_of, here_in}
use Rattle.dense_check.proofs.Ending.{refused_end, in_part_on, dead_lost}
use Rattle.dense_check.proofs.machine.DenseMachine.dead_line.Goals as goal

pub lost_end-requires : goal.lost_end-requires
lost_end-requires c = record { part = in_part_on c.args.self.now c.shows_dead.new.self c.shows_dead.ensures.rest c.shows_dead.ensures.past c.shows_dead.ensures.declared c.requires.part }

pub returns-then-not-may_lose-clause-goes : goal.returns-then-not-may_lose-clause-goes
returns-then-not-may_lose-clause-goes c = refused_end c.refuse.result c.args.self.now c.refuse.new.self (λ d. dead_placed (setting_of (game_of c.args.self.now) d) (here_in c.args.self.now c.args.bounded) c.args.k) (λ d. part_ended (setting_of (game_of c.args.self.now) d) d (with_seen (seen_node lost ∷ []) d.own) d.frames) (ap (λ (z : DenseMachine). z.nest.due) c.refuse.ensures) (λ d h. ap (λ b. b && no_play_placed (setting_of (game_of c.args.self.now) d) (here_in c.args.self.now c.args.bounded) c.args.k) (sym (c.may_lose.ensures (setting_of (game_of c.args.self.now) d) c.args.bounded refl) ∙ c.if-not-may_lose.true))

pub returns-then-not-shows_dead-clause-goes : goal.returns-then-not-shows_dead-clause-goes
returns-then-not-shows_dead-clause-goes c = refused_end c.refuse-then-not-shows_dead.result c.args.self.now c.refuse-then-not-shows_dead.new.self (λ d. dead_placed (setting_of (game_of c.args.self.now) d) (here_in c.args.self.now c.args.bounded) c.args.k) (λ d. part_ended (setting_of (game_of c.args.self.now) d) d (with_seen (seen_node lost ∷ []) d.own) d.frames) (ap (λ (z : DenseMachine). z.nest.due) c.refuse-then-not-shows_dead.ensures) (λ d h. ap (λ b. b && no_play_placed (setting_of (game_of c.args.self.now) d) (here_in c.args.self.now c.args.bounded) c.args.k) (sym (c.may_lose.ensures (setting_of (game_of c.args.self.now) d) c.args.bounded refl) ∙ c.if-not-may_lose.false) ∙ (sym (c.shows_dead.ensures.dead d h c.args.bounded) ∙ c.if-not-shows_dead.true))

pub returns-clause-goes : goal.returns-clause-goes
returns-clause-goes c = dead_lost c.args.self.now c.shows_dead.new.self c.shows_dead.ensures.rest c.shows_dead.ensures.past c.shows_dead.ensures.declared c.args.bounded c.lost_end.result c.lost_end.new.self c.args.k (λ d h. ap (λ b. b && no_play_placed (setting_of (game_of c.args.self.now) d) (here_in c.args.self.now c.args.bounded) c.args.k) (sym (c.may_lose.ensures (setting_of (game_of c.args.self.now) d) c.args.bounded refl) ∙ c.if-not-may_lose.false) ∙ (sym (c.shows_dead.ensures.dead d h c.args.bounded) ∙ c.if-not-shows_dead.false)) c.lost_end.ensures.goes
