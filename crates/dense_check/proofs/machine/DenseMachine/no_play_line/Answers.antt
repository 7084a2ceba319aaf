use Rattle.std.proofs.Common.{◌∙◌, sym}
use Rattle.qc_model.specs.Verdict.{lost}
use Rattle.dense_tree.specs.InPlace.{no_play_placed}
use Rattle.dense_ledger.specs.Ledger.{setting_of, node_ended}
use Rattle.dense_check.specs.Telling.{game_of}
use Rattle.dense_check.proofs.Going.{with_nest}
use Rattle.dense_check.proofs.Noding.{Told, accepted_node, nest_node, in_node_on, node_goes_on}
use Rattle.dense_check.proofs.machine.DenseMachine.no_play_line.Goals as goal

pub lose-requires : goal.lose-requires
lose-requires c = record { node = nest_node c.is_unplayed.new.self c.args.e (in_node_on c.args.self.now c.is_unplayed.new.self c.args.e c.is_unplayed.ensures.rest c.is_unplayed.ensures.left c.requires.node) }

pub returns-clause-goes : goal.returns-clause-goes
returns-clause-goes c =
    accepted_node c.lose.result c.args.self.now c.args.e (with_nest c.lose.new.self c.is_unplayed.new.self) (λ d. no_play_placed (setting_of (game_of c.args.self.now) d) (Told c.args.self.now c.args.e).place c.args.k) (λ d. node_ended (setting_of (game_of c.args.self.now) d) d (Told c.args.self.now c.args.e) lost d.frames)
    (λ d h. sym (c.is_unplayed.ensures.placed d h) ∙ c.if-not-is_unplayed.false)
    (node_goes_on c.lose.result c.args.self.now c.is_unplayed.new.self c.args.e c.lose.new.self (λ g t d. node_ended (setting_of g d) d t lost d.frames) c.is_unplayed.ensures.rest c.is_unplayed.ensures.left c.lose.ensures.same c.lose.ensures.goes)
