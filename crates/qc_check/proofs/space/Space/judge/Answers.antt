use Rattle.std.proofs.Common.{◌≡◌, ◌∙◌, sym, subst, arith}
use Rattle.qc_model.specs.Valid.{IsValid}
use Rattle.proof_tree.specs.Shape.{tree_of}
use Rattle.proof_tree.specs.Lines.{tree_lines}
use Rattle.check_lines.specs.Machine.{game_of}
use Rattle.qc_check.specs.Giving.{WasGivenLines}
use Rattle.qc_check.proofs.TreeEnds.{tree_ends}
use Rattle.qc_check.proofs.Given.{given_all, come_to, still_free}
use Rattle.qc_check.proofs.space.Space.judge.Goals as goal
use Rattle.qc_check.proofs.space.Space.judge.Goals.{After-give_node}

given : (c : After-give_node) → WasGivenLines c.give_node.new.space.machine (tree_lines (tree_of c.args.root.now))
given c = given_all _ _ (game_of c.args.self.now.machine) _ (subst IsValid (sym c.args.self.now.of_problem) c.known.ensures) c.restart.ensures.same c.restart.ensures.tells c.give_node.ensures.takes

same : (c : After-give_node) → game_of c.give_node.new.space.machine ≡ game_of c.args.self.now.machine
same c = c.give_node.ensures.takes.same ∙ c.restart.ensures.same

pub returns-clause-come : goal.returns-clause-come
returns-clause-come c =
    let a = (goal.at.returns-clause-come c).After-give_node in
    let ends = tree_ends 0 (tree_of c.args.root.now) in
    come_to c.give_node.new.space (game_of c.args.self.now.machine) _ c.finish.result (same a) (given a) (omega (arith, ends, c.requires.few)) c.finish.ensures.answers

pub returns-clause-usable : goal.returns-clause-usable
returns-clause-usable c =
    still_free c.args.self.now.machine c.finish.new.self (c.finish.ensures.same ∙ (c.give_node.ensures.takes.same ∙ c.restart.ensures.same)) (c.finish.ensures.base ∙ (c.give_node.ensures.takes.base ∙ c.restart.ensures.base)) c.requires.usable
