use Rattle.std.proofs.Common.{◌∙◌, sym}
use Rattle.proof_tree.specs.Shape.{tree_of}
use Rattle.strategy_arena.proofs.UniqueLines.{same_tree, if_ok}
use Rattle.strategy_arena.proofs.arena.Arena.to_tree.Goals as goal

pub returns : goal.returns
returns c = if_ok c.node.result (λ n h t e. same_tree t (tree_of n) c.args.self.now c.node.new.lines (sym c.cursor.ensures ∙ h) e) c.node.ensures.told
