use Rattle.proof_text.proofs.FittingLines.{tree_fitting}
use Rattle.strategy_arena.proofs.laws.lines_fit.Goals as goal

pub returns : goal.returns
returns c = tree_fitting
