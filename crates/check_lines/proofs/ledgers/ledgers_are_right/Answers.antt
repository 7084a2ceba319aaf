use Rattle.check_lines.proofs.LedgerRight.{told, only_told}
use Rattle.check_lines.proofs.ledgers.ledgers_are_right.Goals as goal

pub returns-clause-trees : goal.returns-clause-trees
returns-clause-trees c = λ g t deep placed. told g t deep placed

pub returns-clause-others : goal.returns-clause-others
returns-clause-others c = λ g ls d e w. only_told g ls d e w
