use Rattle.std.proofs.Common.{◌∙◌, ap, arith}
use Rattle.search_kept.specs.Ends.{ends_in}
use Rattle.search_kept.proofs.Ends.{tree_ends}
use Rattle.search_kept.proofs.turns.turns_in.Goals as goal

pub returns : goal.returns
returns c = λ t e. omega (arith, c.saturating_sub.ensures, c.count_ends.ensures ∙ (ap ends_in e ∙ tree_ends t))
