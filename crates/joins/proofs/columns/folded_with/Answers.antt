use Rattle.std.proofs.Common.{rules}
use Rattle.std.proofs.lemmas.Int.{wraps}
use Rattle.joins.proofs.columns.folded_with.Goals as goal

pub returns-in-Sum : goal.returns-in-Sum
returns-in-Sum c = search (rules, wraps)
