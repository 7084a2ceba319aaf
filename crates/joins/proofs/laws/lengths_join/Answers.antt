use Rattle.std.proofs.Common.{suc, [], ◌∷◌}
use Rattle.qc_model.specs.Demands.{demands}
use Rattle.qc_model.specs.Verdict.{seen_node}
use Rattle.joins.proofs.Lengths.{long_join}
use Rattle.joins.proofs.laws.lengths_join.Goals as goal

pub returns-clause-join : goal.returns-clause-join
returns-clause-join c = λ g i xs ys h k. long_join (demands g (suc i)) xs ys h k

pub returns-clause-node : goal.returns-clause-node
returns-clause-node c = λ g i xs v h l. long_join (demands g (suc i)) xs (seen_node v ∷ []) h (l, tt)
