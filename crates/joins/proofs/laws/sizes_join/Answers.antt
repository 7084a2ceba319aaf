use Rattle.std.proofs.Common.{refl}
use Rattle.qc_model.specs.Verdict.{seen_barred, seen_skipped}
use Rattle.joins.proofs.Sizing.{sizes_both, sizes_same, sizes_bound, sizes_node}
use Rattle.joins.proofs.laws.sizes_join.Goals as goal

pub returns-clause-join : goal.returns-clause-join
returns-clause-join c = sizes_both

pub returns-clause-barred : goal.returns-clause-barred
returns-clause-barred c = λ n xs h. sizes_same n xs seen_barred (λ k. refl) h

pub returns-clause-skipped : goal.returns-clause-skipped
returns-clause-skipped c = λ n xs h. sizes_same n xs seen_skipped (λ k. refl) h

pub returns-clause-bound : goal.returns-clause-bound
returns-clause-bound c = sizes_bound

pub returns-clause-node : goal.returns-clause-node
returns-clause-node c = sizes_node
