use Rattle.std.proofs.Common.{rules, is_lt}
use Rattle.std.proofs.lemmas.List.Sorted.{ranks_by}
use Rattle.std.proofs.lemmas.Fn.{always_returns_same}
use Rattle.qc_play.specs.EntryOrder.{entry_order}
use Rattle.qc_play.proofs.Lexicographic.{total}
use Rattle.qc_play.proofs.plan.sort_entries.Goals as goal

pub returns-clause-sorted : goal.returns-clause-sorted
returns-clause-sorted c =
    c.sort_unstable_by.ensures.sorted (λ x y. is_lt (entry_order x y)) (ranks_by total (λ e. e.tuple)) (always_returns_same _ _ _ (λ a r f k. search rules))
