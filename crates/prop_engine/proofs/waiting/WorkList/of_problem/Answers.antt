use Rattle.std.proofs.Common.{List, Bool, false, ap, ◌∙◌}
use Rattle.std.specs.Prelude.{slice_index_or}
use Rattle.prop_engine.proofs.Waits.{none_set}
use Rattle.prop_engine.proofs.waiting.WorkList.of_problem.Goals as goal

pub returns-clause-idle : goal.returns-clause-idle
returns-clause-idle c k = ap (λ (l : List Bool). slice_index_or l k false) (c.in_ok-vec.ensures.items_if_clones_equal (λ y e. e)) ∙ none_set c.constraints-count.result k
