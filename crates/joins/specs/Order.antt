-- Which of two numbers, and which of two vectors, comes first: the better one.
use Rattle.std.specs.Prelude.{cond, List, ℤ}
use Rattle.std.specs.declared.cmp.Ordering.{Ordering}
use Rattle.std.specs.declared.cmp.Ordering.TheVariants.{Less, Equal, Greater}
use Rattle.qc_model.specs.declared.problem.Sense.{Sense}
use Rattle.qc_model.specs.declared.problem.Condition.{Condition}
use Rattle.qc_model.specs.Optimal.{is_better}
use Rattle.qc_model.specs.Demands.{is_better_vector}

abbrev pub number_order : Sense → ℤ → ℤ → Ordering
number_order s x y = cond (is_better s x y) Less (cond (is_better s y x) Greater Equal)

abbrev pub vector_order : List Condition → List ℤ → List ℤ → Ordering
vector_order d v w = cond (is_better_vector d v w) Less (cond (is_better_vector d w v) Greater Equal)
