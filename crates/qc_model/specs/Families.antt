-- The family of each predicate.
use Rattle.qc_model.specs.declared.problem.Pred.{Pred}
use Rattle.qc_model.specs.declared.families.Family.{Family}
use Rattle.qc_model.specs.Meaning.{row_of}

abbrev pub family : Pred → Family
family p = (row_of p).family
