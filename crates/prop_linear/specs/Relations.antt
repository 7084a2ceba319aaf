-- The predicates of sums.
use Rattle.qc_model.specs.declared.problem.Pred.{Pred}
use Rattle.qc_model.specs.declared.problem.Pred.TheVariants.{IntLinLe, IntLinEq, IntLinNe, IntLinLeReif, IntLinEqReif, IntLinNeReif}
use Rattle.prop_linear.specs.declared.relation.Relation.{Relation}
use Rattle.prop_linear.specs.declared.relation.Relation.TheVariants.{AtMost, Equal, Different}

-- the predicate that says this of a sum and a number
abbrev pub sum_pred : Relation → Pred
sum_pred AtMost = IntLinLe
sum_pred Equal = IntLinEq
sum_pred Different = IntLinNe

-- and the one with a last argument that tells whether it is so
abbrev pub told_pred : Relation → Pred
told_pred AtMost = IntLinLeReif
told_pred Equal = IntLinEqReif
told_pred Different = IntLinNeReif
