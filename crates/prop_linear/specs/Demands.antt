-- What a sum is to be, beside a number.
use Rattle.std.specs.Prelude.{◌≡◌, ◌⊎◌, Bool, true, false, List, [], ◌∷◌, ℤ, pos, ◌-ℤ◌, int_lt, int_le}
use Rattle.qc_model.specs.declared.problem.Arg.{Arg}
use Rattle.qc_model.specs.Content.{Rule}
use Rattle.qc_model.specs.Domains.{Box}
use Rattle.qc_model.specs.Ranges.{Range, point, is_point, ranges_miss}
use Rattle.qc_model.specs.Refuted.{left_to}
use Rattle.model_arguments.specs.Written.{last_arg}
use Rattle.prop_compare.specs.Telling.{truth_of}
use Rattle.prop_linear.specs.declared.relation.Relation.{Relation}
use Rattle.prop_linear.specs.declared.relation.Relation.TheVariants.{AtMost, Equal, Different}
use Rattle.prop_linear.specs.declared.relation.Demand.{Demand}
use Rattle.prop_linear.specs.declared.relation.Demand.TheVariants.{UpTo, Over, Exactly, Off}
use Rattle.prop_linear.specs.Relations.{sum_pred, told_pred}
use Rattle.prop_linear.specs.Tightening.{IsBounded}
use Rattle.prop_linear.specs.Sides.{IsBalanced, opposite, signed}
use Rattle.prop_linear.specs.Unequal.{IsUnequal}

-- where the relation is to hold, and where it is to fail
abbrev pub demand_of : Relation → Bool → Demand
demand_of AtMost true = UpTo
demand_of AtMost false = Over
demand_of Equal true = Exactly
demand_of Equal false = Off
demand_of Different true = Off
demand_of Different false = Exactly

-- the constraint says no more of the sum; it is more than n where its negative is less than the opposite of n
abbrev pub IsDemanded : Demand → Rule → Box → List ℤ → List Arg → ℤ → Type 0
IsDemanded UpTo c box ns xs n = IsBounded c box ns xs n
IsDemanded Over c box ns xs n = IsBounded c box (signed true ns) xs (opposite n -ℤ pos 1)
IsDemanded Exactly c box ns xs n = IsBalanced c box ns xs n
IsDemanded Off c box ns xs n = IsUnequal c box ns xs n

-- no number of the range is what is demanded, beside n
abbrev pub is_missed : Demand → Range → ℤ → Bool
is_missed UpTo r n = int_lt n r.from
is_missed Over r n = int_le r.to n
is_missed Exactly r n = ranges_miss r (point n)
is_missed Off r n = is_point n r

-- whether the relation holds is said by the predicate, or by the last argument, which has one value
abbrev pub IsSaid : Relation → Bool → Rule → Box → Type 0
IsSaid r t c box =
    ((c.pred ≡ sum_pred r) × (t ≡ true)) ⊎ ((c.pred ≡ told_pred r) × (left_to box (last_arg c.args) ≡ truth_of t ∷ []))
