-- Which lists a universal scope may have. A sum says what each branch is worth once all of them are played as well as
-- can be; the least or the greatest speaks of the worst branch alone, so nothing else may be asked after it.
use Rattle.std.specs.Prelude.{ℕ, min, cond, Bool, true, false, not, ◌&&◌, ◌||◌, List, [], ◌∷◌, slice_get, Option, Some, None}
use Rattle.std.specs.List.{list_all}
use Rattle.qc_model.specs.declared.problem.Fold.{Fold}
use Rattle.qc_model.specs.declared.problem.Fold.TheVariants.{Sum, Least, Greatest}
use Rattle.qc_model.specs.declared.problem.Target.{Target}
use Rattle.qc_model.specs.declared.problem.Target.TheVariants.{Var, Aggregate as Agg}
use Rattle.qc_model.specs.declared.problem.Aggregate.{Aggregate}
use Rattle.qc_model.specs.declared.problem.Condition.{Condition}
use Rattle.qc_model.specs.declared.problem.Scope.{Scope}
use Rattle.qc_model.specs.Content.{Game}
use Rattle.qc_model.specs.Block.{of_kind}
use Rattle.qc_model.specs.Demands.{is_aggregate, demands_after}

abbrev pub is_sum : Fold → Bool
is_sum Sum = true
is_sum (Least n) = false
is_sum (Greatest n) = false

-- a problem has each aggregate that it names, so the case of None is never met
abbrev pub is_bottleneck_fold : Option Aggregate → Bool
is_bottleneck_fold None = true
is_bottleneck_fold (Some q) = not (is_sum q.fold)

-- the target is an aggregate by least or greatest
abbrev pub is_bottleneck : Game → Target → Bool
is_bottleneck g (Var x) = false
is_bottleneck g (Agg q) = is_bottleneck_fold (slice_get g.aggregates q.0)

-- y is a variable, or the aggregate x
abbrev pub names_no_other : Target → Target → Bool
names_no_other x (Var y) = true
names_no_other x (Agg q) = is_aggregate q.0 x

-- the list names no aggregate by least or greatest and, after it, a different aggregate
abbrev pub bottleneck_last : Game → List Condition → Bool
bottleneck_last g [] = true
bottleneck_last g (c ∷ d) = (not (is_bottleneck g c.target) || list_all (λ b. names_no_other c.target b.target) d) && bottleneck_last g d

-- so it is at each universal scope; d is the list of the first of the scopes
abbrev pub bottlenecks_last : Game → List Scope → List Condition → Bool
bottlenecks_last g [] d = true
bottlenecks_last g (s ∷ scopes) d = of_kind s.kind true (bottleneck_last g d) && bottlenecks_last g scopes (demands_after g s.kind s.condition d)

-- the lesser of two numbers, where they are there
abbrev pub lesser : Option ℕ → Option ℕ → Option ℕ
lesser None n = n
lesser (Some m) None = Some m
lesser (Some m) (Some n) = Some (min m n)

-- the number of the target, where it is by least or greatest and the entries name a different aggregate
abbrev pub followed : Game → Target → List Condition → Option ℕ
followed g (Var x) d = None
followed g (Agg q) d = cond (not (is_bottleneck g (Agg q)) || list_all (λ b. names_no_other (Agg q) b.target) d) None (Some q.0)

-- the least number of an aggregate by least or greatest that the list names before a different one
abbrev pub least_followed : Game → List Condition → Option ℕ
least_followed g [] = None
least_followed g (c ∷ d) = lesser (followed g c.target d) (least_followed g d)

-- the least such number in the lists of the universal scopes; d is the list of the first of the scopes
abbrev pub first_bottleneck : Game → List Scope → List Condition → Option ℕ
first_bottleneck g [] d = None
first_bottleneck g (s ∷ scopes) d =
    lesser (of_kind s.kind None (least_followed g d)) (first_bottleneck g scopes (demands_after g s.kind s.condition d))
