-- What nodes come to.
use Rattle.std.specs.Prelude.{nat_lt, ◌&&◌, cond, Option, None, List, [], ◌∷◌, ℤ}
use Rattle.qc_model.specs.declared.problem.Kind.{Kind}
use Rattle.qc_model.specs.declared.problem.Kind.TheVariants.{Exists, Forall}
use Rattle.qc_model.specs.declared.problem.Sense.{Sense}
use Rattle.qc_model.specs.declared.problem.Target.{Target}
use Rattle.qc_model.specs.declared.problem.Target.TheVariants.{Var, Aggregate as Agg}
use Rattle.qc_model.specs.declared.problem.Condition.{Condition}
use Rattle.qc_model.specs.declared.problem.Scope.{Scope}
use Rattle.qc_model.specs.Demands.{demands_after}
use Rattle.qc_model.specs.Domains.{values_left}
use Rattle.qc_model.specs.Game.{before}
use Rattle.qc_model.specs.Verdict.{Verdict, lost, exact, at_most, unknown, Seen, is_lost, each_node, bounds, is_none_of, first_value}
use Rattle.qc_model.specs.ExistsVerdict.{exists_verdict, exists_own, best_number}
use Rattle.qc_model.specs.ForallVerdict.{forall_verdict, stuck_verdict, entry_values, numbers_for}
use Rattle.proof_tree.specs.Place.{position}
use Rattle.proof_tree.specs.Steps.{best_value}
use Rattle.dense_tree.specs.Tuples.{all_hold, some_fails}
use Rattle.dense_tree.specs.Place.{Setting, Place, restricted}

-- at what first value an exact node is an upper bound: that of its vector; but of a variable of an earlier scope, which may have
-- several values left, the best of them. The vector has the least
abbrev pub first_of : Setting → Place → Sense → Target → List ℤ → ℤ
first_of s p sense (Var x) v = cond (nat_lt x.0 (before s.game p.number)) (best_value sense (values_left p.box x.0)) (first_value v)
first_of s p sense (Agg q) v = first_value v

abbrev pub upper_bound : Setting → Place → List Condition → List ℤ → Verdict
upper_bound s p [] v = unknown
upper_bound s p (c ∷ d) v = at_most (first_of s p c.sense c.target v)

-- nothing is exact in a loose part: there it is an upper bound
abbrev pub loosened : Setting → Place → Verdict → Verdict
loosened s p lost = lost
loosened s p (exact v) = cond p.loose (upper_bound s p p.list v) (exact v)
loosened s p (at_most n) = at_most n
loosened s p unknown = unknown

-- the goal: lost where the box refutes a constraint of it, exact where it entails all. One position it refutes or entails
abbrev pub goal_comes_to : Setting → Place → Verdict
goal_comes_to s p =
    cond (some_fails (restricted s p) p.box) lost
    (cond (all_hold (restricted s p) p.box) (exact (entry_values s.game p.list (position s.game p.number p.box) (numbers_for p.list []))) unknown)

-- the owner of the scope is stuck
abbrev pub stuck_comes_to : Setting → Place → List Scope → Verdict
stuck_comes_to s p [] = lost
stuck_comes_to s p (scope ∷ later) = stuck_verdict s.game scope.kind p.list (position s.game p.number p.box)

-- leaves that only leave these best values to what is demanded first, where the others are lost or barred
abbrev pub best_of : List Condition → List Seen → List ℤ → Verdict
best_of [] seen bests = unknown
best_of (c ∷ d) seen bests = cond (each_node is_lost seen && is_none_of (bounds seen)) (at_most (best_number c.sense bests)) unknown

abbrev pub exists_comes_to : Option Condition → Setting → Place → List Seen → List ℤ → Verdict
exists_comes_to own s p seen [] = exists_verdict own (demands_after s.game Exists own p.list) seen
exists_comes_to own s p seen (v ∷ bests) = best_of p.list seen (v ∷ bests)

abbrev pub kind_comes_to : Kind → Option Condition → Setting → Place → List Seen → List ℤ → Verdict
kind_comes_to Exists own s p seen bests = exists_comes_to own s p seen bests
kind_comes_to Forall own s p seen bests = forall_verdict s.game p.list (position s.game p.number p.box) seen

-- a scope, from the leaves and marks of its own tree, and the best values that leaves leave
abbrev pub scope_comes_to : Setting → Place → List Scope → List Seen → List ℤ → Verdict
scope_comes_to s p [] seen bests = unknown
scope_comes_to s p (scope ∷ later) seen bests = kind_comes_to scope.kind scope.condition s p seen bests

-- and the value of its own condition
abbrev pub kind_own : Kind → Option Condition → Setting → Place → List Seen → Option ℤ
kind_own Exists own s p seen = exists_own own (demands_after s.game Exists own p.list) seen
kind_own Forall own s p seen = None

abbrev pub scope_own : Setting → Place → List Scope → List Seen → Option ℤ
scope_own s p [] seen = None
scope_own s p (scope ∷ later) seen = kind_own scope.kind scope.condition s p seen
