-- Steps: where they are in place, what they leave, and their marks.
use Rattle.std.specs.Prelude.{suc, Bool, true, false, not, ◌&&◌, Option, Some, None, List, [], ◌∷◌, ◌++◌, filter, set, ℤ}
use Rattle.qc_model.specs.declared.problem.Sense.{Sense}
use Rattle.qc_model.specs.declared.problem.Target.{Target}
use Rattle.qc_model.specs.declared.problem.Target.TheVariants.{Var, Aggregate as Agg}
use Rattle.qc_model.specs.declared.problem.Condition.{Condition}
use Rattle.qc_model.specs.declared.problem.Scope.{Scope}
use Rattle.qc_model.specs.Block.{of_kind, constraints_within}
use Rattle.qc_model.specs.Domains.{Values, Box, values_left, values_within, box_without, least_value, is_single, has_empty}
use Rattle.qc_model.specs.Optimal.{is_better}
use Rattle.proof_tree.specs.Place.{Tracked, tracked_variable, list_after}
use Rattle.proof_tree.specs.Steps.{removes_some, is_tracked, best_value}
use Rattle.dense_tree.specs.Tree.{Step, close, bound, reply}
use Rattle.dense_tree.specs.Tuples.{all_hold, is_tuple_of, box_taken}
use Rattle.dense_tree.specs.Place.{Setting, Place, closed_box, with_box}

-- after steps: whether they are in place, the best value that each bound removes, and where they lead
pub record StepsRead : Type 0 where
  pub placed : Bool
  pub marks : List ℤ
  pub place : Place

-- closing is in place where there is a closed box
abbrev pub closing : Place → Option Box → StepsRead
closing p None = record { placed = false; marks = []; place = p }
closing p (Some box) = record { placed = true; marks = []; place = with_box box p }

-- a bound is of the variable that is demanded first
abbrev pub tracked : Setting → Place → Option Tracked
tracked s p = tracked_variable s.game p.later p.number (list_after s.game p.later p.list)

abbrev pub bound_marks : Option Tracked → Values → List ℤ
bound_marks None vs = []
bound_marks (Some t) vs = best_value t.sense vs ∷ []

-- the variable of the condition of the last scope, where it is the player's
abbrev pub target_variable : Sense → Target → Option Tracked
target_variable s (Var x) = Some (record { sense = s; variable = x.0 })
target_variable s (Agg q) = None

abbrev pub condition_variable : Option Condition → Option Tracked
condition_variable None = None
condition_variable (Some c) = target_variable c.sense c.target

abbrev pub last_condition : List Scope → Option Tracked
last_condition [] = None
last_condition (s ∷ []) = of_kind s.kind (condition_variable s.condition) None
last_condition (s ∷ t ∷ later) = None

-- the values that aren't worse than v
abbrev pub no_worse : Sense → ℤ → Values → Values
no_worse s v vs = filter (λ w. not (is_better s v w)) vs

-- where each variable has a value
abbrev pub unless_empty : Place → StepsRead → StepsRead
unless_empty p w = record { placed = not (has_empty p.box) && w.placed; marks = w.marks; place = w.place }

-- with its tuple taken the scope's restriction and the goal hold throughout the box, and the variable has one value: what is worse goes
abbrev pub replying : Setting → Place → Option Tracked → Box → List ℤ → StepsRead
replying s p None taken t = record { placed = false; marks = []; place = p }
replying s p (Some w) taken t = record {
  placed = is_tuple_of s.game p.number p.box t && all_hold (constraints_within s.game p.number (suc (suc p.number))) taken
      && is_single (values_left taken w.variable);
  marks = [];
  place = with_box (set p.box w.variable (no_worse w.sense (least_value (values_left taken w.variable)) (values_left p.box w.variable))) p;
}

abbrev pub read_step : Setting → Step → Place → StepsRead
read_step s close p = closing p (closed_box s p)
read_step s (bound x low high) p = record {
  placed = removes_some p.box x.0 low high && is_tracked x.0 (tracked s p);
  marks = bound_marks (tracked s p) (values_within low high (values_left p.box x.0));
  place = record p { box = box_without p.box x.0 low high; bounded = true };
}
read_step s (reply t) p = unless_empty p (replying s p (last_condition p.later) (box_taken s.game p.number p.box t) t)

abbrev pub both_steps : StepsRead → StepsRead → StepsRead
both_steps w rest = record { placed = w.placed && rest.placed; marks = w.marks ++ rest.marks; place = rest.place }

abbrev pub read_steps : Setting → List Step → Place → StepsRead
read_steps s [] p = record { placed = true; marks = []; place = p }
read_steps s (st ∷ steps) p = both_steps (read_step s st p) (read_steps s steps (read_step s st p).place)
