-- Which variables each constraint has, and which constraints have each variable.
use Rattle.std.specs.Prelude.{◌≡◌, ◌<◌, ℕ, Bool, List, [], length, slice_get, slice_index_or, Some, IsTrue}
use Rattle.std.specs.List.{list_all}
use Rattle.qc_model.specs.declared.problem.ConId.{ConId}
use Rattle.qc_model.specs.declared.problem.VarId.{VarId}
use Rattle.qc_model.specs.Arguments.{variables_of}
use Rattle.qc_model.specs.Content.{Game, Rule}
use Rattle.model_arguments.specs.Written.{variable_numbers}
use Rattle.dense_close.specs.Waiting.{stands_in}

-- the constraints of each variable
abbrev pub Having : Type 0
Having = List (List ConId)

pub record Index : Type 0 where
  pub own : List (List VarId)
  pub having : Having

-- the variables of constraint k
abbrev pub own : List (List VarId) → ℕ → List VarId
own os k = slice_index_or os k []

-- the constraints that have x
abbrev pub having : Having → ℕ → List ConId
having hs x = slice_index_or hs x []

-- constraint k is one of them
abbrev pub has_it : Having → ℕ → ℕ → Bool
has_it hs k x = stands_in (having hs x) k

-- each list has what it had
pub record HasGrown (hs then : Having) : Type 0 where
  pub count : length then ≡ length hs
  pub kept : (k x : ℕ) → IsTrue (has_it hs k x) → IsTrue (has_it then k x)

-- each constraint before the one with number n has the variables that are told of it, and is told of each of them
pub record IsIndexTo (n : ℕ) (g : Game) (i : Index) : Type 0 where
  pub count : length i.own ≡ n
  pub variables : length i.having ≡ length g.variables
  pub own_are : (k : ℕ) (c : Rule) → k < n → slice_get g.constraints k ≡ Some c → variable_numbers (own i.own k) ≡ variables_of c.args
  pub told : (k : ℕ) (c : Rule) → k < n → slice_get g.constraints k ≡ Some c → IsTrue (list_all (has_it i.having k) (variables_of c.args))

-- so does each constraint
pub record IsIndexOf (g : Game) (i : Index) : Type 0 where
  pub own_are : (k : ℕ) (c : Rule) → slice_get g.constraints k ≡ Some c → variable_numbers (own i.own k) ≡ variables_of c.args
  pub told : (k : ℕ) (c : Rule) → slice_get g.constraints k ≡ Some c → IsTrue (list_all (has_it i.having k) (variables_of c.args))
