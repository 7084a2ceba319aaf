-- What the tree of a dense certificate is. Nodes, and other numbers of it, count from 0.
use Rattle.std.specs.Prelude.{ℕ, Bool, Option, List, ℤ}
use Rattle.qc_model.specs.declared.problem.ScopeId.{ScopeId}
use Rattle.qc_model.specs.declared.problem.VarId.{VarId}

-- a step of a scope's own tree
pub data Step : Type 0 where
  -- the box becomes the greatest closed box within it
  close : Step
  -- a variable gives values up, from one to another, since they are no better than what may be had elsewhere
  bound : VarId → ℤ → ℤ → Step
  -- a tuple that the owner of the last scope can count on: values that are worse by its condition go
  reply : List ℤ → Step

mutual
  pub data Node : Type 0 where
    -- named or not, with the horizon that begins there
    node : Bool → Option ScopeId → Body → Node
    -- it comes to what an earlier named node came to
    again : ℕ → Node
    -- lost, since no play from here passes all scopes up to this one
    no_play : ScopeId → Node

  pub data Body : Type 0 where
    stuck : Body
    goal : Body
    cases : List Step → Ending → Body

  pub data Ending : Type 0 where
    empty : Ending
    barred : Ending
    -- no better than the best value left to the variable that is demanded first
    best_left : Ending
    -- lost, as at a node
    dead : ScopeId → Ending
    next : Node → Ending
    -- one tuple of the scope; its others are skipped
    chosen : List ℤ → Node → Ending
    branch : VarId → Branches → Ending

  -- the cases of a branch, in order, each with the value that it goes up to where it has one
  pub data Branches : Type 0 where
    no_more : Branches
    piece : Option ℤ → Case → Branches → Branches

  pub data Case : Type 0 where
    skip : Case
    left_open : Case
    go : List Step → Ending → Case

-- a tuple of a universal scope that its owner can always take
pub record Given : Type 0 where
  pub scope : ScopeId
  pub tuple : List ℤ

pub record Certificate : Type 0 where
  pub given : List Given
  pub root : Node
