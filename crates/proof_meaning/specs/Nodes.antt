-- A node of scope i of a game, or of the goal, apart from the tree above it.
use Rattle.std.specs.Prelude.{◌≡◌, ℕ, Bool, Option, Some, List, drop, slice_get, ℤ}
use Rattle.qc_model.specs.declared.problem.Scope.{Scope}
use Rattle.qc_model.specs.Content.{Game}
use Rattle.qc_model.specs.Domains.{Box}
use Rattle.qc_model.specs.Block.{force_stop}
use Rattle.qc_model.specs.Demands.{demands}
use Rattle.proof_tree.specs.declared.tree.Step.{Step}
use Rattle.proof_tree.specs.Tree.{Tree}
use Rattle.proof_tree.specs.Place.{list_after, tracked_variable}
use Rattle.proof_tree.specs.Steps.{is_legal}
use Rattle.proof_tree.specs.InPlace.{in_place}
use Rattle.proof_tree.specs.Finding.{Finding}
use Rattle.proof_tree.specs.Read.{read}
use Rattle.proof_tree.specs.Meaning.{VerdictMeans}

-- the tree is in place at a node of scope i with this box, where h is the horizon in force above
abbrev pub node_in_place : Game → Tree → ℕ → Box → Option ℕ → Bool
node_in_place g t i box h = in_place g t (drop i g.scopes) i (demands g i) box h

-- what the tree comes to there
abbrev pub node_finding : Game → Tree → ℕ → Box → Finding
node_finding g t i box = read g t (drop i g.scopes) i (demands g i) box

-- its verdict means what it says at the values a, by the strategy and the counterstrategy read from the node
abbrev pub NodeMeans : Game → Tree → ℕ → List ℤ → Box → Bool → Type 0
NodeMeans g t i a box is_bounded =
    VerdictMeans (node_finding g t i box).verdict g (drop i g.scopes) i (demands g i) a box (node_finding g t i box) is_bounded

-- s is scope i
abbrev pub IsScope : Game → ℕ → Scope → Type 0
IsScope g i s = slice_get g.scopes i ≡ Some s

-- the step may be taken within the tree of scope i
abbrev pub is_legal_at : Game → ℕ → Step → Box → Bool
is_legal_at g i step box =
    is_legal g i (force_stop (drop i g.scopes) i) (tracked_variable g (drop i g.scopes) i (list_after g (drop i g.scopes) (demands g i))) step box
