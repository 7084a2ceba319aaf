-- What a tree does alike in two boxes.
use Rattle.std.specs.Prelude.{◌≡◌, ℕ, Option, List, IsTrue}
use Rattle.qc_model.specs.declared.problem.Condition.{Condition}
use Rattle.qc_model.specs.declared.problem.Scope.{Scope}
use Rattle.qc_model.specs.Content.{Game}
use Rattle.qc_model.specs.Domains.{Box}
use Rattle.proof_tree.specs.Tree.{Tree}
use Rattle.proof_tree.specs.InPlace.{in_place}
use Rattle.proof_tree.specs.Read.{read}
use Rattle.proof_tree.specs.Order.{settled_last}
use Rattle.proof_tree.specs.Incumbents.{keeps}
use Rattle.proof_tree.specs.Diligent.{closes, Foresees}

-- The tree of a node of scope i, which has the list d, is in place in b, comes to the same as in a, and is in order, keeps
-- its incumbents, closes its boxes and sees ahead in b where it does in a; later has the scopes from i on, and h is the
-- horizon in force. The plans that it shows in a and in b may differ: they have the values of a position.
pub record DoesAlike (g : Game) (t : Tree) (later : List Scope) (i : ℕ) (d : List Condition) (a b : Box) (h : Option ℕ) : Type 0 where
  pub placed : IsTrue (in_place g t later i d b h)
  pub verdict : (read g t later i d a).verdict ≡ (read g t later i d b).verdict
  pub own : (read g t later i d a).own ≡ (read g t later i d b).own
  pub settled : settled_last g t later i d a ≡ settled_last g t later i d b
  pub kept : keeps g t later i d a ≡ keeps g t later i d b
  pub closed : closes g t later i a ≡ closes g t later i b
  pub foreseen : Foresees g t later i a h → Foresees g t later i b h
