-- What a memory keeps.
use Rattle.std.specs.Prelude.{◌≡◌, ◌≤◌, ◌+◌, ℕ, Option, List, length, take, drop, ℤ, IfSome, IsTrue}
use Rattle.std.specs.List.{All}
use Rattle.qc_model.specs.Content.{Game}
use Rattle.likeness.specs.Likeness.{ask_nothing}
use Rattle.check_memory.specs.declared.node.Node.{Node}
use Rattle.check_memory.specs.Known.{IsKnown}

-- the node is known by its part of the values and of the texts
pub record IsNodeOf (g : Game) (values : List ℤ) (texts : List ℕ) (n : Node) : Type 0 where
  pub values_within : n.values + n.count ≤ length values
  pub text_within : n.text + n.size ≤ length texts
  pub known : IsKnown g n.scope n.horizon (take n.count (drop n.values values)) n.won n.turns n.depth (take n.size (drop n.text texts))

-- the nodes are known; what positions are compared by is of the game, and is there only where nothing is optimised
pub record IsMemoryOf (g : Game) (likeness : Option Game) (kept : List Node) (values : List ℤ) (texts : List ℕ) : Type 0 where
  pub compared : IfSome likeness (λ l. l ≡ g)
  pub plain : IfSome likeness (λ l. IsTrue (ask_nothing g.scopes))
  pub nodes : All (IsNodeOf g values texts) kept
