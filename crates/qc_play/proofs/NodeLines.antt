-- What a node's tree is, by the line that its body begins with.
use Rattle.std.proofs.Common.{◌≡◌, List, ◌∷◌, ◌++◌, subst, Option, refl}
use Rattle.proof_tree.specs.declared.line.Line.{Line}
use Rattle.proof_tree.specs.declared.line.Line.TheVariants.{Stuck, Goal}
use Rattle.proof_tree.specs.declared.tree.Horizon.{Horizon}
use Rattle.proof_tree.specs.declared.tree.Step.{Step}
use Rattle.proof_tree.specs.Lines.{tree_lines, body_lines}
use Rattle.proof_tree.specs.Tree.{Tree, tree, Body, stuck, goal, cases, Ending}
use Rattle.qc_play.specs.Beginnings.{ArePart}
use Rattle.qc_play.proofs.PartLines.{body_stuck, body_goal, body_own}

module _ (all ls : List Line) (line : Line) (body : (z : Option Horizon) (b : Body) (rest : List Line) → all ≡ tree_lines (tree z b) ++ rest → line ∷ ls ≡ body_lines b ++ rest) where
  pub stuck_tree : line ≡ Stuck → (t : Tree) (rest : List Line) → all ≡ tree_lines t ++ rest → (z : Option Horizon) × (t ≡ tree z stuck) × (ls ≡ rest)
  stuck_tree q (tree z b) rest e =
      let k = body_stuck b rest ls (subst (λ l. l ∷ ls ≡ body_lines b ++ rest) q (body z b rest e)) in
      (z, subst (λ c. tree z b ≡ tree z c) k.0 refl, k.1)

  pub goal_tree : line ≡ Goal → (t : Tree) (rest : List Line) → all ≡ tree_lines t ++ rest → (z : Option Horizon) × (t ≡ tree z goal) × (ls ≡ rest)
  goal_tree q (tree z b) rest e =
      let k = body_goal b rest ls (subst (λ l. l ∷ ls ≡ body_lines b ++ rest) q (body z b rest e)) in
      (z, subst (λ c. tree z b ≡ tree z c) k.0 refl, k.1)

  pub own_tree_of : (line ≡ Stuck → ⊥) → (line ≡ Goal → ⊥) → (t : Tree) (rest : List Line) → all ≡ tree_lines t ++ rest →
      (z : Option Horizon) × (steps : List Step) × (e : Ending) × (t ≡ tree z (cases steps e)) × ArePart (line ∷ ls) steps e rest
  own_tree_of a c (tree z b) rest e =
      let k = body_own b rest ls line a c (body z b rest e) in
      (z, k.0, k.1, subst (λ u. tree z b ≡ tree z u) k.2 refl, k.3)
