-- A node of a scope, from its horizon and its own tree below it; and the node below a tuple.
use Rattle.std.proofs.Common.{◌≡◌, ◌∙◌, ◌+◌, ◌++◌, ℕ, suc, Bool, true, List, drop, length, add-one, refl, sym, ap, subst, Option, ℤ}
use Rattle.qc_model.specs.Content.{Game}
use Rattle.qc_model.specs.Domains.{Box}
use Rattle.qc_model.specs.Verdict.{Seen}
use Rattle.proof_tree.specs.InPlace.{horizon_below}
use Rattle.proof_tree.specs.Lines.{horizon_lines}
use Rattle.proof_tree.specs.declared.line.Line.{Line}
use Rattle.proof_tree.specs.declared.tree.Horizon.{Horizon}
use Rattle.joins.specs.declared.leaves.Found.{Found}
use Rattle.search_box.specs.Looking.{LooksAhead, scope_number}
use Rattle.search_kept.specs.Known.{IsEnded}
use Rattle.search_walk.specs.declared.stage.Stage.{Stage}
use Rattle.search_walk.specs.declared.walk.Walk.{Walk}
use Rattle.search_walk.specs.Here.{Here, at_horizon, here_at, node_of, with_above}
use Rattle.search_walk.specs.Put.{BodyPut, IsBack}
use Rattle.search_walk.specs.Rivals.{StandsAbove, above_at}
use Rattle.search_walk.specs.Told.{BelowAnswers, BelowEnded, HasFew, IsBackBelow, NodeEnded, NodeLines, NodeTold, NodeWrites, SeesOn, came_to}
use Rattle.search_walk.proofs.Here.{body_more, whole_node}

-- one place in other words
pub same_place : (cuts : Bool) (above : ℤ → Bool) (k g : Game) (n i : ℕ) (now box : Box) (h : Option ℕ) → k ≡ g → n ≡ i → now ≡ box → here_at cuts above k n now h ≡ here_at cuts above g i box h
same_place cuts above k g n i now box h game number content =
    ap (λ (f : Game). here_at cuts above f n now h) game ∙ (ap (λ m. here_at cuts above g m now h) number ∙ ap (λ (d : Box). here_at cuts above g i d h) content)

-- by what stands below its horizon, from the line `mid` on
pub node_put : (node body : Here) (below : Option ℕ) (z : Option Horizon) (found : Found) (a w : Walk) (mid : List Line) → body ≡ at_horizon node below → LooksAhead node.game node.number node.box node.horizon z → below ≡ horizon_below z node.horizon → mid ≡ a.lines ++ horizon_lines z →
    BodyPut body (came_to found w) a.left w.left mid w.lines w.joins → NodeTold node found a w
node_put node body below z found a w mid same ahead e lines told =
    whole_node node below z (came_to found w) a.left w.left a.lines mid w.lines w.joins ahead.placed ahead.fits e lines (subst (λ (p : Here). BodyPut p (came_to found w) a.left w.left mid w.lines w.joins) same told)

-- no horizon is missed in the own tree
tree_sees : (node tree : Here) (below : Option ℕ) (z : Option Horizon) → tree ≡ at_horizon node below → LooksAhead node.game node.number node.box node.horizon z → below ≡ horizon_below z node.horizon → SeesOn tree
tree_sees node tree below z same ahead e = subst SeesOn (sym same) (subst (λ h. SeesOn (at_horizon node h)) (sym e) ahead.foreseen)

-- by its own tree, which may be outdone by less than the scope right above beats
pub node_searched : (node tree : Here) (own : ℤ → Bool) (below : Option ℕ) (z : Option Horizon) (found : Found) (a w : Walk) (mid : List Line) → tree ≡ at_horizon (with_above node own) below → ((n : ℤ) → own n ≡ true → node.above n ≡ true) → LooksAhead node.game node.number node.box node.horizon z → below ≡ horizon_below z node.horizon →
    mid ≡ a.lines ++ horizon_lines z → (HasFew a → SeesOn tree → BodyPut tree (came_to found w) a.left w.left mid w.lines w.joins) → HasFew a → NodeTold node found a w
node_searched node tree own below z found a w mid same beats ahead e lines told few =
    let v = came_to found w in
    let body = told few (tree_sees (with_above node own) tree below z same ahead e) in
    let here = subst (λ (p : Here). BodyPut p v a.left w.left mid w.lines w.joins) same body in
    node_put node (at_horizon node below) below z found a w mid refl ahead e lines (body_more (at_horizon (with_above node own) below) node.above v a.left w.left mid w.lines w.joins beats here)

-- the node below a tuple, in words of the scope above it
module _ (s : Stage) (found : Found) (a w : Walk) where
  pub below_told : NodeWrites s.cuts s.levels.now.problem.now (s.level.now.number + 1) s.horizon found a w → BelowAnswers s found a w
  below_told told few up stands =
      let n = s.level.now.number in
      let h = scope_number s.horizon in
      let t = told few up (subst (λ m. StandsAbove a.joins m up) (sym (add-one n)) stands) in
      subst (λ m. NodeLines (node_of s.cuts (above_at s.level.now.problem.now m up) s.level.now.problem.now m h a) found a w) (add-one n)
      (subst (λ (f : Game). NodeLines (node_of s.cuts (above_at f (n + 1) up) f (n + 1) h a) found a w) (sym s.same) t)

  pub below_ended : NodeEnded s.cuts s.levels.now.problem.now (s.level.now.number + 1) s.horizon found a w → BelowEnded s found a w
  below_ended ended =
      let n = s.level.now.number in
      subst (λ m. NodeEnded s.cuts s.level.now.problem.now m s.horizon found a w) (add-one n) (subst (λ (f : Game). NodeEnded s.cuts f (n + 1) s.horizon found a w) (sym s.same) ended)

pub below_back : (s : Stage) (a w : Walk) → IsBack s.levels.now.problem.now (s.level.now.number + 1) a w → IsBackBelow s a w
below_back s a w back =
    let n = s.level.now.number in
    subst (λ m. IsBack s.level.now.problem.now m a w) (add-one n) (subst (λ (f : Game). IsBack f (n + 1) a w) (sym s.same) back)
