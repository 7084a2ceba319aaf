-- The root of a piece, beside a value that was reached elsewhere: what the calls of its search say.
use Rattle.std.specs.Prelude.{◌≡◌, ◌⊎◌, ◌≤◌, ◌<◌, ◌+◌, ◌*◌, ℕ, suc, Bool, false, Option, None, List, [], ◌++◌, length, ℤ, IsTrue, IsFalse}
use Rattle.qc_model.specs.Content.{Game}
use Rattle.qc_model.specs.Domains.{Box}
use Rattle.qc_model.specs.Verdict.{Verdict, Seen, is_exact}
use Rattle.proof_tree.specs.Counts.{turns_of, opens_of}
use Rattle.proof_tree.specs.Diligent.{closes, Foresees}
use Rattle.proof_tree.specs.InPlace.{in_place}
use Rattle.proof_tree.specs.Incumbents.{keeps}
use Rattle.proof_tree.specs.Lines.{tree_lines}
use Rattle.proof_tree.specs.Order.{opens_last, is_joined, settled_last}
use Rattle.proof_tree.specs.Pieces.{each_case, goes_at_one}
use Rattle.proof_tree.specs.Text.{tree_fits}
use Rattle.proof_tree.specs.Tree.{Tree}
use Rattle.proof_tree.specs.declared.line.Line.{Line}
use Rattle.proof_tree.specs.declared.tree.Version.TheVariants.{Two}
use Rattle.joins.specs.Seen.{verdict_of}
use Rattle.joins.specs.declared.leaves.Found.{Found}
use Rattle.joins.specs.declared.joins.Joins.{Joins}
use Rattle.search_parts.specs.Own.{IsOwnSized}
use Rattle.search_parts.specs.Settled.{beats_none, is_vague_verdict}
use Rattle.search_walk.specs.Here.{Here}
use Rattle.game_search.specs.Pieces.{own_beside, verdict_beside}
use Rattle.search_walk.specs.Put.{TellsOwn}
use Rattle.search_walk.specs.Told.{CaseTold, MayGoInto, came_to}
use Rattle.search_walk.specs.declared.walk.Walk.{Walk}

-- a root in this box, which came to v beside what was reached: as a node's record, without what a scope above would be told
pub record RootMade (cuts : Bool) (g : Game) (box : Box) (reached : Option ℤ) (v : Verdict) (had left : ℕ) (t : Tree) : Type 0 where
  pub placed : IsTrue (in_place g t g.scopes 0 [] box None)
  pub verdict : verdict_beside g t box reached ≡ v
  pub settled : IsTrue (settled_last g t g.scopes 0 [] box)
  pub lasts : IsTrue (each_case opens_last t)
  pub ones : IsTrue (each_case goes_at_one t)
  pub apart : IsTrue (each_case is_joined t)
  pub fits : IsTrue (tree_fits Two t)
  pub spent : turns_of t + left ≤ had
  pub exact : cuts ≡ false → had ≤ turns_of t + left
  pub opens : (opens_of t ≡ 0) ⊎ (left ≡ 0)
  pub gap : opens_of t ≡ 0 → IsFalse (is_vague_verdict beats_none v)
  -- the scope's own condition has a value only where the root is exact, and that is not too large
  pub known : IsFalse (is_exact v) → own_beside g t box reached ≡ None
  pub small : IsOwnSized (1000000000 + suc (2 * turns_of t)) (own_beside g t box reached)
  pub incumbents : IsTrue (keeps g t g.scopes 0 [] box)
  pub closed : IsTrue (closes g t g.scopes 0 box)
  pub foreseen : Foresees g t g.scopes 0 box None

-- the lines are those of such a root, and the first scope's join tells the value of its own condition
pub record RootPut (cuts : Bool) (g : Game) (box : Box) (reached : Option ℤ) (v : Verdict) (had left : ℕ) (old new : List Line) (joins : Joins) : Type 0 where
  pub tree : Tree
  pub lines : new ≡ old ++ tree_lines tree
  pub made : RootMade cuts g box reached v had left tree
  pub own : 0 < length g.scopes → TellsOwn g 0 joins (own_beside g tree box reached)

-- no more turns are left than a budget can have
abbrev pub HasBudget : Walk → Type 0
HasBudget w = w.left ≤ 10000000

abbrev pub RootAnswers : Bool → Game → Option ℤ → Found → Walk → Walk → Type 0
RootAnswers cuts g reached found old new = HasBudget old → RootPut cuts g old.remains.store.box reached (came_to found new) old.left new.left old.lines new.lines new.joins

-- the root's own tree, after what was seen elsewhere
abbrev pub BesideAnswers : Here → Walk → Walk → Type 0
BesideAnswers p old new = (before : List Seen) → MayGoInto p old before → CaseTold p before old new

-- one way through a piece: the lines are a root that came to this within the turns, and own is the value of the first scope's
-- condition
pub record PieceTried (cuts : Bool) (g : Game) (box : Box) (reached : Option ℤ) (turns : ℕ) (found : Found) (own : Option ℤ) (lines : List Line) : Type 0 where
  pub left : ℕ
  -- the vector, where it is exact
  pub vector : List ℤ
  pub tree : Tree
  pub is_lines : lines ≡ tree_lines tree
  pub made : RootMade cuts g box reached (verdict_of found vector) turns left tree
  pub has_own : own_beside g tree box reached ≡ own
