-- How nodes ended, whose lines are kept.
use Rattle.std.proofs.Common.{◌≡◌, ℕ, Bool, true, List, length, drop, refl, sym, subst, Option, ℤ}
use Rattle.qc_model.specs.Content.{Game}
use Rattle.qc_model.specs.Domains.{Box}
use Rattle.qc_model.specs.Verdict.{Verdict}
use Rattle.proof_tree.specs.declared.line.Line.{Line}
use Rattle.joins.specs.Seen.{verdict_of}
use Rattle.joins.specs.declared.leaves.Found.{Found}
use Rattle.joins.specs.Joins.{out_of}
use Rattle.joins.specs.declared.joins.Joins.{Joins}
use Rattle.search_kept.specs.Known.{IsEnded}
use Rattle.search_parts.specs.Settled.{beats_none}
use Rattle.search_walk.specs.Here.{Here, here_at}
use Rattle.search_walk.specs.Put.{NodePut}
use Rattle.search_walk.specs.Told.{NodeTold, came_to}
use Rattle.search_kept.proofs.Knowing.{node_ends}
use Rattle.search_walk.specs.declared.walk.Walk.{Walk}

-- how a node ended, where it was told whatever is above
pub any_ends : (g : Game) (i : ℕ) (box : Box) (h : Option ℕ) (v : Verdict) (had left : ℕ) (old new : List Line) (joins : Joins) → ((cuts : Bool) (above : ℤ → Bool) → NodePut (here_at cuts above g i box h) v had left old new joins) →
    IsEnded g i box h v had left (drop (length old) new)
any_ends g i box h v had left old new joins told = node_ends true beats_none g i box box h v had left (length old) old new refl refl refl (told true beats_none).written

-- so by a search that cuts
pub told_ends : (node : Here) (found : Found) (a w : Walk) → node.cuts ≡ true → NodeTold node found a w → IsEnded node.game node.number node.box node.horizon (came_to found w) a.left w.left (drop (length a.lines) w.lines)
told_ends node found a w cut told = node_ends node.cuts node.above node.game node.number node.box node.box node.horizon (came_to found w) a.left w.left (length a.lines) a.lines w.lines cut refl refl told.written

-- and so afterwards, by its lines from `start` on
pub node_finished : (node : Here) (found : Found) (start : ℕ) (a w : Walk) → node.cuts ≡ true → w.remains.store.box ≡ node.box → start ≡ length a.lines → NodeTold node found a w → IsEnded node.game node.number w.remains.store.box node.horizon (came_to found w) a.left w.left (drop start w.lines)
node_finished node found start a w cut same begun told = node_ends node.cuts node.above node.game node.number node.box w.remains.store.box node.horizon (came_to found w) a.left w.left start a.lines w.lines cut same begun told.written

-- what was told stays so where the joins, the turns and the lines do
pub kept_told : (node : Here) (found : Found) (a b c : Walk) → c.joins ≡ b.joins → c.left ≡ b.left → c.lines ≡ b.lines → NodeTold node found a b → NodeTold node found a c
kept_told node found a b c joins left lines told =
    subst (λ (js : Joins). NodePut node (verdict_of found (out_of js)) a.left c.left a.lines c.lines js) (sym joins)
    (subst (λ n. NodePut node (came_to found b) a.left n a.lines c.lines b.joins) (sym left)
    (subst (λ ls. NodePut node (came_to found b) a.left b.left a.lines ls b.joins) (sym lines) told))
