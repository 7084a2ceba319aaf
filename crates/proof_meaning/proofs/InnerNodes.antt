-- At every node of a valid game that is read with a fair box, the verdict means what it says.
use Rattle.std.proofs.Common.{◌≡◌, ℕ, ◌≤◌, Bool, List, length, map, drop, sym, ap, ◌∙◌, subst, Option}
use Rattle.std.specs.Prelude.{ℤ, IsTrue}
use Rattle.qc_model.specs.Content.{Game}
use Rattle.qc_model.specs.Domains.{Box, least_value}
use Rattle.qc_model.specs.Demands.{demands}
use Rattle.qc_model.specs.Valid.{IsValid}
use Rattle.proof_tree.specs.declared.tree.Horizon.{Horizon}
use Rattle.proof_tree.specs.Tree.{Tree}
use Rattle.proof_tree.specs.Place.{position}
use Rattle.proof_tree.specs.InPlace.{in_place, horizon_in_place, horizon_below}
use Rattle.proof_tree.specs.Read.{read}
use Rattle.proof_tree.specs.Good.{IsBlocked}
use Rattle.proof_tree.specs.Fair.{IsBoxAt, IsFairBox}
use Rattle.proof_tree.specs.Meaning.{VerdictMeans}
use Rattle.proof_meaning.proofs.Blocks.{blocked_below}
use Rattle.proof_meaning.proofs.Boxes.{heads_singles}
use Rattle.proof_meaning.proofs.FairForms.{frame_of, node_of}
use Rattle.proof_meaning.proofs.Frames.{FairNode}
use Rattle.proof_meaning.proofs.Premises.{sound_of}
use Rattle.proof_meaning.proofs.Standing.{sees_from, asked_from, left_from}
use Rattle.proof_meaning.proofs.Trees.{tree_means}

same_position : (g : Game) (i : ℕ) (a : List ℤ) (box : Box) → IsBoxAt g i a box → position g i box ≡ a
same_position g i a box b = ap (map least_value) ((frame_of g i a box b).earlier b.full) ∙ heads_singles a

pub node_means : (g : Game) (t : Tree) (i : ℕ) (a : List ℤ) (box : Box) (b : Bool) (h : Option ℕ) → IsValid g → i ≤ length g.scopes → IsFairBox g b i a box → IsBlocked g i a box h →
    IsTrue (in_place g t (drop i g.scopes) i (demands g i) box h) →
    VerdictMeans (read g t (drop i g.scopes) i (demands g i) box).verdict g (drop i g.scopes) i (demands g i) a box (read g t (drop i g.scopes) i (demands g i) box) b
node_means g t i a box b h valid le f blocked e =
    let later = drop i g.scopes in
    let d = demands g i in
    let q = same_position g i a box f.is_box in
    let n = node_of g valid b later i a box (left_from g i le) f.is_box f.fair f.all in
    subst (λ z. VerdictMeans (read g t later i d box).verdict g later i d z box (read g t later i d box) b) q
    (tree_means g (sound_of g valid) t later i d box b h (left_from g i le) (sees_from g valid i) (asked_from g valid i le) f.is_box.full
    (subst (λ z. FairNode g b later i z box) (sym q) n) (subst (λ z. IsBlocked g i z box h) (sym q) blocked) e).verdict

pub horizon_blocks : (g : Game) (z : Option Horizon) (i : ℕ) (a : List ℤ) (box : Box) (h : Option ℕ) → IsValid g → IsBoxAt g i a box → IsTrue (horizon_in_place g z (drop i g.scopes) i box h) → IsBlocked g i a box h →
    IsBlocked g i a box (horizon_below z h)
horizon_blocks g z i a box h valid b e blocked =
    let r = sound_of g valid in
    let f = frame_of g i a box b in
    blocked_below g r.table r.ordered z (drop i g.scopes) i a box h f.count f.within b.full e blocked
