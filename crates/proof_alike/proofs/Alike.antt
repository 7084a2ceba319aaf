-- The laws of trees in boxes that look the same.
use Rattle.std.proofs.Common.{◌≡◌, ℕ, true, drop, Option}
use Rattle.std.specs.Prelude.{IsTrue}
use Rattle.qc_model.specs.Content.{Game}
use Rattle.qc_model.specs.Domains.{Box}
use Rattle.qc_model.specs.Demands.{demands}
use Rattle.model_arguments.proofs.Bools.{bools_same}
use Rattle.proof_tree.specs.Tree.{Tree}
use Rattle.proof_tree.specs.InPlace.{in_place}
use Rattle.proof_alike.specs.Alike.{AreAlike}
use Rattle.proof_alike.specs.Looking.{looks}
use Rattle.proof_alike.specs.Same.{DoesAlike}
use Rattle.proof_alike.proofs.Boxes.{Look, look_back}
use Rattle.proof_alike.proofs.Closing.{closes_same}
use Rattle.proof_alike.proofs.Foreseeing.{foresees_too}
use Rattle.proof_alike.proofs.Keeping.{keeps_alike}
use Rattle.proof_alike.proofs.Named.{later_named, demands_named}
use Rattle.proof_alike.proofs.Ordered.{settled_same}
use Rattle.proof_alike.proofs.Placed.{placed}
use Rattle.proof_alike.proofs.Reading.{reads_alike}
use Rattle.proof_alike.proofs.Seeing.{look}
use Rattle.proof_alike.proofs.Walks.{Named, walk}

named_at : (g : Game) (i : ℕ) → Named g (drop i g.scopes) (demands g i)
named_at g i = record { scopes = later_named g i; list = demands_named g i }

placed_too : (g : Game) (t : Tree) (i : ℕ) (a b : Box) (h : Option ℕ) → Look g i i a b → looks g i t ≡ true → in_place g t (drop i g.scopes) i (demands g i) a h ≡ true →
    in_place g t (drop i g.scopes) i (demands g i) b h ≡ true
placed_too g t i a b h l e p =
    let later = drop i g.scopes in
    let d = demands g i in
    placed g i t later i d a b h p l (walk g i t later i d a b h (named_at g i) e p l)

pub placed_alike : (g : Game) (t : Tree) (i : ℕ) (a b : Box) (h : Option ℕ) → AreAlike g i a b → IsTrue (looks g i t) →
    in_place g t (drop i g.scopes) i (demands g i) a h ≡ in_place g t (drop i g.scopes) i (demands g i) b h
placed_alike g t i a b h l e =
    let later = drop i g.scopes in
    let d = demands g i in
    let m = look g i a b l in
    bools_same (in_place g t later i d a h) (in_place g t later i d b h) (placed_too g t i a b h m e) (placed_too g t i b a h (look_back g i i a b m) e)

pub does_alike : (g : Game) (t : Tree) (i : ℕ) (a b : Box) (h : Option ℕ) → AreAlike g i a b → IsTrue (looks g i t) →
    IsTrue (in_place g t (drop i g.scopes) i (demands g i) a h) → DoesAlike g t (drop i g.scopes) i (demands g i) a b h
does_alike g t i a b h l e p =
    let later = drop i g.scopes in
    let d = demands g i in
    let n = named_at g i in
    let m = look g i a b l in
    let w = walk g i t later i d a b h n e p m in
    let r = reads_alike g i t later i d a b n m w in
    record {
      placed = placed g i t later i d a b h p m w;
      verdict = r.verdict;
      own = r.own;
      settled = settled_same g i t later i d a b n m w;
      kept = keeps_alike g i t later i d a b n m w;
      closed = closes_same g i t later i d a b m w;
      foreseen = foresees_too g i t later i d a b h m w;
    }
