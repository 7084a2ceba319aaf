-- Where every leaf of a universal scope is exact, the leaves go on with exactly its allowed tuples, each once.
use Rattle.std.proofs.Common.{◌≡◌, ℕ, Bool, true, false, List, [], ◌∷◌, ◌++◌, length, map, drop, refl, sym, ap, ◌∙◌, subst, Option}
use Rattle.std.specs.Prelude.{ℤ, IsTrue}
use Rattle.std.specs.List.{list_all}
use Rattle.std.proofs.Math.Seq.{drop-append_seam}
use Rattle.qc_model.specs.declared.problem.Kind.{Kind}
use Rattle.qc_model.specs.declared.problem.Kind.TheVariants.{Exists, Forall}
use Rattle.qc_model.specs.declared.problem.Scope.{Scope}
use Rattle.qc_model.specs.declared.problem.Condition.{Condition}
use Rattle.qc_model.specs.Content.{Game}
use Rattle.qc_model.specs.Lists.{Among, Distinct}
use Rattle.qc_model.specs.Domains.{Box, InBox, has_empty}
use Rattle.qc_model.specs.Game.{IsMove}
use Rattle.qc_model.specs.Verdict.{is_exact, each_node}
use Rattle.qc_model.proofs.Moves.{moves_to, moves_from}
use Rattle.proof_tree.specs.Finding.{Leaf, leaf_barred, leaf_skipped, leaf_bound, leaf_node, seen_of}
use Rattle.proof_tree.specs.Fair.{bounded_within}
use Rattle.proof_meaning.specs.Answered.{tuples_on, GoOnFrom, GoOnWithAll}
use Rattle.proof_meaning.proofs.LeafWords.{not_skipped, none_skipped}
use Rattle.proof_meaning.proofs.Frames.{FairNode, front_in}
use Rattle.proof_meaning.proofs.Entering.{declared_move, rest_declared}
use Rattle.proof_meaning.proofs.LeafLists.{EachLeaf, leaf_tuples, LeavesMean, tuple_lies, reached_tuple}

same_tuples : (n : ℕ) (ls : List Leaf) → leaf_tuples n ls ≡ tuples_on n ls
same_tuples n [] = refl
same_tuples n (leaf_barred ∷ ls) = same_tuples n ls
same_tuples n (leaf_skipped ∷ ls) = same_tuples n ls
same_tuples n (leaf_bound m ∷ ls) = same_tuples n ls
same_tuples n (leaf_node w f ∷ ls) = ap (λ ts. drop n w ∷ ts) (same_tuples n ls)

from_here : (g : Game) (k : Kind) (later : List Scope) (i : ℕ) (e : List Condition) (a : List ℤ) (box : Box) (ls : List Leaf) → EachLeaf g k later i e a box ls → GoOnFrom a ls
from_here g k later i e a box [] h = tt
from_here g k later i e a box (leaf_barred ∷ ls) h = from_here g k later i e a box ls h
from_here g k later i e a box (leaf_skipped ∷ ls) h = from_here g k later i e a box ls h
from_here g k later i e a box (leaf_bound m ∷ ls) h = from_here g k later i e a box ls h
from_here g k later i e a box (leaf_node w f ∷ ls) h =
    let p = h.0.move in
    let t : drop (length a) w ≡ p.tuple = ap (drop (length a)) p.after ∙ drop-append_seam a p.tuple in
    (p.after ∙ ap (λ u. a ++ u) (sym t), from_here g k later i e a box ls h.1)

-- with every tuple, where nothing is skipped
all_go_on : (g : Game) (b : Bool) (x : Option Condition) (later : List Scope) (i : ℕ) (e : List Condition) (a : List ℤ) (box : Box) (ls : List Leaf) → LeavesMean g false Forall later i e a box ls →
    FairNode g b (record { kind = Forall; condition = x } ∷ later) i a box → has_empty box ≡ false → list_all not_skipped ls ≡ true → GoOnWithAll g i a ls
all_go_on g b x later i e a box ls mean fair full q = record {
  front = from_here g Forall later i e a box ls mean.each;
  distinct = subst Distinct same mean.distinct;
  there = λ t m. let v = moves_to g i a t m in subst (Among t) same (reached_tuple a t ls (mean.complete (λ n. absurd (never n)) q t (a ++ t) v refl (lies t v)));
  back = λ t m. moves_from g i a t (tuple_lies g Forall later i e a box ls mean.each t (subst (Among t) (sym same) m)).0;
}
  where
    same : leaf_tuples (length a) ls ≡ tuples_on (length a) ls
    same = same_tuples (length a) ls

    never : Forall ≡ Exists → ⊥
    never n = cc

    lies : (t : List ℤ) → IsMove g i a t → InBox (a ++ t) box
    lies t m = declared_move g i a t box fair.frame.count (front_in g i a box fair.frame full) (rest_declared g b x later i a box full fair) m

-- at a node of a scope of either kind
pub node_answered : (g : Game) (b : Bool) (k : Kind) (x : Option Condition) (later : List Scope) (i : ℕ) (e : List Condition) (a : List ℤ) (box : Box) (ls : List Leaf) →
    LeavesMean g (bounded_within k b) k later i e a box ls → FairNode g b (record { kind = k; condition = x } ∷ later) i a box → has_empty box ≡ false → k ≡ Forall →
    IsTrue (each_node is_exact (map seen_of ls)) → GoOnWithAll g i a ls
node_answered g b Exists x later i e a box ls mean fair full q exact = cc
node_answered g b Forall x later i e a box ls mean fair full q exact = all_go_on g b x later i e a box ls mean fair full (none_skipped is_exact ls exact)
