-- A leaf that doesn't go on changes nothing of what is gathered.
use Rattle.std.proofs.Common.{List, [], ◌∷◌, ◌++◌, map, append_assoc, sym, subst, ℤ}
use Rattle.joins.proofs.Bests.{append_nothing}
use Rattle.proof_tree.specs.Finding.{Leaf, leaf_barred, leaf_skipped, leaf_bound}
use Rattle.qc_play.specs.declared.gathering.Gathering.{Gathering}
use Rattle.qc_play.specs.declared.gathering.Gathering.TheVariants.{Player, Opponent}
use Rattle.qc_play.specs.Shape.{entries_of, replies_of}
use Rattle.qc_play.specs.Gathers.{Gathers}
use Rattle.qc_play.proofs.LeavesMore.{IsQuiet, quiet_vectors}
use Rattle.qc_play.proofs.BestLeaf.{best_same}
use Rattle.qc_play.proofs.LeafEntries.{replies_quiet, answers_quiet, first_quiet}

pub gathers_quiet : (g : Gathering) (ls : List Leaf) (l : Leaf) → IsQuiet l → Gathers g ls → Gathers g (ls ++ l ∷ [])
gathers_quiet (Player p) ls l q k = record {
  best = best_same p.wishes.now p.before p.best ls l (quiet_vectors l q) k.best;
  replies = replies_quiet p.before (replies_of p.replies) ls l q k.replies;
}
gathers_quiet (Opponent p) ls l q k = record {
  first = first_quiet p.before p.first ls l q k.first;
  answers = answers_quiet p.before (entries_of p.answers) ls l q k.answers;
}

pub gathers_barred : (g : Gathering) (ls : List Leaf) → Gathers g ls → Gathers g (ls ++ leaf_barred ∷ [])
gathers_barred g ls k = gathers_quiet g ls leaf_barred tt k

pub gathers_skipped : (g : Gathering) (ls : List Leaf) → Gathers g ls → Gathers g (ls ++ leaf_skipped ∷ [])
gathers_skipped g ls k = gathers_quiet g ls leaf_skipped tt k

pub gathers_bound : (g : Gathering) (ls : List Leaf) (m : ℤ) → Gathers g ls → Gathers g (ls ++ leaf_bound m ∷ [])
gathers_bound g ls m k = gathers_quiet g ls (leaf_bound m) tt k

-- the marks of bounds, one after another
pub gathers_marks : (g : Gathering) (ls : List Leaf) (ms : List ℤ) → Gathers g ls → Gathers g (ls ++ map leaf_bound ms)
gathers_marks g ls [] k = subst (Gathers g) (sym (append_nothing ls)) k
gathers_marks g ls (m ∷ ms) k =
    subst (Gathers g) (append_assoc ls (leaf_bound m ∷ []) (map leaf_bound ms)) (gathers_marks g (ls ++ leaf_bound m ∷ []) ms (gathers_bound g ls m k))
