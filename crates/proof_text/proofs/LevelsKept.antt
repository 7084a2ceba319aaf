-- Branches that are open, by levels.
use Rattle.std.proofs.Common.{◌≡◌, refl, ℕ, zero, suc, ◌+◌, ◌<◌, List, ◌∷◌, Bool, false, cond, set, length, arith}
use Rattle.std.proofs.lemmas.List.{get_or-set_same, get_or-set_other}
use Rattle.proof_tree.specs.declared.tree.Version.{Version}
use Rattle.proof_text.specs.Symbols.{branches}
use Rattle.proof_text.specs.Nesting.{open_branches}

-- a deeper level makes no difference
pub open_set : (v : Version) (marks : List Bool) (n k : ℕ) (t : Bool) → n < k → open_branches v (set marks k t) n ≡ open_branches v marks n
open_set v marks zero k t h = refl
open_set v marks (suc n) k t h =
    rw (get_or-set_other marks k (suc n) t false (λ e. omega arith), open_set v marks n k t (omega arith)) refl

pub entered : (v : Version) (marks : List Bool) (n : ℕ) (t : Bool) → suc n < length marks
    → open_branches v (set marks (suc n) t) (suc n) ≡ cond t (branches v (suc n) ∷ open_branches v marks n) (open_branches v marks n)
entered v marks n t h = rw (get_or-set_same marks (suc n) t false h, open_set v marks n (suc n) t (omega arith)) refl

pub entered_at : (v : Version) (marks : List Bool) (n k : ℕ) (t : Bool) → k ≡ n + 1 → n + 1 < length marks
    → open_branches v (set marks k t) (n + 1) ≡ cond t (branches v (n + 1) ∷ open_branches v marks n) (open_branches v marks n)
entered_at v marks n k t e h =
    let one : n + 1 ≡ suc n = omega arith in
    rw (e, one) (entered v marks n t (omega arith))
