-- What is gathered of a scope of either kind.
use Rattle.std.proofs.Common.{◌≡◌, ℕ, List, length, sym, subst, ℤ, Option}
use Rattle.std.specs.Prelude.{Result, IfOk}
use Rattle.qc_model.specs.declared.problem.Condition.{Condition}
use Rattle.qc_model.specs.Content.{Game}
use Rattle.joins.specs.declared.leaves.Found.{Found}
use Rattle.joins.specs.Seen.{verdict_of}
use Rattle.proof_tree.specs.Finding.{Leaf, kind_finding}
use Rattle.qc_play.specs.declared.shown.Shown.{Shown}
use Rattle.qc_play.specs.declared.gathering.Gathering.{Gathering}
use Rattle.qc_play.specs.Shown.{Shows}
use Rattle.qc_play.specs.Gathers.{Gathers, IsAtScope, owner_of, count_before}

-- what is shown is that of each scope for which the gathering may be
abbrev pub IsShown : Gathering → Found → Shown → Type 0
IsShown z found shown =
    (g : Game) (own : Option Condition) (i : ℕ) (d : List Condition) (a v : List ℤ) (ls : List Leaf) → length a ≡ count_before z → IsAtScope z g own i d a ls → Gathers z ls →
    verdict_of found v ≡ (kind_finding (owner_of z) own g i d a ls).verdict → Shows (kind_finding (owner_of z) own g i d a ls) v shown

abbrev pub Finishes : {E : Type 0} → Result Shown E → Gathering → Found → Type 0
Finishes res z found = IfOk res (λ shown. IsShown z found shown)

pub finishes_as : {E : Type 0} (res : Result Shown E) (z w : Gathering) (found : Found) → z ≡ w → Finishes res w found → Finishes res z found
finishes_as res z w found e h = subst (λ (y : Gathering). Finishes res y found) (sym e) h
