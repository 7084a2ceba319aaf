-- Boxes that keep some values alone are wide.
use Rattle.std.proofs.Common.{◌≡◌, ℕ, zero, suc, List, [], ◌∷◌, set, get_or, subst, ℤ}
use Rattle.qc_model.specs.declared.problem.Condition.{Condition}
use Rattle.qc_model.specs.declared.problem.Scope.{Scope}
use Rattle.qc_model.specs.Content.{Game}
use Rattle.qc_model.specs.Lists.{Among}
use Rattle.qc_model.specs.Domains.{InBox, Box, declared_box}
use Rattle.qc_model.specs.Verdict.{Verdict}
use Rattle.proof_meaning.proofs.Narrowed.{within_in}
use Rattle.dense_meaning.specs.Throughout.{Throughout}
use Rattle.dense_meaning.specs.Plays.{IsDeclared}
use Rattle.dense_meaning.specs.Kept.{Kept, kept_box, HasKept}
use Rattle.dense_meaning.proofs.PlansLie.{restrict}

in_kept : (w : List ℤ) (box wide : Box) (x : ℕ) (v : ℤ) → get_or box x [] ≡ v ∷ [] → InBox w box → InBox w wide → InBox w (set wide x (v ∷ []))
in_kept [] box wide x v e h k = tt
in_kept (u ∷ w) box [] x v e h k = k
in_kept (u ∷ w) [] (d ∷ wide) x v e h k = absurd h
in_kept (u ∷ w) (b ∷ box) (d ∷ wide) zero v e h k = (subst (Among u) e h.0, k.1)
in_kept (u ∷ w) (b ∷ box) (d ∷ wide) (suc x) v e h k = (k.0, in_kept w box wide x v e h.1 k.1)

keeps_in : (g : Game) (ks : List Kept) (box : Box) → IsDeclared g box → HasKept ks box → (w : List ℤ) → InBox w box → InBox w (kept_box g ks)
keeps_in g [] box d k w h = within_in w box (declared_box g) d.values h
keeps_in g (x ∷ ks) box d k w h = in_kept w box (kept_box g ks) x.variable x.value k.0 h (keeps_in g ks box d k.1 w h)

pub cite : (v : Verdict) (g : Game) (later : List Scope) (i : ℕ) (d : List Condition) (ks : List Kept) (box : Box) → IsDeclared g box → HasKept ks box →
    Throughout v g later i d (kept_box g ks) → Throughout v g later i d box
cite v g later i d ks box dec k h = restrict v g later i d box (kept_box g ks) (keeps_in g ks box dec k) h
