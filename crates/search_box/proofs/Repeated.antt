-- Removals that are done once more, one after the other.
use Rattle.std.proofs.Common.{◌≡◌, ◌<◌, ◌+◌, ◌∙◌, ◌&&◌, ℕ, Bool, true, List, length, drop, get_or, sym, ap}
use Rattle.std.proofs.lemmas.List.{at_drop_more}
use Rattle.qc_model.specs.Content.{Game}
use Rattle.qc_model.specs.Domains.{Box}
use Rattle.qc_model.proofs.Readable.{first, second}
use Rattle.proof_tree.specs.declared.tree.Step.{Step}
use Rattle.proof_tree.specs.Steps.{after_step, after_steps}
use Rattle.prop_base.specs.Pruning.{is_pruned_by, are_pruned_by}

parts : (ok : ℕ → Bool) (g : Game) (xs : List Step) (i : ℕ) (d : Step) (box : Box) → i < length xs → are_pruned_by ok g (drop i xs) box ≡ true →
    (is_pruned_by ok g (get_or xs i d) box && are_pruned_by ok g (drop (i + 1) xs) (after_step (get_or xs i d) box)) ≡ true
parts ok g xs i d box l h = sym (at_drop_more (λ ys. are_pruned_by ok g ys box) xs i d l) ∙ h

-- the next of them may be done
pub next_legal : (ok : ℕ → Bool) (g : Game) (xs : List Step) (i : ℕ) (d : Step) (box : Box) → i < length xs → are_pruned_by ok g (drop i xs) box ≡ true → is_pruned_by ok g (get_or xs i d) box ≡ true
next_legal ok g xs i d box l h = first (is_pruned_by ok g (get_or xs i d) box) (are_pruned_by ok g (drop (i + 1) xs) (after_step (get_or xs i d) box)) (parts ok g xs i d box l h)

-- and then those after it, which lead where they led
pub rest_legal : (ok : ℕ → Bool) (g : Game) (xs : List Step) (i : ℕ) (d : Step) (box left : Box) → i < length xs → are_pruned_by ok g (drop i xs) box ≡ true → left ≡ after_step (get_or xs i d) box → are_pruned_by ok g (drop (i + 1) xs) left ≡ true
rest_legal ok g xs i d box left l h e =
    ap (are_pruned_by ok g (drop (i + 1) xs)) e
    ∙ second (is_pruned_by ok g (get_or xs i d) box) (are_pruned_by ok g (drop (i + 1) xs) (after_step (get_or xs i d) box)) (parts ok g xs i d box l h)

pub rest_reaches : (xs : List Step) (i : ℕ) (d : Step) (box left end : Box) → i < length xs → after_steps (drop i xs) box ≡ end → left ≡ after_step (get_or xs i d) box → after_steps (drop (i + 1) xs) left ≡ end
rest_reaches xs i d box left end l h e = ap (after_steps (drop (i + 1) xs)) e ∙ (sym (at_drop_more (λ ys. after_steps ys box) xs i d l) ∙ h)
