-- Steps that are legal at their moment.
use Rattle.std.specs.Prelude.{◌≡◌, ◌≢◌, ◌+◌, ◌==◌, ℕ, Bool, true, false, ◌&&◌, Option, Some, None, List, [], ◌∷◌, ◌++◌, length, slice_get, IsTrue, IsFalse, ⊤}
use Rattle.qc_model.specs.Content.{Game, Rule}
use Rattle.qc_model.specs.Closed.{keeps_ends}
use Rattle.qc_model.specs.Domains.{Box, box_within, has_empty}
use Rattle.qc_model.specs.Refuted.{refuted_by}
use Rattle.qc_model.specs.Valid.{is_number}
use Rattle.proof_tree.specs.declared.tree.Step.{Step}
use Rattle.proof_tree.specs.declared.tree.Step.TheVariants.{Prune, Bound}
use Rattle.proof_tree.specs.Steps.{removes_some, after_step, after_steps}
use Rattle.fd_store.specs.Held.{Held, Follows}
use Rattle.prop_base.specs.declared.answer.Filtered.{Filtered}
use Rattle.prop_base.specs.declared.answer.Filtered.TheVariants.{Emptied, Stable, Changed}

abbrev pub is_refuted_by : Option Rule → Box → Bool
is_refuted_by None box = false
is_refuted_by (Some c) box = refuted_by c box

-- x has values from low to high, both within the number limit, and a constraint whose number passes refutes the box that keeps these alone
abbrev pub is_pruned_by : (ℕ → Bool) → Game → Step → Box → Bool
is_pruned_by ok g (Prune x low high c) box =
    ((removes_some box x.0 low high && (is_number low && is_number high)) && ok c.0)
    && is_refuted_by (slice_get g.constraints c.0) (box_within box x.0 low high)
is_pruned_by ok g (Bound x low high) box = false

-- each step in the box that the steps before it leave
abbrev pub are_pruned_by : (ℕ → Bool) → Game → List Step → Box → Bool
are_pruned_by ok g [] box = true
are_pruned_by ok g (s ∷ steps) box = is_pruned_by ok g s box && are_pruned_by ok g steps (after_step s box)

-- such steps were appended, and the store was led along them
pub record IsPruning (ok : ℕ → Bool) (g : Game) (s t : Held) (steps then : List Step) : Type 0 where
  pub more : List Step
  pub appended : then ≡ steps ++ more
  pub legal : IsTrue (are_pruned_by ok g more s.box)
  pub reached : t.box ≡ after_steps more s.box
  pub follows : Follows s t

-- the number c alone
abbrev pub is_just : ℕ → ℕ → Bool
is_just c k = k == c

-- how many values are left, in all
abbrev pub total : Box → ℕ
total [] = 0
total (vs ∷ box) = length vs + total box

-- a domain is empty, or nothing was removed
abbrev pub IsAllOrNone : Filtered → Type 0
IsAllOrNone Emptied = ⊤
IsAllOrNone Stable = ⊤
IsAllOrNone Changed = ⊥

-- what a filter answers, by the box that it leaves and the steps before and after
abbrev pub IsFiltered : Filtered → Rule → Box → List Step → List Step → Type 0
IsFiltered Emptied c box steps then = IsTrue (has_empty box)
IsFiltered Stable c box steps then = IsFalse (has_empty box) × (then ≡ steps) × IsTrue (keeps_ends box c)
IsFiltered Changed c box steps then = IsFalse (has_empty box) × (then ≢ steps) × IsTrue (keeps_ends box c)
