-- Constraints whose last argument tells whether something holds, while it can tell both.
use Rattle.std.specs.Prelude.{◌≡◌, ◌+◌, Bool, true, false, List, [], ◌∷◌, length, pos, IsFalse}
use Rattle.qc_model.specs.declared.problem.Arg.{Arg}
use Rattle.qc_model.specs.Content.{Rule}
use Rattle.qc_model.specs.Domains.{Box, has_empty}
use Rattle.qc_model.specs.Refuted.{left_to, refuted_by}
use Rattle.proof_tree.specs.declared.tree.Step.{Step}
use Rattle.prop_base.specs.declared.answer.Filtered.{Filtered}
use Rattle.prop_base.specs.declared.answer.Filtered.TheVariants.{Emptied, Stable, Changed}

-- the constraint refutes no box for these variables, without an empty domain, that leaves both truth values to r
abbrev pub RefutesNone : Rule → Box → Arg → Type 0
RefutesNone c box r =
    (other : Box) → length other ≡ length box → IsFalse (has_empty other) → left_to other r ≡ pos 0 ∷ pos 1 ∷ [] → IsFalse (refuted_by c other)

-- one step was appended, or none
abbrev pub IsGrown : Bool → List Step → List Step → Type 0
IsGrown b steps then = (b ≡ true → length then ≡ length steps + 1) × (b ≡ false → then ≡ steps)

-- what is answered after a filter, where something was removed before it or not
abbrev pub after : Bool → Filtered → Filtered
after false f = f
after true Emptied = Emptied
after true Stable = Changed
after true Changed = Changed
