-- What a part of a filter answers: P is what it knows of the box where it removed nothing.
use Rattle.std.specs.Prelude.{◌≡◌, ◌<◌, List, length, IsTrue, IsFalse}
use Rattle.qc_model.specs.Domains.{Box, has_empty}
use Rattle.proof_tree.specs.declared.tree.Step.{Step}
use Rattle.prop_base.specs.declared.answer.Filtered.{Filtered}
use Rattle.prop_base.specs.declared.answer.Filtered.TheVariants.{Emptied, Stable, Changed}

abbrev pub IsPart : Filtered → (Box → Type 0) → Box → Box → List Step → List Step → Type 0
IsPart Emptied P box after steps then = IsTrue (has_empty after)
IsPart Stable P box after steps then = (after ≡ box) × (then ≡ steps) × P box
IsPart Changed P box after steps then = IsFalse (has_empty after) × (length steps < length then)
