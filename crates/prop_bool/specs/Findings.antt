-- What a look at a constraint of truth values finds.
use Rattle.std.specs.Prelude.{◌≡◌, ⊤, ℕ, Bool, true, false, not, ◌||◌, List, [], ◌∷◌, set, ℤ, IsTrue, IsFalse}
use Rattle.std.specs.List.{list_all, list_any}
use Rattle.qc_model.specs.declared.problem.VarId.{VarId}
use Rattle.qc_model.specs.Closed.{keeps_ends}
use Rattle.qc_model.specs.Content.{Rule}
use Rattle.qc_model.specs.Domains.{Box, values_left, has_value}
use Rattle.qc_model.specs.Refuted.{refuted_by}
use Rattle.prop_base.specs.declared.answer.Filtered.{Filtered}
use Rattle.prop_base.specs.declared.answer.Filtered.TheVariants.{Emptied, Stable, Changed}
use Rattle.prop_bool.specs.declared.chances.Chance.{Chance}
use Rattle.prop_bool.specs.declared.chances.Chance.TheVariants.{Lost, Last, Free}
use Rattle.prop_bool.specs.declared.findings.Finding.{Finding}
use Rattle.prop_bool.specs.declared.findings.Finding.TheVariants.{Nothing, Refuted, Loses, Unknown}
use Rattle.prop_bool.specs.declared.literals.Literal.{Literal}
use Rattle.prop_bool.specs.declared.literals.Standing.{Standing}
use Rattle.prop_bool.specs.declared.literals.Standing.TheVariants.{Holds, Fails, Unfixed}
use Rattle.prop_bool.specs.Literals.{truth_number, both_truths, surely_holds, surely_fails, IsUnfixed, same_literal}

-- what a literal comes to on the box
abbrev pub Stands : Standing → Box → Literal → Type 0
Stands Holds box l = IsTrue (surely_holds box l)
Stands Fails box l = IsTrue (surely_fails box l)
Stands Unfixed box l = IsUnfixed box l

-- what the disjunction of some literals comes to
abbrev pub StandsAny : Standing → Box → List Literal → Type 0
StandsAny Holds box ls = IsTrue (list_any (surely_holds box) ls)
StandsAny Fails box ls = IsTrue (list_all (surely_fails box) ls)
StandsAny Unfixed box ls = IsFalse (list_any (surely_holds box) ls) × IsFalse (list_all (surely_fails box) ls)

-- whichever variable is given one of its values alone, some literal doesn't fail
abbrev pub CanHold : Box → List Literal → Type 0
CanHold box ls = (y : ℕ) (v : ℤ) → IsTrue (has_value (values_left box y) v) → IsFalse (list_all (surely_fails (set box y (v ∷ []))) ls)

-- the literal is unfixed and among the others, all of which fail
pub record IsLast (box : Box) (ls : List Literal) (l : Literal) : Type 0 where
  pub unfixed : IsUnfixed box l
  pub there : IsTrue (list_any (same_literal l) ls)
  pub others : IsTrue (list_all (λ m. surely_fails box m || same_literal l m) ls)

abbrev pub IsChance : Chance → Box → List Literal → Type 0
IsChance Lost box ls = IsTrue (list_all (surely_fails box) ls)
IsChance (Last l) box ls = IsLast box ls l
IsChance Free box ls = CanHold box ls

-- x has this truth value alone
abbrev pub given : Box → VarId → Bool → Box
given box x b = set box x.0 (truth_number b ∷ [])

-- nothing goes; or the constraint refutes the box; or x, of which both are left, loses the value, and then nothing goes
abbrev pub IsFinding : Finding → Rule → Box → Type 0
IsFinding Nothing c box = IsTrue (keeps_ends box c)
IsFinding Refuted c box = IsTrue (refuted_by c box)
IsFinding (Loses x b) c box =
    (values_left box x.0 ≡ both_truths) × IsTrue (refuted_by c (given box x b)) × IsTrue (keeps_ends (given box x (not b)) c)
IsFinding Unknown c box = ⊤

-- what a filter answers that removed something before
abbrev pub answer_after : Bool → Filtered → Filtered
answer_after moved Emptied = Emptied
answer_after true Stable = Changed
answer_after false Stable = Stable
answer_after moved Changed = Changed
