-- What a scope's own tree is bounded by: the variable that it optimises first.
use Rattle.std.specs.Prelude.{◌≡◌, ◌<◌, ℕ, Bool, false, Option, Some, None, List, [], ◌∷◌, drop, length, IsTrue, IsFalse, ℤ, not}
use Rattle.std.specs.List.{list_all}
use Rattle.qc_model.specs.declared.problem.Sense.{Sense}
use Rattle.qc_model.specs.declared.problem.Condition.{Condition}
use Rattle.qc_model.specs.Content.{Game}
use Rattle.qc_model.specs.Demands.{demands}
use Rattle.qc_model.specs.Domains.{Box, is_within, has_value, values_left}
use Rattle.qc_model.specs.ExistsVerdict.{beats}
use Rattle.qc_model.specs.Optimal.{is_better}
use Rattle.qc_model.specs.Valid.{is_number}
use Rattle.qc_model.specs.Verdict.{Seen, is_none_of}
use Rattle.proof_tree.specs.Place.{Tracked, tracked_variable, list_after}
use Rattle.joins.specs.Joins.{StandsAt}
use Rattle.joins.specs.Verdicts.{wishes_at}
use Rattle.joins.specs.declared.joins.Joins.{Joins}
use Rattle.search_box.specs.Bounds.{tracked_as}
use Rattle.search_parts.specs.Beaten.{firsts, is_beaten}
use Rattle.search_walk.specs.declared.aim.Aim.{Aim}
use Rattle.search_walk.specs.declared.aim.Worse.{Worse}

abbrev pub tracked_at : Game → ℕ → Option Tracked
tracked_at g i = tracked_variable g (drop i g.scopes) i (list_after g (drop i g.scopes) (demands g i))

-- the sense of the first wish, and whether it is the only one
abbrev pub sense_of : List Condition → Option Sense
sense_of [] = None
sense_of (c ∷ d) = Some c.sense

abbrev pub asks_one : List Condition → Bool
asks_one [] = false
asks_one (c ∷ d) = is_none_of d

pub record IsAim (g : Game) (i : ℕ) (a : Aim) : Type 0 where
  pub tracked : tracked_at g i ≡ Some (tracked_as a.sense a.variable)
  pub sense : sense_of (wishes_at g i) ≡ Some a.sense
  pub alone : asks_one (wishes_at g i) ≡ a.is_alone
  pub exists : a.variable.0 < length g.variables

abbrev pub IsAimed : Game → ℕ → Option Aim → Type 0
IsAimed g i None = tracked_at g i ≡ None
IsAimed g i (Some a) = IsAim g i a

-- the values of the aim's variable from lo to hi, of those that a variable can have
pub record IsKept (a : Aim) (low high : ℤ) (w : Worse) : Type 0 where
  pub sense : w.sense ≡ a.sense
  pub variable : w.variable ≡ a.variable
  pub lo : IsTrue (is_number w.lo)
  pub hi : IsTrue (is_number w.hi)
  pub same : (v : ℤ) → IsTrue (is_number v) → is_within w.lo w.hi v ≡ is_within low high v

abbrev pub IsKeptTo : Aim → ℤ → ℤ → Option Worse → Type 0
IsKeptTo a lo hi None = (v : ℤ) → IsTrue (is_number v) → IsFalse (is_within lo hi v)
IsKeptTo a lo hi (Some w) = IsKept a lo hi w

-- exactly the values that are worse than the best, and it too where nothing else is asked
pub record IsRuledOut (a : Aim) (best : ℤ) (w : Worse) : Type 0 where
  pub sense : w.sense ≡ a.sense
  pub variable : w.variable ≡ a.variable
  pub lo : IsTrue (is_number w.lo)
  pub hi : IsTrue (is_number w.hi)
  pub same : (v : ℤ) → IsTrue (is_number v) → is_within w.lo w.hi v ≡ beats a.sense a.is_alone best v

abbrev pub AreRuledOut : Aim → ℤ → Option Worse → Type 0
AreRuledOut a best None = (v : ℤ) → IsTrue (is_number v) → IsFalse (beats a.sense a.is_alone best v)
AreRuledOut a best (Some w) = IsRuledOut a best w

-- the values, from one number to another, of the variable that the scope's own tree optimises first
pub record IsSpan (g : Game) (i : ℕ) (w : Worse) : Type 0 where
  pub tracked : tracked_at g i ≡ Some (tracked_as w.sense w.variable)
  pub exists : w.variable.0 < length g.variables
  pub lo : IsTrue (is_number w.lo)
  pub hi : IsTrue (is_number w.hi)

-- no exact leaf of the scope's own tree so far has a better first value than v
abbrev pub IsNoWorse : Joins → ℕ → Sense → ℤ → Type 0
IsNoWorse joins i s v = (before : List Seen) → StandsAt joins i before → IsTrue (list_all (λ n. not (is_better s n v)) (firsts before))

-- the values of the variable from lo to hi are worse than the incumbent's, or as good where nothing else is asked; no other
-- number is worse
pub record IsWorse (g : Game) (i : ℕ) (joins : Joins) (w : Worse) : Type 0 where
  pub tracked : tracked_at g i ≡ Some (tracked_as w.sense w.variable)
  pub exists : w.variable.0 < length g.variables
  pub lo : IsTrue (is_number w.lo)
  pub hi : IsTrue (is_number w.hi)
  pub goes : (v : ℤ) (before : List Seen) → IsTrue (is_number v) → IsTrue (is_within w.lo w.hi v) → StandsAt joins i before → IsTrue (is_beaten (wishes_at g i) (firsts before) v)
  pub stays : (v : ℤ) → IsTrue (is_number v) → IsFalse (is_within w.lo w.hi v) → IsNoWorse joins i w.sense v

-- so among the values left in this box
pub record IsWorseHere (g : Game) (i : ℕ) (joins : Joins) (box : Box) (w : Worse) : Type 0 where
  pub tracked : tracked_at g i ≡ Some (tracked_as w.sense w.variable)
  pub exists : w.variable.0 < length g.variables
  pub lo : IsTrue (is_number w.lo)
  pub hi : IsTrue (is_number w.hi)
  pub goes : (v : ℤ) (before : List Seen) → IsTrue (is_number v) → IsTrue (is_within w.lo w.hi v) → StandsAt joins i before → IsTrue (is_beaten (wishes_at g i) (firsts before) v)
  pub stays : (v : ℤ) → IsTrue (has_value (values_left box w.variable.0) v) → IsTrue (is_number v) → IsFalse (is_within w.lo w.hi v) → IsNoWorse joins i w.sense v

-- no number is worse than the incumbent's, or nothing is optimised
abbrev pub NoneWorse : Game → ℕ → Joins → Type 0
NoneWorse g i joins = (t : Tracked) → tracked_at g i ≡ Some t → (v : ℤ) → IsTrue (is_number v) → IsNoWorse joins i t.sense v

abbrev pub AreWorse : Game → ℕ → Joins → Option Worse → Type 0
AreWorse g i joins None = NoneWorse g i joins
AreWorse g i joins (Some w) = IsWorse g i joins w
