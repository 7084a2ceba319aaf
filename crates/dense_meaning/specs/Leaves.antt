-- Leaves of a scope's own tree in a box with open variables.
use Rattle.std.specs.Prelude.{◌≡◌, ◌⊎◌, ℕ, suc, List, [], ◌∷◌, ◌++◌, ⊤, ℤ, Bool, true, false, IsTrue}
use Rattle.qc_model.specs.declared.problem.Condition.{Condition}
use Rattle.qc_model.specs.declared.problem.Scope.{Scope}
use Rattle.qc_model.specs.Content.{Game}
use Rattle.qc_model.specs.Domains.{InBox, Box}
use Rattle.qc_model.specs.Game.{IsMove}
use Rattle.qc_model.specs.Verdict.{Verdict, lost, exact, at_most, unknown, first_value}
use Rattle.qc_model.specs.Plan.{Plan}
use Rattle.qc_model.specs.Optimal.{Optimal}
use Rattle.model_laws.specs.Verdicts.{MeansAt, Claim, barred, skipped, marked, reaches}
use Rattle.dense_meaning.specs.Throughout.{IsPositionIn, PlaysLie, Throughout, IsAgainst}
use Rattle.dense_meaning.specs.Plays.{KeepsFrom}

-- the tuple t of scope i is allowed from each position in the box, and the verdict, which speaks against the player, holds
-- throughout the part of the box that it leads into
pub record LeafSays (g : Game) (later : List Scope) (i : ℕ) (e : List Condition) (box : Box) (t : List ℤ) (v : Verdict) : Type 0 where
  pub part : Box
  pub keeps : KeepsFrom g (suc i) box part
  pub is_move : (a : List ℤ) → IsPositionIn g i box a → IsMove g i a t
  pub enters : (a : List ℤ) → IsPositionIn g i box a → InBox (a ++ t) part
  pub against : IsAgainst v
  pub says : Throughout v g later (suc i) e part

abbrev pub EachLeafSays : Game → List Scope → ℕ → List Condition → Box → List Claim → Type 0
EachLeafSays g later i e box [] = ⊤
EachLeafSays g later i e box (barred ∷ ls) = EachLeafSays g later i e box ls
EachLeafSays g later i e box (skipped ∷ ls) = EachLeafSays g later i e box ls
EachLeafSays g later i e box (marked m ∷ ls) = EachLeafSays g later i e box ls
EachLeafSays g later i e box (reaches t v ∷ ls) = LeafSays g later i e box t v × EachLeafSays g later i e box ls

-- a leaf of an existential scope's own tree: one tuple with its verdict, a part of the box with what holds throughout it, or
-- choices that were left out
pub data PartLeaf : Type 0 where
  one : List ℤ → Verdict → PartLeaf
  many : Box → Verdict → PartLeaf
  left_out : PartLeaf

-- what is claimed there, where the list e is demanded after the scope: a bound is the mark of a bound, and a best vector, which
-- needn't be the same choice's at each position, says no more than that
abbrev pub many_claim : List Condition → Verdict → Claim
many_claim e lost = barred
many_claim [] (exact v) = skipped
many_claim (c ∷ e) (exact v) = marked (first_value v)
many_claim [] (at_most p) = skipped
many_claim (c ∷ e) (at_most p) = marked p
many_claim e unknown = skipped

abbrev pub part_claim : List Condition → PartLeaf → Claim
part_claim e (one t v) = reaches t v
part_claim e (many part v) = many_claim e v
part_claim e left_out = skipped

abbrev pub EachPartSays : Game → List Scope → ℕ → List Condition → List ℤ → List PartLeaf → Type 0
EachPartSays g later i e a [] = ⊤
EachPartSays g later i e a (one t v ∷ ls) = (IsMove g i a t × MeansAt g later (suc i) (a ++ t) e v) × EachPartSays g later i e a ls
EachPartSays g later i e a (many part v ∷ ls) = Throughout v g later (suc i) e part × EachPartSays g later i e a ls
EachPartSays g later i e a (left_out ∷ ls) = EachPartSays g later i e a ls

-- the choice of t, with s after it, is at one of the leaves
abbrev pub IsAtLeaf : List ℤ → List ℤ → Plan → List PartLeaf → Type 0
IsAtLeaf a t s [] = ⊥
IsAtLeaf a t s (one u v ∷ ls) = (t ≡ u) ⊎ IsAtLeaf a t s ls
IsAtLeaf a t s (many part v ∷ ls) = PlaysLie part (a ++ t) s ⊎ IsAtLeaf a t s ls
IsAtLeaf a t s (left_out ∷ ls) = IsAtLeaf a t s ls

abbrev pub none_left_out : List PartLeaf → Bool
none_left_out [] = true
none_left_out (one t v ∷ ls) = none_left_out ls
none_left_out (many part v ∷ ls) = none_left_out ls
none_left_out (left_out ∷ ls) = false

-- where none is left out, each choice is at a leaf
abbrev pub CoversChoices : Game → List Scope → ℕ → List ℤ → List PartLeaf → Type 0
CoversChoices g later i a ls = IsTrue (none_left_out ls) → (t : List ℤ) (s : Plan) → IsMove g i a t → Optimal g later (suc i) (a ++ t) s → IsAtLeaf a t s ls
