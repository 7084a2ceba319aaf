-- Constraints that say whether an odd number of items are 1.
use Rattle.std.specs.Prelude.{◌≡◌, ⊤, ℕ, Bool, not, ◌&&◌, cond, ◌==◌, List, [], ◌∷◌, map, set, ℤ, IsTrue, IsFalse}
use Rattle.std.specs.List.{list_all, list_any}
use Rattle.qc_model.specs.declared.problem.Arg.{Arg}
use Rattle.qc_model.specs.declared.problem.VarId.{VarId}
use Rattle.qc_model.specs.Content.{Game, Rule}
use Rattle.qc_model.specs.Domains.{Box, values_left, has_value, is_single, least_value}
use Rattle.qc_model.specs.Holds.{same_truth, odd_ones}
use Rattle.qc_model.specs.Refuted.{left_to, refuted_by}
use Rattle.model_arguments.specs.Asked.{IsAsked}
use Rattle.model_arguments.specs.Repeats.{is_variable}
use Rattle.prop_bool.specs.declared.tallies.Tally.{Tally}
use Rattle.prop_bool.specs.declared.tallies.Tally.TheVariants.{Decided, Open, Free, Unknown}
use Rattle.prop_bool.specs.Findings.{given}
use Rattle.prop_bool.specs.Literals.{both_truths, is_truth_left}

abbrev pub differ : Bool → Bool → Bool
differ a b = not (same_truth a b)

-- each item has one value left
abbrev pub are_single : Box → List Arg → Bool
are_single box xs = list_all (λ a. is_single (left_to box a)) xs

-- an odd number of the least values are 1
abbrev pub is_odd : Box → List Arg → Bool
is_odd box xs = odd_ones (map (λ a. least_value (left_to box a)) xs)

-- the constraint says whether an odd number of the items are 1
pub record IsParity (g : Game) (c : Rule) (xs : List Arg) (odd : Bool) : Type 0 where
  pub truths : (box : Box) → IsAsked g c box → IsTrue (list_all (λ a. is_truth_left (left_to box a)) xs)
  pub refuted : (box : Box) → IsAsked g c box → refuted_by c box ≡ (are_single box xs && differ odd (is_odd box xs))

-- x is unfixed and one of the items, and the others have one value each, an odd number of them 1 or not
pub record IsOpen (box : Box) (xs : List Arg) (x : VarId) (rest : Bool) : Type 0 where
  pub unfixed : values_left box x.0 ≡ both_truths
  pub there : IsTrue (list_any (λ a. is_variable a x.0) xs)
  pub single : (b : Bool) → IsTrue (are_single (given box x b) xs)
  pub odd : (b : Bool) → is_odd (given box x b) xs ≡ differ b rest

abbrev pub IsTally : Tally → Box → List Arg → Type 0
IsTally (Decided odd) box xs = IsTrue (are_single box xs) × (is_odd box xs ≡ odd)
IsTally (Open x odd) box xs = IsOpen box xs x odd
IsTally Free box xs = (y : ℕ) (v : ℤ) → IsTrue (has_value (values_left box y) v) → IsFalse (are_single (set box y (v ∷ [])) xs)
IsTally Unknown box xs = ⊤

-- with an item more that is 1, and with a variable more that is unfixed
abbrev pub turned : Tally → Tally
turned (Decided odd) = Decided (not odd)
turned (Open x odd) = Open x (not odd)
turned Free = Free
turned Unknown = Unknown

abbrev pub opened : Tally → VarId → Tally
opened (Decided odd) y = Open y odd
opened (Open x odd) y = cond (x.0 == y.0) Unknown Free
opened Free y = Free
opened Unknown y = Unknown
