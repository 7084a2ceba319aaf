-- What verdicts say of plans, and when the leaves of a scope's own tree say enough.
-- A tree keeps at its leaves all that was found there; these laws need the tuple and the verdict alone, which is a claim.
use Rattle.std.specs.Prelude.{◌≡◌, ◌⊎◌, ℕ, Bool, true, false, List, [], ◌∷◌, ◌++◌, ⊤, IsTrue, IsFalse, ℤ}
use Rattle.qc_model.specs.declared.problem.Condition.{Condition}
use Rattle.qc_model.specs.declared.problem.Scope.{Scope}
use Rattle.qc_model.specs.Content.{Game}
use Rattle.qc_model.specs.Game.{IsMove, moves}
use Rattle.qc_model.specs.Plan.{Plan, choose}
use Rattle.qc_model.specs.Value.{value}
use Rattle.qc_model.specs.Optimal.{is_better, Optimal}
use Rattle.qc_model.specs.Demands.{IsBestVector}
use Rattle.qc_model.specs.Verdict.{Verdict, lost, exact, at_most, unknown, Seen, seen_barred, seen_skipped, seen_bound, seen_node}
use Rattle.model_laws.specs.Positions.{AtMost, OptimalAfter, IsChoice}
use Rattle.model_laws.specs.Distinct.{IsReordering}

-- the scope has no allowed tuple after the values a: its owner is stuck
abbrev pub HasNoMove : Game → ℕ → List ℤ → Type 0
HasNoMove g i a = (t : List ℤ) → ¬ IsMove g i a t

-- what a verdict says of the plans with P at the position with the values u
abbrev pub Means : Game → List Condition → List ℤ → (Plan → Type 0) → Verdict → Type 0
Means g d u P lost = (s : Plan) → ¬ P s
Means g d u P (exact w) = IsBestVector g d u P w
Means g d u P (at_most p) = AtMost g d u P p
Means g d u P unknown = ⊤

-- what it says of the optimal strategies at the position before scope i; scopes has the scopes from i on
abbrev pub MeansAt : Game → List Scope → ℕ → List ℤ → List Condition → Verdict → Type 0
MeansAt g scopes i a d v = Means g d a (Optimal g scopes i a) v

-- what is claimed at a leaf of a scope's own tree: that the tuple is barred, nothing where the leaf is skipped, or a
-- verdict after a tuple; or the mark of a bound, which holds back what is no better
pub data Claim : Type 0 where
  barred : Claim
  skipped : Claim
  marked : ℤ → Claim
  reaches : List ℤ → Verdict → Claim

abbrev pub seen_in : Claim → Seen
seen_in barred = seen_barred
seen_in skipped = seen_skipped
seen_in (marked m) = seen_bound m
seen_in (reaches t v) = seen_node v

abbrev pub none_skipped : List Claim → Bool
none_skipped [] = true
none_skipped (barred ∷ ls) = none_skipped ls
none_skipped (skipped ∷ ls) = false
none_skipped (marked m ∷ ls) = none_skipped ls
none_skipped (reaches t v ∷ ls) = none_skipped ls

abbrev pub tuples_of : List Claim → List (List ℤ)
tuples_of [] = []
tuples_of (barred ∷ ls) = tuples_of ls
tuples_of (skipped ∷ ls) = tuples_of ls
tuples_of (marked m ∷ ls) = tuples_of ls
tuples_of (reaches t v ∷ ls) = t ∷ tuples_of ls

-- a claim of a universal scope is right: its tuple is allowed, and its verdict means what it says after it
abbrev pub ClaimMeans : Game → List Condition → ℕ → List ℤ → (List ℤ → Plan → Type 0) → Claim → Type 0
ClaimMeans g e i a O barred = ⊤
ClaimMeans g e i a O skipped = ⊤
ClaimMeans g e i a O (marked m) = ⊤
ClaimMeans g e i a O (reaches t v) = IsMove g i a t × Means g e (a ++ t) (O (a ++ t)) v

abbrev pub EachClaim : Game → List Condition → ℕ → List ℤ → (List ℤ → Plan → Type 0) → List Claim → Type 0
EachClaim g e i a O [] = ⊤
EachClaim g e i a O (l ∷ ls) = ClaimMeans g e i a O l × EachClaim g e i a O ls

-- where none is skipped, the claims reach each allowed tuple once, in whatever order
abbrev pub IsComplete : Game → ℕ → List ℤ → List Claim → Type 0
IsComplete g i a ls = IsTrue (none_skipped ls) → IsReordering (moves g i a) (tuples_of ls)

-- a claim of an existential scope is right: its verdict means what it says of the plans with R after its tuple, and
-- these are among the plans with Q
abbrev pub ChoiceMeans : Game → List Condition → List ℤ → (List ℤ → Plan → Type 0) → (Plan → Type 0) → Claim → Type 0
ChoiceMeans g e a R Q barred = ⊤
ChoiceMeans g e a R Q skipped = ⊤
ChoiceMeans g e a R Q (marked m) = ⊤
ChoiceMeans g e a R Q (reaches t v) = Means g e (a ++ t) (R t) v × ((s : Plan) → R t s → Q (choose t s))

abbrev pub EachChoice : Game → List Condition → List ℤ → (List ℤ → Plan → Type 0) → (Plan → Type 0) → List Claim → Type 0
EachChoice g e a R Q [] = ⊤
EachChoice g e a R Q (l ∷ ls) = ChoiceMeans g e a R Q l × EachChoice g e a R Q ls

-- the mark holds the plan's first value back
abbrev pub HeldBy : Game → List Condition → List ℤ → Plan → ℤ → Type 0
HeldBy g [] a p m = ⊥
HeldBy g (c ∷ e) a p m = IsFalse (is_better c.sense (value g p c.target a) m)

-- the plan is one of those that a claim speaks of, or is held back by a mark
abbrev pub IsFound : Game → List Condition → List ℤ → (List ℤ → Plan → Type 0) → List Claim → Plan → Type 0
IsFound g e a R [] p = ⊥
IsFound g e a R (barred ∷ ls) p = IsFound g e a R ls p
IsFound g e a R (skipped ∷ ls) p = IsFound g e a R ls p
IsFound g e a R (marked m ∷ ls) p = HeldBy g e a p m ⊎ IsFound g e a R ls p
IsFound g e a R (reaches t v ∷ ls) p = ((s : Plan) × (p ≡ choose t s) × R t s) ⊎ IsFound g e a R ls p

-- where none is skipped, each plan with Q is found
abbrev pub IsCovered : Game → List Condition → List ℤ → (List ℤ → Plan → Type 0) → (Plan → Type 0) → List Claim → Type 0
IsCovered g e a R Q ls = IsTrue (none_skipped ls) → (p : Plan) → Q p → IsFound g e a R ls p

-- the same of all choices that are optimal from the next scope on: the claims are right, and they miss nothing
abbrev pub AreRight : Game → List Scope → ℕ → List ℤ → List Condition → List Claim → Type 0
AreRight g later i a e ls = EachChoice g e a (OptimalAfter g later i a) (IsChoice g later i a) ls

abbrev pub MissNothing : Game → List Scope → ℕ → List ℤ → List Condition → List Claim → Type 0
MissNothing g later i a e ls = IsCovered g e a (OptimalAfter g later i a) (IsChoice g later i a) ls
