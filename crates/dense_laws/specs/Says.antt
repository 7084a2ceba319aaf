-- What is to hold at each node of a dense tree that is in place, and at each part of a scope's own tree.
use Rattle.std.specs.Prelude.{◌≡◌, ◌⊎◌, ℕ, suc, true, false, Option, Some, None, List, [], ◌∷◌, ◌++◌, map, ⊤, IsTrue, IsFalse, ℤ}
use Rattle.qc_model.specs.declared.problem.Condition.{Condition}
use Rattle.qc_model.specs.declared.problem.Scope.{Scope}
use Rattle.qc_model.specs.Content.{Game}
use Rattle.qc_model.specs.Domains.{InBox}
use Rattle.qc_model.specs.Game.{IsMove, IsWon}
use Rattle.qc_model.specs.Lists.{Among, Distinct}
use Rattle.qc_model.specs.Optimal.{Optimal}
use Rattle.qc_model.specs.Plan.{Plan, choose}
use Rattle.qc_model.specs.Demands.{vector, is_better_vector}
use Rattle.qc_model.specs.Verdict.{Verdict, lost, exact, at_most, unknown, Seen, seen_barred, seen_skipped, seen_bound, seen_node, is_exact, is_lost, some_node}
use Rattle.qc_model.specs.Value.{value}
use Rattle.model_laws.specs.Positions.{optimising}
use Rattle.model_laws.specs.Verdicts.{Claim, seen_in, EachClaim, none_skipped, tuples_of, HeldBy}
use Rattle.proof_tree.specs.declared.tree.Outcome.{Outcome}
use Rattle.proof_tree.specs.declared.tree.Outcome.TheVariants.{True, False, Open}
use Rattle.proof_tree.specs.Good.{IsBlocked}
use Rattle.proof_tree.specs.Meaning.{FirstIsNoBetter, IsOptimum}
use Rattle.proof_tree.specs.Place.{list_after, next_scopes}
use Rattle.dense_meaning.specs.Throughout.{IsPositionIn, IsOptimalWithin, Says}
use Rattle.dense_tree.specs.Place.{Setting, Place}
use Rattle.dense_tree.specs.Read.{Known}
use Rattle.dense_laws.specs.Stands.{StandsNode}

-- a position that the place speaks of: it lies in the box, and nobody passes the horizon in force from it
pub record IsAt (s : Setting) (p : Place) (a : List ℤ) : Type 0 where
  pub position : IsPositionIn s.game p.number p.box a
  pub blocked : IsBlocked s.game p.number a p.box p.horizon

-- the verdict of a node holds there
abbrev pub NodeSays : Setting → Place → Verdict → Type 0
NodeSays s p v = (a : List ℤ) → IsAt s p a → Says v s.game p.later p.number p.list p.box a

-- and is none of a best vector in a loose part
pub record NodeTold (s : Setting) (p : Place) (v : Verdict) : Type 0 where
  pub says : NodeSays s p v
  pub loose : p.loose ≡ true → is_exact v ≡ false

-- the value that is told of a scope's own condition is that of each optimal strategy, where the node's verdict is a best vector
abbrev pub OwnSays : Setting → Place → Verdict → Option ℤ → Type 0
OwnSays s p v own =
    is_exact v ≡ true → (n : ℤ) → own ≡ Some n → (a : List ℤ) → IsAt s p a → (c : Condition) (later : List Scope) → p.later ≡ optimising c ∷ later →
    (r : Plan) → Optimal s.game p.later p.number a r → value s.game r c.target a ≡ n

-- a strategy is no better than what was seen at a leaf, or than a mark; e is demanded after the scope
abbrev pub Holds : Game → List Condition → List ℤ → Plan → Seen → Type 0
Holds g e a r seen_barred = ⊥
Holds g e a r seen_skipped = ⊤
Holds g e a r (seen_bound m) = HeldBy g e a r m
Holds g e a r (seen_node lost) = ⊥
Holds g e a r (seen_node (exact v)) = IsFalse (is_better_vector e (vector g e a r) v)
Holds g e a r (seen_node (at_most p)) = FirstIsNoBetter g e a r p
Holds g e a r (seen_node unknown) = ⊤

-- by one of the leaves and marks
abbrev pub SomeHolds : Game → List Condition → List ℤ → Plan → List Seen → Type 0
SomeHolds g e a r [] = ⊥
SomeHolds g e a r (x ∷ xs) = Holds g e a r x ⊎ SomeHolds g e a r xs

-- or by one of the best values left to what the list d of the scope itself begins with
abbrev pub SomeBest : Game → List Condition → List ℤ → Plan → List ℤ → Type 0
SomeBest g d a r [] = ⊥
SomeBest g d a r (b ∷ bests) = HeldBy g d a r b ⊎ SomeBest g d a r bests

-- an exact leaf is reached by some choice, with an optimal strategy after it
abbrev pub IsReached : Game → List Scope → ℕ → List Condition → List ℤ → Seen → Type 0
IsReached g after i e a seen_barred = ⊤
IsReached g after i e a seen_skipped = ⊤
IsReached g after i e a (seen_bound m) = ⊤
IsReached g after i e a (seen_node lost) = ⊤
IsReached g after i e a (seen_node (exact v)) =
    (t : List ℤ) × (r : Plan) × IsMove g i a t × Optimal g after (suc i) (a ++ t) r × (vector g e a (choose t r) ≡ v)
IsReached g after i e a (seen_node (at_most p)) = ⊤
IsReached g after i e a (seen_node unknown) = ⊤

abbrev pub EachReached : Game → List Scope → ℕ → List Condition → List ℤ → List Seen → Type 0
EachReached g after i e a [] = ⊤
EachReached g after i e a (x ∷ xs) = IsReached g after i e a x × EachReached g after i e a xs

-- no position but a lies in the box
abbrev pub OnlyAt : Setting → Place → List ℤ → Type 0
OnlyAt s p a = (b : List ℤ) → IsPositionIn s.game p.number p.box b → b ≡ a

-- a part of the tree of a scope of the player, with its leaves and marks and the best values left: they hold each optimal strategy in the
-- part's box, and what is exact is reached. In a loose part nothing is exact
pub record ChoicesSay (s : Setting) (p : Place) (seen : List Seen) (bests : List ℤ) : Type 0 where
  pub held : (a : List ℤ) → IsAt s p a → (r : Plan) → IsOptimalWithin s.game p.later p.number p.box a r →
      SomeHolds s.game (list_after s.game p.later p.list) a r seen ⊎ SomeBest s.game p.list a r bests
  pub reached : p.loose ≡ false → (a : List ℤ) → OnlyAt s p a → EachReached s.game (next_scopes p.later) p.number (list_after s.game p.later p.list) a seen
  pub loose : p.loose ≡ true → some_node is_exact seen ≡ false

-- the leaves of the opponent's at one position: they go on with his allowed tuples in the part's box, with what is so of all optimal
-- strategies after each, and with each tuple once unless one is skipped or one is lost
pub record Answers (s : Setting) (p : Place) (seen : List Seen) (a : List ℤ) : Type 0 where
  pub claims : List Claim
  pub are_seen : map seen_in claims ≡ seen
  pub say : EachClaim s.game (list_after s.game p.later p.list) p.number a (Optimal s.game (next_scopes p.later) (suc p.number)) claims
  pub lie : (t : List ℤ) → Among t (tuples_of claims) → InBox (a ++ t) p.box
  pub distinct : Distinct (tuples_of claims)
  pub all : IsTrue (none_skipped claims) → some_node is_lost seen ≡ false → (t : List ℤ) → IsMove s.game p.number a t → InBox (a ++ t) p.box → Among t (tuples_of claims)

-- no strategy is optimal at an open position
pub record IsLostAt (s : Setting) (p : Place) (a : List ℤ) : Type 0 where
  pub loose : p.loose ≡ true
  pub none : (r : Plan) → ¬ Optimal s.game p.later p.number a r

-- a part of the tree of a scope of the opponent
pub record AnswersSay (s : Setting) (p : Place) (seen : List Seen) : Type 0 where
  pub says : (a : List ℤ) → IsAt s p a → IsLostAt s p a ⊎ Answers s p seen a
  pub loose : p.loose ≡ true → some_node is_exact seen ≡ false

-- what references ask: each named node that has ended stands, and its verdict holds
abbrev pub KnownSays : Setting → Known → Option Verdict → Type 0
KnownSays s k None = ⊤
KnownSays s k (Some v) = StandsNode s k.place × NodeTold s k.place v

abbrev pub EachKnownSays : Setting → List Known → Type 0
EachKnownSays s [] = ⊤
EachKnownSays s (k ∷ ks) = KnownSays s k k.verdict × EachKnownSays s ks

-- what a certificate that proves says of the game
abbrev pub DenseMeans : Outcome → Option ℤ → Game → Type 0
DenseMeans True None g = IsWon g
DenseMeans True (Some v) g = IsOptimum g.scopes g v
DenseMeans False v g = ¬ IsWon g
DenseMeans (Open n) v g = ⊤
