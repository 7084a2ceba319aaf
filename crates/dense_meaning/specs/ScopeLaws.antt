-- Laws of a scope: what is so at the positions after it says what is so before it.
use Rattle.std.specs.Prelude.{◌≡◌, ℕ, suc, false, List, [], ◌∷◌, ◌++◌, length, map, set, Option, slice_index_or, IsTrue, IsFalse, ℤ, pos}
use Rattle.qc_model.specs.declared.problem.Sense.{Sense}
use Rattle.qc_model.specs.declared.problem.VarId.{VarId}
use Rattle.qc_model.specs.declared.problem.Target.TheVariants.{Var}
use Rattle.qc_model.specs.declared.problem.Condition.{Condition}
use Rattle.qc_model.specs.declared.problem.Scope.{Scope}
use Rattle.qc_model.specs.Content.{Game}
use Rattle.qc_model.specs.Lists.{Among}
use Rattle.qc_model.specs.Domains.{Box, values_left, has_empty}
use Rattle.qc_model.specs.Game.{before, allows, IsMove}
use Rattle.qc_model.specs.Plan.{Plan, finish, choose}
use Rattle.qc_model.specs.Optimal.{is_better}
use Rattle.qc_model.specs.Sees.{IsVisible}
use Rattle.qc_model.specs.Demands.{vector, demands_through, with_condition}
use Rattle.qc_model.specs.Bottlenecks.{bottleneck_last}
use Rattle.qc_model.specs.Verdict.{Verdict, lost, exact, at_most}
use Rattle.qc_model.specs.ExistsVerdict.{exists_verdict}
use Rattle.qc_model.specs.ForallVerdict.{forall_verdict, entry_values, numbers_for}
use Rattle.model_laws.specs.Verdicts.{HasNoMove, MeansAt, Claim, seen_in, IsComplete, HeldBy}
use Rattle.model_laws.specs.Positions.{existential, universal, optimising}
use Rattle.dense_meaning.specs.Throughout.{IsPositionIn, IsOptimalWithin, Says, Throughout, as_bound, IsAgainst}
use Rattle.dense_meaning.specs.Plays.{IsDeclared, KeepsFrom, CanEnter, HoldsThroughout, HasValues, Reaches}
use Rattle.dense_meaning.specs.Leaves.{EachLeafSays, PartLeaf, part_claim, EachPartSays, CoversChoices}

-- a scope of the player goes on with several values left; its own choice comes first, so that a best vector is only a bound.
-- The list is the same before and after it: that of a scope with a condition begins with the condition after it
abbrev pub Postponing : Type 0
Postponing =
    (v : Verdict) (g : Game) (later : List Scope) (x : Option Condition) (i : ℕ) (d : List Condition) (box : Box) →
    Throughout v g later (suc i) d box → Throughout (as_bound d v) g (existential x ∷ later) i d box

-- what is lost stays lost, whatever is asked
abbrev pub PostponingLost : Type 0
PostponingLost =
    (g : Game) (later : List Scope) (x : Option Condition) (i : ℕ) (d e : List Condition) (box : Box) →
    Throughout lost g later (suc i) e box → Throughout lost g (existential x ∷ later) i d box

-- the opponent has an allowed tuple into a part of the box that is lost
abbrev pub EnteringLost : Type 0
EnteringLost =
    (g : Game) (later : List Scope) (x : Option Condition) (i : ℕ) (d e : List Condition) (box part : Box) → CanEnter g i box part → KeepsFrom g (suc i) box part →
    Throughout lost g later (suc i) e part → Throughout lost g (universal x ∷ later) i d box

-- as where his restriction holds of all values in the box, and there are some
abbrev pub EnteringHeld : Type 0
EnteringHeld = (g : Game) (i : ℕ) (box : Box) → HoldsThroughout g i box → HasValues g i box → CanEnter g i box box

-- a box with some value for each variable has values for each scope
abbrev pub FullHasValues : Type 0
FullHasValues = (g : Game) (i : ℕ) (box : Box) → has_empty box ≡ false → IsDeclared g box → HasValues g i box

-- no strategy gives the first target of the list a value that the box doesn't leave
abbrev pub TargetIsLeft : Type 0
TargetIsLeft =
    (g : Game) (later : List Scope) (i : ℕ) (s : Sense) (y : VarId) (d : List Condition) (box : Box) (p : ℤ) → IsVisible g later i (Var y) →
    ((v : ℤ) → Among v (values_left box y.0) → IsFalse (is_better s v p)) → Throughout (at_most p) g later i (record { sense = s; target = Var y } ∷ d) box

-- where the owner of a condition reaches z at each position in the box, values of its target that are worse may go
abbrev pub OwnerReaches : Type 0
OwnerReaches =
    (v : Verdict) (g : Game) (later : List Scope) (i : ℕ) (s : Sense) (x : VarId) (d : List Condition) (box : Box) (z : ℤ) (us : List ℤ) →
    IsVisible g later (suc i) (Var x) → Reaches g later i (record { sense = s; target = Var x }) box z →
    ((u : ℤ) → Among u (values_left box x.0) → IsFalse (is_better s z u) → Among u us) → IsAgainst v →
    Throughout v g (optimising (record { sense = s; target = Var x }) ∷ later) i d (set box x.0 us) →
    Throughout v g (optimising (record { sense = s; target = Var x }) ∷ later) i d box

-- as it does at the last scope by a tuple with which the restriction and the goal hold throughout the box
abbrev pub ReachesAtLast : Type 0
ReachesAtLast =
    (g : Game) (i : ℕ) (s : Sense) (x : VarId) (box : Box) (z : ℤ) (t : List ℤ) →
    ((a : List ℤ) → IsPositionIn g i box a → IsMove g i a t × IsTrue (allows g (suc i) (a ++ t)) × (slice_index_or (a ++ t) x.0 (pos 0) ≡ z)) →
    Reaches g [] i (record { sense = s; target = Var x }) box z

-- at a scope of the opponent, by its leaves, each with its one tuple, some of them perhaps skipped: what the table concludes at
-- each position in the box, where the same tuples are allowed at each
abbrev pub AnsweringByLeaves : Type 0
AnsweringByLeaves =
    (g : Game) (later : List Scope) (x : Option Condition) (i : ℕ) (d : List Condition) (box : Box) (ls : List Claim) → IsTrue (bottleneck_last g d) →
    EachLeafSays g later i (demands_through g d) box ls → ((a : List ℤ) → IsPositionIn g i box a → IsComplete g i a ls) →
    (a : List ℤ) → IsPositionIn g i box a → Says (forall_verdict g d a (map seen_in ls)) g (universal x ∷ later) i d box a

-- at a scope of the player with the values a before it, some of whose choices were looked at one by one and others in parts,
-- with several values left: the table's verdict, where a bounded part counts as a mark and a lost one as nothing
abbrev pub ChoosingByParts : Type 0
ChoosingByParts =
    (g : Game) (later : List Scope) (x : Option Condition) (i : ℕ) (a : List ℤ) (d : List Condition) (ls : List PartLeaf) → length a ≡ before g i →
    EachPartSays g later i (with_condition x d) a ls → CoversChoices g later i a ls →
    MeansAt g (existential x ∷ later) i a d (exists_verdict x (with_condition x d) (map seen_in (map (part_claim (with_condition x d)) ls)))

-- there a bound throughout a part of the box holds back each choice that leads into it, as a mark does
abbrev pub PartIsMark : Type 0
PartIsMark =
    (g : Game) (later : List Scope) (i : ℕ) (c : Condition) (e : List Condition) (part : Box) (p : ℤ) → Throughout (at_most p) g later (suc i) (c ∷ e) part →
    (a t : List ℤ) (s : Plan) → length a ≡ before g i → IsMove g i a t → IsOptimalWithin g later (suc i) part (a ++ t) s → HeldBy g (c ∷ e) a (choose t s) p

-- where play ends: at a goal that holds nowhere in the box, or throughout it with one vector
abbrev pub GoalLost : Type 0
GoalLost = (g : Game) (i : ℕ) (d : List Condition) (box : Box) → ((a : List ℤ) → IsPositionIn g i box a → IsFalse (allows g i a)) → Throughout lost g [] i d box

abbrev pub GoalWon : Type 0
GoalWon =
    (g : Game) (i : ℕ) (d : List Condition) (box : Box) (v : List ℤ) →
    ((a : List ℤ) → IsPositionIn g i box a → IsTrue (allows g i a) × (vector g d a finish ≡ v)) → Throughout (exact v) g [] i d box

-- and at a scope whose owner is stuck at each position. Against an opponent who is stuck the values may differ from position
-- to position, so they have to be the same
abbrev pub PlayerStuck : Type 0
PlayerStuck =
    (g : Game) (later : List Scope) (x : Option Condition) (i : ℕ) (d : List Condition) (box : Box) → ((a : List ℤ) → IsPositionIn g i box a → HasNoMove g i a) →
    Throughout lost g (existential x ∷ later) i d box

abbrev pub OpponentStuck : Type 0
OpponentStuck =
    (g : Game) (later : List Scope) (x : Option Condition) (i : ℕ) (d : List Condition) (box : Box) (v : List ℤ) → IsTrue (bottleneck_last g d) →
    ((a : List ℤ) → IsPositionIn g i box a → HasNoMove g i a) → ((a : List ℤ) → IsPositionIn g i box a → entry_values g d a (numbers_for d []) ≡ v) →
    Throughout (exact v) g (universal x ∷ later) i d box
