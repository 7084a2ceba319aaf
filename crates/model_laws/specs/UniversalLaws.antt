-- The laws of the opponent's scopes: what their branches make of a demanded list.
use Rattle.std.specs.Prelude.{◌≡◌, ◌↔◌, ◌≤◌, ℕ, suc, List, ◌∷◌, ◌++◌, Option, Some, ℤ, drop, length, map, IsTrue, IsFalse}
use Rattle.qc_model.specs.declared.problem.Condition.{Condition}
use Rattle.qc_model.specs.declared.problem.Scope.{Scope}
use Rattle.qc_model.specs.Content.{Game}
use Rattle.qc_model.specs.declared.problem.Sense.{Sense}
use Rattle.qc_model.specs.declared.problem.Sense.TheVariants.{Min, Max}
use Rattle.qc_model.specs.declared.problem.Fold.{Fold}
use Rattle.qc_model.specs.declared.problem.Fold.TheVariants.{Least, Greatest}
use Rattle.qc_model.specs.declared.problem.Target.{Target}
use Rattle.qc_model.specs.Game.{IsMove, moves}
use Rattle.qc_model.specs.Plan.{answer, Entries, Covers}
use Rattle.qc_model.specs.Value.{fold_of, least_or, greatest_or}
use Rattle.qc_model.specs.Optimal.{is_better, Optimal}
use Rattle.qc_model.specs.Demands.{demands_through, demands}
use Rattle.qc_model.specs.Bottlenecks.{bottleneck_last}
use Rattle.qc_model.specs.ForallVerdict.{entry_value, entry_values, numbers_for}
use Rattle.qc_model.specs.Sees.{AllVisible}
use Rattle.qc_model.specs.Valid.{IsValid}
use Rattle.model_laws.specs.Positions.{universal, IsBestAt, IsBoundAt}
use Rattle.model_laws.specs.Branches.{AllOwn, IsAggregate, fold_named, BestAfter, AtMostAfter, AllKnown, NeverBetter}
use Rattle.model_laws.specs.Distinct.{Distinct, IsReordering}

-- optimal is any family of strategies that are optimal in their branches
abbrev pub AnyFamily : Type 0
AnyFamily =
    (g : Game) (later : List Scope) (x : Option Condition) (i : ℕ) (a : List ℤ) (l : Entries) →
    Optimal g (universal x ∷ later) i a (answer l) ↔ Covers g i a (Optimal g later (suc i)) l

-- the best vector has the variables' values, and for each aggregate the fold of the numbers that the branches' best vectors have
-- for it: the sums before the last aggregate that is named hold each branch to its best, since a sum is worse where one branch is
abbrev pub BestOfBranches : Type 0
BestOfBranches =
    (g : Game) (later : List Scope) (x : Option Condition) (i : ℕ) (a : List ℤ) (d : List Condition) (ws : List (List ℤ)) →
    IsTrue (bottleneck_last g d) → BestAfter g (demands_through g d) a (Optimal g later (suc i)) (moves g i a) ws →
    IsBestAt g (universal x ∷ later) i a d (entry_values g d a (numbers_for d ws))

-- the same where the branches stand in any order, and w tells the best vector after each tuple
abbrev pub BestOfLeaves : Type 0
BestOfLeaves =
    (g : Game) (later : List Scope) (x : Option Condition) (i : ℕ) (a : List ℤ) (d : List Condition) (w : List ℤ → List ℤ) (ts : List (List ℤ)) →
    IsTrue (bottleneck_last g d) → IsReordering (moves g i a) ts →
    ((t : List ℤ) → IsMove g i a t → IsBestAt g later (suc i) (a ++ t) (demands_through g d) (w t)) →
    IsBestAt g (universal x ∷ later) i a d (entry_values g d a (numbers_for d (map w ts)))

-- a fold never gets better where no branch does
abbrev pub FoldsKeepOrder : Type 0
FoldsKeepOrder = (f : Fold) (s : Sense) (xs ys : List ℤ) → NeverBetter s xs ys → IsFalse (is_better s (fold_of f xs) (fold_of f ys))

-- so the fold of bounds of all branches bounds the first aggregate
abbrev pub FoldBounds : Type 0
FoldBounds =
    (g : Game) (later : List Scope) (x : Option Condition) (i : ℕ) (a : List ℤ) (c : Condition) (d : List Condition) (ps : List ℤ) →
    IsAggregate c.target → AtMostAfter g (demands_through g (c ∷ d)) a (Optimal g later (suc i)) (moves g i a) ps →
    IsBoundAt g (universal x ∷ later) i a (c ∷ d) (entry_value g a (λ q. ps) c.target)

-- the same where the branches stand in any order, and p tells the bound after each tuple
abbrev pub BoundOfLeaves : Type 0
BoundOfLeaves =
    (g : Game) (later : List Scope) (x : Option Condition) (i : ℕ) (a : List ℤ) (c : Condition) (d : List Condition) (p : List ℤ → ℤ) (ts : List (List ℤ)) →
    IsAggregate c.target → IsReordering (moves g i a) ts →
    ((t : List ℤ) → IsMove g i a t → IsBoundAt g later (suc i) (a ++ t) (demands_through g (c ∷ d)) (p t)) →
    IsBoundAt g (universal x ∷ later) i a (c ∷ d) (entry_value g a (λ q. map p ts) c.target)

-- where the greatest is to be small, bounds of some branches are enough: it is no smaller than the greatest of them
abbrev pub GreatestBounds : Type 0
GreatestBounds =
    (g : Game) (later : List Scope) (x : Option Condition) (i : ℕ) (a : List ℤ) (t : Target) (d : List Condition) (f p : ℤ) (ps : List ℤ) →
    fold_named g t ≡ Some (Greatest f) →
    AllKnown g (demands_through g (record { sense = Min; target = t } ∷ d)) i a (Optimal g later (suc i)) (p ∷ ps) →
    IsBoundAt g (universal x ∷ later) i a (record { sense = Min; target = t } ∷ d) (greatest_or f (p ∷ ps))

-- and where the least is to be great: it is no greater than the least of them
abbrev pub LeastBounds : Type 0
LeastBounds =
    (g : Game) (later : List Scope) (x : Option Condition) (i : ℕ) (a : List ℤ) (t : Target) (d : List Condition) (f p : ℤ) (ps : List ℤ) →
    fold_named g t ≡ Some (Least f) →
    AllKnown g (demands_through g (record { sense = Max; target = t } ∷ d)) i a (Optimal g later (suc i)) (p ∷ ps) →
    IsBoundAt g (universal x ∷ later) i a (record { sense = Max; target = t } ∷ d) (least_or f (p ∷ ps))

-- in a valid game the allowed tuples of a scope are all different
abbrev pub MovesDiffer : Type 0
MovesDiffer = (g : Game) (i : ℕ) (a : List ℤ) → IsValid g → Distinct (moves g i a)

-- in a valid game the list of each scope, and of the goal, names only what is visible there
abbrev pub ListsAreVisible : Type 0
ListsAreVisible = (g : Game) (i : ℕ) → IsValid g → i ≤ length g.scopes → AllVisible g (drop i g.scopes) i (demands g i)

-- so that of a universal scope names only variables of earlier scopes and the scope's own aggregates
abbrev pub ListsAreOwn : Type 0
ListsAreOwn =
    (g : Game) (i : ℕ) (x : Option Condition) (later : List Scope) → IsValid g → drop i g.scopes ≡ universal x ∷ later →
    AllOwn g i (demands g i)

-- the same of any list that names only what is visible
abbrev pub VisibleIsOwn : Type 0
VisibleIsOwn =
    (g : Game) (later : List Scope) (x : Option Condition) (i : ℕ) (d : List Condition) → AllVisible g (universal x ∷ later) i d →
    AllOwn g i d

-- and nothing after an aggregate by least or greatest but that aggregate again
abbrev pub BottlenecksAreLast : Type 0
BottlenecksAreLast =
    (g : Game) (i : ℕ) (x : Option Condition) (later : List Scope) → IsValid g → drop i g.scopes ≡ universal x ∷ later →
    IsTrue (bottleneck_last g (demands g i))
