-- An optimal strategy keeps the rules.
use Rattle.std.proofs.Common.{ℕ, suc, List, [], ◌∷◌, ◌++◌, ℤ, Option}
use Rattle.qc_model.specs.declared.problem.Kind.{Kind}
use Rattle.qc_model.specs.declared.problem.Kind.TheVariants.{Exists, Forall}
use Rattle.qc_model.specs.declared.problem.Condition.{Condition}
use Rattle.qc_model.specs.declared.problem.Scope.{Scope}
use Rattle.qc_model.specs.Content.{Game}
use Rattle.qc_model.specs.Plan.{Plan, finish, choose, answer, Entries, no_entries, entry, EachEntry, Turn, Chooses, Covers, IsStrategy}
use Rattle.qc_model.specs.Optimal.{ChoosesBest, Optimal}

each_weaker : (R S : List ℤ → Plan → Type 0) → ((t : List ℤ) (s : Plan) → R t s → S t s) → (l : Entries) → EachEntry R l → EachEntry S l
each_weaker R S f no_entries h = tt
each_weaker R S f (entry t s rest) h = (f t s h.0, each_weaker R S f rest h.1)

turn_weaker : (k : Kind) (x : Option Condition) (g : Game) (i : ℕ) (a : List ℤ) (R S : List ℤ → Plan → Type 0) → ((u : List ℤ) (s : Plan) → R u s → S u s) → (s : Plan) →
    Turn k s (ChoosesBest x g i a R) (Covers g i a R) → Turn k s (Chooses g i a S) (Covers g i a S)
turn_weaker Exists x g i a R S f finish h = h
turn_weaker Exists x g i a R S f (choose t s) h = record { is_move = h.is_move; after = f (a ++ t) s h.after }
turn_weaker Exists x g i a R S f (answer l) h = h
turn_weaker Forall x g i a R S f finish h = h
turn_weaker Forall x g i a R S f (choose t s) h = h
turn_weaker Forall x g i a R S f (answer l) h = record { tuples = h.tuples; each = each_weaker (λ t s. R (a ++ t) s) (λ t s. S (a ++ t) s) (λ t s. f (a ++ t) s) l h.each }

pub optimal_keeps_rules : (g : Game) (later : List Scope) (i : ℕ) (a : List ℤ) (s : Plan) → Optimal g later i a s → IsStrategy g later i a s
optimal_keeps_rules g [] i a s h = h.0
optimal_keeps_rules g (scope ∷ later) i a s h =
    turn_weaker scope.kind scope.condition g i a (Optimal g later (suc i)) (IsStrategy g later (suc i)) (λ u r. optimal_keeps_rules g later (suc i) u r) s h
