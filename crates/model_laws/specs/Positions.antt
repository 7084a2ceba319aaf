-- Words on a position: its scopes, the choices there, the best vector of its optimal strategies, and bounds on them.
use Rattle.std.specs.Prelude.{ℕ, suc, List, [], ◌∷◌, ◌++◌, Option, Some, ⊤, IsFalse, ℤ}
use Rattle.qc_model.specs.declared.problem.Kind.TheVariants.{Exists, Forall}
use Rattle.qc_model.specs.declared.problem.Condition.{Condition}
use Rattle.qc_model.specs.declared.problem.Scope.{Scope}
use Rattle.qc_model.specs.Content.{Game}
use Rattle.qc_model.specs.Plan.{Plan, finish, choose, answer, Chooses}
use Rattle.qc_model.specs.Value.{value}
use Rattle.qc_model.specs.Optimal.{is_better, Optimal}
use Rattle.qc_model.specs.Demands.{IsBestVector}

-- a scope of the opponent, where a condition would say nothing; a scope of the player; and one with a condition
abbrev pub universal : Option Condition → Scope
universal x = record { kind = Forall; condition = x }

abbrev pub existential : Option Condition → Scope
existential x = record { kind = Exists; condition = x }

abbrev pub optimising : Condition → Scope
optimising c = existential (Some c)

-- a choice of an allowed tuple, with R after it
abbrev pub Chosen : Game → ℕ → List ℤ → (List ℤ → Plan → Type 0) → Plan → Type 0
Chosen g i a R finish = ⊥
Chosen g i a R (choose t s) = Chooses g i a R t s
Chosen g i a R (answer l) = ⊥

-- s is optimal after the tuple t of scope i; later has the scopes after it
abbrev pub OptimalAfter : Game → List Scope → ℕ → List ℤ → List ℤ → Plan → Type 0
OptimalAfter g later i a t s = Optimal g later (suc i) (a ++ t) s

-- a choice at scope i that is optimal from the next scope on; the scope's own condition isn't asked yet
abbrev pub IsChoice : Game → List Scope → ℕ → List ℤ → Plan → Type 0
IsChoice g later i a p = Chosen g i a (Optimal g later (suc i)) p

-- v is the best vector at the position before scope i, for the list d; scopes has the scopes from i on
abbrev pub IsBestAt : Game → List Scope → ℕ → List ℤ → List Condition → List ℤ → Type 0
IsBestAt g scopes i a d v = IsBestVector g d a (Optimal g scopes i a) v

-- no plan with O has a first value better than p
abbrev pub AtMost : Game → List Condition → List ℤ → (Plan → Type 0) → ℤ → Type 0
AtMost g [] a O p = ⊤
AtMost g (c ∷ d) a O p = (s : Plan) → O s → IsFalse (is_better c.sense (value g s c.target a) p)

-- none that is optimal at the position before scope i has
abbrev pub IsBoundAt : Game → List Scope → ℕ → List ℤ → List Condition → ℤ → Type 0
IsBoundAt g scopes i a d p = AtMost g d a (Optimal g scopes i a) p
