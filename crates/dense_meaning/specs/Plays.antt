-- Plays, and what the laws ask of boxes.
use Rattle.std.specs.Prelude.{◌≡◌, ◌≤◌, ◌<◌, ℕ, zero, suc, List, [], ◌∷◌, ◌++◌, length, take, ⊤, IsTrue, ℤ}
use Rattle.qc_model.specs.declared.problem.Kind.{Kind}
use Rattle.qc_model.specs.declared.problem.Kind.TheVariants.{Exists, Forall}
use Rattle.qc_model.specs.declared.problem.Condition.{Condition}
use Rattle.qc_model.specs.declared.problem.Scope.{Scope}
use Rattle.qc_model.specs.Content.{Game}
use Rattle.qc_model.specs.Lists.{Among, LiesIn}
use Rattle.qc_model.specs.Domains.{InBox, Box, declared_box, values_left}
use Rattle.qc_model.specs.Game.{before, scope_domains, allows, IsMove}
use Rattle.qc_model.specs.Block.{force_stop}
use Rattle.qc_model.specs.Plan.{Plan}
use Rattle.qc_model.specs.Value.{value}
use Rattle.qc_model.specs.Optimal.{Optimal}
use Rattle.dense_meaning.specs.Throughout.{IsPositionIn}

-- each value left to a variable was declared, and the box has as many variables
pub record IsDeclared (g : Game) (box : Box) : Type 0 where
  pub size : length box ≡ length (declared_box g)
  pub values : (x : ℕ) (v : ℤ) → Among v (values_left box x) → Among v (values_left (declared_box g) x)

-- the owner of scope i has an allowed tuple at each position in the box
abbrev pub HasMoves : Game → ℕ → Box → Type 0
HasMoves g i box = (a : List ℤ) → IsPositionIn g i box a → (t : List ℤ) × IsMove g i a t

-- the same of the scope where it is the opponent's
abbrev pub OpponentHasMoves : Kind → Game → ℕ → Box → Type 0
OpponentHasMoves Exists g i box = ⊤
OpponentHasMoves Forall g i box = HasMoves g i box

-- the opponent is never stuck in these scopes, the first of which has the number i
abbrev pub NeverStuck : Game → List Scope → ℕ → Box → Type 0
NeverStuck g [] i box = ⊤
NeverStuck g (s ∷ later) i box = OpponentHasMoves s.kind g i box × NeverStuck g later (suc i) box

-- w goes on from a by allowed tuples of the next n scopes, the first of which has the number i; after the last scope
-- stands the goal, which has to hold
abbrev pub GoesOn : Game → List Scope → ℕ → ℕ → List ℤ → List ℤ → Type 0
GoesOn g later zero i a w = w ≡ a
GoesOn g [] (suc n) i a w = (w ≡ a) × IsTrue (allows g i a)
GoesOn g (s ∷ later) (suc n) i a w = (t : List ℤ) × IsMove g i a t × GoesOn g later n (suc i) (a ++ t) w

-- a whole play: through all scopes, to a goal that holds
abbrev pub IsPlay : Game → List Scope → ℕ → List ℤ → List ℤ → Type 0
IsPlay g later i a w = GoesOn g later (suc (length later)) i a w

-- the box has all plays of the position
abbrev pub HasAllPlays : Game → List Scope → ℕ → List ℤ → Box → Type 0
HasAllPlays g later i a box = (w : List ℤ) → IsPlay g later i a w → InBox w box

-- the smaller box keeps what goes on through the next n scopes in the box; and each whole play in it
abbrev pub KeepsThrough : Game → List Scope → ℕ → ℕ → Box → Box → Type 0
KeepsThrough g later n i box small =
    (a w : List ℤ) → IsPositionIn g i box a → GoesOn g later n i a w → InBox w box → InBox w small

abbrev pub KeepsPlays : Game → List Scope → ℕ → Box → Box → Type 0
KeepsPlays g later i box small = KeepsThrough g later (suc (length later)) i box small

-- to the variables of scope j and of later ones the part leaves all that the box does
abbrev pub KeepsFrom : Game → ℕ → Box → Box → Type 0
KeepsFrom g j box part = (w : List ℤ) → InBox w box → InBox (take (before g j) w) part → InBox w part

-- the variables that constraints in force at scope i may take values of where earlier ones are open, by the scope's owner: all
-- of those constraints' scopes and before them for the player, the scope's own for the opponent; here has the scopes from i on
abbrev pub MayLose : Kind → Game → List Scope → ℕ → ℕ → Type 0
MayLose Exists g here i x = x < before g (force_stop here i)
MayLose Forall g here i x = (before g i ≤ x) × (x < before g (suc i))

-- from each position in the box scope i has an allowed tuple that leads into the part
abbrev pub CanEnter : Game → ℕ → Box → Box → Type 0
CanEnter g i box part = (a : List ℤ) → IsPositionIn g i box a → (t : List ℤ) × IsMove g i a t × InBox (a ++ t) part

-- the restriction of scope i holds of all values in the box
abbrev pub HoldsThroughout : Game → ℕ → Box → Type 0
HoldsThroughout g i box = (w : List ℤ) → IsPositionIn g (suc i) box w → IsTrue (allows g i w)

-- from each position in the box some values of scope i's domains lead on in it
abbrev pub HasValues : Game → ℕ → Box → Type 0
HasValues g i box = (a : List ℤ) → IsPositionIn g i box a → (t : List ℤ) × LiesIn t (scope_domains g i) × InBox (a ++ t) box

-- at each position in the box some choice of scope i, with optimal play after it, gives the condition's target the value z
abbrev pub Reaches : Game → List Scope → ℕ → Condition → Box → ℤ → Type 0
Reaches g later i c box z =
    (a : List ℤ) → IsPositionIn g i box a → (t : List ℤ) × (s : Plan) × IsMove g i a t × Optimal g later (suc i) (a ++ t) s × (value g s c.target (a ++ t) ≡ z)
