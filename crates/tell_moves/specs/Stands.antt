-- Values of the first variables of a game.
use Rattle.std.specs.Prelude.{◌≡◌, ◌<◌, ⊤, ℕ, suc, Bool, nat_lt, cond, false, List, [], ◌∷◌, ◌++◌, length, drop, take, ℤ}
use Rattle.qc_model.specs.declared.problem.Scope.{Scope}
use Rattle.qc_model.specs.Content.{Game}
use Rattle.qc_model.specs.Domains.{Box, InBox, declared_box}
use Rattle.qc_model.specs.Game.{before, scope_domains}
use Rattle.fd_store.specs.Held.{trail_len, IsUndone}
use Rattle.qc_play.specs.Play.{is_move}
use Rattle.tell_moves.specs.declared.search.Walk.{Walk}
use Rattle.tell_moves.specs.declared.standing.Standing.{Standing}
use Rattle.tell_moves.specs.declared.standing.Standing.TheVariants.{Before, AfterAll, LeftOver, Missing, NotAllowed}

-- each variable has the one value
abbrev pub singles : List ℤ → Box
singles [] = []
singles (v ∷ w) = (v ∷ []) ∷ singles w

-- the box leaves the first variables these values, which are declared, and the others all of theirs
pub record StandsIn (g : Game) (w : List ℤ) (box : Box) : Type 0 where
  pub declared : InBox w (declared_box g)
  pub box_is : box ≡ singles w ++ drop (length w) (declared_box g)

-- the walk is where it was
pub record IsBack (old new : Walk) : Type 0 where
  pub values : new.values.items ≡ old.values.items
  pub box : new.remains.box ≡ old.remains.box
  pub past : IsUndone (trail_len old.remains) old.remains new.remains

-- Where the values of the first scopes end.
pub data Place : Type 0 where
  -- before this scope, after these values
  before_scope : ℕ → List ℤ → Place
  -- after the last scope
  after_all : Place
  -- values are left after the last scope
  left_over : Place
  -- fewer are left than the scope has variables
  missing_at : ℕ → Place
  -- the next ones aren't an allowed tuple of the scope
  not_allowed_at : ℕ → Place

-- no value is left for a scope that has variables
abbrev pub is_end : ℕ → List ℤ → Bool
is_end n [] = nat_lt 0 n
is_end n (v ∷ vs) = false

abbrev pub last_place : List ℤ → Place
last_place [] = after_all
last_place (v ∷ vs) = left_over

-- scope i has n variables; its tuple is taken, and the rest goes on
abbrev pub place_at : Game → ℕ → ℕ → List ℤ → List ℤ → (List ℤ → List ℤ → Place) → Place
place_at g i n a vs go =
    cond (is_end n vs) (before_scope i a)
    (cond (nat_lt (length vs) n) (missing_at i)
    (cond (is_move g i a (take n vs)) (go (a ++ take n vs) (drop n vs)) (not_allowed_at i)))

-- after the values a; the values vs are those from scope i on, which is the first of later
abbrev pub place_from : Game → List Scope → ℕ → List ℤ → List ℤ → Place
place_from g [] i a vs = last_place vs
place_from g (scope ∷ later) i a vs = place_at g i (length (scope_domains g i)) a vs (place_from g later (suc i))

abbrev pub place_of : Game → List ℤ → Place
place_of g vs = place_from g g.scopes 0 [] vs

-- the same as an answer tells it
abbrev pub place_told : Standing → Place
place_told (Before scope values) = before_scope scope.0 values.items
place_told AfterAll = after_all
place_told LeftOver = left_over
place_told (Missing scope) = missing_at scope.0
place_told (NotAllowed scope) = not_allowed_at scope.0

-- the values of all variables before a scope, each of them declared
pub record IsBefore (g : Game) (i : ℕ) (a : List ℤ) : Type 0 where
  pub scope : i < length g.scopes
  pub count : length a ≡ before g i
  pub declared : InBox a (declared_box g)

abbrev pub IsReady : Game → Standing → Type 0
IsReady g (Before scope values) = IsBefore g scope.0 values.items
IsReady g AfterAll = ⊤
IsReady g LeftOver = ⊤
IsReady g (Missing scope) = ⊤
IsReady g (NotAllowed scope) = ⊤
