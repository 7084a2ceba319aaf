-- How a play goes. The scopes are played in order: those of one kind by a tree of choices, a strategy's or a
-- counterstrategy's, the others by the moves.
use Rattle.std.specs.Prelude.{ℕ, suc, Bool, true, false, ◌&&◌, nat_lt, cond, Option, Some, None, List, [], ◌∷◌, ◌++◌, length, take, drop, ℤ}
use Rattle.qc_model.specs.declared.problem.Kind.{Kind}
use Rattle.qc_model.specs.declared.problem.Kind.TheVariants.{Exists, Forall}
use Rattle.qc_model.specs.declared.problem.Scope.{Scope}
use Rattle.qc_model.specs.Content.{Game}
use Rattle.qc_model.specs.Lists.{same_values}
use Rattle.qc_model.specs.Domains.{Values, has_value}
use Rattle.qc_model.specs.Game.{allows, scope_domains}
use Rattle.qc_model.specs.Plan.{Plan, finish, choose, answer, Entries, no_entries, entry}

-- how a play ends; scopes are counted from 0
pub data Ending : Type 0 where
  -- all scopes are passed, and the goal holds or doesn't
  at_goal : Bool → Ending
  -- the tree has no entry at this scope of the moves
  stuck_at : ℕ → Ending
  -- nor one for this scope's tuple
  hopeless_at : ℕ → Ending
  -- fewer moves are left than the scope has variables
  missing_at : ℕ → Ending
  -- the next moves aren't an allowed tuple of the scope
  not_allowed_at : ℕ → Ending

-- a scope that was played
pub record Turn : Type 0 where
  pub kind : Kind
  pub tuple : List ℤ

-- the scopes that were played, from the first on, the end, and the moves that weren't read
pub record Play : Type 0 where
  pub turns : List Turn
  pub ending : Ending
  pub left : List ℤ

abbrev pub ends : Ending → List ℤ → Play
ends e ms = record { turns = []; ending = e; left = ms }

-- a turn, and then this play
abbrev pub after_turn : Kind → List ℤ → Play → Play
after_turn k t p = record { turns = record { kind = k; tuple = t } ∷ p.turns; ending = p.ending; left = p.left }

-- the values lie in the domains, and there are as many
abbrev pub lies_in : List ℤ → List Values → Bool
lies_in [] [] = true
lies_in [] (d ∷ ds) = false
lies_in (v ∷ vs) [] = false
lies_in (v ∷ vs) (d ∷ ds) = has_value d v && lies_in vs ds

-- t is an allowed tuple of scope i after the values a
abbrev pub is_move : Game → ℕ → List ℤ → List ℤ → Bool
is_move g i a t = lies_in t (scope_domains g i) && allows g i (a ++ t)

-- what the entries have for a tuple
abbrev pub reply_to : List ℤ → Entries → Option Plan
reply_to t no_entries = None
reply_to t (entry u s rest) = cond (same_values u t) (Some s) (reply_to t rest)

-- how a play goes on, with the values so far, the rest of the tree and the moves that are left
abbrev pub Rest : Type 0
Rest = List ℤ → Plan → List ℤ → Play

-- scope i, after the values a, is the tree's; without a choice there it is stuck
abbrev pub own_turn : Kind → ℕ → List ℤ → Plan → List ℤ → Rest → Play
own_turn k i a finish ms go = ends (stuck_at i) ms
own_turn k i a (choose t s) ms go = after_turn k t (go (a ++ t) s ms)
own_turn k i a (answer l) ms go = ends (stuck_at i) ms

-- the tuple t was moved, and this is the tree's reply
abbrev pub replied : Kind → ℕ → List ℤ → List ℤ → Option Plan → List ℤ → Rest → Play
replied k i a t None ms go = after_turn k t (ends (hopeless_at i) ms)
replied k i a t (Some s) ms go = after_turn k t (go (a ++ t) s ms)

-- the next n moves are the tuple
abbrev pub moved : Game → Kind → ℕ → List ℤ → ℕ → Entries → List ℤ → Rest → Play
moved g k i a n l ms go =
    cond (nat_lt (length ms) n) (ends (missing_at i) ms)
    (cond (is_move g i a (take n ms))
    (replied k i a (take n ms) (reply_to (take n ms) l) (drop n ms) go)
    (ends (not_allowed_at i) ms))

abbrev pub answered : Game → Kind → ℕ → List ℤ → Entries → List ℤ → Rest → Play
answered g k i a no_entries ms go = ends (stuck_at i) ms
answered g k i a (entry t s rest) ms go = moved g k i a (length (scope_domains g i)) (entry t s rest) ms go

-- the tree's answers; it has none but as an answer
abbrev pub answers_of : Plan → Entries
answers_of finish = no_entries
answers_of (choose t s) = no_entries
answers_of (answer l) = l

-- scope i of kind k, where the tree plays the scopes of its own kind
abbrev pub turn : Game → Kind → Kind → ℕ → List ℤ → Plan → List ℤ → Rest → Play
turn g Exists Exists i a s ms go = own_turn Exists i a s ms go
turn g Exists Forall i a s ms go = answered g Forall i a (answers_of s) ms go
turn g Forall Exists i a s ms go = answered g Exists i a (answers_of s) ms go
turn g Forall Forall i a s ms go = own_turn Forall i a s ms go

-- the play from scope i on, which is the first of later, after the values a
abbrev pub play_from : Game → Kind → List Scope → ℕ → List ℤ → Plan → List ℤ → Play
play_from g own [] i a s ms = ends (at_goal (allows g i a)) ms
play_from g own (scope ∷ later) i a s ms = turn g own scope.kind i a s ms (play_from g own later (suc i))

-- the whole play by the tree of the scopes of this kind
abbrev pub play_of : Game → Kind → Plan → List ℤ → Play
play_of g own s ms = play_from g own g.scopes 0 [] s ms
