-- What a machine keeps, whatever lines it takes.
use Rattle.std.specs.Prelude.{◌≡◌, ◌<◌, ◌≤◌, ◌-◌, ℕ, suc, true, false, List, [], ◌∷◌, length, ℤ}
use Rattle.std.specs.List.{list_all}
use Rattle.qc_model.specs.declared.problem.VarId.{VarId}
use Rattle.qc_model.specs.Content.{Game}
use Rattle.qc_model.specs.Domains.{Box, values_left, has_empty, declared_box}
use Rattle.qc_model.specs.Valid.{is_number}
use Rattle.model_arguments.specs.Asked.{is_box_of}
use Rattle.joins.specs.Joins.{game_of as game_joined}
use Rattle.fd_store.specs.declared.store.Mark.{Mark}
use Rattle.fd_store.specs.Held.{Held, trail_len, past_box, values_from}
use Rattle.check_box.specs.Placed.{values_to, IsAt}
use Rattle.check_lines.specs.declared.open.Open.{Open}
use Rattle.check_lines.specs.declared.open.Open.TheVariants.{Next, Branch}
use Rattle.check_lines.specs.declared.open.Due.{Due}
use Rattle.check_lines.specs.declared.open.Due.TheVariants as due
use Rattle.check_lines.specs.declared.bounds.Bounds.{Bounds}
use Rattle.check_lines.specs.declared.machine.Machine.{Machine}
use Rattle.check_lines.specs.State.{Fork}
use Rattle.check_lines.specs.LedgerSizes.{VerdictLaws}
use Rattle.check_lines.specs.Tracking.{TracksAll}
use Rattle.check_lines.specs.Known.{mark_of, ReadBy, HasReads}

abbrev pub game_of : Machine → Game
game_of m = m.levels.problem.now

-- what no line changes: the box at the beginning of the trail, and what else was made of the problem once
pub record Base : Type 0 where
  pub first : Box
  pub bounds : Bounds
  pub joined : Game
  pub valued : Game
  pub marks : ℕ

abbrev pub base_of : Machine → Base
base_of m = record { first = past_box m.remains 0; bounds = m.bounds; joined = game_joined m.joins; valued = m.values.game; marks = length m.reads.marks.items }

-- it is that of the problem
pub record IsBaseOf (g : Game) (b : Base) : Type 0 where
  pub first : b.first ≡ declared_box g
  pub tracks : TracksAll g b.bounds
  pub joined : b.joined ≡ g
  pub valued : b.valued ≡ g
  pub marks : b.marks ≡ length g.variables

-- the machine can begin again, whatever lines it took
abbrev pub CanBegin : Machine → Type 0
CanBegin m = IsBaseOf (game_of m) (base_of m)

-- a branch: the box is the one to which undoing down to the mark leads, and the values from a number on are left
abbrev pub fork_at : Held → VarId → Mark → ℤ → Fork
fork_at s x mark from = record { variable = x.0; box = past_box s mark.at; left = values_from from (values_left (past_box s mark.at) x.0) }

abbrev pub before_of : Machine → List ℤ
before_of m = values_to (game_of m) m.number m.values.items

-- a box of the problem in which each variable has a value, and those before scope i have these
pub record IsFull (g : Game) (i : ℕ) (vs : List ℤ) (box : Box) : Type 0 where
  pub declared : is_box_of g box ≡ true
  pub full : has_empty box ≡ false
  pub placed : IsAt g i vs box

-- a branch of scope i on x, at a mark of the first n places of the trail, where each variable has a value
pub record IsFork (g : Game) (s : Held) (vs : List ℤ) (i n : ℕ) (x : VarId) (mark : Mark) : Type 0 where
  pub scope : i < length g.scopes
  pub at : mark.at ≤ n
  pub variable : x.0 < length g.variables
  pub box : IsFull g i vs (past_box s mark.at)

-- what is open around a part of scope i, or a node of it: scopes have their numbers, and each mark is one of the trail, at
-- most n and the marks opened later
abbrev pub AreFrames : Game → Held → List ℤ → ℕ → ℕ → List Open → Type 0
AreFrames g s vs i n [] = Unit {0}
AreFrames g s vs i n (Next h ∷ fs) = (0 < i) × AreFrames g s vs (i - 1) n fs
AreFrames g s vs i n (Branch x mark from ∷ fs) = IsFork g s vs i n x mark × AreFrames g s vs i mark.at fs

pub record IsSound (m : Machine) : Type 0 where
  pub laws : VerdictLaws (game_of m)
  pub tracks : TracksAll (game_of m) m.bounds
  pub joined : game_joined m.joins ≡ game_of m
  pub valued : m.values.game ≡ game_of m
  pub value_each : length m.values.items ≡ length (game_of m).variables
  pub numbers : list_all is_number m.values.items ≡ true
  pub declared : is_box_of (game_of m) m.remains.box ≡ true
  pub inside : m.number ≤ length (game_of m).scopes
  pub placed : has_empty m.remains.box ≡ false → IsAt (game_of m) m.number m.values.items m.remains.box
  pub frames : AreFrames (game_of m) m.remains m.values.items m.number (trail_len m.remains) m.nesting
  pub read : HasReads (game_of m) m.remains m.values.items m.reads m.nesting

-- at a node, where each variable has a value
pub record IsAtNode (m : Machine) : Type 0 where
  pub sound : IsSound m
  pub full : has_empty m.remains.box ≡ false

-- in a scope's own tree
pub record IsWithin (m : Machine) : Type 0 where
  pub sound : IsSound m
  pub scope : m.number < length (game_of m).scopes

-- in a horizon at k, where the mark is one of the trail that no frame's is beyond, at the node's box; nothing was read
-- since
pub record IsSeeing (m : Machine) (k : ℕ) (mark : Mark) : Type 0 where
  pub within : IsWithin m
  pub order : m.number ≤ k
  pub bound : k ≤ length (game_of m).scopes
  pub at : mark.at ≤ trail_len m.remains
  pub box : IsFull (game_of m) m.number m.values.items (past_box m.remains mark.at)
  pub frames : AreFrames (game_of m) m.remains m.values.items m.number mark.at m.nesting
  pub read : ReadBy (past_box m.remains mark.at) m.values.items m.reads mark.at
  pub known : (k : ℕ) → k < m.reads.count → mark_of m.reads k ≤ mark.at

-- the branch that is open last is at its own box
abbrev pub IsBack : Held → List Open → Type 0
IsBack s [] = Unit {0}
IsBack s (Next h ∷ fs) = Unit {0}
IsBack s (Branch x mark from ∷ fs) = s.box ≡ past_box s mark.at

pub record IsAtFork (m : Machine) : Type 0 where
  pub sound : IsSound m
  pub back : IsBack m.remains m.nesting

-- nothing is kept once a line was out of place, or the lines were a node
abbrev pub IsReadyAt : Machine → Due → Type 0
IsReadyAt m due.Node = IsAtNode m
IsReadyAt m (due.Prune k mark) = IsSeeing m k mark
IsReadyAt m due.Body = IsAtNode m
IsReadyAt m due.Part = IsWithin m
IsReadyAt m due.Case = IsAtFork m
IsReadyAt m (due.Ranged high) = IsAtFork m
IsReadyAt m due.Closed = IsSound m
IsReadyAt m due.Ended = Unit {0}
IsReadyAt m due.Wrong = Unit {0}

abbrev pub IsReady : Machine → Type 0
IsReady m = IsReadyAt m m.due

-- how often a node can be left before the next line, at most
abbrev pub left_at_most : Due → ℕ → ℕ
left_at_most due.Node n = 0
left_at_most (due.Prune k mark) n = 0
left_at_most due.Body n = 0
left_at_most due.Part n = 0
left_at_most due.Case n = 0
left_at_most (due.Ranged high) n = 0
left_at_most due.Closed n = suc n
left_at_most due.Ended n = 0
left_at_most due.Wrong n = 0
