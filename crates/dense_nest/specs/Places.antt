-- The places of a ledger, as a machine keeps them: spots, and marks of its trail in place of boxes.
use Rattle.std.specs.Prelude.{◌≡◌, ◌≤◌, ◌<◌, ℕ, true, false, Bool, Option, Some, None, length, drop, ⊤}
use Rattle.qc_model.specs.Content.{Game}
use Rattle.qc_model.specs.Demands.{demands}
use Rattle.qc_model.specs.Domains.{Box, values_left, has_empty}
use Rattle.model_arguments.specs.Asked.{is_box_of}
use Rattle.fd_store.specs.Held.{Held, past_box, values_from}
use Rattle.dense_tree.specs.Place.{Place}
use Rattle.dense_ledger.specs.Ledger.{Entry as EntryTold, Fork as ForkTold}
use Rattle.dense_nest.specs.declared.place.Spot.{Spot}
use Rattle.dense_nest.specs.declared.place.Entry.{Entry}
use Rattle.dense_nest.specs.declared.place.Fork.{Fork}

-- the place of a spot, with a box
abbrev pub place_at : Game → Spot → Box → Place
place_at g p box = record {
  number = p.number;
  later = drop p.number g.scopes;
  list = demands g p.number;
  box = box;
  horizon = p.horizon;
  loose = p.loose;
  bounded = p.bounded;
}

-- where the lines of a node stand, below its own horizon
abbrev pub spot_below : Entry → Spot
spot_below e = record { number = e.spot.number; horizon = e.horizon; loose = e.spot.loose; bounded = e.spot.bounded }

-- a part of its own tree, below a bound or not
abbrev pub part_spot : Entry → Bool → Spot
part_spot e bounded = record { number = e.spot.number; horizon = e.horizon; loose = e.spot.loose; bounded = bounded }

abbrev pub entry_told : Game → Held → Entry → EntryTold
entry_told g s e = record {
  begin = place_at g e.spot (past_box s e.mark.at);
  place = place_at g (spot_below e) (past_box s e.mark.at);
  named = e.named;
  chosen = e.chosen;
}

abbrev pub fork_told : Game → Held → Entry → Fork → ForkTold
fork_told g s e k = record {
  place = place_at g (part_spot e k.bounded) (past_box s k.mark.at);
  variable = k.x.0;
  left = values_from k.from (values_left (past_box s k.mark.at) k.x.0);
}

-- a box of the game in which each variable has a value
pub record IsFull (g : Game) (box : Box) : Type 0 where
  pub declared : is_box_of g box ≡ true
  pub full : has_empty box ≡ false

abbrev pub IsInside : Game → Option ℕ → Type 0
IsInside g None = ⊤
IsInside g (Some k) = k ≤ length g.scopes

-- a node whose mark is among the first n places of the trail, or at their end
pub record IsEntry (g : Game) (s : Held) (n : ℕ) (e : Entry) : Type 0 where
  pub inside : e.spot.number ≤ length g.scopes
  pub above : IsInside g e.spot.horizon
  pub horizon : IsInside g e.horizon
  pub at : e.mark.at ≤ n
  pub box : IsFull g (past_box s e.mark.at)

-- a branch in the own tree of such a node
pub record IsFork (g : Game) (s : Held) (n : ℕ) (e : Entry) (k : Fork) : Type 0 where
  pub after : e.mark.at ≤ k.mark.at
  pub at : k.mark.at ≤ n
  pub variable : k.x.0 < length g.variables
  pub box : IsFull g (past_box s k.mark.at)
