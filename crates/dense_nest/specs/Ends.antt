-- What a nest goes through where a part of a scope's own tree ends, and with it perhaps the scope's node.
use Rattle.std.specs.Prelude.{◌≡◌, ◌≤◌, ℕ, Bool, true, false, Option, List, [], ◌∷◌, length, slice_get, ℤ}
use Rattle.qc_model.specs.Demands.{demands}
use Rattle.qc_model.specs.Domains.{Box}
use Rattle.qc_model.specs.Verdict.{Verdict, Seen}
use Rattle.joins.specs.Joins.{game_of as game_joined, KeepsOthers, out_of}
use Rattle.joins.specs.Sizes.{AreLong}
use Rattle.fd_store.specs.Held.{Held}
use Rattle.dense_tree.specs.Tree.{Given}
use Rattle.dense_tree.specs.Place.{Setting, Place}
use Rattle.dense_ledger.specs.Ledger.{Ledger, Own, Frame, waiting, forked, Entry as EntryTold, ended_due, no_own, with_seen, leaf_seen, known_settled, own_verdict, own_value, part_ended}
use Rattle.dense_nest.specs.declared.place.Entry.{Entry}
use Rattle.dense_nest.specs.declared.nest.Nest.{Nest}
use Rattle.dense_nest.specs.Places.{IsFull, entry_told}
use Rattle.dense_nest.specs.Telling.{game_of, IsMade, IsOwn, IsNode, IsPart, Tells}
use Rattle.dense_nest.specs.Goes.{IsOver}

abbrev pub given_to : Nest → List Given → Setting
given_to m us = record { game = game_of m; given = us }

-- what is so at a node of scope i, whatever ledger is told
pub record IsHere (m : Nest) (i : ℕ) : Type 0 where
  pub made : IsMade m
  pub inside : i ≤ length (game_of m).scopes
  pub box : IsFull (game_of m) m.remains.box

-- a place of scope i that has the nest's box
pub record HasPlace (m : Nest) (i : ℕ) (p : Place) : Type 0 where
  pub number : p.number ≡ i
  pub list : p.list ≡ demands (game_of m) i
  pub box : p.box ≡ m.remains.box

-- the own tree of the node e has ended, at the box of the node
pub record IsTreeEnd (m : Nest) (e : Entry) (us : List Given) (boxes : List Box) (d : Ledger) : Type 0 where
  pub node : IsNode m us boxes e d
  pub own : IsOwn (game_of m) m.remains m.joins m.tallies.items e d.own

abbrev pub SomeTreeEnd : Nest → Entry → Type 0
SomeTreeEnd m e = (us : List Given) × (boxes : List Box) × (d : Ledger) × IsTreeEnd m e us boxes d

-- some ledger is told whose node e has come to what was found
abbrev pub SomeOver : Nest → Entry → Type 0
SomeOver m e = (us : List Given) × (boxes : List Box) × (v : Verdict) × (d : Ledger) × IsOver m e us boxes v d

-- scope i has seen more, and nothing else has changed
pub record SeesMore (i : ℕ) (xs : List Seen) (old new : Nest) : Type 0 where
  pub rest : new ≡ record old { joins = new.joins; tallies = new.tallies }
  pub joined : game_joined new.joins ≡ game_joined old.joins
  pub out : out_of new.joins ≡ out_of old.joins
  pub count : length new.tallies.items ≡ length old.tallies.items
  pub own : (s : Held) (e : Entry) (o : Own) → e.spot.number ≡ i → AreLong (game_joined old.joins) i xs →
      IsOwn (game_joined old.joins) s old.joins old.tallies.items e o → IsOwn (game_joined old.joins) s new.joins new.tallies.items e (with_seen xs o)
  pub joins : KeepsOthers i old.joins new.joins
  pub tallies : (j : ℕ) → (j ≡ i → ⊥) → slice_get old.tallies.items j ≡ slice_get new.tallies.items j

-- the scope's own tree has come to its verdict
abbrev pub Finishes : Nest → Entry → Nest → Type 0
Finishes old e new =
    (us : List Given) (boxes : List Box) (d : Ledger) → IsTreeEnd old e us boxes d →
    IsOver new e us boxes (own_verdict (given_to old us) d.own) d × (new.own ≡ own_value (given_to old us) d.own)

-- what the node has come to is known, where it is named
abbrev pub Settles : Nest → Entry → Nest → Type 0
Settles old e new =
    (us : List Given) (boxes : List Box) (v : Verdict) (d : Ledger) (t : EntryTold) → t ≡ entry_told (game_of old) old.remains e → IsOver old e us boxes v d →
    IsOver new e us boxes v (record d { known = known_settled t v d.known })

-- a node that came to v, by one tuple or not, is left: for the own tree of the scope before, or for none
abbrev pub LeftTo : Nest → List Given → List Box → Ledger → Bool → Verdict → Option ℤ → Bool → List Frame → Type 0
LeftTo m us boxes d chosen v own true [] = ⊥
LeftTo m us boxes d chosen v own true (waiting up ∷ fs) = IsPart m us boxes (record d { own = with_seen (leaf_seen chosen v) up; frames = fs })
LeftTo m us boxes d chosen v own true (forked b ∷ fs) = ⊥
LeftTo m us boxes d chosen v own false [] = Tells m us boxes (record d { own = no_own (game_of m); frames = []; due = ended_due v own })
LeftTo m us boxes d chosen v own false (waiting up ∷ fs) = ⊥
LeftTo m us boxes d chosen v own false (forked b ∷ fs) = ⊥

abbrev pub Leaves : Nest → Entry → Nest → Bool → Type 0
Leaves old e new up =
    (us : List Given) (boxes : List Box) (v : Verdict) (d : Ledger) (t : EntryTold) → t ≡ entry_told (game_of old) old.remains e → IsOver old e us boxes v d →
    LeftTo new us boxes (record d { known = known_settled t v d.known }) t.chosen v old.own up d.frames

-- what p is stands, where what has ended goes up; else the nest tells it
abbrev pub ComesTo : Nest → List Given → List Box → Ledger → Bool → Type 0
ComesTo m us boxes p false = Tells m us boxes p
ComesTo m us boxes p true = (d : Ledger) × IsPart m us boxes d × (p ≡ part_ended (given_to m us) d d.own d.frames)

-- a part has ended, up to where ComesTo says
abbrev pub PartEnds : Nest → Nest → Bool → Type 0
PartEnds old new up =
    (us : List Given) (boxes : List Box) (d : Ledger) → IsPart old us boxes d → ComesTo new us boxes (part_ended (given_to old us) d d.own d.frames) up
