-- Boxes on the way to a node, one within the other.
use Rattle.std.specs.Prelude.{◌≡◌, ◌≤◌, ◌-◌, ℕ, Some, List, length, slice_get, unwrap_or, IsTrue}
use Rattle.qc_model.specs.Content.{Game}
use Rattle.model_arguments.specs.Asked.{is_box_of}
use Rattle.model_levels.specs.Spans.{is_number_within}
use Rattle.fd_store.specs.Held.{Held, trail_len, past_box}
use Rattle.prop_engine.specs.Closing.{IsClosedFor}
use Rattle.prop_engine.specs.Watching.{Knowing, IsReady}
use Rattle.search_joint.specs.declared.entry.Entry.{Entry}

-- each entry of the first list is where it was in the other
pub record IsFront (es all : List Entry) : Type 0 where
  pub each : (k : ℕ) (e : Entry) → slice_get es k ≡ Some e → slice_get all k ≡ Some e

-- what stands for the declared box, which is closed for no constraint
abbrev pub declared_entry : Entry
declared_entry = record { mark = record { at = 0 }; from = record { 0 = 0 }; stop = 0 }

abbrev pub last_entry : List Entry → Entry
last_entry es = unwrap_or (slice_get es (length es - 1)) declared_entry

-- the box that undoing down to the entry's mark gives is closed for the constraints of the entry's scopes
pub record IsKept (g : Game) (s : Held) (e : Entry) : Type 0 where
  pub at : e.mark.at ≤ trail_len s
  pub declared : IsTrue (is_box_of g (past_box s e.mark.at))
  pub closed : IsClosedFor (is_number_within g e.from.0 e.stop) g (past_box s e.mark.at)

-- so it is with each entry, and marks don't fall
pub record IsStacked (g : Game) (s : Held) (es : List Entry) : Type 0 where
  pub first : IsKept g s declared_entry
  pub each : (k : ℕ) (e : Entry) → slice_get es k ≡ Some e → IsKept g s e
  pub rises : (j k : ℕ) (d e : Entry) → j ≤ k → slice_get es j ≡ Some d → slice_get es k ≡ Some e → d.mark.at ≤ e.mark.at

-- what holds between the calls
pub record IsAtRest (g : Game) (e : Knowing) (s : Held) (es : List Entry) : Type 0 where
  pub ready : IsReady g e
  pub stacked : IsStacked g s es
