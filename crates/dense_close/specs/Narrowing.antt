-- What a closing leaves as it goes on.
use Rattle.std.specs.Prelude.{◌≡◌, ◌≢◌, ◌<◌, ℕ, Bool, not, ◌&&◌, ◌||◌, List, length, slice_get, Some, IsTrue, IsFalse}
use Rattle.std.specs.List.{list_all}
use Rattle.qc_model.specs.Block.{constraints_within}
use Rattle.qc_model.specs.Closed.{refutes_at}
use Rattle.qc_model.specs.Content.{Game, Rule}
use Rattle.qc_model.specs.Domains.{Box, values_left, least_value, greatest_value, has_empty, is_single, is_sub_box}
use Rattle.qc_model.specs.Refuted.{refuted_by}
use Rattle.model_levels.specs.Spans.{is_between}
use Rattle.fd_store.specs.Held.{count_left}
use Rattle.dense_closing.specs.Takes.{Takes, keeps_box, is_closed_by, NoneClosedBy}
use Rattle.dense_quiet.specs.declared.taking.Taking.{Taking}
use Rattle.dense_close.specs.declared.revising.Look.{Look}
use Rattle.dense_close.specs.declared.revising.Revised.{Revised}
use Rattle.dense_close.specs.declared.revising.Revised.TheVariants.{Lost, Stable, Changed}
use Rattle.dense_quiet.specs.Taking.{takes_of}
use Rattle.dense_close.specs.Waiting.{Waiting, is_marked, MarkedWait, all_waiting}

-- values went from a box, but none that a closed box within it has: such a box lies within what is left
pub record IsNarrowed (t : Taking) (g : Game) (i stop : ℕ) (box now : Box) : Type 0 where
  pub fewer : (large : Box) → IsTrue (is_sub_box box large) → IsTrue (is_sub_box now large)
  pub around : (small : Box) → IsTrue (is_sub_box small box) → IsTrue (is_closed_by (takes_of t g) (constraints_within g i stop) small) → IsTrue (is_sub_box small now)

-- no box within is closed for the constraints of the scopes from i to the one before stop
abbrev pub IsLost : Taking → Game → ℕ → ℕ → Box → Type 0
IsLost t g i stop box = NoneClosedBy (takes_of t g) (constraints_within g i stop) box

-- there is a mark for each constraint, those marked wait, and they are of the span
pub record IsListOf (g : Game) (first end : ℕ) (w : Waiting) : Type 0 where
  pub count : length w.marks ≡ length g.constraints
  pub waiting : MarkedWait w
  pub inside : IsTrue (all_waiting (is_between first end) w)

-- constraint k waits, or keeps the box: it refutes no end that it may take, nor the box where there is a variable that it may not
-- take
abbrev pub IsSettled : Taking → Game → Waiting → Box → ℕ → Type 0
IsSettled t g w box k = IsFalse (is_marked w k) → (c : Rule) → slice_get g.constraints k ≡ Some c → IsTrue (keeps_box (takes_of t g) box c)

-- each of the span does, or each but one
abbrev pub AreSettled : Taking → Game → ℕ → ℕ → Waiting → Box → Type 0
AreSettled t g first end w box = (k : ℕ) → IsTrue (is_between first end k) → IsSettled t g w box k

abbrev pub OthersSettled : ℕ → Taking → Game → ℕ → ℕ → Waiting → Box → Type 0
OthersSettled own t g first end w box = (k : ℕ) → IsTrue (is_between first end k) → k ≢ own → IsSettled t g w box k

-- the constraint may not take values of x, or x has one value, or it refutes neither end
abbrev pub spares : Takes → Box → Rule → ℕ → Bool
spares takes box c x =
    not (takes c x)
    || (is_single (values_left box x)
    || (not (refutes_at c box x (least_value (values_left box x))) && not (refutes_at c box x (greatest_value (values_left box x)))))

-- what was seen as constraint k was held against these variables: it took values, and waits again; or it spares each of them, and
-- where one of them is open to it, it doesn't refute the box
pub record HasLooked (l : Look) (t : Taking) (g : Game) (k : ℕ) (xs : List ℕ) (was then : Waiting) (box now : Box) : Type 0 where
  pub kept : (j : ℕ) → IsTrue (is_marked was j) → IsTrue (is_marked then j)
  pub less : IsTrue l.changed → count_left now < count_left box
  pub woken : IsTrue l.changed → IsTrue (is_marked then k)
  pub same : IsFalse l.changed → now ≡ box
  pub listed : IsFalse l.changed → then ≡ was
  pub spared : IsFalse l.changed → (c : Rule) → slice_get g.constraints k ≡ Some c → IsTrue (list_all (spares (takes_of t g) now c) xs)
  pub stands : IsTrue l.seen → IsFalse l.changed → (c : Rule) → slice_get g.constraints k ≡ Some c → IsFalse (refuted_by c now)

-- after a constraint was looked at: no box within is closed; or nothing changed, and all of the span wait or keep the box; or values
-- went, and they do
abbrev pub IsRevised : Revised → Taking → Game → ℕ → ℕ → ℕ → ℕ → Waiting → Waiting → Box → Box → Type 0
IsRevised Lost t g i stop first end was then box now = IsLost t g i stop now
IsRevised Stable t g i stop first end was then box now = (now ≡ box) × (then ≡ was) × AreSettled t g first end then now
IsRevised Changed t g i stop first end was then box now = IsFalse (has_empty now) × (count_left now < count_left box) × AreSettled t g first end then now
