-- Ends of a variable that one constraint takes.
use Rattle.std.specs.Prelude.{◌≡◌, ◌≢◌, ◌<◌, ◌≤ℤ◌, ℕ, Bool, true, false, length, set, slice_get, Some, IsTrue, IsFalse, ℤ}
use Rattle.std.specs.List.{list_all}
use Rattle.qc_model.specs.Arguments.{variables_of}
use Rattle.qc_model.specs.Block.{is_owned_within, constraints_within}
use Rattle.qc_model.specs.Closed.{refutes_at}
use Rattle.qc_model.specs.Content.{Game, Rule}
use Rattle.qc_model.specs.Domains.{Values, Box, values_left, has_value, values_within, is_within, least_value, greatest_value, box_within, is_none_left, is_sub_box}
use Rattle.qc_model.specs.Lists.{Among}
use Rattle.qc_model.specs.Refuted.{refuted_by}
use Rattle.fd_store.specs.Held.{count_left}
use Rattle.dense_closing.specs.Ends.{is_end}
use Rattle.dense_closing.specs.Takes.{Takes, is_closed_by}
use Rattle.dense_quiet.specs.declared.stretch.Kept.{Kept}
use Rattle.dense_quiet.specs.Guessing.{IsKept}
use Rattle.dense_close.specs.declared.cutting.End.{End}
use Rattle.dense_close.specs.declared.cutting.End.TheVariants.{Least, Greatest}

-- the value at an end of what is left to x
abbrev pub end_of : End → Box → ℕ → ℤ
end_of Least box x = least_value (values_left box x)
end_of Greatest box x = greatest_value (values_left box x)

-- constraint k doesn't refute it
abbrev pub SparesEnd : End → Game → ℕ → ℕ → Box → Type 0
SparesEnd e g k x box = (c : Rule) → slice_get g.constraints k ≡ Some c → IsFalse (refutes_at c box x (end_of e box x))

-- the values of x from low to high are there, are at an end, and constraint k refutes them together
pub record IsStretch (g : Game) (k x : ℕ) (box : Box) (low high : ℤ) : Type 0 where
  pub some : IsFalse (is_none_left (values_within low high (values_left box x)))
  pub end : IsTrue (is_end low high (values_left box x))
  pub refuted : (c : Rule) → slice_get g.constraints k ≡ Some c → IsTrue (refuted_by c (box_within box x low high))

-- constraint k refutes the box with any of its values from low to high alone left to x
abbrev pub IsBarred : Game → ℕ → ℕ → Box → ℤ → ℤ → Type 0
IsBarred g k x box low high =
    (c : Rule) → slice_get g.constraints k ≡ Some c → (vs : Values) → IsFalse (is_none_left vs) → IsTrue (list_all (has_value (values_left box x)) vs) → IsTrue (list_all (is_within low high) vs) → IsTrue (refuted_by c (set box x vs))

-- where it is sure what constraint k leaves of x, that refutes the values below, and those above
abbrev pub IsSureOf : Kept → Game → ℕ → ℕ → Box → Type 0
IsSureOf s g k x box = IsTrue s.sure → (c : Rule) → slice_get g.constraints k ≡ Some c → IsKept c x box s.stretch.low s.stretch.high

-- the numbers from low to high are some, and lie from least to greatest
pub record IsInside (least greatest low high : ℤ) : Type 0 where
  pub above : least ≤ℤ low
  pub order : low ≤ℤ high
  pub below : high ≤ℤ greatest

-- constraint k took ends of x, and nothing else: where it is one of those for which a box within is closed, has x and may take
-- its values, that box lies within what is left
pub record IsCut (g : Game) (k x : ℕ) (box now : Box) : Type 0 where
  pub count : length now ≡ length box
  pub others : (y : ℕ) → y ≢ x → values_left now y ≡ values_left box y
  pub fewer : (large : Box) → IsTrue (is_sub_box box large) → IsTrue (is_sub_box now large)
  pub around : (takes : Takes) (i stop : ℕ) (c : Rule) → slice_get g.constraints k ≡ Some c → IsTrue (is_owned_within i stop c) → Among x (variables_of c.args) → IsTrue (takes c x) →
      (small : Box) → IsTrue (is_sub_box small box) → IsTrue (is_closed_by takes (constraints_within g i stop) small) → IsTrue (is_sub_box small now)

-- values went, or the box is as before
abbrev pub HasCut : Bool → Box → Box → Type 0
HasCut true box now = count_left now < count_left box
HasCut false box now = now ≡ box
