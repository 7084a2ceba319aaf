-- What becomes of a chain's nodes once a borrow of an element ends.
use Rattle.std.specs.Prelude.{ℕ, slice_set}
use mathlib.Core.Path.{sym, ◌∙◌}
use lib.ListN.{length-set}
use base.Fml.{Fml}
use denote.RattleType.{RattleType}
use denote.Ref.{MutBor}
use denote.Follow.{follows}
use Rattle.paged_stack.specs.declared.nodes.Nodes.{Nodes}
use Rattle.paged_stack.specs.contracts.nodes.Nodes.{the_row}

-- the same nodes with w as the i-th element
abbrev pub with_item : {X : Type 0} → Nodes X → ℕ → X → Nodes X
with_item n i w = record { head = n.head; tail = n.tail; len = n.len; items = slice_set n.items i w; links = n.links; ok = (n.ok.0 ∙ sym (length-set n.items i w), n.ok.1); small = n.small; chained = n.chained }

-- that element is the last value written through r
abbrev pub nodes_follow_item : (R : RattleType) → MutBor (Nodes R.Denot) → ℕ → MutBor R.Denot → Fml
nodes_follow_item R n i r = follows (the_row R) R n.ghost_name r.ghost_name (with_item n.now i)
