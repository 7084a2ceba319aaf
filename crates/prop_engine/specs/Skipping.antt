-- Which constraints closing passes over whatever the box.
use Rattle.std.specs.Prelude.{◌≤◌, ℕ, List, slice_index_or, IsTrue}
use Rattle.qc_model.specs.Closed.{keeps_ends}
use Rattle.qc_model.specs.Content.{Game, Rule}
use Rattle.qc_model.specs.Domains.{Box}
use Rattle.prop_engine.specs.Closing.{EachRule, is_between}

-- the constraint refutes no end of a variable of its own, whatever the box
abbrev pub AlwaysKeeps : Rule → Type 0
AlwaysKeeps c = (box : Box) → IsTrue (keeps_ends box c)

-- so does each from k to the one before n
abbrev pub ArePassed : Game → ℕ → ℕ → Type 0
ArePassed g k n = (box : Box) → EachRule (is_between k n) g (keeps_ends box)

-- the number that stands at k, or k where none does
abbrev pub next_of : List ℕ → ℕ → ℕ
next_of next k = slice_index_or next k k

-- the constraints from each on to the number that stands there are passed over
pub record IsSkipOf (g : Game) (next : List ℕ) : Type 0 where
  pub forward : (k : ℕ) → k ≤ next_of next k
  pub passed : (k : ℕ) → ArePassed g k (next_of next k)
