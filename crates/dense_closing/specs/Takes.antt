-- Closed boxes where a constraint may take values of some of its variables alone.
use Rattle.std.specs.Prelude.{ℕ, Bool, true, not, ◌&&◌, cond, List, IsTrue, IsFalse}
use Rattle.std.specs.List.{list_all}
use Rattle.qc_model.specs.Arguments.{variables_of}
use Rattle.qc_model.specs.Closed.{refutes_at}
use Rattle.qc_model.specs.Content.{Rule}
use Rattle.qc_model.specs.Domains.{Box, values_left, least_value, greatest_value, has_empty, is_sub_box}
use Rattle.qc_model.specs.Refuted.{refuted_by}

-- whether a constraint may take values of a variable
abbrev pub Takes : Type 0
Takes = Rule → ℕ → Bool

-- each may take those of all its variables: closed boxes are then those of qc_model
abbrev pub takes_all : Takes
takes_all c x = true

-- the constraint refutes neither end of x; or, where it may take none of its values, not the box as it is
abbrev pub keeps_at : Takes → Box → Rule → ℕ → Bool
keeps_at takes box c x =
    cond (takes c x)
    (not (refutes_at c box x (least_value (values_left box x))) && not (refutes_at c box x (greatest_value (values_left box x))))
    (not (refuted_by c box))

-- at each of its own variables
abbrev pub keeps_box : Takes → Box → Rule → Bool
keeps_box takes box c = list_all (keeps_at takes box c) (variables_of c.args)

abbrev pub is_closed_by : Takes → List Rule → Box → Bool
is_closed_by takes cs box = not (has_empty box) && list_all (keeps_box takes box) cs

-- no box within this one is closed
abbrev pub NoneClosedBy : Takes → List Rule → Box → Type 0
NoneClosedBy takes cs box = (b : Box) → IsTrue (is_sub_box b box) → IsFalse (is_closed_by takes cs b)
