-- What was seen in a scope's own tree so far: whether further leaves count.
use Rattle.std.specs.Prelude.{Bool, true, false, not, ◌||◌, List, ℤ}
use Rattle.std.specs.List.{list_any}
use Rattle.qc_model.specs.declared.problem.Condition.{Condition}
use Rattle.qc_model.specs.declared.problem.Scope.{Scope}
use Rattle.qc_model.specs.Verdict.{Verdict, lost, exact, at_most, unknown, Seen, some_node}
use Rattle.qc_model.specs.ForallVerdict.{known_numbers}
use Rattle.proof_tree.specs.Order.{settles}

-- some leaf settles the scope, where d is the list after it
abbrev pub is_settled : List Scope → List Condition → List Seen → Bool
is_settled later d xs = some_node (settles later d) xs

-- some known number is one of those that the scope right above beats
abbrev pub is_outdone : (ℤ → Bool) → List Seen → Bool
is_outdone above xs = list_any above (known_numbers xs)

-- no further leaf counts
abbrev pub is_ended : (ℤ → Bool) → List Scope → List Condition → List Seen → Bool
is_ended above later d xs = is_settled later d xs || is_outdone above xs

-- neither lost nor exact, nor a bound that the scope right above beats
abbrev pub is_vague_verdict : (ℤ → Bool) → Verdict → Bool
is_vague_verdict above lost = false
is_vague_verdict above (exact v) = false
is_vague_verdict above (at_most p) = not (above p)
is_vague_verdict above unknown = true

-- where nothing is above
abbrev pub beats_none : ℤ → Bool
beats_none n = false
