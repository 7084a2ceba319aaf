-- Leaves in the words of the definitions, and what a join's answer says.
use Rattle.std.specs.Prelude.{◌≡◌, Bool, true, false, List, ℤ, ⊤, length}
use Rattle.qc_model.specs.Verdict.{Verdict, lost, exact, at_most, unknown, Seen, seen_barred, seen_skipped, seen_node}
use Rattle.qc_model.specs.declared.problem.Condition.{Condition}
use Rattle.joins.specs.declared.leaves.Leaf.{Leaf}
use Rattle.joins.specs.declared.leaves.Leaf.TheVariants.{Barred, Lost, Exact, AtMost, Unknown, Skipped}
use Rattle.joins.specs.declared.leaves.Found.{Found}
use Rattle.joins.specs.declared.leaves.Found.TheVariants.{Lost as FoundLost, Exact as FoundExact, AtMost as FoundAtMost, Unknown as FoundUnknown}

abbrev pub seen_of : Leaf → Seen
seen_of Barred = seen_barred
seen_of Lost = seen_node lost
seen_of (Exact v) = seen_node (exact v.now)
seen_of (AtMost n) = seen_node (at_most n)
seen_of Unknown = seen_node unknown
seen_of Skipped = seen_skipped

-- the verdict that an answer stands for, where v is the vector that was handed out
abbrev pub verdict_of : Found → List ℤ → Verdict
verdict_of FoundLost v = lost
verdict_of FoundExact v = exact v
verdict_of (FoundAtMost n) v = at_most n
verdict_of FoundUnknown v = unknown

abbrev pub is_exact_answer : Found → Bool
is_exact_answer FoundLost = false
is_exact_answer FoundExact = true
is_exact_answer (FoundAtMost n) = false
is_exact_answer FoundUnknown = false

-- an exact leaf has a value for each entry of the list
abbrev pub IsAsLong : Leaf → List Condition → Type 0
IsAsLong Barred d = ⊤
IsAsLong Lost d = ⊤
IsAsLong (Exact v) d = length v.now ≡ length d
IsAsLong (AtMost n) d = ⊤
IsAsLong Unknown d = ⊤
IsAsLong Skipped d = ⊤
