-- What an existential join keeps of its leaves, and the verdict by what it keeps.
use Rattle.std.specs.Prelude.{◌≡◌, ⊤, length, drop, Bool, true, false, not, ◌&&◌, cond, Option, Some, None, List, [], ◌∷◌, ℤ, is_none}
use Rattle.qc_model.specs.declared.problem.Sense.{Sense}
use Rattle.qc_model.specs.declared.problem.Condition.{Condition}
use Rattle.qc_model.specs.Optimal.{is_better}
use Rattle.qc_model.specs.Demands.{is_better_vector}
use Rattle.qc_model.specs.Verdict.{Verdict, lost, exact, at_most, unknown, is_none_of, first_value}
use Rattle.qc_model.specs.ExistsVerdict.{best_number_from, without_own, beats}

-- the best of the bounds, where there is one and something is demanded after the scope
abbrev pub best_bound : List Condition → List ℤ → Option ℤ
best_bound [] ms = None
best_bound (c ∷ d) [] = None
best_bound (c ∷ d) (m ∷ ms) = Some (best_number_from c.sense m ms)

-- each vector has a value for each entry
abbrev pub AllLong : List Condition → List (List ℤ) → Type 0
AllLong d [] = ⊤
AllLong d (w ∷ ws) = (length w ≡ length d) × AllLong d ws

-- the better of the two; of equal ones n
abbrev pub better_of : Sense → ℤ → ℤ → ℤ
better_of s n m = cond (is_better s m n) m n

-- the best bound with one more
abbrev pub bound_with : Sense → Option ℤ → ℤ → Option ℤ
bound_with s None n = Some n
bound_with s (Some m) n = Some (better_of s m n)

abbrev pub bound_in : List Condition → Option ℤ → ℤ → Option ℤ
bound_in [] b n = b
bound_in (c ∷ d) b n = bound_with c.sense b n

-- n beats the best bound, where there is one
abbrev pub beats_bound : Sense → Bool → ℤ → Option ℤ → Bool
beats_bound s is_alone n None = true
beats_bound s is_alone n (Some m) = beats s is_alone n m

-- the best number known: the first value n of the best vector, where there is one, and the best bound
abbrev pub best_known : Sense → Bool → ℤ → Option ℤ → ℤ
best_known s has_exact n None = n
best_known s true n (Some m) = better_of s n m
best_known s false n (Some m) = m

-- the vector v is the best that is known, and nothing that isn't known could be better
abbrev pub is_settled : List Condition → Bool → Bool → Bool → List ℤ → Option ℤ → Bool
is_settled [] all_lost is_open has_exact v b = has_exact
is_settled (c ∷ d) all_lost is_open has_exact v b =
    not (all_lost && is_none b) && (not is_open && (has_exact && beats_bound c.sense (is_none_of d) (first_value v) b))

abbrev pub bounded : Option Condition → Sense → Bool → Bool → Bool → List ℤ → Option ℤ → Verdict
bounded own s all_lost is_open has_exact v b =
    cond (all_lost && is_none b) lost
    (cond is_open unknown (cond (is_none own) (at_most (best_known s has_exact (first_value v) b)) unknown))

-- what a scope comes to whose best vector isn't known to be the best
abbrev pub unsettled : Option Condition → List Condition → Bool → Bool → Bool → List ℤ → Option ℤ → Verdict
unsettled own [] all_lost is_open has_exact v b = cond all_lost lost unknown
unsettled own (c ∷ d) all_lost is_open has_exact v b = bounded own c.sense all_lost is_open has_exact v b

abbrev pub verdict_by : Option Condition → List Condition → Bool → Bool → Bool → List ℤ → Option ℤ → Verdict
verdict_by own d all_lost is_open has_exact v b =
    cond (is_settled d all_lost is_open has_exact v b) (exact (without_own own v)) (unsettled own d all_lost is_open has_exact v b)

-- the best vector with one more
abbrev pub kept_vector : List Condition → Bool → List ℤ → List ℤ → List ℤ
kept_vector d has_exact v w = cond has_exact (cond (is_better_vector d w v) w v) w

-- the value of the scope's own condition
abbrev pub own_by : Option Condition → Bool → List ℤ → Option ℤ
own_by None is_settled v = None
own_by (Some c) is_settled v = cond is_settled (Some (first_value v)) None

-- the first value of the best vector, where some leaf is exact: no further leaf counts whose first value is worse
abbrev pub incumbent_by : Bool → List ℤ → Option ℤ
incumbent_by has_exact v = cond has_exact (Some (first_value v)) None

-- the scope's own list, by the list after it
abbrev pub own_list : Option Condition → List Condition → List Condition
own_list None d = d
own_list (Some c) d = drop 1 d
