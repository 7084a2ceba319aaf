-- When a lemma is in place after earlier ones, and what a list of lemmas proves.
use Rattle.std.specs.Prelude.{ℕ, max, Bool, true, false, not, ◌&&◌, List, [], ◌∷◌, ◌++◌, set, Some, None, ℤ, is_some}
use Rattle.std.specs.List.{list_all}
use Rattle.qc_model.specs.declared.problem.Kind.{Kind}
use Rattle.qc_model.specs.Content.{Game}
use Rattle.qc_model.specs.Domains.{Box, declared_box, values_left, values_within, is_none_left, has_value, has_empty, box_at, box_within, box_without}
use Rattle.lemma_list.specs.declared.lemma.Step.{Step}
use Rattle.lemma_list.specs.declared.lemma.Step.TheVariants.{Cut, Choose}
use Rattle.lemma_list.specs.declared.lemma.Ending.{Ending}
use Rattle.lemma_list.specs.declared.lemma.Ending.TheVariants.{Emptied, Lost, Goal}
use Rattle.lemma_list.specs.Lemmas.{Lemma, Shown, Entry, shown, forget}
use Rattle.lemma_list.specs.Places.{is_kind, is_chosen_before, place, is_winners, is_answer}
use Rattle.lemma_list.specs.Literals.{literals_hold, box_to, are_in_order}
use Rattle.lemma_list.specs.Sums.{sums_hold, are_linear}
use Rattle.lemma_list.specs.Reasons.{Known, lemma_at, reason_place, shows, goal_shows}

-- nobody answers
abbrev pub no_answer : ℕ → Bool
no_answer y = false

-- a cut is of values that are left to a variable of the loser, and is shown in the box that keeps these alone, where the
-- winner may answer in later scopes. A choice is of a value that is left to a variable that the winner has still to choose
abbrev pub may_step : Game → Known → Lemma → Step → ℕ → Box → Bool
may_step g known m (Cut x low high by) passed box =
    not (is_winners g m x.0) && not (is_none_left (values_within low high (values_left box x.0)))
    && shows g known m (is_answer g m x.0) passed box (box_within box x.0 low high) by
may_step g known m (Choose x v) passed box = is_winners g m x.0 && has_value (values_left box x.0) v

-- where play is known to go on to after a step, and what is left
abbrev pub passed_by : Game → Known → Step → ℕ → ℕ
passed_by g known (Cut x low high by) passed = max passed (reason_place g known by)
passed_by g known (Choose x v) passed = passed

abbrev pub left_by : Step → Box → Box
left_by (Cut x low high by) box = box_without box x.0 low high
left_by (Choose x v) box = box_at box x.0 v

abbrev pub ends : Game → Known → Lemma → Ending → ℕ → Box → Bool
ends g known m Emptied passed box = has_empty box
ends g known m (Lost r) passed box = not (has_empty box) && shows g known m no_answer passed box box r
ends g known m Goal passed box = not (has_empty box) && goal_shows g m passed box

-- the steps may be taken one by one while each variable has a value, and come to the end
abbrev pub closes : Game → Known → Lemma → Ending → List Step → ℕ → Box → Bool
closes g known m end [] passed box = ends g known m end passed box
closes g known m end (s ∷ steps) passed box =
    not (has_empty box) && may_step g known m s passed box && closes g known m end steps (passed_by g known s passed) (left_by s box)

-- what a lemma says holds at a position
abbrev pub holds_at : Game → Lemma → List ℤ → Bool
holds_at g m a = literals_hold m.literals a && sums_hold g m a

-- its literals are in order and of variables before its position, and its sums of linear constraints
abbrev pub is_lemma : Game → Lemma → Bool
is_lemma g m = are_in_order m.literals && list_all (λ l. is_chosen_before g (place g m) l.x.0) m.literals && are_linear g m.sums

-- and the steps close the declared box cut to the literals
abbrev pub in_place : Game → Known → Shown → Bool
in_place g known s = is_lemma g s.lemma && closes g known s.lemma s.ending s.steps (place g s.lemma) (box_to s.lemma.literals (declared_box g))

abbrev pub is_nil : {X : Type 0} → List X → Bool
is_nil [] = true
is_nil (x ∷ xs) = false

-- the side of this kind loses from the start, whatever it does
abbrev pub is_final : Kind → Lemma → Bool
is_final k m = is_kind k m.loser && is_nil m.literals && is_nil m.sums

-- an entry is in place, and what is known after it
abbrev pub entry_in_place : Game → Known → Entry → Bool
entry_in_place g known (shown s) = in_place g known s
entry_in_place g known (forget n) = is_some (lemma_at known n.0)

abbrev pub known_after : Known → Entry → Known
known_after known (shown s) = known ++ (Some s.lemma ∷ [])
known_after known (forget n) = set known n.0 None

abbrev pub ends_with : Kind → Entry → Bool
ends_with k (shown s) = is_final k s.lemma
ends_with k (forget n) = false

-- each entry is in place after those before it, and the last is a lemma by which the side of this kind loses the game
abbrev pub proves_after : Game → Kind → Known → List Entry → Bool
proves_after g k known [] = false
proves_after g k known (e ∷ []) = entry_in_place g known e && ends_with k e
proves_after g k known (e ∷ f ∷ rest) = entry_in_place g known e && proves_after g k (known_after known e) (f ∷ rest)

abbrev pub proves : Game → Kind → List Entry → Bool
proves g k entries = proves_after g k [] entries
