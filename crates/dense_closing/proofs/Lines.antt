-- What lines of closing come to, read as the steps that they stand for.
use Rattle.std.proofs.Common.{◌≡◌, ◌↔◌, ℕ, suc, ◌+◌, Bool, true, false, not, ◌&&◌, List, [], ◌∷◌, ◌++◌, length, map, refl, sym, ap, ◌∙◌, subst, Option, Some, None}
use Rattle.std.specs.Prelude.{IsTrue, nat_le}
use Rattle.qc_model.specs.declared.problem.Condition.{Condition}
use Rattle.qc_model.specs.declared.problem.Scope.{Scope}
use Rattle.qc_model.specs.declared.problem.ScopeId.{ScopeId}
use Rattle.qc_model.specs.Block.{force_stop, constraints_within, constraints_in_force}
use Rattle.qc_model.specs.Content.{Game}
use Rattle.qc_model.specs.Domains.{Box, has_empty}
use Rattle.qc_model.specs.Valid.{IsValid}
use Rattle.qc_model.proofs.Readable.{first, second}
use Rattle.model_arguments.specs.Asked.{is_box_of}
use Rattle.proof_tree.specs.declared.tree.Step.{Step}
use Rattle.proof_tree.specs.declared.tree.Step.TheVariants.{Prune, Bound}
use Rattle.proof_tree.specs.InPlace.{is_horizon, is_nearer, horizon_in_place, body_in_place, ending_in_place}
use Rattle.proof_tree.specs.Place.{Tracked, is_goal, list_after, tracked_variable}
use Rattle.proof_tree.specs.Finding.{leaf_bound}
use Rattle.proof_tree.specs.Read.{leaves, case_leaves}
use Rattle.proof_tree.specs.Steps.{after_step, after_steps, is_legal, are_legal, step_marks}
use Rattle.dense_closing.specs.Closing.{IsGreatestClosed}
use Rattle.dense_closing.specs.ClosingSteps.{closing_steps}
use Rattle.dense_closing.specs.Takes.{takes_all, NoneClosedBy}
use Rattle.dense_closing.specs.Ends.{is_end_step, are_end_steps}
use Rattle.dense_closing.specs.Expanded.{steps_of, lines_to, steps_to, horizon_of, body_expanded, ending_expanded, case_expanded}
use Rattle.dense_closing.specs.Tree.{Line, close, dense_cases, DenseEnding, dense_empty, dense_barred, dense_next, dense_branch, dense_go}
use Rattle.dense_closing.proofs.Closing.{closing_takes_ends, closing_leads, emptied_shows, none_empties}
use Rattle.dense_closing.proofs.Keeping.{no_end}
use Rattle.dense_closing.proofs.Standing.{ends_legal}

-- steps after legal ones
legal_joined : (g : Game) (i stop : ℕ) (t : Option Tracked) (xs ys : List Step) (box : Box) → are_legal g i stop t xs box ≡ true → are_legal g i stop t (xs ++ ys) box ≡ are_legal g i stop t ys (after_steps xs box)
legal_joined g i stop t [] ys box h = refl
legal_joined g i stop t (x ∷ xs) ys box h =
    ap (λ b. b && are_legal g i stop t (xs ++ ys) (after_step x box)) (first (is_legal g i stop t x box) (are_legal g i stop t xs (after_step x box)) h)
    ∙ legal_joined g i stop t xs ys (after_step x box) (second (is_legal g i stop t x box) (are_legal g i stop t xs (after_step x box)) h)

after_joined : (xs ys : List Step) (box : Box) → after_steps (xs ++ ys) box ≡ after_steps ys (after_steps xs box)
after_joined [] ys box = refl
after_joined (x ∷ xs) ys box = after_joined xs ys (after_step x box)

marks_joined : (g : Game) (i stop : ℕ) (t : Option Tracked) (xs ys : List Step) (box : Box) → are_end_steps takes_all g i stop xs box ≡ true → step_marks t (xs ++ ys) box ≡ step_marks t ys (after_steps xs box)
marks_joined g i stop t [] ys box h = refl
marks_joined g i stop t (Prune x low high c ∷ xs) ys box h =
    marks_joined g i stop t xs ys (after_step (Prune x low high c) box) (second (is_end_step takes_all g i stop (Prune x low high c) box) (are_end_steps takes_all g i stop xs (after_step (Prune x low high c) box)) h)
marks_joined g i stop t (Bound x low high ∷ xs) ys box h =
    absurd (no_end (is_legal g i stop None (Bound x low high) box) (first (is_end_step takes_all g i stop (Bound x low high) box) (are_end_steps takes_all g i stop xs (after_step (Bound x low high) box)) h))

-- a line of closing, and the lines after it
module _ (g : Game) (valid : IsValid g) (i stop : ℕ) where
  module _ (ls : List Line) (box small : Box) (d : is_box_of g box ≡ true) (m : IsGreatestClosed takes_all (constraints_within g i stop) box small) where
    reached : after_steps (closing_steps takes_all g i stop box) box ≡ small
    reached = closing_leads takes_all g valid i stop box d small m

    pub close_legal : (t : Option Tracked) → are_legal g i stop t (steps_of g i stop (close ∷ ls) box) box ≡ are_legal g i stop t (steps_of g i stop ls small) small
    close_legal t =
        let steps = closing_steps takes_all g i stop box in
        legal_joined g i stop t steps (steps_of g i stop ls (after_steps steps box)) box (ends_legal takes_all g i stop t steps box (closing_takes_ends takes_all g valid i stop box d))
        ∙ ap (λ b. are_legal g i stop t (steps_of g i stop ls b) b) reached

    pub close_leaves : after_steps (steps_of g i stop (close ∷ ls) box) box ≡ after_steps (steps_of g i stop ls small) small
    close_leaves =
        let steps = closing_steps takes_all g i stop box in
        after_joined steps (steps_of g i stop ls (after_steps steps box)) box ∙ ap (λ b. after_steps (steps_of g i stop ls b) b) reached

    pub close_marks : (t : Option Tracked) → step_marks t (steps_of g i stop (close ∷ ls) box) box ≡ step_marks t (steps_of g i stop ls small) small
    close_marks t =
        let steps = closing_steps takes_all g i stop box in
        marks_joined g i stop t steps (steps_of g i stop ls (after_steps steps box)) box (closing_takes_ends takes_all g valid i stop box d)
        ∙ ap (λ b. step_marks t (steps_of g i stop ls b) b) reached

  -- alone it is legal, and leaves an empty domain exactly where no box within is closed
  module _ (box : Box) (d : is_box_of g box ≡ true) where
    pub alone_legal : (t : Option Tracked) → are_legal g i stop t (steps_of g i stop (close ∷ []) box) box ≡ true
    alone_legal t =
        let steps = closing_steps takes_all g i stop box in
        legal_joined g i stop t steps [] box (ends_legal takes_all g i stop t steps box (closing_takes_ends takes_all g valid i stop box d))

    alone : after_steps (steps_of g i stop (close ∷ []) box) box ≡ after_steps (closing_steps takes_all g i stop box) box
    alone = after_joined (closing_steps takes_all g i stop box) [] box

    pub alone_shows : has_empty (after_steps (steps_of g i stop (close ∷ []) box) box) ≡ true → NoneClosedBy takes_all (constraints_within g i stop) box
    alone_shows e = emptied_shows g valid i stop box d (subst (λ b. has_empty b ≡ true) alone e)

    pub alone_empties : NoneClosedBy takes_all (constraints_within g i stop) box → has_empty (after_steps (steps_of g i stop (close ∷ []) box) box) ≡ true
    alone_empties n = subst (λ b. has_empty b ≡ true) (sym alone) (none_empties g valid i stop box d n)

-- the lines of an own tree
close_first : (ls : List Line) (end : DenseEnding) → lines_to (close ∷ ls) end ≡ close ∷ lines_to ls end
close_first ls dense_empty = refl
close_first ls dense_barred = refl
close_first ls (dense_next t) = refl
close_first ls (dense_branch x bs) = refl

module _ (g : Game) (valid : IsValid g) (later : List Scope) (i : ℕ) (d : List Condition) where
  abbrev stop : ℕ
  stop = force_stop later i

  module _ (ls : List Line) (end : DenseEnding) (box small : Box) (declared : is_box_of g box ≡ true) (m : IsGreatestClosed takes_all (constraints_in_force g later i) box small) where
    abbrev tracked : Option Tracked
    tracked = tracked_variable g later i (list_after g later d)

    steps_are : steps_to g later i (close ∷ ls) end box ≡ steps_of g i stop (close ∷ lines_to ls end) box
    steps_are = ap (λ ks. steps_of g i stop ks box) (close_first ls end)

    left : after_steps (steps_to g later i (close ∷ ls) end box) box ≡ after_steps (steps_to g later i ls end small) small
    left = ap (λ ss. after_steps ss box) steps_are ∙ close_leaves g valid i stop (lines_to ls end) box small declared m

    legal : are_legal g i stop tracked (steps_to g later i (close ∷ ls) end box) box ≡ are_legal g i stop tracked (steps_to g later i ls end small) small
    legal = ap (λ ss. are_legal g i stop tracked ss box) steps_are ∙ close_legal g valid i stop (lines_to ls end) box small declared m tracked

    marked : step_marks tracked (steps_to g later i (close ∷ ls) end box) box ≡ step_marks tracked (steps_to g later i ls end small) small
    marked = ap (λ ss. step_marks tracked ss box) steps_are ∙ close_marks g valid i stop (lines_to ls end) box small declared m tracked

    pub close_placed : (h : Option ℕ) → body_in_place g (body_expanded g (dense_cases (close ∷ ls) end) later i box) later i d box h ≡ body_in_place g (body_expanded g (dense_cases ls end) later i small) later i d small h
    close_placed h =
        let before = not (is_horizon h i) && not (is_goal later) in
        let after = after_steps (steps_to g later i (close ∷ ls) end box) box in
        ap (λ l. (before && l) && ending_in_place g (ending_expanded g end later i after) later i d after h) legal
        ∙ ap (λ b. (before && are_legal g i stop tracked (steps_to g later i ls end small) small) && ending_in_place g (ending_expanded g end later i b) later i d b h) left

    pub close_read : case_leaves g (case_expanded g (dense_go (close ∷ ls) end) later i box) later i d box ≡ case_leaves g (case_expanded g (dense_go ls end) later i small) later i d small
    close_read =
        let after = after_steps (steps_to g later i (close ∷ ls) end box) box in
        ap (λ ms. map leaf_bound ms ++ leaves g (ending_expanded g end later i after) later i d after) marked
        ∙ ap (λ b. map leaf_bound (step_marks tracked (steps_to g later i ls end small) small) ++ leaves g (ending_expanded g end later i b) later i d b) left

-- what is said beside what is so
apart : (a l e : Bool) → l ≡ true → IsTrue ((a && l) && e) ↔ (IsTrue a × IsTrue e)
apart true true e q = (λ h. (refl, h), λ h. h.1)
apart true false e q = cc
apart false l e q = (λ h. cc, λ h. h.0)

pub empty_stands : (g : Game) → IsValid g → (later : List Scope) (i : ℕ) (d : List Condition) (box : Box) (h : Option ℕ) → is_box_of g box ≡ true →
    IsTrue (body_in_place g (body_expanded g (dense_cases [] dense_empty) later i box) later i d box h)
    ↔ (IsTrue (not (is_horizon h i) && not (is_goal later)) × NoneClosedBy takes_all (constraints_in_force g later i) box)
empty_stands g valid later i d box h declared =
    let stop = force_stop later i in
    let steps = steps_of g i stop (close ∷ []) box in
    let tracked = tracked_variable g later i (list_after g later d) in
    let both = apart (not (is_horizon h i) && not (is_goal later)) (are_legal g i stop tracked steps box) (has_empty (after_steps steps box)) (alone_legal g valid i stop box declared tracked) in (
      λ s. (let p = both.0 s in (p.0, alone_shows g valid i stop box declared p.1)),
      λ p. both.1 (p.0, alone_empties g valid i stop box declared p.1),
    )

pub horizon_stands : (g : Game) → IsValid g → (i : ℕ) (k : ScopeId) (later : List Scope) (h : Option ℕ) (box : Box) → is_box_of g box ≡ true →
    IsTrue (horizon_in_place g (horizon_of g i (Some k) box) later i box h)
    ↔ (IsTrue (not (is_goal later) && nat_le i k.0 && nat_le k.0 (i + length later) && is_nearer k.0 h) × NoneClosedBy takes_all (constraints_within g i (suc k.0)) box)
horizon_stands g valid i k later h box d =
    let steps = closing_steps takes_all g i (suc k.0) box in
    let ahead = not (is_goal later) && nat_le i k.0 && nat_le k.0 (i + length later) && is_nearer k.0 h in
    let both = apart ahead (are_legal g i (suc k.0) None steps box) (has_empty (after_steps steps box)) (ends_legal takes_all g i (suc k.0) None steps box (closing_takes_ends takes_all g valid i (suc k.0) box d)) in (
      λ s. (let p = both.0 s in (p.0, emptied_shows g valid i (suc k.0) box d p.1)),
      λ p. both.1 (p.0, none_empties g valid i (suc k.0) box d p.1),
    )
