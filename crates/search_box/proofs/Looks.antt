-- What is found ahead of a node, in the words of certificates.
use Rattle.std.proofs.Common.{◌≡◌, ℕ, zero, suc, ◌+◌, ◌<◌, Bool, true, false, ◌&&◌, List, [], ◌∷◌, length, drop, refl, arith, length-drop}
use Rattle.std.specs.Prelude.{Option, None, Some, not, nat_le, nat_lt}
use Rattle.std.specs.List.{list_all}
use Rattle.std.proofs.lemmas.Bool.Decides.{nat_tests}
use Rattle.std.proofs.lemmas.Bool.{and_from, and_parts}
use Rattle.qc_model.specs.declared.problem.Scope.{Scope}
use Rattle.qc_model.specs.Content.{Game}
use Rattle.qc_model.specs.Domains.{Box, has_empty}
use Rattle.qc_model.specs.Valid.{IsValid}
use Rattle.qc_model.proofs.Readable.{first, second}
use Rattle.model_arguments.specs.Asked.{is_box_of}
use Rattle.model_levels.specs.Spans.{is_number_within}
use Rattle.proof_tree.specs.declared.tree.Horizon.{Horizon}
use Rattle.proof_tree.specs.declared.tree.Step.{Step}
use Rattle.proof_tree.specs.InPlace.{is_nearer}
use Rattle.proof_tree.specs.Place.{is_goal}
use Rattle.proof_tree.specs.Steps.{is_prune, after_steps, are_legal}
use Rattle.proof_tree.specs.Text.{is_place, step_fits}
use Rattle.qc_cascade.specs.Ahead.{IsHorizon, IsOpen}
use Rattle.qc_cascade.proofs.Placed.{stands_in_place, sees_open, sees_under, sees_horizon}
use Rattle.search_box.specs.Looking.{LooksAhead, first_unseen}
use Rattle.search_box.proofs.Closings.{all_prune, fits_steps, place_fits}
use Rattle.box_laws.proofs.Readings.{box_size}
use Rattle.search_trim.specs.Trims.{Trims}

by_itself : (k : ℕ) → nat_le k k ≡ true
by_itself k = grind (arith, nat_tests)

left_over : {X : Type 0} (i : ℕ) (xs : List X) → i < length xs → i + length (drop i xs) ≡ length xs
left_over i xs h = omega (arith, length-drop i xs)

not_goal : (i : ℕ) (ss : List Scope) → i < length ss → is_goal (drop i ss) ≡ false
not_goal i [] h = absurd (omega arith)
not_goal zero (s ∷ ss) h = refl
not_goal (suc i) (s ∷ ss) h = not_goal i ss (omega arith)

-- nothing is found
pub nothing_ahead : (g : Game) (i : ℕ) (box : Box) (h : Option ℕ) (steps : List Step) → i < length g.scopes → IsOpen g i (first_unseen g h) box steps → LooksAhead g i box h None
nothing_ahead g i box None steps l o = record { placed = refl; fits = refl; foreseen = sees_open g (drop i g.scopes) i box None steps (left_over i g.scopes l) o }
nothing_ahead g i box (Some k) steps l o = record { placed = refl; fits = refl; foreseen = sees_under g (drop i g.scopes) i k box (Some k) steps (by_itself k) o }

nearer : (g : Game) (k : ℕ) (h : Option ℕ) → k < first_unseen g h → is_nearer k h ≡ true
nearer g k None l = refl
nearer g k (Some n) l = by k n l
  where
    by : (k n : ℕ) → k < n → nat_lt k n ≡ true
    by k n l = grind (arith, nat_tests)

-- a horizon is found
pub horizon_ahead : (g : Game) (i : ℕ) (box : Box) (h : Option ℕ) (z : Horizon) → IsValid g → is_box_of g box ≡ true → i < length g.scopes → z.scope.0 < first_unseen g h → IsHorizon g i z.scope.0 box z.steps → LooksAhead g i box h (Some z)
horizon_ahead g i box h z v b l n f =
    let k = z.scope.0 in
    let later = drop i g.scopes in
    let ok = is_number_within g i (suc k) in
    let size = box_size g box b in
    record {
      placed = stands_in_place g later i box h z (left_over i g.scopes l) (not_goal i g.scopes l) (nearer g k h n) f;
      fits =
          and_from (is_place 65 k && list_all step_fits z.steps) (list_all is_prune z.steps)
          (and_from (is_place 65 k) (list_all step_fits z.steps) (place_fits 65 k (omega (arith, f.to, v.few_scopes)))
          (fits_steps ok g z.steps box (omega (arith, size, v.few_variables)) v.few_constraints f.pruned))
          (all_prune ok g z.steps box f.pruned);
      foreseen = sees_horizon g later i k box (Some k) z.steps (by_itself k) f;
    }

-- a horizon without the steps that its empty domain doesn't need
pub trimmed_ahead : (g : Game) (i : ℕ) (box : Box) (h : Option ℕ) (z : Horizon) (less : List Step) → has_empty box ≡ false → LooksAhead g i box h (Some z) → Trims g z.steps less →
    LooksAhead g i box h (Some (record { scope = z.scope; steps = less }))
trimmed_ahead g i box h z less full l t =
    let k = z.scope.0 in
    let later = drop i g.scopes in
    let ahead = not (is_goal later) && nat_le i k && nat_le k (i + length later) && is_nearer k h in
    let empties = and_parts (ahead && are_legal g i (suc k) None z.steps box) (has_empty (after_steps z.steps box)) l.placed in
    let legal = and_parts ahead (are_legal g i (suc k) None z.steps box) empties.0 in
    let r = t.right i (suc k) None box legal.1 full empties.1 in
    let prunes = and_parts (is_place 65 k && list_all step_fits z.steps) (list_all is_prune z.steps) l.fits in
    let fits = and_parts (is_place 65 k) (list_all step_fits z.steps) prunes.0 in
    record {
      placed = and_from (ahead && are_legal g i (suc k) None less box) (has_empty (after_steps less box)) (and_from ahead (are_legal g i (suc k) None less box) legal.0 r.legal) r.empties;
      fits =
          and_from (is_place 65 k && list_all step_fits less) (list_all is_prune less)
          (and_from (is_place 65 k) (list_all step_fits less) fits.0 (t.tests step_fits fits.1))
          (t.tests is_prune prunes.1);
      foreseen = l.foreseen;
    }
