-- Steps by constraints of some scopes: by those of more scopes, and as a certificate's legal steps.
use Rattle.std.proofs.Common.{◌≡◌, ℕ, ◌≤◌, Bool, true, false, ◌&&◌, List, [], ◌∷◌, refl, arith}
use Rattle.std.specs.Prelude.{Option, Some, None, slice_get}
use Rattle.std.proofs.lemmas.Bool.Decides.{nat_tests}
use Rattle.std.proofs.lemmas.Bool.{and_from}
use Rattle.qc_model.specs.Content.{Game, Rule}
use Rattle.qc_model.specs.Domains.{Box, box_within}
use Rattle.qc_model.specs.Valid.{is_number}
use Rattle.qc_model.proofs.Readable.{first, second}
use Rattle.proof_tree.specs.declared.tree.Step.{Step}
use Rattle.proof_tree.specs.declared.tree.Step.TheVariants.{Prune, Bound}
use Rattle.proof_tree.specs.Steps.{removes_some, after_step, is_refuted_within, is_legal, are_legal}
use Rattle.fd_store.specs.Held.{Held}
use Rattle.model_levels.specs.Spans.{is_rule_within, is_number_within}
use Rattle.prop_base.specs.Pruning.{is_refuted_by, is_pruned_by, are_pruned_by, IsPruning}

-- a constraint of these scopes is one of more scopes
pub of_more : (g : Game) (i a b k : ℕ) → a ≤ b → is_number_within g i a k ≡ true → is_number_within g i b k ≡ true
of_more g i a b k l h = by (slice_get g.constraints k) h
  where
    by : (o : Option Rule) → is_rule_within i a o ≡ true → is_rule_within i b o ≡ true
    by None h = cc
    by (Some c) h = grind (arith, nat_tests)

-- steps by constraints that pass one test, where these pass another
step_weaker : (p q : ℕ → Bool) (g : Game) (s : Step) (box : Box) → ((k : ℕ) → p k ≡ true → q k ≡ true) → is_pruned_by p g s box ≡ true → is_pruned_by q g s box ≡ true
step_weaker p q g (Prune x lo hi c) box w h =
    let r = removes_some box x.0 lo hi && (is_number lo && is_number hi) in
    let f = is_refuted_by (slice_get g.constraints c.0) (box_within box x.0 lo hi) in
    let both = first (r && p c.0) f h in
    and_from (r && q c.0) f (and_from r (q c.0) (first r (p c.0) both) (w c.0 (second r (p c.0) both))) (second (r && p c.0) f h)
step_weaker p q g (Bound x lo hi) box w h = cc

steps_weaker : (p q : ℕ → Bool) (g : Game) (steps : List Step) (box : Box) → ((k : ℕ) → p k ≡ true → q k ≡ true) → are_pruned_by p g steps box ≡ true → are_pruned_by q g steps box ≡ true
steps_weaker p q g [] box w h = refl
steps_weaker p q g (s ∷ steps) box w h =
    and_from (is_pruned_by q g s box) (are_pruned_by q g steps (after_step s box))
    (step_weaker p q g s box w (first (is_pruned_by p g s box) (are_pruned_by p g steps (after_step s box)) h))
    (steps_weaker p q g steps (after_step s box) w (second (is_pruned_by p g s box) (are_pruned_by p g steps (after_step s box)) h))

pub pruning_weaker : (p q : ℕ → Bool) (g : Game) (s t : Held) (xs ys : List Step) → ((k : ℕ) → p k ≡ true → q k ≡ true) → IsPruning p g s t xs ys → IsPruning q g s t xs ys
pruning_weaker p q g s t xs ys w h = record {
  more = h.more;
  appended = h.appended;
  legal = steps_weaker p q g h.more s.box w h.legal;
  reached = h.reached;
  follows = h.follows;
}

-- such a step is legal, no variable being bounded
legal_step : (g : Game) (i stop : ℕ) (s : Step) (box : Box) → is_pruned_by (is_number_within g i stop) g s box ≡ true → is_legal g i stop None s box ≡ true
legal_step g i stop (Prune x lo hi c) box h = by (removes_some box x.0 lo hi) (is_number lo && is_number hi) (slice_get g.constraints c.0) h
  where
    by : (r m : Bool) (o : Option Rule) → (((r && m) && is_rule_within i stop o) && is_refuted_by o (box_within box x.0 lo hi)) ≡ true → (r && is_refuted_within i stop o (box_within box x.0 lo hi)) ≡ true
    by true true None h = cc
    by true true (Some d) h = h
    by true false o h = cc
    by false m o h = cc
legal_step g i stop (Bound x lo hi) box h = cc

pub legal_steps : (g : Game) (i stop : ℕ) (steps : List Step) (box : Box) → are_pruned_by (is_number_within g i stop) g steps box ≡ true → are_legal g i stop None steps box ≡ true
legal_steps g i stop [] box h = refl
legal_steps g i stop (s ∷ steps) box h =
    let p = is_pruned_by (is_number_within g i stop) g s box in
    let q = are_pruned_by (is_number_within g i stop) g steps (after_step s box) in
    and_from (is_legal g i stop None s box) (are_legal g i stop None steps (after_step s box))
    (legal_step g i stop s box (first p q h)) (legal_steps g i stop steps (after_step s box) (second p q h))
