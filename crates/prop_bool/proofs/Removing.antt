-- Taking one of both truth values.
use Rattle.std.proofs.Common.{◌≡◌, ◌+◌, ◌<◌, ℕ, Bool, true, false, not, List, [], ◌∷◌, ◌++◌, length, set, refl, sym, ap, ◌∙◌, subst, arith, ℤ, append-nil, length-append}
use Rattle.std.specs.Prelude.{◌==◌}
use Rattle.std.proofs.lemmas.Bool.Decides.{nat_tests}
use Rattle.qc_model.specs.declared.problem.VarId.{VarId}
use Rattle.qc_model.specs.Closed.{keeps_ends}
use Rattle.qc_model.specs.Content.{Game, Rule}
use Rattle.qc_model.specs.Domains.{Box, values_left, values_within, values_outside, box_without, has_value, has_empty, is_none_left}
use Rattle.qc_model.specs.Refuted.{refuted_by}
use Rattle.qc_model.specs.Valid.{is_number}
use Rattle.model_arguments.proofs.Boxes.{set_full}
use Rattle.proof_tree.specs.declared.tree.Step.{Step}
use Rattle.prop_base.specs.declared.cuts.Cut.{Cut}
use Rattle.prop_base.specs.declared.answer.Filtered.{Filtered}
use Rattle.prop_base.specs.declared.answer.Filtered.TheVariants.{Emptied, Stable, Changed}
use Rattle.prop_base.specs.Closed.{IsCut}
use Rattle.fd_store.specs.Held.{Held}
use Rattle.prop_base.specs.Pruning.{IsFiltered, IsPruning}
use Rattle.prop_bool.specs.Literals.{truth_number, both_truths}
use Rattle.prop_bool.specs.Findings.{given, answer_after}
use Rattle.prop_bool.proofs.Fixing.{has_place}

small : (b : Bool) → is_number (truth_number b) ≡ true
small true = refl
small false = refl

within : (b : Bool) → values_within (truth_number b) (truth_number b) both_truths ≡ truth_number b ∷ []
within true = refl
within false = refl

outside : (b : Bool) → values_outside (truth_number b) (truth_number b) both_truths ≡ truth_number (not b) ∷ []
outside true = refl
outside false = refl

has : (b : Bool) → has_value both_truths (truth_number b) ≡ true
has true = refl
has false = refl

pub both_place : (box : Box) (x : VarId) → values_left box x.0 ≡ both_truths → x.0 < length box
both_place box x u = has_place box x.0 (truth_number true) (ap (λ d. has_value d (truth_number true)) u ∙ has true)

pub cut_given : (c : Rule) (box : Box) (x : VarId) (b : Bool) (k : Cut) → values_left box x.0 ≡ both_truths → refuted_by c (given box x b) ≡ true → k.x ≡ x → k.lo ≡ truth_number b → k.hi ≡ truth_number b → IsCut c box k
cut_given c box x b k u r e l h =
    let v = truth_number b in
    let w = ap (values_within v v) u ∙ within b in
    let P : VarId → Type 0 = λ y. IsCut c box (record { x = y; lo = k.lo; hi = k.hi }) in
    let L : ℤ → Type 0 = λ z. IsCut c box (record { x = x; lo = z; hi = k.hi }) in
    let H : ℤ → Type 0 = λ z. IsCut c box (record { x = x; lo = v; hi = z }) in
    subst P (sym e)
    (subst L (sym l)
    (subst H (sym h)
    (record {
      x = both_place box x u;
      low = small b;
      high = small b;
      some = ap is_none_left w;
      refuted = ap (λ d. refuted_by c (set box x.0 d)) w ∙ r;
    })))

pub given_after : (box new : Box) (x : VarId) (b : Bool) (k : Cut) → values_left box x.0 ≡ both_truths → k.x ≡ x → k.lo ≡ truth_number b → k.hi ≡ truth_number b → new ≡ box_without box k.x.0 k.lo k.hi → new ≡ given box x (not b)
given_after box new x b k u e l h n =
    n ∙ (ap (λ (y : VarId). box_without box y.0 k.lo k.hi) e
    ∙ (ap (λ z. box_without box x.0 z k.hi) l
    ∙ (ap (λ z. box_without box x.0 (truth_number b) z) h
    ∙ ap (set box x.0) (ap (values_outside (truth_number b) (truth_number b)) u ∙ outside b))))

pub lost_one : (c : Rule) (box new : Box) (x : VarId) (b : Bool) (a z : List Step) → has_empty box ≡ false → keeps_ends (given box x b) c ≡ true → new ≡ given box x b → length z ≡ length a + 1 → IsFiltered Changed c new a z
lost_one c box new x b a z f k e l =
    (ap has_empty e ∙ set_full box x.0 (truth_number b ∷ []) f refl, λ s. omega (arith, l, ap length s), ap (λ w. keeps_ends w c) e ∙ k)

-- steps were appended before, and some more or none
pub answered_after : (ok : ℕ → Bool) (g : Game) (c : Rule) (s t u : Held) (old mid new : List Step) (m : Bool) (f : Filtered) → IsPruning ok g s t old mid → IsPruning ok g t u mid new → m ≡ not (length old == length new) → IsFiltered f c u.box mid new → IsFiltered (answer_after m f) c u.box old new
answered_after ok g c s t u old mid new m Emptied p q e h = h
answered_after ok g c s t u old mid new true Stable p q e h = (h.0, λ k. apart (length old) (length new) e (ap length (sym k)), h.2)
  where
    apart : (a b : ℕ) → true ≡ not (a == b) → a ≡ b → ⊥
    apart a b w k = by (a == b) (number_same a b k) w
      where
        number_same : (a b : ℕ) → a ≡ b → (a == b) ≡ true
        number_same a b k = grind (arith, nat_tests)

        by : (v : Bool) → v ≡ true → true ≡ not v → ⊥
        by true i j = cc
        by false i j = cc
answered_after ok g c s t u old mid new false Stable p q e h = (h.0, none p.more (same (length old) (length new) e) (h.1 ∙ p.appended), h.2)
  where
    same : (a b : ℕ) → false ≡ not (a == b) → a ≡ b
    same a b w = grind (arith, nat_tests)

    none : (more : List Step) → length old ≡ length new → new ≡ old ++ more → new ≡ old
    none [] k w = w ∙ append-nil old
    none (x ∷ more) k w = absurd (omega (arith, k, ap length w, length-append old (x ∷ more)))
answered_after ok g c s t u old mid new m Changed p q e h = (h.0, λ k. h.1 (none q.more (omega (arith, ap length k, ap length p.appended, length-append old p.more, ap length q.appended, length-append mid q.more)) q.appended), h.2)
  where
    none : (more : List Step) → length more ≡ 0 → new ≡ mid ++ more → new ≡ mid
    none [] k w = w ∙ append-nil mid
    none (x ∷ more) k w = absurd (omega (arith, k))
