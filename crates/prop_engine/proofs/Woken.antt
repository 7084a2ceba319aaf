-- After the constraints that steps concern are woken, those that don't wait keep their ends.
use Rattle.std.proofs.Common.{◌≡◌, ℕ, zero, suc, Bool, true, false, List, [], ◌∷◌, length, drop, ◌⊎◌, inl, inr, refl, ap, ◌∙◌, subst, arith}
use Rattle.std.specs.Prelude.{slice_get, Some, ◌==◌}
use Rattle.std.proofs.lemmas.Bool.Decides.{nat_tests}
use Rattle.std.proofs.lemmas.Option.{same_Some}
use Rattle.std.proofs.lemmas.Bool.{or_from}
use Rattle.qc_model.specs.declared.problem.ConId.{ConId}
use Rattle.qc_model.specs.Arguments.{variables_of}
use Rattle.qc_model.specs.Closed.{keeps_ends}
use Rattle.qc_model.specs.Content.{Game, Rule}
use Rattle.qc_model.specs.Domains.{values_left, has_empty}
use Rattle.model_arguments.proofs.Bools.{clash}
use Rattle.proof_tree.specs.declared.tree.Step.{Step}
use Rattle.fd_store.specs.Held.{Held}
use Rattle.prop_base.specs.Pruning.{IsPruning}
use Rattle.prop_engine.specs.Watching.{Waiting, Watches, is_marked, is_watched, IsWatchOf, KeepsUnmarked, names, changed_by, step_variable, moved_by, IsBoundedSum, IsStill, MayRest}
use Rattle.prop_engine.proofs.Own.{among, keeps_same, after_length, after_others}
use Rattle.prop_engine.proofs.Kept.{either, less_marked, watched_one, drop_whole}
use Rattle.prop_engine.proofs.Resting.{AreStill, still_keeps}

nothing_at : {X : Type 0} (i : ℕ) (x : X) → slice_get [] i ≡ Some x → ⊥
nothing_at i x h = cc

first_or_later : {X : Type 0} (Q : X → Type 0) (y : X) (xs : List X) (i : ℕ) (x : X) → slice_get (y ∷ xs) i ≡ Some x → Q y → ((i : ℕ) (x : X) → slice_get xs i ≡ Some x → Q x) → Q x
first_or_later Q y xs zero x h q r = subst Q (same_Some y x h) q
first_or_later Q y xs (suc i) x h q r = r i x h

-- one item that answers, or something of each
gather : {X : Type 0} (xs : List X) (P : Type 0) (Q : X → Type 0) → ((i : ℕ) (x : X) → slice_get xs i ≡ Some x → P ⊎ Q x) → P ⊎ ((i : ℕ) (x : X) → slice_get xs i ≡ Some x → Q x)
gather [] P Q f = inr (λ i x h. absurd (nothing_at i x h))
gather (y ∷ xs) P Q f =
    elim (f 0 y refl) [
      | inl p ↦ inl p
      | inr q ↦ elim (gather xs P Q (λ i x h. f (suc i) x h)) [ inl p ↦ inl p | inr r ↦ inr (λ i x h. first_or_later Q y xs i x h q r) ]
    ]

equal_numbers : (j k : ℕ) → (j == k) ≡ true → j ≡ k
equal_numbers j k h = grind (arith, nat_tests)

-- steps of other variables name none of these
none_named : (steps : List Step) (p : ℕ → Bool) (x : ℕ) → ((i : ℕ) (z : Step) → slice_get steps i ≡ Some z → p (step_variable z).0 ≡ false) → p x ≡ true → names (changed_by steps) x ≡ false
none_named [] p x f h = refl
none_named (z ∷ steps) p x f h = or_from ((step_variable z).0 == x) (names (changed_by steps) x) (by ((step_variable z).0 == x) refl) (none_named steps p x (λ i y q. f (suc i) y q) h)
  where
    by : (b : Bool) → ((step_variable z).0 == x) ≡ b → b ≡ false
    by true e = absurd (clash (p x) h (subst (λ k. p k ≡ false) (equal_numbers (step_variable z).0 x e) (f 0 z refl)))
    by false e = refl

-- a constraint that kept its ends before the steps, each of which leaves it still or has nothing to do with it
settled : (r : Rule) (ok : ℕ → Bool) (g : Game) (s t : Held) (a b : List Step) (p : IsPruning ok g s t a b) → has_empty t.box ≡ false → AreStill p.more t.box r → keeps_ends s.box r ≡ true → keeps_ends t.box r ≡ true
settled r ok g s t a b p f q h =
    let count = ap length p.reached ∙ after_length p.more s.box in
    elim (gather p.more (IsBoundedSum r) (λ z. among (variables_of r.args) (step_variable z).0 ≡ false) (λ i z e. by i z e (among (variables_of r.args) (step_variable z).0) refl)) [
      | inl o ↦ still_keeps r p.more s.box t.box p.reached count f o q h
      | inr n ↦ keeps_same r t.box s.box count (λ x m. ap (λ d. values_left d x) p.reached ∙ after_others p.more s.box x (none_named p.more (among (variables_of r.args)) x n m)) ∙ h
    ]
  where
    by : (i : ℕ) (z : Step) → slice_get p.more i ≡ Some z → (t : Bool) → among (variables_of r.args) (step_variable z).0 ≡ t → IsBoundedSum r ⊎ (among (variables_of r.args) (step_variable z).0 ≡ false)
    by i z e true m = inl (q i z e m).0
    by i z e false m = inr m

-- after the constraints that the steps concern are woken, but for those that keep their ends anyway or rest on ends that didn't move
pub kept_woken : (ok p : ℕ → Bool) (g : Game) (ws : Watches) (c : ConId) (v w : Waiting) (s t : Held) (a b fresh : List Step) → IsWatchOf g ws → IsPruning p g s t a b → fresh ≡ drop (length a) b → has_empty t.box ≡ false →
    ((k : ℕ) (r : Rule) → ok k ≡ true → slice_get g.constraints k ≡ Some r → is_marked v k ≡ false → ((c.0 == k) ≡ true → keeps_ends t.box r ≡ true) × ((c.0 == k) ≡ false → keeps_ends s.box r ≡ true)) →
    ((k : ℕ) → is_marked v k ≡ true → is_marked w k ≡ true) →
    ((k i : ℕ) (z : Step) → ok k ≡ true → (c.0 == k) ≡ false → slice_get fresh i ≡ Some z → is_watched ws k (step_variable z).0 ≡ true → MayRest g w t.box (moved_by z t.box) (step_variable z).0 k) →
    KeepsUnmarked ok g w t.box
kept_woken ok p g ws c v w s t a b fresh i q same f h m n k r o e u =
    either c.0 k (keeps_ends t.box r ≡ true) (before.0) (λ z.
    elim (gather q.more (keeps_ends t.box r ≡ true) (λ y. among (variables_of r.args) (step_variable y).0 ≡ true → IsStill (moved_by y t.box) r (step_variable y).0) (λ j y l. by z j y l (among (variables_of r.args) (step_variable y).0) refl)) [
      | inl d ↦ d
      | inr d ↦ settled r p g s t a b q f d (before.1 z)
    ])
  where
    before : ((c.0 == k) ≡ true → keeps_ends t.box r ≡ true) × ((c.0 == k) ≡ false → keeps_ends s.box r ≡ true)
    before = h k r o e (less_marked v w k m u)

    steps : fresh ≡ q.more
    steps = same ∙ (ap (drop (length a)) q.appended ∙ drop_whole a q.more)

    by : (c.0 == k) ≡ false → (j : ℕ) (y : Step) → slice_get q.more j ≡ Some y → (d : Bool) → among (variables_of r.args) (step_variable y).0 ≡ d →
        (keeps_ends t.box r ≡ true) ⊎ (among (variables_of r.args) (step_variable y).0 ≡ true → IsStill (moved_by y t.box) r (step_variable y).0)
    by z j y l true d =
        elim (n k j y o z (ap (λ x. slice_get x j) steps ∙ l) (watched_one (is_watched ws k) (variables_of r.args) (step_variable y).0 (i.watched k r e) d) u r e) [ inl x ↦ inl x | inr x ↦ inr (λ d2. x) ]
    by z j y l false d = inr (λ x. absurd (clash (among (variables_of r.args) (step_variable y).0) x d))
