-- Constraints that begin to wait, and one that ends.
use Rattle.std.proofs.Common.{◌≡◌, ◌≢◌, ℕ, zero, suc, ◌<◌, Bool, true, false, ◌||◌, List, [], ◌∷◌, ◌++◌, length, drop, set, get_or, replicate, ◌⊎◌, inl, inr, refl, sym, ap, ◌∙◌, subst, arith}
use Rattle.std.specs.Prelude.{slice_index_or, ◌==◌}
use Rattle.std.specs.List.{list_all}
use Rattle.std.proofs.lemmas.Bool.Decides.{nat_tests}
use Rattle.std.proofs.lemmas.Bool.{or_left, or_right, and_from}
use Rattle.std.proofs.lemmas.List.Folds.{list_all-append, list_any-append}
use Rattle.qc_model.specs.declared.problem.ConId.{ConId}
use Rattle.qc_model.proofs.Readable.{first, second}
use Rattle.prop_engine.specs.Closing.{has_constraint}

-- a mark that is read
pub mark_read : (marks : List Bool) (k : ℕ) (d : Bool) → k < length marks → get_or marks k d ≡ true → slice_index_or marks k false ≡ true
mark_read [] k d l h = absurd (omega (arith, l))
mark_read (m ∷ marks) zero d l h = h
mark_read (m ∷ marks) (suc k) d l h = mark_read marks k d (omega (arith, l)) h

-- what is marked after one more is, was marked before or is that one
marked_before : (marks : List Bool) (j k : ℕ) → slice_index_or (set marks j true) k false ≡ true → (slice_index_or marks k false ≡ true) ⊎ (j ≡ k)
marked_before [] j k h = inl h
marked_before (m ∷ marks) zero zero h = inr refl
marked_before (m ∷ marks) zero (suc k) h = inl h
marked_before (m ∷ marks) (suc j) zero h = inl h
marked_before (m ∷ marks) (suc j) (suc k) h = elim (marked_before marks j k h) [ inl e ↦ inl e | inr e ↦ inr (ap suc e) ]

same_number : (k : ℕ) → (k == k) ≡ true
same_number k = grind (arith, nat_tests)

has_left : (a b : List ConId) (k : ℕ) → has_constraint a k ≡ true → has_constraint (a ++ b) k ≡ true
has_left a b k h = list_any-append (λ c. c.0 == k) a b ∙ or_left (has_constraint a k) (has_constraint b k) h

has_right : (a b : List ConId) (k : ℕ) → has_constraint b k ≡ true → has_constraint (a ++ b) k ≡ true
has_right a b k h = list_any-append (λ c. c.0 == k) a b ∙ or_right (has_constraint a k) (has_constraint b k) h

has_last : (a : List ConId) (c : ConId) → has_constraint (a ++ c ∷ []) c.0 ≡ true
has_last a c = has_right a (c ∷ []) c.0 (or_left (c.0 == c.0) false (same_number c.0))

-- in either of two queues
has_one : (a b : List ConId) (k : ℕ) → has_constraint (a ++ b) k ≡ true → (has_constraint a k ≡ true) ⊎ (has_constraint b k ≡ true)
has_one a b k h = by (has_constraint a k) refl
  where
    by : (t : Bool) → has_constraint a k ≡ t → (has_constraint a k ≡ true) ⊎ (has_constraint b k ≡ true)
    by true e = inl e
    by false e = inr (sym (list_any-append (λ c. c.0 == k) a b ∙ ap (λ t. t || has_constraint b k) e) ∙ h)

-- one more waits at the end of the first queue
pub first_waits : (marks : List Bool) (a b new : List ConId) (c : ConId) → new ≡ a ++ c ∷ [] → ((k : ℕ) → slice_index_or marks k false ≡ true → has_constraint (a ++ b) k ≡ true) →
    (k : ℕ) → slice_index_or (set marks c.0 true) k false ≡ true → has_constraint (new ++ b) k ≡ true
first_waits marks a b new c e f k h =
    elim (marked_before marks c.0 k h) [
      | inl m ↦ elim (has_one a b k (f k m)) [
        | inl w ↦ has_left new b k (ap (λ l. has_constraint l k) e ∙ has_left a (c ∷ []) k w)
        | inr w ↦ has_right new b k w
      ]
      | inr m ↦ has_left new b k (ap (λ l. has_constraint l k) e ∙ subst (λ j. has_constraint (a ++ c ∷ []) j ≡ true) m (has_last a c))
    ]

-- one more waits at the end of the later queue
pub later_waits : (marks : List Bool) (a b new : List ConId) (c : ConId) → new ≡ b ++ c ∷ [] → ((k : ℕ) → slice_index_or marks k false ≡ true → has_constraint (a ++ b) k ≡ true) →
    (k : ℕ) → slice_index_or (set marks c.0 true) k false ≡ true → has_constraint (a ++ new) k ≡ true
later_waits marks a b new c e f k h =
    elim (marked_before marks c.0 k h) [
      | inl m ↦ elim (has_one a b k (f k m)) [
        | inl w ↦ has_left a new k w
        | inr w ↦ has_right a new k (ap (λ l. has_constraint l k) e ∙ has_left b (c ∷ []) k w)
      ]
      | inr m ↦ has_right a new k (ap (λ l. has_constraint l k) e ∙ subst (λ j. has_constraint (b ++ c ∷ []) j ≡ true) m (has_last b c))
    ]

all_both : (ok : ℕ → Bool) (a b : List ConId) → list_all (λ c. ok c.0) a ≡ true → list_all (λ c. ok c.0) b ≡ true → list_all (λ c. ok c.0) (a ++ b) ≡ true
all_both ok a b h i = list_all-append (λ c. ok c.0) a b ∙ and_from (list_all (λ c. ok c.0) a) (list_all (λ c. ok c.0) b) h i

all_last : (ok : ℕ → Bool) (a : List ConId) (c : ConId) → ok c.0 ≡ true → list_all (λ d. ok d.0) a ≡ true → list_all (λ d. ok d.0) (a ++ c ∷ []) ≡ true
all_last ok a c h i = all_both ok a (c ∷ []) i (and_from (ok c.0) true h refl)

-- one more that passes, at the end of the first queue
pub first_allowed : (a b new : List ConId) (c : ConId) → new ≡ a ++ c ∷ [] → (ok : ℕ → Bool) → ok c.0 ≡ true → list_all (λ d. ok d.0) (a ++ b) ≡ true → list_all (λ d. ok d.0) (new ++ b) ≡ true
first_allowed a b new c e ok h i =
    let parts = sym (list_all-append (λ d. ok d.0) a b) ∙ i in
    all_both ok new b (ap (list_all (λ d. ok d.0)) e ∙ all_last ok a c h (first (list_all (λ d. ok d.0) a) (list_all (λ d. ok d.0) b) parts)) (second (list_all (λ d. ok d.0) a) (list_all (λ d. ok d.0) b) parts)

-- one more that passes, at the end of the later queue
pub later_allowed : (a b new : List ConId) (c : ConId) → new ≡ b ++ c ∷ [] → (ok : ℕ → Bool) → ok c.0 ≡ true → list_all (λ d. ok d.0) (a ++ b) ≡ true → list_all (λ d. ok d.0) (a ++ new) ≡ true
later_allowed a b new c e ok h i =
    let parts = sym (list_all-append (λ d. ok d.0) a b) ∙ i in
    all_both ok a new (first (list_all (λ d. ok d.0) a) (list_all (λ d. ok d.0) b) parts) (ap (list_all (λ d. ok d.0)) e ∙ all_last ok b c h (second (list_all (λ d. ok d.0) a) (list_all (λ d. ok d.0) b) parts))

-- what is marked after the mark at a place is taken back was marked before, and stands elsewhere
still_marked : (marks : List Bool) (j k : ℕ) → slice_index_or (set marks j false) k false ≡ true → (slice_index_or marks k false ≡ true) × (j ≢ k)
still_marked [] j k h = cc
still_marked (m ∷ marks) zero zero h = cc
still_marked (m ∷ marks) zero (suc k) h = (h, λ e. omega (arith, e))
still_marked (m ∷ marks) (suc j) zero h = (h, λ e. omega (arith, e))
still_marked (m ∷ marks) (suc j) (suc k) h = let r = still_marked marks j k h in (r.0, λ e. r.1 (omega (arith, e)))

other_number : (j k : ℕ) → j ≢ k → (j == k) ≡ false
other_number j k h = grind (arith, nat_tests)

-- after the first of the queue is taken out, with its mark, each mark's constraint waits
pub rest_waits : (marks : List Bool) (q r : List ConId) (c : ConId) → q ≡ c ∷ r → ((k : ℕ) → slice_index_or marks k false ≡ true → has_constraint q k ≡ true) →
    (k : ℕ) → slice_index_or (set marks c.0 false) k false ≡ true → has_constraint r k ≡ true
rest_waits marks q r c e f k h =
    let m = still_marked marks c.0 k h in
    ap (λ b. b || has_constraint r k) (sym (other_number c.0 k m.1)) ∙ (ap (λ l. has_constraint l k) (sym e) ∙ f k m.0)

none_left : (a new : List ConId) → a ≡ new → new ≡ drop 1 a → a ≡ []
none_left [] new e f = refl
none_left (c ∷ a) new e f = absurd (omega (arith, ap length (e ∙ f)))

-- where nothing stands in the first queue, the first of all is that of the later one
pub later_first : (a new b rest : List ConId) (c : ConId) → a ≡ new → new ≡ drop 1 a → b ≡ c ∷ rest → a ++ b ≡ c ∷ (new ++ rest)
later_first a new b rest c e f g =
    let none = none_left a new e f in
    ap (λ l. l ++ b) none ∙ (g ∙ ap (λ l. c ∷ (l ++ rest)) (sym none ∙ e))

-- the other marks stay
pub others_stay : (marks : List Bool) (j k : ℕ) → k ≢ j → slice_index_or (set marks j false) k false ≡ slice_index_or marks k false
others_stay [] j k h = refl
others_stay (m ∷ marks) zero zero h = absurd (h refl)
others_stay (m ∷ marks) zero (suc k) h = refl
others_stay (m ∷ marks) (suc j) zero h = refl
others_stay (m ∷ marks) (suc j) (suc k) h = others_stay marks j k (λ e. h (ap suc e))

-- none of so many marks is set
pub none_set : (n k : ℕ) → slice_index_or (replicate n false) k false ≡ false
none_set zero k = refl
none_set (suc n) zero = refl
none_set (suc n) (suc k) = none_set n k
