-- Which constraints keep their ends while others run.
use Rattle.std.proofs.Common.{◌≡◌, ◌≢◌, ℕ, zero, suc, ◌<◌, ◌≤◌, Bool, true, false, ◌||◌, List, [], ◌∷◌, ◌++◌, length, drop, take, ◌-◌, refl, sym, ap, ◌∙◌, subst, arith}
use Rattle.std.specs.Prelude.{slice_get, Some, nat_le, nat_lt, ◌==◌}
use Rattle.std.specs.List.{list_any, list_all}
use Rattle.std.proofs.lemmas.Bool.Decides.{nat_tests}
use Rattle.std.proofs.lemmas.Bool.{false_from_ne_true}
use Rattle.qc_model.specs.declared.problem.ConId.{ConId}
use Rattle.qc_model.specs.Closed.{keeps_ends}
use Rattle.qc_model.specs.Content.{Game, Rule}
use Rattle.qc_model.specs.Domains.{Box}
use Rattle.qc_model.proofs.Readable.{first, second}
use Rattle.prop_base.specs.Pruning.{is_just}
use Rattle.prop_engine.specs.Closing.{EachRule, is_between, has_constraint}
use Rattle.prop_engine.specs.Watching.{Waiting, is_marked, MarkedWait, KeepsUnmarked, IsSpared}
use Rattle.prop_engine.proofs.Watched.{all_weaker}

-- the first of the queue, and the others
pub inside_first : (ok : ℕ → Bool) (q r : List ConId) (c : ConId) → q ≡ c ∷ r → list_all (λ d. ok d.0) q ≡ true → ok c.0 ≡ true
inside_first ok q r c e h = first (ok c.0) (list_all (λ d. ok d.0) r) (ap (list_all (λ d. ok d.0)) (sym e) ∙ h)

pub inside_rest : (ok : ℕ → Bool) (q r : List ConId) (c : ConId) → q ≡ c ∷ r → list_all (λ d. ok d.0) q ≡ true → list_all (λ d. ok d.0) r ≡ true
inside_rest ok q r c e h = second (ok c.0) (list_all (λ d. ok d.0) r) (ap (list_all (λ d. ok d.0)) (sym e) ∙ h)

pub between_below : (a b n k : ℕ) → b ≤ n → is_between a b k ≡ true → k < n
between_below a b n k l h = let p = second (nat_le a k) (nat_lt k b) h in grind (arith, nat_tests)

pub inside_exist : (a b n : ℕ) (q : List ConId) → b ≤ n → list_all (λ c. is_between a b c.0) q ≡ true → list_all (λ c. nat_lt c.0 n) q ≡ true
inside_exist a b n q l h = all_weaker (λ c. is_between a b c.0) (λ c. nat_lt c.0 n) q (λ c m. below c.0 n (between_below a b n c.0 l m)) h
  where
    below : (k n : ℕ) → k < n → nat_lt k n ≡ true
    below k n h = grind (arith, nat_tests)

is_same : (j k : ℕ) → (j == k) ≡ true → j ≡ k
is_same j k h = grind (arith, nat_tests)

just : (j k : ℕ) → (j == k) ≡ true → is_just j k ≡ true
just j k h = grind (arith, nat_tests)

apart : (j k : ℕ) → (j == k) ≡ false → k ≢ j
apart j k h e = grind (arith, nat_tests)

-- of each constraint with this number and each other
pub either : (j k : ℕ) (P : Type 0) → ((j == k) ≡ true → P) → ((j == k) ≡ false → P) → P
either j k P f g = by (j == k) refl
  where
    by : (b : Bool) → (j == k) ≡ b → P
    by true e = f e
    by false e = g e

-- the constraint that ran keeps its ends, and the others have nothing changed
pub kept_ran : (ok : ℕ → Bool) (g : Game) (c : ConId) (v w : Waiting) (b d : Box) → d ≡ b → ((k : ℕ) → k ≢ c.0 → is_marked w k ≡ is_marked v k) → KeepsUnmarked ok g v b → EachRule (is_just c.0) g (keeps_ends d) →
    KeepsUnmarked ok g w d
kept_ran ok g c v w b d e m h j k r o s u =
    either c.0 k (keeps_ends d r ≡ true) (λ t. j k r (just c.0 k t) s) (λ t. subst (λ x. keeps_ends x r ≡ true) (sym e) (h k r o s (sym (m k (apart c.0 k t)) ∙ u)))

-- nothing waits, so nothing is marked
pub kept_all : (ok : ℕ → Bool) (g : Game) (w : Waiting) (b : Box) → w.queue ≡ [] → MarkedWait w → KeepsUnmarked ok g w b → EachRule ok g (keeps_ends b)
kept_all ok g w b e m h k r o s = by (is_marked w k) refl
  where
    by : (t : Bool) → is_marked w k ≡ t → keeps_ends b r ≡ true
    by true u = let z = ap (λ q. has_constraint q k) (sym e) ∙ m k u in cc
    by false u = h k r o s u

pub drop_whole : {X : Type 0} (xs ys : List X) → drop (length xs) (xs ++ ys) ≡ ys
drop_whole [] ys = refl
drop_whole (x ∷ xs) ys = drop_whole xs ys

-- the constraint that ran keeps its ends, and the others kept theirs
pub found_changed : (ok : ℕ → Bool) (g : Game) (c : ConId) (v w : Waiting) (s t was : Box) → s ≡ was → ((k : ℕ) → k ≢ c.0 → is_marked w k ≡ is_marked v k) → KeepsUnmarked ok g v s →
    EachRule (is_just c.0) g (keeps_ends t) → (k : ℕ) (r : Rule) → ok k ≡ true → slice_get g.constraints k ≡ Some r → is_marked w k ≡ false →
    ((c.0 == k) ≡ true → keeps_ends t r ≡ true) × ((c.0 == k) ≡ false → keeps_ends was r ≡ true)
found_changed ok g c v w s t was q m h j k r o e u =
    (λ z. j k r (just c.0 k z) e, λ z. subst (λ b. keeps_ends b r ≡ true) q (h k r o e (sym (m k (apart c.0 k z)) ∙ u)))

-- a variable of the constraint, among those that watch it
pub watched_one : (p : ℕ → Bool) (xs : List ℕ) (x : ℕ) → list_all p xs ≡ true → list_any (λ y. y == x) xs ≡ true → p x ≡ true
watched_one p [] x h m = cc
watched_one p (y ∷ xs) x h m = by (y == x) refl (λ n. watched_one p xs x (second (p y) (list_all p xs) h) n) m
  where
    by : (t : Bool) → (y == x) ≡ t → (list_any (λ z. z == x) xs ≡ true → p x ≡ true) → (t || list_any (λ z. z == x) xs) ≡ true → p x ≡ true
    by true e f n = subst (λ z. p z ≡ true) (is_same y x e) (first (p y) (list_all p xs) h)
    by false e f n = f n

not_both : (b : Bool) → b ≡ true → b ≡ false → ⊥
not_both true h k = cc
not_both false h k = cc

pub less_marked : (v w : Waiting) (k : ℕ) → ((k : ℕ) → is_marked v k ≡ true → is_marked w k ≡ true) → is_marked w k ≡ false → is_marked v k ≡ false
less_marked v w k f u = false_from_ne_true (is_marked v k) (λ m. not_both (is_marked w k) (f k m) u)

-- a constraint that waits or keeps its ends, while marks stay
pub spared_more : (g : Game) (v w : Waiting) (box : Box) (k : ℕ) → ((k : ℕ) → is_marked v k ≡ true → is_marked w k ≡ true) → IsSpared g v box k → IsSpared g w box k
spared_more g v w box k f h u = h (less_marked v w k f u)

pub same_number : (k : ℕ) → (k == k) ≡ true
same_number k = grind (arith, nat_tests)

pub spared_keeps : (g : Game) (w : Waiting) (box : Box) (k : ℕ) (r : Rule) → IsSpared g w box k → slice_get g.constraints k ≡ Some r → is_marked w k ≡ false → keeps_ends box r ≡ true
spared_keeps g w box k r h e u = h u k r (same_number k) e

-- all are woken, but for those that keep their ends anyway
pub kept_span : (ok : ℕ → Bool) (g : Game) (w : Waiting) (box : Box) → ((k : ℕ) → ok k ≡ true → IsSpared g w box k) → KeepsUnmarked ok g w box
kept_span ok g w box n k r o e u = spared_keeps g w box k r (n k o) e u

-- the rest of a list, as a slice takes it
take_length : {X : Type 0} (ys : List X) → take (length ys) ys ≡ ys
take_length [] = refl
take_length (y ∷ ys) = ap (λ l. y ∷ l) (take_length ys)

length_drop : {X : Type 0} (n : ℕ) (xs : List X) → length (drop n xs) ≡ length xs - n
length_drop zero xs = omega arith
length_drop (suc n) [] = omega arith
length_drop (suc n) (x ∷ xs) = omega (arith, length_drop n xs)

pub take_rest : {X : Type 0} (n : ℕ) (xs : List X) → take (length xs - n) (drop n xs) ≡ drop n xs
take_rest n xs = ap (λ m. take m (drop n xs)) (sym (length_drop n xs)) ∙ take_length (drop n xs)
