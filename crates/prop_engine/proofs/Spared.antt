-- Constraints that wait or keep their ends, as more of them are woken.
use Rattle.std.proofs.Common.{◌≡◌, ℕ, zero, suc, ◌<◌, ◌≤◌, ◌+◌, Bool, true, false, ◌||◌, List, [], ◌∷◌, length, take, get_or, ◌⊎◌, inl, inr, refl, sym, ap, ◌∙◌, arith, subst}
use Rattle.std.specs.Prelude.{◌==◌, slice_get, Some}
use Rattle.std.specs.List.{list_any}
use Rattle.std.proofs.lemmas.Bool.Decides.{nat_tests}
use Rattle.qc_model.specs.declared.problem.VarId.{VarId}
use Rattle.std.proofs.lemmas.Option.{same_Some, slice_get-get_or}
use Rattle.qc_model.specs.Closed.{keeps_ends}
use Rattle.qc_model.specs.Content.{Game}
use Rattle.qc_model.specs.Domains.{Box}
use Rattle.proof_tree.specs.declared.tree.Step.{Step}
use Rattle.model_arguments.proofs.Bools.{clash}
use Rattle.prop_base.specs.Pruning.{is_just}
use Rattle.prop_engine.specs.Closing.{EachRule}
use Rattle.prop_engine.specs.declared.moved.Moved.{Moved}
use Rattle.prop_engine.specs.declared.watching.HeldBy.TheVariants.{Least, Greatest}
use Rattle.prop_engine.specs.declared.watching.Watch.{Watch}
use Rattle.prop_engine.specs.Watching.{Waiting, Watches, is_marked, has_watch, is_watched, names, step_variable, moved_by, moved_ever, IsHeld, IsRight, IsSpared, MayRest}
use Rattle.prop_engine.proofs.Kept.{less_marked, same_number}

equal_numbers : (j k : ℕ) → (j == k) ≡ true → j ≡ k
equal_numbers j k h = grind (arith, nat_tests)

suc_one : (i : ℕ) → suc i ≡ i + 1
suc_one i = omega arith

only : (b : Bool) → (b || false) ≡ true → b ≡ true
only true h = refl
only false h = cc

either : (b c : Bool) (P Q : Type 0) → (b ≡ true → P) → (c ≡ true → Q) → (b || c) ≡ true → P ⊎ Q
either true c P Q f g h = inl (f refl)
either false c P Q f g h = inr (g h)

-- one more that may pass
any_suc : {X : Type 0} (p : X → Bool) (xs : List X) (i : ℕ) (d : X) → i < length xs → list_any p (take (suc i) xs) ≡ true → (list_any p (take i xs) ≡ true) ⊎ (p (get_or xs i d) ≡ true)
any_suc p [] i d l h = absurd (omega arith)
any_suc p (x ∷ xs) zero d l h = inr (only (p x) h)
any_suc p (x ∷ xs) (suc i) d l h = by (p x) (any_suc p xs i d (omega (arith, l))) h
  where
    by : (b : Bool) → (list_any p (take (suc i) xs) ≡ true → (list_any p (take i xs) ≡ true) ⊎ (p (get_or xs i d) ≡ true)) → (b || list_any p (take (suc i) xs)) ≡ true →
        ((b || list_any p (take i xs)) ≡ true) ⊎ (p (get_or xs i d) ≡ true)
    by true f h = inl refl
    by false f h = f h

any_more : {X : Type 0} (p : X → Bool) (xs : List X) (i : ℕ) (d : X) → i < length xs → list_any p (take (i + 1) xs) ≡ true → (list_any p (take i xs) ≡ true) ⊎ (p (get_or xs i d) ≡ true)
any_more p xs i d l h = any_suc p xs i d l (ap (λ n. list_any p (take n xs)) (suc_one i) ∙ h)

pub take_all : {X : Type 0} (xs : List X) (i : ℕ) → length xs ≤ i → take i xs ≡ xs
take_all [] zero l = refl
take_all [] (suc i) l = refl
take_all (x ∷ xs) zero l = absurd (omega (arith, l))
take_all (x ∷ xs) (suc i) l = ap (λ ys. x ∷ ys) (take_all xs i (omega (arith, l)))

-- a constraint that may rest, as more of them are woken
rest_more : (g : Game) (v w : Waiting) (box : Box) (m : Moved) (x k : ℕ) → ((k : ℕ) → is_marked v k ≡ true → is_marked w k ≡ true) → MayRest g v box m x k → MayRest g w box m x k
rest_more g v w box m x k f h u = h (less_marked v w k f u)

-- and as less has moved
rest_less : (g : Game) (w : Waiting) (box : Box) (m n : Moved) (x k : ℕ) → (m.least ≡ false → n.least ≡ false) → (m.greatest ≡ false → n.greatest ≡ false) → MayRest g w box m x k → MayRest g w box n x k
rest_less g w box m n x k f h r u c s =
    elim (r u c s) [ inl e ↦ inl e | inr e ↦ inr (e.0, elim e.1 [ inl a ↦ inl (a.0, f a.1) | inr a ↦ inr (a.0, h a.1) ]) ]

pub spared_rests : (g : Game) (w : Waiting) (box : Box) (m : Moved) (x k : ℕ) → IsSpared g w box k → MayRest g w box m x k
spared_rests g w box m x k h u c s = inl (h u k c (same_number k) s)

pub kept_rests : (g : Game) (w : Waiting) (box : Box) (m : Moved) (x k : ℕ) → EachRule (is_just k) g (keeps_ends box) → MayRest g w box m x k
kept_rests g w box m x k h u c s = inl (h k c (same_number k) s)

-- by the ends of x that aren't the declared ones
pub rest_ever : (g : Game) (w : Waiting) (box : Box) (m : Moved) (y x k : ℕ) → y ≡ x → (m.least ≡ false → (moved_ever g box y).least ≡ false) → (m.greatest ≡ false → (moved_ever g box y).greatest ≡ false) → MayRest g w box m y k →
    MayRest g w box (moved_ever g box x) x k
rest_ever g w box m y x k e f h r = subst (λ z. MayRest g w box (moved_ever g box z) z k) e (rest_less g w box m (moved_ever g box y) y k f h r)

-- a sum whose end didn't move
pub least_rests : (g : Game) (w : Waiting) (box : Box) (m : Moved) (x : ℕ) (a : Watch) → IsRight g x a → a.held_by ≡ Least → m.least ≡ false → MayRest g w box m x a.c.0
least_rests g w box m x a r e f u c s = let h = subst (λ z. IsHeld z c x) e (r c s) in inr (h.0, inl (h.1, f))

pub greatest_rests : (g : Game) (w : Waiting) (box : Box) (m : Moved) (x : ℕ) (a : Watch) → IsRight g x a → a.held_by ≡ Greatest → m.greatest ≡ false → MayRest g w box m x a.c.0
greatest_rests g w box m x a r e f u c s = let h = subst (λ z. IsHeld z c x) e (r c s) in inr (h.0, inr (h.1, f))

-- a constraint more of those that watch one variable
pub rest_all : (g : Game) (v w : Waiting) (box : Box) (m : Moved) (x : ℕ) (ws : List Watch) (i k : ℕ) (d : Watch) → i < length ws → ((k : ℕ) → is_marked v k ≡ true → is_marked w k ≡ true) →
    (has_watch (take i ws) k ≡ true → MayRest g v box m x k) → ((get_or ws i d).c.0 ≡ k → MayRest g w box m x k) → has_watch (take (i + 1) ws) k ≡ true → MayRest g w box m x k
rest_all g v w box m x ws i k d l n f h t =
    elim (any_more (λ a. a.c.0 == k) ws i d l t) [ inl a ↦ rest_more g v w box m x k n (f a) | inr a ↦ h (equal_numbers (get_or ws i d).c.0 k a) ]

-- one that waits already, or is woken
pub spared_marked : (g : Game) (w : Waiting) (box : Box) (k : ℕ) → is_marked w k ≡ true → IsSpared g w box k
spared_marked g w box k m u = absurd (clash (is_marked w k) m u)

-- a variable more
pub rest_named : (g : Game) (v w : Waiting) (box : Box) (xs : List VarId) (i k x : ℕ) (d : VarId) → i < length xs → ((k : ℕ) → is_marked v k ≡ true → is_marked w k ≡ true) →
    (names (take i xs) x ≡ true → MayRest g v box (moved_ever g box x) x k) → ((get_or xs i d).0 ≡ x → MayRest g w box (moved_ever g box x) x k) → names (take (i + 1) xs) x ≡ true → MayRest g w box (moved_ever g box x) x k
rest_named g v w box xs i k x d l m f h t =
    elim (any_more (λ y. y.0 == x) xs i d l t) [ inl a ↦ rest_more g v w box (moved_ever g box x) x k m (f a) | inr a ↦ h (equal_numbers (get_or xs i d).0 x a) ]

-- a step more
rest_step : (g : Game) (w : Waiting) (box : Box) (v : VarId) (m : Moved) (d s : Step) (k : ℕ) → v ≡ step_variable d → (m.least ≡ false → (moved_by d box).least ≡ false) → (m.greatest ≡ false → (moved_by d box).greatest ≡ false) → d ≡ s →
    MayRest g w box m v.0 k → MayRest g w box (moved_by s box) (step_variable s).0 k
rest_step g w box v m d s k e f h q r =
    subst (λ z. MayRest g w box (moved_by z box) (step_variable z).0 k) q (subst (λ y. MayRest g w box (moved_by d box) y.0 k) e (rest_less g w box m (moved_by d box) v.0 k f h r))

at_or_before : (i n : ℕ) → i < n + 1 → (i < n) ⊎ (i ≡ n)
at_or_before zero zero h = inr refl
at_or_before zero (suc n) h = inl (omega arith)
at_or_before (suc i) zero h = absurd (omega (arith, h))
at_or_before (suc i) (suc n) h = elim (at_or_before i n (omega (arith, h))) [ inl m ↦ inl (omega (arith, m)) | inr m ↦ inr (ap suc m) ]

pub got_same : {X : Type 0} (xs : List X) (i : ℕ) (d s : X) → i < length xs → slice_get xs i ≡ Some s → get_or xs i d ≡ s
got_same xs i d s l h = same_Some (get_or xs i d) s (sym (slice_get-get_or xs i d l) ∙ h)

pub got_below : {X : Type 0} (xs : List X) (i : ℕ) (s : X) → slice_get xs i ≡ Some s → i < length xs
got_below [] i s h = cc
got_below (x ∷ xs) zero s h = omega arith
got_below (x ∷ xs) (suc i) s h = omega (arith, got_below xs i s h)

pub rest_stepped : (g : Game) (ws : Watches) (u w : Waiting) (box : Box) (steps : List Step) (n k i : ℕ) (d s : Step) (v : VarId) (m : Moved) → n < length steps → ((k : ℕ) → is_marked u k ≡ true → is_marked w k ≡ true) →
    v ≡ step_variable (get_or steps n d) → (m.least ≡ false → (moved_by (get_or steps n d) box).least ≡ false) → (m.greatest ≡ false → (moved_by (get_or steps n d) box).greatest ≡ false) →
    i < n + 1 → slice_get steps i ≡ Some s → is_watched ws k (step_variable s).0 ≡ true → (i < n → MayRest g u box (moved_by s box) (step_variable s).0 k) → (is_watched ws k v.0 ≡ true → MayRest g w box m v.0 k) →
    MayRest g w box (moved_by s box) (step_variable s).0 k
rest_stepped g ws u w box steps n k i d s v m l a e f h b p o r t =
    elim (at_or_before i n b) [
      | inl c ↦ rest_more g u w box (moved_by s box) (step_variable s).0 k a (r c)
      | inr c ↦
          let q = got_same steps n d s l (ap (slice_get steps) (sym c) ∙ p) in
          rest_step g w box v m (get_or steps n d) s k e f h q (t (subst (λ y. is_watched ws k y.0 ≡ true) (sym (e ∙ ap step_variable q)) o))
    ]
