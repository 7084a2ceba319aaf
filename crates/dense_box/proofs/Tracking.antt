-- Which variable a scope's own tree may bound.
use Rattle.std.proofs.Common.{List, None, Option, Some, [], add-one, ap, arith, drop, false, inl, inr, length, length-append, refl, suc, sym, true, zero, ℕ, ◌&&◌, ◌++◌, ◌+◌, ◌<◌, ◌||◌, ◌∙◌, ◌∷◌, ◌≡◌, ◌≤◌, ◌⊎◌}
use Rattle.std.specs.Prelude.{slice_get, is_some, is_none, nat_lt}
use Rattle.std.proofs.lemmas.Bool.Decides.{nat_tests}
use Rattle.qc_model.specs.declared.problem.Condition.{Condition}
use Rattle.qc_model.specs.declared.problem.Scope.{Scope}
use Rattle.qc_model.specs.Block.{of_kind, no_condition_to}
use Rattle.qc_model.specs.Content.{Game}
use Rattle.qc_model.specs.Demands.{demands}
use Rattle.joins.proofs.DemandSteps.{demands_step}
use Rattle.proof_tree.specs.Place.{next_scopes, list_after, tracked_first, tracked_variable}
use Rattle.dense_tree.specs.Steps.{condition_variable, last_condition}
use Rattle.dense_box.specs.declared.wish.Wish.{Wish}
use Rattle.dense_box.specs.Wished.{told, told_in, tracked_at}
use Rattle.model_levels.proofs.Items.{drop_at}
use Rattle.dense_box.proofs.Rows.{item_there}

-- no scope beyond the last matters
pub beyond_last : (last : ℕ) (ss : List Scope) (i : ℕ) → last < i → no_condition_to last ss i ≡ true
beyond_last last [] i h = refl
beyond_last last (s ∷ ss) i h =
    ap (λ b. (b || is_none s.condition) && no_condition_to last ss (suc i)) (before last i h) ∙ beyond_last last ss (suc i) (omega arith)
  where
    before : (m n : ℕ) → m < n → nat_lt m n ≡ true
    before m n h = grind (arith, nat_tests)

-- one scope
condition_here : (last : ℕ) (ss : List Scope) (i : ℕ) (s : Scope) → slice_get ss i ≡ Some s → i ≤ last → no_condition_to last (drop i ss) i ≡ (is_none s.condition && no_condition_to last (drop (i + 1) ss) (i + 1))
condition_here last ss i s e h =
    ap (λ ks. no_condition_to last ks i) (drop_at i ss s e)
    ∙ (ap (λ b. (b || is_none s.condition) && no_condition_to last (drop (suc i) ss) (suc i)) (before last i h)
    ∙ ap (λ n. is_none s.condition && no_condition_to last (drop n ss) n) (sym (add-one i)))
  where
    before : (m n : ℕ) → n ≤ m → nat_lt m n ≡ false
    before m n h = grind (arith, nat_tests)

pub condition_found : (last : ℕ) (ss : List Scope) (i : ℕ) (s : Scope) → slice_get ss i ≡ Some s → i ≤ last → is_some s.condition ≡ true → no_condition_to last (drop i ss) i ≡ false
condition_found last ss i s e h f = condition_here last ss i s e h ∙ ap (λ b. b && no_condition_to last (drop (i + 1) ss) (i + 1)) (none_of s.condition f)
  where
    none_of : (o : Option Condition) → is_some o ≡ true → is_none o ≡ false
    none_of None f = cc
    none_of (Some c) f = refl

pub condition_missed : (last : ℕ) (ss : List Scope) (i : ℕ) (s : Scope) → slice_get ss i ≡ Some s → i ≤ last → is_some s.condition ≡ false →
    no_condition_to last (drop (i + 1) ss) (i + 1) ≡ no_condition_to last (drop i ss) i
condition_missed last ss i s e h f = sym (condition_here last ss i s e h ∙ ap (λ b. b && no_condition_to last (drop (i + 1) ss) (i + 1)) (none_of s.condition f))
  where
    none_of : (o : Option Condition) → is_some o ≡ false → is_none o ≡ true
    none_of None f = refl
    none_of (Some c) f = cc

pub tracked_here : (g : Game) (i : ℕ) (d : List Condition) (s : Scope) → slice_get g.scopes i ≡ Some s →
    tracked_variable g (drop i g.scopes) i d ≡ of_kind s.kind (tracked_first g (drop (i + 1) g.scopes) (i + 1) d) None
tracked_here g i d s e =
    ap (λ ks. tracked_variable g ks i d) (drop_at i g.scopes s e)
    ∙ ap (λ n. of_kind s.kind (tracked_first g (drop n g.scopes) n d) None) (sym (add-one i))

-- the list after a scope is that of the next
list_there : (g : Game) (i : ℕ) (s : Scope) → slice_get g.scopes i ≡ Some s → list_after g (drop i g.scopes) (demands g i) ≡ demands g (i + 1)
list_there g i s e = ap (λ ks. list_after g ks (demands g i)) (drop_at i g.scopes s e) ∙ sym (demands_step g i s e)

pub tracked_is : (g : Game) (i : ℕ) (d : List Condition) → i < length g.scopes → d ≡ demands g (i + 1) → tracked_variable g (drop i g.scopes) i d ≡ tracked_at g i
tracked_is g i d h e = let at = item_there g.scopes i h in ap (tracked_variable g (drop i g.scopes) i) (e ∙ sym (list_there g i at.0 at.1))

-- a table with one scope more
pub told_more : (g : Game) (xs ys : List (Option Wish)) (w : Option Wish) (n : ℕ) → ys ≡ xs ++ w ∷ [] → length xs ≡ n → told w ≡ tracked_at g n → ((k : ℕ) → k < n → told_in (slice_get xs k) ≡ tracked_at g k) →
    (length ys ≡ n + 1) × ((k : ℕ) → k < n + 1 → told_in (slice_get ys k) ≡ tracked_at g k)
told_more g xs ys w n e l h each = (ap length e ∙ (length-append xs (w ∷ []) ∙ ap (λ m. m + 1) l), λ k q. ap (λ zs. told_in (slice_get zs k)) e ∙ at k (near k q))
  where
    near : (k : ℕ) → k < n + 1 → (k < n) ⊎ (k ≡ n)
    near k q = grind arith

    early : {X : Type 0} (xs : List X) (x : X) (k : ℕ) → k < length xs → slice_get (xs ++ x ∷ []) k ≡ slice_get xs k
    early [] x k q = absurd (omega arith)
    early (y ∷ xs) x zero q = refl
    early (y ∷ xs) x (suc k) q = early xs x k (omega arith)

    last : {X : Type 0} (xs : List X) (x : X) → slice_get (xs ++ x ∷ []) (length xs) ≡ Some x
    last [] x = refl
    last (y ∷ xs) x = last xs x

    at : (k : ℕ) → (k < n) ⊎ (k ≡ n) → told_in (slice_get (xs ++ w ∷ []) k) ≡ tracked_at g k
    at k (inl q) = ap told_in (early xs w k (omega (arith, q, l))) ∙ each k q
    at k (inr q) =
        ap (λ j. told_in (slice_get (xs ++ w ∷ []) j)) (q ∙ sym l)
        ∙ (ap told_in (last xs w) ∙ (h ∙ ap (tracked_at g) (sym q)))

-- ---- the lists of scopes in a row, and the last scope
pub list_next : (g : Game) (i : ℕ) → i < length g.scopes → list_after g (drop i g.scopes) (demands g i) ≡ demands g (suc i)
list_next g i h = let at = item_there g.scopes i h in list_there g i at.0 at.1 ∙ ap (demands g) (add-one i)

pub scopes_next : (g : Game) (i : ℕ) → i < length g.scopes → next_scopes (drop i g.scopes) ≡ drop (suc i) g.scopes
scopes_next g i h = let at = item_there g.scopes i h in ap next_scopes (drop_at i g.scopes at.0 at.1)

pub not_last : (ss : List Scope) (i : ℕ) → i < length ss → ((i + 1 ≡ length ss) → ⊥) → last_condition (drop i ss) ≡ None
not_last [] i h n = absurd (omega arith)
not_last (s ∷ []) zero h n = absurd (n (omega arith))
not_last (s ∷ t ∷ ss) zero h n = refl
not_last (s ∷ ss) (suc i) h n = not_last ss i (omega arith) (λ e. n (omega (arith, e)))

pub is_last : (ss : List Scope) (i : ℕ) (s : Scope) → slice_get ss i ≡ Some s → i + 1 ≡ length ss → last_condition (drop i ss) ≡ of_kind s.kind (condition_variable s.condition) None
is_last [] i s e l = cc
is_last (r ∷ []) zero s e l = let q : r ≡ s = cc in ap (λ (z : Scope). of_kind z.kind (condition_variable z.condition) None) q
is_last (r ∷ t ∷ ss) zero s e l = absurd (omega arith)
is_last (r ∷ ss) (suc i) s e l = is_last ss i s e (omega arith)
