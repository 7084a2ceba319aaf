-- One join in the place of another.
use Rattle.std.proofs.Common.{◌≡◌, ℕ, zero, suc, ◌<◌, Option, Some, List, [], ◌∷◌, length, refl, sym, ap, ◌∙◌, subst, arith, get_or, set, ◌⊎◌, inl, inr}
use Rattle.std.specs.Prelude.{slice_get}
use Rattle.std.proofs.lemmas.Option.{slice_get_read}
use Rattle.std.proofs.lemmas.List.{length-set}
use Rattle.qc_model.specs.declared.problem.Scope.{Scope}
use Rattle.qc_model.specs.Content.{Game}
use Rattle.qc_model.specs.Verdict.{Seen}
use Rattle.joins.specs.declared.scope_join.ScopeJoin.{ScopeJoin}
use Rattle.joins.specs.ScopeJoins.{StandsFor, StandsIn, JoinsScope, KeepsScope, AreJoins}

get_here : (js : List ScopeJoin) (i : ℕ) (j : ScopeJoin) → i < length js → slice_get (set js i j) i ≡ Some j
get_here [] i j h = absurd (omega (arith, h))
get_here (x ∷ js) zero j h = refl
get_here (x ∷ js) (suc i) j h = get_here js i j (omega (arith, h))

get_other : (js : List ScopeJoin) (i : ℕ) (j : ScopeJoin) (k : ℕ) → (k ≡ i → ⊥) → slice_get (set js i j) k ≡ slice_get js k
get_other [] i j k h = refl
get_other (x ∷ js) zero j zero h = absurd (h refl)
get_other (x ∷ js) zero j (suc k) h = refl
get_other (x ∷ js) (suc i) j zero h = refl
get_other (x ∷ js) (suc i) j (suc k) h = get_other js i j k (λ e. h (ap suc e))

pub within : (g : Game) (js : List ScopeJoin) (i : ℕ) → AreJoins g js → i < length g.scopes → i < length js
within g js i a h = omega (arith, a.count, h)

get_read : (g : Game) (js : List ScopeJoin) (i : ℕ) (x : ScopeJoin) → AreJoins g js → i < length g.scopes → x ≡ get_or js i x → slice_get js i ≡ Some x
get_read g js i x a h e = slice_get_read js (length js) i x refl (within g js i a h) e

-- the join in its place
pub scope_read : (g : Game) (js : List ScopeJoin) (i : ℕ) (x : ScopeJoin) (s : Scope) → AreJoins g js → i < length g.scopes → x ≡ get_or js i x → slice_get g.scopes i ≡ Some s → JoinsScope g i s x
scope_read g js i x s a h e k = a.each i s x k (get_read g js i x a h e)

pub stands_read : (g : Game) (js : List ScopeJoin) (i : ℕ) (x : ScopeJoin) (xs : List Seen) → AreJoins g js → i < length g.scopes → x ≡ get_or js i x → StandsIn (slice_get js i) xs → StandsFor x xs
stands_read g js i x xs a h e t = subst (λ (o : Option ScopeJoin). StandsIn o xs) (get_read g js i x a h e) t

-- another in its place
pub stands_here : (g : Game) (js : List ScopeJoin) (i : ℕ) (j : ScopeJoin) (xs : List Seen) → AreJoins g js → i < length g.scopes → StandsFor j xs → StandsIn (slice_get (set js i j) i) xs
stands_here g js i j xs a h t = subst (λ (o : Option ScopeJoin). StandsIn o xs) (sym (get_here js i j (within g js i a h))) t

pub stands_other : (js : List ScopeJoin) (i : ℕ) (j : ScopeJoin) (k : ℕ) (xs : List Seen) → (k ≡ i → ⊥) → StandsIn (slice_get js k) xs → StandsIn (slice_get (set js i j) k) xs
stands_other js i j k xs h t = subst (λ (o : Option ScopeJoin). StandsIn o xs) (sym (get_other js i j k h)) t

this_or_other : (k i : ℕ) → (k ≡ i) ⊎ (k ≡ i → ⊥)
this_or_other zero zero = inl refl
this_or_other zero (suc i) = inr (λ e. cc)
this_or_other (suc k) zero = inr (λ e. cc)
this_or_other (suc k) (suc i) = elim (this_or_other k i) [
  | inl e ↦ inl (ap suc e)
  | inr h ↦ inr (λ e. h (omega (arith, e)))
]

pub placed : (g : Game) (js : List ScopeJoin) (i : ℕ) (x j : ScopeJoin) → AreJoins g js → i < length g.scopes → x ≡ get_or js i x → KeepsScope x j → AreJoins g (set js i j)
placed g js i x j a h e keeps = record {
  count = length-set js i j ∙ a.count;
  each = λ k s r p q. elim (this_or_other k i) [
    | inl t ↦ (
        let here : slice_get (set js i j) k ≡ Some j = ap (slice_get (set js i j)) t ∙ get_here js i j (within g js i a h) in
        let same : j ≡ r = cc in
        let old : JoinsScope g k s x = a.each k s x p (ap (slice_get js) t ∙ get_read g js i x a h e) in
        subst (λ (z : ScopeJoin). JoinsScope g k s z) same (keeps g k s old))
    | inr n ↦ a.each k s r p (sym (get_other js i j k n) ∙ q)
  ];
}
