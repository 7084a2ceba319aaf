-- The joins of the scopes, put one after another.
use Rattle.std.proofs.Common.{◌≡◌, ◌⊎◌, inl, inr, ℕ, zero, suc, ◌+◌, ◌<◌, ◌≤◌, List, [], ◌∷◌, ◌++◌, length, Some, refl, sym, ap, subst, ◌∙◌, arith}
use Rattle.std.specs.Prelude.{slice_get}
use Rattle.std.proofs.lemmas.List.{length-append}
use Rattle.qc_model.specs.declared.problem.Scope.{Scope}
use Rattle.qc_model.specs.Content.{Game}
use Rattle.joins.specs.declared.forall_join.ForallJoin.{ForallJoin}
use Rattle.joins.specs.declared.scope_join.ScopeJoin.{ScopeJoin}
use Rattle.joins.specs.ForallJoin.{StandsFor as ForallStandsFor, JoinsScope as JoinsForall}
use Rattle.joins.specs.ScopeJoins.{JoinsScope, AreJoins, IsAtGoal}

-- each join is that of its scope
abbrev pub AreSoFar : Game → List ScopeJoin → Type 0
AreSoFar g joins = (k : ℕ) (s : Scope) (j : ScopeJoin) → slice_get g.scopes k ≡ Some s → slice_get joins k ≡ Some j → JoinsScope g k s j

pub none_joined : (g : Game) (joins : List ScopeJoin) → joins ≡ [] → AreSoFar g joins
none_joined g joins e k s j p q =
    let none : slice_get {X = ScopeJoin} [] k ≡ Some j = sym (ap (λ js. slice_get js k) e) ∙ q in
    nothing k none
  where
    nothing : (k : ℕ) → slice_get {X = ScopeJoin} [] k ≡ Some j → JoinsScope g k s j
    nothing zero n = cc
    nothing (suc k) n = cc

-- an element of a list with one more at its end
read_more : {X : Type 0} (xs : List X) (y z : X) (k : ℕ) → slice_get (xs ++ y ∷ []) k ≡ Some z → (slice_get xs k ≡ Some z) ⊎ ((k ≡ length xs) × (y ≡ z))
read_more [] y z zero e = inr (refl, cc)
read_more [] y z (suc k) e = cc
read_more (x ∷ xs) y z zero e = inl e
read_more (x ∷ xs) y z (suc k) e = elim (read_more xs y z k e) [ inl p ↦ inl p | inr p ↦ inr (ap suc p.0, p.1) ]

-- one join more
pub joined_more : (g : Game) (old new : List ScopeJoin) (i : ℕ) (join : ScopeJoin) → length old ≡ i → new ≡ old ++ join ∷ [] → AreSoFar g old →
    ((s : Scope) → slice_get g.scopes i ≡ Some s → JoinsScope g i s join) → AreSoFar g new
joined_more g old new i join n e f h k s j p q = elim (read_more old join j k (sym (ap (λ js. slice_get js k) e) ∙ q)) [
  | inl r ↦ f k s j p r
  | inr r ↦
      let at : k ≡ i = r.0 ∙ n in
      subst (JoinsScope g k s) r.1 (subst (λ m. JoinsScope g m s join) (sym at) (h s (sym (ap (slice_get g.scopes) at) ∙ p)))
]

pub count_more : (old new : List ScopeJoin) (i : ℕ) (join : ScopeJoin) → length old ≡ i → new ≡ old ++ join ∷ [] → length new ≡ i + 1
count_more old new i join n e = omega (arith, ap length e, length-append old (join ∷ []))

-- all of them
pub all_joined : (g : Game) (joins : List ScopeJoin) (i count : ℕ) → length joins ≡ i → i ≤ count → count ≤ i → count ≡ length g.scopes → AreSoFar g joins → AreJoins g joins
all_joined g joins i count n l m e f = record { count = all (length joins) (length g.scopes) n l m e; each = f }
  where
    all : (a b : ℕ) → a ≡ i → i ≤ count → count ≤ i → count ≡ b → a ≡ b
    all a b n l m e = omega arith

pub at_goal : (g : Game) (count : ℕ) (join : ForallJoin) → count ≡ length g.scopes → JoinsForall g count join → ForallStandsFor join [] → IsAtGoal g join
at_goal g count join e s f = record { scope = subst (λ n. JoinsForall g n join) e s; stands = f }

-- scopes are few, so that the number of each fits
pub count_fits : (count n : ℕ) → count ≡ n → n ≤ 64 → count < 256
count_fits count n e h = omega arith

pub number_fits : (i count n : ℕ) → i < count → count ≡ n → n ≤ 64 → i < 256
number_fits i count n l e h = omega arith

pub up_to : (count n : ℕ) → count ≡ n → count ≤ n
up_to count n e = omega arith
