-- Lists of conditions that mention only what the conditions and the aggregates of the game mention.
use Rattle.std.proofs.Common.{◌≡◌, inl, inr, ℕ, zero, suc, ◌==◌, Bool, true, false, List, [], ◌∷◌, ◌++◌, map, drop, take, cond, refl, ap, ◌∙◌, arith, Option, Some, None}
use Rattle.std.specs.Prelude.{slice_get, ⊤}
use Rattle.std.specs.List.{list_any}
use Rattle.std.proofs.lemmas.Bool.Decides.{nat_tests}
use Rattle.std.proofs.lemmas.Bool.{or_left, or_right}
use Rattle.qc_model.specs.declared.problem.Kind.{Kind}
use Rattle.qc_model.specs.declared.problem.Kind.TheVariants.{Exists, Forall}
use Rattle.qc_model.specs.declared.problem.Target.{Target}
use Rattle.qc_model.specs.declared.problem.Target.TheVariants.{Var, Aggregate as Agg}
use Rattle.qc_model.specs.declared.problem.Condition.{Condition}
use Rattle.qc_model.specs.declared.problem.Aggregate.{Aggregate}
use Rattle.qc_model.specs.declared.problem.Scope.{Scope}
use Rattle.qc_model.specs.Content.{Game}
use Rattle.qc_model.specs.Lists.{Among}
use Rattle.qc_model.specs.Value.{inner_target}
use Rattle.qc_model.specs.Demands.{names, with_naming, first_namings, target_within, demand_within, demands_after, demands_from, demands}
use Rattle.qc_model.specs.Block.{of_kind, no_condition_to}
use Rattle.proof_tree.specs.Place.{Tracked, next_scopes, list_after, owner_of, tracked_target, tracked_first, tracked_variable}
use Rattle.proof_alike.specs.Alike.{constrains, is_variable, mentions, condition_mentions, is_named, is_seen, is_looked_at}
use Rattle.proof_alike.proofs.Filling.{any_of, get_among}

abbrev pub IsNamed : Game → Target → Type 0
IsNamed g t = (x : ℕ) → mentions g x t ≡ true → is_named g x ≡ true

abbrev pub AreNamed : Game → List Condition → Type 0
AreNamed g [] = ⊤
AreNamed g (c ∷ d) = IsNamed g c.target × AreNamed g d

abbrev pub HasNamed : Game → Option Condition → Type 0
HasNamed g None = ⊤
HasNamed g (Some c) = IsNamed g c.target

-- so of the condition of each of the scopes
abbrev pub ScopesNamed : Game → List Scope → Type 0
ScopesNamed g [] = ⊤
ScopesNamed g (s ∷ scopes) = HasNamed g s.condition × ScopesNamed g scopes

pub named_looks : (g : Game) (i x : ℕ) → is_named g x ≡ true → is_looked_at g i x ≡ true
named_looks g i x e = or_right _ (is_seen g i x) (or_right (list_any (constrains i x) g.constraints) (is_named g x) e)

-- what an entry asks of the branches
inner_named : (g : Game) (o : Option Aggregate) → ((q : Aggregate) → o ≡ Some q → IsNamed g q.target) → ((x : ℕ) → is_variable x (inner_target o) ≡ true → is_named g x ≡ true) →
    IsNamed g (inner_target o)
inner_named g None f h = h
inner_named g (Some q) f h = f q refl

aggregate_named : (g : Game) (q : Aggregate) → Among q g.aggregates → IsNamed g q.target
aggregate_named g q m = λ x e.
    or_right (list_any (λ s. condition_mentions g x s.condition) g.scopes) (list_any (λ q. mentions g x q.target) g.aggregates)
    (any_of (λ q. mentions g x q.target) g.aggregates q m e)

within_named : (g : Game) (t : Target) → IsNamed g t → IsNamed g (target_within g t)
within_named g (Var x) h = h
within_named g (Agg q) h =
    inner_named g (slice_get g.aggregates q.0) (λ p e. aggregate_named g p (get_among g.aggregates q.0 p e)) h

each_within : (g : Game) (d : List Condition) → AreNamed g d → AreNamed g (map (demand_within g) d)
each_within g [] h = tt
each_within g (c ∷ d) h = (within_named g c.target h.0, each_within g d h.1)

each_push : (g : Game) (p : List Condition) (c : Condition) → AreNamed g p → IsNamed g c.target → AreNamed g (p ++ c ∷ [])
each_push g [] c h k = (k, tt)
each_push g (b ∷ p) c h k = (h.0, each_push g p c h.1 k)

naming_named : (g : Game) (p : List Condition) (c : Condition) (t : Target) → AreNamed g p → IsNamed g c.target → AreNamed g (with_naming p c t)
naming_named g p c (Var x) h k = h
naming_named g p c (Agg q) h k = by (names q.0 p)
  where
    by : (b : Bool) → AreNamed g (cond b p (p ++ c ∷ []))
    by true = h
    by false = each_push g p c h k

firsts_named : (g : Game) (p d : List Condition) → AreNamed g p → AreNamed g d → AreNamed g (first_namings p d)
firsts_named g p [] h k = h
firsts_named g p (c ∷ d) h k = firsts_named g (with_naming p c c.target) d (naming_named g p c c.target h k.0) k.1

after_named : (g : Game) (k : Kind) (c : Option Condition) (d : List Condition) → HasNamed g c → AreNamed g d → AreNamed g (demands_after g k c d)
after_named g Exists None d h e = e
after_named g Exists (Some c) d h e = (h, e)
after_named g Forall c d h e = each_within g (first_namings [] d) (firsts_named g [] d tt e)

-- the list after the first of the scopes
pub list_named : (g : Game) (later : List Scope) (d : List Condition) → ScopesNamed g later → AreNamed g d → AreNamed g (list_after g later d)
list_named g [] d s h = tt
list_named g (s ∷ later) d n h = after_named g s.kind s.condition d n.0 h

pub next_named : (g : Game) (later : List Scope) → ScopesNamed g later → ScopesNamed g (next_scopes later)
next_named g [] s = tt
next_named g (s ∷ later) n = n.1

-- the scopes of the game, and the demanded lists
condition_named : (g : Game) (s : Scope) (c : Option Condition) → Among s g.scopes → s.condition ≡ c → HasNamed g c
condition_named g s None m e = tt
condition_named g s (Some c) m e = λ x h.
    or_left (list_any (λ s. condition_mentions g x s.condition) g.scopes) (list_any (λ q. mentions g x q.target) g.aggregates)
    (any_of (λ s. condition_mentions g x s.condition) g.scopes s m (ap (condition_mentions g x) e ∙ h))

among_named : (g : Game) (scopes : List Scope) → ((s : Scope) → Among s scopes → Among s g.scopes) → ScopesNamed g scopes
among_named g [] f = tt
among_named g (s ∷ scopes) f = (condition_named g s s.condition (f s (inl refl)) refl, among_named g scopes (λ r m. f r (inr m)))

scopes_drop : (g : Game) (i : ℕ) (scopes : List Scope) → ScopesNamed g scopes → ScopesNamed g (drop i scopes)
scopes_drop g zero scopes n = n
scopes_drop g (suc i) [] n = tt
scopes_drop g (suc i) (s ∷ scopes) n = scopes_drop g i scopes n.1

pub later_named : (g : Game) (i : ℕ) → ScopesNamed g (drop i g.scopes)
later_named g i = scopes_drop g i g.scopes (among_named g g.scopes (λ s m. m))

from_named : (g : Game) (n : ℕ) (scopes : List Scope) (d : List Condition) → ScopesNamed g scopes → AreNamed g d → AreNamed g (demands_from g (take n scopes) d)
from_named g zero scopes d n h = h
from_named g (suc n) [] d s h = h
from_named g (suc n) (s ∷ scopes) d k h = from_named g n scopes (demands_after g s.kind s.condition d) k.1 (after_named g s.kind s.condition d k.0 h)

pub demands_named : (g : Game) (i : ℕ) → AreNamed g (demands g i)
demands_named g i = from_named g i g.scopes [] (among_named g g.scopes (λ s m. m)) tt

-- the variable that a scope optimises first
abbrev pub TrackedNamed : Game → Option Tracked → Type 0
TrackedNamed g None = ⊤
TrackedNamed g (Some t) = is_named g t.variable ≡ true

target_tracked : (g : Game) (later : List Scope) (i : ℕ) (c : Condition) (t : Target) → IsNamed g t → TrackedNamed g (tracked_target g later i c.sense t)
target_tracked g later i c (Agg q) h = tt
target_tracked g later i c (Var x) h = by (no_condition_to (owner_of (slice_get g.variables x.0)) later i)
  where
    itself : (k : ℕ) → (k == k) ≡ true
    itself k = grind (arith, nat_tests)

    by : (b : Bool) → TrackedNamed g (cond b (Some (record { sense = c.sense; variable = x.0 })) None)
    by true = h x.0 (itself x.0)
    by false = tt

first_tracked : (g : Game) (later : List Scope) (i : ℕ) (d : List Condition) → AreNamed g d → TrackedNamed g (tracked_first g later i d)
first_tracked g later i [] h = tt
first_tracked g later i (c ∷ d) h = target_tracked g later i c c.target h.0

pub tracked_named : (g : Game) (later : List Scope) (i : ℕ) (d : List Condition) → AreNamed g d → TrackedNamed g (tracked_variable g later i d)
tracked_named g [] i d h = tt
tracked_named g (s ∷ later) i d h = by s.kind
  where
    by : (k : Kind) → TrackedNamed g (of_kind k (tracked_first g later (suc i) d) None)
    by Exists = first_tracked g later (suc i) d h
    by Forall = tt
