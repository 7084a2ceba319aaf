-- What is known of the parts of a valid problem, each in its scope.
use Rattle.std.proofs.Common.{◌≡◌, ◌∙◌, sym, ap, subst, refl, ◌==◌, ℕ, suc, true, false, ◌&&◌, List, [], ◌∷◌, ◌++◌, length, map, filter, drop, slice_get, is_none, Option, Some, None}
use Rattle.std.specs.Prelude.{⊤}
use Rattle.std.specs.List.{list_all, AllByRecursion}
use Rattle.std.proofs.lemmas.Bool.{and_parts}
use Rattle.qc_model.specs.declared.problem.Kind.{Kind}
use Rattle.qc_model.specs.declared.problem.Kind.TheVariants.{Exists, Forall}
use Rattle.qc_model.specs.declared.problem.Condition.{Condition}
use Rattle.qc_model.specs.declared.problem.Scope.{Scope}
use Rattle.qc_model.specs.declared.problem.Target.{Target}
use Rattle.qc_model.specs.declared.problem.Variable.{Variable}
use Rattle.qc_model.specs.declared.problem.Aggregate.{Aggregate}
use Rattle.qc_model.specs.Content.{Game, Rule}
use Rattle.qc_model.specs.Block.{of_kind}
use Rattle.qc_model.specs.Sees.{IsVisible, aggregates_in, ScopeSees, SeesRight}
use Rattle.qc_model.specs.Valid.{is_domain, is_constraint, is_condition, is_scope, is_universal, is_fold, is_target, is_aggregate_of, IsValid}
use Rattle.text_resolve.specs.Hidden.{universal_from, is_seen}
use Rattle.text_reread.specs.Parts.{Part, head, variable, aggregate, constraint, goal, parts_from, parts_of}
use Rattle.text_reread.proofs.Scoped.{each_true, each_kept, AreOrdered, ordered}
use Rattle.text_reread.proofs.EachElement.{each_both, each_map, first_left, next_left, left_map}
use Rattle.text_reread.proofs.Targets.{kinds, target_meant, IsGoodTarget, visible_good}

-- the scope of a part, and how many scopes have begun with it, where n had before it
abbrev pub part_owner : ℕ → ℕ → Part → ℕ
part_owner n owner (head s) = n
part_owner n owner (variable x) = owner
part_owner n owner (aggregate q) = owner
part_owner n owner (constraint c) = owner
part_owner n owner goal = n

abbrev pub heads_with : ℕ → Part → ℕ
heads_with n (head s) = suc n
heads_with n (variable x) = n
heads_with n (aggregate q) = n
heads_with n (constraint c) = n
heads_with n goal = n

abbrev pub IsGoodCondition : Game → ℕ → Option Condition → Type 0
IsGoodCondition g i None = ⊤
IsGoodCondition g i (Some c) = IsGoodTarget g i c.target

-- a part of scope i
abbrev pub IsGoodPart : Game → ℕ → Part → Type 0
IsGoodPart g i (head s) = IsGoodCondition g i s.condition
IsGoodPart g i (variable x) = (x.scope.0 ≡ i) × (is_domain x.domain ≡ true)
IsGoodPart g i (aggregate q) = (q.scope.0 ≡ i) × IsGoodTarget g i q.target
IsGoodPart g i (constraint c) = (c.owner.0 ≡ i) × (is_constraint g.variables c ≡ true)
IsGoodPart g i goal = ⊤

abbrev pub AreGood : Game → ℕ → ℕ → List Part → Type 0
AreGood g n owner [] = ⊤
AreGood g n owner (p ∷ ps) = IsGoodPart g (part_owner n owner p) p × AreGood g (heads_with n p) (part_owner n owner p) ps

-- a good part that begins neither a scope nor the goal
abbrev IsInside : Game → ℕ → Part → Type 0
IsInside g i (head s) = ⊥
IsInside g i (variable x) = IsGoodPart g i (variable x)
IsInside g i (aggregate q) = IsGoodPart g i (aggregate q)
IsInside g i (constraint c) = IsGoodPart g i (constraint c)
IsInside g i goal = ⊥

-- parts inside a scope are good where they stand before good parts, and where they end the text
good_inside : (g : Game) (n i : ℕ) (ps later : List Part) → AllByRecursion (IsInside g i) ps → AreGood g n i later → AreGood g n i (ps ++ later)
good_inside g n i [] later h k = k
good_inside g n i (head s ∷ ps) later h k = absurd h.0
good_inside g n i (variable x ∷ ps) later h k = (h.0, good_inside g n i ps later h.1 k)
good_inside g n i (aggregate q ∷ ps) later h k = (h.0, good_inside g n i ps later h.1 k)
good_inside g n i (constraint c ∷ ps) later h k = (h.0, good_inside g n i ps later h.1 k)
good_inside g n i (goal ∷ ps) later h k = absurd h.0

good_last : (g : Game) (n i : ℕ) (ps : List Part) → AllByRecursion (IsInside g i) ps → AreGood g n i ps
good_last g n i [] h = tt
good_last g n i (head s ∷ ps) h = absurd h.0
good_last g n i (variable x ∷ ps) h = (h.0, good_last g n i ps h.1)
good_last g n i (aggregate q ∷ ps) h = (h.0, good_last g n i ps h.1)
good_last g n i (constraint c ∷ ps) h = (h.0, good_last g n i ps h.1)
good_last g n i (goal ∷ ps) h = absurd h.0

module _ (g : Game) (v : IsValid g) where
  -- the variables are in order
  in_order : AreOrdered (λ (x : Variable). x.scope.0) (length g.scopes) 0 g.variables
  in_order = ordered (λ (x : Variable). x.scope.0) (length g.scopes) g.variables v.variable_order

  -- the constraints and the variables of scope i are good there
  constraints_at : (i : ℕ) → AllByRecursion (IsInside g i) (map constraint (filter (λ c. c.owner.0 == i) g.constraints))
  constraints_at i =
      each_map constraint (IsInside g i) (filter (λ (c : Rule). c.owner.0 == i) g.constraints)
      (each_kept (λ (c : Rule). c.owner.0) (λ c. is_constraint g.variables c ≡ true) i g.constraints (each_true (is_constraint g.variables) g.constraints v.constraints))

  variables_at : (i : ℕ) → AllByRecursion (IsInside g i) (map variable (filter (λ x. x.scope.0 == i) g.variables))
  variables_at i =
      each_map variable (IsInside g i) (filter (λ (x : Variable). x.scope.0 == i) g.variables)
      (each_kept (λ (x : Variable). x.scope.0) (λ x. is_domain x.domain ≡ true) i g.variables (each_true (λ x. is_domain x.domain) g.variables v.domains))

  module _ (s : Scope) (later : List Scope) (i : ℕ) (left : drop i g.scopes ≡ s ∷ later) (sees : ScopeSees s.kind g later (suc i) s.condition (aggregates_in g i)) where
    -- the kinds of the scopes that are left
    kinds_left : drop (suc i) (kinds g) ≡ map (λ z. z.kind) later
    kinds_left = left_map (λ (z : Scope). z.kind) (suc i) g.scopes ∙ ap (λ (l : List Scope). map (λ (z : Scope). z.kind) l) (next_left i g.scopes s later left)

    -- a target that is visible after scope i
    visible : (t : Target) → IsVisible g later (suc i) t → is_target g.variables t ≡ true → IsGoodTarget g i t
    visible t w h =
        let a = visible_good g (length g.scopes) in_order later (suc i) t w h in
        record { there = a.0; seen = subst (λ ks. is_seen (universal_from (suc i) ks) (target_meant g t) ≡ true) (sym kinds_left) a.1 }

    -- an aggregate of the scope stands in a universal one
    universal_here : (q : Aggregate) → (q.scope.0 ≡ i) × (is_aggregate_of g q ≡ true) → of_kind s.kind false true ≡ true
    universal_here q h =
        let a = and_parts (is_universal (slice_get g.scopes q.scope.0) && is_fold q.fold) (is_target g.variables q.target) h.1 in
        let b = and_parts (is_universal (slice_get g.scopes q.scope.0)) (is_fold q.fold) a.0 in
        let at : slice_get g.scopes q.scope.0 ≡ Some s = ap (slice_get g.scopes) h.0 ∙ first_left i g.scopes s later left in
        subst (λ o. is_universal o ≡ true) at b.0

    -- so the aggregates of the scope are good
    aggregates_good : (qs : List Aggregate) → AllByRecursion (λ q. (q.scope.0 ≡ i) × (is_aggregate_of g q ≡ true)) qs → ScopeSees s.kind g later (suc i) s.condition qs → AllByRecursion (λ q. IsGoodPart g i (aggregate q)) qs
    aggregates_good [] h w = tt
    aggregates_good (q ∷ qs) h w = go s.kind (universal_here q h.0) w (aggregates_good qs h.1)
      where
        there : is_target g.variables q.target ≡ true
        there = (and_parts (is_universal (slice_get g.scopes q.scope.0) && is_fold q.fold) (is_target g.variables q.target) h.0.1).1

        go : (k : Kind) → of_kind k false true ≡ true → ScopeSees k g later (suc i) s.condition (q ∷ qs) → (ScopeSees k g later (suc i) s.condition qs → AllByRecursion (λ z. IsGoodPart g i (aggregate z)) qs) → AllByRecursion (λ z. IsGoodPart g i (aggregate z)) (q ∷ qs)
        go Exists u w rest = absurd cc
        go Forall u w rest = ((h.0.0, visible q.target w.0 there), rest w.1)

    -- and so is the scope's condition
    condition_good : is_scope g.variables s ≡ true → IsGoodCondition g i s.condition
    condition_good h = go s.kind s.condition h sees
      where
        go : (k : Kind) (c : Option Condition) → of_kind k (is_condition g.variables c) (is_none c) ≡ true → ScopeSees k g later (suc i) c (aggregates_in g i) → IsGoodCondition g i c
        go Exists None h w = tt
        go Exists (Some c) h w = visible c.target w h
        go Forall None h w = tt
        go Forall (Some c) h w = absurd cc

    aggregates_at : AllByRecursion (IsInside g i) (map aggregate (filter (λ q. q.scope.0 == i) g.aggregates))
    aggregates_at =
        each_map aggregate (IsInside g i) (filter (λ (q : Aggregate). q.scope.0 == i) g.aggregates)
        (aggregates_good (filter (λ (q : Aggregate). q.scope.0 == i) g.aggregates)
        (each_kept (λ (q : Aggregate). q.scope.0) (λ q. is_aggregate_of g q ≡ true) i g.aggregates (each_true (is_aggregate_of g) g.aggregates v.aggregates)) sees)

  -- the parts from scope i on are good
  parts_good : (ss : List Scope) (i owner : ℕ) → drop i g.scopes ≡ ss → SeesRight g ss i → list_all (is_scope g.variables) ss ≡ true → AreGood g i owner (parts_from g ss i)
  parts_good [] i owner left sees h = (tt, good_last g i i _ (constraints_at i))
  parts_good (s ∷ later) i owner left sees h =
      let t = and_parts (is_scope g.variables s) (list_all (is_scope g.variables) later) h in (
        condition_good s later i left sees.0 t.0,
        good_inside g (suc i) i _ _
            (each_both (IsInside g i) _ _ (each_both (IsInside g i) _ _ (variables_at i) (aggregates_at s later i left sees.0)) (constraints_at i))
            (parts_good later (suc i) i (next_left i g.scopes s later left) sees.1 t.1),
      )

  -- the parts of a valid problem
  pub all_good : AreGood g 0 0 (parts_of g)
  all_good = parts_good g.scopes 0 0 refl v.sees v.scopes
