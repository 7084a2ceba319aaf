-- What the parts of a problem are, list by list.
use Rattle.std.proofs.Common.{◌≡◌, ◌∙◌, sym, ap, refl, ◌==◌, ℕ, suc, List, [], ◌∷◌, ◌++◌, length, map, filter, filter_map, Option, Some, None, append-nil}
use Rattle.std.proofs.lemmas.List.Elements.{filter_map-append}
use Rattle.qc_model.specs.declared.problem.Scope.{Scope}
use Rattle.qc_model.specs.declared.problem.Variable.{Variable}
use Rattle.qc_model.specs.declared.problem.Aggregate.{Aggregate}
use Rattle.qc_model.specs.Content.{Game, Rule}
use Rattle.text_reread.specs.Parts.{Part, head, variable, aggregate, constraint, goal, parts_from}
use Rattle.text_reread.proofs.Scoped.{by_scopes}

-- the scope, the variable, the aggregate or the constraint that a part is
abbrev pub part_scope : Part → Option Scope
part_scope (head s) = Some s
part_scope (variable x) = None
part_scope (aggregate q) = None
part_scope (constraint c) = None
part_scope goal = None

abbrev pub part_variable : Part → Option Variable
part_variable (head s) = None
part_variable (variable x) = Some x
part_variable (aggregate q) = None
part_variable (constraint c) = None
part_variable goal = None

abbrev pub part_aggregate : Part → Option Aggregate
part_aggregate (head s) = None
part_aggregate (variable x) = None
part_aggregate (aggregate q) = Some q
part_aggregate (constraint c) = None
part_aggregate goal = None

abbrev pub part_constraint : Part → Option Rule
part_constraint (head s) = None
part_constraint (variable x) = None
part_constraint (aggregate q) = None
part_constraint (constraint c) = Some c
part_constraint goal = None

module _ {X Y : Type 0} (h : X → Option Y) where
  -- what is made of parts of one sort is all of them, or none
  all_made : (c : Y → X) → ((y : Y) → h (c y) ≡ Some y) → (ys : List Y) → filter_map h (map c ys) ≡ ys
  all_made c e [] = refl
  all_made c e (y ∷ ys) = rw (e y) (ap (λ zs. y ∷ zs) (all_made c e ys))

  none_made : {Z : Type 0} (c : Z → X) → ((z : Z) → h (c z) ≡ None) → (zs : List Z) → filter_map h (map c zs) ≡ []
  none_made c e [] = refl
  none_made c e (z ∷ zs) = rw (e z) (none_made c e zs)

-- the parts of scope i after its head, with the parts that follow
module _ {Y : Type 0} (h : Part → Option Y) (vs : List Variable) (qs : List Aggregate) (cs : List Rule) (later : List Part) (x y z r : List Y) where
  body : filter_map h (map variable vs) ≡ x → filter_map h (map aggregate qs) ≡ y → filter_map h (map constraint cs) ≡ z → filter_map h later ≡ r →
      filter_map h (((map variable vs ++ map aggregate qs) ++ map constraint cs) ++ later) ≡ ((x ++ y) ++ z) ++ r
  body a b c d =
      let e = filter_map-append h ((map variable vs ++ map aggregate qs) ++ map constraint cs) later in
      let f = filter_map-append h (map variable vs ++ map aggregate qs) (map constraint cs) in
      let k = filter_map-append h (map variable vs) (map aggregate qs) in
      cc

module _ (g : Game) where
  abbrev variables_at : ℕ → List Variable
  variables_at i = filter (λ x. x.scope.0 == i) g.variables

  abbrev aggregates_at : ℕ → List Aggregate
  aggregates_at i = filter (λ q. q.scope.0 == i) g.aggregates

  abbrev constraints_at : ℕ → List Rule
  constraints_at i = filter (λ c. c.owner.0 == i) g.constraints

  -- the scopes of the parts
  pub scopes_of_parts : (ss : List Scope) (i : ℕ) → filter_map part_scope (parts_from g ss i) ≡ ss
  scopes_of_parts [] i = none_made part_scope constraint (λ c. refl) (constraints_at i)
  scopes_of_parts (s ∷ later) i =
      ap (λ zs. s ∷ zs)
      (body part_scope (variables_at i) (aggregates_at i) (constraints_at i) (parts_from g later (suc i)) [] [] [] later
      (none_made part_scope variable (λ c. refl) (variables_at i)) (none_made part_scope aggregate (λ c. refl) (aggregates_at i))
      (none_made part_scope constraint (λ c. refl) (constraints_at i)) (scopes_of_parts later (suc i)))

  -- their variables
  pub variables_of_parts : (ss : List Scope) (i : ℕ) → filter_map part_variable (parts_from g ss i) ≡ by_scopes (λ (x : Variable). x.scope.0) (length ss) i g.variables
  variables_of_parts [] i = none_made part_variable constraint (λ c. refl) (constraints_at i)
  variables_of_parts (s ∷ later) i =
      body part_variable (variables_at i) (aggregates_at i) (constraints_at i) (parts_from g later (suc i)) (variables_at i) [] [] (by_scopes (λ (x : Variable). x.scope.0) (length later) (suc i) g.variables)
      (all_made part_variable variable (λ c. refl) (variables_at i)) (none_made part_variable aggregate (λ c. refl) (aggregates_at i))
      (none_made part_variable constraint (λ c. refl) (constraints_at i)) (variables_of_parts later (suc i))
      ∙ ap (λ zs. zs ++ by_scopes (λ (x : Variable). x.scope.0) (length later) (suc i) g.variables) (append-nil (variables_at i ++ []) ∙ append-nil (variables_at i))

  -- their aggregates
  pub aggregates_of_parts : (ss : List Scope) (i : ℕ) → filter_map part_aggregate (parts_from g ss i) ≡ by_scopes (λ (q : Aggregate). q.scope.0) (length ss) i g.aggregates
  aggregates_of_parts [] i = none_made part_aggregate constraint (λ c. refl) (constraints_at i)
  aggregates_of_parts (s ∷ later) i =
      body part_aggregate (variables_at i) (aggregates_at i) (constraints_at i) (parts_from g later (suc i)) [] (aggregates_at i) [] (by_scopes (λ (q : Aggregate). q.scope.0) (length later) (suc i) g.aggregates)
      (none_made part_aggregate variable (λ c. refl) (variables_at i)) (all_made part_aggregate aggregate (λ c. refl) (aggregates_at i))
      (none_made part_aggregate constraint (λ c. refl) (constraints_at i)) (aggregates_of_parts later (suc i))
      ∙ ap (λ zs. zs ++ by_scopes (λ (q : Aggregate). q.scope.0) (length later) (suc i) g.aggregates) (append-nil (aggregates_at i))

  -- their constraints, the goal's as those of one scope more
  pub constraints_of_parts : (ss : List Scope) (i : ℕ) → filter_map part_constraint (parts_from g ss i) ≡ by_scopes (λ (c : Rule). c.owner.0) (suc (length ss)) i g.constraints
  constraints_of_parts [] i = all_made part_constraint constraint (λ c. refl) (constraints_at i) ∙ sym (append-nil (constraints_at i))
  constraints_of_parts (s ∷ later) i =
      body part_constraint (variables_at i) (aggregates_at i) (constraints_at i) (parts_from g later (suc i)) [] [] (constraints_at i) (by_scopes (λ (c : Rule). c.owner.0) (suc (length later)) (suc i) g.constraints)
      (none_made part_constraint variable (λ c. refl) (variables_at i)) (none_made part_constraint aggregate (λ c. refl) (aggregates_at i))
      (all_made part_constraint constraint (λ c. refl) (constraints_at i)) (constraints_of_parts later (suc i))
