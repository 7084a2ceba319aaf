-- What the items of a text declare, where they say what the parts of a problem are.
use Rattle.std.proofs.Common.{◌≡◌, ◌∙◌, sym, ap, refl, ◌+◌, ◌++◌, ℕ, suc, Bool, true, false, List, [], ◌∷◌, length, map, filter_map, slice_get, Option, Some, None, arith}
use Rattle.std.specs.List.{cons_option}
use Rattle.std.proofs.lemmas.Bool.{false≢true}
use Rattle.qc_model.specs.declared.problem.Kind.{Kind}
use Rattle.qc_model.specs.declared.problem.Kind.TheVariants.{Exists, Forall}
use Rattle.qc_model.specs.declared.problem.Condition.{Condition}
use Rattle.qc_model.specs.declared.problem.Scope.{Scope}
use Rattle.qc_model.specs.declared.problem.Variable.{Variable as ModelVariable}
use Rattle.qc_model.specs.declared.problem.Aggregate.{Aggregate as ModelAggregate}
use Rattle.qc_model.specs.Content.{Game, Rule}
use Rattle.qc_model.specs.Names.{names_differ}
use Rattle.qc_model.specs.Valid.{IsValid}
use Rattle.text_grammar.specs.declared.tree.Item.{Item}
use Rattle.text_grammar.specs.declared.tree.Item.TheVariants.{Exists as ExistsItem, Forall as ForallItem, Goal as GoalItem, Variable, Aggregate as AggregateItem, Constraint}
use Rattle.text_resolve.specs.declared.names.Named.{Named}
use Rattle.text_resolve.specs.declared.names.Named.TheVariants.{Aggregate}
use Rattle.text_resolve.specs.Owned.{word_bytes, kind_of, kinds_of, heads_after, owner_of, owned_from}
use Rattle.text_resolve.specs.Names.{Declared, variable_named, declared_from, declared, look_up, first_repeated}
use Rattle.text_reread.specs.Parts.{Part, head, variable, aggregate, constraint, goal, parts_of}
use Rattle.text_reread.specs.Stands.{Along, StandsHead, Stands, AllStand}
use Rattle.text_reread.proofs.Scoped.{all_scopes, ordered}
use Rattle.text_reread.proofs.PartLists.{part_scope, part_variable, part_aggregate, part_constraint, scopes_of_parts, variables_of_parts, aggregates_of_parts, constraints_of_parts}
use Rattle.text_reread.proofs.Targets.{kinds, domain_named}
use Rattle.text_reread.proofs.Good.{part_owner, heads_with, AreGood, all_good}
use Rattle.text_reread.proofs.ReadDomains.{domain_facts}
use Rattle.text_reread.proofs.Entries.{Entry, entry_of, entries, look_entry, look_same, part_names, differ_mixed, variable_found, aggregate_found, none_repeated}

abbrev pub is_head : Item → Bool
is_head (ExistsItem at condition) = true
is_head (ForallItem at) = true
is_head GoalItem = false
is_head (Variable at domain name) = false
is_head (AggregateItem at name fold target) = false
is_head (Constraint at name args) = false

module _ (text : List ℕ) (g : Game) where
  -- what stands for the head of a scope is a head of its kind
  pub stands_head : (k : Kind) (c : Option Condition) (i : Item) → StandsHead text g k c i → is_head i ≡ true
  stands_head Exists c (ExistsItem at condition) h = refl
  stands_head Forall c (ForallItem at) h = refl
  stands_head k c i h = absurd h

  head_kind : (k : Kind) (c : Option Condition) (i : Item) → StandsHead text g k c i → kind_of i ≡ Some k
  head_kind Exists c (ExistsItem at condition) h = refl
  head_kind Forall c (ForallItem at) h = refl
  head_kind k c i h = absurd h

  -- an item stands in the scope of its part
  pub same_owner : (n owner : ℕ) (p : Part) (i : Item) → Stands text g p i → (owner_of n owner i ≡ part_owner n owner p) × (heads_after n i ≡ heads_with n p)
  same_owner n owner (head s) (ExistsItem at condition) h = (refl, refl)
  same_owner n owner (head s) (ForallItem at) h = (refl, refl)
  same_owner n owner (head s) i h = absurd (false≢true (stands_head s.kind s.condition i h))
  same_owner n owner (variable x) (Variable at domain name) h = (refl, refl)
  same_owner n owner (aggregate q) (AggregateItem at name fold target) h = (refl, refl)
  same_owner n owner (constraint c) (Constraint at name args) h = (refl, refl)
  same_owner n owner goal GoalItem h = (refl, refl)
  same_owner n owner p i h = absurd h

  -- the kinds of the scopes
  pub kinds_along : (ps : List Part) (is : List Item) → Along (Stands text g) ps is → kinds_of is ≡ map (λ s. s.kind) (filter_map part_scope ps)
  kinds_along [] [] h = refl
  kinds_along (head s ∷ ps) (i ∷ is) h = ap (λ o. cons_option o (kinds_of is)) (head_kind s.kind s.condition i h.0) ∙ ap (λ ks. s.kind ∷ ks) (kinds_along ps is h.1)
  kinds_along (variable x ∷ ps) (Variable at domain name ∷ is) h = kinds_along ps is h.1
  kinds_along (aggregate q ∷ ps) (AggregateItem at name fold target ∷ is) h = kinds_along ps is h.1
  kinds_along (constraint c ∷ ps) (Constraint at name args ∷ is) h = kinds_along ps is h.1
  kinds_along (goal ∷ ps) (GoalItem ∷ is) h = kinds_along ps is h.1
  kinds_along [] (i ∷ is) h = absurd h
  kinds_along (p ∷ ps) [] h = absurd h
  kinds_along (p ∷ ps) (i ∷ is) h = absurd h.0

  abbrev entry : List ℕ → Named → ℕ → Entry
  entry name named scope = record { name = name; meant = record { named = named; scope = scope } }

  same_entry : (a b : List ℕ) (m n : Named) (s t : ℕ) → a ≡ b → m ≡ n → s ≡ t → entry a m s ≡ entry b n t
  same_entry a b m n s t e f k = ap (λ z. entry z m s) e ∙ ap (λ z. entry b z s) f ∙ ap (λ z. entry b n z) k

  -- the names that the items declare are those of the parts
  pub declared_entries : (ps : List Part) (is : List Item) (n owner xs qs : ℕ) → Along (Stands text g) ps is → AreGood g n owner ps → map entry_of (declared_from text xs qs (owned_from n owner is)) ≡ entries xs qs ps
  declared_entries [] [] n owner xs qs h good = refl
  declared_entries (head s ∷ ps) (ExistsItem at condition ∷ is) n owner xs qs h good = declared_entries ps is (suc n) n xs qs h.1 good.1
  declared_entries (head s ∷ ps) (ForallItem at ∷ is) n owner xs qs h good = declared_entries ps is (suc n) n xs qs h.1 good.1
  declared_entries (head s ∷ ps) (i ∷ is) n owner xs qs h good = absurd (false≢true (stands_head s.kind s.condition i h.0))
  declared_entries (variable x ∷ ps) (Variable at domain name ∷ is) n owner xs qs h good =
      let d = domain_facts x.domain domain h.0.1 good.0.1 in
      ap (λ z. z ∷ map entry_of (declared_from text (suc xs) qs (owned_from n owner is))) (same_entry (word_bytes text name) x.name (variable_named domain xs) (domain_named x.domain xs) owner (x.scope.0) h.0.0 (d.named xs) (sym good.0.0))
      ∙ ap (λ zs. entry x.name (domain_named x.domain xs) x.scope.0 ∷ zs) (declared_entries ps is n owner (suc xs) qs h.1 good.1)
  declared_entries (aggregate q ∷ ps) (AggregateItem at name fold target ∷ is) n owner xs qs h good =
      ap (λ z. z ∷ map entry_of (declared_from text xs (suc qs) (owned_from n owner is))) (same_entry (word_bytes text name) q.name (Aggregate qs) (Aggregate qs) owner (q.scope.0) h.0.0 refl (sym good.0.0))
      ∙ ap (λ zs. entry q.name (Aggregate qs) q.scope.0 ∷ zs) (declared_entries ps is n owner xs (suc qs) h.1 good.1)
  declared_entries (constraint c ∷ ps) (Constraint at name args ∷ is) n owner xs qs h good = declared_entries ps is n owner xs qs h.1 good.1
  declared_entries (goal ∷ ps) (GoalItem ∷ is) n owner xs qs h good = declared_entries ps is n n xs qs h.1 good.1
  declared_entries [] (i ∷ is) n owner xs qs h good = absurd h
  declared_entries (p ∷ ps) [] n owner xs qs h good = absurd h
  declared_entries (p ∷ ps) (i ∷ is) n owner xs qs h good = absurd h.0

-- looking up a name gives the variable or the aggregate of that name
pub record Looks (g : Game) (ds : List Declared) : Type 0 where
  pub variables : (k : ℕ) (x : ModelVariable) → slice_get g.variables k ≡ Some x → look_up ds x.name ≡ Some (record { named = domain_named x.domain k; scope = x.scope.0 })
  pub aggregates : (k : ℕ) (q : ModelAggregate) → slice_get g.aggregates k ≡ Some q → look_up ds q.name ≡ Some (record { named = Aggregate k; scope = q.scope.0 })

module _ (g : Game) (v : IsValid g) where
  pub scopes_are : filter_map part_scope (parts_of g) ≡ g.scopes
  scopes_are = scopes_of_parts g g.scopes 0

  pub variables_are : filter_map part_variable (parts_of g) ≡ g.variables
  variables_are = variables_of_parts g g.scopes 0 ∙ all_scopes (λ (x : ModelVariable). x.scope.0) (length g.scopes) 0 0 (length g.scopes) g.variables (ordered (λ (x : ModelVariable). x.scope.0) (length g.scopes) g.variables v.variable_order) (omega arith) (omega arith)

  pub aggregates_are : filter_map part_aggregate (parts_of g) ≡ g.aggregates
  aggregates_are =
      aggregates_of_parts g g.scopes 0
      ∙ all_scopes (λ (q : ModelAggregate). q.scope.0) (length g.scopes) 0 0 (length g.scopes) g.aggregates (ordered (λ (q : ModelAggregate). q.scope.0) (length g.scopes) g.aggregates v.aggregate_order) (omega arith) (omega arith)

  pub constraints_are : filter_map part_constraint (parts_of g) ≡ g.constraints
  constraints_are = constraints_of_parts g g.scopes 0 ∙ all_scopes (λ (c : Rule). c.owner.0) (suc (length g.scopes)) 0 0 (length g.scopes + 1) g.constraints (ordered (λ (c : Rule). c.owner.0) (length g.scopes + 1) g.constraints v.constraint_order) (omega arith) (omega arith)

  names_apart : names_differ (part_names (parts_of g)) ≡ true
  names_apart =
      ap (λ vs. names_differ (map (λ (x : ModelVariable). x.name) vs ++ map (λ (q : ModelAggregate). q.name) (filter_map part_aggregate (parts_of g)))) variables_are
      ∙ ap (λ qs. names_differ (map (λ (x : ModelVariable). x.name) g.variables ++ map (λ (q : ModelAggregate). q.name) qs)) aggregates_are ∙ v.distinct_names

  module _ (text : List ℕ) (items : List Item) (h : AllStand text g (parts_of g) items) where
    declared_are : map entry_of (declared text items) ≡ entries 0 0 (parts_of g)
    declared_are = declared_entries text g (parts_of g) items 0 0 0 0 h (all_good g v)

    -- a look-up of a text's names finds the problem's variables and aggregates
    pub looks : Looks g (declared text items)
    looks = record {
      variables = λ k x e. look_same (declared text items) x.name ∙ ap (λ es. look_entry es x.name) declared_are ∙ variable_found (parts_of g) names_apart k x (ap (λ l. slice_get l k) variables_are ∙ e);
      aggregates = λ k q e. look_same (declared text items) q.name ∙ ap (λ es. look_entry es q.name) declared_are ∙ aggregate_found (parts_of g) names_apart k q (ap (λ l. slice_get l k) aggregates_are ∙ e);
    }

    -- no name is declared twice
    pub no_name_twice : first_repeated [] (declared text items) ≡ None
    no_name_twice = none_repeated (declared text items) (ap (λ es. names_differ (map (λ (e : Entry). e.name) es)) declared_are ∙ differ_mixed (parts_of g) 0 0 names_apart)

    -- the kinds of the scopes
    pub kinds_are : kinds_of items ≡ kinds g
    kinds_are = kinds_along text g (parts_of g) items h ∙ ap (λ ss. map (λ (s : Scope). s.kind) ss) scopes_are
