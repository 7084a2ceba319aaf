-- A text that meets no fault makes a valid problem, clause by clause.
use Rattle.std.proofs.lemmas.Bool.{and_from}
use Rattle.std.proofs.Common.{◌≡◌, ◌∙◌, sym, ap, refl, ◌+◌, ℕ, true, false, List, [], ◌∷◌, flat_map, length, map, Option, Some, None, arith}
use Rattle.std.specs.List.{list_all, AllByRecursion}
use Rattle.std.proofs.lemmas.List.{length-map}
use Rattle.std.proofs.lemmas.List.Folds.{list_all-append, list_all-map}
use Rattle.qc_model.specs.declared.problem.Kind.{Kind}
use Rattle.qc_model.specs.declared.problem.Pred.{Pred}
use Rattle.qc_model.specs.declared.problem.Variable.{Variable as ModelVariable}
use Rattle.qc_model.specs.declared.problem.Aggregate.{Aggregate as ModelAggregate}
use Rattle.std.specs.Option.{option_map}
use Rattle.qc_model.specs.declared.problem.Kind.TheVariants.{Forall}
use Rattle.qc_model.specs.Bottlenecks.{first_bottleneck}
use Rattle.qc_model.proofs.Bottlenecks.{all_last}
use Rattle.qc_model.specs.Names.{is_name}
use Rattle.qc_model.specs.Valid.{is_number, is_domain, is_scope, is_aggregate_of, is_constraint, declared_names, IsValid}
use Rattle.qc_tokens.specs.declared.token.Token.{Token}
use Rattle.text_grammar.specs.declared.tree.Item.{Item}
use Rattle.text_grammar.specs.declared.tree.Item.TheVariants.{Exists as ExistsItem, Forall as ForallItem, Goal as GoalItem, Variable, Aggregate as AggregateItem, Constraint as ConstraintItem}
use Rattle.text_grammar.specs.Lexemes.{lexemes_of}
use Rattle.text_resolve.specs.Owned.{owned_from, owned, kinds_of, word_bytes}
use Rattle.text_resolve.specs.Names.{Declared, declared, item_uses, is_unknown}
use Rattle.text_resolve.specs.Fits.{predicate_of, misfit}
use Rattle.text_resolve.specs.Numbers.{far_number, empty_domain}
use Rattle.text_resolve.specs.Hidden.{hidden_in}
use Rattle.text_resolve.specs.Bottlenecks.{aggregate_at}
use Rattle.text_resolve.specs.TextRefusals.{first_refusal}
use Rattle.text_resolve.specs.Draft.{scope_of, variable_of, aggregate_of, rule_of, constraint_of, game_of}
use Rattle.text_valid.specs.Laws.{IsWritten}
use Rattle.std.proofs.lemmas.Option.{slice_get_within}
use Rattle.text_valid.proofs.Each.{passes, all_made}
use Rattle.text_valid.proofs.Parts.{is_named, item_passes, written_items}
use Rattle.text_valid.proofs.Faults.{no_faults, each_placeless, each_flat, each_wordless, near_tokens, each_narrow, each_short, IsSound, each_sound}
use Rattle.text_valid.proofs.Placed.{IsPlaced, problem_placed, scope_kinds}
use Rattle.text_valid.proofs.Orders.{AreRising, owners_rise, MadeAt, made_in_order}
use Rattle.text_valid.proofs.Counts.{few_from}
use Rattle.text_valid.proofs.Differ.{all_differ}
use Rattle.text_valid.proofs.Domains.{item_domain, widths_from}
use Rattle.text_valid.proofs.Targets.{item_scope, item_aggregate}
use Rattle.text_valid.proofs.Constraints.{item_constraint}
use Rattle.text_valid.proofs.Sight.{sees_right}

module _ {X : Type 0} (P Q : X → Type 0) where
  -- what holds of each element, and what else does
  each_both : (xs : List X) → AllByRecursion P xs → AllByRecursion Q xs → AllByRecursion (λ x. P x × Q x) xs
  each_both [] h k = tt
  each_both (x ∷ xs) h k = ((h.0, k.0), each_both xs h.1 k.1)

-- a variable has its item's scope, below n
variable_made : (text : List ℕ) (kinds : List Kind) (n : ℕ) → n ≡ length kinds → (owner : ℕ) (i : Item) → IsPlaced kinds owner i →
    MadeAt (variable_of text) (λ x. x.scope.0) n owner (variable_of text (record { owner = owner; item = i }))
variable_made text kinds n e owner (ExistsItem at condition) p = tt
variable_made text kinds n e owner (ForallItem at) p = tt
variable_made text kinds n e owner GoalItem p = tt
variable_made text kinds n e owner (Variable at domain name) p = (refl, omega arith)
variable_made text kinds n e owner (AggregateItem at name fold target) p = tt
variable_made text kinds n e owner (ConstraintItem at name args) p = tt

-- an aggregate has its item's scope, below n
aggregate_made : (text : List ℕ) (ds : List Declared) (kinds : List Kind) (n : ℕ) → n ≡ length kinds → (owner : ℕ) (i : Item) → IsPlaced kinds owner i →
    MadeAt (aggregate_of text ds) (λ q. q.scope.0) n owner (aggregate_of text ds (record { owner = owner; item = i }))
aggregate_made text ds kinds n e owner (ExistsItem at condition) p = tt
aggregate_made text ds kinds n e owner (ForallItem at) p = tt
aggregate_made text ds kinds n e owner GoalItem p = tt
aggregate_made text ds kinds n e owner (Variable at domain name) p = tt
aggregate_made text ds kinds n e owner (AggregateItem at name fold target) p = (refl, let h = slice_get_within kinds owner Forall p in omega (arith, h))
aggregate_made text ds kinds n e owner (ConstraintItem at name args) p = tt

-- a constraint has its item's scope, or the goal
constraint_made : (text : List ℕ) (ds : List Declared) (kinds : List Kind) (n : ℕ) → n ≡ length kinds → (owner : ℕ) (i : Item) → IsPlaced kinds owner i →
    MadeAt (constraint_of text ds) (λ c. c.owner.0) (n + 1) owner (constraint_of text ds (record { owner = owner; item = i }))
constraint_made text ds kinds n e owner (ExistsItem at condition) p = tt
constraint_made text ds kinds n e owner (ForallItem at) p = tt
constraint_made text ds kinds n e owner GoalItem p = tt
constraint_made text ds kinds n e owner (Variable at domain name) p = tt
constraint_made text ds kinds n e owner (AggregateItem at name fold target) p = tt
constraint_made text ds kinds n e owner (ConstraintItem at name args) p = go (predicate_of (word_bytes text name))
  where
    go : (q : Option Pred) → MadeAt (constraint_of text ds) (λ c. c.owner.0) (n + 1) owner (rule_of text ds owner q args)
    go None = tt
    go (Some q) = (refl, omega arith)

-- the name of a variable, and of an aggregate, is one
variable_named : (text : List ℕ) (owner : ℕ) (i : Item) → is_named text i ≡ true → passes (λ x. is_name x.name) (variable_of text (record { owner = owner; item = i })) ≡ true
variable_named text owner (ExistsItem at condition) h = refl
variable_named text owner (ForallItem at) h = refl
variable_named text owner GoalItem h = refl
variable_named text owner (Variable at domain name) h = h
variable_named text owner (AggregateItem at name fold target) h = refl
variable_named text owner (ConstraintItem at name args) h = refl

aggregate_named : (text : List ℕ) (ds : List Declared) (owner : ℕ) (i : Item) → is_named text i ≡ true → passes (λ q. is_name q.name) (aggregate_of text ds (record { owner = owner; item = i })) ≡ true
aggregate_named text ds owner (ExistsItem at condition) h = refl
aggregate_named text ds owner (ForallItem at) h = refl
aggregate_named text ds owner GoalItem h = refl
aggregate_named text ds owner (Variable at domain name) h = refl
aggregate_named text ds owner (AggregateItem at name fold target) h = h
aggregate_named text ds owner (ConstraintItem at name args) h = refl

-- each item with its number has a name
named_owned : (text : List ℕ) (items : List Item) (n owner : ℕ) → AllByRecursion (λ i. (is_named text i ≡ true) × (item_passes is_number i ≡ true)) items →
    AllByRecursion (λ o. is_named text o.item ≡ true) (owned_from n owner items)
named_owned text [] n owner h = tt
named_owned text (i ∷ is) n owner h = (h.0.0, named_owned text is _ _ h.1)

none_placed : (f : ℕ → ℕ) (o : Option ℕ) → option_map f o ≡ None → o ≡ None
none_placed f None e = refl
none_placed f (Some n) e = cc

-- items that meet no refusal make a valid problem
pub valid : (text : List ℕ) (ts : List Token) (items : List Item) → IsWritten text ts items → first_refusal text ts items ≡ None → IsValid (game_of text items)
valid text ts items w none =
    let ds = declared text items in
    let os = owned items in
    let f = no_faults text ts items none in
    let parts = written_items is_number text ts items w (near_tokens text ts (each_placeless far_number ts f.numbers)) in
    let sound : AllByRecursion (λ o. IsSound text ds o.item) os =
    each_sound text ds items parts (each_flat (λ u. is_unknown text ds u ≡ false) item_uses items (each_wordless (is_unknown text ds) (flat_map item_uses items) f.known))
    (each_placeless (misfit text ds) items f.arguments) (each_placeless empty_domain items f.domains) (each_narrow 0 items f.widths) (each_short text 0 0 0 0 items f.counts) 0 0 in
    let placed : AllByRecursion (λ o. IsPlaced (kinds_of items) o.owner o.item) os = problem_placed items (lexemes_of text ts) w.problem in
    let seen : AllByRecursion (λ o. hidden_in text ds (kinds_of items) o ≡ None) os = each_placeless (hidden_in text ds (kinds_of items)) os f.sight in
    let rise : AreRising 0 os = owners_rise items 0 0 0 (omega arith) (omega arith) in
    let kinds = scope_kinds text ds items 0 0 in
    let few = few_from text ds items 0 0 0 0 0 0 f.counts (omega arith) (omega arith) (omega arith) (omega arith) in
    let few_scopes = few.0 in
    let few_variables = few.1 in
    let few_aggregates = few.2 in
    let few_constraints = few.3 in
    let as_many : length (game_of text items).scopes ≡ length (kinds_of items) = sym (length-map (game_of text items).scopes (λ s. s.kind)) ∙ ap length kinds in
    let order = made_in_order (variable_of text) (λ x. x.scope.0) (length (game_of text items).scopes) (λ o. IsPlaced (kinds_of items) o.owner o.item)
    (λ o p. variable_made text (kinds_of items) (length (game_of text items).scopes) as_many o.owner o.item p) os 0 rise placed in
    let named = named_owned text items 0 0 parts in
    record {
      few_scopes = omega (arith, few_scopes);
      few_variables = omega (arith, few_variables);
      few_aggregates = omega (arith, few_aggregates);
      few_constraints = omega (arith, few_constraints);
      variable_order = order;
      constraint_order = made_in_order (constraint_of text ds) (λ c. c.owner.0) (length (game_of text items).scopes + 1) (λ o. IsPlaced (kinds_of items) o.owner o.item)
          (λ o p. constraint_made text ds (kinds_of items) (length (game_of text items).scopes) as_many o.owner o.item p) os 0 rise placed;
      aggregate_order = made_in_order (aggregate_of text ds) (λ q. q.scope.0) (length (game_of text items).scopes) (λ o. IsPlaced (kinds_of items) o.owner o.item)
          (λ o p. aggregate_made text ds (kinds_of items) (length (game_of text items).scopes) as_many o.owner o.item p) os 0 rise placed;
      names = names_are named;
      distinct_names = all_differ text ds items f.names;
      domains = all_made (variable_of text) (λ x. is_domain x.domain) (λ o. IsSound text ds o.item) (item_domain text ds) os sound;
      widths = let wide = widths_from text items 0 0 0 f.widths (omega arith) in omega (arith, wide);
      scopes = all_made (scope_of text ds) (is_scope (game_of text items).variables) (λ o. IsSound text ds o.item) (item_scope text items) os sound;
      aggregates = all_made (aggregate_of text ds) (is_aggregate_of (game_of text items)) (λ o. IsSound text ds o.item × IsPlaced (kinds_of items) o.owner o.item)
          (λ o h. item_aggregate text items kinds o h.0 h.1) os
          (each_both (λ o. IsSound text ds o.item) (λ o. IsPlaced (kinds_of items) o.owner o.item) os sound placed);
      constraints = all_made (constraint_of text ds) (is_constraint (game_of text items).variables) (λ o. IsSound text ds o.item × (hidden_in text ds (kinds_of items) o ≡ None))
          (λ o h. item_constraint text items o h.0 h.1) os
          (each_both (λ o. IsSound text ds o.item) (λ o. hidden_in text ds (kinds_of items) o ≡ None) os sound seen);
      sees = sees_right text items order kinds sound seen;
      bottlenecks = all_last (game_of text items) (game_of text items).scopes [] (none_placed (aggregate_at items) (first_bottleneck (game_of text items) (game_of text items).scopes []) f.bottlenecks);
    }
  where
    names_are : AllByRecursion (λ o. is_named text o.item ≡ true) (owned items) → list_all is_name (declared_names (game_of text items)) ≡ true
    names_are named =
        list_all-append is_name (map (λ x. x.name) (game_of text items).variables) (map (λ q. q.name) (game_of text items).aggregates)
        ∙ and_from (list_all is_name (map (λ x. x.name) (game_of text items).variables)) (list_all is_name (map (λ q. q.name) (game_of text items).aggregates))
        (list_all-map is_name (λ (x : ModelVariable). x.name) (game_of text items).variables ∙ all_made (variable_of text) (λ x. is_name x.name) (λ o. is_named text o.item ≡ true) (λ o h. variable_named text o.owner o.item h) (owned items) named)
        (list_all-map is_name (λ (q : ModelAggregate). q.name) (game_of text items).aggregates ∙ all_made (aggregate_of text (declared text items)) (λ q. is_name q.name) (λ o. is_named text o.item ≡ true) (λ o h. aggregate_named text (declared text items) o.owner o.item h) (owned items) named)
