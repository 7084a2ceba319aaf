-- The game with opposing scopes is valid where the old one is and the scopes aren't too many.
use Rattle.std.proofs.Common.{◌≡◌, refl, sym, ap, ◌∙◌, subst, ℕ, ◌+◌, ◌<◌, ◌≤◌, Bool, true, List, [], ◌∷◌, ◌++◌, map, length, arith}
use Rattle.std.specs.List.{list_all, sum_by}
use Rattle.std.proofs.lemmas.List.{length-map}
use Rattle.std.proofs.lemmas.List.Sums.{sum_by-cons}
use Rattle.qc_model.specs.declared.problem.Variable.{Variable}
use Rattle.qc_model.specs.declared.problem.Aggregate.{Aggregate}
use Rattle.qc_model.specs.Content.{Game, Rule}
use Rattle.qc_model.specs.Names.{is_name, names_differ}
use Rattle.qc_model.specs.Valid.{IsValid, is_domain, domain_width, is_in_order, declared_names, is_constraint, is_aggregate_of}
use Rattle.qc_pessimist.specs.Opposed.{with_opposing, moved, move_variable, move_aggregate, move_rule, opposed_game}
use Rattle.qc_pessimist.proofs.Numbers.{moved_up, moved_no_less}
use Rattle.qc_pessimist.proofs.Parts.{all_kept, constraint_kept, order_kept, moved_end, aggregate_kept, scopes_kept}
use Rattle.qc_pessimist.proofs.Sight.{sees_still}
use Rattle.qc_pessimist.proofs.Doubled.{bottlenecks_stay}

map_twice : {X Y Z : Type 0} (f : Y → Z) (h : X → Y) (k : X → Z) → ((x : X) → f (h x) ≡ k x) → (xs : List X) → map f (map h xs) ≡ map k xs
map_twice f h k e [] = refl
map_twice f h k e (x ∷ xs) = ap (λ y. y ∷ map f (map h xs)) (e x) ∙ ap (λ ys. k x ∷ ys) (map_twice f h k e xs)

same_width : (f : ℕ → ℕ) (xs : List Variable) → sum_by (λ (x : Variable). domain_width x.domain) (map (move_variable f) xs) ≡ sum_by (λ (x : Variable). domain_width x.domain) xs
same_width f [] = refl
same_width f (x ∷ xs) =
    sum_by-cons (λ (y : Variable). domain_width y.domain) (move_variable f x) (map (move_variable f) xs) ∙ ap (λ n. domain_width x.domain + n) (same_width f xs) ∙ sym (sum_by-cons (λ (y : Variable). domain_width y.domain) x xs)

module _ (q : ℕ → Bool) (g : Game) where
  below_end : (a : ℕ) → a < length g.scopes → moved q 0 g.scopes a < length (with_opposing q 0 g.scopes)
  below_end a h = subst (λ n. moved q 0 g.scopes a < n) (moved_end q 0 g.scopes) (moved_up q 0 g.scopes a (length g.scopes) h)

  up_to_end : (a : ℕ) → a < length g.scopes + 1 → moved q 0 g.scopes a < length (with_opposing q 0 g.scopes) + 1
  up_to_end a h =
      let le = moved_no_less q 0 g.scopes a (length g.scopes) (omega arith) in
      let last = moved_end q 0 g.scopes in
      omega (arith, le, last)

  same_names : declared_names (opposed_game q g) ≡ declared_names g
  same_names =
      ap (λ ns. ns ++ map (λ (x : Aggregate). x.name) (opposed_game q g).aggregates) (map_twice (λ (x : Variable). x.name) (move_variable (moved q 0 g.scopes)) (λ (x : Variable). x.name) (λ x. refl) g.variables)
      ∙ ap (λ ns. map (λ (x : Variable). x.name) g.variables ++ ns) (map_twice (λ (x : Aggregate). x.name) (move_aggregate (moved q 0 g.scopes)) (λ (x : Aggregate). x.name) (λ x. refl) g.aggregates)

  ordered : {X : Type 0} (owner : X → ℕ) (move : X → X) → ((x : X) → owner (move x) ≡ moved q 0 g.scopes (owner x)) → (m n : ℕ) → ((a : ℕ) → a < n → moved q 0 g.scopes a < m) → (xs : List X) →
      is_in_order n (map owner xs) ≡ true → is_in_order m (map owner (map move xs)) ≡ true
  ordered owner move e m n low xs h =
      ap (is_in_order m) (map_twice owner move (λ x. moved q 0 g.scopes (owner x)) e xs ∙ sym (map_twice (moved q 0 g.scopes) owner (λ x. moved q 0 g.scopes (owner x)) (λ x. refl) xs))
      ∙ order_kept (moved q 0 g.scopes) (moved_up q 0 g.scopes) m n low (map owner xs) h

  pub stays_valid : IsValid g → length (with_opposing q 0 g.scopes) ≤ 64 → IsValid (opposed_game q g)
  stays_valid v few = record {
    few_scopes = few;
    few_variables = rw length-map v.few_variables;
    few_aggregates = rw length-map v.few_aggregates;
    few_constraints = rw length-map v.few_constraints;
    variable_order = ordered (λ (x : Variable). x.scope.0) (move_variable (moved q 0 g.scopes)) (λ x. refl) (length (with_opposing q 0 g.scopes)) (length g.scopes) below_end g.variables v.variable_order;
    constraint_order = ordered (λ (c : Rule). c.owner.0) (move_rule (moved q 0 g.scopes)) (λ x. refl) (length (with_opposing q 0 g.scopes) + 1) (length g.scopes + 1) up_to_end g.constraints v.constraint_order;
    aggregate_order = ordered (λ (x : Aggregate). x.scope.0) (move_aggregate (moved q 0 g.scopes)) (λ x. refl) (length (with_opposing q 0 g.scopes)) (length g.scopes) below_end g.aggregates v.aggregate_order;
    names = ap (list_all is_name) same_names ∙ v.names;
    distinct_names = ap names_differ same_names ∙ v.distinct_names;
    domains = all_kept (λ (x : Variable). is_domain x.domain) (λ (x : Variable). is_domain x.domain) (move_variable (moved q 0 g.scopes)) (λ x. refl) g.variables ∙ v.domains;
    widths = subst (λ n. n ≤ 4194304) (sym (same_width (moved q 0 g.scopes) g.variables)) v.widths;
    scopes = scopes_kept (moved q 0 g.scopes) q g.variables 0 g.scopes v.scopes;
    aggregates = all_kept (is_aggregate_of (opposed_game q g)) (is_aggregate_of g) (move_aggregate (moved q 0 g.scopes)) (aggregate_kept q g) g.aggregates ∙ v.aggregates;
    constraints = all_kept (is_constraint (opposed_game q g).variables) (is_constraint g.variables) (move_rule (moved q 0 g.scopes)) (constraint_kept (moved q 0 g.scopes) (moved_up q 0 g.scopes) g.variables) g.constraints ∙ v.constraints;
    sees = sees_still q g v.sees;
    bottlenecks = bottlenecks_stay q g v.bottlenecks;
  }
