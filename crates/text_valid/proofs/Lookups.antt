-- What a look-up of a name finds: a variable or an aggregate of the problem, at its number.
use Rattle.std.proofs.Common.{◌≡◌, subst, refl, ◌+◌, ℕ, zero, suc, Bool, true, false, cond, List, [], ◌∷◌, filter_map, find, Some, slice_get, arith}
use Rattle.std.specs.Option.{option_map}
use Rattle.std.specs.Str.{bytes_eq}
use Rattle.std.proofs.lemmas.Option.{same_Some}
use Rattle.qc_model.specs.declared.problem.Domain.{Domain}
use Rattle.qc_model.specs.declared.problem.Domain.TheVariants.{Range as RangeDomain, Listed as ListedDomain}
use Rattle.qc_model.specs.declared.problem.Variable.{Variable as ModelVariable}
use Rattle.qc_model.specs.declared.problem.Aggregate.{Aggregate as ModelAggregate}
use Rattle.qc_model.specs.Domains.{least_value, greatest_value}
use Rattle.qc_model.specs.Valid.{has_gap, is_bits, is_integer_domain}
use Rattle.text_grammar.specs.declared.tree.Members.{Members}
use Rattle.text_grammar.specs.declared.tree.Members.TheVariants.{Range, Braces}
use Rattle.text_grammar.specs.declared.tree.DomainText.{DomainText}
use Rattle.text_grammar.specs.declared.tree.DomainText.TheVariants.{Bits as BitsDomain, Members as MembersDomain}
use Rattle.text_grammar.specs.declared.tree.Item.{Item}
use Rattle.text_grammar.specs.declared.tree.Item.TheVariants.{Exists as ExistsItem, Forall as ForallItem, Goal as GoalItem, Variable, Aggregate as AggregateItem, Constraint as ConstraintItem}
use Rattle.text_resolve.specs.declared.names.Named.{Named}
use Rattle.text_resolve.specs.declared.names.Named.TheVariants.{Integer, Boolean, Aggregate}
use Rattle.text_resolve.specs.declared.names.Meant.{Meant}
use Rattle.text_resolve.specs.Owned.{Owned, owned_from, owned, word_bytes}
use Rattle.text_resolve.specs.Names.{Declared, variable_named, declared_as, declared_from, declared, look_up}
use Rattle.text_resolve.specs.Numbers.{number_values}
use Rattle.text_resolve.specs.Draft.{ascending, domain_of, variable_of, aggregate_of, fold_of, target_of}

-- the variable of number k, where the list begins with number base: one of this scope, whose domain passes
record VariableAt (vs : List ModelVariable) (base k scope : ℕ) (p : Domain → Bool) : Type 0 where
  place : ℕ
  number : k ≡ base + place
  variable : ModelVariable
  found : slice_get vs place ≡ Some variable
  of_scope : variable.scope.0 ≡ scope
  of_sort : p variable.domain ≡ true

-- the aggregate of number q, where the list begins with number base: one of this scope
record AggregateAt (ags : List ModelAggregate) (base q scope : ℕ) : Type 0 where
  place : ℕ
  number : q ≡ base + place
  aggregate : ModelAggregate
  found : slice_get ags place ≡ Some aggregate
  of_scope : aggregate.scope.0 ≡ scope

-- what a name stands for is there
abbrev IsThere : List ModelVariable → List ModelAggregate → ℕ → ℕ → Named → ℕ → Type 0
IsThere vs ags xs qs (Integer k) scope = VariableAt vs xs k scope is_integer_domain
IsThere vs ags xs qs (Boolean k) scope = VariableAt vs xs k scope is_bits
IsThere vs ags xs qs (Aggregate q) scope = AggregateAt ags qs q scope

later_variable : (x : ModelVariable) (vs : List ModelVariable) (base k scope : ℕ) (p : Domain → Bool) → VariableAt vs (suc base) k scope p → VariableAt (x ∷ vs) base k scope p
later_variable x vs base k scope p v =
    let n = v.number in
    record { place = suc v.place; number = omega (arith, n); variable = v.variable; found = v.found; of_scope = v.of_scope; of_sort = v.of_sort }

later_aggregate : (a : ModelAggregate) (ags : List ModelAggregate) (base q scope : ℕ) → AggregateAt ags (suc base) q scope → AggregateAt (a ∷ ags) base q scope
later_aggregate a ags base q scope v =
    let n = v.number in
    record { place = suc v.place; number = omega (arith, n); aggregate = v.aggregate; found = v.found; of_scope = v.of_scope }

-- one variable more before the others
after_variable : (x : ModelVariable) (vs : List ModelVariable) (ags : List ModelAggregate) (xs qs : ℕ) (named : Named) (scope : ℕ) → IsThere vs ags (suc xs) qs named scope → IsThere (x ∷ vs) ags xs qs named scope
after_variable x vs ags xs qs (Integer k) scope h = later_variable x vs xs k scope is_integer_domain h
after_variable x vs ags xs qs (Boolean k) scope h = later_variable x vs xs k scope is_bits h
after_variable x vs ags xs qs (Aggregate q) scope h = h

-- one aggregate more before the others
after_aggregate : (a : ModelAggregate) (vs : List ModelVariable) (ags : List ModelAggregate) (xs qs : ℕ) (named : Named) (scope : ℕ) → IsThere vs ags xs (suc qs) named scope → IsThere vs (a ∷ ags) xs qs named scope
after_aggregate a vs ags xs qs (Integer k) scope h = h
after_aggregate a vs ags xs qs (Boolean k) scope h = h
after_aggregate a vs ags xs qs (Aggregate q) scope h = later_aggregate a ags qs q scope h

-- a domain of numbers is no Boolean one
no_bits : (m : Members) → is_integer_domain (domain_of (MembersDomain m)) ≡ true
no_bits (Range low high) = refl
no_bits (Braces at ns) = go (has_gap (ascending (number_values ns)))
  where
    go : (b : Bool) → is_integer_domain (cond b (ListedDomain (ascending (number_values ns))) (RangeDomain (least_value (ascending (number_values ns))) (greatest_value (ascending (number_values ns))))) ≡ true
    go true = refl
    go false = refl

here_zero : (k : ℕ) → k ≡ k + 0
here_zero k = omega arith

-- the variable that is declared first
this_variable : (d : DomainText) (name : List ℕ) (owner : ℕ) (vs : List ModelVariable) (ags : List ModelAggregate) (xs qs : ℕ) →
    IsThere (record { name = name; scope = record { 0 = owner }; domain = domain_of d } ∷ vs) ags xs qs (variable_named d xs) owner
this_variable (BitsDomain at) name owner vs ags xs qs = record { place = zero; number = here_zero xs; variable = _; found = refl; of_scope = refl; of_sort = refl }
this_variable (MembersDomain m) name owner vs ags xs qs = record { place = zero; number = here_zero xs; variable = _; found = refl; of_scope = refl; of_sort = no_bits m }

module _ (text name : List ℕ) (all : List Declared) where
  abbrev IsThereIn : List Owned → ℕ → ℕ → Meant → Type 0
  IsThereIn os xs qs m = IsThere (filter_map (variable_of text) os) (filter_map (aggregate_of text all) os) xs qs m.named m.scope

  -- the first of a name, or a later one
  split : (b : Bool) (d : Declared) (ds : List Declared) (m : Meant) (R : Meant → Type 0) → option_map (λ (e : Declared). e.meant) (cond b (Some d) (find (λ (e : Declared). bytes_eq e.name name) ds)) ≡ Some m →
      R d.meant → (look_up ds name ≡ Some m → R m) → R m
  split true d ds m R h here later = subst R (same_Some d.meant m h) here
  split false d ds m R h here later = later h

  -- a look-up among these declarations
  found_from : (items : List Item) (xs qs n owner : ℕ) (m : Meant) → look_up (declared_from text xs qs (owned_from n owner items)) name ≡ Some m → IsThereIn (owned_from n owner items) xs qs m
  found_from [] xs qs n owner m h = absurd cc
  found_from (ExistsItem at condition ∷ is) xs qs n owner m h = found_from is xs qs (suc n) n m h
  found_from (ForallItem at ∷ is) xs qs n owner m h = found_from is xs qs (suc n) n m h
  found_from (GoalItem ∷ is) xs qs n owner m h = found_from is xs qs n n m h
  found_from (Variable at domain w ∷ is) xs qs n owner m h =
      let vs = filter_map (variable_of text) (owned_from n owner is) in
      let ags = filter_map (aggregate_of text all) (owned_from n owner is) in
      let x : ModelVariable = record { name = word_bytes text w; scope = record { 0 = owner }; domain = domain_of domain } in
      split (bytes_eq (word_bytes text w) name) (declared_as text w (variable_named domain xs) owner) (declared_from text (suc xs) qs (owned_from n owner is)) m
      (λ u. IsThere (x ∷ vs) ags xs qs u.named u.scope) h (this_variable domain (word_bytes text w) owner vs ags xs qs)
      (λ e. after_variable x vs ags xs qs m.named m.scope (found_from is (suc xs) qs n owner m e))
  found_from (AggregateItem at w fold target ∷ is) xs qs n owner m h =
      let vs = filter_map (variable_of text) (owned_from n owner is) in
      let ags = filter_map (aggregate_of text all) (owned_from n owner is) in
      let a : ModelAggregate = record { name = word_bytes text w; scope = record { 0 = owner }; fold = fold_of fold; target = target_of text all target } in
      split (bytes_eq (word_bytes text w) name) (declared_as text w (Aggregate qs) owner) (declared_from text xs (suc qs) (owned_from n owner is)) m
      (λ u. IsThere vs (a ∷ ags) xs qs u.named u.scope) h (record { place = zero; number = here_zero qs; aggregate = a; found = refl; of_scope = refl })
      (λ e. after_aggregate a vs ags xs qs m.named m.scope (found_from is xs (suc qs) n owner m e))
  found_from (ConstraintItem at w args ∷ is) xs qs n owner m h = found_from is xs qs n owner m h

-- the variable of number k: one of this scope, whose domain passes
pub record IsVariable (vs : List ModelVariable) (k scope : ℕ) (p : Domain → Bool) : Type 0 where
  pub variable : ModelVariable
  pub found : slice_get vs k ≡ Some variable
  pub of_scope : variable.scope.0 ≡ scope
  pub of_sort : p variable.domain ≡ true

-- the aggregate of number q: one of this scope
pub record IsAggregate (ags : List ModelAggregate) (q scope : ℕ) : Type 0 where
  pub aggregate : ModelAggregate
  pub found : slice_get ags q ≡ Some aggregate
  pub of_scope : aggregate.scope.0 ≡ scope

-- what a name stands for is in the problem
abbrev pub IsKnown : List ModelVariable → List ModelAggregate → Named → ℕ → Type 0
IsKnown vs ags (Integer k) scope = IsVariable vs k scope is_integer_domain
IsKnown vs ags (Boolean k) scope = IsVariable vs k scope is_bits
IsKnown vs ags (Aggregate q) scope = IsAggregate ags q scope

from_zero : (j k : ℕ) → k ≡ 0 + j → j ≡ k
from_zero j k e = omega arith

numbered : (vs : List ModelVariable) (k scope : ℕ) (p : Domain → Bool) → VariableAt vs 0 k scope p → IsVariable vs k scope p
numbered vs k scope p v =
    record { variable = v.variable; found = subst (λ j. slice_get vs j ≡ Some v.variable) (from_zero v.place k v.number) v.found; of_scope = v.of_scope; of_sort = v.of_sort }

there_known : (vs : List ModelVariable) (ags : List ModelAggregate) (named : Named) (scope : ℕ) → IsThere vs ags 0 0 named scope → IsKnown vs ags named scope
there_known vs ags (Integer k) scope h = numbered vs k scope is_integer_domain h
there_known vs ags (Boolean k) scope h = numbered vs k scope is_bits h
there_known vs ags (Aggregate q) scope h =
    record { aggregate = h.aggregate; found = subst (λ j. slice_get ags j ≡ Some h.aggregate) (from_zero h.place q h.number) h.found; of_scope = h.of_scope }

-- a name that is found is that of a variable or an aggregate of the problem, at its number
pub known : (text : List ℕ) (items : List Item) (name : List ℕ) (m : Meant) → look_up (declared text items) name ≡ Some m →
    IsKnown (filter_map (variable_of text) (owned items)) (filter_map (aggregate_of text (declared text items)) (owned items)) m.named m.scope
known text items name m h = there_known _ _ m.named m.scope (found_from text name (declared text items) items 0 0 0 0 m h)
