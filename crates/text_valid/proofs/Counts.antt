-- How many scopes, variables, aggregates and constraints a text makes.
use Rattle.std.proofs.Common.{◌≡◌, ◌+◌, ◌≤◌, ◌<◌, ℕ, suc, List, [], ◌∷◌, length, filter_map, Option, Some, None, arith, ltb-true}
use Rattle.std.specs.Prelude.{nat_lt}
use Rattle.std.specs.List.{cons_option}
use Rattle.text_grammar.specs.declared.tree.Item.{Item}
use Rattle.text_grammar.specs.declared.tree.Item.TheVariants.{Exists as ExistsItem, Forall as ForallItem, Goal as GoalItem, Variable, Aggregate as AggregateItem, Constraint as ConstraintItem}
use Rattle.text_resolve.specs.Owned.{Owned, owned_from, word_bytes}
use Rattle.text_resolve.specs.Names.{Declared}
use Rattle.text_resolve.specs.Fits.{predicate_of}
use Rattle.text_resolve.specs.Excess.{past, long_domain, long_call, first_excess}
use Rattle.text_resolve.specs.Draft.{scope_of, variable_of, aggregate_of, rule_of, constraint_of}
use Rattle.text_valid.proofs.Each.{passed}
use Rattle.text_valid.proofs.Faults.{neither_place}

-- an item that has its place is one that may be there
not_past : (most n at : ℕ) → past most n at ≡ None → n < most
not_past most n at h = ltb-true n most (passed (nat_lt n most) at h)

at_most_one : {X : Type 0} (o : Option X) (xs : List X) → length (cons_option o xs) ≤ suc (length xs)
at_most_one None xs = omega arith
at_most_one (Some x) xs = omega arith

module _ (text : List ℕ) (ds : List Declared) where
  abbrev scopes_in : List Owned → ℕ
  scopes_in os = length (filter_map (scope_of text ds) os)

  abbrev variables_in : List Owned → ℕ
  variables_in os = length (filter_map (variable_of text) os)

  abbrev aggregates_in : List Owned → ℕ
  aggregates_in os = length (filter_map (aggregate_of text ds) os)

  abbrev constraints_in : List Owned → ℕ
  constraints_in os = length (filter_map (constraint_of text ds) os)

  -- with those before them, the items make no more scopes, variables, aggregates and constraints than a problem may have
  pub few_from : (items : List Item) (s v q c n owner : ℕ) → first_excess text s v q c items ≡ None → s ≤ 64 → v ≤ 500 → q ≤ 255 → c ≤ 20000 →
      (s + scopes_in (owned_from n owner items) ≤ 64) × (v + variables_in (owned_from n owner items) ≤ 500) × (q + aggregates_in (owned_from n owner items) ≤ 255) × (c + constraints_in (owned_from n owner items) ≤ 20000)
  few_from [] s v q c n owner h a b e d = (omega arith, omega arith, omega arith, omega arith)
  few_from (ExistsItem at condition ∷ is) s v q c n owner h a b e d =
      let t = neither_place (past 64 s at) (first_excess text (suc s) v q c is) h in
      let lt = not_past 64 s at t.0 in
      let r = few_from is (suc s) v q c (suc n) n t.1 (omega arith) b e d in
      let few = r.0 in
      (omega arith, r.1, r.2, r.3)
  few_from (ForallItem at ∷ is) s v q c n owner h a b e d =
      let t = neither_place (past 64 s at) (first_excess text (suc s) v q c is) h in
      let lt = not_past 64 s at t.0 in
      let r = few_from is (suc s) v q c (suc n) n t.1 (omega arith) b e d in
      let few = r.0 in
      (omega arith, r.1, r.2, r.3)
  few_from (GoalItem ∷ is) s v q c n owner h a b e d = few_from is s v q c n n h a b e d
  few_from (Variable at domain name ∷ is) s v q c n owner h a b e d =
      let t = neither_place (past 500 v at) _ h in
      let lt = not_past 500 v at t.0 in
      let u = neither_place (long_domain domain) (first_excess text s (suc v) q c is) t.1 in
      let r = few_from is s (suc v) q c n owner u.1 a (omega arith) e d in
      let few = r.1 in
      (r.0, omega arith, r.2, r.3)
  few_from (AggregateItem at name fold target ∷ is) s v q c n owner h a b e d =
      let t = neither_place (past 255 q at) (first_excess text s v (suc q) c is) h in
      let lt = not_past 255 q at t.0 in
      let r = few_from is s v (suc q) c n owner t.1 a b (omega arith) d in
      let few = r.2 in
      (r.0, r.1, omega arith, r.3)
  few_from (ConstraintItem at name args ∷ is) s v q c n owner h a b e d =
      let t = neither_place (past 20000 c at) _ h in
      let lt = not_past 20000 c at t.0 in
      let u = neither_place (long_call (predicate_of (word_bytes text name)) args) (first_excess text s v q (suc c) is) t.1 in
      let r = few_from is s v q (suc c) n owner u.1 a b e (omega arith) in
      let few = r.3 in
      let one = at_most_one (rule_of text ds owner (predicate_of (word_bytes text name)) args) (filter_map (constraint_of text ds) (owned_from n owner is)) in
      (r.0, r.1, r.2, omega (arith, one, few))
