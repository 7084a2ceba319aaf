-- The scopes and aggregates of a text that meets no refusal, and what conditions and folds name.
use Rattle.std.proofs.Common.{◌≡◌, sym, subst, refl, ℕ, zero, suc, Bool, true, false, ◌&&◌, List, [], ◌∷◌, map, filter_map, Option, Some, None, slice_get, is_none}
use Rattle.std.proofs.lemmas.Bool.{and_from}
use Rattle.qc_model.specs.declared.problem.Kind.{Kind}
use Rattle.qc_model.specs.declared.problem.Kind.TheVariants.{Exists, Forall}
use Rattle.qc_model.specs.declared.problem.Domain.{Domain}
use Rattle.qc_model.specs.declared.problem.Scope.{Scope}
use Rattle.qc_model.specs.declared.problem.Variable.{Variable as ModelVariable}
use Rattle.qc_model.specs.declared.problem.Aggregate.{Aggregate as ModelAggregate}
use Rattle.qc_model.specs.Block.{of_kind}
use Rattle.qc_model.specs.Valid.{is_number, is_variable_with, is_integer_domain, is_target, is_condition, is_scope, is_universal, is_fold, is_aggregate_of}
use Rattle.text_grammar.specs.declared.tree.Word.{Word}
use Rattle.text_grammar.specs.declared.tree.ConditionText.{ConditionText}
use Rattle.text_grammar.specs.declared.tree.FoldText.{FoldText}
use Rattle.text_grammar.specs.declared.tree.FoldText.TheVariants.{Sum as SumFold, Least as LeastFold, Greatest as GreatestFold}
use Rattle.text_grammar.specs.declared.tree.Item.{Item}
use Rattle.text_grammar.specs.declared.tree.Item.TheVariants.{Exists as ExistsItem, Forall as ForallItem, Goal as GoalItem, Variable, Aggregate as AggregateItem, Constraint as ConstraintItem}
use Rattle.text_resolve.specs.declared.names.Named.{Named}
use Rattle.text_resolve.specs.declared.names.Named.TheVariants.{Integer, Boolean, Aggregate}
use Rattle.text_resolve.specs.declared.names.Meant.{Meant}
use Rattle.text_resolve.specs.Owned.{Owned, owned, kinds_of, word_bytes}
use Rattle.text_resolve.specs.Names.{Declared, declared, look_up, is_unknown}
use Rattle.text_resolve.specs.Fits.{is_boolean_meant, wrong_target}
use Rattle.text_resolve.specs.Draft.{meant_target, target_of, condition_of, fold_of, scope_of, variable_of, aggregate_of, game_of}
use Rattle.text_valid.proofs.Each.{passes, not_met}
use Rattle.text_valid.proofs.Parts.{fold_passes}
use Rattle.text_valid.proofs.Faults.{IsSound}
use Rattle.text_valid.proofs.Placed.{IsPlaced}
use Rattle.text_valid.proofs.Lookups.{IsVariable, IsKnown, known}

-- a variable at its number
pub variable_passes : (vs : List ModelVariable) (k scope : ℕ) (p : Domain → Bool) → IsVariable vs k scope p → is_variable_with p (slice_get vs k) ≡ true
variable_passes vs k scope p v = subst (λ o. is_variable_with p o ≡ true) (sym v.found) v.of_sort

module _ (text : List ℕ) (items : List Item) where
  abbrev names : List Declared
  names = declared text items

  abbrev variables : List ModelVariable
  variables = filter_map (variable_of text) (owned items)

  abbrev aggregates : List ModelAggregate
  aggregates = filter_map (aggregate_of text (declared text items)) (owned items)

  -- what a name stands for, if it is no Boolean variable
  meant_is : (named : Named) (scope : ℕ) → IsKnown variables aggregates named scope → is_boolean_meant (Some (record { named = named; scope = scope })) ≡ false →
      is_target variables (meant_target (Some (record { named = named; scope = scope }))) ≡ true
  meant_is (Integer k) scope h b = variable_passes variables k scope is_integer_domain h
  meant_is (Boolean k) scope h b = absurd cc
  meant_is (Aggregate q) scope h b = refl

  -- a target that is declared, and no Boolean variable
  target_is : (w : Word) → is_unknown text names w ≡ false → wrong_target text names w ≡ None → is_target variables (target_of text names w) ≡ true
  target_is w u b = go (look_up names (word_bytes text w)) refl u (not_met (is_boolean_meant (look_up names (word_bytes text w))) w.start None b).0
    where
      go : (o : Option Meant) → look_up names (word_bytes text w) ≡ o → is_none o ≡ false → is_boolean_meant o ≡ false → is_target variables (meant_target o) ≡ true
      go None e u b = absurd cc
      go (Some m) e u b = meant_is m.named m.scope (known text items (word_bytes text w) m e) b

  -- the condition of a sound item
  condition_is : (condition : Option ConditionText) (at : ℕ) → IsSound text names (ExistsItem at condition) → is_condition variables (condition_of text names condition) ≡ true
  condition_is None at s = refl
  condition_is (Some c) at s = target_is c.target s.known.0 s.fits

  -- the scope of a sound item
  pub item_scope : (o : Owned) → IsSound text names o.item → passes (is_scope variables) (scope_of text names o) ≡ true
  item_scope o s = go o.item s
    where
      go : (i : Item) → IsSound text names i → passes (is_scope variables) (scope_of text names (record { owner = o.owner; item = i })) ≡ true
      go (ExistsItem at condition) s = condition_is condition at s
      go (ForallItem at) s = refl
      go GoalItem s = refl
      go (Variable at domain name) s = refl
      go (AggregateItem at name fold target) s = refl
      go (ConstraintItem at name args) s = refl

  -- a scope whose kind is that of the opponent
  universal_at : (ss : List Scope) (k : ℕ) → slice_get (map (λ s. s.kind) ss) k ≡ Some Forall → is_universal (slice_get ss k) ≡ true
  universal_at [] k h = absurd cc
  universal_at (s ∷ ss) zero h = go s.kind h
    where
      go : (k : Kind) → Some k ≡ Some Forall → of_kind k false true ≡ true
      go Exists h = absurd cc
      go Forall h = refl
  universal_at (s ∷ ss) (suc k) h = universal_at ss k h

  -- a fold whose number is near
  fold_is : (f : FoldText) → fold_passes is_number f ≡ true → is_fold (fold_of f) ≡ true
  fold_is SumFold h = refl
  fold_is (LeastFold n) h = h
  fold_is (GreatestFold n) h = h

  -- the aggregate of a sound item that stands in a universal scope
  pub item_aggregate : map (λ s. s.kind) (game_of text items).scopes ≡ kinds_of items → (o : Owned) → IsSound text names o.item → IsPlaced (kinds_of items) o.owner o.item →
      passes (is_aggregate_of (game_of text items)) (aggregate_of text names o) ≡ true
  item_aggregate same o s p = go o.item s p
    where
      go : (i : Item) → IsSound text names i → IsPlaced (kinds_of items) o.owner i → passes (is_aggregate_of (game_of text items)) (aggregate_of text names (record { owner = o.owner; item = i })) ≡ true
      go (ExistsItem at condition) s p = refl
      go (ForallItem at) s p = refl
      go GoalItem s p = refl
      go (Variable at domain name) s p = refl
      go (AggregateItem at name fold target) s p =
          let scopes = (game_of text items).scopes in
          let universal : is_universal (slice_get (game_of text items).scopes o.owner) ≡ true =
          universal_at (game_of text items).scopes o.owner (subst (λ ks. slice_get ks o.owner ≡ Some Forall) (sym same) p) in
          and_from (is_universal (slice_get scopes o.owner) && is_fold (fold_of fold)) (is_target variables (target_of text names target))
          (and_from (is_universal (slice_get scopes o.owner)) (is_fold (fold_of fold)) universal (fold_is fold s.numbers)) (target_is target s.known.0 s.fits)
      go (ConstraintItem at name args) s p = refl
