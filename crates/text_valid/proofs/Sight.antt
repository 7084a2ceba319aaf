-- Conditions and folds of a text that meets no refusal see their targets.
use Rattle.std.proofs.Common.{◌≡◌, ◌∙◌, sym, ap, subst, refl, ◌+◌, ◌≤◌, ◌<◌, ◌==◌, ℕ, zero, suc, Bool, true, false, cond, List, [], ◌∷◌, map, filter, length, drop, filter_map, Option, Some, None, slice_get, is_none, arith, ltb-true, lt-ltb, leb-true, eq-eqb, length-drop}
use Rattle.std.specs.Prelude.{⊤, nat_le, nat_lt, count_by}
use Rattle.std.specs.List.{AllByRecursion, cons_option}
use Rattle.std.proofs.lemmas.Bool.{eqb-true, and_parts}
use Rattle.std.proofs.lemmas.Option.{same_Some}
use Rattle.std.proofs.lemmas.List.{drop-map}
use Rattle.std.proofs.lemmas.List.Sums.{sum_by-cons}
use Rattle.qc_model.specs.declared.problem.Kind.{Kind}
use Rattle.qc_model.specs.declared.problem.Kind.TheVariants.{Exists, Forall}
use Rattle.qc_model.specs.declared.problem.Target.{Target}
use Rattle.qc_model.specs.declared.problem.Scope.{Scope}
use Rattle.qc_model.specs.declared.problem.Variable.{Variable as ModelVariable}
use Rattle.qc_model.specs.declared.problem.Aggregate.{Aggregate as ModelAggregate}
use Rattle.qc_model.specs.Content.{Game}
use Rattle.qc_model.specs.Game.{before}
use Rattle.qc_model.specs.Valid.{is_in_order, is_integer_domain, is_bits}
use Rattle.qc_model.specs.Sees.{stands_in, IsVisibleHere, IsVisibleAtEnd, AtUniversal, IsVisible, ConditionSees, AggregatesSee, aggregates_in, ScopeSees, SeesRight}
use Rattle.text_grammar.specs.declared.tree.Word.{Word}
use Rattle.text_grammar.specs.declared.tree.ConditionText.{ConditionText}
use Rattle.text_grammar.specs.declared.tree.Item.{Item}
use Rattle.text_grammar.specs.declared.tree.Item.TheVariants.{Exists as ExistsItem, Forall as ForallItem, Goal as GoalItem, Variable, Aggregate as AggregateItem, Constraint as ConstraintItem}
use Rattle.text_resolve.specs.declared.names.Named.{Named}
use Rattle.text_resolve.specs.declared.names.Named.TheVariants.{Integer, Boolean, Aggregate}
use Rattle.text_resolve.specs.declared.names.Meant.{Meant}
use Rattle.text_resolve.specs.Owned.{Owned, owned_from, owned, kinds_of, word_bytes}
use Rattle.text_resolve.specs.Names.{Declared, declared, look_up, is_unknown}
use Rattle.text_resolve.specs.Hidden.{universal_from, next_universal, is_seen, hidden_meant, hidden_target, hidden_in}
use Rattle.text_resolve.specs.Draft.{meant_target, target_of, condition_of, scope_of, aggregate_of, game_of}
use Rattle.text_valid.proofs.Each.{passed}
use Rattle.text_valid.proofs.Faults.{IsSound}
use Rattle.text_valid.proofs.Lookups.{IsVariable, IsKnown, known}

module _ {X : Type 0} (f : X → ℕ) where
  -- in order, none is below the first
  above_first : (n k : ℕ) (xs : List X) (j : ℕ) (x : X) → is_in_order n (k ∷ map f xs) ≡ true → slice_get xs j ≡ Some x → k ≤ f x
  above_first n k [] j x h e = absurd cc
  above_first n k (y ∷ ys) zero x h e =
      let t = and_parts (nat_le k (f y)) (is_in_order n (f y ∷ map f ys)) h in
      subst (λ z. k ≤ f z) (same_Some y x e) (leb-true k (f y) t.0)
  above_first n k (y ∷ ys) (suc j) x h e =
      let t = and_parts (nat_le k (f y)) (is_in_order n (f y ∷ map f ys)) h in
      let low = leb-true k (f y) t.0 in
      let high = above_first n (f y) ys j x t.1 e in
      omega arith

  rest_in_order : (n k : ℕ) (xs : List X) → is_in_order n (k ∷ map f xs) ≡ true → is_in_order n (map f xs) ≡ true
  rest_in_order n k [] h = refl
  rest_in_order n k (y ∷ ys) h = (and_parts (nat_le k (f y)) (is_in_order n (f y ∷ map f ys)) h).1

  -- one whose number is below i stands among those below i
  place_below : (n i : ℕ) (xs : List X) (k : ℕ) (x : X) → is_in_order n (map f xs) ≡ true → slice_get xs k ≡ Some x → f x < i → k < count_by (λ y. nat_lt (f y) i) xs
  place_below n i [] k x h e l = absurd cc
  place_below n i (y ∷ ys) zero x h e l =
      let same = ap f (same_Some y x e) in
      let one : nat_lt (f y) i ≡ true = lt-ltb (f y) i (omega arith) in
      let count = sum_by-cons (λ z. cond (nat_lt (f z) i) 1 0) y ys in
      let first = ap {B = ℕ} (λ b. cond b 1 0) one in
      omega (arith, count, first)
  place_below n i (y ∷ ys) (suc k) x h e l =
      let low = above_first n (f y) ys k x h e in
      let one : nat_lt (f y) i ≡ true = lt-ltb (f y) i (omega arith) in
      let count = sum_by-cons (λ z. cond (nat_lt (f z) i) 1 0) y ys in
      let first = ap {B = ℕ} (λ b. cond b 1 0) one in
      let later = place_below n i ys k x (rest_in_order n (f y) ys h) e l in
      omega (arith, count, first, later)

next_place : (base j : ℕ) → suc base + j ≡ base + suc j
next_place base j = omega arith

module _ (g : Game) (t : Target) where
  -- what the next universal scope sees, or the end where there is none, is visible
  visible : (later : List Scope) (i : ℕ) → ((u : ℕ) → universal_from i (map (λ s. s.kind) later) ≡ Some u → IsVisibleHere g u t) →
      (universal_from i (map (λ s. s.kind) later) ≡ None → IsVisibleAtEnd g (i + length later) t) → IsVisible g later i t
  visible [] i here end = subst (λ n. IsVisibleAtEnd g n t) (plain i) (end refl)
    where
      plain : (i : ℕ) → i + length {A = Scope} [] ≡ i
      plain i = omega arith
  visible (s ∷ later) i here end = go s.kind here end (visible later (suc i))
    where
      go : (k : Kind) → ((u : ℕ) → universal_from i (k ∷ map (λ s. s.kind) later) ≡ Some u → IsVisibleHere g u t) →
          (universal_from i (k ∷ map (λ s. s.kind) later) ≡ None → IsVisibleAtEnd g (i + length (s ∷ later)) t) →
          (((u : ℕ) → universal_from (suc i) (map (λ s. s.kind) later) ≡ Some u → IsVisibleHere g u t) →
          (universal_from (suc i) (map (λ s. s.kind) later) ≡ None → IsVisibleAtEnd g (suc i + length later) t) → IsVisible g later (suc i) t) →
          AtUniversal k (IsVisibleHere g i t) (IsVisible g later (suc i) t)
      go Exists here end more = more here (λ e. subst (λ n. IsVisibleAtEnd g n t) (sym (next_place i (length later))) (end e))
      go Forall here end more = here i refl

drop_next : (ss : List Scope) (i : ℕ) (s : Scope) (later : List Scope) → drop i ss ≡ s ∷ later → drop (suc i) ss ≡ later
drop_next [] zero s later e = absurd cc
drop_next (x ∷ xs) zero s later e = cc
drop_next [] (suc i) s later e = absurd cc
drop_next (x ∷ xs) (suc i) s later e = drop_next xs i s later e

-- what stands after scope i sees the target
abbrev pub SeesFrom : Game → ℕ → Target → Type 0
SeesFrom g i t = IsVisible g (drop (suc i) g.scopes) (suc i) t

-- the conditions of these scopes, the first of which has the number i
abbrev pub ConditionsSee : Game → ℕ → List Scope → Type 0
ConditionsSee g i [] = ⊤
ConditionsSee g i (s ∷ later) = ConditionSees g (drop (suc i) g.scopes) (suc i) s.condition × ConditionsSee g (suc i) later

module _ (g : Game) (fold_sees : AllByRecursion (λ a. SeesFrom g a.scope.0 a.target) g.aggregates) where
  -- the aggregates of scope i see their targets
  those_see : (i : ℕ) (ags : List ModelAggregate) → AllByRecursion (λ a. SeesFrom g a.scope.0 a.target) ags → AggregatesSee g (drop (suc i) g.scopes) (suc i) (filter (λ q. q.scope.0 == i) ags)
  those_see i [] h = tt
  those_see i (a ∷ ags) h = go (a.scope.0 == i) refl (those_see i ags h.1)
    where
      go : (b : Bool) → (a.scope.0 == i) ≡ b → AggregatesSee g (drop (suc i) g.scopes) (suc i) (filter (λ q. q.scope.0 == i) ags) →
          AggregatesSee g (drop (suc i) g.scopes) (suc i) (cond b (a ∷ filter (λ q. q.scope.0 == i) ags) (filter (λ q. q.scope.0 == i) ags))
      go true e later = (subst (λ j. SeesFrom g j a.target) (eqb-true a.scope.0 i e) h.0, later)
      go false e later = later

  -- where each condition and each aggregate sees its target, the scopes see right
  pub all_see : (later : List Scope) (i : ℕ) → drop i g.scopes ≡ later → ConditionsSee g i later → SeesRight g later i
  all_see [] i e h = tt
  all_see (s ∷ later) i e h =
      let next = drop_next g.scopes i s later e in
      (go s.kind next, all_see later (suc i) next h.1)
    where
      go : (k : Kind) → drop (suc i) g.scopes ≡ later → ScopeSees k g later (suc i) s.condition (aggregates_in g i)
      go Exists next = subst (λ l. ConditionSees g l (suc i) s.condition) next h.0
      go Forall next = subst (λ l. AggregatesSee g l (suc i) (aggregates_in g i)) next (those_see i g.aggregates fold_sees)

module _ (text : List ℕ) (items : List Item) (order : is_in_order (length (game_of text items).scopes) (map (λ x. x.scope.0) (game_of text items).variables) ≡ true)
    (kinds : map (λ s. s.kind) (game_of text items).scopes ≡ kinds_of items) where
  abbrev game : Game
  game = game_of text items

  abbrev names : List Declared
  names = declared text items

  -- a variable of an earlier scope than u
  variable_before : (k scope u : ℕ) (p : _) → IsVariable game.variables k scope p → scope < u → k < before game u
  variable_before k scope u p v l =
      let same = v.of_scope in
      place_below (λ (x : ModelVariable). x.scope.0) (length game.scopes) u game.variables k v.variable order v.found (omega (arith, same))

  -- a variable stands in a scope
  within_scopes : (m : ℕ) (xs : List ModelVariable) (k : ℕ) (x : ModelVariable) → is_in_order m (map (λ y. y.scope.0) xs) ≡ true → slice_get xs k ≡ Some x → x.scope.0 < m
  within_scopes m [] k x h e = absurd cc
  within_scopes m (y ∷ []) zero x h e = subst (λ (z : ModelVariable). z.scope.0 < m) (same_Some y x e) (ltb-true y.scope.0 m h)
  within_scopes m (y ∷ []) (suc k) x h e = absurd cc
  within_scopes m (y ∷ z ∷ xs) zero x h e =
      let t = and_parts (nat_le y.scope.0 z.scope.0) (is_in_order m (map (λ w. w.scope.0) (z ∷ xs))) h in
      let low = leb-true y.scope.0 z.scope.0 t.0 in
      let high = within_scopes m (z ∷ xs) zero z t.1 refl in
      let same = ap (λ (w : ModelVariable). w.scope.0) (same_Some y x e) in
      omega (arith, same)
  within_scopes m (y ∷ z ∷ xs) (suc k) x h e = within_scopes m (z ∷ xs) k x (and_parts (nat_le y.scope.0 z.scope.0) (is_in_order m (map (λ w. w.scope.0) (z ∷ xs))) h).1 e

  -- a variable, past all scopes
  variable_at_end : (k scope end : ℕ) (p : _) → IsVariable game.variables k scope p → length game.scopes ≤ end → k < before game end
  variable_at_end k scope end p v l =
      let same = v.of_scope in
      let low = within_scopes (length game.scopes) game.variables k v.variable order v.found in
      variable_before k scope end p v (omega (arith, same, low))

  -- what is seen before the universal scope u
  here_seen : (named : Named) (scope u : ℕ) → IsKnown game.variables game.aggregates named scope → is_seen (Some u) (record { named = named; scope = scope }) ≡ true →
      IsVisibleHere game u (meant_target (Some (record { named = named; scope = scope })))
  here_seen (Integer k) scope u h s = variable_before k scope u is_integer_domain h (ltb-true scope u s)
  here_seen (Boolean k) scope u h s = variable_before k scope u is_bits h (ltb-true scope u s)
  here_seen (Aggregate q) scope u h s =
      ap (stands_in u) h.found ∙ eq-eqb h.aggregate.scope.0 u (h.of_scope ∙ eqb-true scope u s)

  -- what is seen where no universal scope follows
  end_seen : (named : Named) (scope end : ℕ) → IsKnown game.variables game.aggregates named scope → is_seen None (record { named = named; scope = scope }) ≡ true → length game.scopes ≤ end →
      IsVisibleAtEnd game end (meant_target (Some (record { named = named; scope = scope })))
  end_seen (Integer k) scope end h s l = variable_at_end k scope end is_integer_domain h l
  end_seen (Boolean k) scope end h s l = variable_at_end k scope end is_bits h l
  end_seen (Aggregate q) scope end h s l = absurd cc

  -- the next universal scope, by the scopes that are left
  next_is : (i : ℕ) → next_universal (kinds_of items) i ≡ universal_from (suc i) (map (λ s. s.kind) (drop (suc i) game.scopes))
  next_is i = ap (λ ks. universal_from (suc i) (drop (suc i) ks)) (sym kinds) ∙ ap (universal_from (suc i)) (drop-map (λ s. s.kind) (suc i) game.scopes)

  past_all : (i : ℕ) → length game.scopes ≤ suc i + length (drop (suc i) game.scopes)
  past_all i = let e = length-drop (suc i) game.scopes in omega (arith, e)

  -- what a name stands for is seen from scope i
  meant_seen : (i : ℕ) (m : Meant) → IsKnown game.variables game.aggregates m.named m.scope → is_seen (next_universal (kinds_of items) i) m ≡ true → SeesFrom game i (meant_target (Some m))
  meant_seen i m h s =
      let seen : is_seen (universal_from (suc i) (map (λ s. s.kind) (drop (suc i) game.scopes))) m ≡ true = subst (λ o. is_seen o m ≡ true) (next_is i) s in
      visible game (meant_target (Some m)) (drop (suc i) game.scopes) (suc i)
      (λ u e. here_seen m.named m.scope u h (subst (λ o. is_seen o m ≡ true) e seen))
      (λ e. end_seen m.named m.scope (suc i + length (drop (suc i) game.scopes)) h (subst (λ o. is_seen o m ≡ true) e seen) (past_all i))

  -- a target that is declared and not hidden is seen
  target_seen : (i : ℕ) (w : Word) → is_unknown text names w ≡ false → hidden_target text names (kinds_of items) i w ≡ None → SeesFrom game i (target_of text names w)
  target_seen i w u h = go (look_up names (word_bytes text w)) refl u h
    where
      go : (o : Option Meant) → look_up names (word_bytes text w) ≡ o → is_none o ≡ false → hidden_meant (kinds_of items) i w.start o ≡ None → SeesFrom game i (meant_target o)
      go None e u h = absurd cc
      go (Some m) e u h = meant_seen i m (known text items (word_bytes text w) m e) (passed (is_seen (next_universal (kinds_of items) i) m) w.start h)

  -- the aggregate of a sound item sees its target
  abbrev AggregateSeesIt : Option ModelAggregate → Type 0
  AggregateSeesIt None = ⊤
  AggregateSeesIt (Some a) = SeesFrom game a.scope.0 a.target

  item_sees : (owner : ℕ) (i : Item) → IsSound text names i → hidden_in text names (kinds_of items) (record { owner = owner; item = i }) ≡ None → AggregateSeesIt (aggregate_of text names (record { owner = owner; item = i }))
  item_sees owner (ExistsItem at condition) s v = tt
  item_sees owner (ForallItem at) s v = tt
  item_sees owner GoalItem s v = tt
  item_sees owner (Variable at domain name) s v = tt
  item_sees owner (AggregateItem at name fold target) s v = target_seen owner target s.known.0 v
  item_sees owner (ConstraintItem at name args) s v = tt

  -- each aggregate sees its target
  aggregates_see : (os : List Owned) → AllByRecursion (λ o. IsSound text names o.item) os → AllByRecursion (λ o. hidden_in text names (kinds_of items) o ≡ None) os →
      AllByRecursion (λ a. SeesFrom game a.scope.0 a.target) (filter_map (aggregate_of text names) os)
  aggregates_see [] s v = tt
  aggregates_see (o ∷ os) s v = go (aggregate_of text names o) (item_sees o.owner o.item s.0 v.0) (aggregates_see os s.1 v.1)
    where
      go : (a : Option ModelAggregate) → AggregateSeesIt a → AllByRecursion (λ a. SeesFrom game a.scope.0 a.target) (filter_map (aggregate_of text names) os) →
          AllByRecursion (λ a. SeesFrom game a.scope.0 a.target) (cons_option a (filter_map (aggregate_of text names) os))
      go None h later = later
      go (Some a) h later = (h, later)

  condition_sees : (i at : ℕ) (condition : Option ConditionText) → IsSound text names (ExistsItem at condition) → hidden_in text names (kinds_of items) (record { owner = i; item = ExistsItem at condition }) ≡ None →
      ConditionSees game (drop (suc i) game.scopes) (suc i) (condition_of text names condition)
  condition_sees i at None s v = tt
  condition_sees i at (Some c) s v = target_seen i c.target s.known.0 v

  -- each condition sees its target
  conditions_see : (is : List Item) (m owner : ℕ) → AllByRecursion (λ o. IsSound text names o.item) (owned_from m owner is) → AllByRecursion (λ o. hidden_in text names (kinds_of items) o ≡ None) (owned_from m owner is) →
      ConditionsSee game m (filter_map (scope_of text names) (owned_from m owner is))
  conditions_see [] m owner s v = tt
  conditions_see (ExistsItem at condition ∷ is) m owner s v = (condition_sees m at condition s.0 v.0, conditions_see is (suc m) m s.1 v.1)
  conditions_see (ForallItem at ∷ is) m owner s v = (tt, conditions_see is (suc m) m s.1 v.1)
  conditions_see (GoalItem ∷ is) m owner s v = conditions_see is m m s.1 v.1
  conditions_see (Variable at domain name ∷ is) m owner s v = conditions_see is m owner s.1 v.1
  conditions_see (AggregateItem at name fold target ∷ is) m owner s v = conditions_see is m owner s.1 v.1
  conditions_see (ConstraintItem at name args ∷ is) m owner s v = conditions_see is m owner s.1 v.1

  -- the scopes of the problem see right
  pub sees_right : AllByRecursion (λ o. IsSound text names o.item) (owned items) → AllByRecursion (λ o. hidden_in text names (kinds_of items) o ≡ None) (owned items) → SeesRight game game.scopes 0
  sees_right s v = all_see game (aggregates_see (owned items) s v) game.scopes 0 refl (conditions_see items 0 0 s v)
