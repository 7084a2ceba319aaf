-- The order of variables, constraints and aggregates.
use Rattle.std.proofs.Common.{◌≡◌, refl, ◌≤◌, ◌<◌, ℕ, suc, true, List, [], ◌∷◌, map, filter_map, Option, Some, None, arith, le-leb, lt-ltb}
use Rattle.std.specs.Prelude.{⊤, nat_le}
use Rattle.std.specs.List.{AllByRecursion, cons_option}
use Rattle.std.proofs.lemmas.Bool.{and_from}
use Rattle.qc_model.specs.Valid.{is_in_order}
use Rattle.text_grammar.specs.declared.tree.Item.{Item}
use Rattle.text_grammar.specs.declared.tree.Item.TheVariants.{Exists as ExistsItem, Forall as ForallItem, Goal as GoalItem, Variable, Aggregate as AggregateItem, Constraint as ConstraintItem}
use Rattle.text_resolve.specs.Owned.{Owned, owned_from}

-- owners never fall, and none is below low
abbrev pub AreRising : ℕ → List Owned → Type 0
AreRising low [] = ⊤
AreRising low (o ∷ os) = (low ≤ o.owner) × AreRising o.owner os

-- the owners of a text never fall
pub owners_rise : (items : List Item) (low n owner : ℕ) → low ≤ owner → owner ≤ n → AreRising low (owned_from n owner items)
owners_rise [] low n owner l h = tt
owners_rise (ExistsItem at condition ∷ is) low n owner l h = (omega arith, owners_rise is n (suc n) n (omega arith) (omega arith))
owners_rise (ForallItem at ∷ is) low n owner l h = (omega arith, owners_rise is n (suc n) n (omega arith) (omega arith))
owners_rise (GoalItem ∷ is) low n owner l h = (omega arith, owners_rise is n n n (omega arith) (omega arith))
owners_rise (Variable at domain name ∷ is) low n owner l h = (l, owners_rise is owner n owner (omega arith) h)
owners_rise (AggregateItem at name fold target ∷ is) low n owner l h = (l, owners_rise is owner n owner (omega arith) h)
owners_rise (ConstraintItem at name args ∷ is) low n owner l h = (l, owners_rise is owner n owner (omega arith) h)

-- each number is at least the one before it, the first at least low, and all are below n
abbrev IsOrdered : ℕ → ℕ → List ℕ → Type 0
IsOrdered n low [] = ⊤
IsOrdered n low (k ∷ ks) = (low ≤ k) × (k < n) × IsOrdered n k ks

-- a lower bound may be lower
ordered_lower : (n low high : ℕ) (ks : List ℕ) → low ≤ high → IsOrdered n high ks → IsOrdered n low ks
ordered_lower n low high [] l h = tt
ordered_lower n low high (k ∷ ks) l h = let first = h.0 in (omega arith, h.1, h.2)

-- such numbers are in order
ordered_is : (n low : ℕ) (ks : List ℕ) → IsOrdered n low ks → is_in_order n ks ≡ true
ordered_is n low [] h = refl
ordered_is n low (k ∷ []) h = lt-ltb k n h.1
ordered_is n low (k ∷ j ∷ ks) h = and_from (nat_le k j) (is_in_order n (j ∷ ks)) (le-leb k j h.2.0) (ordered_is n k (j ∷ ks) h.2)

module _ {Y : Type 0} (h : Owned → Option Y) (f : Y → ℕ) (n : ℕ) where
  -- what an item makes has the item's number, below n
  abbrev pub MadeAt : ℕ → Option Y → Type 0
  MadeAt owner None = ⊤
  MadeAt owner (Some y) = (f y ≡ owner) × (owner < n)

  made_ordered : (S : Owned → Type 0) → ((o : Owned) → S o → MadeAt o.owner (h o)) → (os : List Owned) (low : ℕ) → AreRising low os → AllByRecursion S os →
      IsOrdered n low (map f (filter_map h os))
  made_ordered S each [] low r s = tt
  made_ordered S each (o ∷ os) low r s = go (h o) (each o s.0) (made_ordered S each os o.owner r.1 s.1)
    where
      go : (y : Option Y) → MadeAt o.owner y → IsOrdered n o.owner (map f (filter_map h os)) → IsOrdered n low (map f (cons_option y (filter_map h os)))
      go None m later = ordered_lower n low o.owner (map f (filter_map h os)) r.0 later
      go (Some y) m later =
          let first = r.0 in
          let same = m.0 in
          let below = m.1 in
          (omega arith, omega arith, ordered_lower n (f y) o.owner (map f (filter_map h os)) (omega arith) later)

  -- what the items make is in the order of its scopes
  pub made_in_order : (S : Owned → Type 0) → ((o : Owned) → S o → MadeAt o.owner (h o)) → (os : List Owned) (low : ℕ) → AreRising low os → AllByRecursion S os →
      is_in_order n (map f (filter_map h os)) ≡ true
  made_in_order S each os low r s = ordered_is n low (map f (filter_map h os)) (made_ordered S each os low r s)
