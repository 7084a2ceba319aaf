-- Which scope each item stands in, where the items of a text are arranged.
use Rattle.std.proofs.Common.{◌≡◌, sym, ap, subst, refl, ◌+◌, ◌≤◌, ◌<◌, ℕ, zero, suc, true, List, [], ◌∷◌, ◌++◌, length, map, filter_map, Some, slice_get, arith, append_assoc, length-append}
use Rattle.std.proofs.lemmas.Bool.{and_parts}
use Rattle.std.specs.Prelude.{⊤}
use Rattle.std.specs.List.{AllByRecursion}
use Rattle.std.proofs.lemmas.Option.{slice_get_within}
use Rattle.qc_model.specs.declared.problem.Kind.{Kind}
use Rattle.qc_model.specs.declared.problem.Kind.TheVariants.{Exists, Forall}
use Rattle.text_grammar.specs.declared.tree.Item.{Item}
use Rattle.text_grammar.specs.declared.tree.Item.TheVariants.{Exists as ExistsItem, Forall as ForallItem, Goal as GoalItem, Variable, Aggregate as AggregateItem, Constraint as ConstraintItem}
use Rattle.text_grammar.specs.declared.lexeme.Lexeme.{Lexeme}
use Rattle.text_grammar.specs.Grammar.{IsProblem, before_goal, in_scope, in_universal, in_restriction, phase_after, are_arranged}
use Rattle.text_resolve.specs.Owned.{Owned, kinds_of, owned_from}
use Rattle.text_resolve.specs.Names.{Declared}
use Rattle.text_resolve.specs.Draft.{scope_of}

module _ {X : Type 0} where
  -- an element of the first list stands there in the whole
  pub get_first : (xs ys : List X) (k : ℕ) (x : X) → slice_get xs k ≡ Some x → slice_get (xs ++ ys) k ≡ Some x
  get_first [] ys k x h = absurd cc
  get_first (y ∷ xs) ys zero x h = h
  get_first (y ∷ xs) ys (suc k) x h = get_first xs ys k x h

  -- the element after the first list
  pub get_middle : (xs : List X) (x : X) (ys : List X) → slice_get (xs ++ x ∷ ys) (length xs) ≡ Some x
  get_middle [] x ys = refl
  get_middle (y ∷ xs) x ys = get_middle xs x ys

-- an item stands in a scope of a kind that may hold it
abbrev pub IsPlaced : List Kind → ℕ → Item → Type 0
IsPlaced kinds owner (ExistsItem at condition) = slice_get kinds owner ≡ Some Exists
IsPlaced kinds owner (ForallItem at) = slice_get kinds owner ≡ Some Forall
IsPlaced kinds owner GoalItem = ⊤
IsPlaced kinds owner (Variable at domain name) = owner < length kinds
IsPlaced kinds owner (AggregateItem at name fold target) = slice_get kinds owner ≡ Some Forall
IsPlaced kinds owner (ConstraintItem at name args) = owner < length kinds + 1

module _ (before : List Kind) (n : ℕ) (same : n ≡ length before) where
  -- the head that comes next has the number of those before it
  next_head : (k : Kind) (later : List Kind) → slice_get (before ++ k ∷ later) n ≡ Some k
  next_head k later = subst (λ m. slice_get (before ++ k ∷ later) m ≡ Some k) (sym same) (get_middle before k later)

  one_more : (k : Kind) → suc n ≡ length (before ++ k ∷ [])
  one_more k = let e = length-append before (k ∷ []) in omega (arith, e)

  last_head : (k : Kind) → slice_get (before ++ k ∷ []) n ≡ Some k
  last_head k = next_head k []

longer : (before later : List Kind) (owner : ℕ) → owner < length before → owner < length (before ++ later)
longer before later owner h = let e = length-append before later in omega (arith, e)

-- a phase in which a variable, an aggregate or a constraint may stand, stands in a scope that has begun
pub each_placed : (items : List Item) (p : _) (before : List Kind) (n owner : ℕ) → are_arranged p items ≡ true → n ≡ length before → (in_scope p ≡ true → owner < length before) →
    (in_universal p ≡ true → slice_get before owner ≡ Some Forall) → (in_restriction p ≡ true → owner ≤ length before) →
    AllByRecursion (λ o. IsPlaced (before ++ kinds_of items) o.owner o.item) (owned_from n owner items)
each_placed [] p before n owner a same s u r = tt
each_placed (ExistsItem at condition ∷ is) p before n owner a same s u r =
    let within : n < length (before ++ Exists ∷ []) = slice_get_within (before ++ Exists ∷ []) n Exists (last_head before n same Exists) in
    let later = each_placed is (phase_after p (ExistsItem at condition)) (before ++ Exists ∷ []) (suc n) n (and_parts (before_goal p) (are_arranged (phase_after p (ExistsItem at condition)) is) a).1 (one_more before n same Exists)
    (λ e. within) (λ e. absurd cc) (λ e. omega arith) in (
      next_head before n same Exists (kinds_of is),
      subst (λ ks. AllByRecursion (λ (o : Owned). IsPlaced ks o.owner o.item) (owned_from (suc n) n is)) (append_assoc before (Exists ∷ []) (kinds_of is)) later,
    )
each_placed (ForallItem at ∷ is) p before n owner a same s u r =
    let within : n < length (before ++ Forall ∷ []) = slice_get_within (before ++ Forall ∷ []) n Forall (last_head before n same Forall) in
    let later = each_placed is (phase_after p (ForallItem at)) (before ++ Forall ∷ []) (suc n) n (and_parts (before_goal p) (are_arranged (phase_after p (ForallItem at)) is) a).1 (one_more before n same Forall)
    (λ e. within) (λ e. last_head before n same Forall) (λ e. omega arith) in (
      next_head before n same Forall (kinds_of is),
      subst (λ ks. AllByRecursion (λ (o : Owned). IsPlaced ks o.owner o.item) (owned_from (suc n) n is)) (append_assoc before (Forall ∷ []) (kinds_of is)) later,
    )
each_placed (GoalItem ∷ is) p before n owner a same s u r =
    (tt, each_placed is (phase_after p GoalItem) before n n (and_parts (before_goal p) (are_arranged (phase_after p GoalItem) is) a).1 same (λ e. absurd cc) (λ e. absurd cc) (λ e. omega arith))
each_placed (Variable at domain name ∷ is) p before n owner a same s u r =
    let t = and_parts (in_scope p) (are_arranged p is) a in
    (longer before (kinds_of is) owner (s t.0), each_placed is p before n owner t.1 same s u r)
each_placed (AggregateItem at name fold target ∷ is) p before n owner a same s u r =
    let t = and_parts (in_universal p) (are_arranged p is) a in
    (get_first before (kinds_of is) owner Forall (u t.0), each_placed is p before n owner t.1 same s u r)
each_placed (ConstraintItem at name args ∷ is) p before n owner a same s u r =
    let t = and_parts (in_restriction p) (are_arranged p is) a in
    let h = r t.0 in
    let e = length-append before (kinds_of is) in
    (omega (arith, e), each_placed is p before n owner t.1 same s u r)

-- each item of a problem stands where it may
pub problem_placed : (items : List Item) (lexemes : List Lexeme) → IsProblem items lexemes → AllByRecursion (λ o. IsPlaced (kinds_of items) o.owner o.item) (owned_from 0 0 items)
problem_placed items lexemes problem = each_placed items _ [] 0 0 problem.arranged refl (λ e. absurd cc) (λ e. absurd cc) (λ e. absurd cc)

-- the kinds of the problem's scopes
pub scope_kinds : (text : List ℕ) (ds : List Declared) (items : List Item) (n owner : ℕ) → map (λ s. s.kind) (filter_map (scope_of text ds) (owned_from n owner items)) ≡ kinds_of items
scope_kinds text ds [] n owner = refl
scope_kinds text ds (ExistsItem at condition ∷ is) n owner = ap (λ ks. Exists ∷ ks) (scope_kinds text ds is (suc n) n)
scope_kinds text ds (ForallItem at ∷ is) n owner = ap (λ ks. Forall ∷ ks) (scope_kinds text ds is (suc n) n)
scope_kinds text ds (GoalItem ∷ is) n owner = scope_kinds text ds is n n
scope_kinds text ds (Variable at domain name ∷ is) n owner = scope_kinds text ds is n owner
scope_kinds text ds (AggregateItem at name fold target ∷ is) n owner = scope_kinds text ds is n owner
scope_kinds text ds (ConstraintItem at name args ∷ is) n owner = scope_kinds text ds is n owner
