-- How much the items of a text have, where nothing is in excess.
use Rattle.std.proofs.Common.{◌≡◌, refl, sym, ap, subst, length, filter_map, ◌<◌, ◌≤◌, ◌+◌, ℕ, suc, Bool, true, false, cond, List, [], ◌∷◌, find, Option, None, Some, arith}
use Rattle.std.specs.Prelude.{nat_lt}
use Rattle.std.specs.Option.{option_map}
use Rattle.std.specs.Str.{bytes_eq}
use Rattle.std.proofs.lemmas.Bool.Decides.{nat_tests}
use Rattle.text_grammar.specs.declared.tree.DomainText.{DomainText}
use Rattle.text_grammar.specs.declared.tree.DomainText.TheVariants.{Bits as BitsDomain, Members as MembersDomain}
use Rattle.text_grammar.specs.declared.tree.Item.{Item}
use Rattle.text_grammar.specs.declared.tree.Item.TheVariants.{Exists as ExistsItem, Forall as ForallItem, Goal as GoalItem, Variable, Aggregate as AggregateItem, Constraint}
use Rattle.text_resolve.specs.declared.names.Named.{Named}
use Rattle.text_resolve.specs.declared.names.Named.TheVariants.{Integer, Boolean, Aggregate}
use Rattle.text_resolve.specs.declared.names.Meant.{Meant}
use Rattle.text_resolve.specs.Owned.{owned_from}
use Rattle.text_resolve.specs.Names.{Declared, declared, declared_from, declared_as, variable_named, look_up}
use Rattle.text_resolve.specs.Excess.{first_excess, or_else, past}
use Rattle.text_resolve.specs.Draft.{scope_of, game_of}
use Rattle.text_resolve.specs.Makeable.{IsMakeable}

-- how many scopes, variables and aggregates there are
abbrev pub scope_count : List Item → ℕ
scope_count [] = 0
scope_count (ExistsItem at condition ∷ is) = suc (scope_count is)
scope_count (ForallItem at ∷ is) = suc (scope_count is)
scope_count (GoalItem ∷ is) = scope_count is
scope_count (Variable at domain name ∷ is) = scope_count is
scope_count (AggregateItem at name fold target ∷ is) = scope_count is
scope_count (Constraint at name args ∷ is) = scope_count is

abbrev pub variable_count : List Item → ℕ
variable_count [] = 0
variable_count (ExistsItem at condition ∷ is) = variable_count is
variable_count (ForallItem at ∷ is) = variable_count is
variable_count (GoalItem ∷ is) = variable_count is
variable_count (Variable at domain name ∷ is) = suc (variable_count is)
variable_count (AggregateItem at name fold target ∷ is) = variable_count is
variable_count (Constraint at name args ∷ is) = variable_count is

abbrev pub aggregate_count : List Item → ℕ
aggregate_count [] = 0
aggregate_count (ExistsItem at condition ∷ is) = aggregate_count is
aggregate_count (ForallItem at ∷ is) = aggregate_count is
aggregate_count (GoalItem ∷ is) = aggregate_count is
aggregate_count (Variable at domain name ∷ is) = aggregate_count is
aggregate_count (AggregateItem at name fold target ∷ is) = suc (aggregate_count is)
aggregate_count (Constraint at name args ∷ is) = aggregate_count is

neither : (a b : Option ℕ) → or_else a b ≡ None → (a ≡ None) × (b ≡ None)
neither None b e = (refl, e)
neither (Some at) b e = absurd cc

not_past : (most n at : ℕ) → past most n at ≡ None → n < most
not_past most n at e = go (nat_lt n most) refl e
  where
    go : (b : Bool) → nat_lt n most ≡ b → cond b None (Some at) ≡ None → n < most
    go true h k = grind (arith, nat_tests)
    go false h k = absurd cc

few_scopes : (text : List ℕ) (s v q c : ℕ) (items : List Item) → s ≤ 64 → first_excess text s v q c items ≡ None → s + scope_count items ≤ 64
few_scopes text s v q c [] le e = omega arith
few_scopes text s v q c (ExistsItem at condition ∷ is) le e =
    let lt = not_past 64 s at (neither (past 64 s at) _ e).0 in
    let h : suc s + scope_count is ≤ 64 = few_scopes text (suc s) v q c is (omega arith) (neither (past 64 s at) _ e).1 in
    omega arith
few_scopes text s v q c (ForallItem at ∷ is) le e =
    let lt = not_past 64 s at (neither (past 64 s at) _ e).0 in
    let h : suc s + scope_count is ≤ 64 = few_scopes text (suc s) v q c is (omega arith) (neither (past 64 s at) _ e).1 in
    omega arith
few_scopes text s v q c (GoalItem ∷ is) le e = few_scopes text s v q c is le e
few_scopes text s v q c (Variable at domain name ∷ is) le e = few_scopes text s (suc v) q c is le (neither _ (first_excess text s (suc v) q c is) (neither (past 500 v at) _ e).1).1
few_scopes text s v q c (AggregateItem at name fold target ∷ is) le e = few_scopes text s v (suc q) c is le (neither (past 255 q at) _ e).1
few_scopes text s v q c (Constraint at name args ∷ is) le e = few_scopes text s v q (suc c) is le (neither _ (first_excess text s v q (suc c) is) (neither (past 20000 c at) _ e).1).1

few_variables : (text : List ℕ) (s v q c : ℕ) (items : List Item) → v ≤ 500 → first_excess text s v q c items ≡ None → v + variable_count items ≤ 500
few_variables text s v q c [] le e = omega arith
few_variables text s v q c (ExistsItem at condition ∷ is) le e = few_variables text (suc s) v q c is le (neither (past 64 s at) _ e).1
few_variables text s v q c (ForallItem at ∷ is) le e = few_variables text (suc s) v q c is le (neither (past 64 s at) _ e).1
few_variables text s v q c (GoalItem ∷ is) le e = few_variables text s v q c is le e
few_variables text s v q c (Variable at domain name ∷ is) le e =
    let lt = not_past 500 v at (neither (past 500 v at) _ e).0 in
    let h : suc v + variable_count is ≤ 500 = few_variables text s (suc v) q c is (omega arith) (neither _ (first_excess text s (suc v) q c is) (neither (past 500 v at) _ e).1).1 in
    omega arith
few_variables text s v q c (AggregateItem at name fold target ∷ is) le e = few_variables text s v (suc q) c is le (neither (past 255 q at) _ e).1
few_variables text s v q c (Constraint at name args ∷ is) le e = few_variables text s v q (suc c) is le (neither _ (first_excess text s v q (suc c) is) (neither (past 20000 c at) _ e).1).1

few_aggregates : (text : List ℕ) (s v q c : ℕ) (items : List Item) → q ≤ 255 → first_excess text s v q c items ≡ None → q + aggregate_count items ≤ 255
few_aggregates text s v q c [] le e = omega arith
few_aggregates text s v q c (ExistsItem at condition ∷ is) le e = few_aggregates text (suc s) v q c is le (neither (past 64 s at) _ e).1
few_aggregates text s v q c (ForallItem at ∷ is) le e = few_aggregates text (suc s) v q c is le (neither (past 64 s at) _ e).1
few_aggregates text s v q c (GoalItem ∷ is) le e = few_aggregates text s v q c is le e
few_aggregates text s v q c (Variable at domain name ∷ is) le e = few_aggregates text s (suc v) q c is le (neither _ (first_excess text s (suc v) q c is) (neither (past 500 v at) _ e).1).1
few_aggregates text s v q c (AggregateItem at name fold target ∷ is) le e =
    let lt = not_past 255 q at (neither (past 255 q at) _ e).0 in
    let h : suc q + aggregate_count is ≤ 255 = few_aggregates text s v (suc q) c is (omega arith) (neither (past 255 q at) _ e).1 in
    omega arith
few_aggregates text s v q c (Constraint at name args ∷ is) le e = few_aggregates text s v q (suc c) is le (neither _ (first_excess text s v q (suc c) is) (neither (past 20000 c at) _ e).1).1

-- a variable's number is below v, an aggregate's below q
abbrev pub IsBelow : ℕ → ℕ → Named → Type 0
IsBelow v q (Integer k) = k < v
IsBelow v q (Boolean k) = k < v
IsBelow v q (Aggregate k) = k < q

same_meant : (a b : Meant) → Some a ≡ Some b → a ≡ b
same_meant a b e = cc

variable_below : (domain : DomainText) (v q xs : ℕ) → xs < v → IsBelow v q (variable_named domain xs)
variable_below (BitsDomain at) v q xs lt = lt
variable_below (MembersDomain ms) v q xs lt = lt

found_first : (v q : ℕ) (d : Declared) (ds : List Declared) (name : List ℕ) (m : Meant) → IsBelow v q d.meant.named → (look_up ds name ≡ Some m → IsBelow v q m.named) → look_up (d ∷ ds) name ≡ Some m → IsBelow v q m.named
found_first v q d ds name m below later e = go (bytes_eq d.name name) e
  where
    go : (b : Bool) → option_map (λ (x : Declared). x.meant) (cond b (Some d) (find (λ (x : Declared). bytes_eq x.name name) ds)) ≡ Some m → IsBelow v q m.named
    go true h = subst (λ (x : Meant). IsBelow v q x.named) (same_meant d.meant m h) below
    go false h = later h

found_below : (text name : List ℕ) (v q xs qs n owner : ℕ) (items : List Item) (m : Meant) → xs + variable_count items ≤ v → qs + aggregate_count items ≤ q →
    look_up (declared_from text xs qs (owned_from n owner items)) name ≡ Some m → IsBelow v q m.named
found_below text name v q xs qs n owner [] m lv lq e = absurd cc
found_below text name v q xs qs n owner (ExistsItem at condition ∷ is) m lv lq e = found_below text name v q xs qs (suc n) n is m lv lq e
found_below text name v q xs qs n owner (ForallItem at ∷ is) m lv lq e = found_below text name v q xs qs (suc n) n is m lv lq e
found_below text name v q xs qs n owner (GoalItem ∷ is) m lv lq e = found_below text name v q xs qs n n is m lv lq e
found_below text name v q xs qs n owner (Variable at domain w ∷ is) m lv lq e =
    found_first v q (declared_as text w (variable_named domain xs) owner) (declared_from text (suc xs) qs (owned_from n owner is)) name m
    (variable_below domain v q xs (omega arith)) (found_below text name v q (suc xs) qs n owner is m (omega arith) lq) e
found_below text name v q xs qs n owner (AggregateItem at w fold target ∷ is) m lv lq e =
    found_first v q (declared_as text w (Aggregate qs) owner) (declared_from text xs (suc qs) (owned_from n owner is)) name m
    (omega arith) (found_below text name v q xs (suc qs) n owner is m lv (omega arith)) e
found_below text name v q xs qs n owner (Constraint at w args ∷ is) m lv lq e = found_below text name v q xs qs n owner is m lv lq e

-- the numbers that names stand for fit their identifiers
pub meant_below : (text : List ℕ) (items : List Item) → IsMakeable text items → (name : List ℕ) (m : Meant) → Some m ≡ look_up (declared text items) name → IsBelow 500 255 m.named
meant_below text items h name m e =
    found_below text name 500 255 0 0 0 0 items m (few_variables text 0 0 0 0 items (omega arith) h.limits) (few_aggregates text 0 0 0 0 items (omega arith) h.limits) (sym e)

pub integer_below : (text : List ℕ) (items : List Item) → IsMakeable text items → (name : List ℕ) (m : Meant) (k : ℕ) → Some m ≡ look_up (declared text items) name → m.named ≡ Integer k → k < 500
integer_below text items h name m k e is = subst (IsBelow 500 255) is (meant_below text items h name m e)

pub boolean_below : (text : List ℕ) (items : List Item) → IsMakeable text items → (name : List ℕ) (m : Meant) (k : ℕ) → Some m ≡ look_up (declared text items) name → m.named ≡ Boolean k → k < 500
boolean_below text items h name m k e is = subst (IsBelow 500 255) is (meant_below text items h name m e)

pub aggregate_below : (text : List ℕ) (items : List Item) → IsMakeable text items → (name : List ℕ) (m : Meant) (k : ℕ) → Some m ≡ look_up (declared text items) name → m.named ≡ Aggregate k → k < 255
aggregate_below text items h name m k e is = subst (IsBelow 500 255) is (meant_below text items h name m e)

pub scopes_few : (text : List ℕ) (items : List Item) → IsMakeable text items → 0 + scope_count items ≤ 64
scopes_few text items h = few_scopes text 0 0 0 0 items (omega arith) h.limits

-- each head makes a scope
made_scopes : (text : List ℕ) (ds : List Declared) (n owner : ℕ) (items : List Item) → length (filter_map (scope_of text ds) (owned_from n owner items)) ≡ scope_count items
made_scopes text ds n owner [] = refl
made_scopes text ds n owner (ExistsItem at condition ∷ is) = ap suc (made_scopes text ds (suc n) n is)
made_scopes text ds n owner (ForallItem at ∷ is) = ap suc (made_scopes text ds (suc n) n is)
made_scopes text ds n owner (GoalItem ∷ is) = made_scopes text ds n n is
made_scopes text ds n owner (Variable at domain name ∷ is) = made_scopes text ds n owner is
made_scopes text ds n owner (AggregateItem at name fold target ∷ is) = made_scopes text ds n owner is
made_scopes text ds n owner (Constraint at name args ∷ is) = made_scopes text ds n owner is

pub made_few : (text : List ℕ) (items : List Item) → IsMakeable text items → length (game_of text items).scopes ≤ 64
made_few text items h = let few = scopes_few text items h in let made = made_scopes text (declared text items) 0 0 items in omega (arith, few, made)
