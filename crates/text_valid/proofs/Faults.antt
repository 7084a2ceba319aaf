-- What it says of a text's items that they meet no fault.
use Rattle.std.proofs.Common.{◌≡◌, refl, ◌+◌, ℕ, suc, Bool, true, false, ◌&&◌, cond, List, [], ◌∷◌, ◌++◌, flat_map, find, Option, Some, None}
use Rattle.std.specs.Prelude.{nat_le}
use Rattle.std.specs.List.{AllByRecursion}
use Rattle.std.specs.Option.{option_map}
use Rattle.qc_model.specs.Valid.{is_number}
use Rattle.qc_tokens.specs.declared.token.Token.{Token}
use Rattle.qc_tokens.specs.declared.token.Sort.{Sort}
use Rattle.qc_tokens.specs.declared.token.Sort.TheVariants.{Word as WordSort, Number as NumberSort, Sign as SignSort}
use Rattle.text_grammar.specs.declared.tree.Word.{Word}
use Rattle.text_grammar.specs.declared.tree.Item.{Item}
use Rattle.text_grammar.specs.declared.tree.Item.TheVariants.{Exists as ExistsItem, Forall as ForallItem, Goal as GoalItem, Variable, Aggregate as AggregateItem, Constraint as ConstraintItem}
use Rattle.text_resolve.specs.declared.refusal.RefusalKind.{RefusalKind}
use Rattle.text_resolve.specs.declared.refusal.RefusalKind.TheVariants.{DuplicateName, UnknownName, UnknownPredicate, WrongArguments, OutOfRange, EmptyDomain, TooWide, TooMany, NotVisible, BottleneckFirst}
use Rattle.text_resolve.specs.Owned.{owned_from, word_bytes}
use Rattle.text_resolve.specs.Names.{Declared, item_uses, first_word, is_unknown}
use Rattle.text_resolve.specs.Fits.{first_place, misfit, predicate_of}
use Rattle.text_resolve.specs.Numbers.{far_number, empty_domain, width_text, first_wide, domain_at}
use Rattle.text_resolve.specs.Excess.{or_else, past, long_domain, long_call, first_excess}
use Rattle.text_resolve.specs.TextRefusals.{Refusal, refusal_at, first_refusal_of, refusal_order, first_refusal}
use Rattle.text_valid.proofs.Each.{passed}
use Rattle.text_valid.proofs.Written.{Passes}
use Rattle.text_valid.proofs.Parts.{item_passes, is_named}

-- no fault at all is not this one, and no later one
no_fault : (k : RefusalKind) (o : Option ℕ) (later : Option Refusal) → (elim o as (λ _. Option Refusal) [ None ↦ later | Some at ↦ Some (record { kind = k; at = at }) ]) ≡ None → (o ≡ None) × (later ≡ None)
no_fault k None later h = (refl, h)
no_fault k (Some at) later h = absurd cc

each_none : (text : List ℕ) (ts : List Token) (items : List Item) (ks : List RefusalKind) → first_refusal_of ks text ts items ≡ None → AllByRecursion (λ k. refusal_at k text ts items ≡ None) ks
each_none text ts items [] h = tt
each_none text ts items (k ∷ ks) h = let t = no_fault k (refusal_at k text ts items) (first_refusal_of ks text ts items) h in (t.0, each_none text ts items ks t.1)

-- none of the faults is met
pub record NoRefusal (text : List ℕ) (ts : List Token) (items : List Item) : Type 0 where
  pub names : refusal_at DuplicateName text ts items ≡ None
  pub known : refusal_at UnknownName text ts items ≡ None
  pub predicates : refusal_at UnknownPredicate text ts items ≡ None
  pub arguments : refusal_at WrongArguments text ts items ≡ None
  pub numbers : refusal_at OutOfRange text ts items ≡ None
  pub domains : refusal_at EmptyDomain text ts items ≡ None
  pub widths : refusal_at TooWide text ts items ≡ None
  pub counts : refusal_at TooMany text ts items ≡ None
  pub sight : refusal_at NotVisible text ts items ≡ None
  pub bottlenecks : refusal_at BottleneckFirst text ts items ≡ None

-- no fault at all is none of the ten
pub no_faults : (text : List ℕ) (ts : List Token) (items : List Item) → first_refusal text ts items ≡ None → NoRefusal text ts items
no_faults text ts items h =
    let t = each_none text ts items refusal_order h in
    record { names = t.0; known = t.1.0; predicates = t.1.1.0; arguments = t.1.1.1.0; numbers = t.1.1.1.1.0; domains = t.1.1.1.1.1.0; widths = t.1.1.1.1.1.1.0; counts = t.1.1.1.1.1.1.1.0; sight = t.1.1.1.1.1.1.1.1.0; bottlenecks = t.1.1.1.1.1.1.1.1.1.0 }

no_place : (o later : Option ℕ) → (elim o as (λ _. Option ℕ) [ None ↦ later | Some at ↦ Some at ]) ≡ None → (o ≡ None) × (later ≡ None)
no_place None later h = (refl, h)
no_place (Some at) later h = absurd cc

module _ {A : Type 0} where
  -- no element has a place
  pub each_placeless : (f : A → Option ℕ) (xs : List A) → first_place f xs ≡ None → AllByRecursion (λ x. f x ≡ None) xs
  each_placeless f [] h = tt
  each_placeless f (x ∷ xs) h = let t = no_place (f x) (first_place f xs) h in (t.0, each_placeless f xs t.1)

  -- what holds of each element of two lists
  pub each_append : (P : A → Type 0) (xs ys : List A) → AllByRecursion P (xs ++ ys) → AllByRecursion P xs × AllByRecursion P ys
  each_append P [] ys h = (tt, h)
  each_append P (x ∷ xs) ys h = let t = each_append P xs ys h.1 in ((h.0, t.0), t.1)

-- what holds of all that the elements make
pub each_flat : {A B : Type 0} (P : B → Type 0) (f : A → List B) (xs : List A) → AllByRecursion P (flat_map f xs) → AllByRecursion (λ x. AllByRecursion P (f x)) xs
each_flat P f [] h = tt
each_flat P f (x ∷ xs) h = let t = each_append P (f x) (flat_map f xs) h in (t.0, each_flat P f xs t.1)

-- no word passes
pub each_wordless : (p : Word → Bool) (ws : List Word) → first_word p ws ≡ None → AllByRecursion (λ w. p w ≡ false) ws
each_wordless p [] h = tt
each_wordless p (w ∷ ws) h = go (p w) refl h (each_wordless p ws)
  where
    go : (b : Bool) → p w ≡ b → option_map (λ (v : Word). v.start) (cond b (Some w) (find p ws)) ≡ None → (first_word p ws ≡ None → AllByRecursion (λ v. p v ≡ false) ws) →
        AllByRecursion (λ v. p v ≡ false) (w ∷ ws)
    go true e h later = absurd cc
    go false e h later = (e, later h)

-- numbers that aren't far
pub near_tokens : (text : List ℕ) (ts : List Token) → AllByRecursion (λ t. far_number t ≡ None) ts → AllByRecursion (Passes is_number text) ts
near_tokens text [] h = tt
near_tokens text (t ∷ ts) h = (near t.sort h.0, near_tokens text ts h.1)
  where
    near : (s : Sort) → (elim s as (λ _. Option ℕ) [ WordSort ↦ None | NumberSort z ↦ cond (is_number z) None (Some t.start) | SignSort b ↦ None ]) ≡ None →
        (elim s as (λ _. Bool) [ WordSort ↦ true | NumberSort z ↦ is_number z | SignSort b ↦ true ]) ≡ true
    near WordSort e = refl
    near (NumberSort z) e = passed (is_number z) t.start e
    near (SignSort b) e = refl

-- the width of an item's domain is within the limit
abbrev pub is_narrow : Item → Bool
is_narrow (ExistsItem at condition) = true
is_narrow (ForallItem at) = true
is_narrow GoalItem = true
is_narrow (Variable at domain name) = nat_le (width_text domain) 1048576
is_narrow (AggregateItem at name fold target) = true
is_narrow (ConstraintItem at name args) = true

-- no place for a width, so both tests pass, and no later place
pub no_wide : (b c : Bool) (at : ℕ) (later : Option ℕ) → cond (b && c) later (Some at) ≡ None → (b ≡ true) × (c ≡ true) × (later ≡ None)
no_wide true true at later h = (refl, refl, h)
no_wide true false at later h = absurd cc
no_wide false c at later h = absurd cc

-- no domain is too wide
pub each_narrow : (total : ℕ) (items : List Item) → first_wide total items ≡ None → AllByRecursion (λ i. is_narrow i ≡ true) items
each_narrow total [] h = tt
each_narrow total (ExistsItem at condition ∷ is) h = (refl, each_narrow total is h)
each_narrow total (ForallItem at ∷ is) h = (refl, each_narrow total is h)
each_narrow total (GoalItem ∷ is) h = (refl, each_narrow total is h)
each_narrow total (Variable at domain name ∷ is) h =
    let t = no_wide (nat_le (width_text domain) 1048576) (nat_le (total + width_text domain) 4194304) (domain_at domain) (first_wide (total + width_text domain) is) h in
    (t.0, each_narrow (total + width_text domain) is t.2)
each_narrow total (AggregateItem at name fold target ∷ is) h = (refl, each_narrow total is h)
each_narrow total (ConstraintItem at name args ∷ is) h = (refl, each_narrow total is h)

-- where an item is too long in itself
abbrev pub long_item : List ℕ → Item → Option ℕ
long_item text (ExistsItem at condition) = None
long_item text (ForallItem at) = None
long_item text GoalItem = None
long_item text (Variable at domain name) = long_domain domain
long_item text (AggregateItem at name fold target) = None
long_item text (ConstraintItem at name args) = long_call (predicate_of (word_bytes text name)) args

-- neither of two places
pub neither_place : (o later : Option ℕ) → or_else o later ≡ None → (o ≡ None) × (later ≡ None)
neither_place None later h = (refl, h)
neither_place (Some at) later h = absurd cc

-- no item is too long
pub each_short : (text : List ℕ) (s v q c : ℕ) (items : List Item) → first_excess text s v q c items ≡ None → AllByRecursion (λ i. long_item text i ≡ None) items
each_short text s v q c [] h = tt
each_short text s v q c (ExistsItem at condition ∷ is) h = (refl, each_short text (suc s) v q c is (neither_place (past 64 s at) _ h).1)
each_short text s v q c (ForallItem at ∷ is) h = (refl, each_short text (suc s) v q c is (neither_place (past 64 s at) _ h).1)
each_short text s v q c (GoalItem ∷ is) h = (refl, each_short text s v q c is h)
each_short text s v q c (Variable at domain name ∷ is) h =
    let t = neither_place (long_domain domain) _ (neither_place (past 500 v at) _ h).1 in (t.0, each_short text s (suc v) q c is t.1)
each_short text s v q c (AggregateItem at name fold target ∷ is) h = (refl, each_short text s v (suc q) c is (neither_place (past 255 q at) _ h).1)
each_short text s v q c (ConstraintItem at name args ∷ is) h =
    let t = neither_place (long_call (predicate_of (word_bytes text name)) args) _ (neither_place (past 20000 c at) _ h).1 in (t.0, each_short text s v q (suc c) is t.1)

-- what an item by itself is free of
pub record IsSound (text : List ℕ) (ds : List Declared) (i : Item) : Type 0 where
  pub numbers : item_passes is_number i ≡ true
  pub known : AllByRecursion (λ w. is_unknown text ds w ≡ false) (item_uses i)
  pub fits : misfit text ds i ≡ None
  pub full : empty_domain i ≡ None
  pub narrow : is_narrow i ≡ true
  pub short : long_item text i ≡ None

-- each item is sound
pub each_sound : (text : List ℕ) (ds : List Declared) (items : List Item) → AllByRecursion (λ i. (is_named text i ≡ true) × (item_passes is_number i ≡ true)) items →
    AllByRecursion (λ i. AllByRecursion (λ w. is_unknown text ds w ≡ false) (item_uses i)) items → AllByRecursion (λ i. misfit text ds i ≡ None) items →
    AllByRecursion (λ i. empty_domain i ≡ None) items → AllByRecursion (λ i. is_narrow i ≡ true) items → AllByRecursion (λ i. long_item text i ≡ None) items →
    (n owner : ℕ) → AllByRecursion (λ o. IsSound text ds o.item) (owned_from n owner items)
each_sound text ds [] a b c d e f n owner = tt
each_sound text ds (i ∷ is) a b c d e f n owner =
    (record { numbers = a.0.1; known = b.0; fits = c.0; full = d.0; narrow = e.0; short = f.0 }, each_sound text ds is a.1 b.1 c.1 d.1 e.1 f.1 _ _)
