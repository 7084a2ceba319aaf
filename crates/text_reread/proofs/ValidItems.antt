-- The names, numbers and arguments of a valid problem are such as its text can spell.
use Rattle.std.proofs.Common.{◌≡◌, refl, sym, ap, ◌∙◌, subst, ◌+◌, ◌&&◌, ◌||◌, ℕ, zero, suc, Bool, true, not, List, [], ◌∷◌, map, length, arith, Option, Some, None}
use Rattle.std.specs.Prelude.{ℤ, int_le, nat_le, slice_get}
use Rattle.std.specs.List.{list_all}
use Rattle.std.proofs.lemmas.Bool.{and_parts, and_from}
use Rattle.std.proofs.lemmas.List.Folds.{list_all-append, list_all-map}
use Rattle.std.proofs.lemmas.Option.{same_Some}
use Rattle.qc_model.specs.declared.problem.Kind.{Kind}
use Rattle.qc_model.specs.declared.problem.Kind.TheVariants.{Exists, Forall}
use Rattle.qc_model.specs.declared.problem.Target.{Target}
use Rattle.qc_model.specs.declared.problem.Target.TheVariants.{Var as VarTarget, Aggregate as Agg}
use Rattle.qc_model.specs.declared.problem.Domain.{Domain}
use Rattle.qc_model.specs.declared.problem.Domain.TheVariants.{Bits, Range, Listed}
use Rattle.qc_model.specs.declared.problem.Set.{Set}
use Rattle.qc_model.specs.declared.problem.Set.TheVariants.{Range as SetRange, Listed as SetListed}
use Rattle.qc_model.specs.declared.problem.Arg.{Arg}
use Rattle.qc_model.specs.declared.problem.Arg.TheVariants.{Var, Num}
use Rattle.qc_model.specs.declared.problem.Argument.{Argument}
use Rattle.qc_model.specs.declared.problem.Argument.TheVariants.{One, Many, Numbers, Members}
use Rattle.qc_model.specs.declared.problem.Scope.{Scope}
use Rattle.qc_model.specs.declared.problem.Variable.{Variable}
use Rattle.qc_model.specs.declared.problem.Aggregate.{Aggregate}
use Rattle.qc_model.specs.declared.signature.ArgKind.{ArgKind}
use Rattle.qc_model.specs.declared.signature.ArgKind.TheVariants.{Integer as integer, Boolean as boolean, Integers as integers, Booleans as booleans, Numbers as numbers, Truths as truths, Members as members}
use Rattle.qc_model.specs.Content.{Game}
use Rattle.qc_model.specs.Domains.{is_none_left, is_ascending}
use Rattle.qc_model.specs.Sees.{stands_in, IsVisibleHere, IsVisible, AtUniversal}
use Rattle.qc_model.specs.Names.{is_name}
use Rattle.qc_model.specs.Valid.{is_number, is_truth, width_of, domain_width, is_listed, has_gap, is_range, is_domain, is_set, is_variable_with, is_bits, is_integer_domain, is_integer, is_boolean, is_of_sort, are_of_sorts, is_target, IsValid}
use Rattle.qc_model.specs.Canonical.{variable_name, aggregate_name, target_name}
use Rattle.text_reread.proofs.Spellable.{fits_literal, fits_arg, fits_set, fits_domain, fits_argument, fits_arguments}

-- an element of a list passes what all pass
pub passes_at : {A : Type 0} (p : A → Bool) (xs : List A) (k : ℕ) (x : A) → list_all p xs ≡ true → slice_get xs k ≡ Some x → p x ≡ true
passes_at p [] k x h e = absurd cc
passes_at p (y ∷ ys) zero x h e = subst (λ z. p z ≡ true) (same_Some y x e) (and_parts (p y) (list_all p ys) h).0
passes_at p (y ∷ ys) (suc k) x h e = passes_at p ys k x (and_parts (p y) (list_all p ys) h).1 e

-- where one test passes, another does
pub all_change : {A : Type 0} (p q : A → Bool) → ((x : A) → p x ≡ true → q x ≡ true) → (xs : List A) → list_all p xs ≡ true → list_all q xs ≡ true
all_change p q c [] h = refl
all_change p q c (x ∷ xs) h =
    let k = and_parts (p x) (list_all p xs) h in
    and_from (q x) (list_all q xs) (c x k.0) (all_change p q c xs k.1)

-- each variable and each aggregate has a name
pub variable_names : (g : Game) → IsValid g → list_all (λ x. is_name x.name) g.variables ≡ true
variable_names g v =
    sym (list_all-map is_name (λ (x : Variable). x.name) g.variables)
    ∙ (and_parts (list_all is_name (map (λ (x : Variable). x.name) g.variables)) (list_all is_name (map (λ (q : Aggregate). q.name) g.aggregates)) (sym (list_all-append is_name (map (λ (x : Variable). x.name) g.variables) (map (λ (q : Aggregate). q.name) g.aggregates)) ∙ v.names)).0

-- and each aggregate
pub aggregate_names : (g : Game) → IsValid g → list_all (λ q. is_name q.name) g.aggregates ≡ true
aggregate_names g v =
    sym (list_all-map is_name (λ (q : Aggregate). q.name) g.aggregates)
    ∙ (and_parts (list_all is_name (map (λ (x : Variable). x.name) g.variables)) (list_all is_name (map (λ (q : Aggregate). q.name) g.aggregates)) (sym (list_all-append is_name (map (λ (x : Variable). x.name) g.variables) (map (λ (q : Aggregate). q.name) g.aggregates)) ∙ v.names)).1

-- so a variable that is used has one
variable_named : (xs : List Variable) → list_all (λ x. is_name x.name) xs ≡ true → (d : Domain → Bool) (k : ℕ) → is_variable_with d (slice_get xs k) ≡ true → is_name (variable_name (slice_get xs k)) ≡ true
variable_named xs n d k h = by (slice_get xs k) refl h
  where
    by : (o : Option Variable) → slice_get xs k ≡ o → is_variable_with d o ≡ true → is_name (variable_name o) ≡ true
    by None e t = absurd cc
    by (Some x) e t = passes_at (λ x. is_name x.name) xs k x n e

-- numbers of domains and sets
listed_fits : (ns : List ℤ) → is_listed ns ≡ true → list_all is_number ns ≡ true
listed_fits ns h = (and_parts (nat_le (length ns) 100000) (list_all is_number ns) (and_parts (nat_le (length ns) 100000 && list_all is_number ns) (is_ascending ns) h).0).1

-- a valid domain has numbers within their bounds
pub domain_fits : (d : Domain) → is_domain d ≡ true → fits_domain d ≡ true
domain_fits Bits h = refl
domain_fits (Range low high) h = (and_parts (is_number low && is_number high) (int_le low high) (and_parts (is_range low high) (nat_le (domain_width (Range low high)) 1048576) h).0).0
domain_fits (Listed ns) h =
    let a = and_parts ((not (is_none_left ns) && is_listed ns) && has_gap ns) (nat_le (width_of ns) 1048576) h in
    let b = and_parts (not (is_none_left ns) && is_listed ns) (has_gap ns) a.0 in
    let c = and_parts (not (is_none_left ns)) (is_listed ns) b.0 in
    listed_fits ns c.1

-- so has a valid set
set_fits : (s : Set) → is_set s ≡ true → fits_set s ≡ true
set_fits (SetRange low high) h = (and_parts (is_number low && is_number high) (int_le low high) h).0
set_fits (SetListed ns) h = listed_fits ns (and_parts (is_listed ns) (is_none_left ns || has_gap ns) h).0

-- an argument of a sort fits it
module _ (xs : List Variable) (named : list_all (λ x. is_name x.name) xs ≡ true) where
  -- integers, as one argument or in a list ..
  integer_fits : (s : ArgKind) → ((n : ℤ) → is_number n ≡ true → fits_literal s n ≡ true) → (a : Arg) → is_integer xs a ≡ true → fits_arg xs s a ≡ true
  integer_fits s c (Var x) h = variable_named xs named is_integer_domain x.0 h
  integer_fits s c (Num n) h = c n h

  -- .. and truth values
  boolean_fits : (s : ArgKind) → ((n : ℤ) → is_truth n ≡ true → fits_literal s n ≡ true) → (a : Arg) → is_boolean xs a ≡ true → fits_arg xs s a ≡ true
  boolean_fits s c (Var x) h = variable_named xs named is_bits x.0 h
  boolean_fits s c (Num n) h = c n h

  -- an argument of its sort fits it
  argument_fits : (s : ArgKind) (a : Argument) → is_of_sort xs s a ≡ true → fits_argument xs s a ≡ true
  argument_fits integer (One a) h = integer_fits integer (λ n k. k) a h
  argument_fits boolean (One a) h = boolean_fits boolean (λ n k. k) a h
  argument_fits integers (Many items) h =
      all_change (is_integer xs) (fits_arg xs integers) (integer_fits integers (λ n k. k)) items (and_parts (nat_le (length items) 1000) (list_all (is_integer xs) items) h).1
  argument_fits booleans (Many items) h =
      all_change (is_boolean xs) (fits_arg xs booleans) (boolean_fits booleans (λ n k. k)) items (and_parts (nat_le (length items) 1000) (list_all (is_boolean xs) items) h).1
  argument_fits numbers (Numbers ns) h = (and_parts (nat_le (length ns) 100000) (list_all is_number ns) h).1
  argument_fits truths (Numbers ns) h = (and_parts (nat_le (length ns) 100000) (list_all is_truth ns) h).1
  argument_fits members (Members m) h = set_fits m h
  argument_fits s a h = absurd cc

  -- arguments of their sorts fit them
  pub arguments_fit : (sorts : List ArgKind) (args : List Argument) → are_of_sorts xs sorts args ≡ true → fits_arguments xs sorts args ≡ true
  arguments_fit [] [] h = refl
  arguments_fit [] (a ∷ args) h = absurd cc
  arguments_fit (s ∷ sorts) [] h = absurd cc
  arguments_fit (s ∷ sorts) (a ∷ args) h =
      let k = and_parts (is_of_sort xs s a) (are_of_sorts xs sorts args) h in
      and_from (fits_argument xs s a) (fits_arguments xs sorts args) (argument_fits s a k.0) (arguments_fit sorts args k.1)

-- these stand in the list from place b on
abbrev pub StandFrom : {A : Type 0} → List A → ℕ → List A → Type 0
StandFrom all b xs = (k : ℕ) → slice_get all (b + k) ≡ slice_get xs k

-- a list stands in itself from the first place on
pub all_stand : {A : Type 0} (xs : List A) → StandFrom xs 0 xs
all_stand xs k = let e : 0 + k ≡ k = omega arith in ap (slice_get xs) e

-- the first of those that stand from place b on stands there
pub first_stands : {A : Type 0} (all : List A) (b : ℕ) (x : A) (xs : List A) → StandFrom all b (x ∷ xs) → slice_get all b ≡ Some x
first_stands all b x xs s = let e : b ≡ b + 0 = omega arith in ap (slice_get all) e ∙ s 0

-- the others stand from the next place on
pub later_stand : {A : Type 0} (all : List A) (b : ℕ) (x : A) (xs : List A) → StandFrom all b (x ∷ xs) → StandFrom all (suc b) xs
later_stand all b x xs s k = let e : suc b + k ≡ b + suc k = omega arith in ap (slice_get all) e ∙ s (suc k)

-- a target that is seen has a name
module _ (g : Game) (v : IsValid g) where
  -- what is visible at a universal scope has a name
  here_named : (i : ℕ) (t : Target) → IsVisibleHere g i t → is_target g.variables t ≡ true → is_name (target_name g t) ≡ true
  here_named i (VarTarget x) w h = variable_named g.variables (variable_names g v) is_integer_domain x.0 h
  here_named i (Agg q) w h = by (slice_get g.aggregates q.0) refl w
    where
      by : (o : Option Aggregate) → slice_get g.aggregates q.0 ≡ o → stands_in i o ≡ true → is_name (aggregate_name o) ≡ true
      by None e w = cc
      by (Some a) e w = passes_at (λ q. is_name q.name) g.aggregates q.0 a (aggregate_names g v) e

  -- what is visible after a scope has a name
  pub target_named : (later : List Scope) (i : ℕ) (t : Target) → IsVisible g later i t → is_target g.variables t ≡ true → is_name (target_name g t) ≡ true
  target_named [] i (VarTarget x) w h = variable_named g.variables (variable_names g v) is_integer_domain x.0 h
  target_named [] i (Agg q) w h = absurd w
  target_named (s ∷ later) i t w h = by s.kind w (λ u. target_named later (suc i) t u h)
    where
      by : (k : Kind) → AtUniversal k (IsVisibleHere g i t) (IsVisible g later (suc i) t) → (IsVisible g later (suc i) t → is_name (target_name g t) ≡ true) → is_name (target_name g t) ≡ true
      by Exists u more = more u
      by Forall u more = here_named i t u h
