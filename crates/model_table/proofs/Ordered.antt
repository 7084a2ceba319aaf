-- A valid game is in order: its domains have values, and constraints see no variable of a later scope.
use Rattle.std.proofs.Common.{◌≡◌, inl, inr, ℕ, zero, suc, ◌+◌, ◌≤◌, ◌<◌, Bool, true, false, ◌&&◌, ◌||◌, not, cond, List, [], ◌∷◌, length, map, refl, sym, ap, subst, arith, Option, Some, None, slice_get, nat_lt, nat_le, add-one}
use Rattle.std.specs.Prelude.{int_lt, int_le, ◌-ℤ◌, nat_abs}
use Rattle.std.specs.List.{list_all, count_by}
use Rattle.std.proofs.lemmas.Int.{ints}
use Rattle.std.proofs.lemmas.Bool.Decides.{nat_tests}
use Rattle.std.proofs.lemmas.Bool.{and_parts}
use Rattle.qc_model.specs.declared.problem.Domain.{Domain}
use Rattle.qc_model.specs.declared.problem.Domain.TheVariants.{Bits, Range, Listed}
use Rattle.qc_model.specs.declared.problem.Variable.{Variable}
use Rattle.qc_model.specs.declared.problem.Arg.{Arg}
use Rattle.qc_model.specs.declared.problem.Arg.TheVariants.{Var, Num}
use Rattle.qc_model.specs.declared.problem.Argument.{Argument}
use Rattle.qc_model.specs.declared.problem.Argument.TheVariants.{One, Many, Numbers, Members}
use Rattle.qc_model.specs.Content.{Game, Rule}
use Rattle.qc_model.specs.Lists.{Among, numbers_from}
use Rattle.qc_model.specs.Domains.{domain_values, is_none_left, has_empty}
use Rattle.qc_model.specs.Valid.{IsValid, is_domain, is_range, is_number, domain_width, is_listed, has_gap, width_of, is_in_order, is_declared_by, arg_sees, argument_sees, is_constraint}
use Rattle.qc_model.specs.Visible.{ArgBelow, ArgsBelow, ArgumentBelow, ArgumentsBelow}
use Rattle.qc_model.specs.Table.{IsOrdered}
use Rattle.qc_model.proofs.Sound.{differ, is_false}
use Rattle.model_table.proofs.Fits.{all_at}
use Rattle.model_table.proofs.Crowded.{count_step}
use Rattle.model_table.proofs.Kinded.{sees_all}

among_place : {X : Type 0} (xs : List X) (k : ℕ) (x : X) → slice_get xs k ≡ Some x → Among x xs
among_place [] k x e = absurd (none_some x e)
  where
    none_some : {X : Type 0} (x : X) → None ≡ Some x → ⊥
    none_some x e = cc
among_place (y ∷ xs) zero x e = inl (some_same x y (sym e))
  where
    some_same : {X : Type 0} (s t : X) → Some s ≡ Some t → s ≡ t
    some_same s t e = cc
among_place (y ∷ xs) (suc k) x e = inr (among_place xs k x e)

has_values : (d : Domain) → is_domain d ≡ true → is_none_left (domain_values d) ≡ false
has_values Bits e = refl
has_values (Range low high) e =
    let p = and_parts (is_range low high) (nat_le (domain_width (Range low high)) 1048576) e in
    let q = and_parts (is_number low && is_number high) (int_le low high) p.0 in
    by (int_lt high low) refl q.1
  where
    by : (b : Bool) → int_lt high low ≡ b → int_le low high ≡ true → is_none_left (cond b [] (numbers_from low (nat_abs (high -ℤ low) + 1))) ≡ false
    by true f m = absurd (omega (arith, ints))
    by false f m = subst (λ (n : ℕ). is_none_left (numbers_from low n) ≡ false) (sym (add-one (nat_abs (high -ℤ low)))) refl
has_values (Listed ns) e =
    let p = and_parts (not (is_none_left ns) && is_listed ns && has_gap ns) (nat_le (width_of ns) 1048576) e in
    let q = and_parts (not (is_none_left ns) && is_listed ns) (has_gap ns) p.0 in
    is_false (is_none_left ns) (and_parts (not (is_none_left ns)) (is_listed ns) q.0).0

none_empty : (xs : List Variable) → list_all (λ x. is_domain x.domain) xs ≡ true → has_empty (map (λ x. domain_values x.domain) xs) ≡ false
none_empty [] e = refl
none_empty (x ∷ xs) e =
    let p = and_parts (is_domain x.domain) (list_all (λ y. is_domain y.domain) xs) e in
    neither (is_none_left (domain_values x.domain)) (has_empty (map (λ y. domain_values y.domain) xs)) (has_values x.domain p.0) (none_empty xs p.1)
  where
    neither : (a b : Bool) → a ≡ false → b ≡ false → (a || b) ≡ false
    neither true b e f = e
    neither false b e f = f

-- the scopes of a list of variables, in order
abbrev scopes_of : List Variable → List ℕ
scopes_of xs = map (λ x. x.scope.0) xs

at_most_of : (a b : ℕ) → nat_le a b ≡ true → a ≤ b
at_most_of a b e = grind (arith, nat_tests)

below_of : (a b : ℕ) → nat_lt a b ≡ true → a < b
below_of a b e = grind (arith, nat_tests)

first_lowest : (n i j : ℕ) (is : List ℕ) → is_in_order n (i ∷ is) ≡ true → Among j is → i ≤ j
first_lowest n i j [] e m = absurd m
first_lowest n i j (h ∷ is) e m =
    let p = and_parts (nat_le i h) (is_in_order n (h ∷ is)) e in
    let l = at_most_of i h p.0 in
    elim m [ inl q ↦ omega arith | inr t ↦ (let r = first_lowest n h j is p.1 t in omega arith) ]

rest_in_order : (n i : ℕ) (is : List ℕ) → is_in_order n (i ∷ is) ≡ true → is_in_order n is ≡ true
rest_in_order n i [] e = refl
rest_in_order n i (h ∷ is) e = (and_parts (nat_le i h) (is_in_order n (h ∷ is)) e).1

all_below : (n i : ℕ) (is : List ℕ) → is_in_order n is ≡ true → Among i is → i < n
all_below n i [] e m = absurd m
all_below n i (j ∷ []) e m = elim m [ inl q ↦ (let l = below_of j n e in omega arith) | inr t ↦ absurd t ]
all_below n i (j ∷ h ∷ is) e m =
    let p = and_parts (nat_le j h) (is_in_order n (h ∷ is)) e in
    elim m [
      | inl q ↦ (let l = at_most_of j h p.0 in let r = all_below n h (h ∷ is) p.1 (inl refl) in omega arith)
      | inr t ↦ all_below n i (h ∷ is) p.1 t
    ]

-- how many variables stand in scopes before i
abbrev count_before : ℕ → List Variable → ℕ
count_before i xs = count_by (λ x. nat_lt x.scope.0 i) xs

scope_among : (x : Variable) (xs : List Variable) → Among x xs → Among x.scope.0 (scopes_of xs)
scope_among x [] m = absurd m
scope_among x (y ∷ xs) m = elim m [ inl e ↦ inl (ap (λ z. z.scope.0) e) | inr t ↦ inr (scope_among x xs t) ]

-- a variable of scope i or earlier is among the first
stands_before : (n i : ℕ) (xs : List Variable) (k : ℕ) (x : Variable) → is_in_order n (scopes_of xs) ≡ true → slice_get xs k ≡ Some x → x.scope.0 ≤ i → k < count_before (suc i) xs
stands_before n i [] k x o e l = absurd (none_some e)
  where
    none_some : None ≡ Some x → ⊥
    none_some e = cc
stands_before n i (y ∷ xs) k x o e l =
    subst (λ (c : ℕ). k < c) (sym (count_step (λ z. nat_lt z.scope.0 (suc i)) y xs)) (at (λ j f. stands_before n i xs j x (rest_in_order n y.scope.0 (scopes_of xs) o) f l) k e (nat_lt y.scope.0 (suc i)) refl)
  where
    first : (k : ℕ) → slice_get (y ∷ xs) k ≡ Some x → y.scope.0 ≤ i
    first k e = elim (among_place (y ∷ xs) k x e) [
      | inl q ↦ subst (λ (z : Variable). z.scope.0 ≤ i) q l
      | inr t ↦ (let r = first_lowest n y.scope.0 x.scope.0 (scopes_of xs) o (scope_among x xs t) in omega arith)
    ]

    fails : (a b : ℕ) → a ≤ b → nat_lt a (suc b) ≡ false → ⊥
    fails a b h q = grind (arith, nat_tests)

    at : ((j : ℕ) → slice_get xs j ≡ Some x → j < count_before (suc i) xs) → (k : ℕ) → slice_get (y ∷ xs) k ≡ Some x → (b : Bool) → nat_lt y.scope.0 (suc i) ≡ b → k < cond b 1 0 + count_before (suc i) xs
    at f k e false q = absurd (fails y.scope.0 i (first k e) q)
    at f zero e true q = omega arith
    at f (suc k) e true q = let r = f k e in omega arith

module _ (xs : List Variable) (n i : ℕ) (o : is_in_order n (scopes_of xs) ≡ true) where
  place_below : (k : ℕ) (x : Variable) → slice_get xs k ≡ Some x → is_declared_by i (Some x) ≡ true → k < count_before (suc i) xs
  place_below k x e d = stands_before n i xs k x o e (at_most_of x.scope.0 i d)

  arg_below : (a : Arg) → arg_sees xs i a ≡ true → ArgBelow (count_before (suc i) xs) a
  arg_below (Var v) e = by (slice_get xs v.0) refl e
    where
      by : (r : Option Variable) → slice_get xs v.0 ≡ r → is_declared_by i r ≡ true → v.0 < count_before (suc i) xs
      by None q d = absurd (differ d)
      by (Some x) q d = place_below v.0 x q d
  arg_below (Num m) e = tt

  args_below : (items : List Arg) → list_all (arg_sees xs i) items ≡ true → ArgsBelow (count_before (suc i) xs) items
  args_below [] e = tt
  args_below (a ∷ items) e = let p = and_parts (arg_sees xs i a) (list_all (arg_sees xs i) items) e in (arg_below a p.0, args_below items p.1)

  argument_below : (a : Argument) → argument_sees xs i a ≡ true → ArgumentBelow (count_before (suc i) xs) a
  argument_below (One a) e = arg_below a e
  argument_below (Many items) e = args_below items e
  argument_below (Numbers ns) e = tt
  argument_below (Members s) e = tt

  arguments_below : (args : List Argument) → list_all (argument_sees xs i) args ≡ true → ArgumentsBelow (count_before (suc i) xs) args
  arguments_below [] e = tt
  arguments_below (a ∷ args) e =
      let p = and_parts (argument_sees xs i a) (list_all (argument_sees xs i) args) e in
      (argument_below a p.0, arguments_below args p.1)

-- no variable stands in scope n
none_after : (n : ℕ) (xs : List Variable) → ((x : Variable) → Among x xs → x.scope.0 < n) → count_before (suc n) xs ≡ count_before n xs
none_after n [] h = refl
none_after n (x ∷ xs) h =
    omega (arith, count_step (λ y. nat_lt y.scope.0 (suc n)) x xs, count_step (λ y. nat_lt y.scope.0 n) x xs, none_after n xs (λ y m. h y (inr m)), both_one x.scope.0 (h x (inl refl)))
  where
    one_if : Bool → ℕ
    one_if b = cond b 1 0

    both_one : (a : ℕ) → a < n → one_if (nat_lt a (suc n)) ≡ one_if (nat_lt a n)
    both_one a l = grind (arith, nat_tests)

pub constraint_at : (g : Game) → IsValid g → (k : ℕ) (c : Rule) → slice_get g.constraints k ≡ Some c → is_constraint g.variables c ≡ true
constraint_at g v k c e = all_at (is_constraint g.variables) g.constraints c v.constraints (among_place g.constraints k c e)

pub valid_ordered : (g : Game) → IsValid g → IsOrdered g
valid_ordered g v = record {
  no_empty = none_empty g.variables v.domains;
  visible = λ k c e. arguments_below g.variables (length g.scopes) c.owner.0 v.variable_order c.args (sees_all g.variables c (constraint_at g v k c e));
  goal = none_after (length g.scopes) g.variables (λ x m. all_below (length g.scopes) x.scope.0 (scopes_of g.variables) v.variable_order (scope_among x g.variables m));
}
