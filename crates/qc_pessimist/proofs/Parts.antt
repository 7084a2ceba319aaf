-- Scopes, variables, aggregates and constraints of the new game are as valid as they were.
use Rattle.std.proofs.Common.{◌≡◌, refl, ap, ◌∙◌, ℕ, zero, suc, ◌+◌, ◌<◌, Bool, true, false, List, [], ◌∷◌, ◌++◌, map, length, arith}
use Rattle.std.specs.Prelude.{nat_lt, nat_le, ◌&&◌, Option, Some, None, slice_get, is_none}
use Rattle.std.specs.List.{list_all}
use Rattle.std.proofs.lemmas.Bool.Decides.{nat_tests}
use Rattle.std.proofs.lemmas.Bool.{and_parts}
use Rattle.qc_model.specs.declared.problem.Kind.{Kind}
use Rattle.qc_model.specs.declared.problem.Kind.TheVariants.{Exists, Forall}
use Rattle.qc_model.specs.declared.problem.Target.{Target}
use Rattle.qc_model.specs.declared.problem.Target.TheVariants.{Var as VarTarget, Aggregate as Agg}
use Rattle.qc_model.specs.declared.problem.Domain.{Domain}
use Rattle.qc_model.specs.declared.problem.Arg.{Arg}
use Rattle.qc_model.specs.declared.problem.Arg.TheVariants.{Var, Num}
use Rattle.qc_model.specs.declared.problem.Argument.{Argument}
use Rattle.qc_model.specs.declared.problem.Argument.TheVariants.{One, Many, Numbers, Members}
use Rattle.qc_model.specs.declared.problem.Condition.{Condition}
use Rattle.qc_model.specs.declared.problem.Scope.{Scope}
use Rattle.qc_model.specs.declared.problem.Variable.{Variable}
use Rattle.qc_model.specs.declared.problem.Aggregate.{Aggregate}
use Rattle.qc_model.specs.Content.{Game, Rule}
use Rattle.qc_model.specs.Block.{of_kind}
use Rattle.qc_model.specs.Meaning.{meaning_of}
use Rattle.qc_model.specs.declared.signature.ArgKind.{ArgKind}
use Rattle.qc_model.specs.declared.signature.ArgKind.TheVariants.{Integer as integer, Boolean as boolean, Integers as integers, Booleans as booleans, Numbers as numbers, Truths as truths, Members as members}
use Rattle.qc_model.specs.Signature.{arg_kinds_of, most_items}
use Rattle.qc_model.specs.Valid.{is_variable_with, is_bits, is_integer_domain, is_integer, is_boolean, is_of_sort, are_of_sorts, have_lengths, is_declared_by, arg_sees, argument_sees, is_constraint, is_in_order, is_target, is_condition, is_scope, is_universal, is_fold, is_aggregate_of}
use Rattle.qc_pessimist.specs.Worst.{chosen_wish}
use Rattle.qc_pessimist.specs.Opposed.{added, added_after, with_opposing, moved, move_variable, move_aggregate, move_rule, opposed_game}
use Rattle.qc_pessimist.proofs.Tables.{first_below}

-- a test that the parts keep, and that all of them pass
pub all_kept : {X Y : Type 0} (p : Y → Bool) (r : X → Bool) (f : X → Y) → ((x : X) → p (f x) ≡ r x) → (xs : List X) → list_all p (map f xs) ≡ list_all r xs
all_kept p r f e [] = refl
all_kept p r f e (x ∷ xs) = ap (λ b. b && list_all p (map f xs)) (e x) ∙ ap (λ b. r x && b) (all_kept p r f e xs)

same_all : {X : Type 0} (p r : X → Bool) → ((x : X) → p x ≡ r x) → (xs : List X) → list_all p xs ≡ list_all r xs
same_all p r e [] = refl
same_all p r e (x ∷ xs) = ap (λ b. b && list_all p xs) (e x) ∙ ap (λ b. r x && b) (same_all p r e xs)

-- variables are named by the same places
module _ (f : ℕ → ℕ) where
  variable_kept : (p : Domain → Bool) (xs : List Variable) (k : ℕ) → is_variable_with p (slice_get (map (move_variable f) xs) k) ≡ is_variable_with p (slice_get xs k)
  variable_kept p [] k = refl
  variable_kept p (x ∷ xs) zero = refl
  variable_kept p (x ∷ xs) (suc k) = variable_kept p xs k

  integer_kept : (xs : List Variable) (a : Arg) → is_integer (map (move_variable f) xs) a ≡ is_integer xs a
  integer_kept xs (Var x) = variable_kept is_integer_domain xs x.0
  integer_kept xs (Num n) = refl

  boolean_kept : (xs : List Variable) (a : Arg) → is_boolean (map (move_variable f) xs) a ≡ is_boolean xs a
  boolean_kept xs (Var x) = variable_kept is_bits xs x.0
  boolean_kept xs (Num n) = refl

  sort_kept : (xs : List Variable) (s : ArgKind) (a : Argument) → is_of_sort (map (move_variable f) xs) s a ≡ is_of_sort xs s a
  sort_kept xs integer (One a) = integer_kept xs a
  sort_kept xs boolean (One a) = boolean_kept xs a
  sort_kept xs integers (Many items) = ap (λ b. nat_le (length items) (most_items integers) && b) (same_all (is_integer (map (move_variable f) xs)) (is_integer xs) (integer_kept xs) items)
  sort_kept xs booleans (Many items) = ap (λ b. nat_le (length items) (most_items booleans) && b) (same_all (is_boolean (map (move_variable f) xs)) (is_boolean xs) (boolean_kept xs) items)
  sort_kept xs numbers (Numbers ns) = refl
  sort_kept xs truths (Numbers ns) = refl
  sort_kept xs members (Members s) = refl
  sort_kept xs _ _ = refl

  sorts_kept : (xs : List Variable) (ss : List ArgKind) (args : List Argument) → are_of_sorts (map (move_variable f) xs) ss args ≡ are_of_sorts xs ss args
  sorts_kept xs [] [] = refl
  sorts_kept xs [] (a ∷ args) = refl
  sorts_kept xs (s ∷ ss) [] = refl
  sorts_kept xs (s ∷ ss) (a ∷ args) =
      ap (λ b. b && are_of_sorts (map (move_variable f) xs) ss args) (sort_kept xs s a) ∙ ap (λ b. is_of_sort xs s a && b) (sorts_kept xs ss args)

  target_kept : (xs : List Variable) (t : Target) → is_target (map (move_variable f) xs) t ≡ is_target xs t
  target_kept xs (VarTarget x) = variable_kept is_integer_domain xs x.0
  target_kept xs (Agg q) = refl

  condition_kept : (xs : List Variable) (x : Option Condition) → is_condition (map (move_variable f) xs) x ≡ is_condition xs x
  condition_kept xs None = refl
  condition_kept xs (Some c) = target_kept xs c.target

  of_kind_kept : (k : Kind) (a b c : Bool) → a ≡ b → of_kind k a c ≡ of_kind k b c
  of_kind_kept Exists a b c e = e
  of_kind_kept Forall a b c e = refl

  pub scope_kept : (xs : List Variable) (s : Scope) → is_scope (map (move_variable f) xs) s ≡ is_scope xs s
  scope_kept xs s = of_kind_kept s.kind (is_condition (map (move_variable f) xs) s.condition) (is_condition xs s.condition) (is_none s.condition) (condition_kept xs s.condition)

-- and stand before the same owners
module _ (f : ℕ → ℕ) (up : (a b : ℕ) → a < b → f a < f b) where
  no_less : (a b : ℕ) → nat_le (f a) (f b) ≡ nat_le a b
  no_less a b = by (f a) (f b) a b (up a b) (up b a) (ap f)
    where
      by : (m n a b : ℕ) → (a < b → m < n) → (b < a → n < m) → (a ≡ b → m ≡ n) → nat_le m n ≡ nat_le a b
      by m n a b u d e = grind (arith, nat_tests)

  declared_kept : (i : ℕ) (xs : List Variable) (k : ℕ) → is_declared_by (f i) (slice_get (map (move_variable f) xs) k) ≡ is_declared_by i (slice_get xs k)
  declared_kept i [] k = refl
  declared_kept i (x ∷ xs) zero = no_less x.scope.0 i
  declared_kept i (x ∷ xs) (suc k) = declared_kept i xs k

  arg_kept : (i : ℕ) (xs : List Variable) (a : Arg) → arg_sees (map (move_variable f) xs) (f i) a ≡ arg_sees xs i a
  arg_kept i xs (Var x) = declared_kept i xs x.0
  arg_kept i xs (Num n) = refl

  argument_kept : (i : ℕ) (xs : List Variable) (a : Argument) → argument_sees (map (move_variable f) xs) (f i) a ≡ argument_sees xs i a
  argument_kept i xs (One a) = arg_kept i xs a
  argument_kept i xs (Many items) = same_all (arg_sees (map (move_variable f) xs) (f i)) (arg_sees xs i) (arg_kept i xs) items
  argument_kept i xs (Numbers ns) = refl
  argument_kept i xs (Members s) = refl

  pub constraint_kept : (xs : List Variable) (c : Rule) → is_constraint (map (move_variable f) xs) (move_rule f c) ≡ is_constraint xs c
  constraint_kept xs c =
      ap (λ b. b && have_lengths (meaning_of c.pred) c.args && list_all (argument_sees (map (move_variable f) xs) (f c.owner.0)) c.args) (sorts_kept f xs (arg_kinds_of c.pred) c.args)
      ∙ ap (λ b. are_of_sorts xs (arg_kinds_of c.pred) c.args && have_lengths (meaning_of c.pred) c.args && b)
      (same_all (argument_sees (map (move_variable f) xs) (f c.owner.0)) (argument_sees xs c.owner.0) (argument_kept c.owner.0 xs) c.args)

  -- numbers in order stay in order
  pub order_kept : (m n : ℕ) → ((a : ℕ) → a < n → f a < m) → (is : List ℕ) → is_in_order n is ≡ true → is_in_order m (map f is) ≡ true
  order_kept m n low [] h = refl
  order_kept m n low (i ∷ []) h =
      let k = low i (first_below n i [] h) in
      below (f i) k
    where
      below : (j : ℕ) → j < m → nat_lt j m ≡ true
      below j k = grind (arith, nat_tests)
  order_kept m n low (i ∷ j ∷ is) h =
      let p = and_parts (nat_le i j) (is_in_order n (j ∷ is)) h in
      join (nat_le (f i) (f j)) (is_in_order m (map f (j ∷ is))) (no_less i j ∙ p.0) (order_kept m n low (j ∷ is) p.1)
    where
      join : (a b : Bool) → a ≡ true → b ≡ true → (a && b) ≡ true
      join true b e g = g
      join false b e g = absurd cc

-- the same scope stands at the new place
scope_at : (q : ℕ → Bool) (i : ℕ) (scopes : List Scope) (k : ℕ) → slice_get (with_opposing q i scopes) (moved q i scopes k) ≡ slice_get scopes k
scope_at q i [] k = refl
scope_at q i (s ∷ later) zero = refl
scope_at q i (s ∷ later) (suc k) = past (chosen_wish (q i) s.kind s.condition) (with_opposing q (suc i) later) (moved q (suc i) later k) ∙ scope_at q (suc i) later k
  where
    past : (w : Option Condition) (rest : List Scope) (n : ℕ) → slice_get (added w ++ rest) (length (added w) + n) ≡ slice_get rest n
    past None rest n = ap (slice_get rest) (nothing n)
      where
        nothing : (n : ℕ) → 0 + n ≡ n
        nothing n = omega arith
    past (Some c) rest n = ap (slice_get (added (Some c) ++ rest)) (one n)
      where
        one : (n : ℕ) → 1 + n ≡ suc n
        one n = omega arith

pub moved_end : (q : ℕ → Bool) (i : ℕ) (scopes : List Scope) → moved q i scopes (length scopes) ≡ length (with_opposing q i scopes)
moved_end q i [] = refl
moved_end q i (s ∷ later) = ap (λ n. suc (length (added_after q i s) + n)) (moved_end q (suc i) later) ∙ joined (chosen_wish (q i) s.kind s.condition) (with_opposing q (suc i) later)
  where
    joined : (w : Option Condition) (rest : List Scope) → suc (length (added w) + length rest) ≡ suc (length (added w ++ rest))
    joined None rest = omega arith
    joined (Some c) rest = omega arith

pub aggregate_kept : (q : ℕ → Bool) (g : Game) (x : Aggregate) → is_aggregate_of (opposed_game q g) (move_aggregate (moved q 0 g.scopes) x) ≡ is_aggregate_of g x
aggregate_kept q g x =
    ap (λ s. is_universal s && is_fold x.fold && is_target (opposed_game q g).variables x.target) (scope_at q 0 g.scopes x.scope.0)
    ∙ ap (λ b. is_universal (slice_get g.scopes x.scope.0) && is_fold x.fold && b) (target_kept (moved q 0 g.scopes) g.variables x.target)

-- the added scopes ask for what the chosen ones ask
module _ (f : ℕ → ℕ) (q : ℕ → Bool) (xs : List Variable) where
  added_scopes : (b : Bool) (k : Kind) (x : Option Condition) (rest : List Scope) → of_kind k (is_condition xs x) (is_none x) ≡ true →
      list_all (is_scope (map (move_variable f) xs)) rest ≡ true → list_all (is_scope (map (move_variable f) xs)) (added (chosen_wish b k x) ++ rest) ≡ true
  added_scopes false k x rest h r = r
  added_scopes true Forall x rest h r = r
  added_scopes true Exists None rest h r = r
  added_scopes true Exists (Some c) rest h r = ap (λ b. b && list_all (is_scope (map (move_variable f) xs)) rest) (target_kept f xs c.target ∙ h) ∙ r

  pub scopes_kept : (i : ℕ) (scopes : List Scope) → list_all (is_scope xs) scopes ≡ true → list_all (is_scope (map (move_variable f) xs)) (with_opposing q i scopes) ≡ true
  scopes_kept i [] h = refl
  scopes_kept i (s ∷ later) h =
      let p = and_parts (is_scope xs s) (list_all (is_scope xs) later) h in
      ap (λ b. b && list_all (is_scope (map (move_variable f) xs)) (added_after q i s ++ with_opposing q (suc i) later)) (scope_kept f xs s ∙ p.0)
      ∙ added_scopes (q i) s.kind s.condition (with_opposing q (suc i) later) p.0 (scopes_kept (suc i) later p.1)
