-- What is kept of each variable: the constraints that mention it, with its factors in sums.
use Rattle.std.specs.Prelude.{◌≡◌, ℕ, ◌==◌, nat_lt, Bool, true, not, ◌&&◌, cond, List, [], ◌∷◌, ◌++◌, map, filter, length, slice_get, get_or, Some, ℤ, pos, ◌+ℤ◌, ◌*ℤ◌}
use Rattle.std.specs.List.{list_any, list_all}
use Rattle.qc_model.specs.declared.problem.Arg.{Arg}
use Rattle.qc_model.specs.declared.problem.Arg.TheVariants.{Var, Num}
use Rattle.qc_model.specs.Content.{Game, Rule}
use Rattle.qc_model.specs.Arguments.{variables_of}
use Rattle.qc_model.specs.Valid.{is_number}
use Rattle.model_arguments.specs.Written.{args_at, ints_at}
use Rattle.check_assignment.specs.declared.term.Term.{Term}
use Rattle.check_assignment.specs.declared.test.Test.{Test}
use Rattle.check_assignment.specs.declared.test.Test.TheVariants.{Other}
use Rattle.check_assignment.specs.declared.standing.Standing.{Standing}
use Rattle.check_assignment.specs.Balance.{test_of, slope_of}

abbrev pub Terms : Type 0
Terms = List (List Term)

-- the terms of x
abbrev pub terms_at : Terms → ℕ → List Term
terms_at ts x = get_or ts x []

-- it is of one of so many constraints
abbrev pub is_term : ℕ → Term → Bool
is_term count t = nat_lt t.rule count && is_number t.factor

-- the factors of constraint k added up
abbrev pub factor_sum : ℕ → List Term → ℤ
factor_sum k [] = pos 0
factor_sum k (t ∷ ts) = cond (t.rule == k) t.factor (pos 0) +ℤ factor_sum k ts

-- one of them is of constraint k
abbrev pub names : ℕ → List Term → Bool
names k ts = list_any (λ t. t.rule == k) ts

-- what is known of constraint k once the variable of these terms has grown by so much
abbrev pub moved : List Term → ℕ → ℤ → Standing → Standing
moved ts k step s = record { total = s.total +ℤ (factor_sum k ts *ℤ step); test = s.test; holds = s.holds && not (names k ts) }

abbrev pub term_if : Bool → ℕ → ℤ → List Term
term_if b k f = cond b (record { rule = k; factor = f } ∷ []) []

abbrev pub item_terms : ℕ → ℕ → List ℤ → List Arg → List Term
item_terms k x [] items = []
item_terms k x (f ∷ fs) [] = []
item_terms k x (f ∷ fs) (Var y ∷ items) = term_if (y.0 == x) k f ++ item_terms k x fs items
item_terms k x (f ∷ fs) (Num n ∷ items) = item_terms k x fs items

-- a term of factor 0 for each place at which x stands
abbrev pub zero_terms : ℕ → ℕ → List ℕ → List Term
zero_terms k x ys = map (λ y. record { rule = k; factor = pos 0 }) (filter (λ y. y == x) ys)

abbrev pub tested_terms : Test → ℕ → Rule → ℕ → List Term
tested_terms Other k c x = zero_terms k x (variables_of c.args)
tested_terms _ k c x = item_terms k x (ints_at c.args 0) (args_at c.args 1)

-- the terms of x that constraint k makes
abbrev pub rule_terms : ℕ → Rule → ℕ → List Term
rule_terms k c x = tested_terms (test_of c) k c x

-- x stands in the constraint
abbrev pub mentions : Rule → ℕ → Bool
mentions c x = list_any (λ y. y == x) (variables_of c.args)

-- these terms of x say how each constraint's balance grows with x, and name each that mentions x
pub record AreTermsOf (g : Game) (x : ℕ) (ts : List Term) : Type 0 where
  pub each : list_all (is_term (length g.constraints)) ts ≡ true
  pub sums : (k : ℕ) (c : Rule) → slice_get g.constraints k ≡ Some c → factor_sum k ts ≡ slope_of (test_of c) x c
  pub all : (k : ℕ) (c : Rule) → slice_get g.constraints k ≡ Some c → mentions c x ≡ true → names k ts ≡ true
