-- Quantified Boolean formulas, and which are true.
use Rattle.std.specs.Prelude.{◌==◌, ℕ, Bool, true, false, not, ◌&&◌, ◌||◌, cond, List, [], ◌∷◌, map, flat_map}
use Rattle.std.specs.List.{list_any, list_all}
use Rattle.qc_model.specs.declared.problem.Kind.{Kind}
use Rattle.qc_model.specs.declared.problem.Kind.TheVariants.{Exists, Forall}

-- a variable, or its negation
pub record Literal : Type 0 where
  pub positive : Bool
  pub variable : ℕ

-- a quantifier with variables
pub record Block : Type 0 where
  pub kind : Kind
  pub variables : List ℕ

-- blocks of variables, and clauses over them
pub record Formula : Type 0 where
  pub blocks : List Block
  pub clauses : List (List Literal)

-- a variable with its quantifier
pub record Quantified : Type 0 where
  pub kind : Kind
  pub variable : ℕ

abbrev pub quantified : Block → List Quantified
quantified b = map (λ x. record { kind = b.kind; variable = x }) b.variables

-- the variables of a formula with their quantifiers, in order
abbrev pub prefix : List Block → List Quantified
prefix bs = flat_map quantified bs

-- the values of the variables, with another one for x
abbrev pub assign : ℕ → Bool → (ℕ → Bool) → ℕ → Bool
assign x v f y = cond (y == x) v (f y)

abbrev pub is_true_literal : (ℕ → Bool) → Literal → Bool
is_true_literal f l = cond l.positive (f l.variable) (not (f l.variable))

-- each clause has a literal that is true
abbrev pub are_true_clauses : List (List Literal) → (ℕ → Bool) → Bool
are_true_clauses cs f = list_all (list_any (is_true_literal f)) cs

-- one of the two, or both
abbrev pub by_kind : Kind → Bool → Bool → Bool
by_kind Exists p q = p || q
by_kind Forall p q = p && q

-- with the values of the variables before these, the rest of the formula is true
abbrev pub is_true_after : List Quantified → List (List Literal) → (ℕ → Bool) → Bool
is_true_after [] cs f = are_true_clauses cs f
is_true_after (q ∷ later) cs f =
    by_kind q.kind (is_true_after later cs (assign q.variable false f)) (is_true_after later cs (assign q.variable true f))

-- the formula is true; each of its variables gets a value before a clause is asked
abbrev pub is_true : Formula → Bool
is_true φ = is_true_after (prefix φ.blocks) φ.clauses (λ x. false)
