-- Worked cases: formulas small enough to compute.
use Rattle.std.proofs.Common.{◌≡◌, refl, ℕ, Bool, true, false, List, [], ◌∷◌, None}
use Rattle.qc_model.specs.declared.problem.Kind.TheVariants.{Exists, Forall}
use Rattle.qdimacs.specs.Formula.{Literal, Block, is_true}
use Rattle.qdimacs.specs.declared.tree.NumberText.{NumberText}
use Rattle.qdimacs.specs.declared.tree.LiteralText.{LiteralText}
use Rattle.qdimacs.specs.Grammar.{File}
use Rattle.qdimacs.specs.Refusals.{formula_of, first_refusal}

abbrev holds : ℕ → Literal
holds x = record { positive = true; variable = x }

abbrev fails : ℕ → Literal
fails x = record { positive = false; variable = x }

abbrev each : List ℕ → Block
each xs = record { kind = Forall; variables = xs }

abbrev some : List ℕ → Block
some xs = record { kind = Exists; variables = xs }

-- variables 1 and 2 are equal
abbrev equal : List (List Literal)
equal = (holds 1 ∷ fails 2 ∷ []) ∷ (fails 1 ∷ holds 2 ∷ []) ∷ []

-- whatever 1 is, 2 may follow it
follows : is_true (record { blocks = each (1 ∷ []) ∷ some (2 ∷ []) ∷ []; clauses = equal }) ≡ true
follows = refl

-- but not before it is known; nor where 2 stands in no set, and so comes first
leads : is_true (record { blocks = some (2 ∷ []) ∷ each (1 ∷ []) ∷ []; clauses = equal }) ≡ false
leads = refl

-- an empty clause is false, and no clause is true
empty_clause : is_true (record { blocks = []; clauses = [] ∷ [] }) ≡ false
empty_clause = refl

no_clause : is_true (record { blocks = each (1 ∷ []) ∷ []; clauses = [] }) ≡ true
no_clause = refl

-- a variable that stands in no set comes first, so this is false though 2 could follow 1
abbrev number : ℕ → NumberText
number n = record { at = 0; value = n }

abbrev literal : Bool → ℕ → LiteralText
literal b n = record { at = 0; positive = b; variable = n }

abbrev stated : File
stated = record {
  variables = number 2;
  clauses = number 2;
  sets = record { at = 0; kind = Forall; variables = number 1 ∷ []; end = 0 } ∷ [];
  body = record { literals = literal true 1 ∷ literal false 2 ∷ []; end = 0 } ∷ record { literals = literal false 1 ∷ literal true 2 ∷ []; end = 0 } ∷ [];
}

free_first : (formula_of stated).blocks ≡ some (2 ∷ []) ∷ each (1 ∷ []) ∷ []
free_first = refl

free_is_false : is_true (formula_of stated) ≡ false
free_is_false = refl

taken : first_refusal stated ≡ None
taken = refl
