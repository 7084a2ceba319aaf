-- The steps of what is computed.
use Rattle.std.specs.Prelude.{ℕ, Bool, true, false, not, ◌&&◌, cond, List, [], ◌∷◌, slice_get, Option, Some, None, int_le}
use Rattle.qc_model.specs.declared.problem.Kind.{Kind}
use Rattle.qc_model.specs.declared.problem.Arg.{Arg}
use Rattle.qc_model.specs.declared.problem.Pred.{Pred}
use Rattle.qc_model.specs.declared.problem.Pred.TheVariants.{IntLe, IntLt, IntLinEq, IntLinLe, IntPlus, BoolLe, BoolLt}
use Rattle.qc_model.specs.Content.{Game}
use Rattle.lemma_list.specs.declared.lemma.Literal.{Literal}
use Rattle.lemma_list.specs.Places.{is_chosen_from, after_scope}
use Rattle.lemma_list.specs.Literals.{comes_after}
use Rattle.lemma_list.specs.Sums.{counts}

-- the position after the scope of a literal's variable, where this side chooses it
abbrev pub after_one : Game → Kind → Literal → ℕ
after_one g k l = cond (is_chosen_from k g 0 l.x.0) (after_scope (slice_get g.variables l.x.0)) 0

-- a literal has values, and the one after it follows
abbrev pub leads_on : Literal → List Literal → Bool
leads_on l [] = int_le l.lo l.hi
leads_on l (r ∷ rest) = int_le l.lo l.hi && comes_after l r

-- the terms that count, and of these those that aren't of variables of scopes before one
abbrev pub is_counted : Game → Option ℕ → Option ℕ → Arg → Bool
is_counted g t None x = counts g t x
is_counted g t (Some i) x = counts g t x && not (counts g (Some i) x)

-- sums, and comparisons and sums of two
abbrev pub is_sum : Pred → Bool
is_sum IntLinEq = true
is_sum IntLinLe = true
is_sum IntLe = true
is_sum BoolLe = true
is_sum IntLt = true
is_sum BoolLt = true
is_sum IntPlus = true
is_sum p = false
