-- The upper values of the cases that are left out at the ends of a branch.
use Rattle.std.specs.Prelude.{ℕ, zero, suc, cond, slice_get, Option, None, Some, List, [], ◌∷◌, ◌++◌, take, drop, ℤ}
use Rattle.std.specs.Ordering.{int_eq}
use Rattle.qc_model.specs.Domains.{Values, greatest_value}
use Rattle.qc_model.specs.Verdict.{Seen, seen_skipped}
use Rattle.proof_tree.specs.Lines.{upto_lines}
use Rattle.proof_tree.specs.declared.line.Line.{Line}
use Rattle.proof_tree.specs.declared.line.Line.TheVariants.{Skip}

-- the upper value of one case for the values from the first to the last
abbrev pub upto_between : ℤ → ℤ → Option ℤ
upto_between first last = cond (int_eq first last) None (Some last)

-- that of one case that covers all these values
abbrev pub upto_all : Values → Option ℤ
upto_all [] = None
upto_all (v ∷ []) = None
upto_all (v ∷ w ∷ vs) = Some (greatest_value (v ∷ w ∷ vs))

-- that of one case that covers the first n of the values
abbrev pub upto_first : ℕ → Values → Option ℤ
upto_first zero vs = None
upto_first (suc zero) vs = None
upto_first (suc (suc n)) vs = slice_get vs (suc n)

-- the lines once one case that skips the values from the first to the last stands in place of those from start to at
abbrev pub without_before : Option ℤ → ℤ → ℕ → ℕ → List Line → List Line
without_before None first start at ls = ls
without_before (Some last) first start at ls =
    take start ls ++ ((upto_lines (upto_between first last) ++ Skip ∷ []) ++ drop at ls)

-- the lines of one case that skips the values from the first to the last, where there are such
abbrev pub skipped_between : Option ℤ → Option ℤ → List Line
skipped_between None last = []
skipped_between (Some first) None = []
skipped_between (Some first) (Some last) = upto_lines (upto_between first last) ++ Skip ∷ []

-- what is seen of it
abbrev pub seen_between : Option ℤ → Option ℤ → List Seen
seen_between None last = []
seen_between (Some first) None = []
seen_between (Some first) (Some last) = seen_skipped ∷ []
