-- The terms of a sum.
use Rattle.std.specs.Prelude.{◌≤◌, ◌==◌, ℕ, cond, List, [], ◌∷◌, length, ℤ, IsTrue}
use Rattle.std.specs.List.{list_all}
use Rattle.qc_model.specs.declared.problem.Arg.{Arg}
use Rattle.qc_model.specs.Domains.{Box}
use Rattle.qc_model.specs.Ranges.{Range, range_of, range_sum}
use Rattle.qc_model.specs.Valid.{is_number}
use Rattle.qc_refuter.specs.Met.{is_open}
use Rattle.lemma_list.specs.declared.lemma.SumLiteral.{SumLiteral}
use Rattle.lemma_list.specs.Sums.{common}

-- small factors, and few items, each with some values left
pub record AreTerms (box : Box) (ns : List ℤ) (xs : List Arg) : Type 0 where
  pub factors : IsTrue (list_all is_number ns)
  pub items : IsTrue (list_all (is_open box) xs)
  pub few : length xs ≤ 1000

-- what is known of a sum, by the sums of the constraint k too and by what the terms beyond them come to
abbrev pub with_all : List SumLiteral → ℕ → Range → Range → Range
with_all [] k beyond known = known
with_all (z ∷ sums) k beyond known =
    cond (z.c.0 == k) (common (range_sum (range_of z.lo z.hi) beyond) (with_all sums k beyond known)) (with_all sums k beyond known)
