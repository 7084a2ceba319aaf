-- What a comparison lets two arguments keep.
use Rattle.std.specs.Prelude.{Bool, [], ◌∷◌, int_lt, IsTrue, IsFalse}
use Rattle.qc_model.specs.declared.problem.Arg.{Arg}
use Rattle.qc_model.specs.Closed.{keeps_ends}
use Rattle.qc_model.specs.Content.{Rule}
use Rattle.qc_model.specs.Domains.{Values, Box, values_within, is_none_left, least_value, greatest_value}
use Rattle.qc_model.specs.Valid.{is_number}
use Rattle.prop_compare.specs.Compared.{IsPart, IsNarrowing, box_kept}
use Rattle.prop_compare.specs.declared.keeping.Ends.{Ends}
use Rattle.prop_compare.specs.declared.keeping.Keeping.{Keeping}

abbrev pub kept : Ends → Values → Values
kept s d = values_within s.lo s.hi d

-- some values of both are kept, all others are refuted, and no end of what is kept is
pub record IsReduction (test : Values → Values → Bool) (d e : Values) (k : Keeping) : Type 0 where
  pub first_low : IsTrue (is_number k.first.lo)
  pub first_high : IsTrue (is_number k.first.hi)
  pub second_low : IsTrue (is_number k.second.lo)
  pub second_high : IsTrue (is_number k.second.hi)
  pub some_first : IsFalse (is_none_left (kept k.first d))
  pub some_second : IsFalse (is_none_left (kept k.second e))
  pub under_first : (p : Values) → IsPart (λ v. int_lt v k.first.lo) p d → IsTrue (test p e)
  pub over_first : (p : Values) → IsPart (λ v. int_lt k.first.hi v) p d → IsTrue (test p e)
  pub under_second : (p : Values) → IsPart (λ v. int_lt v k.second.lo) p e → IsTrue (test (kept k.first d) p)
  pub over_second : (p : Values) → IsPart (λ v. int_lt k.second.hi v) p e → IsTrue (test (kept k.first d) p)
  pub first_least : IsFalse (test (least_value (kept k.first d) ∷ []) (kept k.second e))
  pub first_greatest : IsFalse (test (greatest_value (kept k.first d) ∷ []) (kept k.second e))
  pub second_least : IsFalse (test (kept k.first d) (least_value (kept k.second e) ∷ []))
  pub second_greatest : IsFalse (test (kept k.first d) (greatest_value (kept k.second e) ∷ []))

-- the same, of a box: first a, then b
pub record IsReducing (c : Rule) (box : Box) (a b : Arg) (k : Keeping) : Type 0 where
  pub first : IsNarrowing c box a k.first.lo k.first.hi
  pub second : IsNarrowing c (box_kept box a k.first.lo k.first.hi) b k.second.lo k.second.hi
  pub closed : IsTrue (keeps_ends (box_kept (box_kept box a k.first.lo k.first.hi) b k.second.lo k.second.hi) c)
