-- Sums that are to be no such number.
use Rattle.std.specs.Prelude.{◌≡◌, ℕ, Bool, not, ◌&&◌, List, map, get_or, ℤ, pos, ◌+ℤ◌, ◌*ℤ◌}
use Rattle.std.specs.Ordering.{int_eq}
use Rattle.qc_model.specs.declared.problem.Arg.{Arg}
use Rattle.qc_model.specs.declared.problem.Arg.TheVariants.{Num}
use Rattle.qc_model.specs.Content.{Rule}
use Rattle.qc_model.specs.Domains.{Values, Box, is_single}
use Rattle.qc_model.specs.Left.{sum_range}
use Rattle.qc_model.specs.Ranges.{is_point}
use Rattle.qc_model.specs.Refuted.{left_to, refuted_by}
use Rattle.prop_linear.specs.Tightening.{AlikeOutside, AreOwn, term_of}

-- a factor times one of these values can still be more than one number
abbrev pub is_loose : ℤ → Values → Bool
is_loose a d = not (int_eq a (pos 0)) && not (is_single d)

-- a constraint that says no more than that a sum isn't a number, while nothing but its items changes
pub record IsUnequal (c : Rule) (box : Box) (ns : List ℤ) (xs : List Arg) (bound : ℤ) : Type 0 where
  pub refuted : (other : Box) → AlikeOutside xs box other → refuted_by c other ≡ is_point bound (sum_range ns (map (left_to other) xs))
  pub own : AreOwn c box xs

-- the term at a place
abbrev pub loose_at : List ℤ → List Arg → Box → ℕ → Bool
loose_at ns xs box k = is_loose (get_or ns k (pos 0)) (left_to box (get_or xs k (Num (pos 0))))

-- a sum whose least is this is the bound where the term of this factor, of these values, takes v
abbrev pub IsHit : ℤ → ℤ → Values → ℤ → ℤ → Type 0
IsHit least a d bound v = least +ℤ (a *ℤ v) ≡ bound +ℤ (term_of a d).from
