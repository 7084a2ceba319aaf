-- Sums that are to be one number, neither less nor more.
use Rattle.std.specs.Prelude.{true, false, Bool, ◌≡◌, ◌||◌, ◌<◌, ◌≤◌, ℕ, List, map, take, length, int_lt, ℤ, pos, ◌-ℤ◌, ◌<ℤ◌, IsTrue, IsFalse}
use Rattle.qc_model.specs.declared.problem.Arg.{Arg}
use Rattle.qc_model.specs.Closed.{keeps_ends}
use Rattle.qc_model.specs.Content.{Rule}
use Rattle.qc_model.specs.Domains.{Box, has_empty}
use Rattle.qc_model.specs.Left.{sum_range}
use Rattle.qc_model.specs.Refuted.{left_to, refuted_by}
use Rattle.proof_tree.specs.declared.tree.Step.{Step}
use Rattle.prop_base.specs.declared.answer.Filtered.{Filtered}
use Rattle.prop_base.specs.declared.answer.Filtered.TheVariants.{Emptied, Stable, Changed}
use Rattle.prop_linear.specs.Tightening.{AlikeOutside, AreOwn, AllNear, least_sum}

-- the greatest that the sum can be
abbrev pub greatest_sum : List ℤ → List Arg → Box → ℤ
greatest_sum ns xs box = (sum_range ns (map (left_to box) xs)).to

-- the factors of a sum, or of its negative
abbrev pub opposite : ℤ → ℤ
opposite n = pos 0 -ℤ n

abbrev pub signed : Bool → List ℤ → List ℤ
signed false ns = ns
signed true ns = map opposite ns

-- the constraint refutes each box on which the sum is above the bound, while nothing but its items changes
abbrev pub IsPast : Rule → Box → List ℤ → List Arg → ℤ → Type 0
IsPast c box ns xs bound = (other : Box) → AlikeOutside xs box other → bound <ℤ least_sum ns xs other → IsTrue (refuted_by c other)

-- a constraint that says no more than that a sum is a number, while nothing but its items changes
pub record IsBalanced (c : Rule) (box : Box) (ns : List ℤ) (xs : List Arg) (bound : ℤ) : Type 0 where
  pub refuted : (other : Box) → AlikeOutside xs box other → refuted_by c other ≡ (int_lt (greatest_sum ns xs other) bound || int_lt bound (least_sum ns xs other))
  pub own : AreOwn c box xs

-- the places before k are near: the sum to within s of its least, its negative to within t
abbrev pub AreNear : ℕ → ℕ → ℕ → List ℤ → List Arg → Box → Type 0
AreNear k s t ns xs box = AllNear s (take k ns) (take k xs) box × AllNear t (take k (signed true ns)) (take k xs) box

-- what one round over the places answers
abbrev pub IsRound : Filtered → Rule → Box → List Step → List Step → Type 0
IsRound Emptied c box steps then = IsTrue (has_empty box)
IsRound Stable c box steps then = IsFalse (has_empty box) × (then ≡ steps) × IsTrue (keeps_ends box c)
IsRound Changed c box steps then = IsFalse (has_empty box) × (length steps < length then)

-- none of the places before k moves by more than w: each is near, to within whatever is no less
abbrev pub IsWidest : ℕ → ℕ → List ℤ → List Arg → Box → Type 0
IsWidest w k ns xs box = (s t : ℕ) → w ≤ s → w ≤ t → AreNear k s t ns xs box
