-- Boxes that may differ at the items of a sum alone.
use Rattle.std.proofs.Common.{◌≡◌, ◌∙◌, sym, ap, refl, ℕ, ◌<◌, false, List, length, set, get_or, ℤ}
use Rattle.std.specs.List.{list_any}
use Rattle.qc_model.specs.declared.problem.Arg.{Arg}
use Rattle.qc_model.specs.declared.problem.Arg.TheVariants.{Var, Num}
use Rattle.qc_model.specs.declared.problem.VarId.{VarId}
use Rattle.qc_model.specs.Content.{Rule}
use Rattle.qc_model.specs.Domains.{Values, Box}
use Rattle.qc_model.specs.Refuted.{left_to}
use Rattle.model_arguments.specs.Repeats.{same_variable}
use Rattle.model_arguments.proofs.Items.{none_at, other_left}
use Rattle.prop_linear.specs.Tightening.{AlikeOutside, IsBounded}
use Rattle.prop_linear.specs.Sides.{IsPast, IsBalanced}

pub alike_same : (xs : List Arg) (box : Box) → AlikeOutside xs box box
alike_same xs box x h = refl

pub alike_more : (xs : List Arg) (a b d : Box) → AlikeOutside xs a b → AlikeOutside xs b d → AlikeOutside xs a d
alike_more xs a b d p q x h = q x h ∙ p x h

-- the variable of a place has other values
pub alike_at : (xs : List Arg) (box : Box) (k : ℕ) (x : VarId) (us : Values) (e : Arg) → k < length xs → get_or xs k e ≡ Var x → AlikeOutside xs box (set box x.0 us)
alike_at xs box k x us e l q y h = other_left box x us (Var y) (ap (same_variable (Var y)) (sym q) ∙ none_at (same_variable (Var y)) xs k e h l)

-- an argument that isn't among the items keeps its values
pub left_alike : (xs : List Arg) (box other : Box) (r : Arg) → AlikeOutside xs box other → list_any (same_variable r) xs ≡ false → left_to other r ≡ left_to box r
left_alike xs box other (Var x) f h = f x h
left_alike xs box other (Num n) f h = refl

-- what holds of a box holds of one that is alike
pub bounded_again : (c : Rule) (ns : List ℤ) (xs : List Arg) (bound : ℤ) (box new : Box) → AlikeOutside xs box new → IsBounded c box ns xs bound → IsBounded c new ns xs bound
bounded_again c ns xs bound box new f b = record {
  refuted = λ other h. b.refuted other (alike_more xs box new other f h);
  own = λ other h. b.own other (alike_more xs box new other f h);
}

pub balanced_again : (c : Rule) (ns : List ℤ) (xs : List Arg) (bound : ℤ) (box new : Box) → AlikeOutside xs box new → IsBalanced c box ns xs bound → IsBalanced c new ns xs bound
balanced_again c ns xs bound box new f b = record {
  refuted = λ other h. b.refuted other (alike_more xs box new other f h);
  own = λ other h. b.own other (alike_more xs box new other f h);
}

pub past_again : (c : Rule) (ns : List ℤ) (xs : List Arg) (bound : ℤ) (box new : Box) → AlikeOutside xs box new → IsPast c box ns xs bound → IsPast c new ns xs bound
past_again c ns xs bound box new f p other h = p other (alike_more xs box new other f h)
