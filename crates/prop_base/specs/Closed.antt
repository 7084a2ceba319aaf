-- Removals that a constraint justifies, and variables whose ends it keeps.
use Rattle.std.specs.Prelude.{◌<◌, ℕ, Bool, true, not, ◌&&◌, length, IsTrue, IsFalse}
use Rattle.std.specs.List.{list_all}
use Rattle.qc_model.specs.declared.problem.Arg.{Arg}
use Rattle.qc_model.specs.declared.problem.Arg.TheVariants.{Var, Num}
use Rattle.qc_model.specs.declared.problem.Argument.{Argument}
use Rattle.qc_model.specs.declared.problem.Argument.TheVariants.{One, Many, Numbers, Members}
use Rattle.qc_model.specs.Content.{Rule}
use Rattle.qc_model.specs.Closed.{refutes_at}
use Rattle.qc_model.specs.Domains.{Box, box_within, values_left, values_within, is_none_left, least_value, greatest_value}
use Rattle.qc_model.specs.Refuted.{refuted_by}
use Rattle.qc_model.specs.Valid.{is_number}
use Rattle.prop_base.specs.declared.cuts.Cut.{Cut}

-- x has such values, and the constraint refutes the box that keeps these alone
pub record IsCut (c : Rule) (box : Box) (k : Cut) : Type 0 where
  pub x : k.x.0 < length box
  pub low : IsTrue (is_number k.lo)
  pub high : IsTrue (is_number k.hi)
  pub some : IsFalse (is_none_left (values_within k.lo k.hi (values_left box k.x.0)))
  pub refuted : IsTrue (refuted_by c (box_within box k.x.0 k.lo k.hi))

-- the constraint refutes neither end of x
abbrev pub keeps_at : Rule → Box → ℕ → Bool
keeps_at c box x =
    not (refutes_at c box x (least_value (values_left box x))) && not (refutes_at c box x (greatest_value (values_left box x)))

-- nor of the variables of an argument
abbrev pub keeps_arg : Rule → Box → Arg → Bool
keeps_arg c box (Var x) = keeps_at c box x.0
keeps_arg c box (Num n) = true

abbrev pub keeps_argument : Rule → Box → Argument → Bool
keeps_argument c box (One a) = keeps_arg c box a
keeps_argument c box (Many xs) = list_all (keeps_arg c box) xs
keeps_argument c box (Numbers ns) = true
keeps_argument c box (Members s) = true
