-- Boxes that keep some values alone, and restrictions that look at their own variables alone.
use Rattle.std.specs.Prelude.{◌≡◌, ◌≤◌, ℕ, List, [], ◌∷◌, slice_get, Some, ⊤, ℤ}
use Rattle.qc_model.specs.declared.problem.Arg.{Arg}
use Rattle.qc_model.specs.declared.problem.Arg.TheVariants.{Var, Num}
use Rattle.qc_model.specs.declared.problem.Argument.{Argument}
use Rattle.qc_model.specs.declared.problem.Argument.TheVariants.{One, Many, Numbers, Members}
use Rattle.qc_model.specs.Content.{Game, Rule}
use Rattle.qc_model.specs.Domains.{Box, declared_box, values_left, box_at}
use Rattle.qc_model.specs.Game.{before}

-- a variable and the value that it keeps
pub record Kept : Type 0 where
  pub variable : ℕ
  pub value : ℤ

-- the declared domains, but for the variables that keep a value
abbrev pub kept_box : Game → List Kept → Box
kept_box g [] = declared_box g
kept_box g (k ∷ ks) = box_at (kept_box g ks) k.variable k.value

-- the box has these values
abbrev pub HasKept : List Kept → Box → Type 0
HasKept [] box = ⊤
HasKept (k ∷ ks) box = (values_left box k.variable ≡ k.value ∷ []) × HasKept ks box

-- the arguments name only variables from n on
abbrev pub ArgFrom : ℕ → Arg → Type 0
ArgFrom n (Var x) = n ≤ x.0
ArgFrom n (Num v) = ⊤

abbrev pub ArgsFrom : ℕ → List Arg → Type 0
ArgsFrom n [] = ⊤
ArgsFrom n (x ∷ xs) = ArgFrom n x × ArgsFrom n xs

abbrev pub ArgumentFrom : ℕ → Argument → Type 0
ArgumentFrom n (One x) = ArgFrom n x
ArgumentFrom n (Many xs) = ArgsFrom n xs
ArgumentFrom n (Numbers ns) = ⊤
ArgumentFrom n (Members s) = ⊤

abbrev pub ArgumentsFrom : ℕ → List Argument → Type 0
ArgumentsFrom n [] = ⊤
ArgumentsFrom n (x ∷ args) = ArgumentFrom n x × ArgumentsFrom n args

-- the restriction of scope i looks at its own variables alone
abbrev pub LooksAtOwn : Game → ℕ → Type 0
LooksAtOwn g i = (k : ℕ) (c : Rule) → slice_get g.constraints k ≡ Some c → c.owner.0 ≡ i → ArgumentsFrom (before g i) c.args
