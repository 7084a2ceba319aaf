-- What a part of a problem needs to be spelled and read: names are names, and numbers and truth values are such.
use Rattle.std.proofs.Common.{Bool, true, false, ◌&&◌, List, [], ◌∷◌}
use Rattle.std.specs.Prelude.{ℤ, Option, Some, None, slice_get}
use Rattle.std.specs.List.{list_all}
use Rattle.qc_model.specs.declared.problem.Kind.{Kind}
use Rattle.qc_model.specs.declared.problem.Kind.TheVariants.{Exists, Forall}
use Rattle.qc_model.specs.declared.problem.Domain.{Domain}
use Rattle.qc_model.specs.declared.problem.Domain.TheVariants.{Bits, Range, Listed}
use Rattle.qc_model.specs.declared.problem.Set.{Set}
use Rattle.qc_model.specs.declared.problem.Set.TheVariants.{Range as SetRange, Listed as SetListed}
use Rattle.qc_model.specs.declared.problem.Arg.{Arg}
use Rattle.qc_model.specs.declared.problem.Arg.TheVariants.{Var, Num}
use Rattle.qc_model.specs.declared.problem.Argument.{Argument}
use Rattle.qc_model.specs.declared.problem.Argument.TheVariants.{One, Many, Numbers, Members}
use Rattle.qc_model.specs.declared.problem.Condition.{Condition}
use Rattle.qc_model.specs.declared.problem.Variable.{Variable}
use Rattle.qc_model.specs.declared.signature.ArgKind.{ArgKind}
use Rattle.qc_model.specs.declared.signature.ArgKind.TheVariants.{Integer as integer, Boolean as boolean, Integers as integers, Booleans as booleans, Numbers as numbers, Truths as truths, Members as members}
use Rattle.qc_model.specs.Content.{Game}
use Rattle.qc_model.specs.Signature.{arg_kinds_of}
use Rattle.qc_model.specs.Names.{is_name}
use Rattle.qc_model.specs.Valid.{is_number, is_truth, is_fold}
use Rattle.qc_model.specs.Canonical.{variable_name, target_name}
use Rattle.text_reread.specs.Parts.{Part, head, variable, aggregate, constraint, goal}

-- a literal is a truth value or a number, as its sort asks
abbrev pub fits_literal : ArgKind → ℤ → Bool
fits_literal boolean n = is_truth n
fits_literal booleans n = is_truth n
fits_literal truths n = is_truth n
fits_literal integer n = is_number n
fits_literal integers n = is_number n
fits_literal numbers n = is_number n
fits_literal members n = false

-- a variable has a name
abbrev pub fits_arg : List Variable → ArgKind → Arg → Bool
fits_arg xs s (Var x) = is_name (variable_name (slice_get xs x.0))
fits_arg xs s (Num n) = fits_literal s n

-- a set of numbers
abbrev pub fits_set : Set → Bool
fits_set (SetRange low high) = is_number low && is_number high
fits_set (SetListed ns) = list_all is_number ns

-- a domain of numbers, or of truth values
abbrev pub fits_domain : Domain → Bool
fits_domain Bits = true
fits_domain (Range low high) = is_number low && is_number high
fits_domain (Listed ns) = list_all is_number ns

-- each item of an argument fits its sort
abbrev pub fits_argument : List Variable → ArgKind → Argument → Bool
fits_argument xs s (One a) = fits_arg xs s a
fits_argument xs s (Many items) = list_all (fits_arg xs s) items
fits_argument xs s (Numbers ns) = list_all (fits_literal s) ns
fits_argument xs s (Members m) = fits_set m

-- an argument for each sort
abbrev pub fits_arguments : List Variable → List ArgKind → List Argument → Bool
fits_arguments xs [] [] = true
fits_arguments xs [] (a ∷ args) = false
fits_arguments xs (s ∷ sorts) [] = false
fits_arguments xs (s ∷ sorts) (a ∷ args) = fits_argument xs s a && fits_arguments xs sorts args

-- only an existential scope has a condition
abbrev pub fits_head : Game → Kind → Option Condition → Bool
fits_head g Exists None = true
fits_head g Exists (Some c) = is_name (target_name g c.target)
fits_head g Forall None = true
fits_head g Forall (Some c) = false

-- a part whose names are names and whose arguments fit
abbrev pub fits_part : Game → Part → Bool
fits_part g (head s) = fits_head g s.kind s.condition
fits_part g (variable x) = is_name x.name && fits_domain x.domain
fits_part g (aggregate q) = is_name q.name && (is_name (target_name g q.target) && is_fold q.fold)
fits_part g (constraint c) = fits_arguments g.variables (arg_kinds_of c.pred) c.args
fits_part g goal = true
