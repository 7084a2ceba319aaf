-- Which arguments each predicate takes, and its name.
use Rattle.std.specs.Prelude.{ℕ, List}
pub use Rattle.qc_model.specs.declared.signature.ArgKind.{ArgKind}
pub use Rattle.qc_model.specs.declared.signature.ArgKind.TheVariants.{Integer as integer, Boolean as boolean, Integers as integers, Booleans as booleans, Numbers as numbers, Truths as truths, Members as members}
use Rattle.qc_model.specs.declared.problem.Pred.{Pred}
use Rattle.qc_model.specs.Meaning.{row_of}

-- how many numbers braces may have
abbrev pub most_in_braces : ℕ
most_in_braces = 100000

-- how many items an array may have where an argument of this kind stands: fewer where they may be variables
abbrev pub most_items : ArgKind → ℕ
most_items integers = 1000
most_items booleans = 1000
most_items _ = 100000

abbrev pub arg_kinds_of : Pred → List ArgKind
arg_kinds_of p = (row_of p).kinds

-- as the problem text writes it
abbrev pub pred_name : Pred → List ℕ
pred_name p = (row_of p).name
