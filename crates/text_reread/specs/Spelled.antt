-- How a problem is spelled: the chunks of each part's text.
use Rattle.std.specs.Prelude.{ℕ, List, [], ◌∷◌, ◌++◌, map, flat_map, codes, slice_get, Option, Some, None, ℤ}
use Rattle.qc_model.specs.declared.problem.Sense.{Sense}
use Rattle.qc_model.specs.declared.problem.Sense.TheVariants.{Min, Max}
use Rattle.qc_model.specs.declared.problem.Fold.{Fold}
use Rattle.qc_model.specs.declared.problem.Fold.TheVariants.{Sum, Least, Greatest}
use Rattle.qc_model.specs.declared.problem.Domain.{Domain}
use Rattle.qc_model.specs.declared.problem.Domain.TheVariants.{Bits, Range, Listed}
use Rattle.qc_model.specs.declared.problem.Set.{Set}
use Rattle.qc_model.specs.declared.problem.Set.TheVariants.{Range as SetRange, Listed as SetListed}
use Rattle.qc_model.specs.declared.problem.Arg.{Arg}
use Rattle.qc_model.specs.declared.problem.Arg.TheVariants.{Var, Num}
use Rattle.qc_model.specs.declared.problem.Argument.{Argument}
use Rattle.qc_model.specs.declared.problem.Argument.TheVariants.{One, Many, Numbers, Members}
use Rattle.qc_model.specs.declared.problem.Condition.{Condition}
use Rattle.qc_model.specs.declared.problem.Variable.{Variable}
use Rattle.qc_model.specs.Content.{Game}
use Rattle.qc_model.specs.declared.signature.ArgKind.{ArgKind}
use Rattle.qc_model.specs.declared.signature.ArgKind.TheVariants.{Integer as integer, Boolean as boolean, Integers as integers, Booleans as booleans, Numbers as numbers, Truths as truths, Members as members}
use Rattle.qc_model.specs.Signature.{arg_kinds_of, pred_name}
use Rattle.qc_model.specs.Canonical.{kind_text, truth_text, variable_name, target_name}
use Rattle.text_reread.specs.Chunks.{Chunk, word, figure, sign, dots, blank}
use Rattle.text_reread.specs.Parts.{Part, head, variable, aggregate, constraint, goal, parts_of}

-- a comma before each of these
abbrev pub commas : List (List Chunk) → List Chunk
commas [] = []
commas (t ∷ ts) = sign 44 ∷ t ++ commas ts

-- commas between these
abbrev pub between : List (List Chunk) → List Chunk
between [] = []
between (t ∷ ts) = t ++ commas ts

-- one number
abbrev pub figure_chunks : ℤ → List Chunk
figure_chunks n = figure n ∷ []

-- numbers in braces, and what stands in brackets
abbrev pub braces_chunks : List ℤ → List Chunk
braces_chunks ns = sign 123 ∷ between (map figure_chunks ns) ++ sign 125 ∷ []

abbrev pub brackets_chunks : List (List Chunk) → List Chunk
brackets_chunks ts = sign 91 ∷ between ts ++ sign 93 ∷ []

-- a range with its dots
abbrev pub range_chunks : ℤ → ℤ → List Chunk
range_chunks low high = figure low ∷ dots ∷ figure high ∷ []

-- a domain, and a set
abbrev pub domain_chunks : Domain → List Chunk
domain_chunks Bits = word (codes "bool") ∷ []
domain_chunks (Range low high) = range_chunks low high
domain_chunks (Listed ns) = braces_chunks ns

abbrev pub set_chunks : Set → List Chunk
set_chunks (SetRange low high) = range_chunks low high
set_chunks (SetListed ns) = braces_chunks ns

-- a truth value or a number, as the sort asks
abbrev pub literal_chunks : ArgKind → ℤ → List Chunk
literal_chunks boolean n = word (truth_text n) ∷ []
literal_chunks booleans n = word (truth_text n) ∷ []
literal_chunks truths n = word (truth_text n) ∷ []
literal_chunks integer n = figure n ∷ []
literal_chunks integers n = figure n ∷ []
literal_chunks numbers n = figure n ∷ []
literal_chunks members n = figure n ∷ []

-- a variable's name, or the number or truth value
abbrev pub arg_chunks : List Variable → ArgKind → Arg → List Chunk
arg_chunks xs s (Var x) = word (variable_name (slice_get xs x.0)) ∷ []
arg_chunks xs s (Num n) = literal_chunks s n

-- an argument of a sort, and the arguments of some sorts
abbrev pub argument_chunks : List Variable → ArgKind → Argument → List Chunk
argument_chunks xs s (One a) = arg_chunks xs s a
argument_chunks xs s (Many items) = brackets_chunks (map (arg_chunks xs s) items)
argument_chunks xs s (Numbers ns) = brackets_chunks (map (literal_chunks s) ns)
argument_chunks xs s (Members m) = set_chunks m

abbrev pub arguments_chunks : List Variable → List ArgKind → List Argument → List (List Chunk)
arguments_chunks xs [] args = []
arguments_chunks xs (s ∷ sorts) [] = []
arguments_chunks xs (s ∷ sorts) (a ∷ args) = argument_chunks xs s a ∷ arguments_chunks xs sorts args

-- what an aggregate joins, with the name of its target
abbrev pub fold_chunks : Fold → List ℕ → List Chunk
fold_chunks Sum name = word (codes "sum") ∷ sign 40 ∷ word name ∷ sign 41 ∷ []
fold_chunks (Least n) name =
    word (codes "least") ∷ sign 40 ∷ word name ∷ sign 41 ∷ blank 32 ∷ word (codes "else") ∷ blank 32 ∷ figure n ∷ []
fold_chunks (Greatest n) name =
    word (codes "greatest") ∷ sign 40 ∷ word name ∷ sign 41 ∷ blank 32 ∷ word (codes "else") ∷ blank 32 ∷ figure n ∷ []

-- what a scope optimises
abbrev pub sense_chunks : Sense → List Chunk
sense_chunks Min = blank 32 ∷ word (codes "minimize") ∷ blank 32 ∷ []
sense_chunks Max = blank 32 ∷ word (codes "maximize") ∷ blank 32 ∷ []

abbrev pub condition_chunks : Game → Option Condition → List Chunk
condition_chunks g None = []
condition_chunks g (Some c) = sense_chunks c.sense ++ word (target_name g c.target) ∷ []

-- the end of a line
abbrev pub line_end : List Chunk
line_end = sign 59 ∷ blank 10 ∷ []

-- a line for each part
abbrev pub part_chunks : Game → Part → List Chunk
part_chunks g (head s) = word (kind_text s.kind) ∷ condition_chunks g s.condition ++ line_end
part_chunks g (variable x) =
    word (codes "var") ∷ blank 32 ∷ domain_chunks x.domain ++ sign 58 ∷ blank 32 ∷ word x.name ∷ line_end
part_chunks g (aggregate q) =
    word (codes "aggregate") ∷ blank 32 ∷ word q.name ∷ blank 32 ∷ sign 61 ∷ blank 32 ∷ fold_chunks q.fold (target_name g q.target)
    ++ line_end
part_chunks g (constraint c) =
    word (codes "constraint") ∷ blank 32 ∷ word (pred_name c.pred) ∷ sign 40
    ∷ between (arguments_chunks g.variables (arg_kinds_of c.pred) c.args) ++ sign 41 ∷ line_end
part_chunks g goal = word (codes "goal") ∷ line_end

-- the parts of a problem, and its end
abbrev pub problem_chunks : Game → List Chunk
problem_chunks g = flat_map (part_chunks g) (parts_of g) ++ word (codes "solve") ∷ line_end
