-- The one text of a problem.
use Rattle.std.specs.Prelude.{◌==◌, ℕ, suc, List, [], ◌∷◌, ◌++◌, map, filter, flat_map, codes, cond, slice_get, Option, Some, None, ℤ, pos}
use Rattle.std.specs.Fmt.{signed_decimal}
use Rattle.std.specs.Ordering.{int_eq}
use Rattle.qc_model.specs.declared.problem.Kind.{Kind}
use Rattle.qc_model.specs.declared.problem.Kind.TheVariants.{Exists, Forall}
use Rattle.qc_model.specs.declared.problem.Sense.{Sense}
use Rattle.qc_model.specs.declared.problem.Sense.TheVariants.{Min, Max}
use Rattle.qc_model.specs.declared.problem.Fold.{Fold}
use Rattle.qc_model.specs.declared.problem.Fold.TheVariants.{Sum, Least, Greatest}
use Rattle.qc_model.specs.declared.problem.Target.{Target}
use Rattle.qc_model.specs.declared.problem.Target.TheVariants.{Var as VarTarget, Aggregate as Agg}
use Rattle.qc_model.specs.declared.problem.Domain.{Domain}
use Rattle.qc_model.specs.declared.problem.Domain.TheVariants.{Bits, Range, Listed}
use Rattle.qc_model.specs.declared.problem.Set.{Set}
use Rattle.qc_model.specs.declared.problem.Set.TheVariants.{Range as SetRange, Listed as SetListed}
use Rattle.qc_model.specs.declared.problem.Arg.{Arg}
use Rattle.qc_model.specs.declared.problem.Arg.TheVariants.{Var, Num}
use Rattle.qc_model.specs.declared.problem.Argument.{Argument}
use Rattle.qc_model.specs.declared.problem.Argument.TheVariants.{One, Many, Numbers, Members}
use Rattle.qc_model.specs.declared.problem.Condition.{Condition}
use Rattle.qc_model.specs.declared.problem.Scope.{Scope}
use Rattle.qc_model.specs.declared.problem.Variable.{Variable}
use Rattle.qc_model.specs.declared.problem.Aggregate.{Aggregate}
use Rattle.qc_model.specs.Content.{Game, Rule}
use Rattle.qc_model.specs.Signature.{ArgKind, integer, boolean, integers, booleans, numbers, truths, members, arg_kinds_of, pred_name}

-- the texts with commas between them
abbrev pub with_commas : List (List ℕ) → List ℕ
with_commas [] = []
with_commas (t ∷ ts) = t ++ flat_map (λ u. codes "," ++ u) ts

abbrev pub braces : List ℤ → List ℕ
braces ns = codes "{" ++ with_commas (map signed_decimal ns) ++ codes "}"

abbrev pub brackets : List (List ℕ) → List ℕ
brackets ts = codes "[" ++ with_commas ts ++ codes "]"

abbrev pub range_text : ℤ → ℤ → List ℕ
range_text low high = signed_decimal low ++ codes ".." ++ signed_decimal high

abbrev pub domain_text : Domain → List ℕ
domain_text Bits = codes "bool"
domain_text (Range low high) = range_text low high
domain_text (Listed ns) = braces ns

abbrev pub set_text : Set → List ℕ
set_text (SetRange low high) = range_text low high
set_text (SetListed ns) = braces ns

abbrev pub variable_name : Option Variable → List ℕ
variable_name None = []
variable_name (Some x) = x.name

abbrev pub aggregate_name : Option Aggregate → List ℕ
aggregate_name None = []
aggregate_name (Some q) = q.name

abbrev pub truth_text : ℤ → List ℕ
truth_text n = cond (int_eq n (pos 1)) (codes "true") (codes "false")

-- a variable's name, or the number or truth value
abbrev pub arg_text : (ℤ → List ℕ) → List Variable → Arg → List ℕ
arg_text literal xs (Var x) = variable_name (slice_get xs x.0)
arg_text literal xs (Num n) = literal n

abbrev pub literal_text : ArgKind → ℤ → List ℕ
literal_text boolean n = truth_text n
literal_text booleans n = truth_text n
literal_text truths n = truth_text n
literal_text integer n = signed_decimal n
literal_text integers n = signed_decimal n
literal_text numbers n = signed_decimal n
literal_text members n = signed_decimal n

abbrev pub argument_text : List Variable → ArgKind → Argument → List ℕ
argument_text xs s (One a) = arg_text (literal_text s) xs a
argument_text xs s (Many items) = brackets (map (arg_text (literal_text s) xs) items)
argument_text xs s (Numbers ns) = brackets (map (literal_text s) ns)
argument_text xs s (Members m) = set_text m

abbrev pub argument_texts : List Variable → List ArgKind → List Argument → List (List ℕ)
argument_texts xs [] args = []
argument_texts xs (s ∷ sorts) [] = []
argument_texts xs (s ∷ sorts) (a ∷ args) = argument_text xs s a ∷ argument_texts xs sorts args

abbrev pub constraint_text : List Variable → Rule → List ℕ
constraint_text xs c =
    codes "constraint " ++ pred_name c.pred ++ codes "(" ++ with_commas (argument_texts xs (arg_kinds_of c.pred) c.args) ++ codes ");\n"

abbrev pub variable_text : Variable → List ℕ
variable_text x = codes "var " ++ domain_text x.domain ++ codes ": " ++ x.name ++ codes ";\n"

abbrev pub target_name : Game → Target → List ℕ
target_name g (VarTarget x) = variable_name (slice_get g.variables x.0)
target_name g (Agg q) = aggregate_name (slice_get g.aggregates q.0)

abbrev pub fold_text : Fold → List ℕ → List ℕ
fold_text Sum name = codes "sum(" ++ name ++ codes ")"
fold_text (Least n) name = codes "least(" ++ name ++ codes ") else " ++ signed_decimal n
fold_text (Greatest n) name = codes "greatest(" ++ name ++ codes ") else " ++ signed_decimal n

abbrev pub aggregate_text : Game → Aggregate → List ℕ
aggregate_text g q = codes "aggregate " ++ q.name ++ codes " = " ++ fold_text q.fold (target_name g q.target) ++ codes ";\n"

abbrev pub sense_text : Sense → List ℕ
sense_text Min = codes " minimize "
sense_text Max = codes " maximize "

abbrev pub condition_text : Game → Option Condition → List ℕ
condition_text g None = []
condition_text g (Some c) = sense_text c.sense ++ target_name g c.target

abbrev pub kind_text : Kind → List ℕ
kind_text Exists = codes "exists"
kind_text Forall = codes "forall"

-- the constraints of scope i, or of the goal
abbrev pub constraints_text : Game → ℕ → List ℕ
constraints_text g i = flat_map (constraint_text g.variables) (filter (λ c. c.owner.0 == i) g.constraints)

-- the head of scope i, its variables, its aggregates and its constraints, each in order
abbrev pub scope_text : Game → ℕ → Scope → List ℕ
scope_text g i s =
    kind_text s.kind ++ condition_text g s.condition ++ codes ";\n"
    ++ flat_map variable_text (filter (λ x. x.scope.0 == i) g.variables)
    ++ flat_map (aggregate_text g) (filter (λ q. q.scope.0 == i) g.aggregates)
    ++ constraints_text g i

-- the scopes from i on, and then the goal
abbrev pub text_from : Game → List Scope → ℕ → List ℕ
text_from g [] i = codes "goal;\n" ++ constraints_text g i ++ codes "solve;\n"
text_from g (s ∷ later) i = scope_text g i s ++ text_from g later (suc i)

abbrev pub canonical_text : Game → List ℕ
canonical_text g = text_from g g.scopes 0
