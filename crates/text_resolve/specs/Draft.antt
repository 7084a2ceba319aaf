-- The problem that the items of a text make.
use Rattle.std.specs.Prelude.{ℕ, Bool, true, false, cond, List, [], ◌∷◌, map, filter_map, fold, Option, None, Some, ℤ, pos, int_lt, int_le}
use Rattle.std.specs.Ordering.{int_eq}
use Rattle.qc_model.specs.declared.problem.Kind.TheVariants.{Exists, Forall}
use Rattle.qc_model.specs.declared.problem.Fold.{Fold}
use Rattle.qc_model.specs.declared.problem.Fold.TheVariants.{Sum, Least, Greatest}
use Rattle.qc_model.specs.declared.problem.Target.{Target}
use Rattle.qc_model.specs.declared.problem.Target.TheVariants.{Var as VarTarget, Aggregate as AggregateTarget}
use Rattle.qc_model.specs.declared.problem.Domain.{Domain}
use Rattle.qc_model.specs.declared.problem.Domain.TheVariants.{Bits, Range as RangeDomain, Listed as ListedDomain}
use Rattle.qc_model.specs.declared.problem.Set.{Set}
use Rattle.qc_model.specs.declared.problem.Set.TheVariants.{Range as RangeSet, Listed as ListedSet}
use Rattle.qc_model.specs.declared.problem.Arg.{Arg}
use Rattle.qc_model.specs.declared.problem.Arg.TheVariants.{Var, Num}
use Rattle.qc_model.specs.declared.problem.Argument.{Argument as ModelArgument}
use Rattle.qc_model.specs.declared.problem.Argument.TheVariants.{One as ModelOne, Many, Numbers, Members as ModelMembers}
use Rattle.qc_model.specs.declared.problem.Condition.{Condition}
use Rattle.qc_model.specs.declared.problem.Scope.{Scope}
use Rattle.qc_model.specs.declared.problem.Variable.{Variable as ModelVariable}
use Rattle.qc_model.specs.declared.problem.Aggregate.{Aggregate as ModelAggregate}
use Rattle.qc_model.specs.declared.problem.Pred.{Pred}
use Rattle.qc_model.specs.Content.{Game, Rule}
use Rattle.qc_model.specs.Domains.{least_value, greatest_value}
use Rattle.qc_model.specs.Valid.{has_gap}
use Rattle.qc_model.specs.declared.signature.ArgKind.{ArgKind}
use Rattle.qc_model.specs.declared.signature.ArgKind.TheVariants.{Numbers as numbers, Truths as truths}
use Rattle.qc_model.specs.Signature.{arg_kinds_of}
use Rattle.text_grammar.specs.declared.tree.Word.{Word}
use Rattle.text_grammar.specs.declared.tree.One.{One}
use Rattle.text_grammar.specs.declared.tree.One.TheVariants.{Name as OneName, Number as OneNumber, Truth as OneTruth}
use Rattle.text_grammar.specs.declared.tree.Members.{Members}
use Rattle.text_grammar.specs.declared.tree.Members.TheVariants.{Range, Braces}
use Rattle.text_grammar.specs.declared.tree.DomainText.{DomainText}
use Rattle.text_grammar.specs.declared.tree.DomainText.TheVariants.{Bits as BitsDomain, Members as MembersDomain}
use Rattle.text_grammar.specs.declared.tree.ArgumentText.{ArgumentText}
use Rattle.text_grammar.specs.declared.tree.ArgumentText.TheVariants.{One as OneArgument, Members as MembersArgument, Array}
use Rattle.text_grammar.specs.declared.tree.ConditionText.{ConditionText}
use Rattle.text_grammar.specs.declared.tree.FoldText.{FoldText}
use Rattle.text_grammar.specs.declared.tree.FoldText.TheVariants.{Sum as SumFold, Least as LeastFold, Greatest as GreatestFold}
use Rattle.text_grammar.specs.declared.tree.Item.{Item}
use Rattle.text_grammar.specs.declared.tree.Item.TheVariants.{Exists as ExistsItem, Forall as ForallItem, Goal as GoalItem, Variable, Aggregate as AggregateItem, Constraint}
use Rattle.text_resolve.specs.declared.names.Named.TheVariants.{Integer, Boolean, Aggregate}
use Rattle.text_resolve.specs.declared.names.Meant.{Meant}
use Rattle.text_resolve.specs.Owned.{Owned, owned, word_bytes}
use Rattle.text_resolve.specs.Names.{Declared, declared, look_up}
use Rattle.text_resolve.specs.Numbers.{number_values}
use Rattle.text_resolve.specs.Fits.{predicate_of}

-- the numbers with one more, ascending and without repeats where they are so
abbrev pub with_number : ℤ → List ℤ → List ℤ
with_number n [] = n ∷ []
with_number n (m ∷ ms) = cond (int_lt n m) (n ∷ m ∷ ms) (cond (int_eq n m) (m ∷ ms) (m ∷ with_number n ms))

-- these numbers, ascending and without repeats
abbrev pub ascending : List ℤ → List ℤ
ascending [] = []
ascending (n ∷ ns) = with_number n (ascending ns)

-- a list without gaps is a range
abbrev pub listed_domain : List ℤ → Domain
listed_domain ns = cond (has_gap ns) (ListedDomain ns) (RangeDomain (least_value ns) (greatest_value ns))

abbrev pub domain_of : DomainText → Domain
domain_of (BitsDomain at) = Bits
domain_of (MembersDomain (Range low high)) = RangeDomain low.value high.value
domain_of (MembersDomain (Braces at ns)) = listed_domain (ascending (number_values ns))

abbrev pub listed_set : List ℤ → Set
listed_set [] = ListedSet []
listed_set (n ∷ ns) = cond (has_gap (n ∷ ns)) (ListedSet (n ∷ ns)) (RangeSet (least_value (n ∷ ns)) (greatest_value (n ∷ ns)))

-- a range whose low end is above its high end is the empty set
abbrev pub set_of : Members → Set
set_of (Range low high) = cond (int_le low.value high.value) (RangeSet low.value high.value) (ListedSet [])
set_of (Braces at ns) = listed_set (ascending (number_values ns))

-- a variable; an argument names no aggregate where it fits
abbrev pub meant_arg : Option Meant → Arg
meant_arg None = Num (pos 0)
meant_arg (Some m) = elim m.named [
  | Integer k ↦ Var (record { 0 = k })
  | Boolean k ↦ Var (record { 0 = k })
  | Aggregate k ↦ Num (pos 0)
]

abbrev pub truth_number : Bool → ℤ
truth_number true = pos 1
truth_number false = pos 0

abbrev pub arg_of : List ℕ → List Declared → One → Arg
arg_of text ds (OneName w) = meant_arg (look_up ds (word_bytes text w))
arg_of text ds (OneNumber n) = Num n.value
arg_of text ds (OneTruth b) = Num (truth_number b)

-- the number that an item stands for, where it is one or a truth value
abbrev pub literal_of : One → ℤ
literal_of (OneName w) = pos 0
literal_of (OneNumber n) = n.value
literal_of (OneTruth b) = truth_number b

-- an array of a sort that may hold variables, or of numbers alone
abbrev pub array_of : List ℕ → List Declared → ArgKind → List One → ModelArgument
array_of text ds numbers items = Numbers (map literal_of items)
array_of text ds truths items = Numbers (map literal_of items)
array_of text ds _ items = Many (map (arg_of text ds) items)

abbrev pub argument_of : List ℕ → List Declared → ArgKind → ArgumentText → ModelArgument
argument_of text ds s (OneArgument a) = ModelOne (arg_of text ds a)
argument_of text ds s (MembersArgument m) = ModelMembers (set_of m)
argument_of text ds s (Array at items) = array_of text ds s items

abbrev pub arguments_of : List ℕ → List Declared → List ArgKind → List ArgumentText → List ModelArgument
arguments_of text ds [] args = []
arguments_of text ds (s ∷ sorts) [] = []
arguments_of text ds (s ∷ sorts) (a ∷ args) = argument_of text ds s a ∷ arguments_of text ds sorts args

abbrev pub meant_target : Option Meant → Target
meant_target None = VarTarget (record { 0 = 0 })
meant_target (Some m) = elim m.named [
  | Integer k ↦ VarTarget (record { 0 = k })
  | Boolean k ↦ VarTarget (record { 0 = k })
  | Aggregate k ↦ AggregateTarget (record { 0 = k })
]

abbrev pub target_of : List ℕ → List Declared → Word → Target
target_of text ds w = meant_target (look_up ds (word_bytes text w))

abbrev pub condition_of : List ℕ → List Declared → Option ConditionText → Option Condition
condition_of text ds None = None
condition_of text ds (Some c) = Some (record { sense = c.sense; target = target_of text ds c.target })

abbrev pub fold_of : FoldText → Fold
fold_of SumFold = Sum
fold_of (LeastFold n) = Least n.value
fold_of (GreatestFold n) = Greatest n.value

abbrev pub scope_of : List ℕ → List Declared → Owned → Option Scope
scope_of text ds o = elim o.item [
  | ExistsItem at condition ↦ Some (record { kind = Exists; condition = condition_of text ds condition })
  | ForallItem at ↦ Some (record { kind = Forall; condition = None })
  | GoalItem ↦ None
  | Variable at domain name ↦ None
  | AggregateItem at name fold target ↦ None
  | Constraint at name args ↦ None
]

abbrev pub variable_of : List ℕ → Owned → Option ModelVariable
variable_of text o = elim o.item [
  | ExistsItem at condition ↦ None
  | ForallItem at ↦ None
  | GoalItem ↦ None
  | Variable at domain name ↦ Some (record { name = word_bytes text name; scope = record { 0 = o.owner }; domain = domain_of domain })
  | AggregateItem at name fold target ↦ None
  | Constraint at name args ↦ None
]

abbrev pub aggregate_of : List ℕ → List Declared → Owned → Option ModelAggregate
aggregate_of text ds o = elim o.item [
  | ExistsItem at condition ↦ None
  | ForallItem at ↦ None
  | GoalItem ↦ None
  | Variable at domain name ↦ None
  | AggregateItem at name fold target ↦
      Some (record { name = word_bytes text name; scope = record { 0 = o.owner }; fold = fold_of fold; target = target_of text ds target })
  | Constraint at name args ↦ None
]

abbrev pub rule_of : List ℕ → List Declared → ℕ → Option Pred → List ArgumentText → Option Rule
rule_of text ds owner None args = None
rule_of text ds owner (Some p) args = Some (record { owner = record { 0 = owner }; pred = p; args = arguments_of text ds (arg_kinds_of p) args })

abbrev pub constraint_of : List ℕ → List Declared → Owned → Option Rule
constraint_of text ds o = elim o.item [
  | ExistsItem at condition ↦ None
  | ForallItem at ↦ None
  | GoalItem ↦ None
  | Variable at domain name ↦ None
  | AggregateItem at name fold target ↦ None
  | Constraint at name args ↦ rule_of text ds o.owner (predicate_of (word_bytes text name)) args
]

-- the four lists of the problem
abbrev pub game_from : List ℕ → List Declared → List Owned → Game
game_from text ds os =
    record { scopes = filter_map (scope_of text ds) os; variables = filter_map (variable_of text) os; aggregates = filter_map (aggregate_of text ds) os; constraints = filter_map (constraint_of text ds) os }

abbrev pub game_of : List ℕ → List Item → Game
game_of text items = game_from text (declared text items) (owned items)
