-- When an item of a text stands for a part of a problem.
use Rattle.std.specs.Prelude.{◌≡◌, ℕ, List, [], ◌∷◌, Option, None, Some, ⊤, slice_get, ℤ}
use Rattle.qc_model.specs.declared.problem.Kind.{Kind}
use Rattle.qc_model.specs.declared.problem.Kind.TheVariants.{Exists, Forall}
use Rattle.qc_model.specs.declared.problem.Fold.{Fold}
use Rattle.qc_model.specs.declared.problem.Fold.TheVariants.{Sum, Least, Greatest}
use Rattle.qc_model.specs.declared.problem.Domain.{Domain}
use Rattle.qc_model.specs.declared.problem.Domain.TheVariants.{Bits, Range as RangeDomain, Listed as ListedDomain}
use Rattle.qc_model.specs.declared.problem.Set.{Set}
use Rattle.qc_model.specs.declared.problem.Set.TheVariants.{Range as RangeSet, Listed as ListedSet}
use Rattle.qc_model.specs.declared.problem.Arg.{Arg}
use Rattle.qc_model.specs.declared.problem.Arg.TheVariants.{Var, Num}
use Rattle.qc_model.specs.declared.problem.Argument.{Argument as ModelArgument}
use Rattle.qc_model.specs.declared.problem.Argument.TheVariants.{One as ModelOne, Many, Numbers, Members as ModelMembers}
use Rattle.qc_model.specs.declared.problem.Condition.{Condition}
use Rattle.qc_model.specs.declared.problem.Variable.{Variable as ModelVariable}
use Rattle.qc_model.specs.Content.{Game}
use Rattle.qc_model.specs.declared.signature.ArgKind.{ArgKind}
use Rattle.qc_model.specs.declared.signature.ArgKind.TheVariants.{Integer as integer, Boolean as boolean, Integers as integers, Booleans as booleans, Numbers as numbers, Truths as truths}
use Rattle.qc_model.specs.Signature.{arg_kinds_of, pred_name}
use Rattle.qc_model.specs.Canonical.{variable_name, target_name}
use Rattle.text_grammar.specs.declared.tree.One.{One}
use Rattle.text_grammar.specs.declared.tree.One.TheVariants.{Name as OneName, Number as OneNumber, Truth as OneTruth}
use Rattle.text_grammar.specs.declared.tree.Members.{Members}
use Rattle.text_grammar.specs.declared.tree.Members.TheVariants.{Range, Braces}
use Rattle.text_grammar.specs.declared.tree.DomainText.{DomainText}
use Rattle.text_grammar.specs.declared.tree.DomainText.TheVariants.{Bits as BitsDomain, Members as MembersDomain}
use Rattle.text_grammar.specs.declared.tree.ArgumentText.{ArgumentText}
use Rattle.text_grammar.specs.declared.tree.ArgumentText.TheVariants.{One as OneArgument, Members as MembersArgument, Array}
use Rattle.text_grammar.specs.declared.tree.ConditionText.{ConditionText}
use Rattle.text_grammar.specs.declared.tree.FoldText.{FoldText}
use Rattle.text_grammar.specs.declared.tree.FoldText.TheVariants.{Sum as SumFold, Least as LeastFold, Greatest as GreatestFold}
use Rattle.text_grammar.specs.declared.tree.Item.{Item}
use Rattle.text_grammar.specs.declared.tree.Item.TheVariants.{Exists as ExistsItem, Forall as ForallItem, Goal as GoalItem, Variable, Aggregate as AggregateItem, Constraint}
use Rattle.text_resolve.specs.Owned.{word_bytes}
use Rattle.text_resolve.specs.Numbers.{number_values}
use Rattle.text_resolve.specs.Draft.{truth_number}
use Rattle.text_reread.specs.Parts.{Part, head, variable, aggregate, constraint, goal}

-- both lists are as long, and R holds item by item
abbrev pub Along : {A B : Type 0} → (A → B → Type 0) → List A → List B → Type 0
Along R [] [] = ⊤
Along R [] (y ∷ ys) = ⊥
Along R (x ∷ xs) [] = ⊥
Along R (x ∷ xs) (y ∷ ys) = R x y × Along R xs ys

-- a literal is a truth value or a number, as its sort asks
abbrev pub StandsLiteral : ArgKind → ℤ → One → Type 0
StandsLiteral boolean n (OneTruth b) = truth_number b ≡ n
StandsLiteral booleans n (OneTruth b) = truth_number b ≡ n
StandsLiteral truths n (OneTruth b) = truth_number b ≡ n
StandsLiteral integer n (OneNumber k) = k.value ≡ n
StandsLiteral integers n (OneNumber k) = k.value ≡ n
StandsLiteral numbers n (OneNumber k) = k.value ≡ n
StandsLiteral s n a = ⊥

abbrev pub StandsArg : List ℕ → List ModelVariable → ArgKind → Arg → One → Type 0
StandsArg text xs s (Var x) (OneName w) = word_bytes text w ≡ variable_name (slice_get xs x.0)
StandsArg text xs s (Var x) (OneNumber n) = ⊥
StandsArg text xs s (Var x) (OneTruth b) = ⊥
StandsArg text xs s (Num n) a = StandsLiteral s n a

abbrev pub StandsSet : Set → Members → Type 0
StandsSet (RangeSet low high) (Range a b) = (a.value ≡ low) × (b.value ≡ high)
StandsSet (RangeSet low high) (Braces at ns) = ⊥
StandsSet (ListedSet ms) (Range a b) = ⊥
StandsSet (ListedSet ms) (Braces at ns) = number_values ns ≡ ms

abbrev pub StandsArgument : List ℕ → List ModelVariable → ArgKind → ModelArgument → ArgumentText → Type 0
StandsArgument text xs s (ModelOne a) (OneArgument b) = StandsArg text xs s a b
StandsArgument text xs s (Many items) (Array at ones) = Along (StandsArg text xs s) items ones
StandsArgument text xs s (Numbers ns) (Array at ones) = Along (StandsLiteral s) ns ones
StandsArgument text xs s (ModelMembers m) (MembersArgument n) = StandsSet m n
StandsArgument text xs s a b = ⊥

abbrev pub StandArguments : List ℕ → List ModelVariable → List ArgKind → List ModelArgument → List ArgumentText → Type 0
StandArguments text xs [] [] [] = ⊤
StandArguments text xs (s ∷ sorts) (a ∷ args) (b ∷ bs) = StandsArgument text xs s a b × StandArguments text xs sorts args bs
StandArguments text xs sorts args bs = ⊥

abbrev pub StandsDomain : Domain → DomainText → Type 0
StandsDomain Bits (BitsDomain at) = ⊤
StandsDomain (RangeDomain low high) (MembersDomain (Range a b)) = (a.value ≡ low) × (b.value ≡ high)
StandsDomain (ListedDomain ms) (MembersDomain (Braces at ns)) = number_values ns ≡ ms
StandsDomain d m = ⊥

abbrev pub StandsFold : Fold → FoldText → Type 0
StandsFold Sum SumFold = ⊤
StandsFold (Least n) (LeastFold k) = k.value ≡ n
StandsFold (Greatest n) (GreatestFold k) = k.value ≡ n
StandsFold f k = ⊥

abbrev pub StandsCondition : List ℕ → Game → Option Condition → Option ConditionText → Type 0
StandsCondition text g None None = ⊤
StandsCondition text g (Some c) (Some d) = (d.sense ≡ c.sense) × (word_bytes text d.target ≡ target_name g c.target)
StandsCondition text g c d = ⊥

abbrev pub StandsHead : List ℕ → Game → Kind → Option Condition → Item → Type 0
StandsHead text g Exists condition (ExistsItem at c) = StandsCondition text g condition c
StandsHead text g Forall condition (ForallItem at) = condition ≡ None
StandsHead text g kind condition item = ⊥

-- the item says what the part is
abbrev pub Stands : List ℕ → Game → Part → Item → Type 0
Stands text g (head s) item = StandsHead text g s.kind s.condition item
Stands text g (variable x) (Variable at domain name) = (word_bytes text name ≡ x.name) × StandsDomain x.domain domain
Stands text g (aggregate q) (AggregateItem at name fold target) =
    (word_bytes text name ≡ q.name) × StandsFold q.fold fold × (word_bytes text target ≡ target_name g q.target)
Stands text g (constraint c) (Constraint at name args) =
    (word_bytes text name ≡ pred_name c.pred) × StandArguments text g.variables (arg_kinds_of c.pred) c.args args
Stands text g goal GoalItem = ⊤
Stands text g part item = ⊥

-- the items say, in order, what the parts of the problem are
abbrev pub AllStand : List ℕ → Game → List Part → List Item → Type 0
AllStand text g parts items = Along (Stands text g) parts items
