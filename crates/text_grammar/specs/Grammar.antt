-- The grammar of problem texts: how each part is written.
use Rattle.std.specs.Prelude.{◌≡◌, Bool, true, false, List, [], ◌∷◌, ◌++◌, flat_map, Option, None, Some, IsTrue, ◌&&◌}
use Rattle.text_grammar.specs.declared.tree.Word.{Word}
use Rattle.text_grammar.specs.declared.tree.Number.{Number as Figure}
use Rattle.text_grammar.specs.declared.tree.One.{One}
use Rattle.text_grammar.specs.declared.tree.One.TheVariants.{Name as OneName, Number as OneNumber, Truth as OneTruth}
use Rattle.text_grammar.specs.declared.tree.Members.{Members}
use Rattle.text_grammar.specs.declared.tree.Members.TheVariants.{Range, Braces}
use Rattle.text_grammar.specs.declared.tree.DomainText.{DomainText}
use Rattle.text_grammar.specs.declared.tree.DomainText.TheVariants.{Bits as BitsDomain, Members as MembersDomain}
use Rattle.text_grammar.specs.declared.tree.ArgumentText.{ArgumentText}
use Rattle.text_grammar.specs.declared.tree.ArgumentText.TheVariants.{One as OneArgument, Members as MembersArgument, Array}
use Rattle.text_grammar.specs.declared.tree.ConditionText.{ConditionText}
use Rattle.text_grammar.specs.declared.tree.FoldText.{FoldText}
use Rattle.text_grammar.specs.declared.tree.FoldText.TheVariants.{Sum as SumFold, Least as LeastFold, Greatest as GreatestFold}
use Rattle.text_grammar.specs.declared.tree.Item.{Item}
use Rattle.text_grammar.specs.declared.tree.Item.TheVariants.{Exists as ExistsItem, Forall as ForallItem, Goal as GoalItem, Variable, Aggregate as AggregateItem, Constraint as ConstraintItem}
use Rattle.text_grammar.specs.declared.lexeme.Lexeme.{Lexeme}
use Rattle.text_grammar.specs.declared.lexeme.Lexeme.TheVariants.{Exists, Forall, Goal, Solve, Var, Bits, Aggregate, Sum, Least, Greatest, Else, Optimise, Constraint, Truth, Name, Number, Semicolon, Colon, Comma, ParenOpen, ParenClose, BracketOpen, BracketClose, BraceOpen, BraceClose, Equals, Dots}
use Rattle.text_grammar.specs.declared.part.Phase.{Phase}
use Rattle.text_grammar.specs.declared.part.Phase.TheVariants.{Outside, Exists as InExists, Forall as InForall, Goal as InGoal}

-- the rest of a list, each item with a comma before it
abbrev pub with_commas : {A : Type 0} → (A → List Lexeme) → List A → List Lexeme
with_commas f [] = []
with_commas f (x ∷ xs) = Comma ∷ f x ++ with_commas f xs

-- items with commas between them
abbrev pub between_commas : {A : Type 0} → (A → List Lexeme) → List A → List Lexeme
between_commas f [] = []
between_commas f (x ∷ xs) = f x ++ with_commas f xs

abbrev pub number_lexemes : Figure → List Lexeme
number_lexemes n = Number n ∷ []

abbrev pub one_lexemes : One → List Lexeme
one_lexemes (OneName w) = Name w ∷ []
one_lexemes (OneNumber n) = Number n ∷ []
one_lexemes (OneTruth b) = Truth b ∷ []

abbrev pub members_lexemes : Members → List Lexeme
members_lexemes (Range low high) = Number low ∷ Dots ∷ Number high ∷ []
members_lexemes (Braces at ns) = BraceOpen at ∷ between_commas number_lexemes ns ++ BraceClose ∷ []

abbrev pub domain_lexemes : DomainText → List Lexeme
domain_lexemes (BitsDomain at) = Bits at ∷ []
domain_lexemes (MembersDomain m) = members_lexemes m

abbrev pub argument_lexemes : ArgumentText → List Lexeme
argument_lexemes (OneArgument a) = one_lexemes a
argument_lexemes (MembersArgument m) = members_lexemes m
argument_lexemes (Array at items) = BracketOpen at ∷ between_commas one_lexemes items ++ BracketClose ∷ []

abbrev pub condition_lexemes : Option ConditionText → List Lexeme
condition_lexemes None = []
condition_lexemes (Some c) = Optimise c.sense ∷ Name c.target ∷ []

abbrev pub fold_lexemes : FoldText → Word → List Lexeme
fold_lexemes SumFold target = Sum ∷ ParenOpen ∷ Name target ∷ ParenClose ∷ []
fold_lexemes (LeastFold n) target = Least ∷ ParenOpen ∷ Name target ∷ ParenClose ∷ Else ∷ Number n ∷ []
fold_lexemes (GreatestFold n) target = Greatest ∷ ParenOpen ∷ Name target ∷ ParenClose ∷ Else ∷ Number n ∷ []

-- how an item is written
abbrev pub item_lexemes : Item → List Lexeme
item_lexemes (ExistsItem at condition) = Exists at ∷ condition_lexemes condition ++ Semicolon ∷ []
item_lexemes (ForallItem at) = Forall at ∷ Semicolon ∷ []
item_lexemes GoalItem = Goal ∷ Semicolon ∷ []
item_lexemes (Variable at domain name) = Var at ∷ domain_lexemes domain ++ Colon ∷ Name name ∷ Semicolon ∷ []
item_lexemes (AggregateItem at name fold target) = Aggregate at ∷ Name name ∷ Equals ∷ fold_lexemes fold target ++ Semicolon ∷ []
item_lexemes (ConstraintItem at name args) =
    Constraint at ∷ Name name ∷ ParenOpen ∷ between_commas argument_lexemes args ++ ParenClose ∷ Semicolon ∷ []

abbrev pub before_goal : Phase → Bool
before_goal Outside = true
before_goal InExists = true
before_goal InForall = true
before_goal InGoal = false

abbrev pub in_scope : Phase → Bool
in_scope Outside = false
in_scope InExists = true
in_scope InForall = true
in_scope InGoal = false

abbrev pub in_universal : Phase → Bool
in_universal Outside = false
in_universal InExists = false
in_universal InForall = true
in_universal InGoal = false

abbrev pub in_restriction : Phase → Bool
in_restriction Outside = false
in_restriction InExists = true
in_restriction InForall = true
in_restriction InGoal = true

abbrev pub in_goal : Phase → Bool
in_goal Outside = false
in_goal InExists = false
in_goal InForall = false
in_goal InGoal = true

-- which items may stand where
abbrev pub may_stand : Phase → Item → Bool
may_stand p (ExistsItem at condition) = before_goal p
may_stand p (ForallItem at) = before_goal p
may_stand p GoalItem = before_goal p
may_stand p (Variable at domain name) = in_scope p
may_stand p (AggregateItem at name fold target) = in_universal p
may_stand p (ConstraintItem at name args) = in_restriction p

abbrev pub phase_after : Phase → Item → Phase
phase_after p (ExistsItem at condition) = InExists
phase_after p (ForallItem at) = InForall
phase_after p GoalItem = InGoal
phase_after p (Variable at domain name) = p
phase_after p (AggregateItem at name fold target) = p
phase_after p (ConstraintItem at name args) = p

-- items that stand where they may, and come to the goal
abbrev pub are_arranged : Phase → List Item → Bool
are_arranged p [] = in_goal p
are_arranged p (i ∷ is) = may_stand p i && are_arranged (phase_after p i) is

-- how the items of a problem are written, and its end
abbrev pub problem_lexemes : List Item → List Lexeme
problem_lexemes items = flat_map item_lexemes items ++ Solve ∷ Semicolon ∷ []

-- the lexemes are those of a problem with these items
pub record IsProblem (items : List Item) (lexemes : List Lexeme) : Type 0 where
  pub arranged : IsTrue (are_arranged Outside items)
  pub written : lexemes ≡ problem_lexemes items

-- lexemes that begin a problem: some more make them one
pub record Begins (lexemes : List Lexeme) : Type 0 where
  pub more : List Lexeme
  pub items : List Item
  pub whole : IsProblem items (lexemes ++ more)
