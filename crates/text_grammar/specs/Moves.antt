-- What the next lexeme makes of the part of an item that was read.
use Rattle.std.specs.Prelude.{ℕ, Bool, cond, List, [], ◌∷◌, ◌++◌, Option, None, Some}
use Rattle.text_grammar.specs.declared.tree.Word.{Word}
use Rattle.text_grammar.specs.declared.tree.Number.{Number as Figure}
use Rattle.text_grammar.specs.declared.tree.One.{One}
use Rattle.text_grammar.specs.declared.tree.One.TheVariants.{Name as OneName, Number as OneNumber, Truth as OneTruth}
use Rattle.text_grammar.specs.declared.tree.Members.TheVariants.{Range, Braces}
use Rattle.text_grammar.specs.declared.tree.DomainText.TheVariants.{Bits as BitsDomain, Members as MembersDomain}
use Rattle.text_grammar.specs.declared.tree.ArgumentText.{ArgumentText}
use Rattle.text_grammar.specs.declared.tree.ArgumentText.TheVariants.{One as OneArgument, Members as MembersArgument, Array as ArrayArgument}
use Rattle.text_grammar.specs.declared.tree.FoldText.{FoldText}
use Rattle.text_grammar.specs.declared.tree.FoldText.TheVariants.{Sum as SumFold, Least as LeastFold, Greatest as GreatestFold}
use Rattle.text_grammar.specs.declared.tree.Item.{Item}
use Rattle.text_grammar.specs.declared.tree.Item.TheVariants.{Exists as ExistsItem, Forall as ForallItem, Goal as GoalItem, Variable as VariableItem, Aggregate as AggregateItem, Constraint as ConstraintItem}
use Rattle.text_grammar.specs.declared.lexeme.Lexeme.{Lexeme}
use Rattle.text_grammar.specs.declared.lexeme.Lexeme.TheVariants.{Exists, Forall, Goal, Solve, Var, Bits, Aggregate, Sum, Least, Greatest, Else, Optimise, Constraint, Truth, Name, Number, Semicolon, Colon, Comma, ParenOpen, ParenClose, BracketOpen, BracketClose, BraceOpen, BraceClose, Equals, Dots}
use Rattle.text_grammar.specs.declared.part.Phase.{Phase}
use Rattle.text_grammar.specs.declared.part.HeadPart.{HeadPart}
use Rattle.text_grammar.specs.declared.part.HeadPart.TheVariants.{Exists as HeadExists, Optimise as HeadOptimise, Target as HeadTarget, Forall as HeadForall, Goal as HeadGoal}
use Rattle.text_grammar.specs.declared.part.MembersPart.{MembersPart}
use Rattle.text_grammar.specs.declared.part.MembersPart.TheVariants.{Low, Dots as AfterDots, Open as MembersOpen, Item as MembersItem, Comma as MembersComma}
use Rattle.text_grammar.specs.declared.part.MembersMove.{MembersMove}
use Rattle.text_grammar.specs.declared.part.MembersMove.TheVariants.{Goes as MembersGo, Makes as MembersMake, Stuck as MembersStuck}
use Rattle.text_grammar.specs.declared.part.VariablePart.{VariablePart}
use Rattle.text_grammar.specs.declared.part.VariablePart.TheVariants.{Var as VarStart, Members as VarMembers, Domain as VarDomain, Colon as VarColon, Name as VarName}
use Rattle.text_grammar.specs.declared.part.FoldWord.{FoldWord}
use Rattle.text_grammar.specs.declared.part.FoldWord.TheVariants.{Sum as SumWord, Least as LeastWord, Greatest as GreatestWord}
use Rattle.text_grammar.specs.declared.part.Title.{Title}
use Rattle.text_grammar.specs.declared.part.AggregatePart.{AggregatePart}
use Rattle.text_grammar.specs.declared.part.AggregatePart.TheVariants.{Start as AggStart, Name as AggName, Equals as AggEquals, Fold as AggFold, Open as AggOpen, Target as AggTarget, Closed as AggClosed, Else as AggElse, Last as AggLast}
use Rattle.text_grammar.specs.declared.part.ArgumentPart.{ArgumentPart}
use Rattle.text_grammar.specs.declared.part.ArgumentPart.TheVariants.{Open as ArgOpen, Comma as ArgComma, Number as ArgNumber, Members as ArgMembers, Array as ArgArray, Item as ArgItem, ItemComma as ArgItemComma, Done as ArgDone, Closed as ArgClosed}
use Rattle.text_grammar.specs.declared.part.ArgumentMove.{ArgumentMove}
use Rattle.text_grammar.specs.declared.part.ArgumentMove.TheVariants.{Goes as ArgGo, Adds as ArgAdd, Stuck as ArgStuck}
use Rattle.text_grammar.specs.declared.part.ConstraintPart.{ConstraintPart}
use Rattle.text_grammar.specs.declared.part.ConstraintPart.TheVariants.{Start as ConStart, Name as ConName, Call as ConCall}
use Rattle.text_grammar.specs.declared.part.Part.{Part}
use Rattle.text_grammar.specs.declared.part.Part.TheVariants.{Ready, Head as HeadIn, Variable as VariableIn, Aggregate as AggregateIn, Constraint as ConstraintIn, Solve as Solving, Ended}
use Rattle.text_grammar.specs.declared.part.Move.{Move}
use Rattle.text_grammar.specs.declared.part.Move.TheVariants.{Goes, Makes, Stuck}
use Rattle.text_grammar.specs.Grammar.{before_goal, in_scope, in_universal, in_restriction, in_goal, phase_after}

abbrev pub goes_if : Bool → Part → Move
goes_if b p = cond b (Goes p) Stuck

-- at the beginning of an item, or of the end
abbrev pub ready_move : Phase → Lexeme → Move
ready_move p (Exists at) = goes_if (before_goal p) (HeadIn (HeadExists at))
ready_move p (Forall at) = goes_if (before_goal p) (HeadIn (HeadForall at))
ready_move p Goal = goes_if (before_goal p) (HeadIn HeadGoal)
ready_move p (Var at) = goes_if (in_scope p) (VariableIn (VarStart at))
ready_move p (Aggregate at) = goes_if (in_universal p) (AggregateIn (AggStart at))
ready_move p (Constraint at) = goes_if (in_restriction p) (ConstraintIn (ConStart at))
ready_move p Solve = goes_if (in_goal p) Solving
ready_move p _ = Stuck

abbrev pub head_move : HeadPart → Lexeme → Move
head_move (HeadExists at) Semicolon = Makes (ExistsItem at None)
head_move (HeadExists at) (Optimise sense) = Goes (HeadIn (HeadOptimise at sense))
head_move (HeadOptimise at sense) (Name w) = Goes (HeadIn (HeadTarget at (record { sense = sense; target = w })))
head_move (HeadTarget at condition) Semicolon = Makes (ExistsItem at (Some condition))
head_move (HeadForall at) Semicolon = Makes (ForallItem at)
head_move HeadGoal Semicolon = Makes GoalItem
head_move _ _ = Stuck

abbrev pub members_move : MembersPart → Lexeme → MembersMove
members_move (Low low) Dots = MembersGo (AfterDots low)
members_move (AfterDots low) (Number high) = MembersMake (Range low high)
members_move (MembersOpen at) (Number n) = MembersGo (MembersItem at (n ∷ []))
members_move (MembersOpen at) BraceClose = MembersMake (Braces at [])
members_move (MembersItem at ns) Comma = MembersGo (MembersComma at ns)
members_move (MembersItem at ns) BraceClose = MembersMake (Braces at ns)
members_move (MembersComma at ns) (Number n) = MembersGo (MembersItem at (ns ++ n ∷ []))
members_move _ _ = MembersStuck

abbrev pub domain_move : ℕ → MembersMove → Move
domain_move at (MembersGo m) = Goes (VariableIn (VarMembers at m))
domain_move at (MembersMake m) = Goes (VariableIn (VarDomain at (MembersDomain m)))
domain_move at MembersStuck = Stuck

abbrev pub variable_move : VariablePart → Lexeme → Move
variable_move (VarStart at) (Bits place) = Goes (VariableIn (VarDomain at (BitsDomain place)))
variable_move (VarStart at) (Number n) = Goes (VariableIn (VarMembers at (Low n)))
variable_move (VarStart at) (BraceOpen place) = Goes (VariableIn (VarMembers at (MembersOpen place)))
variable_move (VarMembers at m) lexeme = domain_move at (members_move m lexeme)
variable_move (VarDomain at domain) Colon = Goes (VariableIn (VarColon at domain))
variable_move (VarColon at domain) (Name w) = Goes (VariableIn (VarName at domain w))
variable_move (VarName at domain w) Semicolon = Makes (VariableItem at domain w)
variable_move _ _ = Stuck

-- after the parenthesis is closed a sum is whole, and another fold has its number to come
abbrev pub closed_move : Title → FoldWord → Word → Lexeme → Move
closed_move title SumWord w Semicolon = Makes (AggregateItem title.at title.name SumFold w)
closed_move title LeastWord w Else = Goes (AggregateIn (AggElse title LeastWord w))
closed_move title GreatestWord w Else = Goes (AggregateIn (AggElse title GreatestWord w))
closed_move _ _ _ _ = Stuck

abbrev pub fold_with : FoldWord → Figure → FoldText
fold_with SumWord n = SumFold
fold_with LeastWord n = LeastFold n
fold_with GreatestWord n = GreatestFold n

abbrev pub aggregate_move : AggregatePart → Lexeme → Move
aggregate_move (AggStart at) (Name w) = Goes (AggregateIn (AggName (record { at = at; name = w })))
aggregate_move (AggName title) Equals = Goes (AggregateIn (AggEquals title))
aggregate_move (AggEquals title) Sum = Goes (AggregateIn (AggFold title SumWord))
aggregate_move (AggEquals title) Least = Goes (AggregateIn (AggFold title LeastWord))
aggregate_move (AggEquals title) Greatest = Goes (AggregateIn (AggFold title GreatestWord))
aggregate_move (AggFold title fold) ParenOpen = Goes (AggregateIn (AggOpen title fold))
aggregate_move (AggOpen title fold) (Name w) = Goes (AggregateIn (AggTarget title fold w))
aggregate_move (AggTarget title fold w) ParenClose = Goes (AggregateIn (AggClosed title fold w))
aggregate_move (AggClosed title fold w) lexeme = closed_move title fold w lexeme
aggregate_move (AggElse title fold w) (Number n) = Goes (AggregateIn (AggLast title (fold_with fold n) w))
aggregate_move (AggLast title fold w) Semicolon = Makes (AggregateItem title.at title.name fold w)
aggregate_move _ _ = Stuck

-- the beginning of an argument
abbrev pub argument_start : Lexeme → ArgumentMove
argument_start (Name w) = ArgAdd (OneArgument (OneName w)) ArgDone
argument_start (Number n) = ArgGo (ArgNumber n)
argument_start (Truth b) = ArgAdd (OneArgument (OneTruth b)) ArgDone
argument_start (BraceOpen at) = ArgGo (ArgMembers (MembersOpen at))
argument_start (BracketOpen at) = ArgGo (ArgArray at)
argument_start _ = ArgStuck

abbrev pub one_of : Lexeme → Option One
one_of (Name w) = Some (OneName w)
one_of (Number n) = Some (OneNumber n)
one_of (Truth b) = Some (OneTruth b)
one_of _ = None

-- the next item of an array
abbrev pub item_move : ℕ → List One → Option One → ArgumentMove
item_move at items None = ArgStuck
item_move at items (Some a) = ArgGo (ArgItem at (items ++ a ∷ []))

abbrev pub set_move : MembersMove → ArgumentMove
set_move (MembersGo m) = ArgGo (ArgMembers m)
set_move (MembersMake m) = ArgAdd (MembersArgument m) ArgDone
set_move MembersStuck = ArgStuck

abbrev pub argument_move : ArgumentPart → Lexeme → ArgumentMove
argument_move ArgOpen ParenClose = ArgGo ArgClosed
argument_move ArgOpen lexeme = argument_start lexeme
argument_move ArgComma lexeme = argument_start lexeme
argument_move (ArgNumber n) Dots = ArgGo (ArgMembers (AfterDots n))
argument_move (ArgNumber n) Comma = ArgAdd (OneArgument (OneNumber n)) ArgComma
argument_move (ArgNumber n) ParenClose = ArgAdd (OneArgument (OneNumber n)) ArgClosed
argument_move (ArgMembers m) lexeme = set_move (members_move m lexeme)
argument_move (ArgArray at) BracketClose = ArgAdd (ArrayArgument at []) ArgDone
argument_move (ArgArray at) lexeme = item_move at [] (one_of lexeme)
argument_move (ArgItem at items) Comma = ArgGo (ArgItemComma at items)
argument_move (ArgItem at items) BracketClose = ArgAdd (ArrayArgument at items) ArgDone
argument_move (ArgItemComma at items) lexeme = item_move at items (one_of lexeme)
argument_move ArgDone Comma = ArgGo ArgComma
argument_move ArgDone ParenClose = ArgGo ArgClosed
argument_move _ _ = ArgStuck

abbrev pub call_move : ℕ → Word → List ArgumentText → ArgumentMove → Move
call_move at name args (ArgGo p) = Goes (ConstraintIn (ConCall at name args p))
call_move at name args (ArgAdd a p) = Goes (ConstraintIn (ConCall at name (args ++ a ∷ []) p))
call_move at name args ArgStuck = Stuck

abbrev pub constraint_move : ConstraintPart → Lexeme → Move
constraint_move (ConStart at) (Name w) = Goes (ConstraintIn (ConName at w))
constraint_move (ConName at name) ParenOpen = Goes (ConstraintIn (ConCall at name [] ArgOpen))
constraint_move (ConCall at name args ArgClosed) Semicolon = Makes (ConstraintItem at name args)
constraint_move (ConCall at name args p) lexeme = call_move at name args (argument_move p lexeme)
constraint_move _ _ = Stuck

abbrev pub part_move : Phase → Part → Lexeme → Move
part_move phase Ready lexeme = ready_move phase lexeme
part_move phase (HeadIn p) lexeme = head_move p lexeme
part_move phase (VariableIn p) lexeme = variable_move p lexeme
part_move phase (AggregateIn p) lexeme = aggregate_move p lexeme
part_move phase (ConstraintIn p) lexeme = constraint_move p lexeme
part_move phase Solving Semicolon = Goes Ended
part_move phase Solving _ = Stuck
part_move phase Ended _ = Stuck

-- what was read: the whole items, where the next one stands, and the part after them
pub record Reading : Type 0 where
  pub items : List Item
  pub phase : Phase
  pub part : Part

abbrev pub moved : Reading → Move → Option Reading
moved r (Goes p) = Some (record r { part = p })
moved r (Makes i) = Some (record { items = r.items ++ i ∷ []; phase = phase_after r.phase i; part = Ready })
moved r Stuck = None

-- what was read, with one lexeme more
unfoldable pub after_lexeme : Reading → Lexeme → Option Reading
after_lexeme r lexeme = moved r (part_move r.phase r.part lexeme)

abbrev pub bind : Option Reading → (Reading → Option Reading) → Option Reading
bind None f = None
bind (Some r) f = f r

abbrev pub after_all : Reading → List Lexeme → Option Reading
after_all r [] = Some r
after_all r (l ∷ ls) = bind (after_lexeme r l) (λ q. after_all q ls)
