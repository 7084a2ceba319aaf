-- The lexemes that a reading has read, and what is true of each reading that begins with nothing.
use Rattle.std.specs.Prelude.{◌≡◌, Bool, true, false, ◌&&◌, IsTrue, List, [], ◌∷◌, ◌++◌, flat_map}
use Rattle.text_grammar.specs.declared.tree.Item.{Item}
use Rattle.text_grammar.specs.declared.tree.ArgumentText.{ArgumentText}
use Rattle.text_grammar.specs.declared.lexeme.Lexeme.{Lexeme}
use Rattle.text_grammar.specs.declared.lexeme.Lexeme.TheVariants.{Exists, Forall, Goal, Solve, Var, Aggregate, Sum, Least, Greatest, Else, Optimise, Constraint, Name, Number, Semicolon, Colon, Comma, ParenOpen, ParenClose, BracketOpen, BraceOpen, Equals, Dots}
use Rattle.text_grammar.specs.declared.part.Phase.{Phase}
use Rattle.text_grammar.specs.declared.part.Phase.TheVariants.{Outside}
use Rattle.text_grammar.specs.declared.part.HeadPart.{HeadPart}
use Rattle.text_grammar.specs.declared.part.HeadPart.TheVariants.{Exists as HeadExists, Optimise as HeadOptimise, Target as HeadTarget, Forall as HeadForall, Goal as HeadGoal}
use Rattle.text_grammar.specs.declared.part.MembersPart.{MembersPart}
use Rattle.text_grammar.specs.declared.part.MembersPart.TheVariants.{Low, Dots as AfterDots, Open as MembersOpen, Item as MembersItem, Comma as MembersComma}
use Rattle.text_grammar.specs.declared.part.VariablePart.{VariablePart}
use Rattle.text_grammar.specs.declared.part.VariablePart.TheVariants.{Var as VarStart, Members as VarMembers, Domain as VarDomain, Colon as VarColon, Name as VarName}
use Rattle.text_grammar.specs.declared.part.FoldWord.{FoldWord}
use Rattle.text_grammar.specs.declared.part.FoldWord.TheVariants.{Sum as SumWord, Least as LeastWord, Greatest as GreatestWord}
use Rattle.text_grammar.specs.declared.part.Title.{Title}
use Rattle.text_grammar.specs.declared.part.AggregatePart.{AggregatePart}
use Rattle.text_grammar.specs.declared.part.AggregatePart.TheVariants.{Start as AggStart, Name as AggName, Equals as AggEquals, Fold as AggFold, Open as AggOpen, Target as AggTarget, Closed as AggClosed, Else as AggElse, Last as AggLast}
use Rattle.text_grammar.specs.declared.part.ArgumentPart.{ArgumentPart}
use Rattle.text_grammar.specs.declared.part.ArgumentPart.TheVariants.{Open as ArgOpen, Comma as ArgComma, Number as ArgNumber, Members as ArgMembers, Array as ArgArray, Item as ArgItem, ItemComma as ArgItemComma, Done as ArgDone, Closed as ArgClosed}
use Rattle.text_grammar.specs.declared.part.ConstraintPart.{ConstraintPart}
use Rattle.text_grammar.specs.declared.part.ConstraintPart.TheVariants.{Start as ConStart, Name as ConName, Call as ConCall}
use Rattle.text_grammar.specs.declared.part.Part.{Part}
use Rattle.text_grammar.specs.declared.part.Part.TheVariants.{Ready, Head as HeadIn, Variable as VariableIn, Aggregate as AggregateIn, Constraint as ConstraintIn, Solve as Solving, Ended}
use Rattle.text_grammar.specs.Grammar.{number_lexemes, one_lexemes, domain_lexemes, argument_lexemes, fold_lexemes, item_lexemes, between_commas, with_commas, before_goal, in_scope, in_universal, in_restriction, in_goal, may_stand, phase_after}
use Rattle.text_grammar.specs.Moves.{Reading}

-- nothing was read
abbrev pub start : Reading
start = record { items = []; phase = Outside; part = Ready }

-- a list that one more item is to follow: with a comma at its end, if it has an item
abbrev pub opened : {A : Type 0} → (A → List Lexeme) → List A → List Lexeme
opened f [] = []
opened f (x ∷ xs) = (f x ++ with_commas f xs) ++ Comma ∷ []

-- The lexemes of the part that was read.
abbrev pub head_read : HeadPart → List Lexeme
head_read (HeadExists at) = Exists at ∷ []
head_read (HeadOptimise at sense) = Exists at ∷ Optimise sense ∷ []
head_read (HeadTarget at c) = Exists at ∷ Optimise c.sense ∷ Name c.target ∷ []
head_read (HeadForall at) = Forall at ∷ []
head_read HeadGoal = Goal ∷ []

abbrev pub members_read : MembersPart → List Lexeme
members_read (Low low) = Number low ∷ []
members_read (AfterDots low) = Number low ∷ Dots ∷ []
members_read (MembersOpen at) = BraceOpen at ∷ []
members_read (MembersItem at ns) = BraceOpen at ∷ between_commas number_lexemes ns
members_read (MembersComma at ns) = BraceOpen at ∷ opened number_lexemes ns

abbrev pub variable_read : VariablePart → List Lexeme
variable_read (VarStart at) = Var at ∷ []
variable_read (VarMembers at m) = Var at ∷ members_read m
variable_read (VarDomain at domain) = Var at ∷ domain_lexemes domain
variable_read (VarColon at domain) = Var at ∷ domain_lexemes domain ++ Colon ∷ []
variable_read (VarName at domain name) = Var at ∷ domain_lexemes domain ++ Colon ∷ Name name ∷ []

abbrev pub fold_word : FoldWord → Lexeme
fold_word SumWord = Sum
fold_word LeastWord = Least
fold_word GreatestWord = Greatest

abbrev pub title_read : Title → List Lexeme → List Lexeme
title_read title more = Aggregate title.at ∷ Name title.name ∷ more

abbrev pub aggregate_read : AggregatePart → List Lexeme
aggregate_read (AggStart at) = Aggregate at ∷ []
aggregate_read (AggName title) = title_read title []
aggregate_read (AggEquals title) = title_read title (Equals ∷ [])
aggregate_read (AggFold title fold) = title_read title (Equals ∷ fold_word fold ∷ [])
aggregate_read (AggOpen title fold) = title_read title (Equals ∷ fold_word fold ∷ ParenOpen ∷ [])
aggregate_read (AggTarget title fold w) = title_read title (Equals ∷ fold_word fold ∷ ParenOpen ∷ Name w ∷ [])
aggregate_read (AggClosed title fold w) = title_read title (Equals ∷ fold_word fold ∷ ParenOpen ∷ Name w ∷ ParenClose ∷ [])
aggregate_read (AggElse title fold w) = title_read title (Equals ∷ fold_word fold ∷ ParenOpen ∷ Name w ∷ ParenClose ∷ Else ∷ [])
aggregate_read (AggLast title fold w) = title_read title (Equals ∷ fold_lexemes fold w)

-- the arguments that are whole, and what was read after them
abbrev pub arguments_read : List ArgumentText → ArgumentPart → List Lexeme
arguments_read args ArgOpen = opened argument_lexemes args
arguments_read args ArgComma = opened argument_lexemes args
arguments_read args (ArgNumber n) = opened argument_lexemes args ++ Number n ∷ []
arguments_read args (ArgMembers m) = opened argument_lexemes args ++ members_read m
arguments_read args (ArgArray at) = opened argument_lexemes args ++ BracketOpen at ∷ []
arguments_read args (ArgItem at items) = opened argument_lexemes args ++ BracketOpen at ∷ between_commas one_lexemes items
arguments_read args (ArgItemComma at items) = opened argument_lexemes args ++ BracketOpen at ∷ opened one_lexemes items
arguments_read args ArgDone = between_commas argument_lexemes args
arguments_read args ArgClosed = between_commas argument_lexemes args ++ ParenClose ∷ []

abbrev pub constraint_read : ConstraintPart → List Lexeme
constraint_read (ConStart at) = Constraint at ∷ []
constraint_read (ConName at name) = Constraint at ∷ Name name ∷ []
constraint_read (ConCall at name args p) = Constraint at ∷ Name name ∷ ParenOpen ∷ arguments_read args p

abbrev pub part_lexemes : Part → List Lexeme
part_lexemes Ready = []
part_lexemes (HeadIn p) = head_read p
part_lexemes (VariableIn p) = variable_read p
part_lexemes (AggregateIn p) = aggregate_read p
part_lexemes (ConstraintIn p) = constraint_read p
part_lexemes Solving = Solve ∷ []
part_lexemes Ended = Solve ∷ Semicolon ∷ []

-- all lexemes that were read
abbrev pub read_lexemes : Reading → List Lexeme
read_lexemes r = flat_map item_lexemes r.items ++ part_lexemes r.part

-- Which parts there are: what was read of a list isn't empty where an item of it came, a sum has no `else`, and the
-- item of the part may stand in the phase.
abbrev pub has_some : {A : Type 0} → List A → Bool
has_some [] = false
has_some (x ∷ xs) = true

abbrev pub has_none : {A : Type 0} → List A → Bool
has_none [] = true
has_none (x ∷ xs) = false

abbrev pub members_fit : MembersPart → Bool
members_fit (Low low) = true
members_fit (AfterDots low) = true
members_fit (MembersOpen at) = true
members_fit (MembersItem at ns) = has_some ns
members_fit (MembersComma at ns) = has_some ns

abbrev pub variable_fits : VariablePart → Bool
variable_fits (VarStart at) = true
variable_fits (VarMembers at m) = members_fit m
variable_fits (VarDomain at domain) = true
variable_fits (VarColon at domain) = true
variable_fits (VarName at domain name) = true

abbrev pub may_have_else : FoldWord → Bool
may_have_else SumWord = false
may_have_else LeastWord = true
may_have_else GreatestWord = true

abbrev pub aggregate_fits : AggregatePart → Bool
aggregate_fits (AggStart at) = true
aggregate_fits (AggName title) = true
aggregate_fits (AggEquals title) = true
aggregate_fits (AggFold title fold) = true
aggregate_fits (AggOpen title fold) = true
aggregate_fits (AggTarget title fold w) = true
aggregate_fits (AggClosed title fold w) = true
aggregate_fits (AggElse title fold w) = may_have_else fold
aggregate_fits (AggLast title fold w) = true

abbrev pub arguments_fit : List ArgumentText → ArgumentPart → Bool
arguments_fit args ArgOpen = has_none args
arguments_fit args ArgComma = has_some args
arguments_fit args (ArgNumber n) = true
arguments_fit args (ArgMembers m) = members_fit m
arguments_fit args (ArgArray at) = true
arguments_fit args (ArgItem at items) = has_some items
arguments_fit args (ArgItemComma at items) = has_some items
arguments_fit args ArgDone = has_some args
arguments_fit args ArgClosed = true

abbrev pub constraint_fits : ConstraintPart → Bool
constraint_fits (ConStart at) = true
constraint_fits (ConName at name) = true
constraint_fits (ConCall at name args p) = arguments_fit args p

abbrev pub part_fits : Phase → Part → Bool
part_fits phase Ready = true
part_fits phase (HeadIn p) = before_goal phase
part_fits phase (VariableIn p) = in_scope phase && variable_fits p
part_fits phase (AggregateIn p) = in_universal phase && aggregate_fits p
part_fits phase (ConstraintIn p) = in_restriction phase && constraint_fits p
part_fits phase Solving = in_goal phase
part_fits phase Ended = in_goal phase

-- items each of which stands where it may ..
abbrev pub all_stand : Phase → List Item → Bool
all_stand p [] = true
all_stand p (i ∷ is) = may_stand p i && all_stand (phase_after p i) is

-- .. and where the next one stands
abbrev pub last_phase : Phase → List Item → Phase
last_phase p [] = p
last_phase p (i ∷ is) = last_phase (phase_after p i) is

-- what is true of each reading that began with nothing
pub record IsFit (r : Reading) : Type 0 where
  pub stand : IsTrue (all_stand Outside r.items)
  pub phase : last_phase Outside r.items ≡ r.phase
  pub part : IsTrue (part_fits r.phase r.part)
