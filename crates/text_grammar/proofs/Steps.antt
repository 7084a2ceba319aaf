-- A move reads its lexeme: with it, the part that comes, or the item that is made, is what was read.
use Rattle.std.proofs.Common.{◌≡◌, refl, sym, ap, ◌∙◌, ℕ, Bool, true, false, List, [], ◌∷◌, ◌++◌, append_assoc}
use Rattle.std.specs.Prelude.{IsTrue}
use Rattle.std.proofs.lemmas.Bool.{and_from, and_parts}
use Rattle.text_grammar.specs.declared.tree.Word.{Word}
use Rattle.text_grammar.specs.declared.tree.Number.{Number as Figure}
use Rattle.text_grammar.specs.declared.tree.One.{One}
use Rattle.text_grammar.specs.declared.tree.One.TheVariants.{Name as OneName, Number as OneNumber, Truth as OneTruth}
use Rattle.text_grammar.specs.declared.tree.ArgumentText.{ArgumentText}
use Rattle.text_grammar.specs.declared.tree.ArgumentText.TheVariants.{One as OneArgument, Members as MembersArgument, Array as ArrayArgument}
use Rattle.text_grammar.specs.declared.lexeme.Lexeme.{Lexeme}
use Rattle.text_grammar.specs.declared.lexeme.Lexeme.TheVariants.{Exists, Forall, Goal, Solve, Var, Bits, Aggregate, Sum, Least, Greatest, Else, Optimise, Constraint, Truth, Name, Number, Semicolon, Colon, Comma, ParenOpen, ParenClose, BracketOpen, BracketClose, BraceOpen, BraceClose, Equals, Dots}
use Rattle.text_grammar.specs.declared.part.Phase.{Phase}
use Rattle.text_grammar.specs.declared.part.HeadPart.{HeadPart}
use Rattle.text_grammar.specs.declared.part.HeadPart.TheVariants.{Exists as HeadExists, Optimise as HeadOptimise, Target as HeadTarget, Forall as HeadForall, Goal as HeadGoal}
use Rattle.text_grammar.specs.declared.part.MembersPart.{MembersPart}
use Rattle.text_grammar.specs.declared.part.MembersPart.TheVariants.{Low, Dots as AfterDots, Open as MembersOpen, Item as MembersItem, Comma as MembersComma}
use Rattle.text_grammar.specs.declared.part.MembersMove.{MembersMove}
use Rattle.text_grammar.specs.declared.part.MembersMove.TheVariants.{Goes as MembersGo, Makes as MembersMake, Stuck as MembersStuck}
use Rattle.text_grammar.specs.declared.part.VariablePart.{VariablePart}
use Rattle.text_grammar.specs.declared.part.VariablePart.TheVariants.{Var as VarStart, Members as VarMembers, Domain as VarDomain, Colon as VarColon, Name as VarName}
use Rattle.text_grammar.specs.declared.part.FoldWord.{FoldWord}
use Rattle.text_grammar.specs.declared.part.FoldWord.TheVariants.{Sum as SumWord, Least as LeastWord, Greatest as GreatestWord}
use Rattle.text_grammar.specs.declared.part.Title.{Title}
use Rattle.text_grammar.specs.declared.part.AggregatePart.{AggregatePart}
use Rattle.text_grammar.specs.declared.part.AggregatePart.TheVariants.{Start as AggStart, Name as AggName, Equals as AggEquals, Fold as AggFold, Open as AggOpen, Target as AggTarget, Closed as AggClosed, Else as AggElse, Last as AggLast}
use Rattle.text_grammar.specs.declared.part.ArgumentPart.{ArgumentPart}
use Rattle.text_grammar.specs.declared.part.ArgumentPart.TheVariants.{Open as ArgOpen, Comma as ArgComma, Number as ArgNumber, Members as ArgMembers, Array as ArgArray, Item as ArgItem, ItemComma as ArgItemComma, Done as ArgDone, Closed as ArgClosed}
use Rattle.text_grammar.specs.declared.part.ArgumentMove.{ArgumentMove}
use Rattle.text_grammar.specs.declared.part.ArgumentMove.TheVariants.{Goes as ArgGo, Adds as ArgAdd, Stuck as ArgStuck}
use Rattle.text_grammar.specs.declared.part.ConstraintPart.{ConstraintPart}
use Rattle.text_grammar.specs.declared.part.ConstraintPart.TheVariants.{Start as ConStart, Name as ConName, Call as ConCall}
use Rattle.text_grammar.specs.declared.part.Part.{Part}
use Rattle.text_grammar.specs.declared.part.Part.TheVariants.{Ready, Head as HeadIn, Variable as VariableIn, Aggregate as AggregateIn, Constraint as ConstraintIn, Solve as Solving, Ended}
use Rattle.text_grammar.specs.declared.part.Move.{Move}
use Rattle.text_grammar.specs.declared.part.Move.TheVariants.{Goes, Makes, Stuck}
use Rattle.text_grammar.specs.Grammar.{number_lexemes, one_lexemes, members_lexemes, domain_lexemes, argument_lexemes, item_lexemes, between_commas, before_goal, in_scope, in_universal, in_restriction, in_goal, may_stand}
use Rattle.text_grammar.specs.Moves.{head_move, members_move, domain_move, variable_move, closed_move, fold_with, aggregate_move, argument_start, one_of, item_move, set_move, argument_move, call_move, constraint_move, ready_move, goes_if, part_move}
use Rattle.text_grammar.specs.Read.{opened, members_read, arguments_read, part_lexemes, members_fit, variable_fits, aggregate_fits, arguments_fit, constraint_fits, part_fits}
use Rattle.text_grammar.proofs.Lists.{between_more, opened_some, opened_none, some_more, opened_more}

abbrev ReadMembers : MembersPart → Lexeme → MembersMove → Type 0
ReadMembers m l (MembersGo q) = (members_read q ≡ members_read m ++ l ∷ []) × IsTrue (members_fit q)
ReadMembers m l (MembersMake x) = members_lexemes x ≡ members_read m ++ l ∷ []
ReadMembers m l MembersStuck = Unit {0}

-- of a range or braces
members_good : (m : MembersPart) (l : Lexeme) → IsTrue (members_fit m) → ReadMembers m l (members_move m l)
members_good (Low low) Dots h = (refl, refl)
members_good (AfterDots low) (Number high) h = refl
members_good (MembersOpen at) (Number n) h = (refl, refl)
members_good (MembersOpen at) BraceClose h = refl
members_good (MembersItem at ns) Comma h = (ap (λ (k : List Lexeme). BraceOpen at ∷ k) (opened_some number_lexemes ns h), h)
members_good (MembersItem at ns) BraceClose h = refl
members_good (MembersComma at ns) (Number n) h = (ap (λ (k : List Lexeme). BraceOpen at ∷ k) (between_more number_lexemes ns n), some_more ns n)
members_good _ _ h = tt

-- of the part of an item, in its phase
abbrev pub ReadPart : Phase → Part → Lexeme → Move → Type 0
ReadPart phase p l (Goes q) = (part_lexemes q ≡ part_lexemes p ++ l ∷ []) × IsTrue (part_fits phase q)
ReadPart phase p l (Makes i) = (item_lexemes i ≡ part_lexemes p ++ l ∷ []) × IsTrue (may_stand phase i)
ReadPart phase p l Stuck = Unit {0}

head_good : (phase : Phase) (p : HeadPart) (l : Lexeme) → IsTrue (before_goal phase) → ReadPart phase (HeadIn p) l (head_move p l)
head_good phase (HeadExists at) Semicolon h = (refl, h)
head_good phase (HeadExists at) (Optimise sense) h = (refl, h)
head_good phase (HeadOptimise at sense) (Name w) h = (refl, h)
head_good phase (HeadTarget at c) Semicolon h = (refl, h)
head_good phase (HeadForall at) Semicolon h = (refl, h)
head_good phase HeadGoal Semicolon h = (refl, h)
head_good _ _ _ h = tt

domain_good : (phase : Phase) (at : ℕ) (m : MembersPart) (l : Lexeme) (k : MembersMove) → IsTrue (in_scope phase) → ReadMembers m l k → ReadPart phase (VariableIn (VarMembers at m)) l (domain_move at k)
domain_good phase at m l (MembersGo q) s h = (ap (λ (k : List Lexeme). Var at ∷ k) h.0, and_from _ _ s h.1)
domain_good phase at m l (MembersMake x) s h = (ap (λ (k : List Lexeme). Var at ∷ k) h, and_from _ _ s refl)
domain_good phase at m l MembersStuck s h = tt

colon_name : (d : List Lexeme) (a b : Lexeme) → d ++ a ∷ b ∷ [] ≡ (d ++ a ∷ []) ++ b ∷ []
colon_name d a b = simp append_assoc

name_end : (d : List Lexeme) (a b c : Lexeme) → d ++ a ∷ b ∷ c ∷ [] ≡ (d ++ a ∷ b ∷ []) ++ c ∷ []
name_end d a b c = simp append_assoc

variable_good : (phase : Phase) (p : VariablePart) (l : Lexeme) → IsTrue (in_scope phase) → IsTrue (variable_fits p) → ReadPart phase (VariableIn p) l (variable_move p l)
variable_good phase (VarStart at) (Bits place) s h = (refl, and_from _ _ s refl)
variable_good phase (VarStart at) (Number n) s h = (refl, and_from _ _ s refl)
variable_good phase (VarStart at) (BraceOpen place) s h = (refl, and_from _ _ s refl)
variable_good phase (VarMembers at m) l s h = domain_good phase at m l (members_move m l) s (members_good m l h)
variable_good phase (VarDomain at domain) Colon s h = (refl, and_from _ _ s refl)
variable_good phase (VarColon at domain) (Name w) s h = (ap (λ (k : List Lexeme). Var at ∷ k) (colon_name (domain_lexemes domain) Colon (Name w)), and_from _ _ s refl)
variable_good phase (VarName at domain w) Semicolon s h = (ap (λ (k : List Lexeme). Var at ∷ k) (name_end (domain_lexemes domain) Colon (Name w) Semicolon), s)
variable_good _ _ _ s h = tt

closed_good : (phase : Phase) (title : Title) (fold : FoldWord) (w : Word) (l : Lexeme) → IsTrue (in_universal phase) → ReadPart phase (AggregateIn (AggClosed title fold w)) l (closed_move title fold w l)
closed_good phase title SumWord w Semicolon s = (refl, s)
closed_good phase title LeastWord w Else s = (refl, and_from _ _ s refl)
closed_good phase title GreatestWord w Else s = (refl, and_from _ _ s refl)
closed_good _ _ _ _ _ s = tt

-- the number after `else`
else_good : (phase : Phase) (title : Title) (fold : FoldWord) (w : Word) (n : Figure) → IsTrue (in_universal phase) → IsTrue (aggregate_fits (AggElse title fold w)) → ReadPart phase (AggregateIn (AggElse title fold w)) (Number n) (Goes (AggregateIn (AggLast title (fold_with fold n) w)))
else_good phase title SumWord w n s h = cc
else_good phase title LeastWord w n s h = (refl, and_from _ _ s refl)
else_good phase title GreatestWord w n s h = (refl, and_from _ _ s refl)

aggregate_good : (phase : Phase) (p : AggregatePart) (l : Lexeme) → IsTrue (in_universal phase) → IsTrue (aggregate_fits p) → ReadPart phase (AggregateIn p) l (aggregate_move p l)
aggregate_good phase (AggStart at) (Name w) s h = (refl, and_from _ _ s refl)
aggregate_good phase (AggName title) Equals s h = (refl, and_from _ _ s refl)
aggregate_good phase (AggEquals title) Sum s h = (refl, and_from _ _ s refl)
aggregate_good phase (AggEquals title) Least s h = (refl, and_from _ _ s refl)
aggregate_good phase (AggEquals title) Greatest s h = (refl, and_from _ _ s refl)
aggregate_good phase (AggFold title fold) ParenOpen s h = (refl, and_from _ _ s refl)
aggregate_good phase (AggOpen title fold) (Name w) s h = (refl, and_from _ _ s refl)
aggregate_good phase (AggTarget title fold w) ParenClose s h = (refl, and_from _ _ s refl)
aggregate_good phase (AggClosed title fold w) l s h = closed_good phase title fold w l s
aggregate_good phase (AggElse title fold w) (Number n) s h = else_good phase title fold w n s h
aggregate_good phase (AggLast title fold w) Semicolon s h = (refl, s)
aggregate_good _ _ _ s h = tt

-- of the arguments of a constraint
abbrev ReadArguments : List ArgumentText → ArgumentPart → Lexeme → ArgumentMove → Type 0
ReadArguments args p l (ArgGo q) = (arguments_read args q ≡ arguments_read args p ++ l ∷ []) × IsTrue (arguments_fit args q)
ReadArguments args p l (ArgAdd a q) = (arguments_read (args ++ a ∷ []) q ≡ arguments_read args p ++ l ∷ []) × IsTrue (arguments_fit (args ++ a ∷ []) q)
ReadArguments args p l ArgStuck = Unit {0}

start_good : (args : List ArgumentText) (l : Lexeme) → ReadArguments args ArgComma l (argument_start l)
start_good args (Name w) = (between_more argument_lexemes args (OneArgument (OneName w)), some_more args (OneArgument (OneName w)))
start_good args (Number n) = (refl, refl)
start_good args (Truth b) = (between_more argument_lexemes args (OneArgument (OneTruth b)), some_more args (OneArgument (OneTruth b)))
start_good args (BraceOpen at) = (refl, refl)
start_good args (BracketOpen at) = (refl, refl)
start_good args _ = tt

set_good : (args : List ArgumentText) (m : MembersPart) (l : Lexeme) (k : MembersMove) → ReadMembers m l k → ReadArguments args (ArgMembers m) l (set_move k)
set_good args m l (MembersGo q) h =
    (ap (λ (k : List Lexeme). opened argument_lexemes args ++ k) h.0 ∙ sym (append_assoc (opened argument_lexemes args) (members_read m) (l ∷ [])), h.1)
set_good args m l (MembersMake x) h = (
  between_more argument_lexemes args (MembersArgument x) ∙ ap (λ (k : List Lexeme). opened argument_lexemes args ++ k) h
      ∙ sym (append_assoc (opened argument_lexemes args) (members_read m) (l ∷ [])),
  some_more args (MembersArgument x),
)
set_good args m l MembersStuck h = tt

-- the next item of an array, which is of one lexeme
item_read : (args : List ArgumentText) (at : ℕ) (items : List One) (a : One) (l : Lexeme) → one_lexemes a ≡ l ∷ [] → ReadArguments args (ArgItemComma at items) l (ArgGo (ArgItem at (items ++ a ∷ [])))
item_read args at items a l e = (
  ap (λ (k : List Lexeme). opened argument_lexemes args ++ BracketOpen at ∷ k) (between_more one_lexemes items a ∙ ap (λ (k : List Lexeme). opened one_lexemes items ++ k) e)
      ∙ sym (append_assoc (opened argument_lexemes args) (BracketOpen at ∷ opened one_lexemes items) (l ∷ [])),
  some_more items a,
)

item_good : (args : List ArgumentText) (at : ℕ) (items : List One) (l : Lexeme) → ReadArguments args (ArgItemComma at items) l (item_move at items (one_of l))
item_good args at items (Name w) = item_read args at items (OneName w) (Name w) refl
item_good args at items (Number n) = item_read args at items (OneNumber n) (Number n) refl
item_good args at items (Truth b) = item_read args at items (OneTruth b) (Truth b) refl
item_good args at items _ = tt

argument_good : (args : List ArgumentText) (p : ArgumentPart) (l : Lexeme) → IsTrue (arguments_fit args p) → ReadArguments args p l (argument_move p l)
argument_good args ArgOpen ParenClose h = (ap (λ (k : List Lexeme). k ++ ParenClose ∷ []) (sym (opened_none argument_lexemes args h)), refl)
argument_good args ArgOpen l h = start_good args l
argument_good args ArgComma l h = start_good args l
argument_good args (ArgNumber n) Dots h = (sym (append_assoc (opened argument_lexemes args) (Number n ∷ []) (Dots ∷ [])), refl)
argument_good args (ArgNumber n) Comma h = (opened_more argument_lexemes args (OneArgument (OneNumber n)), some_more args (OneArgument (OneNumber n)))
argument_good args (ArgNumber n) ParenClose h = (ap (λ (k : List Lexeme). k ++ ParenClose ∷ []) (between_more argument_lexemes args (OneArgument (OneNumber n))), refl)
argument_good args (ArgMembers m) l h = set_good args m l (members_move m l) (members_good m l h)
argument_good args (ArgArray at) BracketClose h =
    (between_more argument_lexemes args (ArrayArgument at []) ∙ sym (append_assoc (opened argument_lexemes args) (BracketOpen at ∷ []) (BracketClose ∷ [])), some_more args (ArrayArgument at []))
argument_good args (ArgArray at) l h = item_good args at [] l
argument_good args (ArgItem at items) Comma h = (
  ap (λ (k : List Lexeme). opened argument_lexemes args ++ BracketOpen at ∷ k) (opened_some one_lexemes items h)
      ∙ sym (append_assoc (opened argument_lexemes args) (BracketOpen at ∷ between_commas one_lexemes items) (Comma ∷ [])),
  h,
)
argument_good args (ArgItem at items) BracketClose h = (
  between_more argument_lexemes args (ArrayArgument at items)
      ∙ sym (append_assoc (opened argument_lexemes args) (BracketOpen at ∷ between_commas one_lexemes items) (BracketClose ∷ [])),
  some_more args (ArrayArgument at items),
)
argument_good args (ArgItemComma at items) l h = item_good args at items l
argument_good args ArgDone Comma h = (opened_some argument_lexemes args h, h)
argument_good args ArgDone ParenClose h = (refl, refl)
argument_good args _ _ h = tt

call_good : (phase : Phase) (at : ℕ) (name : Word) (args : List ArgumentText) (p : ArgumentPart) (l : Lexeme) (k : ArgumentMove) → IsTrue (in_restriction phase) → ReadArguments args p l k → ReadPart phase (ConstraintIn (ConCall at name args p)) l (call_move at name args k)
call_good phase at name args p l (ArgGo q) s h = (ap (λ (k : List Lexeme). Constraint at ∷ Name name ∷ ParenOpen ∷ k) h.0, and_from _ _ s h.1)
call_good phase at name args p l (ArgAdd a q) s h = (ap (λ (k : List Lexeme). Constraint at ∷ Name name ∷ ParenOpen ∷ k) h.0, and_from _ _ s h.1)
call_good phase at name args p l ArgStuck s h = tt

constraint_good : (phase : Phase) (p : ConstraintPart) (l : Lexeme) → IsTrue (in_restriction phase) → IsTrue (constraint_fits p) → ReadPart phase (ConstraintIn p) l (constraint_move p l)
constraint_good phase (ConStart at) (Name w) s h = (refl, and_from _ _ s refl)
constraint_good phase (ConName at name) ParenOpen s h = (refl, and_from _ _ s refl)
constraint_good phase (ConCall at name args ArgClosed) Semicolon s h =
    (ap (λ (k : List Lexeme). Constraint at ∷ Name name ∷ ParenOpen ∷ k) (sym (append_assoc (between_commas argument_lexemes args) (ParenClose ∷ []) (Semicolon ∷ []))), s)
constraint_good phase (ConCall at name args p) l s h = call_good phase at name args p l (argument_move p l) s (argument_good args p l h)
constraint_good _ _ _ s h = tt

goes_good : (b : Bool) (phase : Phase) (p : Part) (l : Lexeme) (q : Part) → (IsTrue b → ReadPart phase p l (Goes q)) → ReadPart phase p l (goes_if b q)
goes_good true phase p l q f = f refl
goes_good false phase p l q f = tt

ready_good : (phase : Phase) (l : Lexeme) → ReadPart phase Ready l (ready_move phase l)
ready_good phase (Exists at) = goes_good (before_goal phase) phase Ready (Exists at) (HeadIn (HeadExists at)) (λ s. (refl, s))
ready_good phase (Forall at) = goes_good (before_goal phase) phase Ready (Forall at) (HeadIn (HeadForall at)) (λ s. (refl, s))
ready_good phase Goal = goes_good (before_goal phase) phase Ready Goal (HeadIn HeadGoal) (λ s. (refl, s))
ready_good phase (Var at) = goes_good (in_scope phase) phase Ready (Var at) (VariableIn (VarStart at)) (λ s. (refl, and_from _ _ s refl))
ready_good phase (Aggregate at) = goes_good (in_universal phase) phase Ready (Aggregate at) (AggregateIn (AggStart at)) (λ s. (refl, and_from _ _ s refl))
ready_good phase (Constraint at) = goes_good (in_restriction phase) phase Ready (Constraint at) (ConstraintIn (ConStart at)) (λ s. (refl, and_from _ _ s refl))
ready_good phase Solve = goes_good (in_goal phase) phase Ready Solve Solving (λ s. (refl, s))
ready_good phase _ = tt

-- each move of a part that fits reads its lexeme, and leaves what fits
pub part_good : (phase : Phase) (p : Part) (l : Lexeme) → IsTrue (part_fits phase p) → ReadPart phase p l (part_move phase p l)
part_good phase Ready l h = ready_good phase l
part_good phase (HeadIn p) l h = head_good phase p l h
part_good phase (VariableIn p) l h = let both = and_parts _ _ h in variable_good phase p l both.0 both.1
part_good phase (AggregateIn p) l h = let both = and_parts _ _ h in aggregate_good phase p l both.0 both.1
part_good phase (ConstraintIn p) l h = let both = and_parts _ _ h in constraint_good phase p l both.0 both.1
part_good phase Solving Semicolon h = (refl, h)
part_good phase Solving _ h = tt
part_good phase Ended _ h = tt
