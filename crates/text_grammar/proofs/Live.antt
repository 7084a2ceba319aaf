-- What was read can be completed: the part that was read begins an item, and the goal and the end can follow.
use Rattle.std.proofs.Common.{◌≡◌, refl, sym, ap, ◌∙◌, subst, ℕ, true, List, [], ◌∷◌, ◌++◌, Some, None, append_assoc, pos}
use Rattle.std.specs.Prelude.{IsTrue, flat_map}
use Rattle.std.proofs.lemmas.Bool.{and_from, and_parts}
use Rattle.std.proofs.lemmas.List.{append-nil}
use Rattle.std.proofs.lemmas.Grind.{flat_map-append}
use Rattle.text_grammar.specs.declared.tree.Word.{Word}
use Rattle.text_grammar.specs.declared.tree.Number.{Number as Figure}
use Rattle.text_grammar.specs.declared.tree.One.{One}
use Rattle.text_grammar.specs.declared.tree.One.TheVariants.{Number as OneNumber, Truth as OneTruth}
use Rattle.text_grammar.specs.declared.tree.Members.{Members}
use Rattle.text_grammar.specs.declared.tree.Members.TheVariants.{Range, Braces}
use Rattle.text_grammar.specs.declared.tree.DomainText.TheVariants.{Bits as BitsDomain, Members as MembersDomain}
use Rattle.text_grammar.specs.declared.tree.ArgumentText.{ArgumentText}
use Rattle.text_grammar.specs.declared.tree.ArgumentText.TheVariants.{One as OneArgument, Members as MembersArgument, Array as ArrayArgument}
use Rattle.text_grammar.specs.declared.tree.FoldText.TheVariants.{Sum as SumFold}
use Rattle.text_grammar.specs.declared.tree.Item.{Item}
use Rattle.text_grammar.specs.declared.tree.Item.TheVariants.{Exists as ExistsItem, Forall as ForallItem, Goal as GoalItem, Variable as VariableItem, Aggregate as AggregateItem, Constraint as ConstraintItem}
use Rattle.text_grammar.specs.declared.lexeme.Lexeme.{Lexeme}
use Rattle.text_grammar.specs.declared.lexeme.Lexeme.TheVariants.{Solve, Var, Bits, Sum, Else, Constraint, Truth, Name, Number, Semicolon, Colon, ParenOpen, ParenClose, BracketOpen, BracketClose, BraceOpen, BraceClose, Equals, Dots}
use Rattle.text_grammar.specs.declared.part.Phase.{Phase}
use Rattle.text_grammar.specs.declared.part.Phase.TheVariants.{Outside, Exists as InExists, Forall as InForall, Goal as InGoal}
use Rattle.text_grammar.specs.declared.part.HeadPart.{HeadPart}
use Rattle.text_grammar.specs.declared.part.HeadPart.TheVariants.{Exists as HeadExists, Optimise as HeadOptimise, Target as HeadTarget, Forall as HeadForall, Goal as HeadGoal}
use Rattle.text_grammar.specs.declared.part.MembersPart.{MembersPart}
use Rattle.text_grammar.specs.declared.part.MembersPart.TheVariants.{Low, Dots as AfterDots, Open as MembersOpen, Item as MembersItem, Comma as MembersComma}
use Rattle.text_grammar.specs.declared.part.VariablePart.{VariablePart}
use Rattle.text_grammar.specs.declared.part.VariablePart.TheVariants.{Var as VarStart, Members as VarMembers, Domain as VarDomain, Colon as VarColon, Name as VarName}
use Rattle.text_grammar.specs.declared.part.FoldWord.{FoldWord}
use Rattle.text_grammar.specs.declared.part.FoldWord.TheVariants.{Sum as SumWord, Least as LeastWord, Greatest as GreatestWord}
use Rattle.text_grammar.specs.declared.part.AggregatePart.{AggregatePart}
use Rattle.text_grammar.specs.declared.part.AggregatePart.TheVariants.{Start as AggStart, Name as AggName, Equals as AggEquals, Fold as AggFold, Open as AggOpen, Target as AggTarget, Closed as AggClosed, Else as AggElse, Last as AggLast}
use Rattle.text_grammar.specs.declared.part.ArgumentPart.{ArgumentPart}
use Rattle.text_grammar.specs.declared.part.ArgumentPart.TheVariants.{Open as ArgOpen, Comma as ArgComma, Number as ArgNumber, Members as ArgMembers, Array as ArgArray, Item as ArgItem, ItemComma as ArgItemComma, Done as ArgDone, Closed as ArgClosed}
use Rattle.text_grammar.specs.declared.part.ConstraintPart.{ConstraintPart}
use Rattle.text_grammar.specs.declared.part.ConstraintPart.TheVariants.{Start as ConStart, Name as ConName, Call as ConCall}
use Rattle.text_grammar.specs.declared.part.Part.{Part}
use Rattle.text_grammar.specs.declared.part.Part.TheVariants.{Ready, Head as HeadIn, Variable as VariableIn, Aggregate as AggregateIn, Constraint as ConstraintIn, Solve as Solving, Ended}
use Rattle.text_grammar.specs.Grammar.{number_lexemes, one_lexemes, members_lexemes, domain_lexemes, argument_lexemes, item_lexemes, problem_lexemes, between_commas, before_goal, in_scope, in_universal, in_restriction, may_stand, phase_after, are_arranged, Begins}
use Rattle.text_grammar.specs.Moves.{Reading, fold_with, after_all}
use Rattle.text_grammar.specs.Read.{start, opened, head_read, members_read, variable_read, aggregate_read, arguments_read, constraint_read, part_lexemes, aggregate_fits, arguments_fit, constraint_fits, part_fits}
use Rattle.text_grammar.proofs.Lists.{between_more, opened_none}
use Rattle.text_grammar.proofs.Sound.{arranged_more, all_read}

-- a name, a number and an item of which nothing is asked
abbrev some_word : Word
some_word = record { start = 0; end = 0 }

abbrev some_number : Figure
some_number = record { at = 0; value = pos 0 }

abbrev some_one : One
some_one = OneTruth true

-- For each part, an item that begins with it, and the lexemes that are missing: of a range or braces ..
abbrev members_made : MembersPart → Members
members_made (Low low) = Range low some_number
members_made (AfterDots low) = Range low some_number
members_made (MembersOpen at) = Braces at []
members_made (MembersItem at ns) = Braces at ns
members_made (MembersComma at ns) = Braces at (ns ++ some_number ∷ [])

abbrev members_missing : MembersPart → List Lexeme
members_missing (Low low) = Dots ∷ Number some_number ∷ []
members_missing (AfterDots low) = Number some_number ∷ []
members_missing (MembersOpen at) = BraceClose ∷ []
members_missing (MembersItem at ns) = BraceClose ∷ []
members_missing (MembersComma at ns) = Number some_number ∷ BraceClose ∷ []

members_whole : (m : MembersPart) → members_lexemes (members_made m) ≡ members_read m ++ members_missing m
members_whole (Low low) = refl
members_whole (AfterDots low) = refl
members_whole (MembersOpen at) = refl
members_whole (MembersItem at ns) = refl
members_whole (MembersComma at ns) =
    ap (λ (k : List Lexeme). BraceOpen at ∷ (k ++ BraceClose ∷ [])) (between_more number_lexemes ns some_number)
    ∙ ap (λ (k : List Lexeme). BraceOpen at ∷ k) (append_assoc (opened number_lexemes ns) (Number some_number ∷ []) (BraceClose ∷ []))

-- .. of a head ..
abbrev head_made : HeadPart → Item
head_made (HeadExists at) = ExistsItem at None
head_made (HeadOptimise at sense) = ExistsItem at (Some (record { sense = sense; target = some_word }))
head_made (HeadTarget at c) = ExistsItem at (Some c)
head_made (HeadForall at) = ForallItem at
head_made HeadGoal = GoalItem

abbrev head_missing : HeadPart → List Lexeme
head_missing (HeadExists at) = Semicolon ∷ []
head_missing (HeadOptimise at sense) = Name some_word ∷ Semicolon ∷ []
head_missing (HeadTarget at c) = Semicolon ∷ []
head_missing (HeadForall at) = Semicolon ∷ []
head_missing HeadGoal = Semicolon ∷ []

head_whole : (p : HeadPart) → item_lexemes (head_made p) ≡ head_read p ++ head_missing p
head_whole (HeadExists at) = refl
head_whole (HeadOptimise at sense) = refl
head_whole (HeadTarget at c) = refl
head_whole (HeadForall at) = refl
head_whole HeadGoal = refl

head_stands : (phase : Phase) (p : HeadPart) → IsTrue (before_goal phase) → IsTrue (may_stand phase (head_made p))
head_stands phase (HeadExists at) h = h
head_stands phase (HeadOptimise at sense) h = h
head_stands phase (HeadTarget at c) h = h
head_stands phase (HeadForall at) h = h
head_stands phase HeadGoal h = h

-- .. of a variable ..
abbrev variable_made : VariablePart → Item
variable_made (VarStart at) = VariableItem at (BitsDomain 0) some_word
variable_made (VarMembers at m) = VariableItem at (MembersDomain (members_made m)) some_word
variable_made (VarDomain at d) = VariableItem at d some_word
variable_made (VarColon at d) = VariableItem at d some_word
variable_made (VarName at d w) = VariableItem at d w

abbrev variable_missing : VariablePart → List Lexeme
variable_missing (VarStart at) = Bits 0 ∷ Colon ∷ Name some_word ∷ Semicolon ∷ []
variable_missing (VarMembers at m) = members_missing m ++ Colon ∷ Name some_word ∷ Semicolon ∷ []
variable_missing (VarDomain at d) = Colon ∷ Name some_word ∷ Semicolon ∷ []
variable_missing (VarColon at d) = Name some_word ∷ Semicolon ∷ []
variable_missing (VarName at d w) = Semicolon ∷ []

variable_whole : (p : VariablePart) → item_lexemes (variable_made p) ≡ variable_read p ++ variable_missing p
variable_whole (VarStart at) = refl
variable_whole (VarMembers at m) =
    ap (λ (k : List Lexeme). Var at ∷ (k ++ Colon ∷ Name some_word ∷ Semicolon ∷ [])) (members_whole m)
    ∙ ap (λ (k : List Lexeme). Var at ∷ k) (append_assoc (members_read m) (members_missing m) (Colon ∷ Name some_word ∷ Semicolon ∷ []))
variable_whole (VarDomain at d) = refl
variable_whole (VarColon at d) = ap (λ (k : List Lexeme). Var at ∷ k) (sym (append_assoc (domain_lexemes d) (Colon ∷ []) (Name some_word ∷ Semicolon ∷ [])))
variable_whole (VarName at d w) = ap (λ (k : List Lexeme). Var at ∷ k) (sym (append_assoc (domain_lexemes d) (Colon ∷ Name w ∷ []) (Semicolon ∷ [])))

variable_stands : (phase : Phase) (p : VariablePart) → IsTrue (in_scope phase) → IsTrue (may_stand phase (variable_made p))
variable_stands phase (VarStart at) h = h
variable_stands phase (VarMembers at m) h = h
variable_stands phase (VarDomain at d) h = h
variable_stands phase (VarColon at d) h = h
variable_stands phase (VarName at d w) h = h

-- .. of an aggregate ..
abbrev else_missing : FoldWord → List Lexeme
else_missing SumWord = Semicolon ∷ []
else_missing LeastWord = Else ∷ Number some_number ∷ Semicolon ∷ []
else_missing GreatestWord = Else ∷ Number some_number ∷ Semicolon ∷ []

abbrev aggregate_made : AggregatePart → Item
aggregate_made (AggStart at) = AggregateItem at some_word SumFold some_word
aggregate_made (AggName title) = AggregateItem title.at title.name SumFold some_word
aggregate_made (AggEquals title) = AggregateItem title.at title.name SumFold some_word
aggregate_made (AggFold title fold) = AggregateItem title.at title.name (fold_with fold some_number) some_word
aggregate_made (AggOpen title fold) = AggregateItem title.at title.name (fold_with fold some_number) some_word
aggregate_made (AggTarget title fold w) = AggregateItem title.at title.name (fold_with fold some_number) w
aggregate_made (AggClosed title fold w) = AggregateItem title.at title.name (fold_with fold some_number) w
aggregate_made (AggElse title fold w) = AggregateItem title.at title.name (fold_with fold some_number) w
aggregate_made (AggLast title fold w) = AggregateItem title.at title.name fold w

abbrev aggregate_missing : AggregatePart → List Lexeme
aggregate_missing (AggStart at) = Name some_word ∷ Equals ∷ Sum ∷ ParenOpen ∷ Name some_word ∷ ParenClose ∷ Semicolon ∷ []
aggregate_missing (AggName title) = Equals ∷ Sum ∷ ParenOpen ∷ Name some_word ∷ ParenClose ∷ Semicolon ∷ []
aggregate_missing (AggEquals title) = Sum ∷ ParenOpen ∷ Name some_word ∷ ParenClose ∷ Semicolon ∷ []
aggregate_missing (AggFold title fold) = ParenOpen ∷ Name some_word ∷ ParenClose ∷ else_missing fold
aggregate_missing (AggOpen title fold) = Name some_word ∷ ParenClose ∷ else_missing fold
aggregate_missing (AggTarget title fold w) = ParenClose ∷ else_missing fold
aggregate_missing (AggClosed title fold w) = else_missing fold
aggregate_missing (AggElse title fold w) = Number some_number ∷ Semicolon ∷ []
aggregate_missing (AggLast title fold w) = Semicolon ∷ []

aggregate_whole : (p : AggregatePart) → IsTrue (aggregate_fits p) → item_lexemes (aggregate_made p) ≡ aggregate_read p ++ aggregate_missing p
aggregate_whole (AggStart at) h = refl
aggregate_whole (AggName title) h = refl
aggregate_whole (AggEquals title) h = refl
aggregate_whole (AggFold title SumWord) h = refl
aggregate_whole (AggFold title LeastWord) h = refl
aggregate_whole (AggFold title GreatestWord) h = refl
aggregate_whole (AggOpen title SumWord) h = refl
aggregate_whole (AggOpen title LeastWord) h = refl
aggregate_whole (AggOpen title GreatestWord) h = refl
aggregate_whole (AggTarget title SumWord w) h = refl
aggregate_whole (AggTarget title LeastWord w) h = refl
aggregate_whole (AggTarget title GreatestWord w) h = refl
aggregate_whole (AggClosed title SumWord w) h = refl
aggregate_whole (AggClosed title LeastWord w) h = refl
aggregate_whole (AggClosed title GreatestWord w) h = refl
aggregate_whole (AggElse title SumWord w) h = cc
aggregate_whole (AggElse title LeastWord w) h = refl
aggregate_whole (AggElse title GreatestWord w) h = refl
aggregate_whole (AggLast title fold w) h = refl

aggregate_stands : (phase : Phase) (p : AggregatePart) → IsTrue (in_universal phase) → IsTrue (may_stand phase (aggregate_made p))
aggregate_stands phase (AggStart at) h = h
aggregate_stands phase (AggName title) h = h
aggregate_stands phase (AggEquals title) h = h
aggregate_stands phase (AggFold title fold) h = h
aggregate_stands phase (AggOpen title fold) h = h
aggregate_stands phase (AggTarget title fold w) h = h
aggregate_stands phase (AggClosed title fold w) h = h
aggregate_stands phase (AggElse title fold w) h = h
aggregate_stands phase (AggLast title fold w) h = h

-- .. and of a constraint
abbrev last_argument : ArgumentPart → List ArgumentText
last_argument ArgOpen = []
last_argument ArgComma = OneArgument some_one ∷ []
last_argument (ArgNumber n) = OneArgument (OneNumber n) ∷ []
last_argument (ArgMembers m) = MembersArgument (members_made m) ∷ []
last_argument (ArgArray at) = ArrayArgument at [] ∷ []
last_argument (ArgItem at items) = ArrayArgument at items ∷ []
last_argument (ArgItemComma at items) = ArrayArgument at (items ++ some_one ∷ []) ∷ []
last_argument ArgDone = []
last_argument ArgClosed = []

abbrev arguments_missing : ArgumentPart → List Lexeme
arguments_missing ArgOpen = ParenClose ∷ Semicolon ∷ []
arguments_missing ArgComma = Truth true ∷ ParenClose ∷ Semicolon ∷ []
arguments_missing (ArgNumber n) = ParenClose ∷ Semicolon ∷ []
arguments_missing (ArgMembers m) = members_missing m ++ ParenClose ∷ Semicolon ∷ []
arguments_missing (ArgArray at) = BracketClose ∷ ParenClose ∷ Semicolon ∷ []
arguments_missing (ArgItem at items) = BracketClose ∷ ParenClose ∷ Semicolon ∷ []
arguments_missing (ArgItemComma at items) = Truth true ∷ BracketClose ∷ ParenClose ∷ Semicolon ∷ []
arguments_missing ArgDone = ParenClose ∷ Semicolon ∷ []
arguments_missing ArgClosed = Semicolon ∷ []

-- one argument more, of which this was read, and this is missing
one_whole :
    (args : List ArgumentText) (a : ArgumentText) (read missing : List Lexeme) → argument_lexemes a ≡ read ++ missing →
    between_commas argument_lexemes (args ++ a ∷ []) ++ ParenClose ∷ Semicolon ∷ [] ≡ (opened argument_lexemes args ++ read) ++ (missing ++ ParenClose ∷ Semicolon ∷ [])
one_whole args a read missing h =
    ap (λ (k : List Lexeme). k ++ ParenClose ∷ Semicolon ∷ []) (between_more argument_lexemes args a ∙ ap (λ (k : List Lexeme). opened argument_lexemes args ++ k) h)
    ∙ simp append_assoc

array_whole : (at : ℕ) (items : List One) → argument_lexemes (ArrayArgument at (items ++ some_one ∷ [])) ≡ (BracketOpen at ∷ opened one_lexemes items) ++ (Truth true ∷ BracketClose ∷ [])
array_whole at items =
    ap (λ (k : List Lexeme). BracketOpen at ∷ (k ++ BracketClose ∷ [])) (between_more one_lexemes items some_one)
    ∙ ap (λ (k : List Lexeme). BracketOpen at ∷ k) (append_assoc (opened one_lexemes items) (Truth true ∷ []) (BracketClose ∷ []))

arguments_whole :
    (args : List ArgumentText) (p : ArgumentPart) → IsTrue (arguments_fit args p) →
    between_commas argument_lexemes (args ++ last_argument p) ++ ParenClose ∷ Semicolon ∷ [] ≡ arguments_read args p ++ arguments_missing p
arguments_whole args ArgOpen h =
    ap (λ (k : List ArgumentText). between_commas argument_lexemes k ++ ParenClose ∷ Semicolon ∷ []) (append-nil args)
    ∙ ap (λ (k : List Lexeme). k ++ ParenClose ∷ Semicolon ∷ []) (sym (opened_none argument_lexemes args h))
arguments_whole args ArgComma h =
    one_whole args (OneArgument some_one) [] (Truth true ∷ []) refl
    ∙ ap (λ (k : List Lexeme). k ++ Truth true ∷ ParenClose ∷ Semicolon ∷ []) (append-nil (opened argument_lexemes args))
arguments_whole args (ArgNumber n) h = one_whole args (OneArgument (OneNumber n)) (Number n ∷ []) [] refl
arguments_whole args (ArgMembers m) h = one_whole args (MembersArgument (members_made m)) (members_read m) (members_missing m) (members_whole m)
arguments_whole args (ArgArray at) h = one_whole args (ArrayArgument at []) (BracketOpen at ∷ []) (BracketClose ∷ []) refl
arguments_whole args (ArgItem at items) h = one_whole args (ArrayArgument at items) (BracketOpen at ∷ between_commas one_lexemes items) (BracketClose ∷ []) refl
arguments_whole args (ArgItemComma at items) h =
    one_whole args (ArrayArgument at (items ++ some_one ∷ [])) (BracketOpen at ∷ opened one_lexemes items) (Truth true ∷ BracketClose ∷ []) (array_whole at items)
arguments_whole args ArgDone h = ap (λ (k : List ArgumentText). between_commas argument_lexemes k ++ ParenClose ∷ Semicolon ∷ []) (append-nil args)
arguments_whole args ArgClosed h =
    ap (λ (k : List ArgumentText). between_commas argument_lexemes k ++ ParenClose ∷ Semicolon ∷ []) (append-nil args)
    ∙ sym (append_assoc (between_commas argument_lexemes args) (ParenClose ∷ []) (Semicolon ∷ []))

abbrev constraint_made : ConstraintPart → Item
constraint_made (ConStart at) = ConstraintItem at some_word []
constraint_made (ConName at name) = ConstraintItem at name []
constraint_made (ConCall at name args p) = ConstraintItem at name (args ++ last_argument p)

abbrev constraint_missing : ConstraintPart → List Lexeme
constraint_missing (ConStart at) = Name some_word ∷ ParenOpen ∷ ParenClose ∷ Semicolon ∷ []
constraint_missing (ConName at name) = ParenOpen ∷ ParenClose ∷ Semicolon ∷ []
constraint_missing (ConCall at name args p) = arguments_missing p

constraint_whole : (p : ConstraintPart) → IsTrue (constraint_fits p) → item_lexemes (constraint_made p) ≡ constraint_read p ++ constraint_missing p
constraint_whole (ConStart at) h = refl
constraint_whole (ConName at name) h = refl
constraint_whole (ConCall at name args p) h = ap (λ (k : List Lexeme). Constraint at ∷ Name name ∷ ParenOpen ∷ k) (arguments_whole args p h)

constraint_stands : (phase : Phase) (p : ConstraintPart) → IsTrue (in_restriction phase) → IsTrue (may_stand phase (constraint_made p))
constraint_stands phase (ConStart at) h = h
constraint_stands phase (ConName at name) h = h
constraint_stands phase (ConCall at name args p) h = h

-- the goal, where it is still to come
abbrev closing : Phase → List Item
closing Outside = GoalItem ∷ []
closing InExists = GoalItem ∷ []
closing InForall = GoalItem ∷ []
closing InGoal = []

closing_arranged : (phase : Phase) → IsTrue (are_arranged phase (closing phase))
closing_arranged Outside = refl
closing_arranged InExists = refl
closing_arranged InForall = refl
closing_arranged InGoal = refl

-- after a part, these lexemes and these items complete a problem
pub record Completed (phase : Phase) (p : Part) : Type 0 where
  pub more : List Lexeme
  pub items : List Item
  pub written : part_lexemes p ++ more ≡ problem_lexemes items
  pub arranged : IsTrue (are_arranged phase items)

item_completed :
    (phase : Phase) (p : Part) (i : Item) (missing : List Lexeme) → item_lexemes i ≡ part_lexemes p ++ missing → IsTrue (may_stand phase i) → Completed phase p
item_completed phase p i missing h s =
    let rest : List Item = closing (phase_after phase i) in
    record {
      more = missing ++ problem_lexemes rest;
      items = i ∷ rest;
      written =
          sym (append_assoc (part_lexemes p) missing (problem_lexemes rest)) ∙ ap (λ (k : List Lexeme). k ++ problem_lexemes rest) (sym h)
          ∙ sym (append_assoc (item_lexemes i) (flat_map item_lexemes rest) (Solve ∷ Semicolon ∷ []));
      arranged = and_from (may_stand phase i) (are_arranged (phase_after phase i) rest) s (closing_arranged (phase_after phase i));
    }

part_completed : (phase : Phase) (p : Part) → IsTrue (part_fits phase p) → Completed phase p
part_completed phase Ready h =
    record { more = problem_lexemes (closing phase); items = closing phase; written = refl; arranged = closing_arranged phase }
part_completed phase (HeadIn p) h = item_completed phase (HeadIn p) (head_made p) (head_missing p) (head_whole p) (head_stands phase p h)
part_completed phase (VariableIn p) h =
    let both = and_parts _ _ h in
    item_completed phase (VariableIn p) (variable_made p) (variable_missing p) (variable_whole p) (variable_stands phase p both.0)
part_completed phase (AggregateIn p) h =
    let both = and_parts _ _ h in
    item_completed phase (AggregateIn p) (aggregate_made p) (aggregate_missing p) (aggregate_whole p both.1) (aggregate_stands phase p both.0)
part_completed phase (ConstraintIn p) h =
    let both = and_parts _ _ h in
    item_completed phase (ConstraintIn p) (constraint_made p) (constraint_missing p) (constraint_whole p both.1) (constraint_stands phase p both.0)
part_completed phase Solving h = record { more = Semicolon ∷ []; items = []; written = refl; arranged = h }
part_completed phase Ended h = record { more = []; items = []; written = refl; arranged = h }

-- lexemes that are read begin a problem
pub read_begins : (ls : List Lexeme) (r : Reading) → after_all start ls ≡ Some r → Begins ls
read_begins ls r e =
    let ran = all_read ls r e in
    let c = part_completed r.phase r.part ran.fit.part in
    record {
      more = c.more;
      items = r.items ++ c.items;
      whole = record {
        arranged = arranged_more Outside r.items c.items ran.fit.stand (subst (λ (p : Phase). IsTrue (are_arranged p c.items)) (sym ran.fit.phase) c.arranged);
        written =
            ap (λ (k : List Lexeme). k ++ c.more) (sym ran.read)
            ∙ append_assoc (flat_map item_lexemes r.items) (part_lexemes r.part) c.more
            ∙ ap (λ (k : List Lexeme). flat_map item_lexemes r.items ++ k) c.written
            ∙ sym (append_assoc (flat_map item_lexemes r.items) (flat_map item_lexemes c.items) (Solve ∷ Semicolon ∷ []))
            ∙ ap (λ (k : List Lexeme). k ++ Solve ∷ Semicolon ∷ []) (sym (flat_map-append item_lexemes r.items c.items));
      };
    }
