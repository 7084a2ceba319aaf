-- The lexemes of items are read, item by item.
use Rattle.std.proofs.Common.{◌≡◌, refl, sym, ap, ◌∙◌, ℕ, Bool, true, false, List, [], ◌∷◌, ◌++◌, Option, Some, None, append_assoc}
use Rattle.std.specs.Prelude.{IsTrue, flat_map}
use Rattle.std.proofs.lemmas.Bool.{and_parts}
use Rattle.std.proofs.lemmas.List.{append-nil}
use Rattle.text_grammar.specs.declared.tree.Word.{Word}
use Rattle.text_grammar.specs.declared.tree.Number.{Number as Figure}
use Rattle.text_grammar.specs.declared.tree.One.{One}
use Rattle.text_grammar.specs.declared.tree.One.TheVariants.{Name as OneName, Number as OneNumber, Truth as OneTruth}
use Rattle.text_grammar.specs.declared.tree.Members.{Members}
use Rattle.text_grammar.specs.declared.tree.DomainText.{DomainText}
use Rattle.text_grammar.specs.declared.tree.Members.TheVariants.{Range, Braces}
use Rattle.text_grammar.specs.declared.tree.DomainText.TheVariants.{Bits as BitsDomain, Members as MembersDomain}
use Rattle.text_grammar.specs.declared.tree.ArgumentText.{ArgumentText}
use Rattle.text_grammar.specs.declared.tree.ArgumentText.TheVariants.{One as OneArgument, Members as MembersArgument, Array as ArrayArgument}
use Rattle.text_grammar.specs.declared.tree.FoldText.TheVariants.{Sum as SumFold, Least as LeastFold, Greatest as GreatestFold}
use Rattle.text_grammar.specs.declared.tree.Item.{Item}
use Rattle.text_grammar.specs.declared.tree.Item.TheVariants.{Exists as ExistsItem, Forall as ForallItem, Goal as GoalItem, Variable as VariableItem, Aggregate as AggregateItem, Constraint as ConstraintItem}
use Rattle.text_grammar.specs.declared.lexeme.Lexeme.{Lexeme}
use Rattle.text_grammar.specs.declared.lexeme.Lexeme.TheVariants.{Solve, Sum, Least, Greatest, Else, Optimise, Name, Number, Semicolon, Colon, Comma, ParenOpen, ParenClose, BracketClose, BraceClose, Equals}
use Rattle.text_grammar.specs.declared.part.Phase.{Phase}
use Rattle.text_grammar.specs.declared.part.Phase.TheVariants.{Outside}
use Rattle.text_grammar.specs.declared.part.HeadPart.TheVariants.{Exists as HeadExists, Forall as HeadForall, Goal as HeadGoal}
use Rattle.text_grammar.specs.declared.part.MembersPart.TheVariants.{Item as MembersItem}
use Rattle.text_grammar.specs.declared.part.VariablePart.TheVariants.{Var as VarStart, Members as VarMembers, Domain as VarDomain}
use Rattle.text_grammar.specs.declared.part.AggregatePart.TheVariants.{Start as AggStart}
use Rattle.text_grammar.specs.declared.part.ArgumentPart.{ArgumentPart}
use Rattle.text_grammar.specs.declared.part.ArgumentPart.TheVariants.{Open as ArgOpen, Comma as ArgComma, Number as ArgNumber, Members as ArgMembers, Item as ArgItem, Done as ArgDone, Closed as ArgClosed}
use Rattle.text_grammar.specs.declared.part.ConstraintPart.TheVariants.{Start as ConStart, Call as ConCall}
use Rattle.text_grammar.specs.declared.part.Part.{Part}
use Rattle.text_grammar.specs.declared.part.Part.TheVariants.{Ready, Head as HeadIn, Variable as VariableIn, Aggregate as AggregateIn, Constraint as ConstraintIn, Solve as Solving, Ended}
use Rattle.text_grammar.specs.Grammar.{number_lexemes, one_lexemes, members_lexemes, domain_lexemes, argument_lexemes, item_lexemes, problem_lexemes, between_commas, with_commas, before_goal, in_scope, in_universal, in_restriction, in_goal, may_stand, phase_after, are_arranged}
use Rattle.text_grammar.specs.Moves.{Reading, goes_if, moved, after_lexeme, bind, after_all}
use Rattle.text_grammar.specs.Read.{start, last_phase}

-- a reading by its parts
abbrev at_part : List Item → Phase → Part → Reading
at_part items phase p = record { items = items; phase = phase; part = p }

-- a reading of arguments
abbrev in_call : List Item → Phase → ℕ → Word → List ArgumentText → ArgumentPart → Reading
in_call items phase at name args p = at_part items phase (ConstraintIn (ConCall at name args p))

-- the numbers in braces: of a domain ..
domain_numbers :
    (items : List Item) (phase : Phase) (at place : ℕ) (ns ms : List Figure) (ls : List Lexeme) →
    after_all (at_part items phase (VariableIn (VarMembers at (MembersItem place ns)))) (with_commas number_lexemes ms ++ BraceClose ∷ ls)
    ≡ after_all (at_part items phase (VariableIn (VarDomain at (MembersDomain (Braces place (ns ++ ms)))))) ls
unfolding after_lexeme
domain_numbers items phase at place ns [] ls =
    ap (λ (k : List Figure). after_all (at_part items phase (VariableIn (VarDomain at (MembersDomain (Braces place k))))) ls) (sym (append-nil ns))
domain_numbers items phase at place ns (m ∷ ms) ls =
    domain_numbers items phase at place (ns ++ m ∷ []) ms ls
    ∙ ap (λ (k : List Figure). after_all (at_part items phase (VariableIn (VarDomain at (MembersDomain (Braces place k))))) ls) (append_assoc ns (m ∷ []) ms)

domain_run :
    (items : List Item) (phase : Phase) (at : ℕ) (d : DomainText) (ls : List Lexeme) →
    after_all (at_part items phase (VariableIn (VarStart at))) (domain_lexemes d ++ ls) ≡ after_all (at_part items phase (VariableIn (VarDomain at d))) ls
unfolding after_lexeme
domain_run items phase at (BitsDomain place) ls = refl
domain_run items phase at (MembersDomain (Range low high)) ls = refl
domain_run items phase at (MembersDomain (Braces place [])) ls = refl
domain_run items phase at (MembersDomain (Braces place (n ∷ ns))) ls =
    ap (λ (k : List Lexeme). after_all (at_part items phase (VariableIn (VarMembers at (MembersItem place (n ∷ []))))) k) (append_assoc (with_commas number_lexemes ns) (BraceClose ∷ []) ls)
    ∙ domain_numbers items phase at place (n ∷ []) ns ls

-- .. and of an argument
argument_numbers :
    (items : List Item) (phase : Phase) (at : ℕ) (name : Word) (args : List ArgumentText) (place : ℕ) (ns ms : List Figure) (ls : List Lexeme) →
    after_all (in_call items phase at name args (ArgMembers (MembersItem place ns))) (with_commas number_lexemes ms ++ BraceClose ∷ ls)
    ≡ after_all (in_call items phase at name (args ++ MembersArgument (Braces place (ns ++ ms)) ∷ []) ArgDone) ls
unfolding after_lexeme
argument_numbers items phase at name args place ns [] ls =
    ap (λ (k : List Figure). after_all (in_call items phase at name (args ++ MembersArgument (Braces place k) ∷ []) ArgDone) ls) (sym (append-nil ns))
argument_numbers items phase at name args place ns (m ∷ ms) ls =
    argument_numbers items phase at name args place (ns ++ m ∷ []) ms ls
    ∙ ap (λ (k : List Figure). after_all (in_call items phase at name (args ++ MembersArgument (Braces place k) ∷ []) ArgDone) ls) (append_assoc ns (m ∷ []) ms)

-- the items of an array
array_items :
    (items : List Item) (phase : Phase) (at : ℕ) (name : Word) (args : List ArgumentText) (place : ℕ) (xs ys : List One) (ls : List Lexeme) →
    after_all (in_call items phase at name args (ArgItem place xs)) (with_commas one_lexemes ys ++ BracketClose ∷ ls)
    ≡ after_all (in_call items phase at name (args ++ ArrayArgument place (xs ++ ys) ∷ []) ArgDone) ls
unfolding after_lexeme
array_items items phase at name args place xs [] ls =
    ap (λ (k : List One). after_all (in_call items phase at name (args ++ ArrayArgument place k ∷ []) ArgDone) ls) (sym (append-nil xs))
array_items items phase at name args place xs (OneName w ∷ ys) ls =
    array_items items phase at name args place (xs ++ OneName w ∷ []) ys ls
    ∙ ap (λ (k : List One). after_all (in_call items phase at name (args ++ ArrayArgument place k ∷ []) ArgDone) ls) (append_assoc xs (OneName w ∷ []) ys)
array_items items phase at name args place xs (OneNumber n ∷ ys) ls =
    array_items items phase at name args place (xs ++ OneNumber n ∷ []) ys ls
    ∙ ap (λ (k : List One). after_all (in_call items phase at name (args ++ ArrayArgument place k ∷ []) ArgDone) ls) (append_assoc xs (OneNumber n ∷ []) ys)
array_items items phase at name args place xs (OneTruth b ∷ ys) ls =
    array_items items phase at name args place (xs ++ OneTruth b ∷ []) ys ls
    ∙ ap (λ (k : List One). after_all (in_call items phase at name (args ++ ArrayArgument place k ∷ []) ArgDone) ls) (append_assoc xs (OneTruth b ∷ []) ys)

-- An argument begins after the parenthesis or after a comma, and a comma or the parenthesis follows it.
abbrev begins_after : Bool → ArgumentPart
begins_after true = ArgOpen
begins_after false = ArgComma

abbrev end_lexeme : Bool → Lexeme
end_lexeme true = ParenClose
end_lexeme false = Comma

abbrev end_part : Bool → ArgumentPart
end_part true = ArgClosed
end_part false = ArgComma

done_run :
    (items : List Item) (phase : Phase) (at : ℕ) (name : Word) (args : List ArgumentText) (last : Bool) (ls : List Lexeme) →
    after_all (in_call items phase at name args ArgDone) (end_lexeme last ∷ ls) ≡ after_all (in_call items phase at name args (end_part last)) ls
unfolding after_lexeme
done_run items phase at name args true ls = refl
done_run items phase at name args false ls = refl

number_run :
    (items : List Item) (phase : Phase) (at : ℕ) (name : Word) (args : List ArgumentText) (n : Figure) (last : Bool) (ls : List Lexeme) →
    after_all (in_call items phase at name args (ArgNumber n)) (end_lexeme last ∷ ls)
    ≡ after_all (in_call items phase at name (args ++ OneArgument (OneNumber n) ∷ []) (end_part last)) ls
unfolding after_lexeme
number_run items phase at name args n true ls = refl
number_run items phase at name args n false ls = refl

-- a whole argument is read, but for a number, which a comma or the parenthesis ends
set_run :
    (items : List Item) (phase : Phase) (at : ℕ) (name : Word) (args : List ArgumentText) (first : Bool) (x : Members) (ls : List Lexeme) →
    after_all (in_call items phase at name args (begins_after first)) (members_lexemes x ++ ls)
    ≡ after_all (in_call items phase at name (args ++ MembersArgument x ∷ []) ArgDone) ls
unfolding after_lexeme
set_run items phase at name args true (Range low high) ls = refl
set_run items phase at name args false (Range low high) ls = refl
set_run items phase at name args true (Braces place []) ls = refl
set_run items phase at name args false (Braces place []) ls = refl
set_run items phase at name args true (Braces place (n ∷ ns)) ls =
    ap (λ (k : List Lexeme). after_all (in_call items phase at name args (ArgMembers (MembersItem place (n ∷ [])))) k) (append_assoc (with_commas number_lexemes ns) (BraceClose ∷ []) ls)
    ∙ argument_numbers items phase at name args place (n ∷ []) ns ls
set_run items phase at name args false (Braces place (n ∷ ns)) ls =
    ap (λ (k : List Lexeme). after_all (in_call items phase at name args (ArgMembers (MembersItem place (n ∷ [])))) k) (append_assoc (with_commas number_lexemes ns) (BraceClose ∷ []) ls)
    ∙ argument_numbers items phase at name args place (n ∷ []) ns ls

array_run :
    (items : List Item) (phase : Phase) (at : ℕ) (name : Word) (args : List ArgumentText) (first : Bool) (place : ℕ) (xs : List One) (ls : List Lexeme) →
    after_all (in_call items phase at name args (begins_after first)) (argument_lexemes (ArrayArgument place xs) ++ ls)
    ≡ after_all (in_call items phase at name (args ++ ArrayArgument place xs ∷ []) ArgDone) ls
unfolding after_lexeme
array_run items phase at name args true place [] ls = refl
array_run items phase at name args false place [] ls = refl
array_run items phase at name args true place (OneName w ∷ xs) ls =
    ap (λ (k : List Lexeme). after_all (in_call items phase at name args (ArgItem place (OneName w ∷ []))) k) (append_assoc (with_commas one_lexemes xs) (BracketClose ∷ []) ls)
    ∙ array_items items phase at name args place (OneName w ∷ []) xs ls
array_run items phase at name args false place (OneName w ∷ xs) ls =
    ap (λ (k : List Lexeme). after_all (in_call items phase at name args (ArgItem place (OneName w ∷ []))) k) (append_assoc (with_commas one_lexemes xs) (BracketClose ∷ []) ls)
    ∙ array_items items phase at name args place (OneName w ∷ []) xs ls
array_run items phase at name args true place (OneNumber n ∷ xs) ls =
    ap (λ (k : List Lexeme). after_all (in_call items phase at name args (ArgItem place (OneNumber n ∷ []))) k) (append_assoc (with_commas one_lexemes xs) (BracketClose ∷ []) ls)
    ∙ array_items items phase at name args place (OneNumber n ∷ []) xs ls
array_run items phase at name args false place (OneNumber n ∷ xs) ls =
    ap (λ (k : List Lexeme). after_all (in_call items phase at name args (ArgItem place (OneNumber n ∷ []))) k) (append_assoc (with_commas one_lexemes xs) (BracketClose ∷ []) ls)
    ∙ array_items items phase at name args place (OneNumber n ∷ []) xs ls
array_run items phase at name args true place (OneTruth b ∷ xs) ls =
    ap (λ (k : List Lexeme). after_all (in_call items phase at name args (ArgItem place (OneTruth b ∷ []))) k) (append_assoc (with_commas one_lexemes xs) (BracketClose ∷ []) ls)
    ∙ array_items items phase at name args place (OneTruth b ∷ []) xs ls
array_run items phase at name args false place (OneTruth b ∷ xs) ls =
    ap (λ (k : List Lexeme). after_all (in_call items phase at name args (ArgItem place (OneTruth b ∷ []))) k) (append_assoc (with_commas one_lexemes xs) (BracketClose ∷ []) ls)
    ∙ array_items items phase at name args place (OneTruth b ∷ []) xs ls

argument_run :
    (items : List Item) (phase : Phase) (at : ℕ) (name : Word) (args : List ArgumentText) (first last : Bool) (a : ArgumentText) (ls : List Lexeme) →
    after_all (in_call items phase at name args (begins_after first)) (argument_lexemes a ++ end_lexeme last ∷ ls)
    ≡ after_all (in_call items phase at name (args ++ a ∷ []) (end_part last)) ls
unfolding after_lexeme
argument_run items phase at name args true last (OneArgument (OneName w)) ls = done_run items phase at name (args ++ OneArgument (OneName w) ∷ []) last ls
argument_run items phase at name args false last (OneArgument (OneName w)) ls = done_run items phase at name (args ++ OneArgument (OneName w) ∷ []) last ls
argument_run items phase at name args true last (OneArgument (OneTruth b)) ls = done_run items phase at name (args ++ OneArgument (OneTruth b) ∷ []) last ls
argument_run items phase at name args false last (OneArgument (OneTruth b)) ls = done_run items phase at name (args ++ OneArgument (OneTruth b) ∷ []) last ls
argument_run items phase at name args true last (OneArgument (OneNumber n)) ls = number_run items phase at name args n last ls
argument_run items phase at name args false last (OneArgument (OneNumber n)) ls = number_run items phase at name args n last ls
argument_run items phase at name args first last (MembersArgument x) ls =
    set_run items phase at name args first x (end_lexeme last ∷ ls) ∙ done_run items phase at name (args ++ MembersArgument x ∷ []) last ls
argument_run items phase at name args first last (ArrayArgument place xs) ls =
    array_run items phase at name args first place xs (end_lexeme last ∷ ls) ∙ done_run items phase at name (args ++ ArrayArgument place xs ∷ []) last ls

-- the arguments, with one at least
some_arguments_run :
    (items : List Item) (phase : Phase) (at : ℕ) (name : Word) (args : List ArgumentText) (first : Bool) (a : ArgumentText) (more : List ArgumentText) (ls : List Lexeme) →
    after_all (in_call items phase at name args (begins_after first)) (argument_lexemes a ++ (with_commas argument_lexemes more ++ ParenClose ∷ ls))
    ≡ after_all (in_call items phase at name (args ++ a ∷ more) ArgClosed) ls
some_arguments_run items phase at name args first a [] ls = argument_run items phase at name args first true a ls
some_arguments_run items phase at name args first a (b ∷ more) ls =
    ap (λ (k : List Lexeme). after_all (in_call items phase at name args (begins_after first)) (argument_lexemes a ++ Comma ∷ k)) (append_assoc (argument_lexemes b) (with_commas argument_lexemes more) (ParenClose ∷ ls))
    ∙ argument_run items phase at name args first false a (argument_lexemes b ++ (with_commas argument_lexemes more ++ ParenClose ∷ ls))
    ∙ some_arguments_run items phase at name (args ++ a ∷ []) false b more ls
    ∙ ap (λ (k : List ArgumentText). after_all (in_call items phase at name k ArgClosed) ls) (append_assoc args (a ∷ []) (b ∷ more))

arguments_run :
    (items : List Item) (phase : Phase) (at : ℕ) (name : Word) (args : List ArgumentText) (ls : List Lexeme) →
    after_all (in_call items phase at name [] ArgOpen) (between_commas argument_lexemes args ++ ParenClose ∷ ls)
    ≡ after_all (in_call items phase at name args ArgClosed) ls
unfolding after_lexeme
arguments_run items phase at name [] ls = refl
arguments_run items phase at name (a ∷ more) ls =
    ap (λ (k : List Lexeme). after_all (in_call items phase at name [] ArgOpen) k) (append_assoc (argument_lexemes a) (with_commas argument_lexemes more) (ParenClose ∷ ls))
    ∙ some_arguments_run items phase at name [] true a more ls

-- an item begins where it may
goes_on :
    (b : Bool) (items : List Item) (phase : Phase) (p : Part) (ls : List Lexeme) → IsTrue b →
    bind (moved (at_part items phase Ready) (goes_if b p)) (λ q. after_all q ls) ≡ after_all (at_part items phase p) ls
goes_on true items phase p ls h = refl
goes_on false items phase p ls h = cc

-- the lexemes of an item make it
item_run :
    (items : List Item) (phase : Phase) (i : Item) (ls : List Lexeme) → IsTrue (may_stand phase i) →
    after_all (at_part items phase Ready) (item_lexemes i ++ ls) ≡ after_all (at_part (items ++ i ∷ []) (phase_after phase i) Ready) ls
unfolding after_lexeme
item_run items phase (ExistsItem at None) ls h = goes_on (before_goal phase) items phase (HeadIn (HeadExists at)) (Semicolon ∷ ls) h
item_run items phase (ExistsItem at (Some c)) ls h = goes_on (before_goal phase) items phase (HeadIn (HeadExists at)) (Optimise c.sense ∷ Name c.target ∷ Semicolon ∷ ls) h
item_run items phase (ForallItem at) ls h = goes_on (before_goal phase) items phase (HeadIn (HeadForall at)) (Semicolon ∷ ls) h
item_run items phase GoalItem ls h = goes_on (before_goal phase) items phase (HeadIn HeadGoal) (Semicolon ∷ ls) h
item_run items phase (VariableItem at d w) ls h =
    goes_on (in_scope phase) items phase (VariableIn (VarStart at)) ((domain_lexemes d ++ Colon ∷ Name w ∷ Semicolon ∷ []) ++ ls) h
    ∙ ap (λ (k : List Lexeme). after_all (at_part items phase (VariableIn (VarStart at))) k) (append_assoc (domain_lexemes d) (Colon ∷ Name w ∷ Semicolon ∷ []) ls)
    ∙ domain_run items phase at d (Colon ∷ Name w ∷ Semicolon ∷ ls)
item_run items phase (AggregateItem at w SumFold target) ls h =
    goes_on (in_universal phase) items phase (AggregateIn (AggStart at)) (Name w ∷ Equals ∷ Sum ∷ ParenOpen ∷ Name target ∷ ParenClose ∷ Semicolon ∷ ls) h
item_run items phase (AggregateItem at w (LeastFold n) target) ls h =
    goes_on (in_universal phase) items phase (AggregateIn (AggStart at)) (Name w ∷ Equals ∷ Least ∷ ParenOpen ∷ Name target ∷ ParenClose ∷ Else ∷ Number n ∷ Semicolon ∷ ls) h
item_run items phase (AggregateItem at w (GreatestFold n) target) ls h =
    goes_on (in_universal phase) items phase (AggregateIn (AggStart at)) (Name w ∷ Equals ∷ Greatest ∷ ParenOpen ∷ Name target ∷ ParenClose ∷ Else ∷ Number n ∷ Semicolon ∷ ls) h
item_run items phase (ConstraintItem at w args) ls h =
    goes_on (in_restriction phase) items phase (ConstraintIn (ConStart at)) (Name w ∷ ParenOpen ∷ ((between_commas argument_lexemes args ++ ParenClose ∷ Semicolon ∷ []) ++ ls)) h
    ∙ ap (λ (k : List Lexeme). after_all (in_call items phase at w [] ArgOpen) k) (append_assoc (between_commas argument_lexemes args) (ParenClose ∷ Semicolon ∷ []) ls)
    ∙ arguments_run items phase at w args (Semicolon ∷ ls)

-- the lexemes of arranged items, and those of the end, are read to the end
items_run :
    (done : List Item) (phase : Phase) (items : List Item) → IsTrue (are_arranged phase items) →
    after_all (at_part done phase Ready) (problem_lexemes items) ≡ Some (at_part (done ++ items) (last_phase phase items) Ended)
unfolding after_lexeme
items_run done phase [] h =
    goes_on (in_goal phase) done phase Solving (Semicolon ∷ []) h ∙ ap (λ (k : List Item). Some (at_part k phase Ended)) (sym (append-nil done))
items_run done phase (i ∷ items) h =
    let both = and_parts (may_stand phase i) (are_arranged (phase_after phase i) items) h in
    ap (λ (k : List Lexeme). after_all (at_part done phase Ready) k) (append_assoc (item_lexemes i) (flat_map item_lexemes items) (Solve ∷ Semicolon ∷ []))
    ∙ item_run done phase i (problem_lexemes items) both.0
    ∙ items_run (done ++ i ∷ []) (phase_after phase i) items both.1
    ∙ ap (λ (k : List Item). Some (at_part k (last_phase (phase_after phase i) items) Ended)) (append_assoc done (i ∷ []) items)

-- the lexemes of a problem are read to the end, and give its items
pub problem_run : (items : List Item) → IsTrue (are_arranged Outside items) → after_all start (problem_lexemes items) ≡ Some (record { items = items; phase = last_phase Outside items; part = Ended })
problem_run items h = items_run [] Outside items h

after_next : (o : Option Reading) (a b : List Lexeme) → ((q : Reading) → after_all q (a ++ b) ≡ bind (after_all q a) (λ s. after_all s b)) → bind o (λ q. after_all q (a ++ b)) ≡ bind (bind o (λ q. after_all q a)) (λ q. after_all q b)
after_next None a b f = refl
after_next (Some q) a b f = f q

-- what comes after some lexemes
pub after_append : (r : Reading) (a b : List Lexeme) → after_all r (a ++ b) ≡ bind (after_all r a) (λ q. after_all q b)
after_append r [] b = refl
after_append r (l ∷ a) b = after_next (after_lexeme r l) a b (λ q. after_append q a b)
