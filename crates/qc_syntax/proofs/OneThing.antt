-- A text says one thing.
use Rattle.std.proofs.Common.{◌≡◌, ℕ, List, Option, Some, None, ap, sym, ◌∙◌, subst, refl}
use Rattle.std.proofs.lemmas.Option.{same_Some}
use Rattle.qc_model.specs.Content.{Game}
use Rattle.qc_tokens.specs.Tokens.{tokens_of, first_bad_byte, first_bad_number}
use Rattle.text_grammar.specs.declared.tree.Item.{Item}
use Rattle.text_grammar.specs.Lexemes.{lexemes_of, StopsAt}
use Rattle.text_grammar.proofs.Problems.{one_problem}
use Rattle.text_grammar.proofs.Stops.{problem_stops_nowhere, one_stop}
use Rattle.text_resolve.specs.declared.refusal.RefusalKind.{RefusalKind}
use Rattle.text_resolve.specs.Draft.{game_of}
use Rattle.text_resolve.specs.TextRefusals.{Refusal, first_refusal}
use Rattle.qc_syntax.specs.declared.fault.Refused13.{Refused13}
use Rattle.qc_syntax.specs.declared.fault.Refused13.TheVariants.{BadByte, BadNumber, Syntax, DuplicateName, UnknownName, UnknownPredicate, WrongArguments, OutOfRange, EmptyDomain, TooWide, TooMany, NotVisible, BottleneckFirst}
use Rattle.qc_syntax.specs.Reads.{IsClean, HasItems, Reads, MeetsFirst, Refuses, kind_of}

-- nothing is no value
some_is_not_none : {A : Type 0} (a : Option A) (x : A) → a ≡ None → a ≡ Some x → ⊥
some_is_not_none a x p q = cc

value_is_one : {A : Type 0} (a : Option A) (x y : A) → a ≡ Some x → a ≡ Some y → x ≡ y
value_is_one a x y p q = cc

-- a text has one list of items
items_are_one : (text : List ℕ) (is js : List Item) → HasItems text is → HasItems text js → is ≡ js
items_are_one text is js p q = one_problem is js (lexemes_of text (tokens_of text)) p.problem q.problem

pub reads_one : (text : List ℕ) (g h : Game) → Reads text g → Reads text h → g ≡ h
reads_one text g h p q = p.game ∙ ap (game_of text) (items_are_one text p.items q.items p.written q.written) ∙ sym q.game

-- a text without a fault has none
unrefused : (text : List ℕ) (g : Game) (kind : Refused13) (at : ℕ) → Reads text g → MeetsFirst text kind at → ⊥
unrefused text g kind at p q =
    some_is_not_none (first_refusal text (tokens_of text) q.items) (record { kind = q.fault; at = at })
    (subst (λ (is : List Item). first_refusal text (tokens_of text) is ≡ None) (items_are_one text p.items q.items p.written q.written) p.unrefused) q.first

pub never_both : (text : List ℕ) (g : Game) (kind : Refused13) (at : ℕ) → Reads text g → Refuses text kind at → ⊥
never_both text g BadByte at p q = some_is_not_none (first_bad_byte text) at p.written.clean.bytes q
never_both text g BadNumber at p q = some_is_not_none (first_bad_number text) at p.written.clean.numbers q.1
never_both text g Syntax at p q = problem_stops_nowhere text (tokens_of text) at p.items p.written.problem q.1
never_both text g DuplicateName at p q = unrefused text g DuplicateName at p q
never_both text g UnknownName at p q = unrefused text g UnknownName at p q
never_both text g UnknownPredicate at p q = unrefused text g UnknownPredicate at p q
never_both text g WrongArguments at p q = unrefused text g WrongArguments at p q
never_both text g OutOfRange at p q = unrefused text g OutOfRange at p q
never_both text g EmptyDomain at p q = unrefused text g EmptyDomain at p q
never_both text g TooWide at p q = unrefused text g TooWide at p q
never_both text g TooMany at p q = unrefused text g TooMany at p q
never_both text g NotVisible at p q = unrefused text g NotVisible at p q
never_both text g BottleneckFirst at p q = unrefused text g BottleneckFirst at p q

-- How far reading came: to a bad byte, to a bad number, to a token that can't stand there, or to a fault of the items.
data Met (text : List ℕ) (kind : Refused13) (at : ℕ) : Type 0 where
  at_byte : kind ≡ BadByte → first_bad_byte text ≡ Some at → Met text kind at
  at_number : kind ≡ BadNumber → first_bad_byte text ≡ None → first_bad_number text ≡ Some at → Met text kind at
  at_token : kind ≡ Syntax → IsClean text → StopsAt text (tokens_of text) at → Met text kind at
  at_items : MeetsFirst text kind at → Met text kind at

met : (text : List ℕ) (kind : Refused13) (at : ℕ) → Refuses text kind at → Met text kind at
met text BadByte at q = at_byte refl q
met text BadNumber at q = at_number refl q.0 q.1
met text Syntax at q = at_token refl q.0 q.1
met text DuplicateName at q = at_items q
met text UnknownName at q = at_items q
met text UnknownPredicate at q = at_items q
met text WrongArguments at q = at_items q
met text OutOfRange at q = at_items q
met text EmptyDomain at q = at_items q
met text TooWide at q = at_items q
met text TooMany at q = at_items q
met text NotVisible at q = at_items q
met text BottleneckFirst at q = at_items q

abbrev refusal_at : RefusalKind → ℕ → Refusal
refusal_at kind at = record { kind = kind; at = at }

-- a fault of the items is of one kind, at one place
same_fault : (text : List ℕ) (kind other : Refused13) (at place : ℕ) (p : MeetsFirst text kind at) (q : MeetsFirst text other place) →
    Some (refusal_at p.fault at) ≡ Some (refusal_at q.fault place)
same_fault text kind other at place p q =
    sym p.first ∙ (ap (first_refusal text (tokens_of text)) (items_are_one text p.items q.items p.written q.written) ∙ q.first)

one_fault : (text : List ℕ) (kind other : Refused13) (at place : ℕ) → MeetsFirst text kind at → MeetsFirst text other place → (kind ≡ other) × (at ≡ place)
one_fault text kind other at place p q =
    let same = same_Some (refusal_at p.fault at) (refusal_at q.fault place) (same_fault text kind other at place p q) in
    (p.same ∙ (ap (λ (f : Refusal). kind_of f.kind) same ∙ sym q.same), ap (λ (f : Refusal). f.at) same)

-- two ways in which a text is refused are one
one_of_two : (text : List ℕ) (kind other : Refused13) (at place : ℕ) → Met text kind at → Met text other place → (kind ≡ other) × (at ≡ place)
one_of_two text kind other at place (at_byte k p) (at_byte l q) = (k ∙ sym l, value_is_one (first_bad_byte text) at place p q)
one_of_two text kind other at place (at_byte k p) (at_number l q r) = absurd (some_is_not_none (first_bad_byte text) at q p)
one_of_two text kind other at place (at_byte k p) (at_token l q r) = absurd (some_is_not_none (first_bad_byte text) at q.bytes p)
one_of_two text kind other at place (at_byte k p) (at_items q) = absurd (some_is_not_none (first_bad_byte text) at q.written.clean.bytes p)
one_of_two text kind other at place (at_number k p s) (at_byte l q) = absurd (some_is_not_none (first_bad_byte text) place p q)
one_of_two text kind other at place (at_number k p s) (at_number l q r) = (k ∙ sym l, value_is_one (first_bad_number text) at place s r)
one_of_two text kind other at place (at_number k p s) (at_token l q r) = absurd (some_is_not_none (first_bad_number text) at q.numbers s)
one_of_two text kind other at place (at_number k p s) (at_items q) = absurd (some_is_not_none (first_bad_number text) at q.written.clean.numbers s)
one_of_two text kind other at place (at_token k p s) (at_byte l q) = absurd (some_is_not_none (first_bad_byte text) place p.bytes q)
one_of_two text kind other at place (at_token k p s) (at_number l q r) = absurd (some_is_not_none (first_bad_number text) place p.numbers r)
one_of_two text kind other at place (at_token k p s) (at_token l q r) = (k ∙ sym l, one_stop text (tokens_of text) at place s r)
one_of_two text kind other at place (at_token k p s) (at_items q) = absurd (problem_stops_nowhere text (tokens_of text) at q.items q.written.problem s)
one_of_two text kind other at place (at_items p) (at_byte l q) = absurd (some_is_not_none (first_bad_byte text) place p.written.clean.bytes q)
one_of_two text kind other at place (at_items p) (at_number l q r) = absurd (some_is_not_none (first_bad_number text) place p.written.clean.numbers r)
one_of_two text kind other at place (at_items p) (at_token l q r) = absurd (problem_stops_nowhere text (tokens_of text) place p.items p.written.problem r)
one_of_two text kind other at place (at_items p) (at_items q) = one_fault text kind other at place p q

pub refuses_one : (text : List ℕ) (kind other : Refused13) (at place : ℕ) → Refuses text kind at → Refuses text other place → (kind ≡ other) × (at ≡ place)
refuses_one text kind other at place p q = one_of_two text kind other at place (met text kind at p) (met text other place q)
