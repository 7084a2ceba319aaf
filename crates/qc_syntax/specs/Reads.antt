-- What a problem text says: a problem, or a refusal with its place.
use Rattle.std.specs.Prelude.{◌≡◌, ℕ, List, None, Some}
use Rattle.qc_model.specs.Content.{Game}
use Rattle.qc_tokens.specs.Tokens.{tokens_of, first_bad_byte, first_bad_number}
use Rattle.text_grammar.specs.declared.tree.Item.{Item}
use Rattle.text_grammar.specs.Grammar.{IsProblem}
use Rattle.text_grammar.specs.Lexemes.{lexemes_of, StopsAt}
use Rattle.text_resolve.specs.declared.refusal.RefusalKind.{RefusalKind}
use Rattle.text_resolve.specs.declared.refusal.RefusalKind.TheVariants.{DuplicateName as NameRepeated, UnknownName as NameUnknown, UnknownPredicate as PredicateUnknown, WrongArguments as ArgumentsWrong, OutOfRange as NumberFar, EmptyDomain as DomainEmpty, TooWide as DomainWide, TooMany as Excess, NotVisible as Hidden, BottleneckFirst as Followed}
use Rattle.text_resolve.specs.Draft.{game_of}
use Rattle.text_resolve.specs.TextRefusals.{first_refusal}
use Rattle.qc_syntax.specs.declared.fault.Refused13.{Refused13}
use Rattle.qc_syntax.specs.declared.fault.Refused13.TheVariants.{BadByte, BadNumber, Syntax, DuplicateName, UnknownName, UnknownPredicate, WrongArguments, OutOfRange, EmptyDomain, TooWide, TooMany, NotVisible, BottleneckFirst}
use Rattle.qc_syntax.specs.declared.fault.ReadFault.{ReadFault}
use Rattle.qc_syntax.specs.declared.fault.ReadFault.TheVariants.{Refused, Memory}

-- the text is cut into tokens without a bad one
pub record IsClean (text : List ℕ) : Type 0 where
  pub bytes : first_bad_byte text ≡ None
  pub numbers : first_bad_number text ≡ None

-- these are the items of the text
pub record HasItems (text : List ℕ) (items : List Item) : Type 0 where
  pub clean : IsClean text
  pub problem : IsProblem items (lexemes_of text (tokens_of text))

-- the text is that of this problem
pub record Reads (text : List ℕ) (g : Game) : Type 0 where
  pub items : List Item
  pub written : HasItems text items
  pub unrefused : first_refusal text (tokens_of text) items ≡ None
  pub game : g ≡ game_of text items

-- the kind of refusal for a fault of the items
abbrev pub kind_of : RefusalKind → Refused13
kind_of NameRepeated = DuplicateName
kind_of NameUnknown = UnknownName
kind_of PredicateUnknown = UnknownPredicate
kind_of ArgumentsWrong = WrongArguments
kind_of NumberFar = OutOfRange
kind_of DomainEmpty = EmptyDomain
kind_of DomainWide = TooWide
kind_of Excess = TooMany
kind_of Hidden = NotVisible
kind_of Followed = BottleneckFirst

-- the items of the text meet this fault first, of that kind
pub record MeetsFirst (text : List ℕ) (kind : Refused13) (at : ℕ) : Type 0 where
  pub items : List Item
  pub written : HasItems text items
  pub fault : RefusalKind
  pub first : first_refusal text (tokens_of text) items ≡ Some (record { kind = fault; at = at })
  pub same : kind ≡ kind_of fault

-- the text is refused for this kind, the first that it meets, at the first place where it meets it
abbrev pub Refuses : List ℕ → Refused13 → ℕ → Type 0
Refuses text BadByte at = first_bad_byte text ≡ Some at
Refuses text BadNumber at = (first_bad_byte text ≡ None) × (first_bad_number text ≡ Some at)
Refuses text Syntax at = IsClean text × StopsAt text (tokens_of text) at
Refuses text kind at = MeetsFirst text kind at

-- why a text is answered so
abbrev pub Explains : List ℕ → ReadFault → Type 0
Explains text (Refused r) = Refuses text r.kind r.at
Explains text (Memory e) = Unit {0}
