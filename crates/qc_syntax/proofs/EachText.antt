-- Each text is that of a problem, or is refused.
use Rattle.std.proofs.Common.{◌≡◌, ◌⊎◌, inl, inr, refl, sym, subst, ℕ, List, Option, Some, None}
use Rattle.qc_model.specs.Content.{Game}
use Rattle.qc_model.specs.Valid.{IsValid}
use Rattle.qc_tokens.specs.Tokens.{tokens_of, first_bad_byte, first_bad_number}
use Rattle.qc_tokens.proofs.Parts.{tokens_lie}
use Rattle.text_grammar.specs.declared.tree.Item.{Item}
use Rattle.text_grammar.specs.Grammar.{IsProblem}
use Rattle.text_grammar.specs.Lexemes.{lexemes_of, StopsAt}
use Rattle.text_grammar.proofs.Stops.{problem_or_stop}
use Rattle.text_resolve.specs.declared.refusal.RefusalKind.{RefusalKind}
use Rattle.text_resolve.specs.declared.refusal.RefusalKind.TheVariants.{DuplicateName as NameRepeated, UnknownName as NameUnknown, UnknownPredicate as PredicateUnknown, WrongArguments as ArgumentsWrong, OutOfRange as NumberFar, EmptyDomain as DomainEmpty, TooWide as DomainWide, TooMany as Excess, NotVisible as Hidden, BottleneckFirst as Followed}
use Rattle.text_resolve.specs.Draft.{game_of}
use Rattle.text_resolve.specs.TextRefusals.{Refusal, first_refusal}
use Rattle.text_valid.proofs.Validity.{valid}
use Rattle.qc_syntax.specs.declared.fault.Refused13.{Refused13}
use Rattle.qc_syntax.specs.declared.fault.Refused13.TheVariants.{BadByte, BadNumber, Syntax}
use Rattle.qc_syntax.specs.Reads.{IsClean, HasItems, Reads, MeetsFirst, Refuses, kind_of}

abbrev SaysSomething : List ℕ → Type 0
SaysSomething text = ((g : Game) × Reads text g) ⊎ ((kind : Refused13) × (at : ℕ) × Refuses text kind at)

-- a fault of the items is a refusal
fault_refuses : (text : List ℕ) (fault : RefusalKind) (at : ℕ) → MeetsFirst text (kind_of fault) at → Refuses text (kind_of fault) at
fault_refuses text NameRepeated at h = h
fault_refuses text NameUnknown at h = h
fault_refuses text PredicateUnknown at h = h
fault_refuses text ArgumentsWrong at h = h
fault_refuses text NumberFar at h = h
fault_refuses text DomainEmpty at h = h
fault_refuses text DomainWide at h = h
fault_refuses text Excess at h = h
fault_refuses text Hidden at h = h
fault_refuses text Followed at h = h

-- Each is decided by what reading computes: the first fault of the items, ..
by_fault : (text : List ℕ) (items : List Item) → HasItems text items → (first : Option Refusal) → first_refusal text (tokens_of text) items ≡ first → SaysSomething text
by_fault text items written None e = inl (game_of text items, record { items = items; written = written; unrefused = e; game = refl })
by_fault text items written (Some f) e =
    inr (kind_of f.kind, f.at, fault_refuses text f.kind f.at (record { items = items; written = written; fault = f.kind; first = e; same = refl }))

-- .. the items of the tokens, or where they stop, ..
by_tokens : (text : List ℕ) → IsClean text → ((items : List Item) × IsProblem items (lexemes_of text (tokens_of text))) ⊎ ((at : ℕ) × StopsAt text (tokens_of text) at) → SaysSomething text
by_tokens text clean (inl p) = by_fault text p.0 (record { clean = clean; problem = p.1 }) (first_refusal text (tokens_of text) p.0) refl
by_tokens text clean (inr s) = inr (Syntax, s.0, (clean, s.1))

-- .. the first bad number, ..
by_number : (text : List ℕ) → first_bad_byte text ≡ None → (first : Option ℕ) → first_bad_number text ≡ first → SaysSomething text
by_number text b None n = by_tokens text (record { bytes = b; numbers = n }) (problem_or_stop text (tokens_of text))
by_number text b (Some at) n = inr (BadNumber, at, (b, n))

-- .. and the first bad byte
by_byte : (text : List ℕ) (first : Option ℕ) → first_bad_byte text ≡ first → SaysSomething text
by_byte text None b = by_number text b (first_bad_number text) refl
by_byte text (Some at) b = inr (BadByte, at, b)

pub reads_or_refuses : (text : List ℕ) → ((g : Game) × Reads text g) ⊎ ((kind : Refused13) × (at : ℕ) × Refuses text kind at)
reads_or_refuses text = by_byte text (first_bad_byte text) refl

pub reads_valid : (text : List ℕ) (g : Game) → Reads text g → IsValid g
reads_valid text g p =
    subst IsValid (sym p.game)
    (valid text (tokens_of text) p.items (record { problem = p.written.problem; tokens = tokens_lie text (tokens_of text) refl }) p.unrefused)
