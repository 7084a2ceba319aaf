-- What the items of a text are refused for.
use Rattle.std.specs.Prelude.{ℕ, List, [], ◌∷◌, Option, None, Some}
use Rattle.qc_tokens.specs.declared.token.Token.{Token}
use Rattle.text_grammar.specs.declared.tree.Item.{Item}
use Rattle.text_resolve.specs.declared.refusal.RefusalKind.{RefusalKind}
use Rattle.text_resolve.specs.declared.refusal.RefusalKind.TheVariants.{DuplicateName, UnknownName, UnknownPredicate, WrongArguments, OutOfRange, EmptyDomain, TooWide, TooMany, NotVisible, BottleneckFirst}
use Rattle.text_resolve.specs.Owned.{owned, kinds_of}
use Rattle.text_resolve.specs.Names.{declared, first_repeated, first_unknown}
use Rattle.text_resolve.specs.Fits.{first_strange, first_misfit}
use Rattle.text_resolve.specs.Numbers.{first_far, first_empty, first_wide}
use Rattle.text_resolve.specs.Excess.{first_excess}
use Rattle.text_resolve.specs.Hidden.{first_hidden}
use Rattle.text_resolve.specs.Bottlenecks.{first_followed}

-- the place at which the text, its tokens and its items are refused for this fault, if they are
abbrev pub refusal_at : RefusalKind → List ℕ → List Token → List Item → Option ℕ
refusal_at DuplicateName text ts items = first_repeated [] (declared text items)
refusal_at UnknownName text ts items = first_unknown text (declared text items) items
refusal_at UnknownPredicate text ts items = first_strange text items
refusal_at WrongArguments text ts items = first_misfit text (declared text items) items
refusal_at OutOfRange text ts items = first_far ts
refusal_at EmptyDomain text ts items = first_empty items
refusal_at TooWide text ts items = first_wide 0 items
refusal_at TooMany text ts items = first_excess text 0 0 0 0 items
refusal_at NotVisible text ts items = first_hidden text (declared text items) (kinds_of items) (owned items)
refusal_at BottleneckFirst text ts items = first_followed text items

pub record Refusal : Type 0 where
  pub kind : RefusalKind
  pub at : ℕ

abbrev pub first_refusal_of : List RefusalKind → List ℕ → List Token → List Item → Option Refusal
first_refusal_of [] text ts items = None
first_refusal_of (k ∷ ks) text ts items =
    elim (refusal_at k text ts items) [ None ↦ first_refusal_of ks text ts items | Some at ↦ Some (record { kind = k; at = at }) ]

-- the order in which faults are looked for
abbrev pub refusal_order : List RefusalKind
refusal_order =
    DuplicateName ∷ UnknownName ∷ UnknownPredicate ∷ WrongArguments ∷ OutOfRange ∷ EmptyDomain ∷ TooWide ∷ TooMany ∷ NotVisible
    ∷ BottleneckFirst ∷ []

-- the first fault of a text
abbrev pub first_refusal : List ℕ → List Token → List Item → Option Refusal
first_refusal text ts items = first_refusal_of refusal_order text ts items

-- the last that is looked for, which is the first where there is no other
abbrev pub last_refusal : List ℕ → List Item → Option Refusal
last_refusal text items = elim (first_followed text items) [ None ↦ None | Some at ↦ Some (record { kind = BottleneckFirst; at = at }) ]
