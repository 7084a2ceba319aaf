-- Where a text has more of something than a problem may have.
use Rattle.std.specs.Prelude.{ℕ, suc, nat_le, nat_lt, cond, List, [], ◌∷◌, length, Option, None, Some}
use Rattle.qc_model.specs.declared.signature.ArgKind.{ArgKind}
use Rattle.qc_model.specs.declared.signature.ArgKind.TheVariants.{Integers as integers, Booleans as booleans}
use Rattle.qc_model.specs.Signature.{arg_kinds_of, most_items, most_in_braces}
use Rattle.qc_model.specs.declared.problem.Pred.{Pred}
use Rattle.text_grammar.specs.declared.tree.Members.{Members}
use Rattle.text_grammar.specs.declared.tree.Members.TheVariants.{Range, Braces}
use Rattle.text_grammar.specs.declared.tree.DomainText.{DomainText}
use Rattle.text_grammar.specs.declared.tree.DomainText.TheVariants.{Bits as BitsDomain, Members as MembersDomain}
use Rattle.text_grammar.specs.declared.tree.ArgumentText.{ArgumentText}
use Rattle.text_grammar.specs.declared.tree.ArgumentText.TheVariants.{One as OneArgument, Members as MembersArgument, Array}
use Rattle.text_grammar.specs.declared.tree.Item.{Item}
use Rattle.text_grammar.specs.declared.tree.Item.TheVariants.{Exists as ExistsItem, Forall as ForallItem, Goal as GoalItem, Variable, Aggregate as AggregateItem, Constraint}
use Rattle.text_resolve.specs.Owned.{word_bytes}
use Rattle.text_resolve.specs.Fits.{predicate_of}

-- the first of two places that there is
abbrev pub or_else : Option ℕ → Option ℕ → Option ℕ
or_else None later = later
or_else (Some at) later = Some at

-- more items in braces than they may have, as they are written
abbrev pub long_braces : Members → Option ℕ
long_braces (Range low high) = None
long_braces (Braces at ns) = cond (nat_le (length ns) most_in_braces) None (Some at)

abbrev pub long_domain : DomainText → Option ℕ
long_domain (BitsDomain at) = None
long_domain (MembersDomain m) = long_braces m

abbrev pub long_argument : ArgKind → ArgumentText → Option ℕ
long_argument s (OneArgument a) = None
long_argument s (MembersArgument m) = long_braces m
long_argument s (Array at items) = cond (nat_le (length items) (most_items s)) None (Some at)

abbrev pub first_long : List ArgKind → List ArgumentText → Option ℕ
first_long [] args = None
first_long (s ∷ sorts) [] = None
first_long (s ∷ sorts) (a ∷ args) = or_else (long_argument s a) (first_long sorts args)

abbrev pub long_call : Option Pred → List ArgumentText → Option ℕ
long_call None args = None
long_call (Some p) args = first_long (arg_kinds_of p) args

-- an item that comes after as many of its sort as there may be has its place
abbrev pub past : ℕ → ℕ → ℕ → Option ℕ
past most n at = cond (nat_lt n most) None (Some at)

-- the place of the first thing that is too much, after so many scopes, variables, aggregates and constraints
abbrev pub first_excess : List ℕ → ℕ → ℕ → ℕ → ℕ → List Item → Option ℕ
first_excess text scopes variables aggregates constraints [] = None
first_excess text scopes variables aggregates constraints (i ∷ is) = elim i [
  | ExistsItem at condition ↦ or_else (past 64 scopes at) (first_excess text (suc scopes) variables aggregates constraints is)
  | ForallItem at ↦ or_else (past 64 scopes at) (first_excess text (suc scopes) variables aggregates constraints is)
  | GoalItem ↦ first_excess text scopes variables aggregates constraints is
  | Variable at domain name ↦
      or_else (past 500 variables at) (or_else (long_domain domain) (first_excess text scopes (suc variables) aggregates constraints is))
  | AggregateItem at name fold target ↦ or_else (past 255 aggregates at) (first_excess text scopes variables (suc aggregates) constraints is)
  | Constraint at name args ↦
      or_else (past 20000 constraints at)
      (or_else (long_call (predicate_of (word_bytes text name)) args) (first_excess text scopes variables aggregates (suc constraints) is))
]
