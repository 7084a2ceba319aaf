-- Numbers, and the values and widths of domains, as the text writes them.
use Rattle.std.specs.Prelude.{◌+◌, ℕ, nat_le, Bool, true, not, ◌&&◌, cond, List, [], ◌∷◌, map, Option, None, Some, ℤ, ◌-ℤ◌, nat_abs, int_le}
use Rattle.qc_model.specs.Domains.{is_none_left}
use Rattle.qc_model.specs.Valid.{is_number, width_of}
use Rattle.qc_tokens.specs.declared.token.Token.{Token}
use Rattle.qc_tokens.specs.declared.token.Sort.TheVariants.{Word as WordSort, Number as NumberSort, Sign as SignSort}
use Rattle.text_grammar.specs.declared.tree.Number.{Number as Figure}
use Rattle.text_grammar.specs.declared.tree.Members.{Members}
use Rattle.text_grammar.specs.declared.tree.Members.TheVariants.{Range, Braces}
use Rattle.text_grammar.specs.declared.tree.DomainText.{DomainText}
use Rattle.text_grammar.specs.declared.tree.DomainText.TheVariants.{Bits as BitsDomain, Members as MembersDomain}
use Rattle.text_grammar.specs.declared.tree.Item.{Item}
use Rattle.text_grammar.specs.declared.tree.Item.TheVariants.{Exists as ExistsItem, Forall as ForallItem, Goal as GoalItem, Variable, Aggregate as AggregateItem, Constraint}
use Rattle.text_resolve.specs.Fits.{first_place}

-- the place of a number outside -1,000,000,000 to 1,000,000,000
abbrev pub far_number : Token → Option ℕ
far_number t = elim t.sort [ WordSort ↦ None | NumberSort z ↦ cond (is_number z) None (Some t.start) | SignSort b ↦ None ]

abbrev pub first_far : List Token → Option ℕ
first_far ts = first_place far_number ts

abbrev pub number_values : List Figure → List ℤ
number_values ns = map (λ n. n.value) ns

abbrev pub has_members : Members → Bool
has_members (Range low high) = int_le low.value high.value
has_members (Braces at ns) = not (is_none_left (number_values ns))

abbrev pub members_at : Members → ℕ
members_at (Range low high) = low.at
members_at (Braces at ns) = at

-- the place of a domain's first token
abbrev pub domain_at : DomainText → ℕ
domain_at (BitsDomain at) = at
domain_at (MembersDomain m) = members_at m

abbrev pub has_domain_values : DomainText → Bool
has_domain_values (BitsDomain at) = true
has_domain_values (MembersDomain m) = has_members m

-- a variable whose domain has no value has the place of that
abbrev pub empty_domain : Item → Option ℕ
empty_domain (Variable at domain name) = cond (has_domain_values domain) None (Some (domain_at domain))
empty_domain (ExistsItem at condition) = None
empty_domain (ForallItem at) = None
empty_domain GoalItem = None
empty_domain (AggregateItem at name fold target) = None
empty_domain (Constraint at name args) = None

abbrev pub first_empty : List Item → Option ℕ
first_empty items = first_place empty_domain items

-- the greatest value minus the least, plus one
abbrev pub members_width : Members → ℕ
members_width (Range low high) = nat_abs (high.value -ℤ low.value) + 1
members_width (Braces at ns) = width_of (number_values ns)

abbrev pub width_text : DomainText → ℕ
width_text (BitsDomain at) = 2
width_text (MembersDomain m) = members_width m

-- the place of the first domain that is too wide, or with which all domains so far are; their widths sum to this before it
abbrev pub first_wide : ℕ → List Item → Option ℕ
first_wide total [] = None
first_wide total (i ∷ is) = elim i [
  | ExistsItem at condition ↦ first_wide total is
  | ForallItem at ↦ first_wide total is
  | GoalItem ↦ first_wide total is
  | Variable at domain name ↦
      cond (nat_le (width_text domain) 1048576 && nat_le (total + width_text domain) 4194304) (first_wide (total + width_text domain) is)
      (Some (domain_at domain))
  | AggregateItem at name fold target ↦ first_wide total is
  | Constraint at name args ↦ first_wide total is
]
