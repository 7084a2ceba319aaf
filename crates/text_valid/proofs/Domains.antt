-- The domains and sets of a text that meets no refusal.
use Rattle.std.proofs.Common.{◌≡◌, ◌∙◌, ap, refl, ◌+◌, ◌≤◌, ℕ, suc, Bool, true, false, ◌&&◌, not, cond, List, [], ◌∷◌, length, filter_map, Some, None, arith, ℤ, leb-true, le-leb}
use Rattle.std.proofs.lemmas.Bool.{and_from, and_parts}
use Rattle.std.specs.Prelude.{int_le, nat_le, ◌-ℤ◌, nat_abs}
use Rattle.std.specs.List.{list_all, sum_by}
use Rattle.std.proofs.lemmas.List.Sums.{sum_by-cons}
use Rattle.std.proofs.lemmas.List.{length-map}
use Rattle.std.proofs.lemmas.List.Folds.{list_all-map}
use Rattle.qc_model.specs.declared.problem.Domain.TheVariants.{Range as RangeDomain, Listed as ListedDomain}
use Rattle.qc_model.specs.declared.problem.Set.TheVariants.{Range as RangeSet, Listed as ListedSet}
use Rattle.qc_model.specs.Domains.{is_none_left, is_ascending, least_value, greatest_value}
use Rattle.qc_model.specs.Valid.{is_number, width_of, domain_width, is_listed, has_gap, is_range, is_domain, is_set}
use Rattle.text_grammar.specs.declared.tree.Number.{Number as Figure}
use Rattle.text_grammar.specs.declared.tree.Members.{Members}
use Rattle.text_grammar.specs.declared.tree.Members.TheVariants.{Range, Braces}
use Rattle.text_grammar.specs.declared.tree.DomainText.{DomainText}
use Rattle.text_grammar.specs.declared.tree.DomainText.TheVariants.{Bits as BitsDomain, Members as MembersDomain}
use Rattle.text_grammar.specs.declared.tree.Item.{Item}
use Rattle.text_grammar.specs.declared.tree.Item.TheVariants.{Exists as ExistsItem, Forall as ForallItem, Goal as GoalItem, Variable, Aggregate as AggregateItem, Constraint as ConstraintItem}
use Rattle.text_resolve.specs.Owned.{Owned, owned_from, word_bytes}
use Rattle.text_resolve.specs.Names.{Declared}
use Rattle.text_resolve.specs.Numbers.{number_values, has_domain_values, width_text, domain_at, first_wide}
use Rattle.text_resolve.specs.Excess.{long_braces, long_domain}
use Rattle.text_resolve.specs.Draft.{ascending, listed_domain, domain_of, listed_set, set_of, variable_of}
use Rattle.text_valid.proofs.Each.{passes, passed}
use Rattle.text_valid.proofs.Parts.{members_pass, domain_passes}
use Rattle.text_valid.proofs.Faults.{IsSound, no_wide}
use Rattle.text_valid.proofs.Ascending.{ascends, all_ascending, length_ascending, some_ascending, width_ascending, ends_of}

-- a list that has no place is short
not_long : (n at : ℕ) → cond (nat_le n 100000) None (Some at) ≡ None → n ≤ 100000
not_long n at h = leb-true n 100000 (passed (nat_le n 100000) at h)

-- few numbers in ascending order
ascending_listed : (ns : List Figure) (at : ℕ) → list_all (λ n. is_number n.value) ns ≡ true → long_braces (Braces at ns) ≡ None → is_listed (ascending (number_values ns)) ≡ true
ascending_listed ns at h l =
    let few = not_long (length ns) at l in
    let fewer = length_ascending (number_values ns) in
    let same = length-map ns (λ (n : Figure). n.value) in
    let short : length (ascending (number_values ns)) ≤ 100000 = omega (arith, few, fewer, same) in
    let all = all_ascending is_number (number_values ns) (list_all-map is_number (λ (n : Figure). n.value) ns ∙ h) in
    and_from (nat_le (length (ascending (number_values ns))) 100000 && list_all is_number (ascending (number_values ns))) (is_ascending (ascending (number_values ns)))
    (and_from (nat_le (length (ascending (number_values ns))) 100000) (list_all is_number (ascending (number_values ns))) (le-leb _ _ short) all) (ascends (number_values ns))

listed_numbers : (zs : List ℤ) → is_listed zs ≡ true → list_all is_number zs ≡ true
listed_numbers zs h = (and_parts (nat_le (length zs) 100000) (list_all is_number zs) (and_parts (nat_le (length zs) 100000 && list_all is_number zs) (is_ascending zs) h).0).1

-- the ends of some listed numbers are a range
ends_range : (zs : List ℤ) → is_none_left zs ≡ false → is_listed zs ≡ true → is_range (least_value zs) (greatest_value zs) ≡ true
ends_range zs s h =
    let e = ends_of is_number zs s (listed_numbers zs h) in
    and_from (is_number (least_value zs) && is_number (greatest_value zs)) (int_le (least_value zs) (greatest_value zs))
    (and_from (is_number (least_value zs)) (is_number (greatest_value zs)) e.least e.greatest) e.ordered

-- some listed numbers are a domain, with or without a gap
listed_is_domain : (zs : List ℤ) → is_none_left zs ≡ false → is_listed zs ≡ true → nat_le (width_of zs) 1048576 ≡ true → is_domain (listed_domain zs) ≡ true
listed_is_domain zs s h w = go (has_gap zs) refl
  where
    go : (b : Bool) → has_gap zs ≡ b → is_domain (cond b (ListedDomain zs) (RangeDomain (least_value zs) (greatest_value zs))) ≡ true
    go true e =
        and_from (not (is_none_left zs) && is_listed zs && has_gap zs) (nat_le (width_of zs) 1048576)
        (and_from (not (is_none_left zs) && is_listed zs) (has_gap zs) (and_from (not (is_none_left zs)) (is_listed zs) (ap not s) h) e) w
    go false e = and_from (is_range (least_value zs) (greatest_value zs)) (nat_le (width_of zs) 1048576) (ends_range zs s h) w

some_numbers : (ns : List Figure) → not (is_none_left (number_values ns)) ≡ true → is_none_left (ascending (number_values ns)) ≡ false
some_numbers [] h = absurd cc
some_numbers (n ∷ ns) h = some_ascending n.value (number_values ns)

-- a domain with values, numbers near, not long and not wide
pub domain_is : (d : DomainText) → domain_passes is_number d ≡ true → has_domain_values d ≡ true → long_domain d ≡ None → nat_le (width_text d) 1048576 ≡ true → is_domain (domain_of d) ≡ true
domain_is (BitsDomain at) n v l w = refl
domain_is (MembersDomain (Range low high)) n v l w =
    and_from (is_range low.value high.value) (nat_le (nat_abs (high.value -ℤ low.value) + 1) 1048576)
    (and_from (is_number low.value && is_number high.value) (int_le low.value high.value) n v) w
domain_is (MembersDomain (Braces at ns)) n v l w =
    listed_is_domain (ascending (number_values ns)) (some_numbers ns v) (ascending_listed ns at n l)
    (ap (λ m. nat_le m 1048576) (width_ascending (number_values ns)) ∙ w)

-- listed numbers are a set, with or without a gap
listed_is_set : (zs : List ℤ) → is_listed zs ≡ true → is_set (listed_set zs) ≡ true
listed_is_set [] h = and_from (is_listed []) true h refl
listed_is_set (z ∷ zs) h = go (has_gap (z ∷ zs)) refl
  where
    go : (b : Bool) → has_gap (z ∷ zs) ≡ b → is_set (cond b (ListedSet (z ∷ zs)) (RangeSet (least_value (z ∷ zs)) (greatest_value (z ∷ zs)))) ≡ true
    go true e = and_from (is_listed (z ∷ zs)) (has_gap (z ∷ zs)) h e
    go false e = ends_range (z ∷ zs) refl h

-- the members of a set, likewise, though it may be empty
pub set_is : (m : Members) → members_pass is_number m ≡ true → long_braces m ≡ None → is_set (set_of m) ≡ true
set_is (Range low high) n l = go (int_le low.value high.value) refl
  where
    go : (b : Bool) → int_le low.value high.value ≡ b → is_set (cond b (RangeSet low.value high.value) (ListedSet [])) ≡ true
    go true e = and_from (is_number low.value && is_number high.value) (int_le low.value high.value) n e
    go false e = refl
set_is (Braces at ns) n l = listed_is_set (ascending (number_values ns)) (ascending_listed ns at n l)

-- a domain is as wide as the text says
pub domain_wide : (d : DomainText) → domain_width (domain_of d) ≡ width_text d
domain_wide (BitsDomain at) = refl
domain_wide (MembersDomain (Range low high)) = refl
domain_wide (MembersDomain (Braces at ns)) = go (has_gap (ascending (number_values ns))) ∙ width_ascending (number_values ns)
  where
    go : (b : Bool) → domain_width (cond b (ListedDomain (ascending (number_values ns))) (RangeDomain (least_value (ascending (number_values ns))) (greatest_value (ascending (number_values ns))))) ≡ width_of (ascending (number_values ns))
    go true = refl
    go false = refl

-- the variable of a sound item has a domain
pub item_domain : (text : List ℕ) (ds : List Declared) (o : Owned) → IsSound text ds o.item → passes (λ x. is_domain x.domain) (variable_of text o) ≡ true
item_domain text ds o s = go o.item s
  where
    go : (i : Item) → IsSound text ds i → passes (λ x. is_domain x.domain) (variable_of text (record { owner = o.owner; item = i })) ≡ true
    go (ExistsItem at condition) s = refl
    go (ForallItem at) s = refl
    go GoalItem s = refl
    go (Variable at domain name) s = domain_is domain s.numbers (passed (has_domain_values domain) (domain_at domain) s.full) s.short s.narrow
    go (AggregateItem at name fold target) s = refl
    go (ConstraintItem at name args) s = refl

-- the widths of all domains together
pub widths_from : (text : List ℕ) (items : List Item) (total n owner : ℕ) → first_wide total items ≡ None → total ≤ 4194304 →
    total + sum_by (λ x. domain_width x.domain) (filter_map (variable_of text) (owned_from n owner items)) ≤ 4194304
widths_from text [] total n owner h le = omega arith
widths_from text (ExistsItem at condition ∷ is) total n owner h le = widths_from text is total (suc n) n h le
widths_from text (ForallItem at ∷ is) total n owner h le = widths_from text is total (suc n) n h le
widths_from text (GoalItem ∷ is) total n owner h le = widths_from text is total n n h le
widths_from text (Variable at domain name ∷ is) total n owner h le =
    let t = no_wide (nat_le (width_text domain) 1048576) (nat_le (total + width_text domain) 4194304) (domain_at domain) (first_wide (total + width_text domain) is) h in
    let r = widths_from text is (total + width_text domain) n owner t.2 (leb-true _ _ t.1) in
    let e = sum_by-cons (λ x. domain_width x.domain) (record { name = word_bytes text name; scope = record { 0 = owner }; domain = domain_of domain }) (filter_map (variable_of text) (owned_from n owner is)) in
    let w = domain_wide domain in
    omega (arith, r, e, w)
widths_from text (AggregateItem at name fold target ∷ is) total n owner h le = widths_from text is total n owner h le
widths_from text (ConstraintItem at name args ∷ is) total n owner h le = widths_from text is total n owner h le
