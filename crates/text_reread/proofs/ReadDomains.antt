-- Domains and sets of a valid problem: what a text that says them makes.
use Rattle.std.proofs.Common.{◌≡◌, ◌∙◌, sym, ap, refl, ◌+◌, ℕ, true, ◌&&◌, ◌||◌, not, cond, List, [], ◌∷◌, length, Some, None, ℤ}
use Rattle.std.specs.Prelude.{int_lt, int_le, nat_le, ◌-ℤ◌, nat_abs}
use Rattle.std.specs.List.{list_all}
use Rattle.std.proofs.lemmas.List.{length-map}
use Rattle.std.proofs.lemmas.Bool.{and_parts, cond-true}
use Rattle.qc_model.specs.declared.problem.Domain.{Domain}
use Rattle.qc_model.specs.declared.problem.Domain.TheVariants.{Bits, Range as RangeDomain, Listed as ListedDomain}
use Rattle.qc_model.specs.declared.problem.Set.{Set}
use Rattle.qc_model.specs.declared.problem.Set.TheVariants.{Range as RangeSet, Listed as ListedSet}
use Rattle.qc_model.specs.Domains.{is_none_left, is_ascending, least_value, greatest_value}
use Rattle.qc_model.specs.Valid.{is_number, width_of, domain_width, is_listed, has_gap, is_range, is_domain, is_set}
use Rattle.text_grammar.specs.declared.tree.Number.{Number as Figure}
use Rattle.text_grammar.specs.declared.tree.Members.{Members}
use Rattle.text_grammar.specs.declared.tree.Members.TheVariants.{Range, Braces}
use Rattle.text_grammar.specs.declared.tree.DomainText.{DomainText}
use Rattle.text_grammar.specs.declared.tree.DomainText.TheVariants.{Bits as BitsDomain, Members as MembersDomain}
use Rattle.text_resolve.specs.Names.{variable_named}
use Rattle.text_resolve.specs.Numbers.{number_values, has_domain_values, width_text}
use Rattle.text_resolve.specs.Excess.{long_braces, long_domain}
use Rattle.text_resolve.specs.Draft.{with_number, ascending, listed_domain, domain_of, listed_set, set_of}
use Rattle.text_reread.specs.Stands.{StandsSet, StandsDomain}
use Rattle.text_reread.proofs.Targets.{domain_named}

-- numbers that ascend stay as they are
ascending_same : (ns : List ℤ) → is_ascending ns ≡ true → ascending ns ≡ ns
ascending_same [] h = refl
ascending_same (n ∷ []) h = refl
ascending_same (n ∷ m ∷ ms) h =
    let t = and_parts (int_lt n m) (is_ascending (m ∷ ms)) h in
    ap (with_number n) (ascending_same (m ∷ ms) t.1) ∙ cond-true (int_lt n m) (n ∷ m ∷ ms) _ t.0

-- a valid list ascends, and isn't long
listed_ascends : (ns : List ℤ) → is_listed ns ≡ true → is_ascending ns ≡ true
listed_ascends ns h = (and_parts (nat_le (length ns) 100000 && list_all is_number ns) (is_ascending ns) h).1

listed_few : (ns : List ℤ) → is_listed ns ≡ true → nat_le (length ns) 100000 ≡ true
listed_few ns h = (and_parts (nat_le (length ns) 100000) (list_all is_number ns) (and_parts (nat_le (length ns) 100000 && list_all is_number ns) (is_ascending ns) h).0).0

range_ordered : (low high : ℤ) → is_range low high ≡ true → int_le low high ≡ true
range_ordered low high h = (and_parts (is_number low && is_number high) (int_le low high) h).1

short_braces : (ns : List Figure) (ms : List ℤ) (at : ℕ) → number_values ns ≡ ms → is_listed ms ≡ true → long_braces (Braces at ns) ≡ None
short_braces ns ms at e h =
    cond-true (nat_le (length ns) 100000) None (Some at)
    (ap (λ n. nat_le n 100000) (sym (length-map ns (λ (n : Figure). n.value)) ∙ ap length e) ∙ listed_few ms h)

-- the domain that a text says: its values, its width, and that it isn't refused
pub record DomainFacts (d : Domain) (t : DomainText) : Type 0 where
  pub value : domain_of t ≡ d
  pub named : (k : ℕ) → variable_named t k ≡ domain_named d k
  pub width : width_text t ≡ domain_width d
  pub full : has_domain_values t ≡ true
  pub short : long_domain t ≡ None
  pub narrow : nat_le (domain_width d) 1048576 ≡ true

range_facts : (low high a b : ℤ) (s t : ℕ) → a ≡ low → b ≡ high → is_domain (RangeDomain low high) ≡ true →
    DomainFacts (RangeDomain low high) (MembersDomain (Range (record { at = s; value = a }) (record { at = t; value = b })))
range_facts low high a b s t e f h =
    let u = and_parts (is_range low high) (nat_le (domain_width (RangeDomain low high)) 1048576) h in
    record {
      value = ap (λ z. RangeDomain z b) e ∙ ap (λ z. RangeDomain low z) f;
      named = λ k. refl;
      width = ap (λ z. nat_abs (b -ℤ z) + 1) e ∙ ap (λ z. nat_abs (z -ℤ low) + 1) f;
      full = ap (λ z. int_le z b) e ∙ ap (λ z. int_le low z) f ∙ range_ordered low high u.0;
      short = refl;
      narrow = u.1;
    }

listed_facts : (ms : List ℤ) (at : ℕ) (ns : List Figure) → number_values ns ≡ ms → is_domain (ListedDomain ms) ≡ true → DomainFacts (ListedDomain ms) (MembersDomain (Braces at ns))
listed_facts ms at ns e h =
    let u = and_parts (not (is_none_left ms) && is_listed ms && has_gap ms) (nat_le (width_of ms) 1048576) h in
    let v = and_parts (not (is_none_left ms) && is_listed ms) (has_gap ms) u.0 in
    let w = and_parts (not (is_none_left ms)) (is_listed ms) v.0 in
    record {
      value = ap (λ zs. listed_domain (ascending zs)) e ∙ ap listed_domain (ascending_same ms (listed_ascends ms w.1)) ∙ cond-true (has_gap ms) (ListedDomain ms) (RangeDomain (least_value ms) (greatest_value ms)) v.1;
      named = λ k. refl;
      width = ap width_of e;
      full = ap (λ zs. not (is_none_left zs)) e ∙ w.0;
      short = short_braces ns ms at e w.1;
      narrow = u.1;
    }

pub domain_facts : (d : Domain) (t : DomainText) → StandsDomain d t → is_domain d ≡ true → DomainFacts d t
domain_facts Bits (BitsDomain at) h v = record { value = refl; named = λ k. refl; width = refl; full = refl; short = refl; narrow = refl }
domain_facts (RangeDomain low high) (MembersDomain (Range a b)) h v = range_facts low high a.value b.value a.at b.at h.0 h.1 v
domain_facts (ListedDomain ms) (MembersDomain (Braces at ns)) h v = listed_facts ms at ns h v
domain_facts d t h v = absurd h

-- the set that a text says
pub record SetFacts (s : Set) (m : Members) : Type 0 where
  pub value : set_of m ≡ s
  pub short : long_braces m ≡ None

listed_same : (ms : List ℤ) → (is_none_left ms || has_gap ms) ≡ true → listed_set ms ≡ ListedSet ms
listed_same [] h = refl
listed_same (m ∷ ms) h = cond-true (has_gap (m ∷ ms)) (ListedSet (m ∷ ms)) (RangeSet (least_value (m ∷ ms)) (greatest_value (m ∷ ms))) h

pub set_facts : (s : Set) (m : Members) → StandsSet s m → is_set s ≡ true → SetFacts s m
set_facts (RangeSet low high) (Range a b) h v =
    record {
      value = ap (λ z. cond (int_le z b.value) (RangeSet z b.value) (ListedSet [])) h.0 ∙ ap (λ z. cond (int_le low z) (RangeSet low z) (ListedSet [])) h.1 ∙ cond-true (int_le low high) (RangeSet low high) (ListedSet []) (range_ordered low high v);
      short = refl;
    }
set_facts (ListedSet ms) (Braces at ns) h v =
    let t = and_parts (is_listed ms) (is_none_left ms || has_gap ms) v in
    record {
      value = ap (λ zs. listed_set (ascending zs)) h ∙ ap listed_set (ascending_same ms (listed_ascends ms t.0)) ∙ listed_same ms t.1;
      short = short_braces ns ms at h t.0;
    }
set_facts s m h v = absurd h
