-- What a valid game has that the laws of its scopes ask for.
use Rattle.std.proofs.Common.{◌≡◌, inl, inr, ℕ, zero, suc, ◌≤◌, length, true, not, ◌&&◌, List, [], ◌∷◌, drop, refl, sym, subst, ℤ, ◌<ℤ◌, Option, arith}
use Rattle.std.specs.Prelude.{nat_le, int_lt}
use Rattle.std.specs.List.{list_all}
use Rattle.std.proofs.lemmas.Int.{ints}
use Rattle.qc_model.specs.declared.problem.Kind.TheVariants.{Forall}
use Rattle.qc_model.specs.declared.problem.Domain.{Domain}
use Rattle.qc_model.specs.declared.problem.Domain.TheVariants.{Bits, Range, Listed}
use Rattle.qc_model.specs.declared.problem.Scope.{Scope}
use Rattle.qc_model.specs.declared.problem.Variable.{Variable}
use Rattle.qc_model.specs.declared.problem.Condition.{Condition}
use Rattle.qc_model.specs.Content.{Game}
use Rattle.qc_model.specs.Lists.{Among}
use Rattle.qc_model.specs.Domains.{is_none_left, is_ascending}
use Rattle.qc_model.specs.Game.{moves}
use Rattle.qc_model.specs.Demands.{demands}
use Rattle.qc_model.specs.Bottlenecks.{bottleneck_last}
use Rattle.qc_model.specs.Sees.{AllVisible}
use Rattle.qc_model.specs.Valid.{is_listed, has_gap, width_of, is_number, is_domain, IsValid}
use Rattle.model_laws.specs.Branches.{AllOwn}
use Rattle.model_laws.specs.Distinct.{Distinct}
use Rattle.model_laws.proofs.Better.{and_first, and_second}
use Rattle.model_laws.proofs.Domains.{ListedDiffer, EachListedDiffers, domains_differ}
use Rattle.model_laws.proofs.Order.{moves_distinct}
use Rattle.model_laws.proofs.Seen.{demands_visible, visible_own, bottlenecks_reached}

below_is : (v w : ℤ) → int_lt v w ≡ true → v <ℤ w
below_is v w e = grind (arith, ints, e)

-- in ascending order each later value is above the first
above_first : (v : ℤ) (vs : List ℤ) → is_ascending (v ∷ vs) ≡ true → (x : ℤ) → Among x vs → v <ℤ x
above_first v [] e x m = absurd m
above_first v (w ∷ vs) e x m =
    let low = below_is v w (and_first (int_lt v w) (is_ascending (w ∷ vs)) e) in
    elim m [
      | inl q ↦ subst (λ z. v <ℤ z) (sym q) low
      | inr n ↦ chain v w x low (above_first w vs (and_second (int_lt v w) (is_ascending (w ∷ vs)) e) x n)
    ]
  where
    chain : (x y z : ℤ) → x <ℤ y → y <ℤ z → x <ℤ z
    chain x y z h k = grind (arith, ints)

ascending_rest : (v : ℤ) (vs : List ℤ) → is_ascending (v ∷ vs) ≡ true → is_ascending vs ≡ true
ascending_rest v [] e = refl
ascending_rest v (w ∷ vs) e = and_second (int_lt v w) (is_ascending (w ∷ vs)) e

ascending_distinct : (vs : List ℤ) → is_ascending vs ≡ true → Distinct vs
ascending_distinct [] e = tt
ascending_distinct (v ∷ vs) e = (λ m. not_itself v (above_first v vs e v m), ascending_distinct vs (ascending_rest v vs e))
  where
    not_itself : (v : ℤ) → ¬ (v <ℤ v)
    not_itself v h = grind (arith, ints)

listed_ascending : (ns : List ℤ) → is_domain (Listed ns) ≡ true → is_ascending ns ≡ true
listed_ascending ns e =
    let first = and_first (not (is_none_left ns) && is_listed ns && has_gap ns) (nat_le (width_of ns) 1048576) e in
    let second = and_first (not (is_none_left ns) && is_listed ns) (has_gap ns) first in
    and_second (nat_le (length ns) 100000 && list_all is_number ns) (is_ascending ns) (and_second (not (is_none_left ns)) (is_listed ns) second)

domain_listed : (d : Domain) → is_domain d ≡ true → ListedDiffer d
domain_listed Bits e = tt
domain_listed (Range lo hi) e = tt
domain_listed (Listed ns) e = ascending_distinct ns (listed_ascending ns e)

each_listed : (xs : List Variable) → list_all (λ x. is_domain x.domain) xs ≡ true → EachListedDiffers xs
each_listed [] e = tt
each_listed (x ∷ xs) e =
    let rest = list_all (λ x. is_domain x.domain) xs in
    (domain_listed x.domain (and_first (is_domain x.domain) rest e), each_listed xs (and_second (is_domain x.domain) rest e))

pub valid_differs : (g : Game) → IsValid g → EachListedDiffers g.variables
valid_differs g v = each_listed g.variables v.domains

-- the allowed tuples are all different
pub valid_moves : (g : Game) (i : ℕ) (a : List ℤ) → IsValid g → Distinct (moves g i a)
valid_moves g i a v = moves_distinct g i a (domains_differ g (valid_differs g v))

-- the lists name what is visible
pub valid_lists : (g : Game) (i : ℕ) → IsValid g → i ≤ length g.scopes → AllVisible g (drop i g.scopes) i (demands g i)
valid_lists g i v le = demands_visible g i le v.sees

stands_within : (xs : List Scope) (i : ℕ) (s : Scope) (later : List Scope) → drop i xs ≡ s ∷ later → i ≤ length xs
stands_within xs zero s later e = omega arith
stands_within [] (suc i) s later e = let q : [] ≡ s ∷ later = e in cc
stands_within (x ∷ xs) (suc i) s later e = let h = stands_within xs i s later e in omega (arith, h)

-- and at a universal scope nothing but variables of earlier scopes and its own aggregates
pub valid_own : (g : Game) (i : ℕ) (x : Option Condition) (later : List Scope) → IsValid g → drop i g.scopes ≡ record { kind = Forall; condition = x } ∷ later → AllOwn g i (demands g i)
valid_own g i x later v e =
    let le = stands_within g.scopes i (record { kind = Forall; condition = x }) later e in
    visible_own g later x i (demands g i) (subst (λ scopes. AllVisible g scopes i (demands g i)) e (valid_lists g i v le))

-- and nothing after an aggregate by least or greatest
pub valid_bottlenecks : (g : Game) (i : ℕ) (x : Option Condition) (later : List Scope) → IsValid g → drop i g.scopes ≡ record { kind = Forall; condition = x } ∷ later → bottleneck_last g (demands g i) ≡ true
valid_bottlenecks g i x later v e = bottlenecks_reached g g.scopes i [] x later v.bottlenecks e
