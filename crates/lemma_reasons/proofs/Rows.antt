-- Constraints in a row.
use Rattle.std.proofs.Common.{◌≡◌, ◌∙◌, ◌≤◌, ◌<◌, ◌+◌, ℕ, zero, suc, Bool, true, false, not, ◌&&◌, ◌||◌, List, [], ◌∷◌, length, refl, sym, ap, subst, arith, Some, slice_get, inl, inr}
use Rattle.std.proofs.Math.Path.{fun_ext}
use Rattle.std.specs.Prelude.{nat_le, nat_lt, ◌==◌}
use Rattle.std.proofs.lemmas.Bool.Decides.{nat_tests}
use Rattle.std.proofs.lemmas.Bool.{and_from, and_left, and_right, cases_lt, and_parts}
use Rattle.qc_model.specs.Content.{Game, Rule}
use Rattle.qc_model.specs.Domains.{Box}
use Rattle.qc_model.specs.Block.{is_owned_within}
use Rattle.model_levels.specs.Spans.{IsSpanOf, is_rule_within}
use Rattle.qc_model.specs.Counter.{opposite}
use Rattle.lemma_list.specs.Lemmas.{Lemma}
use Rattle.lemma_list.specs.Places.{is_kind, side_at}
use Rattle.lemma_list.specs.Sums.{is_kept}
use Rattle.lemma_list.specs.Reasons.{all_rules, goes_on}
use Rattle.lemma_reasons.specs.Within.{kept_within, is_passed}

no_more : (j : ℕ) → j + 0 ≡ j
no_more j = omega arith

one_more : (j k : ℕ) → j + suc k ≡ suc j + k
one_more j k = omega arith

-- what holds of each constraint at its number
pub all_hold : (p : ℕ → Rule → Bool) (j : ℕ) (cs : List Rule) → ((k : ℕ) (c : Rule) → slice_get cs k ≡ Some c → p (j + k) c ≡ true) → all_rules p j cs ≡ true
all_hold p j [] f = refl
all_hold p j (c ∷ cs) f =
    and_from (p j c) (all_rules p (suc j) cs) (subst (λ n. p n c ≡ true) (no_more j) (f zero c refl))
    (all_hold p (suc j) cs (λ k d e. subst (λ n. p n d ≡ true) (one_more j k) (f (suc k) d e)))

pub one_fails : (p : ℕ → Rule → Bool) (j : ℕ) (cs : List Rule) (k : ℕ) (c : Rule) → slice_get cs k ≡ Some c → p (j + k) c ≡ false → all_rules p j cs ≡ false
one_fails p j [] k c e f = cc
one_fails p j (d ∷ cs) zero c e f =
    let same : c ≡ d = cc in
    and_left (p j d) (all_rules p (suc j) cs) (subst (λ (x : Rule). p j x ≡ false) same (subst (λ n. p n c ≡ false) (no_more j) f))
one_fails p j (d ∷ cs) (suc k) c e f =
    and_right (p j d) (all_rules p (suc j) cs) (one_fails p (suc j) cs k c e (subst (λ n. p n c ≡ false) (one_more j k) f))

pub each_holds : (p : ℕ → Rule → Bool) (j : ℕ) (cs : List Rule) (k : ℕ) (c : Rule) → all_rules p j cs ≡ true → slice_get cs k ≡ Some c → p (j + k) c ≡ true
each_holds p j [] k c h e = cc
each_holds p j (d ∷ cs) zero c h e =
    let same : d ≡ c = cc in
    subst (λ n. p n c ≡ true) (sym (no_more j)) (subst (λ (x : Rule). p j x ≡ true) same (and_parts (p j d) (all_rules p (suc j) cs) h).0)
each_holds p j (d ∷ cs) (suc k) c h e =
    subst (λ n. p n c ≡ true) (sym (one_more j k)) (each_holds p (suc j) cs k c (and_parts (p j d) (all_rules p (suc j) cs) h).1 e)

-- where less is asked of each, and that fails, so does what asks for more
pub more_fails : (p q : ℕ → Rule → Bool) (j : ℕ) (cs : List Rule) → ((k : ℕ) (c : Rule) → p k c ≡ true → q k c ≡ true) → all_rules q j cs ≡ false → all_rules p j cs ≡ false
more_fails p q j cs f h = never (all_rules p j cs) (λ e. clash (sym (weaker j cs e) ∙ h))
  where
    never : (b : Bool) → (b ≡ true → ⊥) → b ≡ false
    never true f = absurd (f refl)
    never false f = refl

    clash : true ≡ false → ⊥
    clash e = cc

    weaker : (j : ℕ) (cs : List Rule) → all_rules p j cs ≡ true → all_rules q j cs ≡ true
    weaker j [] e = refl
    weaker j (c ∷ cs) e =
        let r = and_parts (p j c) (all_rules p (suc j) cs) e in
        and_from (q j c) (all_rules q (suc j) cs) (f j c r.0) (weaker (suc j) cs r.1)

le_of : (x y : ℕ) → nat_le x y ≡ true → x ≤ y
le_of x y e = grind (arith, nat_tests)

lt_of : (x y : ℕ) → nat_lt x y ≡ true → x < y
lt_of x y e = grind (arith, nat_tests)

le_is : (x y : ℕ) → x ≤ y → nat_le x y ≡ true
le_is x y l = grind (arith, nat_tests)

lt_is : (x y : ℕ) → x < y → nat_lt x y ≡ true
lt_is x y l = grind (arith, nat_tests)

-- a constraint of the scopes has a number in their span, and the other way round
pub in_span : (g : Game) (i stop first end : ℕ) → IsSpanOf g i stop first end → (k : ℕ) (c : Rule) → slice_get g.constraints k ≡ Some c → is_owned_within i stop c ≡ true → (first ≤ k) × (k < end)
in_span g i stop first end s k c e o =
    let b = s.numbers k ∙ (ap (is_rule_within i stop) e ∙ o) in
    let r = and_parts (nat_le first k) (nat_lt k end) b in
    (le_of first k r.0, lt_of k end r.1)

pub of_span : (g : Game) (i stop first end : ℕ) → IsSpanOf g i stop first end → (k : ℕ) (c : Rule) → slice_get g.constraints k ≡ Some c → first ≤ k → k < end → is_owned_within i stop c ≡ true
of_span g i stop first end s k c e l h =
    sym (ap (is_rule_within i stop) e) ∙ (sym (s.numbers k) ∙ and_from (nat_le first k) (nat_lt k end) (le_is first k l) (lt_is k end h))

-- what is asked of those that are of some scopes
pub if_asked : (a b : Bool) → (a ≡ true → b ≡ true) → (not a || b) ≡ true
if_asked true b f = f refl
if_asked false b f = refl

pub asked_fails : (a b : Bool) → a ≡ true → b ≡ false → (not a || b) ≡ false
asked_fails true b e f = f
asked_fails false b e f = cc

-- the first holds
pub both_true : (a b : Bool) → a ≡ true → b ≡ (a && b)
both_true true b e = refl
both_true false b e = cc

pub asked_was : (a b : Bool) → (not a || b) ≡ false → (a ≡ true) × (b ≡ false)
asked_was true b e = (refl, e)
asked_was false b e = cc

pub told : (a b : Bool) → (not a || b) ≡ true → a ≡ true → b ≡ true
told true b h e = h
told false b h e = cc

pub owned : (i stop j : ℕ) → (nat_le i j && nat_lt j stop) ≡ true → (i ≤ j) × (j < stop)
owned i stop j e = let r = and_parts (nat_le i j) (nat_lt j stop) e in (le_of i j r.0, lt_of j stop r.1)

pub owns : (i stop j : ℕ) → i ≤ j → j < stop → (nat_le i j && nat_lt j stop) ≡ true
owns i stop j l h = and_from (nat_le i j) (nat_lt j stop) (le_is i j l) (lt_is j stop h)

pub own_scope : (j k : ℕ) → (nat_le j k && nat_lt k (suc j)) ≡ (k == j)
own_scope j k = grind (arith, nat_tests)

-- numbers from 0 on
from_zero : (k : ℕ) → k ≡ 0 + k
from_zero k = omega arith

pub rule_there : (cs : List Rule) (k : ℕ) → k < length cs → (c : Rule) × (slice_get cs k ≡ Some c)
rule_there [] k h = absurd (omega arith)
rule_there (c ∷ cs) zero h = (c, refl)
rule_there (c ∷ cs) (suc k) h = rule_there cs k (omega arith)

module _ (g : Game) (m : Lemma) (box : Box) where
  abbrev kept_at : ℕ → Rule → Bool
  kept_at k c = is_kept g m k c box

  abbrev winners : ℕ → Bool
  winners j = is_kind (opposite m.loser) (side_at g j)

  abbrev pub AllKept : ℕ → ℕ → Type 0
  AllKept first end = (k : ℕ) (c : Rule) → first ≤ k → k < end → slice_get g.constraints k ≡ Some c → is_kept g m k c box ≡ true

  pub one_more_kept : (first k : ℕ) (r : Bool) → AllKept first k → ((c : Rule) → slice_get g.constraints k ≡ Some c → r ≡ is_kept g m k c box) → r ≡ true → AllKept first (k + 1)
  one_more_kept first k r f here e n c l h q =
      elim (cases_lt n k) [
        | inl b ↦ f n c l b q
        | inr t ↦ (let same : k ≡ n = omega arith in
            subst (λ i. kept_at i c ≡ true) same (sym (here c (subst (λ i. slice_get g.constraints i ≡ Some c) (sym same) q)) ∙ e))
      ]

  -- a span with a constraint that isn't kept, and one without
  pub span_fails : (first end k : ℕ) (r : Bool) → first ≤ k → k < end → end ≤ length g.constraints → ((c : Rule) → slice_get g.constraints k ≡ Some c → r ≡ is_kept g m k c box) → r ≡ false →
      (i stop : ℕ) → IsSpanOf g i stop first end → false ≡ kept_within g m i stop box
  span_fails first end k r l h w here e i stop s =
      let t = rule_there g.constraints k (omega arith) in
      let c = t.0 in
      sym (one_fails (λ n d. not (is_owned_within i stop d) || kept_at n d) 0 g.constraints k c t.1
      (subst (λ n. (not (is_owned_within i stop c) || kept_at n c) ≡ false) (from_zero k)
      (asked_fails (is_owned_within i stop c) (kept_at k c) (of_span g i stop first end s k c t.1 l h) (sym (here c t.1) ∙ e))))

  pub span_holds : (first end k : ℕ) → end ≤ k → AllKept first k → (i stop : ℕ) → IsSpanOf g i stop first end → true ≡ kept_within g m i stop box
  span_holds first end k b f i stop s =
      sym (all_hold (λ n d. not (is_owned_within i stop d) || kept_at n d) 0 g.constraints
      (λ n c q. subst (λ x. (not (is_owned_within i stop c) || kept_at x c) ≡ true) (from_zero n)
      (if_asked (is_owned_within i stop c) (kept_at n c)
      (λ o. let p = in_span g i stop first end s n c q o in f n c p.0 (omega (arith, p.1)) q))))

  -- the winner's constraints of the scopes from one to the one before another
  abbrev pub WinnersKept : ℕ → ℕ → Type 0
  WinnersKept from stop = (k : ℕ) (c : Rule) → from ≤ c.owner.0 → c.owner.0 < stop → is_kind (opposite m.loser) (side_at g c.owner.0) ≡ true → slice_get g.constraints k ≡ Some c → is_kept g m k c box ≡ true

  own : (j : ℕ) (c : Rule) → c.owner.0 ≡ j → is_owned_within j (suc j) c ≡ true
  own j c e = owns j (suc j) c.owner.0 (omega (arith, e)) (omega (arith, e))

  passed_kept : (j : ℕ) → is_passed g m j box ≡ true → (k : ℕ) (c : Rule) → c.owner.0 ≡ j → winners c.owner.0 ≡ true → slice_get g.constraints k ≡ Some c → kept_at k c ≡ true
  passed_kept j p k c e w q =
      let all = told (winners j) (kept_within g m j (suc j) box) p (subst (λ i. winners i ≡ true) e w) in
      let here = each_holds (λ n d. not (is_owned_within j (suc j) d) || kept_at n d) 0 g.constraints k c all q in
      told (is_owned_within j (suc j) c) (kept_at k c) (subst (λ n. (not (is_owned_within j (suc j) c) || kept_at n c) ≡ true) (sym (from_zero k)) here) (own j c e)

  pub one_more_scope : (from j : ℕ) → WinnersKept from j → is_passed g m j box ≡ true → WinnersKept from (j + 1)
  one_more_scope from j f p k c l h w q =
      elim (cases_lt c.owner.0 j) [
        | inl b ↦ f k c l b w q
        | inr t ↦ passed_kept j p k c (omega arith) w q
      ]

  pub scopes_hold : (from stop j : ℕ) → stop ≤ j → WinnersKept from j → true ≡ goes_on g m from stop box
  scopes_hold from stop j b f =
      sym (all_hold (λ n d. not (is_owned_within from stop d && winners d.owner.0) || kept_at n d) 0 g.constraints
      (λ n c q. subst (λ x. (not (is_owned_within from stop c && winners c.owner.0) || kept_at x c) ≡ true) (from_zero n)
      (if_asked (is_owned_within from stop c && winners c.owner.0) (kept_at n c)
      (λ o. let r = and_parts (is_owned_within from stop c) (winners c.owner.0) o in
      let p = owned from stop c.owner.0 r.0 in
      f n c p.0 (omega (arith, p.1)) r.1 q))))

  pub scopes_fail : (from stop j : ℕ) → from ≤ j → j < stop → is_passed g m j box ≡ false → false ≡ goes_on g m from stop box
  scopes_fail from stop j l h e =
      let w = asked_was (winners j) (kept_within g m j (suc j) box) e in
      sym (more_fails
      (λ n d. not (is_owned_within from stop d && winners d.owner.0) || kept_at n d)
      (λ n d. not (is_owned_within j (suc j) d) || kept_at n d) 0 g.constraints
      (λ n c p. if_asked (is_owned_within j (suc j) c) (kept_at n c)
      (λ o. let b = owned j (suc j) c.owner.0 o in
      let same : j ≡ c.owner.0 = omega (arith, b.0, b.1) in
      told (is_owned_within from stop c && winners c.owner.0) (kept_at n c) p
      (and_from (is_owned_within from stop c) (winners c.owner.0) (owns from stop c.owner.0 (omega arith) (omega arith))
      (subst (λ i. winners i ≡ true) same w.0))))
      w.1)

  -- the goal's constraints are those of the number after the last scope
  pub goal_rules : (n : ℕ) → kept_within g m n (suc n) box ≡ all_rules (λ k c. not (c.owner.0 == n) || is_kept g m k c box) 0 g.constraints
  goal_rules n = ap (λ (p : ℕ → Rule → Bool). all_rules p 0 g.constraints) (fun_ext (λ k. fun_ext (λ c. ap (λ b. not b || kept_at k c) (own_scope n c.owner.0))))
