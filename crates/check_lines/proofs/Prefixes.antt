-- A constraint of a valid game looks at no variable of a later scope: it holds on the first values where it holds on all.
use Rattle.std.proofs.Common.{◌≡◌, ℕ, zero, suc, ◌≤◌, ◌-◌, Bool, true, false, ◌&&◌, cond, List, [], ◌∷◌, ◌++◌, length, take, drop, refl, sym, ap, ◌∙◌, subst, arith, ℤ, Some}
use Rattle.std.specs.Prelude.{slice_get, filter, nat_le, nat_lt, ◌==◌}
use Rattle.std.specs.List.{list_all}
use Rattle.std.proofs.lemmas.Bool.Decides.{nat_tests}
use Rattle.std.proofs.lemmas.List.{length-map}
use Rattle.qc_model.specs.Content.{Game, Rule}
use Rattle.qc_model.specs.Block.{is_owned_within, constraints_within}
use Rattle.qc_model.specs.Domains.{domain_values}
use Rattle.qc_model.specs.Game.{before, restriction, allows}
use Rattle.qc_model.specs.Holds.{holds_on}
use Rattle.qc_model.specs.Valid.{IsValid}
use Rattle.qc_model.specs.Visible.{ArgumentsBelow}
use Rattle.qc_model.proofs.Before.{before-le}
use Rattle.qc_model.proofs.Visible.{holds_visible}
use Rattle.model_table.proofs.Ordered.{valid_ordered}
use Rattle.model_levels.specs.Spans.{IsSpanOf}

-- the values in front, and those after them
cut : (n : ℕ) (vs : List ℤ) → take n vs ++ drop n vs ≡ vs
cut zero vs = refl
cut (suc n) [] = refl
cut (suc n) (v ∷ vs) = ap (λ ws. v ∷ ws) (cut n vs)

in_front : (n : ℕ) (vs : List ℤ) → n ≤ length vs → length (take n vs) ≡ n
in_front zero vs h = refl
in_front (suc n) [] h = absurd (omega arith)
in_front (suc n) (v ∷ vs) h = ap suc (in_front n vs (omega arith))

pub holds_prefix : (vs : List ℤ) (n : ℕ) (c : Rule) → n ≤ length vs → ArgumentsBelow n c.args → holds_on c (take n vs) ≡ holds_on c vs
holds_prefix vs n c h b =
    sym (holds_visible c (take n vs) (drop n vs) (subst (λ k. ArgumentsBelow k c.args) (sym (in_front n vs h)) b)) ∙ ap (holds_on c) (cut n vs)

-- two tests that agree on the items that are kept
each_alike : {X : Type 0} (own p q : X → Bool) (xs : List X) → ((k : ℕ) (x : X) → slice_get xs k ≡ Some x → own x ≡ true → p x ≡ q x) → list_all p (filter own xs) ≡ list_all q (filter own xs)
each_alike own p q [] f = refl
each_alike own p q (x ∷ xs) f = by (own x) refl (each_alike own p q xs (λ k. f (suc k)))
  where
    by : (o : Bool) → own x ≡ o → list_all p (filter own xs) ≡ list_all q (filter own xs) → list_all p (cond o (x ∷ filter own xs) (filter own xs)) ≡ list_all q (cond o (x ∷ filter own xs) (filter own xs))
    by true e later = ap (λ b. b && list_all p (filter own xs)) (f 0 x refl e) ∙ ap (λ b. q x && b) later
    by false e later = later

same_filter : {X : Type 0} (p q : X → Bool) (xs : List X) → ((x : X) → p x ≡ q x) → filter p xs ≡ filter q xs
same_filter p q [] f = refl
same_filter p q (x ∷ xs) f = ap (λ b. cond b (x ∷ filter p xs) (filter p xs)) (f x) ∙ ap (λ ys. cond (q x) (x ∷ ys) ys) (same_filter p q xs f)

owner_is : (m n : ℕ) → (m == n) ≡ true → m ≡ n
owner_is m n e = grind (arith, nat_tests)

alone : (i o : ℕ) → (nat_le i o && nat_lt o (suc i)) ≡ (o == i)
alone i o = grind (arith, nat_tests)

own_rules : (g : Game) (i : ℕ) → constraints_within g i (suc i) ≡ restriction g i
own_rules g i = same_filter (is_owned_within i (suc i)) (λ c. c.owner.0 == i) g.constraints (λ c. alone i c.owner.0)

module _ (g : Game) (valid : IsValid g) (i : ℕ) (vs : List ℤ) (each : length vs ≡ length g.variables) where
  enough : before g (suc i) ≤ length vs
  enough = let h = before-le g (suc i) in omega (arith, h, each, length-map g.variables (λ x. domain_values x.domain))

  allows_prefix : allows g i (take (before g (suc i)) vs) ≡ allows g i vs
  allows_prefix =
      each_alike (λ c. c.owner.0 == i) (λ c. holds_on c (take (before g (suc i)) vs)) (λ c. holds_on c vs) g.constraints
      (λ k c at own. holds_prefix vs (before g (suc i)) c enough (subst (λ j. ArgumentsBelow (before g (suc j)) c.args) (owner_is c.owner.0 i own) ((valid_ordered g valid).visible k c at)))

  -- the constraints of the span are those of scope i, or of the goal
  pub span_allows : (first end : ℕ) → IsSpanOf g i (suc i) first end → list_all (λ c. holds_on c vs) (take (end - first) (drop first g.constraints)) ≡ allows g i vs
  span_allows first end s = ap (list_all (λ c. holds_on c vs)) (s.slice ∙ own_rules g i)

  pub span_allows_prefix : (first end : ℕ) → IsSpanOf g i (suc i) first end → list_all (λ c. holds_on c vs) (take (end - first) (drop first g.constraints)) ≡ allows g i (take (before g (suc i)) vs)
  span_allows_prefix first end s = span_allows first end s ∙ sym allows_prefix
