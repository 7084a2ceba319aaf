-- What is kept, as constraints are added in order.
use Rattle.std.proofs.Common.{◌≡◌, ℕ, zero, suc, ◌<◌, ◌≤◌, ◌+◌, Bool, true, false, ◌||◌, List, [], ◌∷◌, ◌++◌, length, replicate, refl, sym, ap, ◌∙◌, subst, arith, ◌⊎◌, inl, inr}
use Rattle.std.specs.Prelude.{slice_get, Some, pos, ◌+ℤ◌}
use Rattle.std.specs.List.{list_all}
use Rattle.std.proofs.Math.IntN.{+ℤ_idl, +ℤ_idr}
use Rattle.std.proofs.lemmas.List.{length-append, length-replicate}
use Rattle.std.proofs.lemmas.List.Folds.{list_all-append}
use Rattle.std.proofs.lemmas.Option.{same_Some, slice_get_within}
use Rattle.std.proofs.lemmas.Bool.{and_from}
use Rattle.qc_model.specs.Content.{Rule, Game}
use Rattle.qc_model.specs.Valid.{is_number, is_constraint}
use Rattle.check_assignment.specs.declared.standing.Standing.{Standing}
use Rattle.check_assignment.specs.Balance.{test_of, slope_of}
use Rattle.check_assignment.specs.Keeping.{Stands, Keeps}
use Rattle.check_assignment.specs.Terms.{Terms, terms_at, is_term, factor_sum, names, rule_terms, mentions}
use Rattle.check_assignment.proofs.RuleTerms.{rule_sum, rule_other, rule_names, rule_each}
use Rattle.check_assignment.proofs.TermSums.{factor_sum_join, names_join}

-- terms of the first n constraints
pub record Termed (g : Game) (n : ℕ) (ts : Terms) : Type 0 where
  pub count : length ts ≡ length g.variables
  pub each : (x : ℕ) → list_all (is_term (length g.constraints)) (terms_at ts x) ≡ true
  pub sums : (x k : ℕ) (c : Rule) → k < n → slice_get g.constraints k ≡ Some c → factor_sum k (terms_at ts x) ≡ slope_of (test_of c) x c
  pub all : (x k : ℕ) (c : Rule) → k < n → slice_get g.constraints k ≡ Some c → mentions c x ≡ true → names k (terms_at ts x) ≡ true
  pub fresh : (x k : ℕ) → n ≤ k → factor_sum k (terms_at ts x) ≡ pos 0

-- what is known of them where each variable is 0
pub record Stood (g : Game) (n : ℕ) (ss : List Standing) : Type 0 where
  pub count : length ss ≡ n
  pub each : (k : ℕ) (c : Rule) (s : Standing) → slice_get g.constraints k ≡ Some c → slice_get ss k ≡ Some s → Stands (replicate (length g.variables) (pos 0)) c s

-- none yet
pub termed_none : (g : Game) (ts : Terms) → length ts ≡ length g.variables → ((x : ℕ) → terms_at ts x ≡ []) → Termed g 0 ts
termed_none g ts l e = record {
  count = l;
  each = λ x. ap (list_all (is_term (length g.constraints))) (e x);
  sums = λ x k c h s. absurd (omega arith);
  all = λ x k c h s m. absurd (omega arith);
  fresh = λ x k h. ap (factor_sum k) (e x);
}

pub stood_none : (g : Game) → Stood g 0 []
stood_none g = record {
  count = refl;
  each = λ k c s e h. cc;
}

lower : (k n : ℕ) → k < n + 1 → (k < n) ⊎ (k ≡ n)
lower zero zero h = inr refl
lower zero (suc n) h = inl (omega arith)
lower (suc k) zero h = absurd (omega arith)
lower (suc k) (suc n) h = elim (lower k n (omega arith)) [ inl m ↦ inl (omega arith) | inr m ↦ inr (ap suc m) ]

or_true : (b : Bool) → (b || true) ≡ true
or_true true = refl
or_true false = refl

-- one constraint more
module _ (g : Game) (n : ℕ) (c : Rule) (ts us : Terms) (t : Termed g n ts) (h : is_constraint g.variables c ≡ true) (s : slice_get g.constraints n ≡ Some c)
    (e : (y : ℕ) → terms_at us y ≡ terms_at ts y ++ rule_terms n c y) where
  here : (P : ℕ → Rule → Type 0) → P n c → (k : ℕ) (r : Rule) → k ≡ n → slice_get g.constraints k ≡ Some r → P k r
  here P p k r j q = subst (λ z. P k z) (same_Some c r (sym s ∙ (ap (slice_get g.constraints) (sym j) ∙ q))) (subst (λ i. P i c) (sym j) p)

  sum_split : (x k : ℕ) → factor_sum k (terms_at us x) ≡ factor_sum k (terms_at ts x) +ℤ factor_sum k (rule_terms n c x)
  sum_split x k = ap (factor_sum k) (e x) ∙ factor_sum_join k (terms_at ts x) (rule_terms n c x)

  sum_before : (x k : ℕ) → (k ≡ n → ⊥) → factor_sum k (terms_at us x) ≡ factor_sum k (terms_at ts x)
  sum_before x k m = sum_split x k ∙ ap (λ z. factor_sum k (terms_at ts x) +ℤ z) (rule_other n k x c m) ∙ +ℤ_idr (factor_sum k (terms_at ts x))

  sum_here : (x : ℕ) → factor_sum n (terms_at us x) ≡ slope_of (test_of c) x c
  sum_here x =
      sum_split x n
      ∙ ap (λ z. z +ℤ factor_sum n (rule_terms n c x)) (t.fresh x n (omega arith))
      ∙ +ℤ_idl (factor_sum n (rule_terms n c x))
      ∙ rule_sum n x c

  names_split : (x k : ℕ) → names k (terms_at us x) ≡ (names k (terms_at ts x) || names k (rule_terms n c x))
  names_split x k = ap (names k) (e x) ∙ names_join k (terms_at ts x) (rule_terms n c x)

  named_here : (x : ℕ) → mentions c x ≡ true → names n (terms_at us x) ≡ true
  named_here x v = names_split x n ∙ ap (λ b. names n (terms_at ts x) || b) (rule_names g.variables c n x h ∙ v) ∙ or_true (names n (terms_at ts x))

  pub termed_more : length us ≡ length ts → Termed g (n + 1) us
  termed_more l = record {
    count = l ∙ t.count;
    each = λ x.
        ap (list_all (is_term (length g.constraints))) (e x)
        ∙ list_all-append (is_term (length g.constraints)) (terms_at ts x) (rule_terms n c x)
        ∙ and_from (list_all (is_term (length g.constraints)) (terms_at ts x)) (list_all (is_term (length g.constraints)) (rule_terms n c x))
        (t.each x)
        (rule_each g.variables c (length g.constraints) n x h (slice_get_within g.constraints n c s));
    sums = λ x k r m q.
        elim (lower k n m) [
          | inl j ↦ sum_before x k (λ z. omega arith) ∙ t.sums x k r j q
          | inr j ↦ here (λ i z. factor_sum i (terms_at us x) ≡ slope_of (test_of z) x z) (sum_here x) k r j q
        ];
    all = λ x k r m q w.
        elim (lower k n m) [
          | inl j ↦ names_split x k ∙ ap (λ b. b || names k (rule_terms n c x)) (t.all x k r j q w)
          | inr j ↦ here (λ i z. mentions z x ≡ true → names i (terms_at us x) ≡ true) (named_here x) k r j q w
        ];
    fresh = λ x k m. sum_before x k (λ z. omega arith) ∙ t.fresh x k (omega arith);
  }

last : (ss : List Standing) (s t : Standing) (k : ℕ) → slice_get (ss ++ s ∷ []) k ≡ Some t → (slice_get ss k ≡ Some t) ⊎ ((k ≡ length ss) × (s ≡ t))
last [] s t zero q = inr (refl, same_Some s t q)
last [] s t (suc k) q = cc
last (u ∷ ss) s t zero q = inl q
last (u ∷ ss) s t (suc k) q = elim (last ss s t k q) [ inl m ↦ inl m | inr m ↦ inr (ap suc m.0, m.1) ]

pub stood_more : (g : Game) (n : ℕ) (c : Rule) (ss : List Standing) (s : Standing) → Stood g n ss → slice_get g.constraints n ≡ Some c → Stands (replicate (length g.variables) (pos 0)) c s → Stood g (n + 1) (ss ++ s ∷ [])
stood_more g n c ss s t e w = record {
  count = length-append ss (s ∷ []) ∙ ap (λ k. k + 1) t.count;
  each = λ k r u q p.
      elim (last ss s u k p) [
        | inl m ↦ t.each k r u q m
        | inr m ↦
            subst (λ z. Stands (replicate (length g.variables) (pos 0)) r z) m.1
            (subst (λ z. Stands (replicate (length g.variables) (pos 0)) z s) (same_Some c r (sym e ∙ (ap (slice_get g.constraints) (sym (m.0 ∙ t.count)) ∙ q))) w)
      ];
}

zero_numbers : (n : ℕ) → list_all is_number (replicate n (pos 0)) ≡ true
zero_numbers zero = refl
zero_numbers (suc n) = zero_numbers n

-- all of them
pub keeps : (g : Game) (ts : Terms) (ss : List Standing) → Termed g (length g.constraints) ts → Stood g (length g.constraints) ss → Keeps g (replicate (length g.variables) (pos 0)) ts ss
keeps g ts ss t s = record {
  value_each = length-replicate (length g.variables) (pos 0);
  numbers = zero_numbers (length g.variables);
  term_each = t.count;
  standing_each = s.count;
  terms = λ x. record {
    each = t.each x;
    sums = λ k c q. t.sums x k c (slice_get_within g.constraints k c q) q;
    all = λ k c q w. t.all x k c (slice_get_within g.constraints k c q) q w;
  };
  standings = s.each;
}
