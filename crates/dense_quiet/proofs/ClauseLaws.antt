-- A clause that refutes nothing that it may take.
use Rattle.std.proofs.Common.{◌≡◌, ◌⊎◌, inl, inr, ℕ, zero, suc, ◌<◌, Bool, true, false, List, [], ◌∷◌, map, refl, sym, ap, ◌∙◌, subst, arith, ℤ}
use Rattle.std.specs.Prelude.{pos, Some, slice_get}
use Rattle.std.specs.List.{list_all}
use Rattle.std.specs.Ordering.{int_eq}
use Rattle.std.proofs.lemmas.Int.{ints}
use Rattle.std.proofs.lemmas.Option.{same_Some}
use Rattle.std.proofs.lemmas.Bool.{and_left, and_right, false_from_ne_true}
use mir.Val.{of_z}
use mir.Syntax.{w64}
use Rattle.qc_model.specs.declared.problem.Arg.{Arg}
use Rattle.qc_model.specs.Arguments.{fill}
use Rattle.qc_model.specs.Content.{Rule}
use Rattle.qc_model.specs.Domains.{Values, Box, values_left, box_at, least_value, greatest_value, is_single}
use Rattle.qc_model.specs.Left.{Lefts, lefts_at, is_only}
use Rattle.qc_model.specs.Meaning.{meaning_of, clause}
use Rattle.qc_model.specs.Refuted.{left_to, refuted_as, refuted_by}
use Rattle.model_arguments.specs.Repeats.{is_variable, same_variable}
use Rattle.model_arguments.specs.Written.{args_at}
use Rattle.model_arguments.proofs.Written.{lefts_written}
use Rattle.dense_closing.specs.Takes.{Takes}
use Rattle.dense_quiet.specs.Clauses.{IsSpare}
use Rattle.dense_quiet.specs.Slack.{SparesTaken}
use Rattle.dense_quiet.proofs.OneEnd.{kept_left, left_cases, not_both, AtEnd}

-- one item that lacks it
one_lacks : (p : Values → Bool) (f : Arg → Values) (xs : List Arg) (k : ℕ) (a : Arg) → slice_get xs k ≡ Some a → p (f a) ≡ false → list_all p (map f xs) ≡ false
one_lacks p f [] zero a e h = cc
one_lacks p f [] (suc k) a e h = cc
one_lacks p f (x ∷ xs) zero a e h = and_left (p (f x)) (list_all p (map f xs)) (subst (λ z. p (f z) ≡ false) (sym (same_Some x a e)) h)
one_lacks p f (x ∷ xs) (suc k) a e h = and_right (p (f x)) (list_all p (map f xs)) (one_lacks p f xs k a e h)

-- numbers that aren't the same
equal : (p q : ℤ) → int_eq p q ≡ true → p ≡ q
equal p q h = grind (arith, ints)

pub apart_ends : (p q : ℤ) → (of_z w64 p ≡ of_z w64 q → ⊥) → int_eq p q ≡ false
apart_ends p q n = false_from_ne_true (int_eq p q) (λ h. n (ap (of_z w64) (equal p q h)))

pub not_wrong : (p : ℤ) (j : ℕ) → j < 2 → (of_z w64 p ≡ j → ⊥) → int_eq p (pos j) ≡ false
not_wrong p j two n = false_from_ne_true (int_eq p (pos j)) (λ h. n (ap (of_z w64) (equal p (pos j) h) ∙ as_word j two))
  where
    as_word : (j : ℕ) → j < 2 → of_z w64 (pos j) ≡ j
    as_word zero l = refl
    as_word (suc zero) l = refl
    as_word (suc (suc j)) l = absurd (omega arith)

-- values that aren't one value alone
least_other : (w : ℤ) (d : Values) → int_eq (least_value d) w ≡ false → is_only w d ≡ false
least_other w d h = and_right (is_single d) (int_eq (least_value d) w) h

pub not_only : (w : ℤ) (d : Values) → int_eq (least_value d) (greatest_value d) ≡ false → is_only w d ≡ false
not_only w [] h = refl
not_only w (v ∷ []) h = absurd (itself v h)
  where
    itself : (v : ℤ) → int_eq v v ≡ false → ⊥
    itself v e = grind (arith, ints)
not_only w (v ∷ u ∷ d) h = refl

module _ (r : Rule) (box : Box) (e : meaning_of r.pred ≡ clause) where
  -- a literal that doesn't fail
  stands : (at : Box) (j k : ℕ) (a : Arg) → j < 2 → slice_get (args_at r.args j) k ≡ Some a → is_only (pos j) (left_to at a) ≡ false → refuted_by r at ≡ false
  stands at j k a two i h = ap (λ m. refuted_as m ls) e ∙ by j two i h
    where
      ls : Lefts
      ls = map (fill (left_to at)) r.args

      lacks : (j : ℕ) → slice_get (args_at r.args j) k ≡ Some a → is_only (pos j) (left_to at a) ≡ false → list_all (is_only (pos j)) (lefts_at ls j) ≡ false
      lacks j i h = ap (list_all (is_only (pos j))) (lefts_written at r.args j) ∙ one_lacks (is_only (pos j)) (left_to at) (args_at r.args j) k a i h

      by : (j : ℕ) → j < 2 → slice_get (args_at r.args j) k ≡ Some a → is_only (pos j) (left_to at a) ≡ false → refuted_as clause ls ≡ false
      by zero l i h = and_left (list_all (is_only (pos 0)) (lefts_at ls 0)) (list_all (is_only (pos 1)) (lefts_at ls 1)) (lacks 0 i h)
      by (suc zero) l i h = and_right (list_all (is_only (pos 0)) (lefts_at ls 0)) (list_all (is_only (pos 1)) (lefts_at ls 1)) (lacks 1 i h)
      by (suc (suc j)) l i h = absurd (omega arith)

  -- at each end of each variable
  at_ends : (takes : Takes) → refuted_by r box ≡ false → ((x : ℕ) (taken : takes r x ≡ true) (v : ℤ) → (v ≡ least_value (values_left box x)) ⊎ (v ≡ greatest_value (values_left box x)) → refuted_by r (box_at box x v) ≡ false) → SparesTaken takes r box
  at_ends takes w f = record {
    whole = w;
    least = λ x own taken. f x taken (least_value (values_left box x)) (inl refl);
    greatest = λ x own taken. f x taken (greatest_value (values_left box x)) (inr refl);
  }

  -- one that fails at neither end
  pub firm_spares : (j k : ℕ) (a : Arg) → j < 2 → slice_get (args_at r.args j) k ≡ Some a → int_eq (least_value (left_to box a)) (pos j) ≡ false → int_eq (greatest_value (left_to box a)) (pos j) ≡ false → (takes : Takes) → SparesTaken takes r box
  firm_spares j k a two i low high takes = at_ends takes (stands box j k a two i (least_other (pos j) (left_to box a) low)) at
    where
      at : (x : ℕ) (taken : takes r x ≡ true) (v : ℤ) → (v ≡ least_value (values_left box x)) ⊎ (v ≡ greatest_value (values_left box x)) → refuted_by r (box_at box x v) ≡ false
      at x taken v w = stands (box_at box x v) j k a two i (by (left_cases (takes r) box x taken v w a))
        where
          by : ((is_variable a x ≡ true) × AtEnd (takes r) box a (left_to (box_at box x v) a)) ⊎ (left_to (box_at box x v) a ≡ left_to box a) → is_only (pos j) (left_to (box_at box x v) a) ≡ false
          by (inl (own, (t, inl q))) = ap (is_only (pos j)) q ∙ low
          by (inl (own, (t, inr q))) = ap (is_only (pos j)) q ∙ high
          by (inr q) = ap (is_only (pos j)) q ∙ least_other (pos j) (left_to box a) low

  -- two of different variables
  pub two_spare : (a b : Arg) → IsSpare r box a → IsSpare r box b → same_variable a b ≡ false → (takes : Takes) → SparesTaken takes r box
  two_spare a b s t apart takes = at_ends takes (stands box s.array s.place a s.two s.item s.spare) at
    where
      at : (x : ℕ) (taken : takes r x ≡ true) (v : ℤ) → (v ≡ least_value (values_left box x)) ⊎ (v ≡ greatest_value (values_left box x)) → refuted_by r (box_at box x v) ≡ false
      at x taken v w = by (left_cases (takes r) box x taken v w a)
        where
          by : ((is_variable a x ≡ true) × AtEnd (takes r) box a (left_to (box_at box x v) a)) ⊎ (left_to (box_at box x v) a ≡ left_to box a) → refuted_by r (box_at box x v) ≡ false
          by (inl h) = stands (box_at box x v) t.array t.place b t.two t.item (ap (is_only (pos t.array)) (kept_left (takes r) box x taken v w b (not_both a b x h.0 apart)) ∙ t.spare)
          by (inr q) = stands (box_at box x v) s.array s.place a s.two s.item (ap (is_only (pos s.array)) q ∙ s.spare)
