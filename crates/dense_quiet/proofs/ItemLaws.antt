-- An array of variables that refutes nothing that it may take.
use Rattle.std.proofs.Common.{◌≡◌, ◌⊎◌, inl, inr, ℕ, Bool, true, false, not, ◌&&◌, List, [], ◌∷◌, map, refl, sym, ap, ◌∙◌, subst, arith, ℤ}
use Rattle.std.specs.Prelude.{pos, Some}
use Rattle.std.proofs.lemmas.Bool.{not_from_true}
use Rattle.qc_model.specs.declared.problem.Arg.{Arg}
use Rattle.qc_model.specs.Arguments.{fill, variables_of}
use Rattle.qc_model.specs.Closed.{refutes_at}
use Rattle.qc_model.specs.Content.{Rule}
use Rattle.qc_model.specs.Domains.{Values, Box, values_left, box_at, least_value, greatest_value, has_value, misses}
use Rattle.qc_model.specs.Left.{left_at, lefts_at, some_item_meets}
use Rattle.qc_model.specs.Lists.{Distinct}
use Rattle.qc_model.specs.Meaning.{meaning_of, variable_element}
use Rattle.qc_model.specs.Refuted.{left_to, refuted_as, refuted_by}
use Rattle.model_arguments.specs.Repeats.{is_variable, same_variable}
use Rattle.model_arguments.specs.Written.{arg_at, args_at}
use Rattle.model_arguments.proofs.Items.{flipped}
use Rattle.model_arguments.proofs.Values.{has_first, has_least, has_greatest}
use Rattle.model_arguments.proofs.Written.{left_written, lefts_written}
use Rattle.qc_refuter.specs.Met.{is_open}
use Rattle.qc_refuter.proofs.Terms.{some_left}
use Rattle.dense_closing.specs.Takes.{Takes}
use Rattle.dense_quiet.specs.Quiet.{SparesTwo, SparesThree, item_at}
use Rattle.dense_quiet.specs.Slack.{SparesTaken}
use Rattle.dense_quiet.proofs.ItemPlaces.{none_later, none_earlier, none_item, meets_item, no_item}
use Rattle.dense_quiet.proofs.OneEnd.{args_apart, kept_left, kept_items, left_cases, not_both, AtEnd, spares_three}
use Rattle.dense_quiet.proofs.Shared.{equal_spares}

module _ (takes : Takes) (r : Rule) (box : Box) (e : meaning_of r.pred ≡ variable_element) (d : Distinct (variables_of r.args)) where
  -- what an item meets isn't refuted
  stands : (at : Box) → some_item_meets (pos 1) (left_to at (arg_at r.args 0)) (map (left_to at) (args_at r.args 1)) (left_to at (arg_at r.args 2)) ≡ true → refuted_by r at ≡ false
  stands at h =
      let ls = map (fill (left_to at)) r.args in
      ap (λ m. refuted_as m ls) e
      ∙ (ap (λ z. not (some_item_meets (pos 1) z (lefts_at ls 1) (left_at ls 2))) (left_written at r.args 0)
      ∙ (ap (λ z. not (some_item_meets (pos 1) (left_to at (arg_at r.args 0)) z (left_at ls 2))) (lefts_written at r.args 1)
      ∙ (ap (λ z. not (some_item_meets (pos 1) (left_to at (arg_at r.args 0)) (map (left_to at) (args_at r.args 1)) z)) (left_written at r.args 2)
      ∙ not_from_true (some_item_meets (pos 1) (left_to at (arg_at r.args 0)) (map (left_to at) (args_at r.args 1)) (left_to at (arg_at r.args 2))) h)))

  stands_at : (at : Box) (p : ℤ) (a : Arg) → item_at (args_at r.args 1) p ≡ Some a → has_value (left_to at (arg_at r.args 0)) p ≡ true → misses (left_to at a) (left_to at (arg_at r.args 2)) ≡ false → refuted_by r at ≡ false
  stands_at at p a i h m = stands at (meets_item (left_to at (arg_at r.args 0)) (left_to at (arg_at r.args 2)) (left_to at) (args_at r.args 1) p a i h m)

  -- the place and the item share no variable, nor the item and the number
  place_apart : (p : ℤ) (a : Arg) → item_at (args_at r.args 1) p ≡ Some a → same_variable (arg_at r.args 0) a ≡ false
  place_apart p a i = no_item (arg_at r.args 0) a (λ x h. none_item (λ z. is_variable z x) (args_at r.args 1) p a i (none_later r.args 0 1 x (omega arith) d h))

  value_apart : (p : ℤ) (a : Arg) → item_at (args_at r.args 1) p ≡ Some a → same_variable (arg_at r.args 2) a ≡ false
  value_apart p a i = no_item (arg_at r.args 2) a (λ x h. none_item (λ z. is_variable z x) (args_at r.args 1) p a i (none_earlier r.args 1 2 x (omega arith) d h))

  -- at one place the item is the number
  abbrev one_test : ℤ → Values → Values → Values → Bool
  one_test p u v w = not (has_value u p && not (misses v w))

  one_place : (p : ℤ) (a : Arg) → item_at (args_at r.args 1) p ≡ Some a → is_open box (arg_at r.args 0) ≡ true → is_open box a ≡ true → is_open box (arg_at r.args 2) ≡ true → p ≡ least_value (left_to box (arg_at r.args 0)) → p ≡ greatest_value (left_to box (arg_at r.args 0)) →
      least_value (left_to box a) ≡ least_value (left_to box (arg_at r.args 2)) → greatest_value (left_to box a) ≡ greatest_value (left_to box (arg_at r.args 2)) → SparesTaken takes r box
  one_place p a i ob oa oc low high least greatest =
      spares_three (one_test p) takes r box b a c (λ at h. stands_at at p a i (shown (has_value (left_to at b) p) (misses (left_to at a) (left_to at c)) h).0 (shown (has_value (left_to at b) p) (misses (left_to at a) (left_to at c)) h).1)
      (place_apart p a i) (args_apart r.args 0 2 (omega arith) d) (flipped c a (value_apart p a i)) spares
    where
      b : Arg
      b = arg_at r.args 0

      c : Arg
      c = arg_at r.args 2

      fails : (s t : Bool) → s ≡ true → t ≡ false → not (s && not t) ≡ false
      fails true false h k = refl
      fails true true h k = cc
      fails false t h k = cc

      shown : (s t : Bool) → not (s && not t) ≡ false → (s ≡ true) × (t ≡ false)
      shown true false h = (refl, refl)
      shown true true h = cc
      shown false t h = cc

      both : SparesTwo misses (takes r) a c box
      both = equal_spares (takes r) a c box oa oc least greatest

      here : has_value (left_to box (arg_at r.args 0)) p ≡ true
      here = subst (λ z. has_value (left_to box (arg_at r.args 0)) z ≡ true) (sym low) (has_least (left_to box (arg_at r.args 0)) (some_left (left_to box (arg_at r.args 0)) ob))

      spares : SparesThree (λ u v w. not (has_value u p && not (misses v w))) (takes r) (arg_at r.args 0) a (arg_at r.args 2) box
      spares = record {
        whole = fails (has_value (left_to box (arg_at r.args 0)) p) (misses (left_to box a) (left_to box (arg_at r.args 2))) here both.whole;
        first = λ t. record {
          least = fails (has_value (least_value (left_to box (arg_at r.args 0)) ∷ []) p) (misses (left_to box a) (left_to box (arg_at r.args 2))) (subst (λ z. has_value (z ∷ []) p ≡ true) low (has_first p [])) both.whole;
          greatest = fails (has_value (greatest_value (left_to box (arg_at r.args 0)) ∷ []) p) (misses (left_to box a) (left_to box (arg_at r.args 2))) (subst (λ z. has_value (z ∷ []) p ≡ true) high (has_first p [])) both.whole;
        };
        second = λ t. record {
          least = fails (has_value (left_to box (arg_at r.args 0)) p) (misses (least_value (left_to box a) ∷ []) (left_to box (arg_at r.args 2))) here (both.first t).least;
          greatest = fails (has_value (left_to box (arg_at r.args 0)) p) (misses (greatest_value (left_to box a) ∷ []) (left_to box (arg_at r.args 2))) here (both.first t).greatest;
        };
        third = λ t. record {
          least = fails (has_value (left_to box (arg_at r.args 0)) p) (misses (left_to box a) (least_value (left_to box (arg_at r.args 2)) ∷ [])) here (both.second t).least;
          greatest = fails (has_value (left_to box (arg_at r.args 0)) p) (misses (left_to box a) (greatest_value (left_to box (arg_at r.args 2)) ∷ [])) here (both.second t).greatest;
        };
      }

  -- between two places
  two_places : (p q : ℤ) (f l : Arg) → item_at (args_at r.args 1) p ≡ Some f → item_at (args_at r.args 1) q ≡ Some l → is_open box (arg_at r.args 0) ≡ true → p ≡ least_value (left_to box (arg_at r.args 0)) → q ≡ greatest_value (left_to box (arg_at r.args 0)) → same_variable f l ≡ false →
      misses (left_to box f) (left_to box (arg_at r.args 2)) ≡ false → misses (left_to box l) (left_to box (arg_at r.args 2)) ≡ false →
      some_item_meets (pos 1) (left_to box (arg_at r.args 0)) (map (left_to box) (args_at r.args 1)) (least_value (left_to box (arg_at r.args 2)) ∷ []) ≡ true →
      some_item_meets (pos 1) (left_to box (arg_at r.args 0)) (map (left_to box) (args_at r.args 1)) (greatest_value (left_to box (arg_at r.args 2)) ∷ []) ≡ true → SparesTaken takes r box
  two_places p q f l fi li ob low high apart fm lm least greatest = record {
    whole = stands_at box p f fi (here p low) fm;
    least = λ x own taken. at x taken (least_value (values_left box x)) (inl refl);
    greatest = λ x own taken. at x taken (greatest_value (values_left box x)) (inr refl);
  }
    where
      was : Arg → Values
      was a = left_to box a

      here : (z : ℤ) → z ≡ least_value (left_to box (arg_at r.args 0)) → has_value (left_to box (arg_at r.args 0)) z ≡ true
      here z w = subst (λ z. has_value (left_to box (arg_at r.args 0)) z ≡ true) (sym w) (has_least (left_to box (arg_at r.args 0)) (some_left (left_to box (arg_at r.args 0)) ob))

      there : (z : ℤ) → z ≡ greatest_value (left_to box (arg_at r.args 0)) → has_value (left_to box (arg_at r.args 0)) z ≡ true
      there z w = subst (λ z. has_value (left_to box (arg_at r.args 0)) z ≡ true) (sym w) (has_greatest (left_to box (arg_at r.args 0)) (some_left (left_to box (arg_at r.args 0)) ob))

      same : (u v s t : Values) → u ≡ s → v ≡ t → misses s t ≡ false → misses u v ≡ false
      same u v s t i j h = ap (λ z. misses z v) i ∙ (ap (λ z. misses s z) j ∙ h)

      alone : (u : Values) (y z : ℤ) → u ≡ y ∷ [] → z ≡ y → has_value u z ≡ true
      alone u y z i j = subst (λ w. has_value w z ≡ true) (sym i) (subst (λ w. has_value (w ∷ []) z ≡ true) j (has_first z []))

      at : (x : ℕ) → takes r x ≡ true → (v : ℤ) → (v ≡ least_value (values_left box x)) ⊎ (v ≡ greatest_value (values_left box x)) → refutes_at r box x v ≡ false
      at x taken v w = by_place (left_cases (takes r) box x taken v w (arg_at r.args 0))
        where
          now : Box
          now = box_at box x v

          kept : (a : Arg) → is_variable a x ≡ false → left_to (box_at box x v) a ≡ left_to box a
          kept a h = kept_left (takes r) box x taken v w a h

          by_first : left_to (box_at box x v) (arg_at r.args 0) ≡ left_to box (arg_at r.args 0) → left_to (box_at box x v) (arg_at r.args 2) ≡ left_to box (arg_at r.args 2) → ((is_variable f x ≡ true) × AtEnd (takes r) box f (left_to (box_at box x v) f)) ⊎ (left_to (box_at box x v) f ≡ left_to box f) → refuted_by r (box_at box x v) ≡ false
          by_first i j (inr k) = stands_at (box_at box x v) p f fi (subst (λ z. has_value z p ≡ true) (sym i) (here p low)) (same _ _ _ _ k j fm)
          by_first i j (inl h) = stands_at (box_at box x v) q l li (subst (λ z. has_value z q ≡ true) (sym i) (there q high)) (same _ _ _ _ (kept l (not_both f l x h.0 apart)) j lm)

          by_value : left_to (box_at box x v) (arg_at r.args 0) ≡ left_to box (arg_at r.args 0) → ((is_variable (arg_at r.args 2) x ≡ true) × AtEnd (takes r) box (arg_at r.args 2) (left_to (box_at box x v) (arg_at r.args 2))) ⊎ (left_to (box_at box x v) (arg_at r.args 2) ≡ left_to box (arg_at r.args 2)) → refuted_by r (box_at box x v) ≡ false
          by_value i (inr j) = by_first i j (left_cases (takes r) box x taken v w f)
          by_value i (inl h) =
              let items = kept_items (takes r) box x taken v w (args_at r.args 1) (none_earlier r.args 1 2 x (omega arith) d h.0) in
              stands (box_at box x v) (ap (λ z. some_item_meets (pos 1) z (map (left_to (box_at box x v)) (args_at r.args 1)) (left_to (box_at box x v) (arg_at r.args 2))) i
              ∙ (ap (λ z. some_item_meets (pos 1) (left_to box (arg_at r.args 0)) z (left_to (box_at box x v) (arg_at r.args 2))) items
              ∙ elim h.1.1 [
                | inl k ↦ ap (λ z. some_item_meets (pos 1) (left_to box (arg_at r.args 0)) (map (left_to box) (args_at r.args 1)) z) k ∙ least
                | inr k ↦ ap (λ z. some_item_meets (pos 1) (left_to box (arg_at r.args 0)) (map (left_to box) (args_at r.args 1)) z) k ∙ greatest
              ]))

          by_place : ((is_variable (arg_at r.args 0) x ≡ true) × AtEnd (takes r) box (arg_at r.args 0) (left_to (box_at box x v) (arg_at r.args 0))) ⊎ (left_to (box_at box x v) (arg_at r.args 0) ≡ left_to box (arg_at r.args 0)) → refuted_by r (box_at box x v) ≡ false
          by_place (inr i) = by_value i (left_cases (takes r) box x taken v w (arg_at r.args 2))
          by_place (inl h) =
              let none = none_later r.args 0 1 x (omega arith) d h.0 in
              let c_kept = kept (arg_at r.args 2) (not_both (arg_at r.args 0) (arg_at r.args 2) x h.0 (args_apart r.args 0 2 (omega arith) d)) in
              elim h.1.1 [
                | inl k ↦ stands_at (box_at box x v) p f fi (alone _ _ p k low) (same _ _ _ _ (kept f (none_item (λ z. is_variable z x) (args_at r.args 1) p f fi none)) c_kept fm)
                | inr k ↦ stands_at (box_at box x v) q l li (alone _ _ q k high) (same _ _ _ _ (kept l (none_item (λ z. is_variable z x) (args_at r.args 1) q l li none)) c_kept lm)
              ]

  -- the same by other names of its arguments
  abbrev OneClaim : ℤ → Arg → Arg → List Arg → Arg → Type 0
  OneClaim p a b xs c = item_at xs p ≡ Some a → is_open box b ≡ true → is_open box a ≡ true → is_open box c ≡ true → p ≡ least_value (left_to box b) → p ≡ greatest_value (left_to box b) → least_value (left_to box a) ≡ least_value (left_to box c) →
      greatest_value (left_to box a) ≡ greatest_value (left_to box c) → SparesTaken takes r box

  pub one_found : (p : ℤ) (a b : Arg) (xs : List Arg) (c : Arg) → b ≡ arg_at r.args 0 → xs ≡ args_at r.args 1 → c ≡ arg_at r.args 2 → item_at xs p ≡ Some a → is_open box b ≡ true → is_open box a ≡ true → is_open box c ≡ true → p ≡ least_value (left_to box b) → p ≡ greatest_value (left_to box b) →
      least_value (left_to box a) ≡ least_value (left_to box c) → greatest_value (left_to box a) ≡ greatest_value (left_to box c) → SparesTaken takes r box
  one_found p a b xs c i j k =
      subst (λ z. OneClaim p a z xs c) (sym i) (subst (λ z. OneClaim p a (arg_at r.args 0) z c) (sym j) (subst (λ z. OneClaim p a (arg_at r.args 0) (args_at r.args 1) z) (sym k) (one_place p a)))

  abbrev TwoClaim : ℤ → ℤ → Arg → Arg → Arg → List Arg → Arg → Type 0
  TwoClaim p q f l b xs c = item_at xs p ≡ Some f → item_at xs q ≡ Some l → is_open box b ≡ true → p ≡ least_value (left_to box b) → q ≡ greatest_value (left_to box b) → same_variable f l ≡ false → misses (left_to box f) (left_to box c) ≡ false → misses (left_to box l) (left_to box c) ≡ false →
      some_item_meets (pos 1) (left_to box b) (map (left_to box) xs) (least_value (left_to box c) ∷ []) ≡ true → some_item_meets (pos 1) (left_to box b) (map (left_to box) xs) (greatest_value (left_to box c) ∷ []) ≡ true → SparesTaken takes r box

  pub two_found : (p q : ℤ) (f l b : Arg) (xs : List Arg) (c : Arg) → b ≡ arg_at r.args 0 → xs ≡ args_at r.args 1 → c ≡ arg_at r.args 2 → item_at xs p ≡ Some f → item_at xs q ≡ Some l → is_open box b ≡ true → p ≡ least_value (left_to box b) → q ≡ greatest_value (left_to box b) → same_variable f l ≡ false →
      misses (left_to box f) (left_to box c) ≡ false → misses (left_to box l) (left_to box c) ≡ false → some_item_meets (pos 1) (left_to box b) (map (left_to box) xs) (least_value (left_to box c) ∷ []) ≡ true →
      some_item_meets (pos 1) (left_to box b) (map (left_to box) xs) (greatest_value (left_to box c) ∷ []) ≡ true → SparesTaken takes r box
  two_found p q f l b xs c i j k =
      subst (λ z. TwoClaim p q f l z xs c) (sym i) (subst (λ z. TwoClaim p q f l (arg_at r.args 0) z c) (sym j) (subst (λ z. TwoClaim p q f l (arg_at r.args 0) (args_at r.args 1) z) (sym k) (two_places p q f l)))
