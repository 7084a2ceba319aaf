-- Steps that take ends leave every closed box within.
use Rattle.std.proofs.Common.{◌≡◌, ◌⊎◌, inl, inr, ℕ, zero, suc, Bool, true, false, not, ◌&&◌, cond, List, [], ◌∷◌, length, set, refl, sym, ap, ◌∙◌, subst, arith, ℤ, Option, Some, None}
use Rattle.std.specs.Prelude.{int_le, ◌≤ℤ◌, slice_get}
use Rattle.std.specs.List.{list_all, list_any}
use Rattle.std.proofs.lemmas.Int.{ints}
use Rattle.std.proofs.lemmas.List.{length-set}
use Rattle.std.proofs.lemmas.Bool.{not_from_false, false_from_ne_true, or_cases, and_from}
use Rattle.qc_model.specs.Arguments.{variables_of}
use Rattle.qc_model.specs.Block.{is_owned_within, constraints_within}
use Rattle.qc_model.specs.Closed.{refutes_at}
use Rattle.qc_model.specs.Content.{Game, Rule}
use Rattle.qc_model.specs.Domains.{Values, Box, declared_box, values_left, values_within, values_outside, box_at, box_within, box_without, has_value, has_empty, is_none_left, is_within, is_sub_box, least_value, greatest_value}
use Rattle.qc_model.specs.Lists.{Among}
use Rattle.qc_model.specs.Refuted.{refuted_by}
use Rattle.qc_model.specs.Valid.{IsValid}
use Rattle.qc_model.specs.Verdict.{is_none_of}
use Rattle.qc_model.specs.Visible.{ArgumentsBelow}
use Rattle.qc_model.proofs.Moves.{among_filter, of_filter}
use Rattle.qc_model.proofs.Readable.{first, second}
use Rattle.model_arguments.specs.Asked.{is_box_of}
use Rattle.model_arguments.proofs.Bools.{clash, not_false}
use Rattle.model_arguments.proofs.Boxes.{some_left, sub_ascending, sub_without, set_full, set_same}
use Rattle.model_arguments.proofs.Kept.{low_end, high_end, some_of, keeps, inside, at_least, at_most, through}
use Rattle.model_arguments.proofs.Values.{has_least, has_greatest, value_passes}
use Rattle.model_table.proofs.Fits.{all_at, any_at}
use Rattle.model_table.proofs.Smaller.{valid_smaller}
use Rattle.proof_alike.specs.Alike.{is_among}
use Rattle.proof_alike.proofs.Filling.{get_among}
use Rattle.proof_tree.specs.declared.tree.Step.{Step}
use Rattle.proof_tree.specs.declared.tree.Step.TheVariants.{Prune, Bound}
use Rattle.proof_tree.specs.Steps.{after_step, after_steps, is_legal, removes_some, is_refuted_within}
use Rattle.dense_closing.specs.Closing.{IsGreatestClosed}
use Rattle.dense_closing.specs.ClosingSteps.{is_hopeless}
use Rattle.dense_closing.specs.Ends.{is_end, may_take, is_end_step, are_end_steps}
use Rattle.dense_closing.specs.Takes.{Takes, keeps_at, keeps_box, is_closed_by, NoneClosedBy}
use Rattle.dense_closing.proofs.Own.{own_place, own_of, rule_below, refuted_apart}
use Rattle.dense_closing.proofs.Within.{all_from, sub_values, sub_set, sub_self, sub_through, sub_empty}

-- what a step has that takes an end
pub record EndStep (takes : Takes) (g : Game) (i stop x : ℕ) (low high : ℤ) (k : ℕ) (box : Box) : Type 0 where
  pub some : removes_some box x low high ≡ true
  pub end : is_end low high (values_left box x) ≡ true
  pub rule : Rule
  pub there : slice_get g.constraints k ≡ Some rule
  pub owned : is_owned_within i stop rule ≡ true
  pub refuted : refuted_by rule (box_within box x low high) ≡ true
  pub taken : takes rule x ≡ true
  pub variable : is_none_of (variables_of rule.args) ≡ false

pub end_step_is : (takes : Takes) (g : Game) (i stop x : ℕ) (low high : ℤ) (k : ℕ) (box : Box) → is_end_step takes g i stop (Prune (record { 0 = x }) low high (record { 0 = k })) box ≡ true → EndStep takes g i stop x low high k box
end_step_is takes g i stop x low high k box h =
    let within = box_within box x low high in
    let legal = removes_some box x low high && is_refuted_within i stop (slice_get g.constraints k) within in
    let end = is_end low high (values_left box x) && may_take takes (slice_get g.constraints k) x in
    by (slice_get g.constraints k) refl
    (first (removes_some box x low high) (is_refuted_within i stop (slice_get g.constraints k) within) (first legal end h))
    (second (removes_some box x low high) (is_refuted_within i stop (slice_get g.constraints k) within) (first legal end h))
    (first (is_end low high (values_left box x)) (may_take takes (slice_get g.constraints k) x) (second legal end h))
    (second (is_end low high (values_left box x)) (may_take takes (slice_get g.constraints k) x) (second legal end h))
  where
    by : (r : Option Rule) → slice_get g.constraints k ≡ r → removes_some box x low high ≡ true → is_refuted_within i stop r (box_within box x low high) ≡ true →
        is_end low high (values_left box x) ≡ true → may_take takes r x ≡ true → EndStep takes g i stop x low high k box
    by None e s r n v = cc
    by (Some c) e s r n v = record {
      some = s;
      end = n;
      rule = c;
      there = e;
      owned = first (is_owned_within i stop c) (refuted_by c (box_within box x low high)) r;
      refuted = second (is_owned_within i stop c) (refuted_by c (box_within box x low high)) r;
      taken = first (takes c x) (not (is_none_of (variables_of c.args))) v;
      variable = not_false (is_none_of (variables_of c.args)) (second (takes c x) (not (is_none_of (variables_of c.args))) v);
    }

-- a bound takes none
pub no_end : (b : Bool) → (b && false) ≡ true → ⊥
no_end true h = cc
no_end false h = cc

-- what a constraint keeps of x, which it may take or not
module _ (takes : Takes) (c : Rule) (small : Box) (kept : keeps_box takes small c ≡ true) (x : ℕ) (own : Among x (variables_of c.args)) where
  abbrev ends_kept : Bool
  ends_kept = not (refutes_at c small x (least_value (values_left small x))) && not (refutes_at c small x (greatest_value (values_left small x)))

  at_x : (b : Bool) → takes c x ≡ b → cond b ends_kept (not (refuted_by c small)) ≡ true
  at_x b t = subst (λ d. cond d ends_kept (not (refuted_by c small)) ≡ true) t (all_at (keeps_at takes small c) (variables_of c.args) x kept own)

  least_kept : takes c x ≡ true → refutes_at c small x (least_value (values_left small x)) ≡ false
  least_kept t = not_false (refutes_at c small x (least_value (values_left small x))) (first (not (refutes_at c small x (least_value (values_left small x)))) (not (refutes_at c small x (greatest_value (values_left small x)))) (at_x true t))

  greatest_kept : takes c x ≡ true → refutes_at c small x (greatest_value (values_left small x)) ≡ false
  greatest_kept t = not_false (refutes_at c small x (greatest_value (values_left small x))) (second (not (refutes_at c small x (least_value (values_left small x)))) (not (refutes_at c small x (greatest_value (values_left small x)))) (at_x true t))

  box_kept : takes c x ≡ false → refuted_by c small ≡ false
  box_kept t = not_false (refuted_by c small) (at_x false t)

-- where a constraint stands
pub record Placed (cs : List Rule) (c : Rule) : Type 0 where
  pub place : ℕ
  pub there : slice_get cs place ≡ Some c

pub placed : (cs : List Rule) (c : Rule) → Among c cs → Placed cs c
placed [] c m = absurd m
placed (d ∷ cs) c (inl e) = record { place = zero; there = ap Some (sym e) }
placed (d ∷ cs) c (inr m) = let f = placed cs c m in record { place = suc f.place; there = f.there }

-- a box within another one, without an empty domain, in which a constraint keeps its ends
module _ (g : Game) (valid : IsValid g) (k : ℕ) (c : Rule) (e : slice_get g.constraints k ≡ Some c) (small box : Box) (d : is_box_of g box ≡ true) (s : is_sub_box small box ≡ true) (full : has_empty small ≡ false) where
  below : ArgumentsBelow (length small) c.args
  below = rule_below g valid small (sub_through small box (declared_box g) s d) k c e

  whole_refuted : refuted_by c box ≡ true → refuted_by c small ≡ true
  whole_refuted r = valid_smaller g valid k c small box e below s full r

  in_box : (x : ℕ) (v : ℤ) → has_value (values_left small x) v ≡ true → has_value (values_left box x) v ≡ true
  in_box x v m = value_passes (has_value (values_left box x)) (values_left small x) v (sub_values small box x s) m

  -- where it refutes the box with some of the values of x, it refutes each of them in the small one
  at_refuted : (x : ℕ) (us : Values) (v : ℤ) → has_value us v ≡ true → refuted_by c (set box x us) ≡ true → refutes_at c small x v ≡ true
  at_refuted x us v m r =
      valid_smaller g valid k c (box_at small x v) (set box x us) e (subst (λ n. ArgumentsBelow n c.args) (sym (length-set small x (v ∷ []))) below)
      (sub_set small box x (v ∷ []) us s refl (and_from (has_value us v) true m refl)) (set_full small x (v ∷ []) full refl) r

  module _ (takes : Takes) (kept : keeps_box takes small c ≡ true) where
    -- so none of the values is left there, where they are at an end of x, and x is its own, which it may take
    end_gone : (x : ℕ) (low high : ℤ) → is_end low high (values_left box x) ≡ true → Among x (variables_of c.args) → takes c x ≡ true → refuted_by c (box_within box x low high) ≡ true → (v : ℤ) → has_value (values_left small x) v ≡ true → is_within low high v ≡ false
    end_gone x low high n own t r v m = false_from_ne_true (is_within low high v) (λ w. by w (or_cases (int_le low (least_value (values_left box x))) (int_le (greatest_value (values_left box x)) high) n))
      where
        l : ℤ
        l = least_value (values_left small x)

        h : ℤ
        h = greatest_value (values_left small x)

        some : is_none_left (values_left small x) ≡ false
        some = some_of (values_left small x) v m

        refuted : (u : ℤ) → is_within low high u ≡ true → has_value (values_left small x) u ≡ true → refutes_at c small x u ≡ true
        refuted u w q = at_refuted x (values_within low high (values_left box x)) u (keeps (is_within low high) (values_left box x) u w (in_box x u q)) r

        by : is_within low high v ≡ true → (int_le low (least_value (values_left box x)) ≡ true) ⊎ (int_le (greatest_value (values_left box x)) high ≡ true) → ⊥
        by w (inl q) =
            let there = has_least (values_left small x) some in
            let above : low ≤ℤ least_value (values_left box x) = omega (arith, ints) in
            let from = through low (least_value (values_left box x)) l above (low_end (values_left box x) l (in_box x l there)) in
            let upto = through l v high (low_end (values_left small x) v m) (at_most low high v w) in
            clash (refutes_at c small x l) (refuted l (inside low high l from upto) there) (least_kept takes c small kept x own t)
        by w (inr q) =
            let there = has_greatest (values_left small x) some in
            let under : greatest_value (values_left box x) ≤ℤ high = omega (arith, ints) in
            let from = through low v h (at_least low high v w) (high_end (values_left small x) v m) in
            let upto = through h (greatest_value (values_left box x)) high (high_end (values_left box x) h (in_box x h there)) under in
            clash (refutes_at c small x h) (refuted h (inside low high h from upto) there) (greatest_kept takes c small kept x own t)

    -- nor does it refute the whole box, if it has a variable
    pub box_stands : is_none_of (variables_of c.args) ≡ false → refuted_by c box ≡ true → ⊥
    box_stands some r = by (variables_of c.args) refl some
      where
        by : (xs : List ℕ) → variables_of c.args ≡ xs → is_none_of xs ≡ false → ⊥
        by [] q n = cc
        by (x ∷ xs) q n =
            let own : Among x (variables_of c.args) = subst (Among x) (sym q) (inl refl) in
            if_taken x own (takes c x) refl
          where
            if_taken : (x : ℕ) → Among x (variables_of c.args) → (b : Bool) → takes c x ≡ b → ⊥
            if_taken x own true t =
                let there = has_least (values_left small x) (some_left small x full (own_place (length small) x c.args below own)) in
                clash (refutes_at c small x (least_value (values_left small x)))
                (at_refuted x (values_left box x) (least_value (values_left small x)) (in_box x (least_value (values_left small x)) there) (subst (λ b. refuted_by c b ≡ true) (sym (set_same box x (values_left box x) refl)) r))
                (least_kept takes c small kept x own t)
            if_taken x own false t = clash (refuted_by c small) (whole_refuted r) (box_kept takes c small kept x own t)

-- a box within stays within what a removal leaves, where it has none of the values
outside_sub : (small box : Box) (x : ℕ) (low high : ℤ) → is_sub_box small box ≡ true → ((v : ℤ) → has_value (values_left small x) v ≡ true → is_within low high v ≡ false) → is_sub_box small (box_without box x low high) ≡ true
outside_sub small box x low high s f =
    subst (λ b. is_sub_box b (box_without box x low high) ≡ true) (set_same small x (values_left small x) refl)
    (sub_set small box x (values_left small x) (values_outside low high (values_left box x)) s (sub_ascending small box x s)
    (all_from (has_value (values_outside low high (values_left box x))) (values_left small x) (λ v m. stays v (f v m) (value_passes (has_value (values_left box x)) (values_left small x) v (sub_values small box x s) m))))
  where
    stays : (v : ℤ) → is_within low high v ≡ false → has_value (values_left box x) v ≡ true → has_value (values_outside low high (values_left box x)) v ≡ true
    stays v n m = keeps (λ u. not (is_within low high u)) (values_left box x) v (not_from_false (is_within low high v) n) m

-- what is left lies within the box
after_within : (st : Step) (box large : Box) → is_sub_box box large ≡ true → is_sub_box (after_step st box) large ≡ true
after_within (Prune x low high c) box large h = sub_without box large x.0 low high h
after_within (Bound x low high) box large h = sub_without box large x.0 low high h

pub steps_within : (steps : List Step) (box large : Box) → is_sub_box box large ≡ true → is_sub_box (after_steps steps box) large ≡ true
steps_within [] box large h = h
steps_within (s ∷ steps) box large h = steps_within steps (after_step s box) large (after_within s box large h)

pub closed_full : (takes : Takes) (cs : List Rule) (box : Box) → is_closed_by takes cs box ≡ true → has_empty box ≡ false
closed_full takes cs box h = not_false (has_empty box) (first (not (has_empty box)) (list_all (keeps_box takes box) cs) h)

module _ (takes : Takes) (g : Game) (valid : IsValid g) (i stop : ℕ) where
  abbrev rules : List Rule
  rules = constraints_within g i stop

  step_keeps : (st : Step) (box small : Box) → is_box_of g box ≡ true → is_end_step takes g i stop st box ≡ true → is_sub_box small box ≡ true → is_closed_by takes rules small ≡ true → is_sub_box small (after_step st box) ≡ true
  step_keeps (Bound x low high) box small d h s c = absurd (no_end (is_legal g i stop None (Bound x low high) box) h)
  step_keeps (Prune x low high k) box small d h s c =
      outside_sub small box x.0 low high s (gone (is_among (variables_of e.rule.args) x.0) refl)
    where
      e : EndStep takes g i stop x.0 low high k.0 box
      e = end_step_is takes g i stop x.0 low high k.0 box h

      full : has_empty small ≡ false
      full = closed_full takes rules small c

      kept : keeps_box takes small e.rule ≡ true
      kept = all_at (keeps_box takes small) rules e.rule (second (not (has_empty small)) (list_all (keeps_box takes small) rules) c) (among_filter (is_owned_within i stop) e.rule g.constraints (get_among g.constraints k.0 e.rule e.there) e.owned)

      gone : (b : Bool) → is_among (variables_of e.rule.args) x.0 ≡ b → (v : ℤ) → has_value (values_left small x.0) v ≡ true → is_within low high v ≡ false
      gone true q = end_gone g valid k.0 e.rule e.there small box d s full takes kept x.0 low high e.end (own_of (variables_of e.rule.args) x.0 q) e.taken e.refuted
      gone false q =
          absurd (box_stands g valid k.0 e.rule e.there small box d s full takes kept e.variable (sym (refuted_apart g e.rule box x.0 (values_within low high (values_left box x.0)) q) ∙ e.refuted))

  -- the laws
  pub steps_keep : (steps : List Step) (box small : Box) → is_box_of g box ≡ true → are_end_steps takes g i stop steps box ≡ true → is_sub_box small box ≡ true → is_closed_by takes rules small ≡ true → is_sub_box small (after_steps steps box) ≡ true
  steps_keep [] box small d h s c = s
  steps_keep (st ∷ steps) box small d h s c =
      let here = is_end_step takes g i stop st box in
      let later = are_end_steps takes g i stop steps (after_step st box) in
      steps_keep steps (after_step st box) small (after_within st box (declared_box g) d) (second here later h) (step_keeps st box small d (first here later h) s c) c

  pub reach : (steps : List Step) (box : Box) → is_box_of g box ≡ true → are_end_steps takes g i stop steps box ≡ true → is_closed_by takes rules (after_steps steps box) ≡ true → IsGreatestClosed takes rules box (after_steps steps box)
  reach steps box d h c = record {
    within = steps_within steps box box (sub_self box (declared_box g) d);
    closed = c;
    greatest = λ b s k. steps_keep steps box b d h s k;
  }

  pub show_none : (steps : List Step) (box : Box) → is_box_of g box ≡ true → are_end_steps takes g i stop steps box ≡ true → has_empty (after_steps steps box) ≡ true → NoneClosedBy takes rules box
  show_none steps box d h n b s =
      false_from_ne_true (is_closed_by takes rules b) (λ k. clash (has_empty b) (sub_empty b (after_steps steps box) (steps_keep steps box b d h s k) n) (closed_full takes rules b k))

  -- a constraint that refutes the box that is left, and may not take one of its variables
  hopeless_none : (box : Box) → is_box_of g box ≡ true → is_hopeless takes rules box ≡ true → NoneClosedBy takes rules box
  hopeless_none box d h b s = false_from_ne_true (is_closed_by takes rules b) (λ k. (let f = any_at fails rules h in by f.0 f.1 (of_filter (is_owned_within i stop) f.0 g.constraints f.1) f.2 k))
    where
      fails : Rule → Bool
      fails c = refuted_by c box && list_any (λ x. not (takes c x)) (variables_of c.args)

      by : (c : Rule) → Among c rules → Among c g.constraints × (is_owned_within i stop c ≡ true) → fails c ≡ true → is_closed_by takes rules b ≡ true → ⊥
      by c m o r k =
          let kept = all_at (keeps_box takes b) rules c (second (not (has_empty b)) (list_all (keeps_box takes b) rules) k) m in
          let spared = any_at (λ x. not (takes c x)) (variables_of c.args) (second (refuted_by c box) (list_any (λ x. not (takes c x)) (variables_of c.args)) r) in
          let p = placed g.constraints c o.0 in
          clash (refuted_by c b) (whole_refuted g valid p.place c p.there b box d s (closed_full takes rules b k) (first (refuted_by c box) (list_any (λ x. not (takes c x)) (variables_of c.args)) r))
          (box_kept takes c b kept spared.0 spared.1 (not_false (takes c spared.0) spared.2))

  pub show_hopeless : (steps : List Step) (box : Box) → is_box_of g box ≡ true → are_end_steps takes g i stop steps box ≡ true → is_hopeless takes rules (after_steps steps box) ≡ true → NoneClosedBy takes rules box
  show_hopeless steps box d h n b s = false_from_ne_true (is_closed_by takes rules b) (λ k.
      clash (is_closed_by takes rules b) k (hopeless_none (after_steps steps box) (steps_within steps box (declared_box g) d) n b (steps_keep steps box b d h s k)))
