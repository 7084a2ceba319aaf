-- Values that closing leaves, and boxes around values that satisfy all constraints of some scopes.
use Rattle.std.proofs.Common.{◌≡◌, inl, inr, ℕ, zero, suc, ◌<◌, ◌≤◌, Bool, true, false, not, ◌&&◌, cond, List, [], ◌∷◌, ◌++◌, length, take, drop, set, get_or, refl, sym, ap, ◌∙◌, subst, arith, ℤ, Some, None}
use Rattle.std.specs.Prelude.{slice_get, MatchOption}
use Rattle.std.specs.List.{list_all}
use Rattle.std.proofs.lemmas.List.{length-take}
use Rattle.std.proofs.lemmas.Bool.{false_from_ne_true, cases_lt, and_parts, and_from, not_from_false}
use Rattle.qc_model.specs.Arguments.{variables_of}
use Rattle.qc_model.specs.Block.{is_owned_within, constraints_within}
use Rattle.qc_model.specs.Closed.{refutes_at}
use Rattle.qc_model.specs.Content.{Game, Rule}
use Rattle.qc_model.specs.Domains.{InBox, Box, declared_box, values_left, values_within, values_outside, box_within, box_without, has_empty, is_sub_box, is_within, has_value, least_value, greatest_value}
use Rattle.qc_model.specs.Holds.{holds_on}
use Rattle.qc_model.specs.Lists.{Among}
use Rattle.qc_model.specs.Refuted.{refuted_by}
use Rattle.qc_model.specs.Valid.{IsValid}
use Rattle.qc_model.specs.Visible.{ArgumentsBelow}
use Rattle.qc_model.proofs.Moves.{of_filter, among_filter}
use Rattle.qc_model.proofs.Sound.{has_it}
use Rattle.model_arguments.specs.Asked.{is_box_of}
use Rattle.model_arguments.proofs.Boxes.{sub_without}
use Rattle.model_laws.proofs.Listed.{all_to}
use Rattle.proof_alike.specs.Alike.{is_among}
use Rattle.proof_alike.proofs.Filling.{get_among}
use Rattle.proof_meaning.proofs.Boxes.{singles, filter_split}
use Rattle.proof_meaning.proofs.Narrowed.{past_set}
use Rattle.proof_meaning.proofs.Premises.{sound_of}
use Rattle.proof_meaning.proofs.Taken.{apart, taken_from}
use Rattle.proof_tree.specs.declared.tree.Step.{Step}
use Rattle.proof_tree.specs.declared.tree.Step.TheVariants.{Prune, Bound}
use Rattle.proof_tree.specs.Steps.{after_step, after_steps, is_legal}
use Rattle.dense_closing.specs.Closing.{IsGreatestClosed}
use Rattle.dense_closing.specs.ClosingSteps.{closing_steps, greatest_closed}
use Rattle.dense_closing.specs.Ends.{is_end_step, are_end_steps}
use Rattle.dense_closing.specs.Takes.{Takes, keeps_at, keeps_box, is_closed_by, NoneClosedBy}
use Rattle.dense_closing.proofs.Closing.{closing_takes_ends, closing_finds, closing_leads}
use Rattle.dense_closing.proofs.Keeping.{EndStep, end_step_is, no_end, closed_full, box_stands, placed, steps_within}
use Rattle.dense_closing.proofs.Own.{own_of, own_place, refuted_apart}
use Rattle.dense_closing.proofs.Within.{sub_self}
use Rattle.dense_meaning.proofs.Bits.{all_from}
use Rattle.dense_laws.proofs.Small.{clash, apart_by, sub_in_box}

-- single values before a box
front_sub : (w : List ℤ) (box large : Box) → is_sub_box box large ≡ true → InBox w box → is_sub_box (singles w ++ drop (length w) box) box ≡ true
front_sub [] box large d j = sub_self box large d
front_sub (v ∷ w) [] large d j = absurd j
front_sub (v ∷ w) (e ∷ box) [] d j = cc
front_sub (v ∷ w) (e ∷ box) (l ∷ large) d j =
    by (has_value e v) (is_sub_box (singles w ++ drop (length w) box) box) (has_it e v j.0) (front_sub w box large (and_parts _ (is_sub_box box large) d).1 j.1)
  where
    by : (a b : Bool) → a ≡ true → b ≡ true → ((a && true) && b) ≡ true
    by true b p q = q
    by false b p q = cc

front_full : (w : List ℤ) (rest : Box) → has_empty rest ≡ false → has_empty (singles w ++ rest) ≡ false
front_full [] rest e = e
front_full (v ∷ w) rest e = front_full w rest e

in_front_box : (w : List ℤ) (rest : Box) → InBox w (singles w ++ rest)
in_front_box [] rest = tt
in_front_box (v ∷ w) rest = (inl refl, in_front_box w rest)

least_there : (w : List ℤ) (rest : Box) (x : ℕ) → x < length w → set (singles w ++ rest) x (least_value (get_or (singles w ++ rest) x []) ∷ []) ≡ singles w ++ rest
least_there [] rest x l = absurd (omega arith)
least_there (v ∷ w) rest zero l = refl
least_there (v ∷ w) rest (suc x) l = ap (λ ds. (v ∷ []) ∷ ds) (least_there w rest x (omega arith))

greatest_there : (w : List ℤ) (rest : Box) (x : ℕ) → x < length w → set (singles w ++ rest) x (greatest_value (get_or (singles w ++ rest) x []) ∷ []) ≡ singles w ++ rest
greatest_there [] rest x l = absurd (omega arith)
greatest_there (v ∷ w) rest zero l = refl
greatest_there (v ∷ w) rest (suc x) l = ap (λ ds. (v ∷ []) ∷ ds) (greatest_there w rest x (omega arith))

module _ (takes : Takes) (g : Game) (valid : IsValid g) (i stop : ℕ) where
  abbrev rules : List Rule
  rules = constraints_within g i stop

  -- w satisfies each constraint that may take one of its values past the first n
  abbrev pub Satisfies : ℕ → List ℤ → Type 0
  Satisfies n w =
      (k : ℕ) (c : Rule) (x : ℕ) → slice_get g.constraints k ≡ Some c → is_owned_within i stop c ≡ true → Among x (variables_of c.args) → takes c x ≡ true → n ≤ x → x < length w →
      ArgumentsBelow (length w) c.args × (holds_on c w ≡ true)

  module _ (n : ℕ) (w : List ℤ) (kept : Satisfies n w) (declared : InBox w (declared_box g)) where
    step_stays : (st : Step) (box small : Box) → is_box_of g box ≡ true → is_end_step takes g i stop st box ≡ true → is_sub_box small box ≡ true → is_closed_by takes (constraints_within g i stop) small ≡ true → is_sub_box small (after_step st box) ≡ true →
        InBox (take n w) small → InBox w box → InBox w (after_step st box)
    step_stays (Bound x low high) box small d h s c t f j = absurd (no_end (is_legal g i stop None (Bound x low high) box) h)
    step_stays (Prune x low high k) box small d h s c t f j =
        elim (filter_split (is_within low high) box x.0 w j) [ inl q ↦ taken q | inr q ↦ q ]
      where
        e : EndStep takes g i stop x.0 low high k.0 box
        e = end_step_is takes g i stop x.0 low high k.0 box h

        full : has_empty small ≡ false
        full = closed_full takes (constraints_within g i stop) small c

        stands : keeps_box takes small e.rule ≡ true
        stands =
            all_to (keeps_box takes small) (constraints_within g i stop) (and_parts (not (has_empty small)) (list_all (keeps_box takes small) (constraints_within g i stop)) c).1 e.rule
            (among_filter (is_owned_within i stop) e.rule g.constraints (get_among g.constraints k.0 e.rule e.there) e.owned)

        refuting : InBox w (box_within box x.0 low high) → n ≤ x.0 → x.0 < length w → ⊥
        refuting q l m = by (is_among (variables_of e.rule.args) x.0) refl
          where
            by : (b : Bool) → is_among (variables_of e.rule.args) x.0 ≡ b → ⊥
            by true o =
                let r = kept k.0 e.rule x.0 e.there e.owned (own_of (variables_of e.rule.args) x.0 o) e.taken l m in
                (sound_of g valid).table k.0 e.rule (box_within box x.0 low high) w e.there r.0 declared e.refuted q r.1
            by false o =
                box_stands g valid k.0 e.rule e.there small box d s full takes stands e.variable (sym (refuted_apart g e.rule box x.0 (values_within low high (values_left box x.0)) o) ∙ e.refuted)

        taken : InBox w (box_within box x.0 low high) → InBox w (box_without box x.0 low high)
        taken q = elim (cases_lt x.0 (length w)) [
          | inl m ↦ elim (cases_lt x.0 n) [
            | inl l ↦ absurd (apart box x.0 (values_within low high (values_left box x.0)) (values_outside low high (values_left box x.0)) (take n w) (omega (arith, length-take n w))
                (apart_by (is_within low high) (values_left box x.0)) (taken_from n w (box_within box x.0 low high) q) (sub_in_box (take n w) small (box_without box x.0 low high) t f))
            | inr l ↦ absurd (refuting q l m)
          ]
          | inr m ↦ past_set box x.0 (values_outside low high (values_left box x.0)) w m j
        ]

    after_declared : (st : Step) (box : Box) → is_box_of g box ≡ true → is_box_of g (after_step st box) ≡ true
    after_declared (Prune x low high k) box d = sub_without box (declared_box g) x.0 low high d
    after_declared (Bound x low high) box d = sub_without box (declared_box g) x.0 low high d

    stays : (steps : List Step) (box : Box) → is_box_of g box ≡ true → are_end_steps takes g i stop steps box ≡ true → is_closed_by takes (constraints_within g i stop) (after_steps steps box) ≡ true →
        InBox (take n w) (after_steps steps box) → InBox w box → InBox w (after_steps steps box)
    stays [] box d h c f j = j
    stays (st ∷ steps) box d h c f j =
        let q = and_parts (is_end_step takes g i stop st box) (are_end_steps takes g i stop steps (after_step st box)) h in
        let next = after_declared st box d in
        stays steps (after_step st box) next q.1 c f
        (step_stays st box (after_steps steps (after_step st box)) d q.0 (steps_within (st ∷ steps) box box (sub_self box (declared_box g) d)) c
        (steps_within steps (after_step st box) (after_step st box) (sub_self (after_step st box) (declared_box g) next)) f j)

  -- what is found
  pub greatest_is : (box small : Box) → is_box_of g box ≡ true → greatest_closed takes g i stop box ≡ Some small → IsGreatestClosed takes (constraints_within g i stop) box small
  greatest_is box small d e =
      subst (λ o. MatchOption o (NoneClosedBy takes (constraints_within g i stop) box) (IsGreatestClosed takes (constraints_within g i stop) box)) e (closing_finds takes g valid i stop box d)

  pub none_is : (box : Box) → is_box_of g box ≡ true → greatest_closed takes g i stop box ≡ None → NoneClosedBy takes (constraints_within g i stop) box
  none_is box d e =
      subst (λ o. MatchOption o (NoneClosedBy takes (constraints_within g i stop) box) (IsGreatestClosed takes (constraints_within g i stop) box)) e (closing_finds takes g valid i stop box d)

  -- values whose front stays stay
  pub point_stays : (n : ℕ) (w : List ℤ) → Satisfies n w → (box small : Box) → is_box_of g box ≡ true → greatest_closed takes g i stop box ≡ Some small → InBox (take n w) small → InBox w box → InBox w small
  point_stays n w kept box small d e f j =
      let m = greatest_is box small d e in
      let l : after_steps (closing_steps takes g i stop box) box ≡ small = closing_leads takes g valid i stop box d small m in
      subst (InBox w) l
      (stays n w kept (sub_in_box w box (declared_box g) d j) (closing_steps takes g i stop box) box d (closing_takes_ends takes g valid i stop box d) (subst (λ b. is_closed_by takes (constraints_within g i stop) b ≡ true) (sym l) m.closed)
      (subst (InBox (take n w)) (sym l) f) j)

  -- values that satisfy all constraints, with what is left behind them, are a closed box
  pub front_closed : (w : List ℤ) (box : Box) → is_box_of g box ≡ true → InBox w box → has_empty (drop (length w) box) ≡ false →
      ((k : ℕ) (c : Rule) → slice_get g.constraints k ≡ Some c → is_owned_within i stop c ≡ true → ArgumentsBelow (length w) c.args × (holds_on c w ≡ true)) →
      NoneClosedBy takes (constraints_within g i stop) box → ⊥
  front_closed w box d j full f none =
      clash (is_closed_by takes (constraints_within g i stop) inner) closed (none inner (front_sub w box (declared_box g) d j))
    where
      inner : Box
      inner = singles w ++ drop (length w) box

      unrefuted : (c : Rule) → Among c (constraints_within g i stop) → refuted_by c inner ≡ false
      unrefuted c m =
          let q = of_filter (is_owned_within i stop) c g.constraints m in
          let k = placed g.constraints c q.0 in
          let p = f k.place c k.there q.1 in
          false_from_ne_true (refuted_by c inner) (λ e. (sound_of g valid).table k.place c inner w k.there p.0 (sub_in_box w box (declared_box g) d j) e (in_front_box w (drop (length w) box)) p.1)

      keeps : (c : Rule) → Among c (constraints_within g i stop) → keeps_box takes inner c ≡ true
      keeps c m = all_from (keeps_at takes inner c) (variables_of c.args) (λ x o. (let q = of_filter (is_owned_within i stop) c g.constraints m in
          let k = placed g.constraints c q.0 in
          let p = f k.place c k.there q.1 in
          at (takes c x) x (own_place (length w) x c.args p.0 o)))
        where
          at : (b : Bool) (x : ℕ) → x < length w → cond b (not (refutes_at c inner x (least_value (values_left inner x))) && not (refutes_at c inner x (greatest_value (values_left inner x)))) (not (refuted_by c inner)) ≡ true
          at false x l = not_from_false (refuted_by c inner) (unrefuted c m)
          at true x l =
              and_from (not (refutes_at c inner x (least_value (values_left inner x)))) (not (refutes_at c inner x (greatest_value (values_left inner x))))
              (not_from_false (refutes_at c inner x (least_value (values_left inner x))) (ap (refuted_by c) (least_there w (drop (length w) box) x l) ∙ unrefuted c m))
              (not_from_false (refutes_at c inner x (greatest_value (values_left inner x))) (ap (refuted_by c) (greatest_there w (drop (length w) box) x l) ∙ unrefuted c m))

      closed : is_closed_by takes (constraints_within g i stop) inner ≡ true
      closed = and_from (not (has_empty inner)) (list_all (keeps_box takes inner) (constraints_within g i stop)) (not_from_false (has_empty inner) (front_full w (drop (length w) box) full)) (all_from (keeps_box takes inner) (constraints_within g i stop) keeps)
