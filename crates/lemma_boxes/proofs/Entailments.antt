-- Where a box entails a constraint, all values in it that are declared satisfy it.
use Rattle.std.proofs.Common.{◌≡◌, inl, inr, ℕ, Bool, true, false, not, ◌&&◌, List, [], ◌∷◌, length, map, refl, sym, ap, ◌∙◌, subst, slice_get, Some}
use Rattle.std.specs.Prelude.{ℤ, pos, ◌+ℤ◌, ◌||◌}
use Rattle.std.specs.Ordering.{int_eq}
use Rattle.std.specs.List.{list_all}
use Rattle.std.proofs.lemmas.Bool.Decides.{Decides-int_eq}
use Rattle.std.proofs.lemmas.Bool.{and_parts, or_cases, or_left, or_right}
use Rattle.qc_model.specs.Lists.{Among, LiesIn}
use Rattle.qc_model.specs.Content.{Game, Rule}
use Rattle.qc_model.specs.Domains.{Box, Values, InBox, declared_box, is_single, least_value}
use Rattle.qc_model.specs.Arguments.{Filled, filled_one, filled_many, filled_numbers, filled_members}
use Rattle.qc_model.specs.Meaning.{Meaning, variable_element, meaning_of}
use Rattle.qc_model.specs.Holds.{Given, value_at, values_at, item_is, holds_as, holds_on}
use Rattle.qc_model.specs.Left.{Lefts, left_at, lefts_at, is_only, are_one_value}
use Rattle.qc_model.specs.Refuted.{refuted_as}
use Rattle.qc_model.specs.Entailed.{entailed_as}
use Rattle.qc_model.specs.Valid.{IsValid}
use Rattle.qc_model.specs.Visible.{ArgumentsBelow}
use Rattle.qc_model.proofs.Visible.{FitsOne, Fits, one_fits, given_fits}
use Rattle.model_table.proofs.Fits.{many_fits}
use Rattle.model_table.proofs.Typing.{Kinds}
use Rattle.model_table.proofs.Typed.{given_of, lefts_of}
use Rattle.model_table.proofs.Kinded.{kinds_of}
use Rattle.model_table.proofs.Ordered.{constraint_at}
use Rattle.model_table.proofs.Entails.{entails}
use Rattle.model_table.proofs.Singles.{alone, alone_in, singles}
use Rattle.model_table.proofs.Single.{single_exact}
use Rattle.model_table.proofs.Truths.{only_is}
use Rattle.lemma_list.specs.Entailment.{is_settled, is_picked, entailed_by_index, is_entailed, entailed_by}
use Rattle.lemma_boxes.proofs.Lists.{differ}

single_is : (v : ℤ) (d : Values) → is_single d ≡ true → Among v d → d ≡ alone v
single_is v [] e m = absurd m
single_is v (u ∷ []) e m = elim m [ inl q ↦ ap (λ x. x ∷ []) (sym q) | inr t ↦ absurd t ]
single_is v (u ∷ z ∷ d) e m = absurd (differ e)

singles_are : (vs : List ℤ) (ds : List Values) → list_all is_single ds ≡ true → LiesIn vs ds → ds ≡ map alone vs
singles_are [] [] e h = refl
singles_are [] (d ∷ ds) e h = absurd h
singles_are (v ∷ vs) [] e h = absurd h
singles_are (v ∷ vs) (d ∷ ds) e h =
    let p = and_parts (is_single d) (list_all is_single ds) e in
    ap (λ x. x ∷ ds) (single_is v d p.0 h.0) ∙ ap (λ xs. alone v ∷ xs) (singles_are vs ds p.1 h.1)

argument_settled : (v : Filled ℤ) (d : Filled Values) → FitsOne v d → is_settled d ≡ true → d ≡ alone_in v
argument_settled (filled_one v) (filled_one d) h e = ap filled_one (single_is v d e h)
argument_settled (filled_many vs) (filled_many ds) h e = ap filled_many (singles_are vs ds e h)
argument_settled (filled_numbers ns) (filled_numbers ms) h e = ap filled_numbers (sym h)
argument_settled (filled_members s) (filled_members t) h e = ap filled_members (sym h)
argument_settled v d h e = absurd h

settled : (vs : Given) (ds : Lefts) → Fits vs ds → list_all is_settled ds ≡ true → ds ≡ singles vs
settled [] [] h e = refl
settled [] (d ∷ ds) h e = absurd h
settled (v ∷ vs) [] h e = absurd h
settled (v ∷ vs) (d ∷ ds) h e =
    let p = and_parts (is_settled d) (list_all is_settled ds) e in
    ap (λ x. x ∷ ds) (argument_settled v d h.0 p.0) ∙ ap (λ xs. alone_in v ∷ xs) (settled vs ds h.1 p.1)

twice_not : (a : Bool) → not (not a) ≡ true → a ≡ true
twice_not true e = refl
twice_not false e = e

-- two arguments with one value, the same
one_value : (v w : ℤ) (d e : Values) → are_one_value d e ≡ true → Among v d → Among w e → int_eq v w ≡ true
one_value v w d e r h i =
    let p = and_parts (is_single d && is_single e) (int_eq (least_value d) (least_value e)) r in
    let q = and_parts (is_single d) (is_single e) p.0 in
    subst (λ x. int_eq x w ≡ true) (ap least_value (single_is v d q.0 h))
    (subst (λ x. int_eq (least_value d) x ≡ true) (ap least_value (single_is w e q.1 i)) p.1)

-- the item at the index is c
picked : (k b c : ℤ) (vs : List ℤ) (d e : Values) (ds : List Values) → Among b d → Among c e → LiesIn vs ds → is_picked k d ds e ≡ true → item_is k b vs c ≡ true
picked k b c [] d e [] h i l r = absurd (differ r)
picked k b c [] d e (x ∷ ds) h i l r = absurd l
picked k b c (v ∷ vs) d e [] h i l r = absurd l
picked k b c (v ∷ vs) d e (x ∷ ds) h i l r =
    elim (or_cases (is_only k d && are_one_value x e) (is_picked (k +ℤ pos 1) d ds e) r) [
      | inl q ↦ (
          let p = and_parts (is_only k d) (are_one_value x e) q in
          let same : int_eq k b ≡ true = (Decides-int_eq k b).1 (sym (only_is k b d p.0 h)) in
          or_left (int_eq k b && int_eq v c) (item_is (k +ℤ pos 1) b vs c)
          (subst (λ t. (t && int_eq v c) ≡ true) (sym same) (one_value v c x e p.1 l.0 i))
          )
      | inr q ↦ or_right (int_eq k b && int_eq v c) (item_is (k +ℤ pos 1) b vs c) (picked (k +ℤ pos 1) b c vs d e ds h i l.1 q)
    ]

index_entails : (m : Meaning) (vs : Given) (ds : Lefts) → Fits vs ds → entailed_by_index m ds ≡ true → holds_as m vs ≡ true
index_entails variable_element vs ds f r =
    picked (pos 1) (value_at vs 0) (value_at vs 2) (values_at vs 1) (left_at ds 0) (left_at ds 2) (lefts_at ds 1) (one_fits vs ds 0 f) (one_fits vs ds 2 f) (many_fits vs ds 1 f) r
index_entails m vs ds f r = absurd (differ r)

entailed_sound : (m : Meaning) (vs : Given) (ds : Lefts) → Kinds m vs ds → Fits vs ds → is_entailed m ds ≡ true → holds_as m vs ≡ true
entailed_sound m vs ds k f e =
    elim (or_cases (entailed_as m ds || entailed_by_index m ds) (list_all is_settled ds && not (refuted_as m ds)) e) [
      | inl q ↦ elim (or_cases (entailed_as m ds) (entailed_by_index m ds) q) [
        | inl t ↦ entails m vs ds k f t
        | inr t ↦ index_entails m vs ds f t
      ]
      | inr q ↦ (
          let p = and_parts (list_all is_settled ds) (not (refuted_as m ds)) q in
          let s : ds ≡ singles vs = settled vs ds f p.0 in
          let r : refuted_as m ds ≡ not (holds_as m vs) = ap (refuted_as m) s ∙ single_exact m vs (subst (Kinds m vs) s k) in
          twice_not (holds_as m vs) (sym (ap not r) ∙ p.1))
    ]

pub entailed_holds : (g : Game) → IsValid g → (k : ℕ) (c : Rule) (w : List ℤ) (box : Box) → slice_get g.constraints k ≡ Some c → ArgumentsBelow (length w) c.args → InBox w (declared_box g) → InBox w box →
    entailed_by c box ≡ true → holds_on c w ≡ true
entailed_holds g v k c w box e l d b r =
    entailed_sound (meaning_of c.pred) (given_of w c.args) (lefts_of box c.args) (kinds_of g.variables w box c (constraint_at g v k c e) d l) (given_fits w box c.args b l) r
