-- A box that entails a constraint doesn't refute it: the least values that it leaves satisfy it.
use Rattle.std.proofs.Common.{◌≡◌, refl, subst, sym, ℕ, Bool, true, false, ◌&&◌, List, [], ◌∷◌, inl, inr}
use Rattle.std.specs.Prelude.{◌==◌, cond}
use Rattle.std.specs.List.{list_all}
use Rattle.std.proofs.lemmas.Bool.{or_from, or_parts, false_from_ne_true}
use Rattle.qc_model.specs.Content.{Game, Rule}
use Rattle.qc_model.specs.Domains.{Box, box_values, declared_box, has_empty, has_value, is_ascending, is_none_left, is_sub_box, least_value}
use Rattle.qc_model.specs.Game.{restriction}
use Rattle.qc_model.specs.Lists.{Among, LiesIn}
use Rattle.qc_model.specs.Refuted.{refuted_by}
use Rattle.qc_model.specs.Valid.{IsValid}
use Rattle.qc_model.specs.Verdict.{Verdict, lost, unknown}
use Rattle.qc_model.proofs.Conjunctions.{first, second}
use Rattle.qc_model.proofs.Moves.{of_filter}
use Rattle.model_arguments.specs.Asked.{is_box_of}
use Rattle.model_arguments.proofs.Kept.{among_of}
use Rattle.model_arguments.proofs.Values.{has_least, value_passes}
use Rattle.model_table.proofs.Valid.{valid_table_sound}
use Rattle.lemma_list.specs.Entailment.{entailed_by}
use Rattle.lemma_boxes.proofs.Entailments.{entailed_holds}
use Rattle.lemma_boxes.proofs.Lists.{among_get, lies_in_box}
use Rattle.lemma_boxes.proofs.Tells.{visible}
use Rattle.dense_tree.specs.Place.{Setting, Place}
use Rattle.dense_tree.specs.Tuples.{all_hold, some_fails}
use Rattle.dense_tree.specs.Verdicts.{goal_comes_to}
use Rattle.dense_nest.specs.Goes.{goal_of}
use Rattle.dense_nest.specs.Places.{IsFull}
use Rattle.dense_nest.specs.declared.nodes.Reached.TheVariants.{Holds}

-- the least values lie in the box, and in each wider one
least_lie : (b e : Box) → is_sub_box b e ≡ true → has_empty b ≡ false → LiesIn (box_values b) b × LiesIn (box_values b) e
least_lie [] [] h k = (tt, tt)
least_lie [] (e ∷ es) h k = cc
least_lie (d ∷ b) [] h k = cc
least_lie (d ∷ b) (e ∷ es) h k =
    let ordered = is_ascending d && list_all (has_value e) d in
    let some = or_parts (is_none_left d) (has_empty b) k in
    let least = has_least d some.0 in
    let among = second (is_ascending d) (list_all (has_value e) d) (first ordered (is_sub_box b es) h) in
    let rest = least_lie b es (second ordered (is_sub_box b es) h) some.1 in
    ((among_of (least_value d) d least, rest.0), (among_of (least_value d) e (value_passes (has_value e) d (least_value d) among least), rest.1))

none_fails : (box : Box) (cs : List Rule) → ((c : Rule) → Among c cs → entailed_by c box ≡ true → refuted_by c box ≡ false) → all_hold cs box ≡ true → some_fails cs box ≡ false
none_fails box [] f h = refl
none_fails box (c ∷ cs) f h =
    let rest = all_hold cs box in
    or_from (refuted_by c box) (some_fails cs box) (f c (inl refl) (first (entailed_by c box) rest h)) (none_fails box cs (λ d m. f d (inr m)) (second (entailed_by c box) rest h))

module _ (g : Game) (valid : IsValid g) (box : Box) (declared : is_box_of g box ≡ true) (full : has_empty box ≡ false) where
  one_apart : (c : Rule) → Among c g.constraints → entailed_by c box ≡ true → refuted_by c box ≡ false
  one_apart c m h =
      let w = box_values box in
      let at = among_get g.constraints c m in
      let lie = least_lie box (declared_box g) declared full in
      let sees = visible g valid at.0 c w at.1 lie.1 in
      let inside = lies_in_box w box lie.0 in
      let wide = lies_in_box w (declared_box g) lie.1 in
      false_from_ne_true (refuted_by c box) (λ r. valid_table_sound g valid at.0 c box w at.1 sees wide r inside (entailed_holds g valid at.0 c w box at.1 sees wide inside h))

  pub entailed_apart : (i : ℕ) → all_hold (restriction g i) box ≡ true → some_fails (restriction g i) box ≡ false
  entailed_apart i h = none_fails box (restriction g i) (λ c m. one_apart c (of_filter (λ (x : Rule). x.owner.0 == i) c g.constraints m).0) h

-- what the goal comes to where the box entails it
pub goal_holds : (g : Game) (i : ℕ) (box : Box) (s : Setting) (p : Place) → IsValid g → IsFull g box → all_hold (restriction g i) box ≡ true → s.game ≡ g → p.number ≡ i → p.box ≡ box → goal_comes_to s p ≡ goal_of p g Holds
goal_holds g i box s p valid full h game number at =
    subst (λ x. goal_comes_to s p ≡ goal_of p x Holds) game
    (by (some_fails (restriction s.game p.number) p.box) (all_hold (restriction s.game p.number) p.box) lost (goal_of p s.game Holds) unknown
    (here (λ x k b. some_fails (restriction x k) b ≡ false) (entailed_apart g valid box full.declared full.full i h)) (here (λ x k b. all_hold (restriction x k) b ≡ true) h))
  where
    by : (fails holds : Bool) (a b c : Verdict) → fails ≡ false → holds ≡ true → cond fails a (cond holds b c) ≡ b
    by true holds a b c e f = cc
    by false true a b c e f = refl
    by false false a b c e f = cc

    here : (P : Game → ℕ → Box → Type 0) → P g i box → P s.game p.number p.box
    here P q = subst (λ x. P x p.number p.box) (sym game) (subst (λ k. P g k p.box) (sym number) (subst (λ b. P g i b) (sym at) q))
