-- What a reason shows, test by test.
use Rattle.std.proofs.Common.{◌≡◌, ◌∙◌, ◌≤◌, ◌<◌, ℕ, suc, Bool, true, false, ◌&&◌, ◌||◌, refl, sym, ap, Some, List, arith}
use Rattle.std.specs.Prelude.{nat_le, is_some}
use Rattle.std.specs.List.{list_all}
use Rattle.std.proofs.lemmas.Bool.Decides.{nat_tests}
use Rattle.qc_model.specs.declared.problem.Pred.{Pred}
use Rattle.qc_model.specs.declared.problem.Pred.TheVariants.{IntLe, IntLt, IntLinEq, IntLinLe, IntPlus, BoolLe, BoolLt}
use Rattle.qc_model.specs.declared.problem.Variable.{Variable}
use Rattle.qc_model.specs.Content.{Game, Rule}
use Rattle.qc_model.specs.Domains.{Box}
use Rattle.qc_model.specs.Meaning.{meaning_of}
use Rattle.qc_model.specs.Valid.{is_constraint}
use Rattle.lemma_list.specs.Lemmas.{Lemma}
use Rattle.lemma_list.specs.Places.{is_kind, side_at, place}
use Rattle.lemma_list.specs.Sums.{linear_as, linear_of, last_scope, is_refuted, is_sum_shown}
use Rattle.lemma_list.specs.Reasons.{is_falsified, is_met, rule_shows, lemma_shows}
use Rattle.lemma_reasons.specs.Steps.{is_sum}
use Rattle.lemma_reasons.proofs.Shapes.{of_lin_eq, of_lin_le, of_int_le, of_int_lt, of_bool_le, of_bool_lt, of_plus}

not_le : (x y : ℕ) → y < x → nat_le x y ≡ false
not_le x y h = grind (arith, nat_tests)

le_is : (x y : ℕ) → x ≤ y → nat_le x y ≡ true
le_is x y h = grind (arith, nat_tests)

module _ (g : Game) (m : Lemma) (answers : ℕ → Bool) (box : Box) where
  module _ (k : ℕ) (c : Rule) where
    pub not_losers : is_kind m.loser (side_at g c.owner.0) ≡ false → false ≡ rule_shows g m answers box k (Some c)
    not_losers e = ap (λ z. (z && nat_le (place g m) (suc c.owner.0)) && (is_refuted g m k c box || is_falsified answers c box)) (sym e)

    pub too_early : suc c.owner.0 < place g m → false ≡ rule_shows g m answers box k (Some c)
    too_early h = none (is_kind m.loser (side_at g c.owner.0)) (is_refuted g m k c box || is_falsified answers c box) ∙ ap (λ z. (is_kind m.loser (side_at g c.owner.0) && z) && (is_refuted g m k c box || is_falsified answers c box)) (sym (not_le (place g m) (suc c.owner.0) h))
      where
        none : (a b : Bool) → false ≡ ((a && false) && b)
        none true b = refl
        none false b = refl

    pub losers_rule : (r : Bool) → is_kind m.loser (side_at g c.owner.0) ≡ true → place g m ≤ suc c.owner.0 → r ≡ (is_refuted g m k c box || is_falsified answers c box) → r ≡ rule_shows g m answers box k (Some c)
    losers_rule r e h f =
        f ∙ (ap (λ z. (true && z) && (is_refuted g m k c box || is_falsified answers c box)) (sym (le_is (place g m) (suc c.owner.0) h))
        ∙ ap (λ z. (z && nat_le (place g m) (suc c.owner.0)) && (is_refuted g m k c box || is_falsified answers c box)) (sym e))

  module _ (n : Lemma) where
    abbrev met : Bool
    met = list_all (is_met answers n.literals box) n.literals

    abbrev shown : Bool
    shown = list_all (is_sum_shown g m (last_scope g n) box) n.sums

    pub other_side : is_kind m.loser n.loser ≡ false → false ≡ lemma_shows g m answers box (Some n)
    other_side e = ap (λ z. ((z && nat_le (place g m) (place g n)) && met) && shown) (sym e)

    pub earlier_place : place g n < place g m → false ≡ lemma_shows g m answers box (Some n)
    earlier_place h = none (is_kind m.loser n.loser) met shown ∙ ap (λ z. ((is_kind m.loser n.loser && z) && met) && shown) (sym (not_le (place g m) (place g n) h))
      where
        none : (a b c : Bool) → false ≡ (((a && false) && b) && c)
        none true b c = refl
        none false b c = refl

    pub later_lemma : (r : Bool) → is_kind m.loser n.loser ≡ true → place g m ≤ place g n → r ≡ (list_all (is_met answers n.literals box) n.literals && list_all (is_sum_shown g m (last_scope g n) box) n.sums) → r ≡ lemma_shows g m answers box (Some n)
    later_lemma r e h f =
        f ∙ (ap (λ z. ((true && z) && met) && shown) (sym (le_is (place g m) (place g n) h))
        ∙ ap (λ z. ((z && nat_le (place g m) (place g n)) && met) && shown) (sym e))

pub sum_is_linear : (xs : List Variable) (c : Rule) → is_constraint xs c ≡ true → is_sum c.pred ≡ is_some (linear_of c)
sum_is_linear xs c h = by c.pred refl
  where
    by : (p : Pred) → c.pred ≡ p → is_sum p ≡ is_some (linear_of c)
    by IntLinEq e = sym (ap is_some (of_lin_eq xs c e h))
    by IntLinLe e = sym (ap is_some (of_lin_le xs c e h))
    by IntLe e = sym (ap is_some (of_int_le xs c e h))
    by BoolLe e = sym (ap is_some (of_bool_le xs c e h))
    by IntLt e = sym (ap is_some (of_int_lt xs c e h))
    by BoolLt e = sym (ap is_some (of_bool_lt xs c e h))
    by IntPlus e = sym (ap is_some (of_plus xs c e h))
    by p e = sym (ap (λ (q : Pred). is_some (linear_as (meaning_of q) c.args)) e)
