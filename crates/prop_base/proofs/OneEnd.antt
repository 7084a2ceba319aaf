-- An end of a domain as a range of one value.
use Rattle.std.proofs.Common.{◌≡◌, ◌<◌, true, false, length, sym, subst, arith, ℤ}
use Rattle.std.specs.Prelude.{◌≤ℤ◌}
use Rattle.std.specs.List.{list_all}
use Rattle.std.proofs.lemmas.Int.{ints}
use Rattle.qc_model.specs.declared.problem.VarId.{VarId}
use Rattle.qc_model.specs.Content.{Game, Rule}
use Rattle.qc_model.specs.Domains.{Box, declared_box, values_left, values_within, is_none_left, has_value, box_within, least_value, greatest_value}
use Rattle.qc_model.specs.Refuted.{refuted_by}
use Rattle.qc_model.specs.Valid.{is_number, is_domain}
use Rattle.model_arguments.specs.Asked.{IsAsked}
use Rattle.model_arguments.proofs.Boxes.{some_left, sub_ascending, value_small}
use Rattle.model_arguments.proofs.Values.{has_least, has_greatest}
use Rattle.model_arguments.proofs.Kept.{ordered}
use Rattle.prop_base.specs.Closed.{IsCut}
use Rattle.prop_base.proofs.Keeps.{stays}

-- what is known of x, of which v is read as an end
pub record IsEnd (g : Game) (r : Rule) (box : Box) (x : VarId) (v : ℤ) : Type 0 where
  pub asked : IsAsked g r box
  pub domains : list_all (λ y. is_domain y.domain) g.variables ≡ true
  pub place : x.0 < length box
  pub left : has_value (values_left box x.0) v ≡ true

pub least_end : (g : Game) (r : Rule) (box : Box) (x : VarId) (v : ℤ) → IsAsked g r box → list_all (λ y. is_domain y.domain) g.variables ≡ true → x.0 < length box → v ≡ least_value (values_left box x.0) →
    IsEnd g r box x v
least_end g r box x v p d k e = record {
  asked = p;
  domains = d;
  place = k;
  left = subst (λ z. has_value (values_left box x.0) z ≡ true) (sym e) (has_least (values_left box x.0) (some_left box x.0 p.full k));
}

pub greatest_end : (g : Game) (r : Rule) (box : Box) (x : VarId) (v : ℤ) → IsAsked g r box → list_all (λ y. is_domain y.domain) g.variables ≡ true → x.0 < length box → v ≡ greatest_value (values_left box x.0) →
    IsEnd g r box x v
greatest_end g r box x v p d k e = record {
  asked = p;
  domains = d;
  place = k;
  left = subst (λ z. has_value (values_left box x.0) z ≡ true) (sym e) (has_greatest (values_left box x.0) (some_left box x.0 p.full k));
}

pub ends_ordered : (g : Game) (r : Rule) (box : Box) (x : VarId) (v w : ℤ) → IsAsked g r box → x.0 < length box → v ≡ least_value (values_left box x.0) → w ≡ greatest_value (values_left box x.0) → v ≤ℤ w
ends_ordered g r box x v w p k e f = omega (arith, ints, ordered (values_left box x.0) (some_left box x.0 p.full k), e, f)

pub end_stays : (g : Game) (r : Rule) (box : Box) (x : VarId) (v : ℤ) → IsEnd g r box x v → is_none_left (values_within v v (values_left box x.0)) ≡ false
end_stays g r box x v p = stays (values_left box x.0) v (sub_ascending box (declared_box g) x.0 p.asked.declared) p.left

pub end_small : (g : Game) (r : Rule) (box : Box) (x : VarId) (v : ℤ) → IsEnd g r box x v → is_number v ≡ true
end_small g r box x v p = value_small g box x.0 v p.domains p.asked.declared p.left

pub end_goes : (g : Game) (r : Rule) (box : Box) (x : VarId) (v : ℤ) → IsEnd g r box x v → refuted_by r (box_within box x.0 v v) ≡ true → IsCut r box (record { x = x; lo = v; hi = v })
end_goes g r box x v p f = record {
  x = p.place;
  low = end_small g r box x v p;
  high = end_small g r box x v p;
  some = end_stays g r box x v p;
  refuted = f;
}
