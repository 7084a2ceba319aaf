-- Variables with which the winner may answer.
use Rattle.std.proofs.Common.{◌≡◌, ◌∙◌, ℕ, suc, Bool, true, false, ◌&&◌, refl, sym, ap, Option, Some, None, slice_get, arith}
use Rattle.std.specs.Prelude.{max, nat_le}
use Rattle.std.proofs.Math.Path.{fun_ext}
use Rattle.std.proofs.lemmas.Bool.Decides.{nat_tests}
use Rattle.qc_model.specs.declared.problem.Kind.{Kind}
use Rattle.qc_model.specs.declared.problem.Variable.{Variable}
use Rattle.qc_model.specs.Content.{Game}
use Rattle.qc_model.specs.Counter.{opposite}
use Rattle.lemma_list.specs.Lemmas.{Lemma}
use Rattle.lemma_list.specs.Places.{is_kind, side_at, of_its_scope, is_chosen_from, place, is_winners, is_answer}
use Rattle.lemma_list.specs.InPlace.{no_answer}

later_of_two : (a b j : ℕ) → nat_le (max a b) j ≡ (nat_le a j && nat_le b j)
later_of_two a b j = grind (arith, nat_tests)

both_once : (k a b : Bool) → ((k && a) && (k && b)) ≡ (k && (a && b))
both_once true a b = refl
both_once false a b = refl

-- from the later of two scopes on
from_later : (k : Kind) (g : Game) (a b y : ℕ) → is_chosen_from k g (max a b) y ≡ (is_chosen_from k g a y && is_chosen_from k g b y)
from_later k g a b y = by (slice_get g.variables y)
  where
    by : (v : Option Variable) → of_its_scope (λ j. is_kind k (side_at g j) && nat_le (max a b) j) v ≡ (of_its_scope (λ j. is_kind k (side_at g j) && nat_le a j) v && of_its_scope (λ j. is_kind k (side_at g j) && nat_le b j) v)
    by None = refl
    by (Some v) =
        let j = v.scope.0 in
        let w = is_kind k (side_at g j) in
        ap (λ b. w && b) (later_of_two a b j) ∙ sym (both_once w (nat_le a j) (nat_le b j))

none_of_none : (b : Bool) → false ≡ (b && false)
none_of_none true = refl
none_of_none false = refl

pub nobody : (g : Game) (m : Lemma) (x : ℕ) → slice_get g.variables x ≡ None → no_answer ≡ is_answer g m x
nobody g m x e =
    fun_ext (λ y. none_of_none (is_winners g m y) ∙ ap (λ v. is_winners g m y && of_its_scope (λ i. is_chosen_from (opposite m.loser) g (suc i) y) v) (sym e))

pub those_after : (g : Game) (m : Lemma) (x n : ℕ) (v : Variable) → slice_get g.variables x ≡ Some v → n ≡ max (place g m) (suc v.scope.0) → is_chosen_from (opposite m.loser) g n ≡ is_answer g m x
those_after g m x n v e f =
    fun_ext (λ y. ap (λ i. is_chosen_from (opposite m.loser) g i y) f ∙ (from_later (opposite m.loser) g (place g m) (suc v.scope.0) y
    ∙ ap (λ w. is_winners g m y && of_its_scope (λ i. is_chosen_from (opposite m.loser) g (suc i) y) w) (sym e)))
