-- A constraint whose last argument can tell both.
use Rattle.std.proofs.Common.{◌≡◌, ◌≢◌, ℕ, zero, suc, ◌<◌, Bool, true, false, not, ◌&&◌, List, [], ◌∷◌, ◌++◌, length, set, refl, sym, ap, ◌∙◌, subst, arith, ℤ, length-append}
use Rattle.std.specs.Prelude.{pos, ◌==◌}
use Rattle.std.specs.List.{list_all}
use Rattle.std.proofs.lemmas.List.{get_or-set_same, get_or-set_other}
use Rattle.std.proofs.lemmas.Bool.Decides.{nat_tests}
use Rattle.std.proofs.lemmas.Bool.{not_from_false, and_from}
use Rattle.qc_model.specs.declared.problem.VarId.{VarId}
use Rattle.qc_model.specs.declared.problem.Arg.TheVariants.{Var}
use Rattle.qc_model.specs.Arguments.{variables_of}
use Rattle.qc_model.specs.Closed.{refutes_at, keeps_ends}
use Rattle.qc_model.specs.Content.{Rule}
use Rattle.qc_model.specs.Domains.{Values, Box, values_left, values_within, values_outside, box_at, box_within, box_without, is_none_left, is_single, has_empty, least_value, greatest_value}
use Rattle.qc_model.specs.Refuted.{refuted_by}
use Rattle.qc_model.specs.Valid.{is_number}
use Rattle.model_arguments.proofs.Boxes.{set_full}
use Rattle.proof_tree.specs.declared.tree.Step.{Step}
use Rattle.prop_base.specs.declared.answer.Filtered.{Filtered}
use Rattle.prop_base.specs.declared.answer.Filtered.TheVariants.{Emptied, Stable, Changed}
use Rattle.prop_base.specs.declared.cuts.Cut.{Cut}
use Rattle.prop_base.specs.Closed.{IsCut}
use Rattle.prop_base.specs.Pruning.{IsFiltered}
use Rattle.prop_compare.specs.Telling.{truth_of}
use Rattle.prop_compare.specs.Untold.{RefutesNone, IsGrown, after}
use Rattle.prop_compare.proofs.Told.{one_within, one_without, small_truth}

-- a variable that has both truth values left is one of the box
pub place : (box : Box) (x : ℕ) → values_left box x ≡ pos 0 ∷ pos 1 ∷ [] → x < length box
place [] x h = cc
place (vs ∷ box) zero h = omega arith
place (vs ∷ box) (suc x) h = omega (arith, place box x h)

-- one of both truth values is kept, and lost
pub truth_kept : (box : Box) (x : ℕ) (t : Bool) → values_left box x ≡ pos 0 ∷ pos 1 ∷ [] → box_within box x (truth_of t) (truth_of t) ≡ box_at box x (truth_of t)
truth_kept box x t h = ap (set box x) (ap (values_within (truth_of t) (truth_of t)) h ∙ one_within t)

truth_gone : (box : Box) (x : ℕ) (t : Bool) → values_left box x ≡ pos 0 ∷ pos 1 ∷ [] → box_without box x (truth_of t) (truth_of t) ≡ box_at box x (truth_of (not t))
truth_gone box x t h = ap (set box x) (ap (values_outside (truth_of t) (truth_of t)) h ∙ one_without t)

pub cut_kept : (box : Box) (x : VarId) (t : Bool) (cut : Cut) → values_left box x.0 ≡ pos 0 ∷ pos 1 ∷ [] → cut ≡ record { x = x; lo = truth_of t; hi = truth_of t } → box_within box cut.x.0 cut.lo cut.hi ≡ box_at box x.0 (truth_of t)
cut_kept box x t cut h q = ap (λ (z : Cut). box_within box z.x.0 z.lo z.hi) q ∙ truth_kept box x.0 t h

pub cut_place : (box : Box) (x : VarId) (t : Bool) (cut : Cut) → values_left box x.0 ≡ pos 0 ∷ pos 1 ∷ [] → cut ≡ record { x = x; lo = truth_of t; hi = truth_of t } → cut.x.0 < length box
cut_place box x t cut h q = subst (λ (z : Cut). z.x.0 < length box) (sym q) (place box x.0 h)

pub cut_some : (box : Box) (x : VarId) (t : Bool) (cut : Cut) → values_left box x.0 ≡ pos 0 ∷ pos 1 ∷ [] → cut ≡ record { x = x; lo = truth_of t; hi = truth_of t } → is_none_left (values_within cut.lo cut.hi (values_left box cut.x.0)) ≡ false
cut_some box x t cut h q =
    ap (λ (z : Cut). is_none_left (values_within z.lo z.hi (values_left box z.x.0))) q
    ∙ ap is_none_left (ap (values_within (truth_of t) (truth_of t)) h ∙ one_within t)

pub can_go : (c : Rule) (box : Box) (x : VarId) (t : Bool) (cut : Cut) → values_left box x.0 ≡ pos 0 ∷ pos 1 ∷ [] → refuted_by c (box_at box x.0 (truth_of t)) ≡ true → cut ≡ record { x = x; lo = truth_of t; hi = truth_of t } → IsCut c box cut
can_go c box x t cut h r q = record {
  x = cut_place box x t cut h q;
  low = ap (λ (z : Cut). is_number z.lo) q ∙ small_truth t;
  high = ap (λ (z : Cut). is_number z.hi) q ∙ small_truth t;
  some = cut_some box x t cut h q;
  refuted = ap (refuted_by c) (cut_kept box x t cut h q) ∙ r;
}

pub still_full : (box new : Box) (x : VarId) (t : Bool) (cut : Cut) → has_empty box ≡ false → values_left box x.0 ≡ pos 0 ∷ pos 1 ∷ [] → cut ≡ record { x = x; lo = truth_of t; hi = truth_of t } → new ≡ box_without box cut.x.0 cut.lo cut.hi → has_empty new ≡ false
still_full box new x t cut f h q n =
    ap has_empty (n ∙ (ap (λ (z : Cut). box_without box z.x.0 z.lo z.hi) q ∙ truth_gone box x.0 t h))
    ∙ set_full box x.0 (truth_of (not t) ∷ []) f refl

-- no end is refuted where none of both is
all_pass : (p : ℕ → Bool) (ys : List ℕ) → ((y : ℕ) → p y ≡ true) → list_all p ys ≡ true
all_pass p [] f = refl
all_pass p (y ∷ ys) f = and_from (p y) (list_all p ys) (f y) (all_pass p ys f)

length_set : (box : Box) (y : ℕ) (d : Values) → length (set box y d) ≡ length box
length_set [] y d = refl
length_set (vs ∷ box) zero d = refl
length_set (vs ∷ box) (suc y) d = ap suc (length_set box y d)

same_or_not : (y x : ℕ) → (P : Type 0) → (y ≡ x → P) → (y ≢ x → P) → P
same_or_not y x P f g = by (y == x) refl
  where
    yes : (y == x) ≡ true → y ≡ x
    yes h = grind (arith, nat_tests)

    no : (y == x) ≡ false → y ≢ x
    no h = grind (arith, nat_tests)

    by : (b : Bool) → (y == x) ≡ b → P
    by true h = f (yes h)
    by false h = g (no h)

pub untold_keeps : (c : Rule) (box : Box) (x : VarId) → has_empty box ≡ false → values_left box x.0 ≡ pos 0 ∷ pos 1 ∷ [] → RefutesNone c box (Var x) → refuted_by c (box_at box x.0 (truth_of true)) ≡ false → refuted_by c (box_at box x.0 (truth_of false)) ≡ false → keeps_ends box c ≡ true
untold_keeps c box x f b none p q = all_pass (λ y. not (refutes_at c box y (least_value (values_left box y))) && not (refutes_at c box y (greatest_value (values_left box y)))) (variables_of c.args) each
  where
    other : (y : ℕ) (v : ℤ) → y ≢ x.0 → refutes_at c box y v ≡ false
    other y v h = none (box_at box y v) (length_set box y (v ∷ [])) (set_full box y (v ∷ []) f refl) (get_or-set_other box y x.0 (v ∷ []) [] (λ e. h (sym e)) ∙ b)

    each : (y : ℕ) → (not (refutes_at c box y (least_value (values_left box y))) && not (refutes_at c box y (greatest_value (values_left box y)))) ≡ true
    each y =
        let l = least_value (values_left box y) in
        let g = greatest_value (values_left box y) in
        and_from (not (refutes_at c box y l)) (not (refutes_at c box y g))
        (not_from_false (refutes_at c box y l) (same_or_not y x.0 (refutes_at c box y l ≡ false) (λ e. ap (λ z. refutes_at c box z (least_value (values_left box z))) e ∙ (ap (λ d. refutes_at c box x.0 (least_value d)) b ∙ q)) (other y l)))
        (not_from_false (refutes_at c box y g) (same_or_not y x.0 (refutes_at c box y g ≡ false) (λ e. ap (λ z. refutes_at c box z (greatest_value (values_left box z))) e ∙ (ap (λ d. refutes_at c box x.0 (greatest_value d)) b ∙ p)) (other y g)))

-- one truth value is left
pub told_single : (box new : Box) (x : VarId) (t : Bool) (cut : Cut) → values_left box x.0 ≡ pos 0 ∷ pos 1 ∷ [] → cut ≡ record { x = x; lo = truth_of t; hi = truth_of t } → new ≡ box_without box cut.x.0 cut.lo cut.hi → is_single (values_left new x.0) ≡ true
told_single box new x t cut h q n =
    ap (λ b. is_single (values_left b x.0)) (n ∙ (ap (λ (z : Cut). box_without box z.x.0 z.lo z.hi) q ∙ truth_gone box x.0 t h))
    ∙ ap is_single (get_or-set_same box x.0 (truth_of (not t) ∷ []) [] (place box x.0 h))

-- steps of two calls
pub joined_filtered : (c : Rule) (box : Box) (a b d more : List Step) (t : Bool) (f g : Filtered) → IsGrown t a b → d ≡ b ++ more → IsFiltered f c box b d → g ≡ after t f → IsFiltered g c box a d
joined_filtered c box a b d more true f g l e h q = subst (λ z. IsFiltered z c box a d) (sym q) (by f h)
  where
    longer : d ≡ a → ⊥
    longer s = omega (arith, l.0 refl, ap length e, ap length s, length-append b more)

    by : (f : Filtered) → IsFiltered f c box b d → IsFiltered (after true f) c box a d
    by Emptied h = h
    by Stable h = (h.0, longer, h.2)
    by Changed h = (h.0, longer, h.2)
joined_filtered c box a b d more false f g l e h q = subst (λ z. IsFiltered z c box a d) (sym q) (subst (λ z. IsFiltered f c box z d) (l.1 refl) h)
