-- What steps do in two boxes that leave the same to each variable that is wanted.
use Rattle.std.proofs.Common.{◌≡◌, ℕ, Bool, true, false, not, List, ◌∷◌, length, set, refl, sym, ap, ◌∙◌, subst, ℤ, Option, Some, None}
use Rattle.std.specs.List.{list_all}
use Rattle.std.proofs.lemmas.List.{length-set}
use Rattle.std.proofs.lemmas.Bool.{not_from_false, and_parts, and_from}
use Rattle.qc_model.specs.declared.problem.VarId.{VarId}
use Rattle.qc_model.specs.Content.{Rule}
use Rattle.qc_model.specs.Domains.{Values, Box, values_left, values_within, values_outside, box_within, box_without, is_none_left, has_empty}
use Rattle.qc_model.specs.Meaning.{meaning_of}
use Rattle.qc_model.specs.Refuted.{refuted_by, refuted_as, left_to}
use Rattle.qc_model.specs.Block.{is_owned_within}
use Rattle.model_arguments.proofs.Bools.{not_false, clash}
use Rattle.proof_tree.specs.declared.tree.Step.{Step}
use Rattle.proof_tree.specs.declared.tree.Step.TheVariants.{Bound}
use Rattle.proof_tree.specs.Place.{Tracked}
use Rattle.proof_tree.specs.Steps.{after_step, removes_some, is_refuted_within, best_value, step_marks}
use Rattle.search_trim.specs.Slice.{is_wanted, rule_variables}
use Rattle.search_trim.proofs.Filling.{fill_all}
use Rattle.search_trim.proofs.Boxes.{set_both, set_other, set_full, was_full, all_full}

-- b leaves to each variable that is wanted what a does, and some value to each to which a does
pub record Follows (marks : List Bool) (a b : Box) : Type 0 where
  pub size : length a ≡ length b
  pub same : (x : ℕ) → is_wanted marks x ≡ true → values_left a x ≡ values_left b x
  pub full : (x : ℕ) → is_none_left (values_left a x) ≡ false → is_none_left (values_left b x) ≡ false

pub follows_itself : (marks : List Bool) (a : Box) → Follows marks a a
follows_itself marks a = record { size = refl; same = λ x e. refl; full = λ x e. e }

-- where fewer are wanted
pub follows_less : (more marks : List Bool) (a b : Box) → ((x : ℕ) → is_wanted marks x ≡ true → is_wanted more x ≡ true) → Follows more a b → Follows marks a b
follows_less more marks a b k f = record { size = f.size; same = λ x e. f.same x (k x e); full = f.full }

-- x is given a domain in and_parts
follows_set : (marks : List Bool) (a b : Box) (x : ℕ) (us : Values) → Follows marks a b → Follows marks (set a x us) (set b x us)
follows_set marks a b x us f = record {
  size = length-set a x us ∙ f.size ∙ sym (length-set b x us);
  same = λ y e. set_both a b x y us f.size (f.same y e);
  full = λ y e. set_full a b x y us f.size (f.full y) e;
}

pub follows_without : (marks : List Bool) (a b : Box) (x : ℕ) (low high : ℤ) → values_left a x ≡ values_left b x → Follows marks a b → Follows marks (box_without a x low high) (box_without b x low high)
follows_without marks a b x low high e f =
    subst (λ vs. Follows marks (box_without a x low high) (set b x (values_outside low high vs))) e
    (follows_set marks a b x (values_outside low high (values_left a x)) f)

follows_within : (marks : List Bool) (a b : Box) (x : ℕ) (low high : ℤ) → values_left a x ≡ values_left b x → Follows marks a b → Follows marks (box_within a x low high) (box_within b x low high)
follows_within marks a b x low high e f =
    subst (λ vs. Follows marks (box_within a x low high) (set b x (values_within low high vs))) e
    (follows_set marks a b x (values_within low high (values_left a x)) f)

-- a variable that isn't wanted loses values in the first box alone
pub follows_skip : (marks : List Bool) (a b : Box) (x : ℕ) (low high : ℤ) → is_wanted marks x ≡ false → Follows marks a b → Follows marks (box_without a x low high) b
follows_skip marks a b x low high n f = record {
  size = length-set a x (values_outside low high (values_left a x)) ∙ f.size;
  same = λ y e. set_other a x y (values_outside low high (values_left a x)) (λ q. clash (is_wanted marks y) e (ap (is_wanted marks) (sym q) ∙ n)) ∙ f.same y e;
  full = λ y e. f.full y (was_full a x y (values_left a x) low high refl e);
}

pub removes_too : (marks : List Bool) (a b : Box) (x : ℕ) (low high : ℤ) → values_left a x ≡ values_left b x → Follows marks a b → removes_some a x low high ≡ true → removes_some b x low high ≡ true
removes_too marks a b x low high e f h =
    let p = and_parts (not (has_empty a)) (not (is_none_left (values_within low high (values_left a x)))) h in
    and_from (not (has_empty b)) (not (is_none_left (values_within low high (values_left b x))))
    (not_from_false (has_empty b) (all_full a b f.size f.full (not_false (has_empty a) p.0)))
    (sym (ap (λ vs. not (is_none_left (values_within low high vs))) e) ∙ p.1)

-- a constraint whose variables are all wanted
refuted_same : (marks : List Bool) (a b : Box) (c : Rule) → list_all (is_wanted marks) (rule_variables (Some c)) ≡ true → Follows marks a b → refuted_by c a ≡ refuted_by c b
refuted_same marks a b c w f = ap (refuted_as (meaning_of c.pred)) (fill_all (left_to a) (left_to b) (is_wanted marks) (λ n. refl) (λ x e. f.same x.0 e) c.args w)

pub refutes_too : (i stop : ℕ) (marks : List Bool) (o : Option Rule) (a b : Box) (x : ℕ) (low high : ℤ) → list_all (is_wanted marks) (rule_variables o) ≡ true → values_left a x ≡ values_left b x → Follows marks a b →
    is_refuted_within i stop o (box_within a x low high) ≡ true → is_refuted_within i stop o (box_within b x low high) ≡ true
refutes_too i stop marks None a b x low high w e f h = h
refutes_too i stop marks (Some c) a b x low high w e f h =
    let p = and_parts (is_owned_within i stop c) (refuted_by c (box_within a x low high)) h in
    and_from (is_owned_within i stop c) (refuted_by c (box_within b x low high)) p.0
    (sym (refuted_same marks (box_within a x low high) (box_within b x low high) c w (follows_within marks a b x low high e f)) ∙ p.1)

-- the mark of a bound that stays
pub bound_mark : (t : Option Tracked) (x : VarId) (low high : ℤ) (steps less : List Step) (a b : Box) → values_left a x.0 ≡ values_left b x.0 →
    step_marks t less (after_step (Bound x low high) b) ≡ step_marks t steps (after_step (Bound x low high) a) → step_marks t (Bound x low high ∷ less) b ≡ step_marks t (Bound x low high ∷ steps) a
bound_mark None x low high steps less a b e m = m
bound_mark (Some t) x low high steps less a b e m =
    ap (λ vs. best_value t.sense (values_within low high vs) ∷ step_marks (Some t) less (after_step (Bound x low high) b)) (sym e)
    ∙ ap (λ ms. best_value t.sense (values_within low high (values_left a x.0)) ∷ ms) m
