-- What the constraints of a span tell of a removal.
use Rattle.std.proofs.Common.{◌≡◌, ℕ, zero, suc, ◌<◌, ◌≤◌, Bool, true, false, not, ◌&&◌, List, [], ◌∷◌, refl, sym, ap, ◌∙◌, subst, arith, ℤ, Some, None, Option}
use Rattle.std.specs.Prelude.{slice_get}
use Rattle.std.specs.List.{list_all}
use Rattle.std.proofs.lemmas.Bool.Decides.{nat_tests}
use Rattle.qc_model.specs.declared.problem.VarId.{VarId}
use Rattle.qc_model.specs.declared.problem.ConId.{ConId}
use Rattle.qc_model.specs.Content.{Game, Rule}
use Rattle.qc_model.specs.Domains.{Box, values_left, values_within, box_within, is_none_left, has_empty}
use Rattle.qc_model.specs.Refuted.{refuted_by}
use Rattle.qc_model.specs.Valid.{is_constraint}
use Rattle.qc_model.proofs.Readable.{first, second}
use Rattle.model_arguments.specs.Asked.{IsAsked, is_box_of}
use Rattle.model_levels.specs.Spans.{IsSpanOf, is_between, is_rule_within}
use Rattle.proof_tree.specs.Steps.{removes_some, is_refuted_within}

pub all_at : {X : Type 0} (p : X → Bool) (xs : List X) (n : ℕ) (x : X) → list_all p xs ≡ true → slice_get xs n ≡ Some x → p x ≡ true
all_at p [] n x h e = cc
all_at p (y ∷ xs) zero x h e = let k : y ≡ x = cc in subst (λ z. p z ≡ true) k (first (p y) (list_all p xs) h)
all_at p (y ∷ xs) (suc n) x h e = all_at p xs n x (second (p y) (list_all p xs) h) e

-- the question that the refuter is asked
pub asked : (g : Game) (box : Box) (c : ℕ) (rule : Rule) → list_all (is_constraint g.variables) g.constraints ≡ true → is_box_of g box ≡ true → has_empty box ≡ false → slice_get g.constraints c ≡ Some rule → IsAsked g rule box
asked g box c rule valid declared full e = record { rule = all_at (is_constraint g.variables) g.constraints c rule valid e; declared = declared; full = full }

pub legal_is : (g : Game) (box : Box) (start end i stop : ℕ) (x : VarId) (lo hi : ℤ) (c : ConId) (r : Bool) → IsSpanOf g i stop start end → has_empty box ≡ false →
    not (is_none_left (values_within lo hi (values_left box x.0))) ≡ true → start ≤ c.0 → c.0 < end → ((rule : Rule) → slice_get g.constraints c.0 ≡ Some rule → r ≡ refuted_by rule (box_within box x.0 lo hi)) →
    r ≡ (removes_some box x.0 lo hi && is_refuted_within i stop (slice_get g.constraints c.0) (box_within box x.0 lo hi))
legal_is g box start end i stop x lo hi c r span full some low high says =
    by (slice_get g.constraints c.0) refl (sym (span.numbers c.0) ∙ inside start end c.0 low high)
    ∙ sym (ap (λ b. b && is_refuted_within i stop (slice_get g.constraints c.0) (box_within box x.0 lo hi)) (ap (λ b. not b && not (is_none_left (values_within lo hi (values_left box x.0)))) full ∙ some))
  where
    inside : (start end k : ℕ) → start ≤ k → k < end → is_between start end k ≡ true
    inside start end k h l = grind (arith, nat_tests)

    by : (o : Option Rule) → slice_get g.constraints c.0 ≡ o → is_rule_within i stop (slice_get g.constraints c.0) ≡ true → r ≡ is_refuted_within i stop (slice_get g.constraints c.0) (box_within box x.0 lo hi)
    by None e k = let p : false ≡ true = sym (ap (is_rule_within i stop) e) ∙ k in cc
    by (Some rule) e k =
        says rule e
        ∙ sym (ap (λ o. is_refuted_within i stop o (box_within box x.0 lo hi)) e ∙ ap (λ b. b && refuted_by rule (box_within box x.0 lo hi)) (sym (ap (is_rule_within i stop) e) ∙ k))

-- a removal from a box in which a variable has no value isn't legal
pub empty_illegal : (g : Game) (box : Box) (i stop : ℕ) (x : VarId) (lo hi : ℤ) (c : ConId) → has_empty box ≡ true → false ≡ (removes_some box x.0 lo hi && is_refuted_within i stop (slice_get g.constraints c.0) (box_within box x.0 lo hi))
empty_illegal g box i stop x lo hi c e = sym (ap (λ b. (not b && not (is_none_left (values_within lo hi (values_left box x.0)))) && is_refuted_within i stop (slice_get g.constraints c.0) (box_within box x.0 lo hi)) e)

-- nor is one of no values
pub none_illegal : (g : Game) (box : Box) (i stop : ℕ) (x : VarId) (lo hi : ℤ) (c : ConId) → not (is_none_left (values_within lo hi (values_left box x.0))) ≡ false → false ≡ (removes_some box x.0 lo hi && is_refuted_within i stop (slice_get g.constraints c.0) (box_within box x.0 lo hi))
none_illegal g box i stop x lo hi c e = sym (ap (λ b. (not (has_empty box) && b) && is_refuted_within i stop (slice_get g.constraints c.0) (box_within box x.0 lo hi)) e ∙ by (has_empty box))
  where
    by : (b : Bool) → ((not b && false) && is_refuted_within i stop (slice_get g.constraints c.0) (box_within box x.0 lo hi)) ≡ false
    by true = refl
    by false = refl

-- nor one by a constraint that isn't in the span
pub outside_illegal : (g : Game) (box : Box) (start end i stop : ℕ) (x : VarId) (lo hi : ℤ) (c : ConId) → IsSpanOf g i stop start end → is_between start end c.0 ≡ false → false ≡ (removes_some box x.0 lo hi && is_refuted_within i stop (slice_get g.constraints c.0) (box_within box x.0 lo hi))
outside_illegal g box start end i stop x lo hi c span e =
    sym (ap (λ b. removes_some box x.0 lo hi && b) (by (slice_get g.constraints c.0) (sym (span.numbers c.0) ∙ e)) ∙ and_false (removes_some box x.0 lo hi))
  where
    by : (o : Option Rule) → is_rule_within i stop o ≡ false → is_refuted_within i stop o (box_within box x.0 lo hi) ≡ false
    by None e = refl
    by (Some rule) e = ap (λ b. b && refuted_by rule (box_within box x.0 lo hi)) e

    and_false : (b : Bool) → (b && false) ≡ false
    and_false true = refl
    and_false false = refl

-- a place before the span isn't between its ends
pub before_span : (start end k : ℕ) → k < start → is_between start end k ≡ false
before_span start end k h = grind (arith, nat_tests)

-- nor is one behind it
pub behind_span : (start end k : ℕ) → end ≤ k → is_between start end k ≡ false
behind_span start end k h = grind (arith, nat_tests)
