-- A closing that was undone stays one as the store goes on and back, and may be done again.
use Rattle.std.proofs.Common.{◌≡◌, ◌≤◌, ◌<◌, ◌-◌, ◌∙◌, ℕ, suc, Bool, true, false, List, [], length, refl, sym, ap, subst, arith}
use Rattle.std.specs.Prelude.{Option, Some, None, Result, Ok, Err, IfOk, IsTrue, slice_get}
use Rattle.std.specs.declared.alloc.AllocError.{AllocError}
use Rattle.std.proofs.lemmas.Bool.Decides.{nat_tests}
use Rattle.qc_model.specs.Block.{is_owned_within}
use Rattle.qc_model.specs.Content.{Game, Rule}
use Rattle.qc_model.specs.Domains.{Box, declared_box, has_empty, is_sub_box}
use Rattle.model_arguments.specs.Asked.{is_box_of}
use Rattle.model_levels.specs.Spans.{IsSpanOf, is_rule_within, is_number_within}
use Rattle.proof_tree.specs.declared.tree.Step.{Step}
use Rattle.proof_tree.specs.Steps.{after_steps}
use Rattle.fd_store.specs.Held.{Held, Follows, IsUndone, trail_len, past_box}
use Rattle.prop_base.specs.Pruning.{IsPruning, are_pruned_by}
use Rattle.prop_base.proofs.Steps.{follows_same}
use Rattle.prop_engine.specs.Closing.{IsClosedFor, is_between}
use Rattle.prop_engine.proofs.Means.{closed_for}
use Rattle.qc_cascade.specs.Ahead.{IsOpen}
use Rattle.qc_cascade.proofs.Pruned.{of_more}
use Rattle.box_laws.proofs.Trails.{past_now}
use Rattle.search_box.specs.declared.foresight.Foresight.{Foresight}
use Rattle.search_box.specs.Foreseen.{IsForeseen}
use Rattle.search_box.proofs.Closings.{pruned_sub}
use Rattle.search_box.proofs.Keeping.{sub_self}

-- what the lemmas below say of a closing in a box, wherever that box is
pub record LeadsTo (g : Game) (box : Box) (f : Foresight) : Type 0 where
  pub pruned : are_pruned_by (is_between f.span.first f.span.end) g f.steps box ≡ true
  pub inside : is_sub_box (after_steps f.steps box) box ≡ true
  pub closed : IsClosedFor (is_between f.span.first f.span.end) g (after_steps f.steps box)

leads_from : (g : Game) (s : Held) (f : Foresight) → IsForeseen g s f → LeadsTo g (past_box s f.mark.at) f
leads_from g s f h = record { pruned = h.pruned; inside = h.inside; closed = h.closed }

foreseen_at : (g : Game) (s : Held) (f : Foresight) (box : Box) → f.mark.at ≤ trail_len s → past_box s f.mark.at ≡ box → LeadsTo g box f → IsForeseen g s f
foreseen_at g s f box l e h =
    let there = subst (λ b. LeadsTo g b f) (sym e) h in
    record { at = l; pruned = there.pruned; inside = there.inside; closed = there.closed }

-- where the store went on
pub foreseen_on : (g : Game) (s t : Held) (f : Foresight) → Follows s t → (f.known ≡ true → IsForeseen g s f) → f.known ≡ true → IsForeseen g t f
foreseen_on g s t f w h k =
    let before = h k in
    foreseen_at g t f (past_box s f.mark.at) (omega (arith, before.at, w.longer)) (w.boxes f.mark.at before.at) (leads_from g s f before)

-- where it is as it was
pub foreseen_same : (g : Game) (s t : Held) (f : Foresight) → t.box ≡ s.box → t.past ≡ s.past → (f.known ≡ true → IsForeseen g s f) → f.known ≡ true → IsForeseen g t f
foreseen_same g s t f b p h = foreseen_on g s t f (follows_same s t b p) h

-- where it was undone, and what was closed behind the mark is given up
pub foreseen_back : (g : Game) (s t : Held) (n : ℕ) (f h : Foresight) → IsUndone n s t → (h.known ≡ true → h ≡ f) → (h.known ≡ true → h.mark.at ≤ n) → (f.known ≡ true → IsForeseen g s f) → h.known ≡ true → IsForeseen g t h
foreseen_back g s t n f h u same least was k =
    let e = same k in
    let before = subst (λ (x : Foresight). IsForeseen g s x) (sym e) (was (ap (λ (x : Foresight). x.known) (sym e) ∙ k)) in
    foreseen_at g t h (past_box s h.mark.at) (omega (arith, least k, u.len)) (u.boxes h.mark.at (least k)) (leads_from g s h before)

-- what a closing was that is undone
pub foreseen_made : (g : Game) (s m t : Held) (f : Foresight) (steps : List Step) → is_box_of g s.box ≡ true → IsPruning (is_between f.span.first f.span.end) g s m [] steps → IsClosedFor (is_between f.span.first f.span.end) g m.box →
    t.box ≡ s.box → t.past ≡ s.past → f.mark.at ≡ trail_len s → f.steps ≡ steps → IsForeseen g t f
foreseen_made g s m t f steps d p c b q at same =
    let ok = is_between f.span.first f.span.end in
    let more = same ∙ p.appended in
    let left : m.box ≡ after_steps f.steps s.box = p.reached ∙ ap (λ xs. after_steps xs s.box) (sym more) in
    foreseen_at g t f s.box (omega (arith, at, ap (λ (xs : List Box). length xs) q))
    (past_now t f.mark.at (at ∙ ap length (sym q)) ∙ b)
    (record {
      pruned = ap (λ xs. are_pruned_by ok g xs s.box) more ∙ p.legal;
      inside = subst (λ x. is_sub_box x s.box ≡ true) left (pruned_sub ok g s m [] steps d p);
      closed = subst (λ x. IsClosedFor ok g x) left c;
    })

-- in the box that it is of
pub leads_here : (g : Game) (s : Held) (f : Foresight) → f.mark.at ≡ trail_len s → IsForeseen g s f → LeadsTo g s.box f
leads_here g s f at h = subst (λ b. LeadsTo g b f) (past_now s f.mark.at at) (leads_from g s f h)

pub legal_here : (g : Game) (s : Held) (f : Foresight) (start end : ℕ) → f.span.first ≡ start → f.span.end ≡ end → f.mark.at ≡ trail_len s → IsForeseen g s f → are_pruned_by (is_between start end) g f.steps s.box ≡ true
legal_here g s f start end a b at h =
    ap (λ n. are_pruned_by (is_between n end) g f.steps s.box) (sym a) ∙ (ap (λ n. are_pruned_by (is_between f.span.first n) g f.steps s.box) (sym b) ∙ (leads_here g s f at h).pruned)

pub closed_here : (g : Game) (s t : Held) (f : Foresight) (start end : ℕ) → f.span.first ≡ start → f.span.end ≡ end → f.mark.at ≡ trail_len s → IsForeseen g s f → t.box ≡ after_steps f.steps s.box → IsClosedFor (is_between start end) g t.box
closed_here g s t f start end a b at h e =
    subst (λ box. IsClosedFor (is_between start end) g box) (sym e)
    (subst (λ n. IsClosedFor (is_between n end) g (after_steps f.steps s.box)) a
    (subst (λ n. IsClosedFor (is_between f.span.first n) g (after_steps f.steps s.box)) b (leads_here g s f at h).closed))

-- what isn't known says nothing
pub not_foreseen : (g : Game) (s : Held) (f : Foresight) → f.known ≡ false → f.known ≡ true → IsForeseen g s f
not_foreseen g s f n k = absurd (differ f.known n k)
  where
    differ : (b : Bool) → b ≡ false → b ≡ true → ⊥
    differ true p q = cc
    differ false p q = cc

-- nothing lies ahead where it is of all that does
pub open_foreseen : (g : Game) (s : Held) (f : Foresight) (i stop : ℕ) (box : Box) → IsSpanOf g i stop f.span.first f.span.end → f.mark.at ≡ trail_len s → s.box ≡ box → IsForeseen g s f → IsOpen g i stop box []
open_foreseen g s f i stop box span at b h =
    let here = subst (λ x. LeadsTo g x f) b (leads_here g s f at h) in
    record {
      none = refl;
      each = λ j up l. record {
        left = after_steps f.steps box;
        inside = here.inside;
        closed = closed_for (is_between f.span.first f.span.end) g (is_owned_within i (suc j)) (after_steps f.steps box) here.closed
            (λ k r e o. span.numbers k ∙ of_more g i (suc j) stop k (omega (arith, l)) (ap (is_rule_within i (suc j)) e ∙ o));
      };
    }

pub open_answer : (r : Result Bool AllocError) (g : Game) (s : Held) (f : Foresight) (i stop : ℕ) (box : Box) → IsSpanOf g i stop f.span.first f.span.end → f.mark.at ≡ trail_len s → s.box ≡ box → IfOk r (λ ok. IsTrue ok → f.known ≡ true) →
    (f.known ≡ true → IsForeseen g s f) → IfOk r (λ ok. IsTrue ok → IsOpen g i stop box [])
open_answer (Ok ok) g s f i stop box span at b seen h = λ t. open_foreseen g s f i stop box span at b (h (seen t))
open_answer (Err e) g s f i stop box span at b seen h = seen

-- nor where no constraint is ahead: the box itself is closed for all of them
pub open_free : (g : Game) (i stop : ℕ) (box : Box) → is_box_of g box ≡ true → has_empty box ≡ false → ((k : ℕ) → is_number_within g i stop k ≡ false) → IsOpen g i stop box []
open_free g i stop box d f n = record {
  none = refl;
  each = λ j up l. record {
    left = box;
    inside = sub_self box (declared_box g) d;
    closed = closed_for (is_number_within g i stop) g (is_owned_within i (suc j)) box (f, λ k c o e. absurd (differ (is_number_within g i stop k) (n k) o))
        (λ k r e o. of_more g i (suc j) stop k (omega (arith, l)) (ap (is_rule_within i (suc j)) e ∙ o));
  };
}
  where
    differ : (b : Bool) → b ≡ false → b ≡ true → ⊥
    differ true p q = cc
    differ false p q = cc

-- no constraint is of scopes of which there are none
pub none_of_none : (g : Game) (i stop k : ℕ) → stop ≤ i → is_number_within g i stop k ≡ false
none_of_none g i stop k l = by (slice_get g.constraints k)
  where
    by : (o : Option Rule) → is_rule_within i stop o ≡ false
    by None = refl
    by (Some c) = grind (arith, nat_tests)

-- nor where they would stand in a span that ends where it begins
pub none_in_span : (g : Game) (i stop first end k : ℕ) → IsSpanOf g i stop first end → end ≤ first → is_number_within g i stop k ≡ false
none_in_span g i stop first end k s l = sym (s.numbers k) ∙ by
  where
    by : is_between first end k ≡ false
    by = grind (arith, nat_tests)

pub counted : (n : ℕ) → 0 < n → suc (n - 1) ≡ n
counted n h = omega (arith, h)
