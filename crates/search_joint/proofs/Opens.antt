-- A box that is closed for all scopes ahead is closed for those up to each of them.
use Rattle.std.proofs.Common.{◌≡◌, ◌≤◌, ◌∙◌, ℕ, suc, Bool, false, [], refl, ap, arith, true}
use Rattle.std.specs.Prelude.{Some, Option, None, Result, Ok, Err, IfOk, IsTrue, slice_get}
use Rattle.std.specs.declared.alloc.AllocError.{AllocError}
use Rattle.std.proofs.lemmas.Bool.Decides.{nat_tests}
use Rattle.qc_model.specs.Block.{is_owned_within}
use Rattle.qc_model.specs.Content.{Game, Rule}
use Rattle.qc_model.specs.Domains.{Box, has_empty}
use Rattle.model_arguments.specs.Asked.{is_box_of}
use Rattle.model_levels.specs.Spans.{is_rule_within, is_number_within}
use Rattle.fd_store.specs.Held.{Held, past_box}
use Rattle.prop_engine.proofs.Means.{closed_for}
use Rattle.qc_cascade.specs.Ahead.{IsOpen}
use Rattle.search_joint.specs.declared.entry.Entry.{Entry}
use Rattle.search_joint.specs.Inside.{IsClosedInside}
use Rattle.search_joint.specs.Stacked.{IsStacked}
use Rattle.search_joint.proofs.Stacks.{of_more}

pub open_inside : (g : Game) (i stop : ℕ) (left large : Box) → IsClosedInside (is_number_within g i stop) g left large → IsOpen g i stop large []
open_inside g i stop left large h = record {
  none = refl;
  each = λ j up l. record {
    left = left;
    inside = h.inside;
    closed = closed_for (is_number_within g i stop) g (is_owned_within i (suc j)) left h.closed (λ k r e o. of_more g i i (suc j) stop k (omega arith) (omega (arith, l)) (ap (is_rule_within i (suc j)) e ∙ o));
  };
}

pub open_answer : (r : Result Bool AllocError) (g : Game) (i stop : ℕ) (left large : Box) → IfOk r (λ ok. IsTrue ok → IsClosedInside (is_number_within g i stop) g left large) → IfOk r (λ ok. IsTrue ok → IsOpen g i stop large [])
open_answer (Ok ok) g i stop left large h = λ t. open_inside g i stop left large (h t)
open_answer (Err e) g i stop left large h = h

-- nothing lies ahead where nothing is to be looked at
pub open_none : (g : Game) (i stop : ℕ) (large : Box) → stop ≤ i → IsOpen g i stop large []
open_none g i stop large l = record { none = refl; each = λ j up k. absurd (omega (arith, l, up, k)) }

-- no box on the way
pub stacked_none : (g : Game) (s : Held) → s.past ≡ [] → is_box_of g s.box ≡ true → has_empty s.box ≡ false → IsStacked g s []
stacked_none g s p d f =
    let here : past_box s 0 ≡ s.box = ap (λ past. past_box (record { box = s.box; past = past; spare = s.spare }) 0) p in
    record {
      first = record {
        at = omega arith;
        declared = ap (is_box_of g) here ∙ d;
        closed = (ap has_empty here ∙ f, λ k c o e. absurd (none k (slice_get g.constraints k) o));
      };
      each = λ k e i. absurd (nothing k e i);
      rises = λ j k a b l i p. absurd (nothing j a i);
    }
  where
    nothing : (k : ℕ) (e : Entry) → slice_get [] k ≡ Some e → ⊥
    nothing k e h = cc

    none : (k : ℕ) (o : Option Rule) → is_rule_within 0 0 o ≡ true → ⊥
    none k None h = cc
    none k (Some c) h = grind (arith, nat_tests)
