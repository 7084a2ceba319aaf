-- Looking for a tuple among entries, one after the other.
use Rattle.std.proofs.Common.{◌≡◌, ℕ, zero, suc, ◌+◌, ◌<◌, true, false, cond, List, [], ◌∷◌, length, drop, get_or, sym, ap, ◌∙◌, Some, ℤ, arith, add-one}
use Rattle.qc_model.specs.Lists.{same_values}
use Rattle.qc_play.specs.declared.plan.PlanEntry.{PlanEntry}
use Rattle.qc_play.specs.declared.counter.CounterEntry.{CounterEntry}
use Rattle.qc_play.specs.Shape.{plan_of, tree_of_counter, all_entries, all_replies}
use Rattle.qc_play.specs.Play.{reply_to}

entries_here : (es : List PlanEntry) (k : ℕ) (e : PlanEntry) → k < length es → e ≡ get_or es k e → drop k es ≡ e ∷ drop (suc k) es
entries_here [] k e h q = absurd (omega arith)
entries_here (f ∷ es) zero e h q = ap (λ d. d ∷ es) (sym q)
entries_here (f ∷ es) (suc k) e h q = entries_here es k e (omega arith) q

entries_from : (es : List PlanEntry) (k : ℕ) (e : PlanEntry) → k < length es → e ≡ get_or es k e → drop k es ≡ e ∷ drop (k + 1) es
entries_from es k e h q = rw add-one (entries_here es k e h q)

pub plan_here : (es : List PlanEntry) (t : List ℤ) (k : ℕ) (e : PlanEntry) → k < length es → e ≡ get_or es k e → same_values e.tuple t ≡ true → reply_to t (all_entries (drop k es)) ≡ Some (plan_of e.plan)
plan_here es t k e h q s = ap (λ ds. reply_to t (all_entries ds)) (entries_from es k e h q) ∙ ap (λ b. cond b (Some (plan_of e.plan)) (reply_to t (all_entries (drop (k + 1) es)))) s

pub plan_beyond : (es : List PlanEntry) (t : List ℤ) (k : ℕ) (e : PlanEntry) → k < length es → e ≡ get_or es k e → same_values e.tuple t ≡ false → reply_to t (all_entries (drop k es)) ≡ reply_to t (all_entries (drop (k + 1) es))
plan_beyond es t k e h q s = ap (λ ds. reply_to t (all_entries ds)) (entries_from es k e h q) ∙ ap (λ b. cond b (Some (plan_of e.plan)) (reply_to t (all_entries (drop (k + 1) es)))) s

replies_here : (es : List CounterEntry) (k : ℕ) (e : CounterEntry) → k < length es → e ≡ get_or es k e → drop k es ≡ e ∷ drop (suc k) es
replies_here [] k e h q = absurd (omega arith)
replies_here (f ∷ es) zero e h q = ap (λ d. d ∷ es) (sym q)
replies_here (f ∷ es) (suc k) e h q = replies_here es k e (omega arith) q

replies_from : (es : List CounterEntry) (k : ℕ) (e : CounterEntry) → k < length es → e ≡ get_or es k e → drop k es ≡ e ∷ drop (k + 1) es
replies_from es k e h q = rw add-one (replies_here es k e h q)

pub counter_here : (es : List CounterEntry) (t : List ℤ) (k : ℕ) (e : CounterEntry) → k < length es → e ≡ get_or es k e → same_values e.tuple t ≡ true → reply_to t (all_replies (drop k es)) ≡ Some (tree_of_counter e.counter)
counter_here es t k e h q s = ap (λ ds. reply_to t (all_replies ds)) (replies_from es k e h q) ∙ ap (λ b. cond b (Some (tree_of_counter e.counter)) (reply_to t (all_replies (drop (k + 1) es)))) s

pub counter_beyond : (es : List CounterEntry) (t : List ℤ) (k : ℕ) (e : CounterEntry) → k < length es → e ≡ get_or es k e → same_values e.tuple t ≡ false → reply_to t (all_replies (drop k es)) ≡ reply_to t (all_replies (drop (k + 1) es))
counter_beyond es t k e h q s = ap (λ ds. reply_to t (all_replies ds)) (replies_from es k e h q) ∙ ap (λ b. cond b (Some (tree_of_counter e.counter)) (reply_to t (all_replies (drop (k + 1) es)))) s
