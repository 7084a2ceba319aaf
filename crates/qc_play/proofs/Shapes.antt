-- The tree of an answer, and of a reply, from its list of entries.
use Rattle.std.proofs.Common.{◌≡◌, ◌∙◌, ap, refl, sym}
use Rattle.qc_model.specs.Plan.{entry, answer}
use Rattle.qc_play.specs.Shape.{plan_of, tree_of_counter, list_entries, list_replies, row_entries, row_replies, entries_of, replies_of, all_entries, all_replies}
use Rattle.qc_play.specs.declared.plan.Plan.{Answer}
use Rattle.qc_play.specs.declared.plan.PlanList.{PlanList, PlanList', Row_of-PlanEntry, end_of-PlanEntry, more_of-PlanEntry, items-the_row-PlanEntry, items_shown-the_row-PlanEntry-0, outs-PlanList'}
use Rattle.qc_play.specs.declared.counter.Counter.{Reply}
use Rattle.qc_play.specs.declared.counter.CounterList.{CounterList, CounterList', Row_of-CounterEntry, end_of-CounterEntry, more_of-CounterEntry, items-the_row-CounterEntry, items_shown-the_row-CounterEntry-0, outs-CounterList'}

row_as_list : {n : _} (row : Row_of-PlanEntry n) → row_entries row ≡ all_entries (items-the_row-PlanEntry n row)
row_as_list end_of-PlanEntry = refl
row_as_list (more_of-PlanEntry t s rest) = ap (entry t (plan_of s)) (row_as_list rest)

list_as_list : (list : PlanList) → list_entries list ≡ all_entries (entries_of list)
list_as_list (PlanList' shape row) =
    row_as_list row ∙ sym (ap (λ list. all_entries list.items.items) (outs-PlanList' shape row) ∙ ap all_entries (items_shown-the_row-PlanEntry-0 shape row))

pub answer_is : (list : PlanList) → plan_of (Answer list) ≡ answer (all_entries (entries_of list))
answer_is list = ap answer (list_as_list list)

row_of_replies : {n : _} (row : Row_of-CounterEntry n) → row_replies row ≡ all_replies (items-the_row-CounterEntry n row)
row_of_replies end_of-CounterEntry = refl
row_of_replies (more_of-CounterEntry t s rest) = ap (entry t (tree_of_counter s)) (row_of_replies rest)

list_of_replies : (list : CounterList) → list_replies list ≡ all_replies (replies_of list)
list_of_replies (CounterList' shape row) =
    row_of_replies row ∙ sym (ap (λ list. all_replies list.items.items) (outs-CounterList' shape row) ∙ ap all_replies (items_shown-the_row-CounterEntry-0 shape row))

pub reply_is : (list : CounterList) → tree_of_counter (Reply list) ≡ answer (all_replies (replies_of list))
reply_is list = ap answer (list_of_replies list)
