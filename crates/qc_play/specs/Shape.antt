-- The tree of choices that a plan, or a counter, of the program is.
use Rattle.std.specs.Prelude.{List, [], ◌∷◌}
use Rattle.qc_model.specs.Plan.{Plan as Choices, finish, choose, answer, Entries, no_entries, entry}
use Rattle.qc_play.specs.declared.plan.Plan.{Plan, End, Choose', Answer}
use Rattle.qc_play.specs.declared.plan.PlanList.{PlanList, PlanList', out-PlanList, Row_of-PlanEntry, end_of-PlanEntry, more_of-PlanEntry}
use Rattle.qc_play.specs.declared.plan.PlanEntry.{PlanEntry}
use Rattle.qc_play.specs.declared.counter.Counter.{Counter, End as Ended, Take', Reply}
use Rattle.qc_play.specs.declared.counter.CounterList.{CounterList, CounterList', out-CounterList, Row_of-CounterEntry, end_of-CounterEntry, more_of-CounterEntry}
use Rattle.qc_play.specs.declared.counter.CounterEntry.{CounterEntry}

abbrev mutual
  pub plan_of : Plan → Choices
  plan_of End = finish
  plan_of (Choose' t p s) = choose t (plan_of s)
  plan_of (Answer list) = answer (list_entries list)

  pub list_entries : PlanList → Entries
  list_entries (PlanList' shape row) = row_entries row

  pub row_entries : {n : _} → Row_of-PlanEntry n → Entries
  row_entries end_of-PlanEntry = no_entries
  row_entries (more_of-PlanEntry t s rest) = entry t (plan_of s) (row_entries rest)

abbrev mutual
  pub tree_of_counter : Counter → Choices
  tree_of_counter Ended = finish
  tree_of_counter (Take' t p s) = choose t (tree_of_counter s)
  tree_of_counter (Reply list) = answer (list_replies list)

  pub list_replies : CounterList → Entries
  list_replies (CounterList' shape row) = row_replies row

  pub row_replies : {n : _} → Row_of-CounterEntry n → Entries
  row_replies end_of-CounterEntry = no_entries
  row_replies (more_of-CounterEntry t s rest) = entry t (tree_of_counter s) (row_replies rest)

-- the entries of a list
abbrev pub entries_of : PlanList → List PlanEntry
entries_of list = (out-PlanList list).items.items

abbrev pub replies_of : CounterList → List CounterEntry
replies_of list = (out-CounterList list).items.items

-- and what they are together
abbrev pub all_entries : List PlanEntry → Entries
all_entries [] = no_entries
all_entries (e ∷ es) = entry e.tuple (plan_of e.plan) (all_entries es)

abbrev pub all_replies : List CounterEntry → Entries
all_replies [] = no_entries
all_replies (e ∷ es) = entry e.tuple (tree_of_counter e.counter) (all_replies es)
