-- A closing that was undone, and may be done again.
use Rattle.std.specs.Prelude.{◌≤◌, IsTrue}
use Rattle.qc_model.specs.Content.{Game}
use Rattle.qc_model.specs.Domains.{is_sub_box}
use Rattle.proof_tree.specs.Steps.{after_steps}
use Rattle.fd_store.specs.Held.{Held, trail_len, past_box}
use Rattle.prop_base.specs.Pruning.{are_pruned_by}
use Rattle.prop_engine.specs.Closing.{IsClosedFor, is_between}
use Rattle.search_box.specs.declared.foresight.Foresight.{Foresight}

-- removals by constraints of the span lead from the box at the mark to one within it that is closed for them
pub record IsForeseen (g : Game) (s : Held) (f : Foresight) : Type 0 where
  pub at : f.mark.at ≤ trail_len s
  pub pruned : IsTrue (are_pruned_by (is_between f.span.first f.span.end) g f.steps (past_box s f.mark.at))
  pub inside : IsTrue (is_sub_box (after_steps f.steps (past_box s f.mark.at)) (past_box s f.mark.at))
  pub closed : IsClosedFor (is_between f.span.first f.span.end) g (after_steps f.steps (past_box s f.mark.at))
