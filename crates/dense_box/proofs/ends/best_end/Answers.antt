use Rattle.std.proofs.Common.{◌≡◌, ◌∙◌, ◌&&◌, not, false, sym, ap, slice_get}
use Rattle.std.specs.Prelude.{is_some}
use Rattle.qc_model.specs.Demands.{demands}
use Rattle.qc_model.specs.Domains.{has_empty}
use Rattle.fd_store.specs.Held.{Held}
use Rattle.dense_tree.specs.Free.{is_universal}
use Rattle.dense_tree.specs.InPlace.{list_best}
use Rattle.dense_box.proofs.Ending.{best_here, none_best}
use Rattle.dense_box.proofs.ends.best_end.Goals as goal

pub returns-then-is_opponents-clause-placed : goal.returns-then-is_opponents-clause-placed
returns-then-is_opponents-clause-placed c = λ s p h.
    sym (none_best c.args.levels.now.problem.now c.args.i.0 c.args.remains.now.box s p h c.requires.scope (sym c.is_opponents.ensures ∙ c.if-is_opponents.true))

pub returns-clause-placed : goal.returns-clause-placed
returns-clause-placed c = λ s p h.
    let g = c.args.levels.now.problem.now in
    let i = c.args.i.0 in
    let box = c.args.remains.now.box in
    let found = c.best_left.result in
    let best = c.best_left.ensures g c.requires.lists ∙ ap (λ (z : Held). list_best (demands g i) z.box) c.store.ensures in
    let full : has_empty box ≡ false = sym c.is_empty.ensures ∙ c.if-is_empty.false in
    let own : is_universal (slice_get g.scopes i) ≡ false = sym c.is_opponents.ensures ∙ c.if-is_opponents.false in
    sym (best_here g i box s p h c.requires.scope found best ∙ (ap (λ b. not b && not (is_universal (slice_get g.scopes i)) && is_some found) full ∙ ap (λ b. not b && is_some found) own))
