use Rattle.std.proofs.Common.{◌∙◌, ◌&&◌, sym, ap}
use Rattle.dense_tree.specs.Free.{is_unrestricted}
use Rattle.dense_box.proofs.Ending.{choice_here}
use Rattle.dense_box.proofs.ends.is_free_choice.Goals as goal

pub returns-then-not-is_opponents : goal.returns-then-not-is_opponents
returns-then-not-is_opponents c = λ box s p h.
    let g = c.args.levels.now.problem.now in
    let i = c.args.i.0 in
    sym (choice_here g i box s p h c.requires ∙ ap (λ b. b && is_unrestricted g i) (sym c.is_opponents.ensures ∙ c.if-not-is_opponents.true))

pub returns : goal.returns
returns c = λ box s p h.
    let g = c.args.levels.now.problem.now in
    let i = c.args.i.0 in
    c.is_unrestricted.ensures ∙ sym (choice_here g i box s p h c.requires ∙ ap (λ b. b && is_unrestricted g i) (sym c.is_opponents.ensures ∙ c.if-not-is_opponents.false))
