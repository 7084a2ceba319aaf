use Rattle.std.proofs.Common.{◌≡◌, ◌∙◌, sym, ap, set, Some, drop, to_z, of_z, w64, refl}
use Rattle.std.specs.Prelude.{is_some}
use Rattle.qc_model.specs.Domains.{Box, values_left}
use Rattle.box_laws.proofs.Numbers.{passed_number}
use Rattle.dense_tree.specs.Steps.{last_condition, no_worse}
use Rattle.dense_box.specs.Wished.{told}
use Rattle.dense_box.proofs.Replying.{placed_here, none_here, box_here}
use Rattle.dense_box.proofs.replies.reply.Goals as goal

pub returns-then-is_empty-clause-placed : goal.returns-then-is_empty-clause-placed
returns-then-is_empty-clause-placed c = λ s p h.
    sym (none_here c.args.levels.now.problem.now c.args.i.0 c.args.remains.now.box s p h c.args.values.now (last_condition (drop c.args.i.0 c.args.levels.now.problem.now.scopes)) refl (sym c.is_empty.ensures ∙ c.if-is_empty.true))

pub returns-in-None-value_with-clause-placed : goal.returns-in-None-value_with-clause-placed
returns-in-None-value_with-clause-placed c = λ s p h.
    let g = c.args.levels.now.problem.now in
    let i = c.args.i.0 in
    let e : last_condition (drop i g.scopes) ≡ told (Some c.in-Some.wish) = sym c.last_wish.ensures ∙ ap told c.in-Some.is in
    sym (placed_here g i c.args.remains.now.box s p h c.args.values.now (told (Some c.in-Some.wish)) e (sym c.is_empty.ensures ∙ c.if-is_empty.false) ∙ (sym c.value_with.ensures.placed ∙ ap is_some c.in-None-value_with.is))

pub returns-in-Some-value_with-clause-placed : goal.returns-in-Some-value_with-clause-placed
returns-in-Some-value_with-clause-placed c = λ s p h.
    let g = c.args.levels.now.problem.now in
    let i = c.args.i.0 in
    let e : last_condition (drop i g.scopes) ≡ told (Some c.in-Some.wish) = sym c.last_wish.ensures ∙ ap told c.in-Some.is in
    sym (placed_here g i c.args.remains.now.box s p h c.args.values.now (told (Some c.in-Some.wish)) e (sym c.is_empty.ensures ∙ c.if-is_empty.false) ∙ (sym c.value_with.ensures.placed ∙ ap is_some c.in-Some-value_with.is))

pub returns-in-Some-value_with-clause-content : goal.returns-in-Some-value_with-clause-content
returns-in-Some-value_with-clause-content c = λ _ s p h.
    let g = c.args.levels.now.problem.now in
    let i = c.args.i.0 in
    let w = c.in-Some.wish in
    let x = w.variable.0 in
    let box = c.args.remains.now.box in
    let v = c.in-Some-value_with.value in
    let e : last_condition (drop i g.scopes) ≡ told (Some w) = sym c.last_wish.ensures ∙ ap told c.in-Some.is in
    c.take_worse.ensures.content
    ∙ (ap (λ (b : Box). set b x (no_worse w.sense (to_z w64 (of_z w64 v)) (values_left b x))) c.value_with.ensures.content
    ∙ (ap (λ z. set box x (no_worse w.sense z (values_left box x))) (passed_number v c.in-Some-value_with.ensures.number ∙ c.in-Some-value_with.ensures.value)
    ∙ sym (box_here g i box s p h c.args.values.now (told (Some w)) e)))
