use Rattle.std.proofs.Common.{sym, ◌∙◌, to_z, of_z, w64}
use Rattle.prop_base.proofs.Steps.{follows_more}
use Rattle.prop_yard.proofs.Boxes.{changed_at}
use Rattle.prop_yard.proofs.closing.lose_least.Goals as goal

pub close_again-requires-clause-changed : goal.close_again-requires-clause-changed
close_again-requires-clause-changed g c =
    changed_at c.args.problem.now c.args.x (to_z w64 (of_z w64 c.min-low.result)) c.args.store.now.box c.take.new.store.box c.requires.closed c.in_ok-take.ensures.content
    (sym c.in-Some.is ∙ c.in_ok-take.ensures.answer)

pub returns-in-Some-clause-past : goal.returns-in-Some-clause-past
returns-in-Some-clause-past g c = follows_more _ _ _ c.take.ensures.past c.close_again.ensures.past
