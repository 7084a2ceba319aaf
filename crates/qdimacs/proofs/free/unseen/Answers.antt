use Rattle.std.proofs.Common.{◌+◌, ◌++◌, ◌∷◌, [], ◌∙◌, ap, not, cond, filter}
use Rattle.qdimacs.specs.Refusals.{is_known, count_up}
use Rattle.qdimacs.proofs.Known.{one_unseen}
use Rattle.qdimacs.proofs.free.unseen.Goals as goal

pub loop-i-preserved : goal.loop-i-preserved
loop-i-preserved c =
    one_unseen (λ x. not (is_known c.args.seen.now x)) c.loop-i.i c.args.most c.loop-i.numbers c.push_if.new.numbers (filter (λ x. not (is_known c.args.seen.now x)) (count_up 1 c.args.most))
    c.loop-i-test.true
    (c.in_ok-push_if.ensures ∙ ap (λ b. c.loop-i.numbers ++ cond (not b) (record { at = 0; value = c.loop-i.i + 1 } ∷ []) []) c.has.ensures)
    c.loop-i.invariant
