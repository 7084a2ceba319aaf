use Rattle.std.proofs.Common.{sym, ap, ◌∙◌}
use Rattle.dense_text.specs.Kept.{state_of, kept, held}
use Rattle.dense_text.proofs.Saying.{whole_for}
use Rattle.dense_text.proofs.reader.DenseReader.finish.Goals as goal

pub returns-then-is_ended : goal.returns-then-is_ended
returns-then-is_ended c =
    whole_for c.args.self.now (held c.self.inside.branches (state_of c.in-Some.part)) (ap (λ part. kept part c.self.inside.branches) (sym c.in-Some.is) ∙ c.self.view_is) (sym c.is_ended.ensures ∙ c.if-is_ended.true)
