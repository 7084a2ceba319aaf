use Rattle.std.proofs.Common.{sym, ap, ◌∙◌}
use Rattle.lemma_text.specs.Kept.{state_of, kept_state}
use Rattle.lemma_text.proofs.Saying.{whole_for}
use Rattle.lemma_text.proofs.reader.LemmaReader.finish.Goals as goal

pub returns-then-is_between : goal.returns-then-is_between
returns-then-is_between c =
    whole_for c.args.self.now (state_of c.in-Some.part) (ap kept_state (sym c.in-Some.is) ∙ c.self.view_is) (sym c.is_between.ensures ∙ c.if-is_between.true)
