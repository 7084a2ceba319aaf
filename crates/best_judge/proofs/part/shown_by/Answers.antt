use Rattle.std.proofs.Common.{subst}
use Rattle.lemma_judge.specs.Checking.{Comes}
use Rattle.best_judge.proofs.Lists.{no_proof}
use Rattle.best_judge.proofs.part.shown_by.Goals as goal

pub returns-in-Yes : goal.returns-in-Yes
returns-in-Yes c = λ g bytes h. c.stated_by.ensures g bytes (subst (Comes g bytes) c.in-Yes.is h)

pub returns-in-NotProved : goal.returns-in-NotProved
returns-in-NotProved c = λ g bytes h. no_proof g bytes c.args.loser c.each_text_is_of_one_list.ensures (subst (Comes g bytes) c.in-NotProved.is h)

pub returns-in-NotACertificate : goal.returns-in-NotACertificate
returns-in-NotACertificate c = λ g bytes h. subst (Comes g bytes) c.in-NotACertificate.is h
