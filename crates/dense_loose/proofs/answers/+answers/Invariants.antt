use Rattle.dense_loose.proofs.answers.+answers.Given as goal

abbrev pub decreases-answers : goal.decreases-answers
decreases-answers l = l.depth

abbrev pub decreases-each_answer : goal.decreases-each_answer
decreases-each_answer l = l.depth
