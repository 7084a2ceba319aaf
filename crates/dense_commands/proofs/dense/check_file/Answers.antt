use Rattle.std.proofs.Common.{inl, inr, refl, rules, subst}
use Rattle.dense_check.specs.Telling.{game_of}
use Rattle.dense_judge.specs.Checking.{Comes}
use Rattle.qecode_commands.proofs.Written.{Wrote-weaker}
use Rattle.dense_commands.proofs.dense.check_file.Goals as goal

pub returns-in-Ok-clause-wrote : goal.returns-in-Ok-clause-wrote
returns-in-Ok-clause-wrote g c =
    let fed = c.in-Ok.ensures.fed in
    Wrote-weaker _ _ _ _ c.tell.result _ _
    (λ s t h. inr (fed.bytes, fed.file, h (game_of c.args.checker.now.machine) fed.bytes (subst (λ q. Comes q fed.bytes c.finish.result) c.in-Ok.ensures.same (c.finish.ensures fed.bytes fed.checking))))
    c.tell.ensures.wrote

pub returns-in-Err-TooLong-clause-wrote : goal.returns-in-Err-TooLong-clause-wrote
returns-in-Err-TooLong-clause-wrote g c =
    Wrote-weaker _ _ _ _ c.too_long.result _ _
    (λ s t is. inl (rw (is.0, is.1) (record { given = search rules; longer = search rules; line = refl }))) c.too_long.ensures.wrote
