use Rattle.std.proofs.Common.{refl, rules}
use Rattle.qecode_commands.proofs.Written.{Wrote-weaker}
use Rattle.qecode_commands.proofs.file.open_file.Goals as goal

pub returns-in-Err-TooLong-clause-refused : goal.returns-in-Err-TooLong-clause-refused
returns-in-Err-TooLong-clause-refused g c =
    Wrote-weaker _ _ _ _ c.too_long.result _ _
    (λ s t is. rw (is.0, is.1) (record { given = search rules; longer = search rules; line = refl })) c.too_long.ensures.wrote
