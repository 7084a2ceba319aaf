use Rattle.qecode_commands.proofs.Written.{Wrote-weaker}
use Rattle.qecode_commands.proofs.Played.{certificate_down}
use Rattle.qecode_commands.proofs.certificate_file.certificate_in.Goals as goal

pub returns-in-Err-clause-refused : goal.returns-in-Err-clause-refused
returns-in-Err-clause-refused g c =
    Wrote-weaker _ _ _ _ c.turn_down.result _ _ (λ s t is. certificate_down c.args.text.now c.in-Err.fault s t c.in-Err.ensures.fault is) c.turn_down.ensures.wrote
