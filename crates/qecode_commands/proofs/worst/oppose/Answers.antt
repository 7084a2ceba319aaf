use Rattle.qecode_commands.proofs.Written.{Wrote-weaker}
use Rattle.qecode_commands.proofs.Down.{reading_down}
use Rattle.qecode_commands.proofs.worst.oppose.Goals as goal

pub returns-in-Ok-clause-reading : goal.returns-in-Ok-clause-reading
returns-in-Ok-clause-reading g c = record {
  named = c.in-Ok.ensures.readable.0;
  few = c.in-Ok.ensures.readable.1;
  reads = rw c.in-Ok.ensures.made at c.in-Ok.ensures.reads;
  law = c.in-Ok.ensures.law;
}

pub returns-in-Err-clause-refused : goal.returns-in-Err-clause-refused
returns-in-Err-clause-refused g c =
    Wrote-weaker _ _ _ _ c.turn_down.result _ _ (λ s t is. reading_down c.args.places c.args.problem.now c.in-Err.fault s t c.in-Err.ensures.refused is) c.turn_down.ensures.wrote
