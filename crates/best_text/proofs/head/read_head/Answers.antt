use Rattle.best_text.specs.Text.{IsHead}
use Rattle.best_text.proofs.Sequence.{place_of}
use Rattle.best_text.proofs.Whole.{whole_head}
use Rattle.best_text.proofs.head.read_head.Goals as goal

pub returns-in-Err : goal.returns-in-Err
returns-in-Err c = place_of IsHead c.args.bytes.now c.in-Err.left c.in-Err.ensures.err

pub returns-in-Ok : goal.returns-in-Ok
returns-in-Ok c = whole_head c.args.bytes.now c.in-Ok.rest.now c.in-Ok.value c.in-Ok.many c.in-Ok.ensures.ok.0 c.in-Ok.ensures.ok.1
