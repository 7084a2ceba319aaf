use Rattle.std.proofs.Common.{refl}
use Rattle.qecode_commands.proofs.Written.{Wrote-weaker}
use Rattle.qecode_commands.proofs.formula_file.refuse.Goals as goal

pub returns-clause-wrote : goal.returns-clause-wrote
returns-clause-wrote g c = Wrote-weaker _ _ _ _ c.finish_parts.result _ _ (λ s t is. (is.0, rw (is.1, c.front_of.ensures, c.as_bytes.ensures.value, c.format.ensures.text) refl)) c.finish_parts.ensures.wrote
