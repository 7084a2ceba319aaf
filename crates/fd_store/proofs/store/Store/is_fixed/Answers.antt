use Rattle.std.proofs.Common.{◌∙◌, ap}
use Rattle.std.specs.Prelude.{◌==◌}
use Rattle.fd_store.proofs.Reading.{single_is}
use Rattle.fd_store.proofs.store.Store.is_fixed.Goals as goal

pub returns : goal.returns
returns c = ap (λ n. n == 1) c.size.ensures ∙ single_is _
