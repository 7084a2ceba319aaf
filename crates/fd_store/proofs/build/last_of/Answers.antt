use Rattle.fd_store.proofs.ListSpan.{last_is, greatest_fits, list_span}
use Rattle.fd_store.proofs.Ranged.{fit_is}
use Rattle.fd_store.proofs.build.last_of.Goals as goal

pub overflow_sub-result : goal.overflow_sub-result
overflow_sub-result c = (list_span c.args.numbers.now c.requires).some

pub returns : goal.returns
returns c = fit_is _ _ (last_is c.args.numbers.now c.requires) (greatest_fits c.args.numbers.now c.requires)
