use Rattle.qc_model.specs.Domains.{declared_box}
use Rattle.prop_base.specs.Pruning.{is_just}
use Rattle.prop_base.proofs.Steps.{pruning_sub}
use Rattle.prop_engine.proofs.Rules.{asked, ran_ok, known_at}
use Rattle.prop_engine.proofs.running.run_filter.Goals as goal

pub filter-requires-clause-known : goal.filter-requires-clause-known
filter-requires-clause-known g c = λ rule e. known_at c.args.problem.now g.F.Filter.knows c.args.c.0 rule c.requires.known e

pub filter-requires-clause-asked : goal.filter-requires-clause-asked
filter-requires-clause-asked g c = λ rule e. asked c.args.problem.now c.args.store.now.box c.args.c.0 rule c.known.ensures c.requires.declared c.requires.full e

pub returns-clause-declared : goal.returns-clause-declared
returns-clause-declared g c = pruning_sub (is_just c.args.c.0) c.args.problem.now _ _ _ _ (declared_box c.args.problem.now) c.filter.ensures.pruning c.requires.declared

pub returns-clause-answer : goal.returns-clause-answer
returns-clause-answer g c =
    ran_ok c.filter.result c.args.problem.now c.args.c.0 c.constraint.result.now c.args.store.now c.filter.new.store c.args.steps.now c.filter.new.steps c.constraint.ensures c.filter.ensures.pruning (c.filter.ensures.answer c.constraint.result.now c.constraint.ensures)
