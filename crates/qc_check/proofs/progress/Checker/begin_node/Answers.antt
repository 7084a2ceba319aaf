use Rattle.qc_check.proofs.progress.Checker.begin_node.Goals as goal

pub pass_over-requires-clause-some : goal.pass_over-requires-clause-some
pass_over-requires-clause-some c = let k = c.requires.some.1 in (c.requires.some.0, record { reading = k.reading; starts = k.starts })

pub returns-in-None-clause-keeping : goal.returns-in-None-clause-keeping
returns-in-None-clause-keeping c = λ before k. record { reading = k.reading; starts = k.starts }

pub returns-in-Some-default-Some-clause-keeping : goal.returns-in-Some-default-Some-clause-keeping
returns-in-Some-default-Some-clause-keeping c = λ before k. c.pass_over.ensures.keeping before (record { reading = k.reading; starts = k.starts })

pub returns-in-Some-default-None-clause-keeping : goal.returns-in-Some-default-None-clause-keeping
returns-in-Some-default-None-clause-keeping c = λ before k. c.open_node.ensures.keeping before c.args.bytes.now c.requires.within (record { reading = k.reading; starts = k.starts })
