use Rattle.prop_base.proofs.filtering.filter.Goals as goal

pub filter_rule-requires : goal.filter_rule-requires
filter_rule-requires g c = record { fits = c.requires.asked c.constraint-rule.result.now c.constraint-rule.ensures }
