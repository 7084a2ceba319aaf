use Rattle.std.proofs.Common.{◌∙◌, sym}
use Rattle.dense_alike.proofs.Domains.{one_range, more_ranges}
use Rattle.dense_alike.proofs.kept_box.is_one.Goals as goal

pub returns-in-len1 : goal.returns-in-len1
returns-in-len1 c = c.is_one.ensures ∙ sym (one_range c.args.ranges.now c.range-item.result c.in-len1.len_at_least c.in-len1.len_below c.range-item.is)

pub returns-in_default-2 : goal.returns-in_default-2
returns-in_default-2 c = sym (more_ranges c.args.ranges.now c.in_default.len_at_least)
