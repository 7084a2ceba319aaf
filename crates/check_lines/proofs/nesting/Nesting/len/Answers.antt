use Rattle.std.proofs.Common.{◌∙◌, sym, ap, length}
use Rattle.check_lines.proofs.Stacks.{count}
use Rattle.check_lines.proofs.nesting.Nesting.len.Goals as goal

pub returns-clause-size : goal.returns-clause-size
returns-clause-size c = sym (count c.self.inside.places.items c.self.inside.depth) ∙ ap length c.self.view_is
