use Rattle.std.proofs.Common.{◌∙◌, sym, ap, length, nat_lt}
use Rattle.check_lines.proofs.Stacks.{count}
use Rattle.check_lines.proofs.nesting.Nesting.has_room.Goals as goal

pub returns : goal.returns
returns c = ap (λ n. nat_lt n 1000) (sym (count c.self.inside.places.items c.self.inside.depth) ∙ ap length c.self.view_is)
