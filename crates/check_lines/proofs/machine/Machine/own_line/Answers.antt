use Rattle.std.proofs.Common.{◌∙◌, sym}
use Rattle.check_lines.proofs.AtNodes.{own_within, own_tells}
use Rattle.check_lines.proofs.machine.Machine.own_line.Goals as goal

pub at_end-requires : goal.at_end-requires
at_end-requires c = record { within = own_within c.args.self.now c.clear.new.self c.requires.node c.clear.ensures.others c.clear.ensures.same (sym c.is_at_last.ensures ∙ c.if-is_at_last.false) }

pub returns-clause-tells : goal.returns-clause-tells
returns-clause-tells c =
    own_tells c.args.self.now c.clear.new.self c.requires.node c.clear.ensures.others c.clear.ensures.same (sym c.is_at_last.ensures ∙ c.if-is_at_last.false) c.at_end.new.self c.args.line c.clear.ensures.stands
    (sym c.is_at_horizon.ensures ∙ c.if-is_at_horizon.false) c.at_end.ensures.tells
