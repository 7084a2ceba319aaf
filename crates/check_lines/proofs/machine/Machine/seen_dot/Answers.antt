use Rattle.std.proofs.Common.{◌∙◌, sym}
use Rattle.check_lines.proofs.AtNodes.{dot_ready, dot_tells}
use Rattle.check_lines.proofs.machine.Machine.seen_dot.Goals as goal

pub returns-clause-tells : goal.returns-clause-tells
returns-clause-tells c = dot_tells c.args.self.now c.args.k c.args.mark c.requires.seeing c.undo_to.new.self c.undo_to.ensures.past c.undo_to.ensures.content (sym c.is_empty.ensures ∙ c.if-not-is_empty.false)

pub returns-clause-ready : goal.returns-clause-ready
returns-clause-ready c = dot_ready c.args.self.now c.args.k c.args.mark c.requires.seeing c.undo_to.new.self c.undo_to.ensures.past c.undo_to.ensures.content
