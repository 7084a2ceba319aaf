use Rattle.std.proofs.Common.{◌≡◌, ◌∙◌, sym, rules}
use Rattle.std.proofs.lemmas.Int.{to_z-of_z}
use mir.Val.{SFits}
use mir.Syntax.{w64}
use Rattle.check_lines.specs.State.{may_take}
use Rattle.check_lines.specs.Places.{rest}
use Rattle.check_lines.specs.Machine.{fork_at}
use Rattle.check_lines.specs.Telling.{GoesInto}
use Rattle.check_lines.proofs.Forks.{not_taken, taken_tells}
use Rattle.check_lines.proofs.machine.Machine.case_line.Goals as goal

pub returns-then-take_case-clause-tells : goal.returns-then-take_case-clause-tells
returns-then-take_case-clause-tells c =
    let from_fits : SFits w64 c.args.from = search rules in
    let m = c.args.self.now in
    let taken : c.take_case.result ≡ may_take c.args.upto (fork_at m.remains c.args.x c.args.mark c.args.from) = simp to_z-of_z at c.take_case.ensures.taken in
    let into : GoesInto m c.take_case.new.self (fork_at m.remains c.args.x c.args.mark c.args.from) c.args.upto = simp to_z-of_z at (c.take_case.ensures.into c.if-take_case.true) in
    taken_tells m c.args.x c.args.mark c.args.from (rest m.nesting) c.requires.top c.requires.fork c.take_case.new.self c.at_end.new.self c.args.upto c.args.line (sym taken ∙ c.if-take_case.true) into c.take_case.ensures.same c.at_end.ensures.tells

pub returns-else-take_case-clause-tells : goal.returns-else-take_case-clause-tells
returns-else-take_case-clause-tells c = λ n d es xs u few p k.
    let from_fits : SFits w64 c.args.from = search rules in
    let m = c.args.self.now in
    let taken : c.take_case.result ≡ may_take c.args.upto (fork_at m.remains c.args.x c.args.mark c.args.from) = simp to_z-of_z at c.take_case.ensures.taken in
    not_taken m c.args.x c.args.mark c.args.from (rest m.nesting) c.requires.top c.requires.fork c.args.upto c.args.line (sym taken ∙ c.if-take_case.false) d es xs u p
