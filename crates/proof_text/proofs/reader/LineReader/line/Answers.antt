use Rattle.std.proofs.Common.{sym, ap, ◌∙◌, ◌-◌, length, take}
use Rattle.proof_text.specs.declared.walk.At.TheVariants.{Letter}
use Rattle.proof_text.specs.Walks.{reading_of}
use Rattle.proof_text.proofs.Saying.{line_stands_for, line_says_for}
use Rattle.proof_text.proofs.WholeLines.{begins_line}
use Rattle.proof_text.proofs.reader.LineReader.line.Goals as goal

pub returns-clause-line : goal.returns-clause-line
returns-clause-line c = begins_line c.args.bytes.now c.in-Some.rest.now c.in-Some.line c.in-Some.ensures.reads.0

pub returns-clause-stands : goal.returns-clause-stands
returns-clause-stands c =
    let i = c.in-Some in
    let t = c.self.inside.tree in
    let piece = take (length c.args.bytes.now - length i.rest.now) c.args.bytes.now in
    line_stands_for c.args.self.now (reading_of t (Letter c.in-Letter.place)) (reading_of c.whole_line.new.tree (Letter i.next)) piece i.line (sym (ap (reading_of t) c.in-Letter.is) ∙ c.self.view_is)
    (begins_line c.args.bytes.now i.rest.now i.line i.ensures.reads.0).2 i.ensures.reads.1

pub returns-clause-says : goal.returns-clause-says
returns-clause-says c =
    let i = c.in-Some in
    let t = c.self.inside.tree in
    let piece = take (length c.args.bytes.now - length i.rest.now) c.args.bytes.now in
    line_says_for c.args.self.now (reading_of t (Letter c.in-Letter.place)) (reading_of c.whole_line.new.tree (Letter i.next)) piece i.line (sym (ap (reading_of t) c.in-Letter.is) ∙ c.self.view_is)
    (begins_line c.args.bytes.now i.rest.now i.line i.ensures.reads.0).2 i.ensures.reads.1
