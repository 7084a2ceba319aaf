use Rattle.std.proofs.Common.{◌≡◌, sym, ap, ◌∙◌, ◌+◌, ◌≤◌, arith}
use Rattle.proof_text.specs.declared.letters.Place.TheVariants.{Node, Closed}
use Rattle.proof_text.specs.declared.walk.At.TheVariants.{Letter}
use Rattle.proof_text.specs.Walks.{reading_of}
use Rattle.proof_text.proofs.Passing.{is_due, node_stands_for, node_says_for}
use Rattle.proof_text.proofs.reader.LineReader.pass_node.Goals as goal

pub returns-clause-stands : goal.returns-clause-stands
returns-clause-stands c =
    let t = c.self.inside.tree in
    let i = c.in-Letter-Node in
    let node : i.field-0 ≡ Node = rw i.is at i.field-0-is in
    let room : t.nesting + c.args.depth ≤ 1000 = omega arith in
    λ yes. node_stands_for c.args.depth c.args.self.now (reading_of t (Letter Node)) (reading_of t (Letter Closed)) (sym (ap (reading_of t) (i.is ∙ ap Letter node)) ∙ c.self.view_is) (is_due c.args.depth t c.in-Two.is room)

pub returns-clause-says : goal.returns-clause-says
returns-clause-says c =
    let t = c.self.inside.tree in
    let i = c.in-Letter-Node in
    let node : i.field-0 ≡ Node = rw i.is at i.field-0-is in
    let room : t.nesting + c.args.depth ≤ 1000 = omega arith in
    λ yes. node_says_for c.args.depth c.args.self.now (reading_of t (Letter Node)) (reading_of t (Letter Closed)) (sym (ap (reading_of t) (i.is ∙ ap Letter node)) ∙ c.self.view_is) (is_due c.args.depth t c.in-Two.is room)
