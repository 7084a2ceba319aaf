use Rattle.proof_text.proofs.Walking.{letter_line, letter_next, letter_branch}
use Rattle.proof_text.proofs.walk.letter_byte.Goals as goal

pub returns-in-Line-clause-goes : goal.returns-in-Line-clause-goes
returns-in-Line-clause-goes c = letter_line c.args.tree.now c.open_letter.new.tree c.args.place c.in-Line.place c.in-Line.part c.args.byte c.in-Line.ensures.opens

pub returns-in-Next-clause-goes : goal.returns-in-Next-clause-goes
returns-in-Next-clause-goes c =
    letter_next c.args.tree.now c.open_letter.new.tree c.go_in.new.tree c.args.place c.args.byte c.in-Next.ensures.opens (c.go_in.ensures.version, c.go_in.ensures.nesting, c.go_in.ensures.levels)

pub returns-in-Branch-clause-goes : goal.returns-in-Branch-clause-goes
returns-in-Branch-clause-goes c =
    let g = c.go_in-in-Branch in
    letter_branch c.args.tree.now c.open_letter.new.tree g.new.tree c.args.place c.args.byte c.in-Branch.ensures.opens (g.ensures.version, g.ensures.nesting, g.ensures.levels)
