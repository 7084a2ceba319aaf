use Rattle.std.proofs.Common.{◌∙◌, sym, ap, arith, ◌≤◌, length}
use Rattle.check_lines.specs.Passed.{is_in_case}
use Rattle.check_lines.specs.Places.{last_first, rest}
use Rattle.check_lines.proofs.Stacks.{top_two}
use Rattle.check_lines.proofs.nesting.Nesting.is_in_case.Goals as goal

pub returns : goal.returns
returns c =
    let m = c.self.inside in
    let xs = m.places.items in
    let room : m.depth ≤ length xs = omega (arith, c.self.invariant.0, c.self.invariant.1) in
    c.is_case.ensures (rest (rest (last_first xs m.depth)))
    ∙ (ap is_in_case (sym (top_two xs m.depth c.index.result.now c.index-2.result.now c.if-self-lt2.false room c.index.ensures c.index-2.ensures)) ∙ ap is_in_case c.self.view_is)
