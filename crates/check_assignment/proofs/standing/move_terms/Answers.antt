use Rattle.std.proofs.Common.{ap, rules, false, arith, length, get_or}
use Rattle.std.specs.Prelude.{pos}
use Rattle.std.proofs.lemmas.Int.{to_z-of_z}
use Rattle.std.proofs.lemmas.List.{take_all}
use mir.Val.{SFits}
use mir.Syntax.{w64, w128}
use Rattle.check_assignment.specs.declared.term.Term.{Term}
use Rattle.check_assignment.specs.declared.standing.Standing.{Standing}
use Rattle.check_assignment.specs.declared.test.Test.TheVariants.{Equal}
use Rattle.check_assignment.proofs.TermSums.{term_at}
use Rattle.check_assignment.proofs.Standings.{moved_more, total_small}
use Rattle.check_assignment.proofs.standing.move_terms.Goals as goal

pub grown-standing-requires-clause-total : goal.grown-standing-requires-clause-total
grown-standing-requires-clause-total c =
    let ts = c.args.terms.now in
    let j = c.loop-term.term-index in
    let t : Term = record { rule = 0; factor = pos 0 } in
    let d : Standing = record { total = pos 0; test = Equal; holds = false } in
    let step_fits : SFits w64 c.args.step = c.ranges.step in
    let total_fits : SFits w128 (get_or c.loop-term.standings (get_or ts j t).rule d).total = search rules in
    let are = simp to_z-of_z at c.loop-term.invariant in
    simp to_z-of_z
    (total_small c.args.standings.now c.loop-term.standings ts c.args.step j (get_or ts j t).rule d are c.requires.small c.requires.terms c.requires.step
    (term_at (length c.args.standings.now) ts j t c.requires.terms c.loop-term-test.true).0 (search rules))

pub loop-term-preserved : goal.loop-term-preserved
loop-term-preserved c =
    let ts = c.args.terms.now in
    let j = c.loop-term.term-index in
    let t : Term = record { rule = 0; factor = pos 0 } in
    let d : Standing = record { total = pos 0; test = Equal; holds = false } in
    let step_fits : SFits w64 c.args.step = c.ranges.step in
    let total_fits : SFits w128 (get_or c.loop-term.standings (get_or ts j t).rule d).total = search rules in
    let factor_fits : SFits w64 (get_or ts j t).factor = search rules in
    let grown_fits : SFits w128 c.grown-standing.result = search rules in
    let are = simp to_z-of_z at c.loop-term.invariant in
    let is = simp to_z-of_z at c.grown-standing.ensures in
    simp to_z-of_z
    (moved_more c.args.standings.now c.loop-term.standings ts c.args.step j t d _ are c.loop-term.auto.standings c.requires.terms c.loop-term-test.true
    (ap (λ z. record { total = z; test = (get_or c.loop-term.standings (get_or ts j t).rule d).test; holds = false }) is))

pub returns-clause-moved : goal.returns-clause-moved
returns-clause-moved c =
    let step_fits : SFits w64 c.args.step = c.ranges.step in
    let are = simp to_z-of_z at c.loop-term.invariant in
    let all = take_all c.loop-term.term-index c.args.terms.now (omega arith) in
    rw (← all) are
