use Rattle.std.proofs.Common.{◌∙◌, sym, arith}
use Rattle.qc_play.proofs.PartLines.{some_step, none_step, dotted_some, dots_more, dots_some, dots_over, fewer_left}
use Rattle.qc_play.proofs.taking.pass_horizon.Goals as goal

pub take-line-requires : goal.take-line-requires
take-line-requires c = let r = c.requires in dotted_some c.args.lines.now r.0 r.1 r.2

pub loop-lines-init : goal.loop-lines-init
loop-lines-init c = record {
  dotted = λ steps rest h. (steps, sym c.take-line.ensures ∙ h);
  shorter = let a = fewer_left c.take-line.result c.take-line.new.self c.args.lines.now c.take-line.ensures in omega (arith, a);
}

pub take-line-requires-in-loop-lines : goal.take-line-requires-in-loop-lines
take-line-requires-in-loop-lines c =
    let r = c.requires in
    let s = some_step c.step_of.result c.loop-lines.line c.step_of.ensures (sym c.is_some.ensures ∙ c.loop-lines-test.true) in
    dots_some c.args.lines.now c.loop-lines.lines c.loop-lines.line s.0 r.0 r.1 s.1 c.loop-lines.invariant.dotted r.2

pub loop-lines-preserved : goal.loop-lines-preserved
loop-lines-preserved c =
    let s = some_step c.step_of.result c.loop-lines.line c.step_of.ensures (sym c.is_some.ensures ∙ c.loop-lines-test.true) in
    let t = c.take-line-in-loop-lines in
    let a = fewer_left t.result t.new.self c.loop-lines.lines t.ensures in
    let b = c.loop-lines.invariant.shorter in
    record {
      dotted = dots_more c.args.lines.now c.loop-lines.lines t.new.self c.loop-lines.line t.result s.0 s.1 t.ensures c.loop-lines.invariant.dotted;
      shorter = omega (arith, a, b);
    }

pub loop-lines-smaller : goal.loop-lines-smaller
loop-lines-smaller c = let t = c.take-line-in-loop-lines in fewer_left t.result t.new.self c.loop-lines.lines t.ensures

pub returns-clause-passed : goal.returns-clause-passed
returns-clause-passed c = λ steps rest h.
    dots_over c.args.lines.now c.loop-lines.lines c.loop-lines.line (none_step c.step_of.result c.loop-lines.line c.step_of.ensures (sym c.is_some.ensures ∙ c.loop-lines-test.false)) c.loop-lines.invariant.dotted steps rest h
