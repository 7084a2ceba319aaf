use Rattle.std.proofs.Common.{arith, ◌∷◌}
use Rattle.qc_play.specs.Walk.{game_of}
use Rattle.qc_play.proofs.PartLines.{fewer_left}
use Rattle.qc_play.proofs.StepLines.{none_left, left_within, left_on, step_fits, more_left, one_left, all_taken}
use Rattle.qc_play.proofs.walk.Walk.take_steps.Goals as goal

pub loop-step-init : goal.loop-step-init
loop-step-init c = record {
  left = none_left (game_of c.args.tables.now) c.args.i.0 (c.args.first ∷ c.args.lines.now) c.args.self.now c.requires.within;
  shorter = omega arith;
}

pub take_step-requires-clause-within : goal.take_step-requires-clause-within
take_step-requires-clause-within c = left_within (game_of c.args.tables.now) c.args.i.0 (c.args.first ∷ c.args.lines.now) c.args.self.now c.requires.tree (c.loop-step.line ∷ c.loop-step.lines) c.loop-step.self c.loop-step.invariant.left

pub take_step-requires-clause-fits : goal.take_step-requires-clause-fits
take_step-requires-clause-fits c =
    step_fits (game_of c.args.tables.now) c.args.i.0 (c.args.first ∷ c.args.lines.now) c.args.self.now c.requires.tree c.loop-step.line c.loop-step.lines c.in-Some.step c.in-Some.ensures c.loop-step.self c.loop-step.invariant.left

pub take-line-requires : goal.take-line-requires
take-line-requires c =
    more_left (game_of c.args.tables.now) c.args.i.0 (c.args.first ∷ c.args.lines.now) c.args.self.now c.requires.tree c.loop-step.line c.loop-step.lines c.in-Some.step c.in-Some.ensures c.loop-step.self c.loop-step.invariant.left

pub loop-step-smaller : goal.loop-step-smaller
loop-step-smaller c = let t = c.take-line in fewer_left t.result t.new.self c.loop-step.lines t.ensures

pub loop-step-preserved : goal.loop-step-preserved
loop-step-preserved c =
    let t = c.take-line in
    let a = fewer_left t.result t.new.self c.loop-step.lines t.ensures in
    let b = c.loop-step.invariant.shorter in
    record {
      left =
          one_left (game_of c.args.tables.now) c.args.i.0 (c.args.first ∷ c.args.lines.now) c.args.self.now c.loop-step.line t.result c.loop-step.lines t.new.self c.in-Some.step c.in-Some.ensures t.ensures c.loop-step.self c.take_step.new.self
          c.loop-step.invariant.left c.take_step.ensures.content c.take_step.ensures.within c.take_step.ensures.on c.take_step.ensures.stands;
      shorter = omega (arith, a, b);
    }

pub returns-clause-within : goal.returns-clause-within
returns-clause-within c = left_within (game_of c.args.tables.now) c.args.i.0 (c.args.first ∷ c.args.lines.now) c.args.self.now c.requires.tree (c.loop-step.line ∷ c.loop-step.lines) c.loop-step.self c.loop-step.invariant.left

pub returns-clause-on : goal.returns-clause-on
returns-clause-on c = left_on (game_of c.args.tables.now) c.args.i.0 (c.args.first ∷ c.args.lines.now) c.args.self.now c.requires.tree (c.loop-step.line ∷ c.loop-step.lines) c.loop-step.self c.loop-step.invariant.left

pub returns-clause-taken : goal.returns-clause-taken
returns-clause-taken c = λ steps e rest is fits.
    all_taken (game_of c.args.tables.now) c.args.i.0 (c.args.first ∷ c.args.lines.now) c.args.self.now c.loop-step.line c.loop-step.lines c.in_default.ensures c.loop-step.self c.loop-step.invariant.left steps e rest is fits
