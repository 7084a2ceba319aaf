use Rattle.std.proofs.Common.{◌≡◌, ◌∙◌, ◌+◌, sym, ap, subst, refl, arith, length}
use Rattle.check_lines.specs.LedgerHeld.{goes_through}
use Rattle.check_lines.specs.Machine.{game_of}
use Rattle.check_lines.specs.Telling.{TellsAfter}
use Rattle.check_lines.proofs.Turning.{line_taken, none_dropped}
use Rattle.check_lines.proofs.machine.Machine.lines.Goals as goal

pub loop-line-init : goal.loop-line-init
loop-line-init c = record {
  tells = λ n p few t. let none : n ≡ n + 0 = omega arith in (p, subst (λ k. TellsAfter k c.args.self.now p) none t, refl);
  ready = c.requires.ready;
  same = refl;
  base = refl;
}

pub loop-line-preserved : goal.loop-line-preserved
loop-line-preserved c = record {
  tells = λ n p few t.
      let g = game_of c.args.self.now in
      let i = c.loop-line.line-index in
      let ls = c.args.lines.now in
      let r = c.loop-line.invariant.tells n p few t in
      let below = c.loop-line-test.true in
      let made = c.line.ensures.tells (n + i) r.0 (omega (arith, few, below)) r.1 in
      line_taken c.line.new.self g (game_of c.loop-line.self) ls i _ n r.0 p below c.loop-line.invariant.same made r.2;
  ready = c.line.ensures.ready;
  same = c.line.ensures.same ∙ c.loop-line.invariant.same;
  base = c.line.ensures.base ∙ c.loop-line.invariant.base;
}

pub returns-clause-tells : goal.returns-clause-tells
returns-clause-tells c = λ n p few t.
    let g = game_of c.args.self.now in
    let ls = c.args.lines.now in
    let r = c.loop-line.invariant.tells n p few t in
    let all : c.loop-line.line-index ≡ length ls = omega (arith, c.loop-line.auto.line-index-end, c.loop-line-test.false) in
    subst (λ k. TellsAfter (n + k) c.loop-line.self (goes_through g p ls)) all
    (subst (TellsAfter (n + c.loop-line.line-index) c.loop-line.self) (sym (ap (goes_through g r.0) (none_dropped ls c.loop-line.line-index c.loop-line-test.false)) ∙ r.2) r.1)
