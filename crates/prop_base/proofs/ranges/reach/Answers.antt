use Rattle.std.proofs.Common.{◌≡◌, ◌+◌, ◌-◌, ◌≤◌, sym, subst, arith, true, false}
use Rattle.prop_base.specs.Wider.{wider, refutes_range}
use Rattle.prop_base.proofs.Widening.{wider_none, wider_cut}
use Rattle.prop_base.proofs.ranges.reach.Goals as goal

pub loop-doubted-init : goal.loop-doubted-init
loop-doubted-init g c = record {
  cut = wider_none c.args.rule.now c.args.store.now.box c.args.after c.args.range c.requires.range;
  room = omega arith;
  widest = λ h. absurd (omega (arith, h));
}

pub loop-doubted-preserved-then-refutes_wider : goal.loop-doubted-preserved-then-refutes_wider
loop-doubted-preserved-then-refutes_wider g c =
    let r = c.args.rule.now in
    let box = c.args.store.now.box in
    let k = c.loop-doubted.refuted in
    let d = c.loop-doubted.doubted in
    let s = c.stride-step.result in
    let i = c.loop-doubted.invariant in
    let same : k + s + (d - s) ≡ k + d = omega (arith, c.stride-step.ensures.most) in
    let few : k + s ≤ c.args.room = omega (arith, i.room, c.stride-step.ensures.most) in
    let goes : true ≡ refutes_range r box (wider c.args.after c.args.range (k + s)) = c.if-refutes_wider.ensures in
    record {
      cut = wider_cut r box c.args.after c.args.range (k + s) c.args.room c.requires.range few c.requires.low c.requires.high (sym goes);
      room = omega (arith, same, i.room);
      widest = λ h. subst (λ n. refutes_range r box (wider c.args.after c.args.range (n + 1)) ≡ false) (sym same) (i.widest (omega (arith, same, h)));
    }

pub loop-doubted-preserved : goal.loop-doubted-preserved
loop-doubted-preserved g c =
    let r = c.args.rule.now in
    let box = c.args.store.now.box in
    let k = c.loop-doubted.refuted in
    let s = c.stride-step.result in
    let i = c.loop-doubted.invariant in
    let next : k + (s - 1) + 1 ≡ k + s = omega (arith, c.stride-step.ensures.some) in
    let stays : false ≡ refutes_range r box (wider c.args.after c.args.range (k + s)) = c.if-refutes_wider.ensures in
    record {
      cut = i.cut;
      room = omega (arith, i.room, c.stride-step.ensures.most, c.stride-step.ensures.some);
      widest = λ h. subst (λ n. refutes_range r box (wider c.args.after c.args.range n) ≡ false) (sym next) (sym stays);
    }

pub returns-clause-widest : goal.returns-clause-widest
returns-clause-widest g c =
    let r = c.args.rule.now in
    let box = c.args.store.now.box in
    let k = c.loop-doubted.refuted in
    let d = c.loop-doubted.doubted in
    let none : k + d ≡ k = omega (arith, c.loop-doubted-test.false) in
    λ h. subst (λ n. refutes_range r box (wider c.args.after c.args.range (n + 1)) ≡ false) none (c.loop-doubted.invariant.widest (omega (arith, none, h)))
