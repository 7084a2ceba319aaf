use Rattle.std.proofs.Common.{◌∙◌, ◌<◌, ◌≡◌, sym, subst, true, length, arith, take, drop}
use Rattle.std.specs.List.{list_all}
use Rattle.qc_model.specs.Domains.{is_single}
use Rattle.search_box.proofs.Places.{fixed_more, fixed_none}
use Rattle.search_box.proofs.reading.next_unfixed.Goals as goal

pub loop-at-init : goal.loop-at-init
loop-at-init c = record { after = omega arith; fixed = fixed_none c.args.store.now.box c.args.x }

pub loop-at-preserved : goal.loop-at-preserved
loop-at-preserved c =
    let box = c.args.store.now.box in
    let at = c.loop-at.at in
    let inside : at < length box = omega (arith, c.loop-at-test.true, c.requires.bound) in
    record {
      after = omega (arith, c.loop-at.invariant.after);
      fixed = fixed_more box c.args.x at c.loop-at.invariant.after inside (sym c.is_fixed.ensures ∙ c.if-not-is_fixed.false) c.loop-at.invariant.fixed;
    }

pub returns-clause-fixed : goal.returns-clause-fixed
returns-clause-fixed c =
    let last : c.loop-at.at ≡ c.args.stop = omega (arith, c.loop-at-test.false, c.requires.order) in
    subst (λ n. list_all is_single (drop c.args.x (take n c.args.store.now.box)) ≡ true) last c.loop-at.invariant.fixed
