use Rattle.std.proofs.Common.{◌∙◌, ◌-◌, sym, subst, rules, arith, get_or, length, ℕ, Bool}
use Rattle.std.specs.Prelude.{pos, ◌<ℤ◌}
use Rattle.std.proofs.lemmas.Int.{to_z-of_z}
use mir.Val.{SFits}
use mir.Syntax.{w64}
use Rattle.qc_model.specs.Domains.{has_value}
use Rattle.qc_model.specs.Refuted.{left_to}
use Rattle.prop_element.proofs.Sets.{left_none_over, one_before, listed_last, none_listed}
use Rattle.prop_element.proofs.members.last_listed.Goals as goal

pub loop-k-init : goal.loop-k-init
loop-k-init c =
    let l_fits : SFits w64 c.greatest.result = search rules in
    let d = left_to c.args.store.now.box c.args.a in
    record {
      most = c.place_past-k.ensures.most;
      none = λ j h m.
          let b = simp to_z-of_z at c.place_past-k.ensures.after j h m in
          left_none_over d (get_or c.args.numbers.now j (pos 0)) (subst (λ z. z <ℤ get_or c.args.numbers.now j (pos 0)) c.greatest.ensures b);
    }

pub returns-then-has-clause-some : goal.returns-then-has-clause-some
returns-then-has-clause-some c =
    let k = c.loop-k.k - 1 in
    let n_fits : SFits w64 (get_or c.args.numbers.now k (pos 0)) = search rules in
    let e = simp to_z-of_z at c.has.ensures in
    let i = c.loop-k.invariant in
    let t = c.loop-k-test.true in
    let m = i.most in
    simp to_z-of_z (listed_last (left_to c.args.store.now.box c.args.a) c.args.numbers.now k c.requires.ascending (omega (arith, t, m)) (λ j h g. i.none j (omega (arith, h, t)) g) (sym e ∙ c.if-has.true))

pub loop-k-preserved : goal.loop-k-preserved
loop-k-preserved c =
    let k = c.loop-k.k in
    let d = left_to c.args.store.now.box c.args.a in
    let n_fits : SFits w64 (get_or c.args.numbers.now (k - 1) (pos 0)) = search rules in
    let e = simp to_z-of_z at c.has.ensures in
    let f : ℕ → Bool = λ j. has_value d (get_or c.args.numbers.now j (pos 0)) in
    let m = c.loop-k.invariant.most in
    record {
      most = omega (arith, m);
      none = one_before f k (length c.args.numbers.now) c.loop-k.invariant.none (sym e ∙ c.if-has.false);
    }

pub returns-clause-none : goal.returns-clause-none
returns-clause-none c = none_listed (left_to c.args.store.now.box c.args.a) c.args.numbers.now (λ j h. c.loop-k.invariant.none j (omega arith) h)
