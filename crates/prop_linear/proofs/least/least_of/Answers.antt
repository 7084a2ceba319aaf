use Rattle.std.proofs.Common.{◌≡◌, ◌<◌, ◌≤◌, add-one, rules, arith, length, map, get_or, [], true, sym, subst, ℤ, ◌∙◌}
use Rattle.std.specs.Prelude.{pos, ◌+ℤ◌}
use Rattle.std.proofs.lemmas.Int.{to_z-of_z, fits_signed_from_abs}
use Rattle.std.proofs.lemmas.List.{length-map}
use mir.Val.{SFits, to_z}
use mir.Syntax.{w64, w128}
use Rattle.qc_model.specs.declared.problem.Arg.TheVariants.{Var}
use Rattle.qc_model.specs.Domains.{Values}
use Rattle.qc_model.specs.Refuted.{left_to}
use Rattle.qc_model.specs.Valid.{is_number}
use Rattle.qc_refuter.proofs.Terms.{item_left, abs_sum, open_at}
use Rattle.prop_linear.specs.Sides.{signed}
use Rattle.prop_linear.specs.Tightening.{IsNear, least_sum, term_of}
use Rattle.prop_linear.proofs.Moves.{near_more}
use Rattle.prop_linear.proofs.Lows.{signed_number, least_more, least_whole}
use Rattle.prop_linear.proofs.Sides.{signed_length}
use Rattle.prop_linear.proofs.least.least_of.Goals as goal

pub least_term-requires-clause-factor : goal.least_term-requires-clause-factor
least_term-requires-clause-factor c =
    let f : SFits w64 c.factor_at-factor.result = search rules in
    let k = c.loop-k.k in
    simp to_z-of_z (subst (λ z. is_number z ≡ true) (sym c.factor_at-factor.ensures) (signed_number c.args.negative c.args.factors.now k (omega (arith, c.requires.equal, c.loop-k-test.true)) c.requires.factors))

pub term_moves-requires-clause-factor : goal.term_moves-requires-clause-factor
term_moves-requires-clause-factor c =
    let f : SFits w64 c.factor_at-factor.result = search rules in
    let k = c.loop-k.k in
    simp to_z-of_z (subst (λ z. is_number z ≡ true) (sym c.factor_at-factor.ensures) (signed_number c.args.negative c.args.factors.now k (omega (arith, c.requires.equal, c.loop-k-test.true)) c.requires.factors))

pub term_moves-requires-clause-open : goal.term_moves-requires-clause-open
term_moves-requires-clause-open c =
    open_at c.args.store.now.box c.args.items.now c.loop-k.k (Var (record { 0 = 0 })) c.loop-k-test.true c.requires.open

pub loop-k-preserved : goal.loop-k-preserved
loop-k-preserved c =
    let k = c.loop-k.k in
    let ns = signed c.args.negative c.args.factors.now in
    let items = c.args.items.now in
    let box = c.args.store.now.box in
    let ds = map (left_to box) items in
    let term = c.least_term.result in
    let least = to_z w128 c.loop-k.least-bits in
    let n_fits : SFits w64 c.factor_at-factor.result = search rules in
    let fits : SFits w64 term = search rules in
    let wide : SFits w128 term = fits_signed_from_abs w128 term (omega (arith, c.least_term.ensures.small)) in
    let s = abs_sum least term in
    let few : k < 1000 = omega (arith, c.requires.few, c.loop-k-test.true) in
    let sum_fits : SFits w128 (least +ℤ term) = fits_signed_from_abs w128 (least +ℤ term) (omega (arith, s, few, c.loop-k.invariant.small, c.least_term.ensures.small)) in
    let as_many : length ds ≡ length items = length-map items (left_to box) in
    let item = item_left box items k (Var (record { 0 = 0 })) (omega (arith, c.loop-k-test.true)) in
    let value = simp to_z-of_z at c.least_term.ensures.value in
    let T : ℤ → Values → Type 0 = λ n d. term ≡ (term_of n d).from in
    let read : term ≡ (term_of (get_or ns k (pos 0)) (get_or ds k [])).from = subst (T (get_or ns k (pos 0))) (sym item) (subst (λ n. T n (left_to box (get_or items k (Var (record { 0 = 0 }))))) c.factor_at-factor.ensures value) in
    simp to_z-of_z
    (record {
      small = omega (arith, s, c.loop-k.invariant.small, c.least_term.ensures.small);
      sum = least_more ns ds k least term (least_sum ns items box) (omega (arith, signed_length c.args.negative c.args.factors.now, c.requires.equal, c.loop-k-test.true)) (omega (arith, as_many, c.loop-k-test.true)) read c.loop-k.invariant.sum;
      near = λ s e.
          let N : ℤ → Type 0 = λ n. IsNear n s (left_to box (get_or items k (Var (record { 0 = 0 })))) in
          let here = simp to_z-of_z at c.term_moves.ensures s (omega (arith, c.wider-widest.ensures.second, e)) in
          rw add-one
          (near_more s ns items k box (pos 0) (Var (record { 0 = 0 })) (omega (arith, signed_length c.args.negative c.args.factors.now, c.requires.equal, c.loop-k-test.true)) (omega (arith, c.loop-k-test.true))
          (c.loop-k.invariant.near s (omega (arith, c.wider-widest.ensures.first, e))) (subst N c.factor_at-factor.ensures here));
    })

pub least_term-requires-clause-open : goal.least_term-requires-clause-open
least_term-requires-clause-open c =
    open_at c.args.store.now.box c.args.items.now c.loop-k.k (Var (record { 0 = 0 })) c.loop-k-test.true c.requires.open

pub returns-clause-value : goal.returns-clause-value
returns-clause-value c =
    let ns = signed c.args.negative c.args.factors.now in
    let ds = map (left_to c.args.store.now.box) c.args.items.now in
    let as_many = signed_length c.args.negative c.args.factors.now ∙ c.requires.equal in
    least_whole ns ds c.loop-k.k (to_z w128 c.loop-k.least-bits) (least_sum ns c.args.items.now c.args.store.now.box) (subst (λ n. n ≤ c.loop-k.k) (sym as_many) c.loop-k-test.false) c.loop-k.invariant.sum
