use Rattle.std.proofs.Common.{◌≡◌, ◌∙◌, ap, refl, sym, Bool, true, false, not, ◌&&◌, nat_eq, of_z, w64, ℤ, rules}
use Rattle.std.specs.Ordering.{int_eq}
use mir.Val.{SFits}
use mathlib.Core.Bool.{beq}
use Rattle.qc_model.specs.Domains.{Values, is_single, least_value}
use Rattle.qc_model.specs.Holds.{same_truth, is_one}
use Rattle.qc_model.specs.Left.{left_at}
use Rattle.qc_refuter.specs.Met.{seen, lefts}
use Rattle.qc_model.proofs.Bits.{same_bits, one_bit}
use Rattle.qc_refuter.proofs.truths.exactly_one_refuted.Goals as goal

same_word : (a b : Bool) → beq a b ≡ same_truth a b
same_word true true = refl
same_word true false = refl
same_word false true = refl
same_word false false = refl

-- three that hold, and what is left to ask
all_three : (a b c p : Bool) → a ≡ true → b ≡ true → c ≡ true → p ≡ (((a && b) && c) && p)
all_three true true true p e f g = refl
all_three false b c p e f g = cc
all_three true false c p e f g = cc
all_three true true false p e f g = cc

-- whether the third says that the others differ
not_said : (x y z : ℤ) (d e f : Values) → SFits w64 x → SFits w64 y → SFits w64 z → x ≡ least_value d → y ≡ least_value e → z ≡ least_value f →
    not (beq (nat_eq (of_z w64 z) 1) (not (nat_eq (of_z w64 x) (of_z w64 y)))) ≡ not (same_truth (is_one (least_value f)) (not (int_eq (least_value d) (least_value e))))
not_said x y z d e f fx fy fz p q r =
    ap not (same_word (nat_eq (of_z w64 z) 1) (not (nat_eq (of_z w64 x) (of_z w64 y)))
    ∙ (ap (λ t. same_truth t (not (nat_eq (of_z w64 x) (of_z w64 y)))) (one_bit z fz ∙ ap is_one r)
    ∙ ap (λ t. same_truth (is_one (least_value f)) (not t)) (same_bits x y fx fy ∙ (ap (λ u. int_eq u y) p ∙ ap (λ u. int_eq (least_value d) u) q))))

pub returns : goal.returns
returns c =
    let args = lefts (seen c.args.view.now) c.args.args.now in
    let x_fits : SFits w64 c.least_at.result = search rules in
    let y_fits : SFits w64 c.least_at-2.result = search rules in
    let z_fits : SFits w64 c.least_at-said.result = search rules in
    not_said c.least_at.result c.least_at-2.result c.least_at-said.result (left_at args 0) (left_at args 1) (left_at args 2) x_fits y_fits z_fits c.least_at.ensures c.least_at-2.ensures c.least_at-said.ensures
    ∙ all_three (is_single (left_at args 0)) (is_single (left_at args 1)) (is_single (left_at args 2)) _
    (sym c.is_fixed_at.ensures ∙ c.if-not-is_fixed_at.false) (sym c.is_fixed_at-2.ensures ∙ c.if-not-is_fixed_at-2.false) (sym c.is_fixed_at-3.ensures ∙ c.if-not-is_fixed_at-3.false)
