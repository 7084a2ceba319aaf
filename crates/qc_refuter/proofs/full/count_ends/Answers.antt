use Rattle.std.proofs.Common.{◌≡◌, ◌∙◌, ◌+◌, sym, ap, subst, rules, arith, true, map, take, cond, get_or, ℤ}
use Rattle.std.specs.Prelude.{count_by}
use Rattle.std.proofs.lemmas.Int.{to_z-of_z}
use Rattle.std.proofs.lemmas.List.{take_all}
use mir.Val.{SFits}
use mir.Syntax.{w64}
use Rattle.qc_model.specs.declared.problem.Arg.TheVariants.{Var}
use Rattle.qc_model.specs.Domains.{least_value}
use Rattle.qc_model.specs.Refuted.{left_to}
use Rattle.qc_model.specs.Valid.{is_number}
use Rattle.qc_refuter.specs.Met.{seen}
use Rattle.qc_refuter.specs.Full.{ends_past}
use Rattle.qc_refuter.proofs.Terms.{least_small}
use Rattle.qc_refuter.proofs.Fill.{counted_take, few_counted}
use Rattle.qc_refuter.proofs.full.count_ends.Goals as goal

pub loop-item-init : goal.loop-item-init
loop-item-init c k h = c.clear.ensures.zero k h

pub count_end-requires-clause-low : goal.count_end-requires-clause-low
count_end-requires-clause-low c =
    let l_fits : SFits w64 c.least-low.result = search rules in
    simp to_z-of_z (subst (λ z. is_number z ≡ true) (sym c.least-low.ensures) (least_small (left_to (seen c.args.view.now) c.args.first) c.requires.first))

pub count_end-requires-clause-small : goal.count_end-requires-clause-small
count_end-requires-clause-small c k h =
    let box = seen c.args.view.now in
    omega (arith, c.loop-item.invariant k h, few_counted (ends_past (least_value (left_to box c.args.first)) k) box c.args.items.now c.loop-item.item-index, c.loop-item-test.true, c.requires.few)

pub loop-item-preserved : goal.loop-item-preserved
loop-item-preserved c k h =
    let l_fits : SFits w64 c.least-low.result = search rules in
    let box = seen c.args.view.now in
    let item = get_or c.args.items.now c.loop-item.item-index (Var (record { 0 = 0 })) in
    let more = counted_take (ends_past (least_value (left_to box c.args.first)) k) box c.args.items.now c.loop-item.item-index (Var (record { 0 = 0 })) c.loop-item-test.true in
    let counts = simp to_z-of_z at c.count_end.ensures.counts in
    let C : ℤ → Type 0 = λ l. get_or c.count_end.new.counts k 0 ≡ get_or c.loop-item.counts k 0 + cond (ends_past l k (left_to box item)) 1 0 in
    let here : C (least_value (left_to box c.args.first)) = subst C c.least-low.ensures (counts k h) in
    omega (arith, here, c.loop-item.invariant k (omega (arith, h, c.count_end.ensures.length)), more)

pub returns-clause-counts : goal.returns-clause-counts
returns-clause-counts c k h =
    let box = seen c.args.view.now in
    let all : take c.loop-item.item-index c.args.items.now ≡ c.args.items.now = take_all c.loop-item.item-index c.args.items.now (omega arith) in
    c.loop-item.invariant k h ∙ ap (λ l. count_by (ends_past (least_value (left_to box c.args.first)) k) (map (left_to box) l)) all
