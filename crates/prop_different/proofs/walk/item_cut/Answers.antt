use Rattle.std.proofs.Common.{◌≡◌, subst, rules, List, map, get_or, []}
use Rattle.std.proofs.lemmas.Int.{to_z-of_z}
use mir.Val.{SFits}
use mir.Syntax.{w64}
use Rattle.qc_model.specs.declared.problem.Arg.TheVariants.{Var, Num}
use Rattle.qc_model.specs.Domains.{Values, values_left}
use Rattle.qc_model.specs.Refuted.{left_to}
use Rattle.prop_base.specs.Closed.{IsCut}
use Rattle.prop_different.specs.Different.{IsLeftAlone, IsFullCut, AreRooms}
use Rattle.prop_different.proofs.Alone.{alone_number}
use Rattle.prop_different.proofs.Items.{full_cut}
use Rattle.prop_different.proofs.Placed.{placed, open_there, left_there}
use Rattle.prop_different.proofs.Options.{none_so, some_so}
use Rattle.prop_different.proofs.walk.item_cut.Goals as goal

pub range_cut-requires-clause-x : goal.range_cut-requires-clause-x
range_cut-requires-clause-x c =
    placed c.args.problem.now c.args.rule.now c.args.store.now.box c.args.items.now c.args.k c.in-Var.x (Var (record { 0 = 0 })) c.requires.asked c.requires.different c.requires.place c.in-Var.is

pub range_cut-requires-clause-open : goal.range_cut-requires-clause-open
range_cut-requires-clause-open c =
    open_there c.args.problem.now c.args.rule.now c.args.store.now.box c.args.items.now c.args.k c.in-Var.x (Var (record { 0 = 0 })) c.known.ensures.domains c.requires.asked c.requires.different c.requires.place c.in-Var.is

pub returns-in-Num-clause-none : goal.returns-in-Num-clause-none
returns-in-Num-clause-none c =
    let box = c.args.store.now.box in
    let ds = map (left_to box) c.args.items.now in
    let P : Values → Type 0 = λ d. IsLeftAlone ds c.args.low d in
    subst P (left_there box c.args.items.now c.args.k (Var (record { 0 = 0 })) (Num c.in-Num.field-0) c.requires.place c.in-Num.is) (alone_number ds c.args.low c.in-Num.field-0)

pub returns-in-Var-clause-none : goal.returns-in-Var-clause-none
returns-in-Var-clause-none c =
    let low_fits : SFits w64 c.args.low = search rules in
    let box = c.args.store.now.box in
    let ds = map (left_to box) c.args.items.now in
    let d = values_left box c.in-Var.x.0 in
    let P : Values → Type 0 = λ d. IsLeftAlone ds c.args.low d in
    let n = simp to_z-of_z at c.range_cut.ensures.none in
    none_so c.range_cut.result ((ds : List Values) → AreRooms ds c.args.low c.args.rooms.now c.args.last → IsLeftAlone ds c.args.low d) (P (get_or ds c.args.k []))
    (λ f. subst P (left_there box c.args.items.now c.args.k (Var (record { 0 = 0 })) (Var c.in-Var.x) c.requires.place c.in-Var.is) (f ds c.requires.rooms)) n

pub returns-in-Var-clause-some : goal.returns-in-Var-clause-some
returns-in-Var-clause-some c =
    let low_fits : SFits w64 c.args.low = search rules in
    let g = c.args.problem.now in
    let r = c.args.rule.now in
    let xs = c.args.items.now in
    let box = c.args.store.now.box in
    let ds = map (left_to box) xs in
    let d = values_left box c.in-Var.x.0 in
    let n = simp to_z-of_z at c.range_cut.ensures.some in
    some_so c.range_cut.result (λ k. (k.x ≡ c.in-Var.x) × ((ds : List Values) → AreRooms ds c.args.low c.args.rooms.now c.args.last → IsFullCut ds c.args.low d k.lo k.hi)) (λ k. IsCut r box k)
    (λ k h. full_cut g r xs box c.args.k c.in-Var.x c.args.low k (Var (record { 0 = 0 })) c.requires.different c.requires.place c.in-Var.is (placed g r box xs c.args.k c.in-Var.x (Var (record { 0 = 0 })) c.requires.asked c.requires.different c.requires.place c.in-Var.is) h.0 (h.1 ds c.requires.rooms)) n
