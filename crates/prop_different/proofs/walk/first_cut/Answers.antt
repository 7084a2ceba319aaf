use Rattle.std.proofs.Common.{◌≡◌, ◌∙◌, ℕ, ◌<◌, sym, ap, subst, refl, rules, arith, true, length, map, get_or, [], ℤ, List}
use Rattle.std.proofs.lemmas.Int.{to_z-of_z}
use Rattle.std.proofs.lemmas.List.{length-map}
use mir.Val.{SFits}
use mir.Syntax.{w64}
use Rattle.qc_model.specs.declared.problem.Arg.TheVariants.{Var}
use Rattle.qc_model.specs.Domains.{Values, least_value}
use Rattle.qc_model.specs.Refuted.{left_to}
use Rattle.qc_model.specs.Valid.{is_number}
use Rattle.model_arguments.proofs.Boxes.{seen_place}
use Rattle.qc_refuter.specs.Full.{held, AreWidest}
use Rattle.qc_refuter.proofs.Terms.{least_small}
use Rattle.prop_base.proofs.Whole.{whole_cut}
use Rattle.prop_different.specs.Different.{IsLeftAlone, AreRooms}
use Rattle.prop_different.specs.Quiet.{IsQuiet}
use Rattle.prop_different.proofs.Alone.{quiet_of, quiet_none}
use Rattle.prop_different.proofs.Items.{crowd_refutes}
use Rattle.prop_different.proofs.Placed.{open_item, left_there}
use Rattle.prop_different.proofs.Options.{none_so}
use Rattle.prop_different.proofs.walk.first_cut.Goals as goal

rooms_at : (ds : List Values) (l m : ℤ) (rooms : List ℕ) (last : ℕ) → l ≡ m → length rooms ≡ length ds → AreWidest (held ds m) rooms last → AreRooms ds l rooms last
rooms_at ds l m rooms last e n w = subst (λ z. AreRooms ds z rooms last) (sym e) (record { count = n; widest = w })

pub items_cut-requires-clause-low : goal.items_cut-requires-clause-low
items_cut-requires-clause-low c =
    let l_fits : SFits w64 c.least-low.result = search rules in
    let box = c.args.store.now.box in
    let opened = open_item c.args.problem.now c.args.rule.now box c.args.items.now c.args.place (Var (record { 0 = 0 })) c.requires.asked c.requires.different c.requires.place in
    simp to_z-of_z (subst (λ z. is_number z ≡ true) (sym c.least-low.ensures) (least_small (left_to box (get_or c.args.items.now c.args.place (Var (record { 0 = 0 })))) opened))

pub items_cut-requires-clause-rooms : goal.items_cut-requires-clause-rooms
items_cut-requires-clause-rooms c =
    let l_fits : SFits w64 c.least-low.result = search rules in
    let box = c.args.store.now.box in
    let xs = c.args.items.now in
    let all = rooms_at (map (left_to box) xs) c.least-low.result (least_value (left_to box (get_or xs c.args.place (Var (record { 0 = 0 }))))) c.widest_full.new.widest c.in-Some.last
    c.least-low.ensures (c.in-Some.ensures.length ∙ sym (length-map xs (left_to box))) c.in-Some.ensures.some in
    simp to_z-of_z all

pub returns-in-None-clause-some : goal.returns-in-None-clause-some
returns-in-None-clause-some c =
    let g = c.args.problem.now in
    let r = c.args.rule.now in
    let box = c.args.store.now.box in
    let xs = c.args.items.now in
    let q = c.in-None.ensures.none in
    let l = seen_place g box r.owner.0 c.args.spare.0 c.requires.asked.declared c.requires.spare in
    whole_cut g r box c.args.spare c.known.ensures.domains c.requires.asked l
    (crowd_refutes g r xs box (least_value (left_to box (get_or xs c.args.place (Var (record { 0 = 0 }))))) q.0 c.requires.different q.1)

pub returns-else-last-eq0-clause-none : goal.returns-else-last-eq0-clause-none
returns-else-last-eq0-clause-none c =
    let l_fits : SFits w64 c.least-low.result = search rules in
    let box = c.args.store.now.box in
    let xs = c.args.items.now in
    let ds = map (left_to box) xs in
    let first = get_or xs c.args.place (Var (record { 0 = 0 })) in
    let low = c.least-low.result in
    let n = simp to_z-of_z at c.items_cut.ensures.none in
    let same : low ≡ least_value (get_or ds c.args.place []) = c.least-low.ensures ∙ ap least_value (left_there box xs c.args.place (Var (record { 0 = 0 })) first c.requires.place refl) in
    let rooms = rooms_at ds low (least_value (left_to box first)) c.widest_full.new.widest c.in-Some.last c.least-low.ensures (c.in-Some.ensures.length ∙ sym (length-map xs (left_to box))) c.in-Some.ensures.some in
    let P : ℤ → Type 0 = λ l. IsQuiet ds l in
    none_so c.items_cut.result ((k : ℕ) → k < length xs → IsLeftAlone ds low (get_or ds k [])) (P (least_value (get_or ds c.args.place [])))
    (λ f. subst P same (quiet_of ds low c.widest_full.new.widest c.in-Some.last rooms (λ k h. f k (omega (arith, h, length-map xs (left_to box)))))) n

pub returns-then-last-eq0-clause-none : goal.returns-then-last-eq0-clause-none
returns-then-last-eq0-clause-none c =
    let box = c.args.store.now.box in
    let xs = c.args.items.now in
    let ds = map (left_to box) xs in
    let first = left_to box (get_or xs c.args.place (Var (record { 0 = 0 }))) in
    let same = ap least_value (left_there box xs c.args.place (Var (record { 0 = 0 })) (get_or xs c.args.place (Var (record { 0 = 0 }))) c.requires.place refl) in
    let rooms = rooms_at ds (least_value first) (least_value first) c.widest_full.new.widest c.in-Some.last refl (c.in-Some.ensures.length ∙ sym (length-map xs (left_to box))) c.in-Some.ensures.some in
    let P : ℤ → Type 0 = λ l. IsQuiet ds l in
    subst P same (quiet_none ds (least_value first) c.widest_full.new.widest c.in-Some.last rooms c.if-last-eq0.true)

pub least-low-requires : goal.least-low-requires
least-low-requires c = open_item c.args.problem.now c.args.rule.now c.args.store.now.box c.args.items.now c.args.place (Var (record { 0 = 0 })) c.requires.asked c.requires.different c.requires.place

pub widest_full-requires-clause-first : goal.widest_full-requires-clause-first
widest_full-requires-clause-first c = open_item c.args.problem.now c.args.rule.now c.args.store.now.box c.args.items.now c.args.place (Var (record { 0 = 0 })) c.requires.asked c.requires.different c.requires.place
