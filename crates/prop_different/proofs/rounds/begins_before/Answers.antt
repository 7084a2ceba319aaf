use Rattle.qc_model.specs.declared.problem.Arg.TheVariants.{Var}
use Rattle.prop_different.proofs.Placed.{open_item, earlier, left_there}
use Rattle.std.proofs.Common.{◌∙◌, sym, ap, refl, length, get_or, rules, ◌≡◌}
use Rattle.std.proofs.lemmas.Int.{to_z-of_z}
use mir.Val.{SFits, to_z}
use mir.Syntax.{w64}
use Rattle.qc_model.specs.Domains.{least_value}
use Rattle.prop_different.proofs.rounds.begins_before.Goals as goal

pub least-low-requires : goal.least-low-requires
least-low-requires c = open_item c.args.problem.now c.args.rule.now c.args.store.now.box c.args.items.now c.args.place (Var (record { 0 = 0 })) c.requires.asked c.requires.different c.requires.place

pub least-requires : goal.least-requires
least-requires c = open_item c.args.problem.now c.args.rule.now c.args.store.now.box c.args.items.now c.loop-j.j (Var (record { 0 = 0 })) c.requires.asked c.requires.different (earlier c.loop-j.j c.args.place (length c.args.items.now) c.loop-j-test.true c.requires.place)

pub returns-then-least-low : goal.returns-then-least-low
returns-then-least-low c _ =
    let box = c.args.store.now.box in
    let items = c.args.items.now in
    let j = c.loop-j.j in
    let first = get_or items j (Var (record { 0 = 0 })) in
    let second = get_or items c.args.place (Var (record { 0 = 0 })) in
    let here = ap least_value (left_there box items j (Var (record { 0 = 0 })) first (earlier j c.args.place (length items) c.loop-j-test.true c.requires.place) refl) in
    let there = ap least_value (left_there box items c.args.place (Var (record { 0 = 0 })) second c.requires.place refl) in
    let here_fits : SFits w64 c.least.result = search rules in
    let there_fits : SFits w64 c.least-low.result = search rules in
    let equal : c.least.result ≡ c.least-low.result = simp to_z-of_z at (ap (to_z w64) c.if-least-low.true) in
    (j, c.loop-j-test.true, sym here ∙ (sym c.least.ensures ∙ (equal ∙ (c.least-low.ensures ∙ there))))
