use Rattle.std.proofs.Common.{◌≡◌, ◌<◌, ◌+◌, [], ◌∷◌, ◌++◌, length, take, set, get_or, ap, sym, ◌∙◌, rules, arith}
use Rattle.std.specs.Prelude.{pos}
use Rattle.std.proofs.lemmas.Int.{to_z-of_z}
use Rattle.std.proofs.lemmas.List.{length-map, get_or-map, take_more, take_more_set}
use mir.Val.{SFits}
use mir.Syntax.{w64}
use Rattle.qc_model.specs.declared.problem.Arg.TheVariants.{Var}
use Rattle.model_evaluation.specs.Evaluation.{item_values}
use Rattle.qc_model.specs.Holds.{arg_value}
use Rattle.model_evaluation.proofs.differing.write_values.Goals as goal

pub loop-k-preserved : goal.loop-k-preserved
loop-k-preserved c =
    let f = arg_value c.args.values.now in
    let vs = item_values c.args.values.now c.args.items.now in
    let k = c.loop-k.k in
    let v = c.value_of.result in
    let fits : SFits w64 v = search rules in
    let within : k < length vs = omega (arith, length-map c.args.items.now f, c.loop-k-test.true) in
    let room : k < length c.loop-k.buffer = omega (arith, c.requires, c.loop-k.auto.buffer, c.loop-k-test.true) in
    let value : v ≡ get_or vs k (pos 0) = c.value_of.ensures ∙ sym (get_or-map f c.args.items.now k (Var (record { 0 = 0 })) (pos 0) c.loop-k-test.true) in
    let written : take (k + 1) (set c.loop-k.buffer k v) ≡ take (k + 1) vs =
    take_more_set c.loop-k.buffer k v room
    ∙ ap (λ l. l ++ v ∷ []) c.loop-k.invariant
    ∙ ap (λ z. take k vs ++ z ∷ []) value
    ∙ sym (take_more vs k (pos 0) within) in
    simp to_z-of_z written
