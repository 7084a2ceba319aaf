use Rattle.std.proofs.Common.{◌∙◌, ◌++◌, ◌∷◌, [], get_or, sym, ap, arith, rules, w64, SFits, pos}
use Rattle.std.proofs.lemmas.Int.{to_z-of_z}
use Rattle.std.proofs.lemmas.List.{take_all, take_more}
use Rattle.qc_play.proofs.numbers.numbers_of.Goals as goal

pub loop-value-preserved : goal.loop-value-preserved
loop-value-preserved c =
    let vs = c.args.values.now in
    let k = c.loop-value.value-index in
    let v = get_or vs k (pos 0) in
    let f : SFits w64 v = search rules in
    let more = simp to_z-of_z at c.in_ok-push.ensures.ok in
    more ∙ ap (λ ys. ys ++ v ∷ []) c.loop-value.invariant ∙ sym (take_more vs k (pos 0) (omega arith))

pub returns : goal.returns
returns c = c.loop-value.invariant ∙ take_all c.loop-value.value-index c.args.values.now (omega arith)
