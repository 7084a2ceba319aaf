use Rattle.std.proofs.Common.{◌∙◌, ◌+◌, ◌++◌, List, refl, sym, ap, map, drop, add-one, arith}
use Rattle.qdimacs.specs.Content.{variable_of, variables_of}
use Rattle.qdimacs.specs.Refusals.{block_of}
use Rattle.qdimacs.specs.declared.tree.NumberText.{NumberText}
use Rattle.qdimacs.proofs.Steps.{added, ended}
use Rattle.qdimacs.proofs.draft.variables_of.Goals as goal

pub loop-i-preserved : goal.loop-i-preserved
loop-i-preserved c =
    let i = c.loop-i.i in
    let b = c.index-blocks-i.result in
    let old = c.loop-i.variables.items in
    let of = λ (ns : List NumberText). map (variable_of i) (map (λ (n : NumberText). n.value) ns) in
    added (λ ss. variables_of i (map block_of ss)) (λ ss. variables_of (i + 1) (map block_of ss)) c.args.blocks.now i b
    (of b.variables) old c.push_variables.new.variables.items _ (omega arith) c.index-blocks-i.is
    (ap (λ k. of b.variables ++ variables_of k (map block_of (drop (i + 1) c.args.blocks.now))) (sym (add-one i)))
    (c.in_ok-push_variables.ensures ∙ ap (λ ns. old ++ of ns) c.items.ensures) c.loop-i.invariant

pub returns : goal.returns
returns c =
    ended (λ ss. variables_of c.loop-i.i (map block_of ss)) c.args.blocks.now c.loop-i.i c.loop-i.variables.items _ refl
    (omega arith) c.loop-i.invariant
