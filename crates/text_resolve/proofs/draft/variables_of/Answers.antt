use Rattle.std.proofs.Common.{◌∙◌, sym, arith, ap}
use Rattle.text_resolve.specs.Draft.{variable_of}
use Rattle.text_resolve.proofs.Table.{counts_rise}
use Rattle.text_resolve.proofs.WordText.{word_at}
use Rattle.text_resolve.proofs.Walked.{walk_start, walk_more, walk_past}
use Rattle.text_resolve.proofs.draft.variables_of.Goals as goal
use Rattle.text_resolve.proofs.draft.variables_of.Goals.{in-Some+in_ok-push, in_default}

pub loop-item-init : goal.loop-item-init
loop-item-init c =
    let text = c.args.names.now.text.now in
    let items = c.args.names.now.items.now in
    record { room = omega arith; walked = walk_start (variable_of text) items text c.new-variables.result.items c.new-variables.ensures.items c.requires }

pub loop-item-preserved : goal.loop-item-preserved
loop-item-preserved c =
    let text = c.args.names.now.text.now in
    let items = c.args.names.now.items.now in
    let n = c.loop-item.item-index in
    let i = c.item-item.result in
    record {
      room = rw c.after-counts.ensures (omega (arith, counts_rise c.loop-item.counts i));
      walked = elim c.match-branch-2.branch [
        | in-Some+in_ok-push w ↦
            walk_more (variable_of text) items n i c.loop-item.counts c.loop-item.variables.items (omega arith) c.item-item.is c.loop-item.invariant.walked
            c.after-counts.result w.in-Some.variable c.match-branch-2.variables.items c.after-counts.ensures (sym w.in-Some.is ∙ c.in_ok-variable.ensures) (ap (λ v. v.items) w.variables-is ∙ w.in_ok-push.ensures.items)
        | in_default w ↦
            walk_past (variable_of text) items n i c.loop-item.counts c.loop-item.variables.items (omega arith) c.item-item.is c.loop-item.invariant.walked
            c.after-counts.result c.match-branch-2.variables.items c.after-counts.ensures (sym w.in_default.is ∙ c.in_ok-variable.ensures) (ap (λ v. v.items) w.variables-is)
      ];
    }

pub variable_of-requires-clause-word : goal.variable_of-requires-clause-word
variable_of-requires-clause-word c = word_at c.args.names.now.text.now c.args.names.now.items.now c.requires c.loop-item.item-index c.item-item.result (omega arith) c.item-item.is
