use Rattle.std.proofs.Common.{◌∙◌, sym, arith, ap}
use Rattle.text_resolve.specs.Names.{declared}
use Rattle.text_resolve.specs.Draft.{constraint_of}
use Rattle.text_resolve.proofs.Table.{counts_rise}
use Rattle.text_resolve.proofs.Walked.{walk_start, walk_more, walk_past}
use Rattle.text_resolve.proofs.draft.constraints_of.Goals as goal
use Rattle.text_resolve.proofs.draft.constraints_of.Goals.{in-Some+in_ok-push, in_default}

pub loop-item-init : goal.loop-item-init
loop-item-init c =
    let text = c.args.names.now.text.now in
    let items = c.args.names.now.items.now in
    record { room = omega arith; walked = walk_start (constraint_of text (declared text items)) items text c.new-constraints.result.items c.new-constraints.ensures.items c.requires }

pub loop-item-preserved : goal.loop-item-preserved
loop-item-preserved c =
    let text = c.args.names.now.text.now in
    let items = c.args.names.now.items.now in
    let n = c.loop-item.item-index in
    let i = c.item-item.result in
    record {
      room = rw c.after-counts.ensures (omega (arith, counts_rise c.loop-item.counts i));
      walked = elim c.match-branch-2.branch [
        | in-Some+in_ok-push w ↦
            walk_more (constraint_of text (declared text items)) items n i c.loop-item.counts c.loop-item.constraints.items (omega arith) c.item-item.is c.loop-item.invariant.walked
            c.after-counts.result w.in-Some.constraint c.match-branch-2.constraints.items c.after-counts.ensures (sym w.in-Some.is ∙ c.in_ok-constraint.ensures) (ap (λ v. v.items) w.constraints-is ∙ w.in_ok-push.ensures.items)
        | in_default w ↦
            walk_past (constraint_of text (declared text items)) items n i c.loop-item.counts c.loop-item.constraints.items (omega arith) c.item-item.is c.loop-item.invariant.walked
            c.after-counts.result c.match-branch-2.constraints.items c.after-counts.ensures (sym w.in_default.is ∙ c.in_ok-constraint.ensures) (ap (λ v. v.items) w.constraints-is)
      ];
    }
