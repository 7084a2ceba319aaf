use Rattle.std.proofs.Common.{◌∙◌, refl, sym, ap, subst, map, length, arith}
use Rattle.std.proofs.lemmas.List.{take_all}
use Rattle.qc_model.specs.Domains.{domain_values}
use Rattle.qc_model.specs.Valid.{domain_width}
use Rattle.fd_store.specs.Places.{box_of}
use Rattle.fd_store.specs.Sound.{IsSound}
use Rattle.fd_store.specs.Added.{AddsCell}
use Rattle.fd_store.proofs.Building.{right_none, right_push, content_push, declared_more, room_more, sound_start, values_of, valid_at}
use Rattle.fd_store.proofs.declare.declared.Goals as goal

pub loop-variable-init : goal.loop-variable-init
loop-variable-init c = record {
  right = rw (c.new-words.ensures.items, c.new-cells.ensures.items) right_none;
  content = rw (c.new-words.ensures.items, c.new-cells.ensures.items) refl;
  room = omega (arith, ap length c.new-words.ensures.items, c.requires.widths);
}

pub loop-variable-preserved : goal.loop-variable-preserved
loop-variable-preserved c =
    let i = c.loop-variable.invariant in
    let x = c.variable-item.result in
    let k = c.loop-variable.variable-index in
    let at = sym c.variable-item.is in
    let words = c.loop-variable.words.items in
    let now = c.add_domain.new.words.items in
    let adds : AddsCell words now c.in_ok-cell.cell (domain_width x.domain) (domain_values x.domain) = c.in_ok-cell.ensures in
    let room = room_more c.args.variables.now k (length words) x c.loop-variable-test.true at i.room in
    record {
      right = right_push words now c.loop-variable.cells.items c.push.new.self.items c.in_ok-cell.cell _ _ i.right adds c.in_ok-push.ensures.items (omega (arith, room, adds.long, c.requires.few));
      content = declared_more c.args.variables.now k x (box_of words c.loop-variable.cells.items) _ c.loop-variable-test.true at i.content
          (content_push words now c.loop-variable.cells.items c.push.new.self.items c.in_ok-cell.cell _ _ i.right adds c.in_ok-push.ensures.items);
      room = omega (arith, room, adds.long);
    }

pub add_domain-requires-clause-valid : goal.add_domain-requires-clause-valid
add_domain-requires-clause-valid c = valid_at c.args.variables.now c.loop-variable.variable-index c.variable-item.result c.loop-variable-test.true (sym c.variable-item.is) c.requires.domains

pub add_domain-requires-clause-few : goal.add_domain-requires-clause-few
add_domain-requires-clause-few c =
    let x = c.variable-item.result in
    let room = room_more c.args.variables.now c.loop-variable.variable-index (length c.loop-variable.words.items) x c.loop-variable-test.true (sym c.variable-item.is) c.loop-variable.invariant.room in
    omega (arith, room, c.loop-variable-test.true, c.requires.few)

pub returns : goal.returns
returns c =
    let i = c.loop-variable.invariant in
    let now = c.loop-variable in
    let sound : IsSound now.words.items now.cells.items c.new.result.items = subst (IsSound now.words.items now.cells.items) (sym c.new.ensures.0) (sound_start now.words.items now.cells.items i.right) in
    (sound, i.content ∙ ap (map values_of) (take_all now.variable-index c.args.variables.now c.loop-variable-test.false), c.new.ensures.0, c.new.ensures.1)
