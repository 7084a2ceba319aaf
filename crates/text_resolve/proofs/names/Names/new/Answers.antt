use Rattle.std.proofs.Common.{◌≡◌, ◌∙◌, sym, ap, subst, arith, cond, ℕ, ◌+◌, List, Some, is_some, bytes_eq, drop}
use Rattle.std.proofs.lemmas.Map.Text.{hash_map_updates_str}
use Rattle.indexmap.specs.IndexMap.{get_by}
use Rattle.text_resolve.specs.Owned.{word_bytes}
use Rattle.text_resolve.specs.Counts.{counts_after}
use Rattle.text_resolve.proofs.Table.{Knows, knows_past, knows_more, knows_at, repeated_here, item_first, counts_rise, fresh_name}
use Rattle.text_resolve.proofs.names.Names.new.Goals as goal
use Rattle.text_resolve.proofs.names.Names.new.Goals.{in-Some+in_ok-before+else-is_some, in_default}

pub returns-then-is_some-clause-fault : goal.returns-then-is_some-clause-fault
returns-then-is_some-clause-fault c =
    let table = λ (name : List ℕ). get_by (λ k. bytes_eq name k.now) c.loop-item.table in
    let at_item = item_first c.args.items.now c.loop-item.item-index c.item-item.result (omega arith) c.item-item.is in
    let old : c.in_ok-before.before ≡ table c.bytes_of.result.now = c.in_ok-before.ensures.old in
    let word : c.bytes_of.result.now ≡ word_bytes c.args.text.now c.in-Some.declaration.name = c.bytes_of.ensures in
    repeated_here c.args.text.now c.args.items.now c.item-item.result (drop (c.loop-item.item-index + 1) c.args.items.now) c.loop-item.counts c.in-Some.declaration table
    (knows_at _ _ _ _ _ _ _ c.loop-item.invariant.knows at_item) (sym c.in-Some.ensures)
    (ap (λ w. is_some (table w)) (sym word) ∙ ap is_some (sym old) ∙ sym c.is_some.ensures ∙ c.if-is_some.true)

pub loop-item-preserved : goal.loop-item-preserved
loop-item-preserved c =
    let text = c.args.text.now in
    let items = c.args.items.now in
    let rest = drop (c.loop-item.item-index + 1) items in
    let before = λ (name : List ℕ). get_by (λ k. bytes_eq name k.now) c.loop-item.table in
    let at_item = item_first items c.loop-item.item-index c.item-item.result (omega arith) c.item-item.is in
    let here = knows_at _ _ _ _ _ _ _ c.loop-item.invariant.knows at_item in
    let knows : Knows text items rest (counts_after c.loop-item.counts c.item-item.result) (λ name. get_by (λ k. bytes_eq name k.now) c.match-declares.table) =
    elim c.match-declares.branch [
      | in-Some+in_ok-before+else-is_some w ↦
          let larger = λ (name : List ℕ). get_by (λ k. bytes_eq name k.now) w.insert.new.self in
          let word : w.bytes_of.result.now ≡ word_bytes text w.in-Some.declaration.name = w.bytes_of.ensures in
          let put = hash_map_updates_str w.bytes_of.result.now c.loop-item.table w.insert.new.self _ w.in_ok-before.ensures.updates in
          let more = knows_more text items c.item-item.result rest c.loop-item.counts w.in-Some.declaration before larger here (sym w.in-Some.ensures)
          (fresh_name before w.in_ok-before.before _ _ _ w.in_ok-before.ensures.old word w.is_some.ensures w.if-is_some.false)
          (subst (λ bs. (name : List ℕ) → larger name ≡ cond (bytes_eq bs name) (Some w.in-Some.declaration.meant) (before name)) word put) in
          subst (λ m. Knows text items rest (counts_after c.loop-item.counts c.item-item.result) (λ name. get_by (λ k. bytes_eq name k.now) m)) (sym w.table-is) more
      | in_default w ↦
          subst (λ m. Knows text items rest (counts_after c.loop-item.counts c.item-item.result) (λ name. get_by (λ k. bytes_eq name k.now) m)) (sym w.table-is)
          (knows_past text items c.item-item.result rest c.loop-item.counts before here (sym w.in_default.ensures))
    ] in
    record {
      room = rw c.after-counts.ensures (omega (arith, counts_rise c.loop-item.counts c.item-item.result));
      knows = subst (λ n. Knows text items rest n (λ name. get_by (λ k. bytes_eq name k.now) c.match-declares.table)) (sym c.after-counts.ensures) knows;
    }
