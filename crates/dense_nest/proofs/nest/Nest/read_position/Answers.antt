use Rattle.std.proofs.Common.{◌≤◌, ◌∙◌, length, sym, ap, subst, arith}
use Rattle.box_laws.proofs.Readings.{box_size}
use Rattle.fd_store.specs.Held.{Held}
use Rattle.dense_nest.specs.Telling.{game_of}
use Rattle.dense_nest.proofs.Bounds.{count_inside}
use Rattle.dense_nest.proofs.nest.Nest.read_position.Goals as goal

pub write_position-requires-clause-few : goal.write_position-requires-clause-few
write_position-requires-clause-few c =
    let m = c.args.self.now in
    let size = box_size (game_of m) m.remains.box c.requires.here.box.declared in
    subst (λ (s : Held). length s.box ≤ 500) (sym c.store.ensures) (omega (arith, size, c.known.ensures.few_variables))

pub write_position-requires-clause-count : goal.write_position-requires-clause-count
write_position-requires-clause-count c =
    let m = c.args.self.now in
    subst (λ (s : Held). c.count_before-count.result ≤ length s.box) (sym c.store.ensures)
    (count_inside (game_of m) c.args.number c.count_before-count.result m.remains.box c.requires.here.box c.count_before-count.ensures)

pub write_position-requires-clause-room : goal.write_position-requires-clause-room
write_position-requires-clause-room c =
    let m = c.args.self.now in
    let size = box_size (game_of m) m.remains.box c.requires.here.box.declared in
    ap length c.as_mut_slice.ensures.value ∙ (c.requires.here.made.values ∙ (sym size ∙ ap (λ (s : Held). length s.box) (sym c.store.ensures)))
