use Rattle.std.proofs.Common.{ap, arith, length}
use Rattle.qc_model.specs.Content.{Game}
use Rattle.fd_store.specs.Held.{Held}
use Rattle.check_lines.specs.Machine.{game_of}
use Rattle.box_laws.proofs.Readings.{box_size}
use Rattle.check_lines.proofs.machine.Machine.may_branch_on.Goals as goal

pub is_fixed-requires : goal.is_fixed-requires
is_fixed-requires c =
    let m = c.args.self.now in
    let size = box_size (game_of m) m.remains.box c.requires.within.sound.declared in
    let same = ap (λ (h : Held). length h.box) c.store.ensures in
    let there = ap (λ (g : Game). length g.variables) c.level-level.ensures.problem in
    let within = c.level-level.result.now.stop_within in
    omega (arith, size, same, there, within, c.if-level-place.false)
