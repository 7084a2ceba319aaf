use Rattle.std.proofs.Common.{◌≡◌, ◌<◌, false, length, sym, subst}
use Rattle.qc_model.specs.Domains.{values_left, is_none_left}
use Rattle.fd_store.specs.Held.{Held}
use Rattle.dense_nest.proofs.Bounds.{some_left, before_inside}
use Rattle.dense_nest.specs.Telling.{game_of}
use Rattle.dense_nest.proofs.nest.Nest.bound_by_variable.Goals as goal

pub min-requires-clause-var : goal.min-requires-clause-var
min-requires-clause-var c =
    let m = c.args.self.now in
    subst (λ (s : Held). c.args.x.0 < length s.box) (sym c.store.ensures)
    (before_inside (game_of m) c.args.i.0 c.args.x.0 c.count_before.result m.remains.box c.requires.here.box c.count_before.ensures c.if-x-count_before.true)

pub min-requires-clause-left : goal.min-requires-clause-left
min-requires-clause-left c =
    let m = c.args.self.now in
    subst (λ (s : Held). is_none_left (values_left s.box c.args.x.0) ≡ false) (sym c.store.ensures)
    (some_left m.remains.box c.args.x.0 c.requires.here.box.full
    (before_inside (game_of m) c.args.i.0 c.args.x.0 c.count_before.result m.remains.box c.requires.here.box c.count_before.ensures c.if-x-count_before.true))

pub max-requires-clause-var : goal.max-requires-clause-var
max-requires-clause-var c =
    let m = c.args.self.now in
    subst (λ (s : Held). c.args.x.0 < length s.box) (sym c.store-in-Max.ensures)
    (before_inside (game_of m) c.args.i.0 c.args.x.0 c.count_before.result m.remains.box c.requires.here.box c.count_before.ensures c.if-x-count_before.true)

pub max-requires-clause-left : goal.max-requires-clause-left
max-requires-clause-left c =
    let m = c.args.self.now in
    subst (λ (s : Held). is_none_left (values_left s.box c.args.x.0) ≡ false) (sym c.store-in-Max.ensures)
    (some_left m.remains.box c.args.x.0 c.requires.here.box.full
    (before_inside (game_of m) c.args.i.0 c.args.x.0 c.count_before.result m.remains.box c.requires.here.box c.count_before.ensures c.if-x-count_before.true))
