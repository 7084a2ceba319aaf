use Rattle.std.proofs.Common.{◌≡◌, ◌∙◌, sym, ap, subst, arith, length, take, drop, map}
use Rattle.std.specs.List.{list_all}
use Rattle.qc_model.specs.Domains.{is_single}
use Rattle.qc_model.specs.Game.{before}
use Rattle.qc_model.specs.Valid.{is_number}
use Rattle.fd_store.specs.Held.{Held}
use Rattle.check_box.specs.Placed.{only}
use Rattle.box_laws.proofs.Readings.{box_size}
use Rattle.qc_play.specs.Walk.{game_of}
use Rattle.qc_play.proofs.AtLevels.{level_from, level_stop, level_within}
use Rattle.qc_play.proofs.TupleReads.{HasTuple, read_within, read_back}
use Rattle.qc_play.proofs.walk.Walk.read_tuple.Goals as goal
use Rattle.qc_play.proofs.walk.Walk.read_tuple.Goals.{After-read_values}

pub read_values-requires-clause-bound : goal.read_values-requires-clause-bound
read_values-requires-clause-bound c =
    let g = game_of c.args.tables.now in
    let l = c.level-level in
    let size = box_size g c.args.self.now.remains.box c.requires.within.declared in
    let same = ap (λ (h : Held). length h.box) c.store.ensures in
    let most = level_within l.result.now g c.args.i.0 l.ensures.problem l.ensures.number in
    omega (arith, size, same, most)

pub read_values-requires-clause-few : goal.read_values-requires-clause-few
read_values-requires-clause-few c =
    let size = box_size (game_of c.args.tables.now) c.args.self.now.remains.box c.requires.within.declared in
    let same = ap (λ (h : Held). length h.box) c.store.ensures in
    omega (arith, size, same, c.known.ensures.few_variables)

pub read_values-requires-clause-each : goal.read_values-requires-clause-each
read_values-requires-clause-each c =
    let size = box_size (game_of c.args.tables.now) c.args.self.now.remains.box c.requires.within.declared in
    let same = ap (λ (h : Held). length h.box) c.store.ensures in
    ap length c.as_mut_slice.ensures.value ∙ (c.requires.within.each ∙ (sym size ∙ sym same))

pub read_values-requires-clause-fixed : goal.read_values-requires-clause-fixed
read_values-requires-clause-fixed c =
    let g = game_of c.args.tables.now in
    let i = c.args.i.0 in
    let l = c.level-level in
    let box = c.args.self.now.remains.box in
    ap (λ (h : Held). list_all is_single (drop l.result.now.from (take l.result.now.stop h.box))) c.store.ensures
    ∙ (ap (λ n. list_all is_single (drop n (take l.result.now.stop box))) (level_from l.result.now g i l.ensures.problem l.ensures.number)
    ∙ (ap (λ n. list_all is_single (drop (before g i) (take n box))) (level_stop l.result.now g i l.ensures.problem l.ensures.number) ∙ c.requires.fixed))

pub read_values-requires-clause-placed : goal.read_values-requires-clause-placed
read_values-requires-clause-placed c =
    let g = game_of c.args.tables.now in
    let w = c.args.self.now in
    let l = c.level-level in
    let n = l.result.now.from in
    let e = level_from l.result.now g c.args.i.0 l.ensures.problem l.ensures.number in
    ap (λ (h : Held). take n h.box) c.store.ensures
    ∙ (ap (λ k. take k w.remains.box) e
    ∙ (c.requires.within.placed c.requires.full ∙ (ap (λ k. map only (take k w.values.items)) (sym e) ∙ sym (ap (λ vs. map only (take n vs)) c.as_mut_slice.ensures.value))))

pub read_values-requires-clause-numbers : goal.read_values-requires-clause-numbers
read_values-requires-clause-numbers c = ap (list_all is_number) c.as_mut_slice.ensures.value ∙ c.requires.within.numbers

read : (c : After-read_values) → HasTuple (game_of c.args.tables.now) c.args.i.0 c.args.self.now c.read_values.new.values
read c =
    let g = game_of c.args.tables.now in
    let w = c.args.self.now in
    let l = c.level-level in
    let r = c.read_values in
    let from = level_from l.result.now g c.args.i.0 l.ensures.problem l.ensures.number in
    let stop = level_stop l.result.now g c.args.i.0 l.ensures.problem l.ensures.number in
    record {
      placed = subst (λ n. take n w.remains.box ≡ map only (take n r.new.values)) stop (sym (ap (λ (s : Held). take l.result.now.stop s.box) c.store.ensures) ∙ r.ensures.read);
      kept = subst (λ n. take n r.new.values ≡ take n w.values.items) from (r.ensures.kept ∙ ap (take l.result.now.from) c.as_mut_slice.ensures.value);
      each = r.ensures.each ∙ ap length c.as_mut_slice.ensures.value;
      numbers = r.ensures.numbers;
    }

pub returns-clause-within : goal.returns-clause-within
returns-clause-within c = read_within (game_of c.args.tables.now) c.args.i.0 c.args.self.now c.read_values.new.values c.requires.within (read (goal.at.returns-clause-within c).After-read_values)

pub returns-clause-back : goal.returns-clause-back
returns-clause-back c = read_back (game_of c.args.tables.now) c.args.i.0 c.args.self.now c.read_values.new.values c.requires.within (read (goal.at.returns-clause-back c).After-read_values)
