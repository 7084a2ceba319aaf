use Rattle.std.proofs.Common.{◌∙◌, sym, ap, false}
use Rattle.check_lines.specs.State.{bars}
use Rattle.check_lines.specs.Tuples.{is_tuple}
use Rattle.check_lines.specs.Machine.{game_of}
use Rattle.check_lines.proofs.Parts.{IsRead, read_there, tuple_bars, barred_within, barred_tells, no_ledger}
use Rattle.check_lines.proofs.machine.Machine.barred_line.Goals as goal
use Rattle.check_lines.proofs.machine.Machine.barred_line.Goals.{After-tuple_allowed-found}

read : (c : After-tuple_allowed-found) → IsRead (game_of c.args.self.now) c.args.self.now.number c.args.self.now.remains c.args.self.now.values c.tuple_allowed-found.new.values c.args.self.now.reads c.tuple_allowed-found.new.reads c.tuple_allowed-found.result
read c =
    let m = c.args.self.now in
    let l = c.level-level in
    let t = c.tuple_allowed-found in
    read_there (game_of m) l.result.now.problem.now m.number l.result.now.number m.remains m.values t.new.values m.reads t.new.reads t.result l.ensures.problem l.ensures.number
    (record {
      on = record { kept = t.ensures.kept; game = t.ensures.game; each = t.ensures.each; numbers = t.ensures.numbers; places = t.ensures.places; here = t.ensures.read; branches = t.ensures.branches };
      tuple = t.ensures.tuple;
      placed = t.ensures.placed;
    })

pub close_part-requires : goal.close_part-requires
close_part-requires c =
    let m = c.args.self.now in
    let t = c.tuple_allowed-found in
    record { within = barred_within m t.new.values t.new.reads t.result c.requires.within (read (goal.at.close_part-requires c).After-tuple_allowed-found) c.add_barred.new.self c.add_barred.ensures.others c.add_barred.ensures.same }

pub returns-then-not-says-clause-tells : goal.returns-then-not-says-clause-tells
returns-then-not-says-clause-tells c = λ n d es xs u few p k.
    let m = c.args.self.now in
    let r = read (goal.at.returns-then-not-says-clause-tells c).After-tuple_allowed-found in
    no_ledger (bars (game_of m) m.number m.remains.box) _ (tuple_bars (game_of m) m.number m.remains.box ∙ (sym (ap (is_tuple false) r.tuple) ∙ (sym c.says.ensures ∙ c.if-not-says.true)))

pub returns-clause-tells : goal.returns-clause-tells
returns-clause-tells c =
    let m = c.args.self.now in
    let t = c.tuple_allowed-found in
    let r = read (goal.at.returns-clause-tells c).After-tuple_allowed-found in
    barred_tells m t.new.values t.new.reads t.result c.requires.within r c.add_barred.new.self c.add_barred.ensures.others c.add_barred.ensures.same c.close_part.new.self c.add_barred.ensures.stands
    (tuple_bars (game_of m) m.number m.remains.box ∙ (sym (ap (is_tuple false) r.tuple) ∙ (sym c.says.ensures ∙ c.if-not-says.false)))
    c.close_part.ensures.tells
