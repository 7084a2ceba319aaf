use Rattle.std.proofs.Common.{◌≡◌, ◌∙◌, sym, ap, true}
use Rattle.check_lines.specs.State.{goes_on}
use Rattle.check_lines.specs.Tuples.{is_tuple}
use Rattle.check_lines.specs.Ledger.{space_left}
use Rattle.check_lines.specs.Machine.{game_of}
use Rattle.check_lines.specs.Telling.{part_at}
use Rattle.check_lines.proofs.Parts.{IsRead, read_there, tuple_goes, next_ready, next_tells, no_room, not_first}
use Rattle.check_lines.proofs.machine.Machine.next_line.Goals as goal
use Rattle.check_lines.proofs.machine.Machine.next_line.Goals.{After-tuple_allowed-found, After-says}

read : (c : After-tuple_allowed-found) → IsRead (game_of c.args.self.now) c.args.self.now.number c.args.self.now.remains c.args.self.now.values c.tuple_allowed-found.new.values c.args.self.now.reads c.tuple_allowed-found.new.reads c.tuple_allowed-found.result
read c =
    let m = c.args.self.now in
    let l = c.level-level in
    let t = c.tuple_allowed-found in
    read_there (game_of m) l.result.now.problem.now m.number l.result.now.number m.remains m.values t.new.values m.reads t.new.reads t.result l.ensures.problem l.ensures.number
    (record {
      on = record { kept = t.ensures.kept; game = t.ensures.game; each = t.ensures.each; numbers = t.ensures.numbers; places = t.ensures.places; here = t.ensures.read; branches = t.ensures.branches };
      tuple = t.ensures.tuple;
      placed = t.ensures.placed;
    })

says : (c : After-says) → c.says.result ≡ goes_on (game_of c.args.self.now) c.args.self.now.number c.args.self.now.remains.box
says c =
    let m = c.args.self.now in
    let r = read (goal.at.After-says c).After-tuple_allowed-found in
    c.says.ensures ∙ (ap (is_tuple true) r.tuple ∙ sym (tuple_goes (game_of m) m.number m.remains.box))

pub returns-then-not-says-clause-tells : goal.returns-then-not-says-clause-tells
returns-then-not-says-clause-tells c = λ n d es xs u few p k.
    let m = c.args.self.now in
    not_first (goes_on (game_of m) m.number m.remains.box) (space_left (part_at m d es xs u)) _ (sym (says (goal.at.returns-then-not-says-clause-tells c).After-says) ∙ c.if-not-says.true)

pub returns-then-not-has_room-clause-tells : goal.returns-then-not-has_room-clause-tells
returns-then-not-has_room-clause-tells c = λ n d es xs u few p k.
    let m = c.args.self.now in
    no_room m d es xs u (goes_on (game_of m) m.number m.remains.box) _ p (sym c.has_room.ensures ∙ c.if-not-has_room.true)

pub returns-clause-tells : goal.returns-clause-tells
returns-clause-tells c =
    let m = c.args.self.now in
    let t = c.tuple_allowed-found in
    next_tells m t.new.values t.new.reads t.result c.requires.within (read (goal.at.returns-clause-tells c).After-tuple_allowed-found) c.push.new.self c.push.ensures
    (sym (says (goal.at.returns-clause-tells c).After-says) ∙ c.if-not-says.false) (sym c.has_room.ensures ∙ c.if-not-has_room.false)

pub returns-clause-ready : goal.returns-clause-ready
returns-clause-ready c =
    let m = c.args.self.now in
    let t = c.tuple_allowed-found in
    next_ready m t.new.values t.new.reads t.result c.requires.within (read (goal.at.returns-clause-ready c).After-tuple_allowed-found) c.push.new.self c.push.ensures
    (sym (says (goal.at.returns-clause-ready c).After-says) ∙ c.if-not-says.false)
