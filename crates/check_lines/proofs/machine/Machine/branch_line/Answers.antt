use Rattle.std.proofs.Common.{◌≡◌, ◌<◌, ◌∙◌, true, length, take, map, sym, ap, subst, arith}
use Rattle.model_arguments.proofs.Boxes.{left_small}
use Rattle.fd_store.specs.Held.{Held}
use Rattle.qc_model.specs.Game.{before}
use Rattle.proof_tree.specs.declared.line.Line.TheVariants.{Branch}
use Rattle.check_lines.specs.declared.open.Due.TheVariants as due
use Rattle.check_lines.specs.Ledger.{ledger_end}
use Rattle.check_lines.specs.State.{may_branch}
use Rattle.check_lines.specs.Machine.{game_of}
use Rattle.check_box.specs.Placed.{only}
use Rattle.check_lines.specs.Known.{HasRead, AreBranchesRead}
use Rattle.box_laws.proofs.Readings.{box_size}
use Rattle.check_lines.proofs.Parts.{IsReadOn, read_within, read_tells, branch_inside, branch_full, branch_ready, branch_tells, no_room}
use Rattle.check_lines.proofs.machine.Machine.branch_line.Goals as goal
use Rattle.check_lines.proofs.machine.Machine.branch_line.Goals.{After-store, After-read_on}

pub returns-then-not-has_room-clause-tells : goal.returns-then-not-has_room-clause-tells
returns-then-not-has_room-clause-tells c = λ n d es xs u few p k.
    let m = c.args.self.now in
    no_room m d es xs u (may_branch (game_of m) m.number c.args.x.0 m.remains.box) _ p (sym c.has_room.ensures ∙ c.if-not-has_room.true)

may : (c : After-store) → may_branch (game_of c.args.self.now) c.args.self.now.number c.args.x.0 c.args.self.now.remains.box ≡ true
may c = sym c.may_branch_on.ensures ∙ c.if-not-may_branch_on.false

inside : (c : After-store) → c.args.x.0 < length c.args.self.now.remains.box
inside c =
    let m = c.args.self.now in
    let size = box_size (game_of m) m.remains.box c.requires.within.sound.declared in
    let l = branch_inside (game_of m) m.number c.args.x.0 m.remains.box (may c) in
    omega (arith, size, l)

stored : (c : After-store) → length c.store.result.now.box ≡ length c.args.self.now.remains.box
stored c = ap (λ (h : Held). length h.box) c.store.ensures

pub read_on-requires-clause-bound : goal.read_on-requires-clause-bound
read_on-requires-clause-bound c = let q = (goal.at.read_on-requires-clause-bound c).After-store in let l = inside q in let e = stored q in omega (arith, l, e)

pub read_on-requires-clause-few : goal.read_on-requires-clause-few
read_on-requires-clause-few c =
    let m = c.args.self.now in
    let size = box_size (game_of m) m.remains.box c.requires.within.sound.declared in
    let e = stored (goal.at.read_on-requires-clause-few c).After-store in
    let f = c.known.ensures.few_variables in
    omega (arith, size, e, f)

pub read_on-requires-clause-each : goal.read_on-requires-clause-each
read_on-requires-clause-each c =
    let m = c.args.self.now in
    let s = c.requires.within.sound in
    s.value_each ∙ (sym (box_size (game_of m) m.remains.box s.declared) ∙ sym (stored (goal.at.read_on-requires-clause-each c).After-store))

pub read_on-requires-clause-places : goal.read_on-requires-clause-places
read_on-requires-clause-places c =
    let m = c.args.self.now in
    let s = c.requires.within.sound in
    s.read.places ∙ (sym (box_size (game_of m) m.remains.box s.declared) ∙ sym (stored (goal.at.read_on-requires-clause-places c).After-store))

read : (c : After-read_on) → IsReadOn (game_of c.args.self.now) c.args.self.now.number c.args.self.now.remains c.args.self.now.values c.read_on.new.values c.args.self.now.reads c.read_on.new.self
read c =
    let m = c.args.self.now in
    let s = c.requires.within.sound in
    let e = c.read_on.ensures in
    let vs = m.values.items in
    let ws = c.read_on.new.values.items in
    let n = before (game_of m) m.number in
    let full = branch_full (game_of m) m.number c.args.x.0 m.remains.box (may (goal.at.After-read_on c).After-store) in
    record {
      kept = subst (λ (h : Held). take n h.box ≡ map only (take n vs) → take n ws ≡ take n vs) c.store.ensures (e.kept n) (s.placed full);
      game = e.game;
      each = e.each;
      numbers = e.numbers;
      places = e.places;
      here = subst (λ h. HasRead h ws c.read_on.new.self) c.store.ensures e.read;
      branches = λ fs b. subst (λ h. AreBranchesRead h vs m.reads fs → AreBranchesRead h ws c.read_on.new.self fs) c.store.ensures (e.branches fs) b;
    }

pub returns-clause-tells : goal.returns-clause-tells
returns-clause-tells c =
    let m = c.args.self.now in
    let w = c.requires.within in
    let v = c.read_on.new.values in
    let q = c.read_on.new.self in
    let r = read (goal.at.returns-clause-tells c).After-read_on in
    read_tells m v q w r (record m { values = v; reads = q; nesting = c.push.new.self; due = due.Case }) (λ d. ledger_end (game_of m) d (Branch c.args.x))
    (branch_tells (record m { values = v; reads = q }) (read_within m v q w r) c.args.x c.mark-mark.result c.push.new.self c.push.ensures c.mark-mark.ensures (may (goal.at.returns-clause-tells c).After-store)
    (sym c.has_room.ensures ∙ c.if-not-has_room.false) (left_small (game_of m) m.remains.box c.args.x.0 c.known.ensures.domains w.sound.declared))

pub returns-clause-ready : goal.returns-clause-ready
returns-clause-ready c =
    let m = c.args.self.now in
    let w = c.requires.within in
    let v = c.read_on.new.values in
    let q = c.read_on.new.self in
    let r = read (goal.at.returns-clause-ready c).After-read_on in
    branch_ready (record m { values = v; reads = q }) (read_within m v q w r) c.args.x c.mark-mark.result c.push.new.self c.push.ensures c.mark-mark.ensures (may (goal.at.returns-clause-ready c).After-store)
