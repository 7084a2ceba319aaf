use Rattle.std.proofs.Common.{◌≡◌, ◌∷◌, ℕ, Vec, ap}
use Rattle.std.specs.Global.{Global}
use Rattle.check_lines.specs.declared.open.Open.TheVariants.{Branch}
use Rattle.check_lines.specs.Places.{rest}
use Rattle.check_lines.proofs.Closes.{back_tells, back_ready, top_fork}
use Rattle.check_lines.proofs.machine.Machine.back_to.Goals as goal

pub undo_to-requires : goal.undo_to-requires
undo_to-requires c =
    let m = c.args.self.now in
    let top : m.nesting ≡ Branch c.args.x c.args.mark c.args.from ∷ rest m.nesting = c.requires.top in
    let h = top_fork m c.args.x c.args.mark c.args.from (rest m.nesting) top c.requires.within.sound in
    record { at = h.at; full = h.box.full }

pub returns-clause-tells : goal.returns-clause-tells
returns-clause-tells c =
    let m = c.args.self.now in
    let top : m.nesting ≡ Branch c.args.x c.args.mark c.args.from ∷ rest m.nesting = c.requires.top in
    back_tells m c.undo_to.new.self c.args.x c.args.mark c.args.from (rest m.nesting) top c.requires.within.sound c.undo_to.ensures.past c.undo_to.ensures.content
    c.back_to.new.self (ap (λ (v : Vec ℕ Global). v.items) c.back_to.ensures.marks) c.back_to.ensures.fewer c.back_to.ensures.past

pub returns-clause-ready : goal.returns-clause-ready
returns-clause-ready c =
    let m = c.args.self.now in
    let top : m.nesting ≡ Branch c.args.x c.args.mark c.args.from ∷ rest m.nesting = c.requires.top in
    back_ready m c.undo_to.new.self c.args.x c.args.mark c.args.from (rest m.nesting) top c.requires.within.sound c.undo_to.ensures.past c.undo_to.ensures.content
    c.back_to.new.self (ap (λ (v : Vec ℕ Global). v.items) c.back_to.ensures.marks) c.back_to.ensures.fewer c.back_to.ensures.past
