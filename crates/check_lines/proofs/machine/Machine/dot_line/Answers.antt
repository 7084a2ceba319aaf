use Rattle.std.proofs.Common.{◌≡◌, ◌∙◌, sym, ap, rules}
use Rattle.std.proofs.lemmas.Int.{to_z-of_z}
use mir.Val.{SFits}
use mir.Syntax.{w64}
use Rattle.qc_model.specs.Domains.{values_left}
use Rattle.fd_store.specs.Held.{Held, values_from, least_of}
use Rattle.check_lines.specs.Places.{rest}
use Rattle.check_lines.specs.Machine.{fork_at}
use Rattle.check_lines.proofs.Forks.{dot_within, dot_ends, not_dot, variable_inside, inside_there, is_back, least_none, least_some}
use Rattle.check_lines.proofs.machine.Machine.dot_line.Goals as goal
use Rattle.check_lines.proofs.machine.Machine.dot_line.Goals.{After-is_some}

pub next-requires : goal.next-requires
next-requires c =
    let m = c.args.self.now in
    inside_there c.store.result.now m.remains c.args.x.0 c.store.ensures (variable_inside m c.args.x c.args.mark c.args.from (rest m.nesting) c.requires.top c.requires.fork)

left_is : (c : After-is_some) → c.next.result ≡ least_of (fork_at c.args.self.now.remains c.args.x c.args.mark c.args.from).left
left_is c =
    let from_fits : SFits w64 c.args.from = search rules in
    let m = c.args.self.now in
    let found : c.next.result ≡ least_of (values_from c.args.from (values_left c.store.result.now.box c.args.x.0)) = simp to_z-of_z at c.next.ensures in
    found ∙ (ap (λ (h : Held). least_of (values_from c.args.from (values_left h.box c.args.x.0))) c.store.ensures ∙ ap (λ b. least_of (values_from c.args.from (values_left b c.args.x.0))) (is_back m c.args.x c.args.mark c.args.from (rest m.nesting) c.requires.top c.requires.fork))

pub close_part-requires : goal.close_part-requires
close_part-requires c =
    let m = c.args.self.now in
    record { within = dot_within m c.args.x c.args.mark c.args.from (rest m.nesting) c.requires.top c.requires.fork c.pop.new.self c.pop.ensures }

pub returns-then-is_some-clause-tells : goal.returns-then-is_some-clause-tells
returns-then-is_some-clause-tells c = λ n d es xs u few p k.
    let m = c.args.self.now in
    let left = (fork_at m.remains c.args.x c.args.mark c.args.from).left in
    not_dot m c.args.x c.args.mark c.args.from (rest m.nesting) c.requires.top c.requires.fork (least_some left c.next.result (left_is (goal.at.returns-then-is_some-clause-tells c).After-is_some) (sym c.is_some.ensures ∙ c.if-is_some.true)) d es xs u p

pub returns-clause-tells : goal.returns-clause-tells
returns-clause-tells c =
    let m = c.args.self.now in
    let left = (fork_at m.remains c.args.x c.args.mark c.args.from).left in
    dot_ends m c.args.x c.args.mark c.args.from (rest m.nesting) c.requires.top c.requires.fork c.pop.new.self c.pop.ensures c.close_part.new.self
    (least_none left c.next.result (left_is (goal.at.returns-clause-tells c).After-is_some) (sym c.is_some.ensures ∙ c.if-is_some.false)) c.close_part.ensures.tells
