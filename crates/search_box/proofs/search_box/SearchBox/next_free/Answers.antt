use Rattle.std.proofs.Common.{◌∙◌, sym, ap, arith, length, take, drop}
use Rattle.std.specs.List.{list_all}
use Rattle.qc_model.specs.Content.{Game}
use Rattle.qc_model.specs.Domains.{is_single}
use Rattle.search_box.specs.Boxed.{Boxed}
use Rattle.search_box.proofs.Entering.{passed_on, is_own}
use Rattle.box_laws.proofs.Readings.{box_size}
use Rattle.search_box.proofs.search_box.SearchBox.next_free.Goals as goal

pub next_unfixed-requires-clause-bound : goal.next_unfixed-requires-clause-bound
next_unfixed-requires-clause-bound c =
    let size = box_size c.self.inside.problem.now c.self.inside.store.box c.self.invariant.declared in
    let same = ap (λ (b : Boxed). b.game) c.self.view_is ∙ c.requires.here.game in
    omega (arith, size, ap (λ (g : Game). length g.variables) same, c.args.level.now.stop_within)

pub next_unfixed-requires-clause-few : goal.next_unfixed-requires-clause-few
next_unfixed-requires-clause-few c =
    let size = box_size c.self.inside.problem.now c.self.inside.store.box c.self.invariant.declared in omega (arith, size, c.known.ensures.few_variables)

pub returns-clause-place : goal.returns-clause-place
returns-clause-place c =
    let l = c.args.level.now in
    let r = c.next_unfixed.result in
    passed_on l.problem.now l.number c.args.x r c.args.self.now c.requires c.next_unfixed.ensures.after (omega (arith, c.next_unfixed.ensures.within, l.has_stop))
    (ap (λ (b : Boxed). list_all is_single (drop c.args.x (take r b.store.box))) (sym c.self.view_is) ∙ c.next_unfixed.ensures.fixed)

pub returns-clause-own : goal.returns-clause-own
returns-clause-own c = λ h. is_own c.args.level.now.problem.now c.args.level.now.number c.args.x c.next_unfixed.result c.args.level.now.stop c.requires.from c.next_unfixed.ensures.after h c.args.level.now.has_stop
