use Rattle.std.proofs.Common.{◌<◌, ◌∙◌, sym, ap, subst}
use Rattle.joins.specs.Seen.{verdict_of}
use Rattle.dense_nest.proofs.Naming.{settles, named_within}
use Rattle.dense_nest.proofs.nest.Nest.settle.Goals as goal

pub index_mut-requires : goal.index_mut-requires
index_mut-requires c =
    let m = c.args.self.now in
    let h = c.requires.over in
    subst (λ a. c.in-Some.n < a) (sym m.named.ok.0) (named_within m c.args.e c.in-Some.n c.in-Some.is h.0 h.1 h.2 h.3 h.4)

pub returns-clause-settles : goal.returns-clause-settles
returns-clause-settles c =
    let m = c.args.self.now in
    settles m c.args.e c.in-Some.n c.index_mut.result.now c.in_ok-told.told c.in-Some.is c.index_mut.ensures.value (c.in_ok-told.ensures ∙ ap (verdict_of m.found) c.vector.ensures)
