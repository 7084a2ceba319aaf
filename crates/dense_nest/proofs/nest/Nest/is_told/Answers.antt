use Rattle.std.proofs.Common.{◌∙◌, sym, ap, slice_get}
use Rattle.dense_nest.specs.Goes.{is_told_in, is_told_at}
use Rattle.dense_nest.specs.Telling.{game_of}
use Rattle.dense_nest.proofs.Naming.{told_known, found_at, none_at}
use Rattle.dense_nest.proofs.nest.Nest.is_told.Goals as goal

pub returns-in-Some-clause-nest : goal.returns-in-Some-clause-nest
returns-in-Some-clause-nest c =
    let l = c.in-Some.ensures.lookup in
    c.has_come.ensures ∙ ap (λ o. is_told_in o c.args.e.spot.number) (found_at c.deref.result.now c.args.n c.in-Some.named.now l.3.0 l.1 ∙ ap (λ xs. slice_get xs c.args.n) c.deref.ensures.value)

pub returns-in-Some-clause-known : goal.returns-in-Some-clause-known
returns-in-Some-clause-known c = λ us boxes d h.
    let m = c.args.self.now in
    let i = c.args.e.spot.number in
    let l = c.in-Some.ensures.lookup in
    c.has_come.ensures
    ∙ (ap (λ o. is_told_in o i) (found_at c.deref.result.now c.args.n c.in-Some.named.now l.3.0 l.1 ∙ ap (λ xs. slice_get xs c.args.n) c.deref.ensures.value)
    ∙ (told_known (game_of m) m.named.items boxes c.args.n i h.keeps.kept ∙ ap (λ ks. is_told_at (slice_get ks c.args.n) i) (sym h.keeps.known)))

pub returns-in-None-clause-known : goal.returns-in-None-clause-known
returns-in-None-clause-known c = λ us boxes d h.
    let m = c.args.self.now in
    let i = c.args.e.spot.number in
    ap (λ o. is_told_in o i) (none_at c.deref.result.now c.args.n c.in-None.ensures.lookup.3 ∙ ap (λ xs. slice_get xs c.args.n) c.deref.ensures.value)
    ∙ (told_known (game_of m) m.named.items boxes c.args.n i h.keeps.kept ∙ ap (λ ks. is_told_at (slice_get ks c.args.n) i) (sym h.keeps.known))
