use Rattle.std.proofs.Common.{◌<◌, ◌∙◌, ap, sym, arith, not, length}
use Rattle.qc_model.specs.Content.{Game}
use Rattle.qc_model.specs.Domains.{Box, has_empty}
use Rattle.game_search.proofs.Kept.{numbers_left, of_answer, of_both, one_kept, one_stopped}
use Rattle.game_search.proofs.pieces.keep_one.Goals as goal

pub returns-then-not-branch-clause-some : goal.returns-then-not-branch-clause-some
returns-then-not-branch-clause-some c =
    let g = c.args.problem.now in
    let b = c.args.remains.now in
    let x = c.args.keep.x.0 in
    let numbers = numbers_left g b x c.known.ensures c.requires.game c.known-2.ensures.declared in
    let inside : x < length b.store.box = omega (arith, c.requires.keep.exists, c.known-2.ensures.size, ap (λ (f : Game). length f.variables) c.requires.game) in
    one_stopped b.store.box c.keep_above.new.remains.store.box c.args.keep inside numbers c.in_ok-keep_above.ensures.content (sym c.if-not-branch.true ∙ c.in_ok-keep_above.ensures.some)

pub returns-clause-kept : goal.returns-clause-kept
returns-clause-kept c =
    let g = c.args.problem.now in
    let b = c.args.remains.now in
    let x = c.args.keep.x.0 in
    let numbers = numbers_left g b x c.known.ensures c.requires.game c.known-2.ensures.declared in
    let inside : x < length b.store.box = omega (arith, c.requires.keep.exists, c.known-2.ensures.size, ap (λ (f : Game). length f.variables) c.requires.game) in
    of_answer c.keep_below.result (λ some content t. one_kept b.store.box c.keep_above.new.remains.store.box c.keep_below.new.remains.store.box c.args.keep inside numbers c.in_ok-keep_above.ensures.content content) c.keep_below.ensures.content

pub returns-clause-some : goal.returns-clause-some
returns-clause-some c =
    let g = c.args.problem.now in
    let b = c.args.remains.now in
    let x = c.args.keep.x.0 in
    let numbers = numbers_left g b x c.known.ensures c.requires.game c.known-2.ensures.declared in
    let inside : x < length b.store.box = omega (arith, c.requires.keep.exists, c.known-2.ensures.size, ap (λ (f : Game). length f.variables) c.requires.game) in
    let kept = of_answer c.keep_below.result (λ some content. one_kept b.store.box c.keep_above.new.remains.store.box c.keep_below.new.remains.store.box c.args.keep inside numbers c.in_ok-keep_above.ensures.content content) c.keep_below.ensures.content in
    of_both c.keep_below.result (λ some e f. f ∙ ap (λ (d : Box). not (has_empty d)) e) kept c.keep_below.ensures.some
