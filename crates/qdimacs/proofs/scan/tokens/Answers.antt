use Rattle.std.proofs.Common.{◌+◌, sym, subst, drop}
use Rattle.qdimacs.proofs.Pieces.{IsCut, behind, next, done}
use Rattle.qdimacs.proofs.scan.tokens.Goals as goal

pub loop-first-preserved : goal.loop-first-preserved
loop-first-preserved c =
    let p = c.first_piece-piece.result in
    rw (behind p.more c.in-Some.rest.now)
    (subst (λ ts. IsCut c.args.text.now ts (drop p.more c.in-Some.rest.now) (c.loop-first.at + 1 + p.more) p.fresh) (sym c.in_ok-push_token.ensures)
    (next c.args.text.now c.loop-first.tokens.items c.loop-first.left.now c.loop-first.at c.loop-first.fresh c.in-Some.first.now c.in-Some.rest.now p c.in-Some.ensures.cases.0 c.first_piece-piece.ensures.piece c.loop-first.invariant))

pub returns : goal.returns
returns c = done c.args.text.now c.loop-first.tokens.items c.loop-first.left.now c.loop-first.at c.loop-first.fresh c.in_default.ensures.cases c.loop-first.invariant
