use Rattle.std.proofs.Common.{◌∙◌, sym, length-drop, arith}
use Rattle.qc_tokens.proofs.Cuts.{search_ends, search_goes, search_none, behind}
use Rattle.qc_tokens.proofs.scan.find_bad_byte.Goals as goal

pub returns-in-BadByte : goal.returns-in-BadByte
returns-in-BadByte c =
    sym (c.loop-first.invariant.search ∙ search_ends c.loop-first.left.now c.loop-first.at c.in-Some.first.now c.in-Some.rest.now c.first_cut-cut.result c.in-Some.ensures.cases.0 c.first_cut-cut.ensures.cut c.in-BadByte.is)

pub loop-first-preserved : goal.loop-first-preserved
loop-first-preserved c =
    let all = c.in-Some.ensures.cases.1 in
    let within = c.first_cut-cut.ensures.within in
    rw (behind c.first_cut-cut.result.more c.in-Some.rest.now) (record {
      place = omega (arith, length-drop c.first_cut-cut.result.more c.in-Some.rest.now, c.loop-first.invariant.place);
      search = c.loop-first.invariant.search ∙ search_goes c.loop-first.left.now c.loop-first.at c.in-Some.first.now c.in-Some.rest.now c.first_cut-cut.result c.in-Some.ensures.cases.0 c.first_cut-cut.ensures.cut c.in_default-piece.not-BadByte;
    })

pub returns : goal.returns
returns c = sym (c.loop-first.invariant.search ∙ search_none c.loop-first.left.now c.loop-first.at c.in_default.ensures.cases)
