use Rattle.std.proofs.Common.{◌+◌, drop, ◌∙◌, sym, ap, subst}
use Rattle.qc_tokens.proofs.Cuts.{IsCut, behind, gap_next, token_next, byte_found, number_found, byte_later, done, explained}
use Rattle.qc_tokens.proofs.Parts.{tokens_lie}
use Rattle.qc_tokens.specs.Tokens.{bad_byte_from}
use Rattle.qc_tokens.proofs.scan.tokens.Goals.{in-Gap, in-Good+in_ok-push-in-Good}
use Rattle.qc_tokens.proofs.scan.tokens.Goals as goal

pub returns-in-BadNumber-clause-why : goal.returns-in-BadNumber-clause-why
returns-in-BadNumber-clause-why c =
    let cut = c.first_cut-cut.result in
    let later = byte_later c.args.text.now c.loop-first.tokens.items c.loop-first.left.now c.loop-first.at c.in-Some.first.now c.in-Some.rest.now cut c.in-Some.ensures.cases.0 c.first_cut-cut.ensures.cut c.loop-first.invariant c.in-BadNumber.is in
    let found = number_found c.args.text.now c.loop-first.tokens.items c.loop-first.left.now c.loop-first.at c.in-Some.first.now c.in-Some.rest.now cut c.in-Some.ensures.cases.0 c.first_cut-cut.ensures.cut c.loop-first.invariant c.in-BadNumber.is in
    explained c.args.text.now c.bad_number.result _ c.loop-first.at (ap (bad_byte_from _) (behind cut.more c.in-Some.rest.now) ∙ later) c.bad_number.ensures found

pub returns-in-BadByte-clause-why : goal.returns-in-BadByte-clause-why
returns-in-BadByte-clause-why c = byte_found c.args.text.now c.loop-first.tokens.items c.loop-first.left.now c.loop-first.at c.in-Some.first.now c.in-Some.rest.now c.first_cut-cut.result c.in-Some.ensures.cases.0 c.first_cut-cut.ensures.cut c.loop-first.invariant c.in-BadByte.is

pub loop-first-preserved : goal.loop-first-preserved
loop-first-preserved c =
    let i = c.in-Some in
    let cut = c.first_cut-cut.result in
    rw (behind cut.more i.rest.now) (elim c.match-cut.branch [
      | in-Gap w ↦ (
          subst (λ ts. IsCut c.args.text.now ts (drop cut.more i.rest.now) (c.loop-first.at + 1 + cut.more)) (ap (λ (v : _). v.items) (sym w.tokens-is))
          (gap_next c.args.text.now c.loop-first.tokens.items c.loop-first.left.now c.loop-first.at i.first.now i.rest.now cut i.ensures.cases.0 c.first_cut-cut.ensures.cut c.loop-first.invariant w.in-Gap.is))
      | in-Good+in_ok-push-in-Good w ↦ (
          subst (λ ts. IsCut c.args.text.now ts (drop cut.more i.rest.now) (c.loop-first.at + 1 + cut.more)) (sym (ap (λ (v : _). v.items) w.tokens-is ∙ w.in_ok-push-in-Good.ensures.items))
          (token_next c.args.text.now c.loop-first.tokens.items c.loop-first.left.now c.loop-first.at i.first.now i.rest.now cut i.ensures.cases.0 c.first_cut-cut.ensures.cut c.loop-first.invariant w.in-Good.sort w.in-Good.is))
    ])

pub returns-clause-tokens : goal.returns-clause-tokens
returns-clause-tokens c = (done c.args.text.now c.loop-first.tokens.items c.loop-first.left.now c.loop-first.at c.in_default.ensures.cases c.loop-first.invariant).tokens

pub returns-clause-places : goal.returns-clause-places
returns-clause-places c = tokens_lie c.args.text.now c.loop-first.tokens.items (done c.args.text.now c.loop-first.tokens.items c.loop-first.left.now c.loop-first.at c.in_default.ensures.cases c.loop-first.invariant).tokens

pub returns-clause-good : goal.returns-clause-good
returns-clause-good c =
    let d = done c.args.text.now c.loop-first.tokens.items c.loop-first.left.now c.loop-first.at c.in_default.ensures.cases c.loop-first.invariant in
    (d.bytes, d.numbers)
