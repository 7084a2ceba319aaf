use Rattle.std.proofs.Common.{◌∷◌, [], get_or}
use Rattle.std.proofs.lemmas.Result.{err_from_is_err_and}
use Rattle.proof_text.specs.Symbols.{byte, bytes}
use Rattle.proof_text.proofs.Sequences.{fails_by, literal_leads, literal_told, literal_goes}
use Rattle.proof_text.proofs.scan.literal.Goals as goal

pub returns-in_err-rest-clause-err : goal.returns-in_err-rest-clause-err
returns-in_err-rest-clause-err c =
    let p = err_from_is_err_and c.from_residual.result c.from_residual.ensures.1 in
    rw (p.1, p.2) (fails_by (bytes c.args.wanted.now) (byte (get_or c.args.wanted.now c.loop-next.next-index 0) ∷ []) c.args.text.now c.loop-next.rest.now c.in_err-rest.field-0.0
    (literal_leads c.args.wanted.now c.args.text.now c.loop-next.rest.now c.loop-next.next-index c.loop-next-test.true c.loop-next.invariant.goes) c.in_err-rest.ensures.err)

pub loop-next-preserved : goal.loop-next-preserved
loop-next-preserved c = record {
  told = literal_told c.args.wanted.now c.args.text.now c.loop-next.rest.now c.in_ok-rest.rest.now c.loop-next.next-index c.loop-next-test.true c.loop-next.invariant.told c.in_ok-rest.ensures.ok.0;
  goes = literal_goes c.args.wanted.now c.args.text.now c.loop-next.rest.now c.in_ok-rest.rest.now c.loop-next.next-index c.loop-next-test.true c.loop-next.invariant.goes c.in_ok-rest.ensures.ok.1;
}
