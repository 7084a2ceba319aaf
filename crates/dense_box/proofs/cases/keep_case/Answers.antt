use Rattle.std.proofs.Common.{◌≡◌, ◌∙◌, sym, ap, length, arith, to_z, of_z, w64}
use Rattle.std.specs.Prelude.{nat_lt}
use Rattle.qc_model.specs.Domains.{Values, box_within, values_left}
use Rattle.fd_store.specs.Held.{Held}
use Rattle.box_laws.proofs.Numbers.{passed_number}
use Rattle.check_box.proofs.Cuts.{fewer}
use Rattle.dense_box.proofs.cases.keep_case.Goals as goal

pub returns-clause-narrower : goal.returns-clause-narrower
returns-clause-narrower c = λ from upto k.
    let box = c.args.remains.now.box in
    let x = c.args.x.0 in
    let vs = values_left box x in
    let new = c.keep.new.self.box in
    let low = c.args.ends.first in
    let high = c.args.ends.last in
    let same : new ≡ box_within box x low high =
    c.keep.ensures.content
    ∙ (ap (λ z. box_within box x z (to_z w64 (of_z w64 high))) (passed_number low c.requires.first) ∙ ap (box_within box x low) (passed_number high c.requires.last)) in
    let before : c.size-before.result ≡ length vs = c.size-before.ensures ∙ ap (λ (h : Held). length (values_left h.box x)) c.store.ensures in
    let after : c.size.result ≡ length (values_left new x) = c.size.ensures ∙ ap (λ (h : Held). length (values_left h.box x)) c.store-2.ensures in
    sym (ap (λ (us : Values). nat_lt (length us) (length vs)) k.covers ∙ fewer box new x low high c.requires.var same (λ e. omega (arith, e, before, after)))
