use Rattle.std.proofs.Common.{◌≡◌, ◌∙◌, sym, ap, subst, Bool, false, not, ◌&&◌}
use Rattle.qc_model.specs.Domains.{has_empty}
use Rattle.fd_store.specs.Held.{Held}
use Rattle.lemma_list.specs.declared.lemma.Ending.{Ending}
use Rattle.lemma_list.specs.Reasons.{shows}
use Rattle.lemma_list.specs.InPlace.{no_answer, ends}
use Rattle.lemma_check.proofs.showing.Showing.may_end.Goals as goal

pub returns-in-Lost : goal.returns-in-Lost
returns-in-Lost c =
    let s = c.args.self.now in
    let g = s.aim.problem.now in
    let m = s.aim.lemma.now in
    let box = c.args.remains.now.box in
    let full : has_empty box ≡ false = sym c.is_empty.ensures ∙ c.if-is_empty.false in
    let shown : c.shows.result ≡ shows g s.known.now m no_answer s.passed box box c.in-Lost.by =
    subst (λ (h : Held). c.shows.result ≡ shows g s.known.now m no_answer s.passed h.box h.box c.in-Lost.by) c.store.ensures c.shows.ensures in
    shown ∙ sym (ap (λ (b : Bool). not b && shows g s.known.now m no_answer s.passed box box c.in-Lost.by) full) ∙ sym (ap (λ (e : Ending). ends g s.known.now m e s.passed box) c.in-Lost.is)
