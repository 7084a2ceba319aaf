use Rattle.std.proofs.Common.{◌≡◌, ◌++◌, Some, codes, subst, w64}
use Rattle.std.proofs.lemmas.Int.{to_z-of_z}
use Rattle.proof_tree.specs.declared.tree.Outcome.TheVariants.{True}
use Rattle.proof_tree.specs.Text.{outcome_text}
use Rattle.best_text.proofs.Whole.{number_fits}
use Rattle.best_judge.specs.Proof.{Comes, IsBestProof}
use Rattle.qecode_commands.proofs.Written.{Wrote-weaker}
use Rattle.dense_commands.proofs.best.tell.Goals as goal

pub returns-in-Yes-clause-wrote : goal.returns-in-Yes-clause-wrote
returns-in-Yes-clause-wrote g c = Wrote-weaker _ _ _ _ c.confirm.result _ _
    (λ s t is game bytes p.
    let v = c.in-Yes.value in
    let proof : IsBestProof game bytes v = subst (Comes game bytes) c.in-Yes.is p in
    let line : t ≡ codes "yes " ++ outcome_text True (Some v) =
    subst (λ k. t ≡ codes "yes " ++ outcome_text True (Some k)) (to_z-of_z w64 v (number_fits v proof.text.fits.value)) is.1 in
    rw is.0 (record { value = v; proof = proof; line = line }))
    c.confirm.ensures.wrote

pub returns-in-NotProved-clause-wrote : goal.returns-in-NotProved-clause-wrote
returns-in-NotProved-clause-wrote g c = Wrote-weaker _ _ _ _ c.finish.result _ _
    (λ s t is game bytes p. rw is.0 (record { no_proof = subst (Comes game bytes) c.in-NotProved.is p; line = is.1 })) c.finish.ensures.wrote

pub returns-in-NotACertificate-clause-wrote : goal.returns-in-NotACertificate-clause-wrote
returns-in-NotACertificate-clause-wrote g c = Wrote-weaker _ _ _ _ c.refuse.result _ _
    (λ s t is game bytes p. rw is.0 (record { place = c.in-NotACertificate.at; fault = subst (Comes game bytes) c.in-NotACertificate.is p; line = is.1 })) c.refuse.ensures.wrote
