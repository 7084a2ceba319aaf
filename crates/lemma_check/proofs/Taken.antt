-- What the book of a machine is after a choice.
use Rattle.std.proofs.Common.{◌≡◌, sym, ap, ◌∙◌, Bool, true, false, not, ◌&&◌, cond}
use Rattle.qc_model.specs.Domains.{Box, has_empty}
use Rattle.lemma_list.specs.declared.lemma.Step.{Step}
use Rattle.lemma_list.specs.InPlace.{may_step, passed_by, left_by}
use Rattle.lemma_check.specs.declared.machine.Stage.{Stage}
use Rattle.lemma_check.specs.declared.machine.Stage.TheVariants.{Closing}
use Rattle.lemma_check.specs.declared.machine.LemmaMachine.{LemmaMachine}
use Rattle.lemma_check.specs.Books.{Book, closing, wrong, stepped}
use Rattle.lemma_check.specs.Machine.{game_of, book_at, book_of}

-- a step that may be taken
pub step_taken : (m : LemmaMachine) (s : Step) (box : Box) → m.stage ≡ Closing → has_empty m.remains.box ≡ false →
    true ≡ may_step (game_of m) m.known.items m.lemma s m.passed m.remains.box → box ≡ left_by s m.remains.box →
    closing m.known.items m.lemma (passed_by (game_of m) m.known.items s m.passed) box ≡ stepped (game_of m) s (book_of m)
step_taken m s box c f t e =
    let g = game_of m in
    let known = m.known.items in
    let passed = passed_by g known s m.passed in
    let next : Book = closing known m.lemma passed (left_by s m.remains.box) in
    ap (λ (b : Box). closing known m.lemma passed b) e
    ∙ ap (λ (b : Bool). cond b next wrong) t
    ∙ ap (λ (b : Bool). cond (not b && may_step g known m.lemma s m.passed m.remains.box) next wrong) (sym f)
    ∙ sym (ap (λ (st : Stage). stepped g s (book_at st m)) c)
