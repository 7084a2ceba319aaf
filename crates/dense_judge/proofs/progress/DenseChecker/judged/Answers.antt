use Rattle.std.proofs.Common.{subst, sym, ap, ◌∙◌}
use Rattle.qc_model.specs.Valid.{IsValid}
use Rattle.dense_check.specs.Telling.{game_of}
use Rattle.dense_judge.specs.Shown.{is_shown}
use Rattle.dense_judge.specs.Checking.{IsCheckingBy}
use Rattle.dense_judge.proofs.Ends.{cut_short, never_bad, whole, some_head, judged, proof, no_proof}
use Rattle.dense_judge.proofs.progress.DenseChecker.judged.Goals as goal

pub returns-in-CutShort : goal.returns-in-CutShort
returns-in-CutShort c = λ bytes h.
    let i = subst (λ s. IsCheckingBy s c.args.self.now bytes) c.requires.going h in
    cut_short _ _ _ _ _ bytes i c.finish.result c.in-CutShort.is (c.finish.ensures bytes i.told i.stands)

pub returns-in-Bad : goal.returns-in-Bad
returns-in-Bad c = λ bytes h.
    let i = subst (λ s. IsCheckingBy s c.args.self.now bytes) c.requires.going h in
    absurd (never_bad _ _ _ _ _ bytes i c.finish.result c.in-Bad.is (c.finish.ensures bytes i.told i.stands))

pub returns-in_default : goal.returns-in_default
returns-in_default c = λ bytes h.
    let i = subst (λ s. IsCheckingBy s c.args.self.now bytes) c.requires.going h in
    absurd (some_head _ _ _ _ _ bytes i c.in_default.is (whole _ _ _ _ _ bytes i c.finish.result c.in-Whole.is (c.finish.ensures bytes i.told i.stands)))

pub returns-then-is_shown : goal.returns-then-is_shown
returns-then-is_shown c = λ bytes h.
    let i = subst (λ s. IsCheckingBy s c.args.self.now bytes) c.requires.going h in
    let g = game_of c.args.self.now.machine in
    proof g bytes c.in-Some.head c.is_shown.result (subst IsValid (sym c.args.self.now.of_problem) c.known.ensures) c.certificates_are_true.ensures
    (judged _ _ _ _ _ bytes i c.in-Some.head c.answer.result c.is_shown.result c.in-Some.is (record { none = c.answer.ensures.none; some = c.answer.ensures.some; wrong = c.answer.ensures.wrong })
    (c.is_shown.ensures ∙ ap (λ q. is_shown q.scopes c.answer.result c.in-Some.head) (sym c.args.self.now.of_problem)) c.pieces_gather_to_lines.ensures c.ledgers_are_right.ensures
    (whole _ _ _ _ _ bytes i c.finish.result c.in-Whole.is (c.finish.ensures bytes i.told i.stands)))
    c.if-is_shown.true

pub returns-else-is_shown : goal.returns-else-is_shown
returns-else-is_shown c = λ bytes h.
    let i = subst (λ s. IsCheckingBy s c.args.self.now bytes) c.requires.going h in
    let g = game_of c.args.self.now.machine in
    no_proof g bytes c.in-Some.head c.is_shown.result
    (judged _ _ _ _ _ bytes i c.in-Some.head c.answer.result c.is_shown.result c.in-Some.is (record { none = c.answer.ensures.none; some = c.answer.ensures.some; wrong = c.answer.ensures.wrong })
    (c.is_shown.ensures ∙ ap (λ q. is_shown q.scopes c.answer.result c.in-Some.head) (sym c.args.self.now.of_problem)) c.pieces_gather_to_lines.ensures c.ledgers_are_right.ensures
    (whole _ _ _ _ _ bytes i c.finish.result c.in-Whole.is (c.finish.ensures bytes i.told i.stands)))
    c.if-is_shown.false
