use Rattle.std.proofs.Common.{subst, sym}
use Rattle.qc_model.specs.Valid.{IsValid}
use Rattle.lemma_check.specs.Machine.{game_of}
use Rattle.lemma_judge.specs.Checking.{IsCheckingBy}
use Rattle.lemma_judge.proofs.Ends.{cut_short, never_bad, whole, some_head, judged, proof, no_proof}
use Rattle.lemma_judge.proofs.progress.ListChecker.judged.Goals as goal

pub returns-in-CutShort : goal.returns-in-CutShort
returns-in-CutShort c = λ bytes h.
    let k = subst (λ s. IsCheckingBy s c.args.self.now bytes) c.requires.going h in
    cut_short _ _ _ _ bytes k c.finish.result c.in-CutShort.is (c.finish.ensures bytes k.told k.stands)

pub returns-in-Bad : goal.returns-in-Bad
returns-in-Bad c = λ bytes h.
    let k = subst (λ s. IsCheckingBy s c.args.self.now bytes) c.requires.going h in
    absurd (never_bad _ _ _ _ bytes k c.finish.result c.in-Bad.is (c.finish.ensures bytes k.told k.stands))

pub returns-in_default : goal.returns-in_default
returns-in_default c = λ bytes h.
    let k = subst (λ s. IsCheckingBy s c.args.self.now bytes) c.requires.going h in
    absurd (some_head _ _ _ _ bytes k c.in_default.is (whole _ _ _ _ bytes k c.finish.result c.in-Whole.is (c.finish.ensures bytes k.told k.stands)))

pub returns-then-finish : goal.returns-then-finish
returns-then-finish c = λ bytes h.
    let k = subst (λ s. IsCheckingBy s c.args.self.now bytes) c.requires.going h in
    let g = game_of c.args.self.now.machine in
    proof g bytes c.in-Some.loser c.finish-in-Whole.result (subst IsValid (sym c.args.self.now.of_problem) c.known.ensures) c.lists_are_true.ensures.won c.lists_are_true.ensures.lost
    (judged _ _ _ _ bytes k c.in-Some.loser c.finish-in-Whole.result c.in-Some.is c.finish-in-Whole.ensures.proves (whole _ _ _ _ bytes k c.finish.result c.in-Whole.is (c.finish.ensures bytes k.told k.stands)))
    c.if-finish.true

pub returns-else-finish : goal.returns-else-finish
returns-else-finish c = λ bytes h.
    let k = subst (λ s. IsCheckingBy s c.args.self.now bytes) c.requires.going h in
    let g = game_of c.args.self.now.machine in
    no_proof g bytes c.in-Some.loser c.finish-in-Whole.result
    (judged _ _ _ _ bytes k c.in-Some.loser c.finish-in-Whole.result c.in-Some.is c.finish-in-Whole.ensures.proves (whole _ _ _ _ bytes k c.finish.result c.in-Whole.is (c.finish.ensures bytes k.told k.stands)))
    c.if-finish.false
