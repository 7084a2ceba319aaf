use Rattle.std.proofs.Common.{◌≡◌, subst, sym, ap, ◌∙◌}
use Rattle.qc_model.specs.Content.{Game}
use Rattle.qc_check.specs.Shown.{found_shows}
use Rattle.qc_model.specs.Valid.{IsValid}
use Rattle.check_lines.specs.Machine.{game_of}
use Rattle.qc_check.specs.Checking.{IsCheckingBy}
use Rattle.qc_check.proofs.Ends.{unended, some_head, judged, proof, no_proof, opposed}
use Rattle.qc_check.proofs.progress.Checker.judged.Goals as goal

pub returns-then-not-is_ended : goal.returns-then-not-is_ended
returns-then-not-is_ended c = λ bytes h.
    let k = subst (λ s. IsCheckingBy s c.args.self.now bytes) c.requires.going h in
    unended _ _ _ _ bytes c.bytes_are_one_text_or_have_one_fault.ensures.either k (λ t. opposed c.is_ended.result c.if-not-is_ended.true ((c.is_ended.ensures.ended bytes k.told k.stands).1 t))

pub returns-in_default : goal.returns-in_default
returns-in_default c = λ bytes h.
    let k = subst (λ s. IsCheckingBy s c.args.self.now bytes) c.requires.going h in
    absurd (some_head _ _ _ _ bytes k c.in_default.is (c.is_ended.ensures.told bytes k.told k.stands c.if-not-is_ended.false))

pub returns-then-is_shown : goal.returns-then-is_shown
returns-then-is_shown c = λ bytes h.
    let k = subst (λ s. IsCheckingBy s c.args.self.now bytes) c.requires.going h in
    let g = game_of c.args.self.now.machine in
    let there : found_shows g.scopes c.finish.result c.in-Some.stated.outcome c.in-Some.stated.optimum ≡ c.is_shown.result =
    ap (λ (u : Game). found_shows u.scopes c.finish.result c.in-Some.stated.outcome c.in-Some.stated.optimum) c.args.self.now.of_problem ∙ sym c.is_shown.ensures in
    proof g bytes c.in-Some.stated c.finish.result
    (λ t q. c.outcomes_are_true.ensures g c.in-Some.stated.outcome c.in-Some.stated.optimum t (subst IsValid (sym c.args.self.now.of_problem) c.known.ensures) q)
    (judged _ _ _ c.in-Some.stated _ bytes k c.in-Some.is c.finish.result c.finish.ensures.answers
    (λ t o a deep placed. c.answers_are_right.ensures.trees g t o a deep placed) (λ t f a. c.answers_are_right.ensures.own g t f a)
    (c.is_ended.ensures.told bytes k.told k.stands c.if-not-is_ended.false))
    (there ∙ c.if-is_shown.true)

pub returns-else-is_shown : goal.returns-else-is_shown
returns-else-is_shown c = λ bytes h.
    let k = subst (λ s. IsCheckingBy s c.args.self.now bytes) c.requires.going h in
    let g = game_of c.args.self.now.machine in
    let there : found_shows g.scopes c.finish.result c.in-Some.stated.outcome c.in-Some.stated.optimum ≡ c.is_shown.result =
    ap (λ (u : Game). found_shows u.scopes c.finish.result c.in-Some.stated.outcome c.in-Some.stated.optimum) c.args.self.now.of_problem ∙ sym c.is_shown.ensures in
    no_proof g bytes c.in-Some.stated c.finish.result
    (judged _ _ _ c.in-Some.stated _ bytes k c.in-Some.is c.finish.result c.finish.ensures.answers
    (λ t o a deep placed. c.answers_are_right.ensures.trees g t o a deep placed) (λ t f a. c.answers_are_right.ensures.own g t f a)
    (c.is_ended.ensures.told bytes k.told k.stands c.if-not-is_ended.false))
    (there ∙ c.if-is_shown.false)
