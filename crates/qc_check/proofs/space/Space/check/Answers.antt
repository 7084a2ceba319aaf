use Rattle.std.proofs.Common.{◌≡◌, ◌∙◌, ◌&&◌, Bool, true, false, IsTrue, refl, subst, sym, ap}
use Rattle.std.specs.Prelude.{◌↔◌}
use Rattle.qc_model.specs.Content.{Game}
use Rattle.qc_model.specs.Valid.{IsValid}
use Rattle.proof_tree.specs.Shape.{tree_of}
use Rattle.proof_tree.specs.Counts.{turns_of}
use Rattle.proof_tree.specs.Proves.{proves}
use Rattle.check_lines.specs.Machine.{game_of}
use Rattle.qc_check.specs.Shown.{found_shows, counts_turns, answer_of}
use Rattle.qc_check.specs.declared.finding.Answer.TheVariants.{Yes}
use Rattle.qc_check.proofs.Ends.{tree_judged}
use Rattle.qc_check.proofs.space.Space.check.Goals as goal
use Rattle.qc_check.proofs.space.Space.check.Goals.{After-has_turns-counted}

told : (c : After-has_turns-counted) → proves (game_of c.args.self.now.machine) c.args.cert.now.outcome c.args.cert.now.optimum (tree_of c.args.cert.now.root) ≡ (c.is_shown-shown.result && c.has_turns-counted.result)
told c =
    let cert = c.args.cert.now in
    let g = game_of c.args.self.now.machine in
    let t = tree_of cert.root in
    tree_judged g t c.judge-found.result cert.shallow c.judge-found.ensures.come (λ o a deep placed. c.answers_are_right.ensures.trees g t o a deep placed) (λ f a. c.answers_are_right.ensures.own g t f a) cert.outcome cert.optimum c.has_turns-counted.ensures.fits
    ∙ (ap (λ (u : Game). found_shows u.scopes c.judge-found.result cert.outcome cert.optimum && counts_turns (turns_of t) cert.outcome) (sym c.judge-found.ensures.same ∙ c.judge-found.new.self.of_problem)
    ∙ (ap (λ b. b && counts_turns (turns_of t) cert.outcome) (sym c.is_shown-shown.ensures) ∙ ap (λ b. c.is_shown-shown.result && b) (sym c.has_turns-counted.ensures.counts)))

yes_where : (b : Bool) → (answer_of b ≡ Yes) ↔ IsTrue b
yes_where true = (λ e. refl, λ e. refl)
yes_where false = (λ e. cc, λ e. cc)

pub returns-clause-yes : goal.returns-clause-yes
returns-clause-yes c =
    let proved = told (goal.at.returns-clause-yes c).After-has_turns-counted in
    subst (λ a. (a ≡ Yes) ↔ IsTrue (proves (game_of c.args.self.now.machine) c.args.cert.now.outcome c.args.cert.now.optimum (tree_of c.args.cert.now.root))) (sym c.conclude.ensures)
    (subst (λ b. (answer_of (c.is_shown-shown.result && c.has_turns-counted.result) ≡ Yes) ↔ IsTrue b) (sym proved) (yes_where (c.is_shown-shown.result && c.has_turns-counted.result)))

pub returns-clause-means : goal.returns-clause-means
returns-clause-means c = λ yes.
    let cert = c.args.cert.now in
    let g = game_of c.args.self.now.machine in
    c.outcomes_are_true.ensures g cert.outcome cert.optimum (tree_of cert.root) (subst IsValid (sym c.args.self.now.of_problem) c.known.ensures)
    (told (goal.at.returns-clause-means c).After-has_turns-counted ∙ (yes_where (c.is_shown-shown.result && c.has_turns-counted.result)).0 (sym c.conclude.ensures ∙ yes))
