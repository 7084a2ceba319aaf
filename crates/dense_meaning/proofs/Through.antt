-- Through several scopes at once.
use Rattle.std.proofs.Common.{◌≡◌, ℕ, zero, suc, ◌+◌, ◌≤◌, ◌<◌, List, [], ◌∷◌, ◌++◌, length, take, drop, ap, ◌∙◌, subst, arith, ℤ, pos, Option}
use Rattle.std.specs.Prelude.{slice_index_or}
use Rattle.qc_model.specs.declared.problem.Kind.{Kind}
use Rattle.qc_model.specs.declared.problem.Kind.TheVariants.{Exists, Forall}
use Rattle.qc_model.specs.declared.problem.Condition.{Condition}
use Rattle.qc_model.specs.declared.problem.Scope.{Scope}
use Rattle.qc_model.specs.Content.{Game}
use Rattle.qc_model.specs.Lists.{Among}
use Rattle.qc_model.specs.Domains.{Box, InBox, values_left}
use Rattle.qc_model.specs.Game.{before}
use Rattle.qc_model.specs.Verdict.{lost}
use Rattle.dense_meaning.specs.Throughout.{IsPositionIn, Throughout}
use Rattle.dense_meaning.specs.Plays.{NeverStuck, OpponentHasMoves, GoesOn}
use Rattle.proof_meaning.proofs.Passing.{move_count}
use Rattle.dense_meaning.proofs.AfterScopes.{postpone_lost, answer_at}
use Rattle.dense_meaning.proofs.Staying.{plays_lost}
use Rattle.dense_meaning.proofs.Targets.{left_at}

-- of either kind
step_lost : (k : Kind) (x : Option Condition) (g : Game) (later : List Scope) (i : ℕ) (d e : List Condition) (box : Box) → OpponentHasMoves k g i box →
    Throughout lost g later (suc i) e box → Throughout lost g (record { kind = k; condition = x } ∷ later) i d box
step_lost Exists x g later i d e box f h = postpone_lost g later x i d e box h
step_lost Forall x g later i d e box f h = λ a at r o.
    let t = f a at in
    let q = answer_at g x later i box a t.0 r at.count o t.1 in
    h (a ++ t.0) q.1.at q.0 q.1.after

pub lost_later : (g : Game) (n i : ℕ) (scopes : List Scope) (d e : List Condition) (box : Box) → n ≤ length scopes → NeverStuck g (take n scopes) i box →
    Throughout lost g (drop n scopes) (n + i) e box → Throughout lost g scopes i d box
lost_later g zero i scopes d e box l f h = subst (λ j. Throughout lost g scopes j d box) (let q : 0 + i ≡ i = omega arith in q) h
lost_later g (suc n) i [] d e box l f h = absurd (omega arith)
lost_later g (suc n) i (s ∷ scopes) d e box l f h =
    step_lost s.kind s.condition g scopes i d e box f.0
    (lost_later g n (suc i) scopes e e box (omega arith) f.1 (subst (λ j. Throughout lost g (drop n scopes) j e box) (let q : suc n + i ≡ n + suc i = omega arith in q) h))

pub goes_count : (g : Game) (later : List Scope) (n i : ℕ) (a w : List ℤ) → n ≤ length later → length a ≡ before g i → GoesOn g later n i a w → length w ≡ before g (n + i)
goes_count g later zero i a w l e h = ap length h ∙ e ∙ ap (before g) (let q : i ≡ 0 + i = omega arith in q)
goes_count g [] (suc n) i a w l e h = absurd (omega arith)
goes_count g (s ∷ later) (suc n) i a w l e h =
    goes_count g later n (suc i) (a ++ h.0) w (omega arith) (move_count g i a h.0 e h.1) h.2 ∙ ap (before g) (let q : n + suc i ≡ suc n + i = omega arith in q)

-- nobody goes through a variable without values
pub empty_lost : (g : Game) (later : List Scope) (n i : ℕ) (d : List Condition) (box : Box) (x : ℕ) → n ≤ length later → NeverStuck g (take n later) i box →
    x < before g (n + i) → values_left box x ≡ [] → Throughout lost g later i d box
empty_lost g later n i d box x few free l e = plays_lost g later n i box free none
  where
    none : (a w : List ℤ) → IsPositionIn g i box a → GoesOn g later n i a w → ¬ InBox w box
    none a w at h j =
        let c = goes_count g later n i a w few at.count h in
        subst (Among (slice_index_or w x (pos 0))) e (left_at w box x (omega arith) j)
