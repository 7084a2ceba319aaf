-- A play is written where the certificate proves that the game is won, or that it isn't, and the moves can be made.
use Rattle.std.proofs.Common.{◌≡◌, ◌∙◌, ℕ, true, List, Option, Some, None, ℤ, inl, inr, refl, subst}
use Rattle.qc_model.specs.declared.problem.Kind.{Kind}
use Rattle.qc_model.specs.Content.{Game}
use Rattle.qc_model.specs.Plan.{Plan as Choices}
use Rattle.proof_tree.specs.declared.tree.Outcome.{Outcome}
use Rattle.proof_tree.specs.declared.tree.Outcome.TheVariants.{Open as OpenOutcome}
use Rattle.proof_tree.specs.Tree.{Tree}
use Rattle.proof_text.specs.Places.{IsText, IsFault}
use Rattle.proof_text.specs.Laws.{NeverBoth, IsOneCertificate}
use Rattle.qc_play.specs.Play.{Ending, at_goal, stuck_at, hopeless_at, missing_at, not_allowed_at, play_of}
use Rattle.qc_play.specs.Playing.{is_played}
use Rattle.qecode_commands.specs.declared.status.Status.{Status}
use Rattle.qecode_commands.specs.declared.status.Status.TheVariants.{Done, NotProved, Open, BadCertificate, TooLong, ReadFault, Memory, BadMoves}
use Rattle.qecode_commands.specs.Certificates.{HasNoCertificate, TurnsCertificateDown, IsCertificateOf}
use Rattle.qecode_commands.specs.Moves.{bad_moves_at, moves_of, TurnsMovesDown}
use Rattle.qecode_commands.specs.Plays.{side_of, shown_tree, FailLine, PlaysMoves, PlaysBytes, PlaysFile, PlaysCertificate, PlaysProblem}
use Rattle.qecode_commands.specs.Complete.{TellsSide, TellsMoves}
use Rattle.qecode_commands.proofs.Told.{told_bytes, never_long, never_unread, no_want}

-- the file has a certificate
never_no_certificate : NeverBoth → (told : Option (List ℕ)) (g : Game) (own : Kind) (root : Tree) (t : List ℕ) → TellsSide told g own root → HasNoCertificate told t → ⊥
never_no_certificate never told g own root t tells down =
    let e : down.bytes ≡ tells.bytes = told_bytes told tells.bytes down.bytes tells.told_is down.file.same in
    let f = down.refused.fault in
    never tells.bytes f (tells.version, tells.outcome, tells.optimum, root, tells.read.spellable, tells.read.shallow, tells.read.spelled)
    (subst (IsFault f) e down.refused.is, no_want f t down.refused.line)

pub never_uncertified : NeverBoth → (name : List ℕ) (told : Option (List ℕ)) (gave : ℕ → Type 0) (g : Game) (own : Kind) (root : Tree) → TellsSide told g own root →
    (s : Status) (t : List ℕ) → TurnsCertificateDown name told gave s t → ¬ (s ≡ Memory) → ¬ (s ≡ ReadFault) → ⊥
never_uncertified never name told gave g own root tells BadCertificate t d m r = never_no_certificate never told g own root t tells d
never_uncertified never name told gave g own root tells TooLong t d m r = never_long 33554432 name told gave t tells.bytes tells.told_is tells.within d
never_uncertified never name told gave g own root tells Memory t d m r = m refl
never_uncertified never name told gave g own root tells ReadFault t d m r = r refl
never_uncertified never name told gave g own root tells s t d m r = d

-- and it is that one
pub one_certificate : IsOneCertificate → (told : Option (List ℕ)) (g : Game) (own : Kind) (root : Tree) (o : Outcome) (p : Option ℤ) (r : Tree) →
    (tells : TellsSide told g own root) → IsCertificateOf told o p r → (o ≡ tells.outcome) × (p ≡ tells.optimum) × (r ≡ root)
one_certificate one told g own root o p r tells of =
    let e : of.bytes ≡ tells.bytes = told_bytes told tells.bytes of.bytes tells.told_is of.file.same in
    let x : IsText 1000 of.bytes = (of.version, o, p, r, of.read.spellable, of.read.shallow, of.read.spelled) in
    let y : IsText 1000 of.bytes = (tells.version, tells.outcome, tells.optimum, root, tells.read.spellable, tells.read.shallow, e ∙ tells.read.spelled) in
    let same : (x.0 ≡ y.0) × (x.1 ≡ y.1) × (x.2 ≡ y.2) × (x.3 ≡ y.3) = one of.bytes x y in
    (same.1, same.2, same.3)

no_fail : (e : Ending) (t : List ℕ) → FailLine e t → is_played e ≡ true → ⊥
no_fail (at_goal holds) t h p = h
no_fail (stuck_at i) t h p = h
no_fail (hopeless_at i) t h p = h
no_fail (missing_at i) t h p = cc
no_fail (not_allowed_at i) t h p = cc

moves_done : (g : Game) (own : Kind) (tree : Choices) (ms : List ℤ) → is_played (play_of g own tree ms).ending ≡ true →
    (s : Status) (t : List ℕ) → PlaysMoves g own tree ms s t → ¬ (s ≡ Memory) → s ≡ Done
moves_done g own tree ms p Done t h m = refl
moves_done g own tree ms p BadMoves t h m = absurd (no_fail (play_of g own tree ms).ending t h p)
moves_done g own tree ms p Memory t h m = absurd (m refl)
moves_done g own tree ms p s t h m = absurd h

pub never_bad : (bytes : List ℕ) → bad_moves_at bytes ≡ None → (s : Status) (t : List ℕ) → TurnsMovesDown bytes s t → ¬ (s ≡ Memory) → ⊥
never_bad bytes good BadMoves t d m = let e : bad_moves_at bytes ≡ Some d.at = d.is in cc
never_bad bytes good Memory t d m = m refl
never_bad bytes good s t d m = d

bytes_done : (g : Game) (own : Kind) (tree : Choices) (bytes : List ℕ) → bad_moves_at bytes ≡ None → is_played (play_of g own tree (moves_of bytes)).ending ≡ true →
    (s : Status) (t : List ℕ) → PlaysBytes g own tree bytes s t → ¬ (s ≡ Memory) → s ≡ Done
bytes_done g own tree bytes good p s t h m =
    elim h [
      | inl d ↦ absurd (never_bad bytes good s t d m)
      | inr (is, k) ↦ moves_done g own tree (moves_of bytes) p s t k m
    ]

file_done : (name : List ℕ) (told : Option (List ℕ)) (gave : ℕ → Type 0) (g : Game) (own : Kind) (root : Tree) → TellsMoves told g own root →
    (s : Status) (t : List ℕ) → PlaysFile g own (shown_tree g root own) name told gave s t → ¬ (s ≡ Memory) → ¬ (s ≡ ReadFault) → s ≡ Done
file_done name told gave g own root tells s t h m r =
    elim h [
      | inl d ↦ absurd (never_unread 65536 name told gave tells.bytes tells.told_is tells.within s t d m r)
      | inr (bytes, file, k) ↦
          bytes_done g own (shown_tree g root own) tells.bytes tells.good tells.played s t
          (subst (λ b. PlaysBytes g own (shown_tree g root own) b s t) (told_bytes told tells.bytes bytes tells.told_is file.same) k) m
    ]

pub same_side : (o : Outcome) (own other : Kind) → side_of o ≡ Some own → side_of o ≡ Some other → other ≡ own
same_side o own other e f = cc

pub not_open : (o : Outcome) (own : Kind) (n : ℕ) → side_of o ≡ Some own → o ≡ OpenOutcome n → ⊥
not_open o own n e f = let k : None ≡ Some own = subst (λ q. side_of q ≡ Some own) f e in cc

certificate_done : (side : Option (List ℕ)) (name : List ℕ) (told : Option (List ℕ)) (gave : ℕ → Type 0) (g : Game) (own : Kind) (root : Tree) →
    (tells : TellsSide side g own root) → TellsMoves told g own root → (s : Status) (t : List ℕ) → PlaysCertificate tells.outcome tells.optimum root name told gave g s t →
    ¬ (s ≡ Memory) → ¬ (s ≡ ReadFault) → s ≡ Done
certificate_done side name told gave g own root tells moves NotProved t h m r = absurd (h.fails tells.proved)
certificate_done side name told gave g own root tells moves Open t h m r = absurd (not_open tells.outcome own h.turns tells.side h.outcome_is)
certificate_done side name told gave g own root tells moves Memory t h m r = absurd (m refl)
certificate_done side name told gave g own root tells moves s t h m r =
    file_done name told gave g own root moves s t
    (subst (λ k. PlaysFile g k (shown_tree g root k) name told gave s t) (same_side tells.outcome own h.0 tells.side h.1.side) h.2) m r

pub plays_done : NeverBoth → IsOneCertificate → (certificate name : List ℕ) (told : List ℕ → Option (List ℕ)) (gave : ℕ → Type 0) (g : Game) (own : Kind) (root : Tree) →
    TellsSide (told certificate) g own root → TellsMoves (told name) g own root →
    (s : Status) (t : List ℕ) → PlaysProblem certificate name told gave g s t → ¬ (s ≡ Memory) → ¬ (s ≡ ReadFault) → s ≡ Done
plays_done never one certificate name told gave g own root tells moves s t h m r =
    elim h [
      | inl d ↦ absurd (never_uncertified never certificate (told certificate) gave g own root tells s t d m r)
      | inr (o, p, q, of, k) ↦
          let same = one_certificate one (told certificate) g own root o p q tells of in
          certificate_done (told certificate) name (told name) gave g own root tells moves s t
          (subst (λ x. PlaysCertificate tells.outcome tells.optimum x name (told name) gave g s t) same.2
          (subst (λ x. PlaysCertificate tells.outcome x q name (told name) gave g s t) same.1
          (subst (λ x. PlaysCertificate x p q name (told name) gave g s t) same.0 k))) m r
    ]
