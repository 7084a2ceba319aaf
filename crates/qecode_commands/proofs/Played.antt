-- What is answered for a play, from its last step to its first.
use Rattle.std.proofs.Common.{◌≡◌, ℕ, List, [], ◌++◌, Option, ℤ, inl, inr, ap, sym, subst}
use Rattle.std.specs.Prelude.{IsTrue, codes, decimal}
use Rattle.qc_model.specs.declared.problem.Kind.{Kind}
use Rattle.qc_model.specs.declared.problem.Kind.TheVariants.{Exists, Forall}
use Rattle.qc_model.specs.Content.{Game}
use Rattle.qc_model.specs.Plan.{Plan as Choices}
use Rattle.qc_model.specs.Optimal.{Optimal}
use Rattle.proof_tree.specs.declared.tree.Outcome.{Outcome}
use Rattle.proof_tree.specs.declared.line.Line.{Line}
use Rattle.proof_tree.specs.Tree.{Tree}
use Rattle.proof_tree.specs.Proves.{proves}
use Rattle.proof_text.specs.declared.fault.CertFault.{CertFault}
use Rattle.proof_text.specs.declared.fault.CertFault.TheVariants.{NotACertificate, TooDeep, Memory as WantCertificate}
use Rattle.proof_text.specs.Places.{IsFault}
use Rattle.qc_play.specs.declared.plan.Plan.{Plan}
use Rattle.qc_play.specs.declared.counter.Counter.{Counter}
use Rattle.qc_play.specs.declared.fault.PlayFault.{PlayFault}
use Rattle.qc_play.specs.declared.fault.PlayFault.TheVariants.{Missing, NotAllowed, Memory as WantPlay}
use Rattle.qc_play.specs.Shape.{plan_of, tree_of_counter}
use Rattle.qc_play.specs.Ends.{IsWinning}
use Rattle.qc_play.specs.Made.{IsPlanOf, IsCounterOf}
use Rattle.qc_play.specs.Evidence.{IsLeftOpen}
use Rattle.qc_play.specs.Listing.{IsReadFrom}
use Rattle.qc_play.specs.Play.{play_of}
use Rattle.qc_play.specs.Playing.{IsFaultOf}
use Rattle.qecode_commands.specs.declared.status.Status.{Status}
use Rattle.qecode_commands.specs.declared.status.Status.TheVariants.{NotProved, Open, BadCertificate, Memory}
use Rattle.qecode_commands.specs.declared.moves.NoMoves.{NoMoves}
use Rattle.qecode_commands.specs.declared.moves.NoMoves.TheVariants.{Bad, Memory as Want}
use Rattle.qecode_commands.specs.Files.{IsFile, TurnsFileDown}
use Rattle.qecode_commands.specs.Certificates.{HasLinesOf, TurnsFaultDown, TurnsCertificateTextDown, TurnsCertificateDown}
use Rattle.qecode_commands.specs.Moves.{ExplainsMoves, TurnsMovesFaultDown, TurnsMovesDown}
use Rattle.qecode_commands.specs.Plays.{side_of, shown_tree, ShowsSide, FailLine, TurnsPlayDown, PlaysMoves, PlaysFile, PlaysCertificate, PlaysProblem}
use Rattle.qecode_commands.proofs.Down.{file_before}

-- a text that is no certificate's
pub certificate_down : (bytes : List ℕ) (f : CertFault) (s : Status) (t : List ℕ) → IsFault f bytes → TurnsFaultDown f s t → TurnsCertificateTextDown bytes s t
certificate_down bytes (NotACertificate at) s t why is = rw is.0 (record { fault = NotACertificate at; is = why; line = is.1 })
certificate_down bytes (TooDeep at) s t why is = rw is.0 (record { fault = TooDeep at; is = why; line = is.1 })
certificate_down bytes (WantCertificate e) s t why is = rw is.0 is.1

pub certificate_text_down : (name bytes : List ℕ) (told : Option (List ℕ)) (gave : ℕ → Type 0) → IsFile 33554432 told bytes →
    (s : Status) (t : List ℕ) → TurnsCertificateTextDown bytes s t → TurnsCertificateDown name told gave s t
certificate_text_down name bytes told gave file BadCertificate t h = record { bytes = bytes; file = file; refused = h }
certificate_text_down name bytes told gave file Memory t h = h
certificate_text_down name bytes told gave file s t h = absurd h

pub no_certificate_file : (name : List ℕ) (told : Option (List ℕ)) (gave : ℕ → Type 0) (s : Status) (t : List ℕ) →
    TurnsFileDown 33554432 name told gave s t → TurnsCertificateDown name told gave s t
no_certificate_file name told gave BadCertificate t h = absurd h
no_certificate_file name told gave s t h = h

-- a text that is one's, by its lines
pub read_lines_of : (told : Option (List ℕ)) (bytes : List ℕ) (o : Outcome) (p : Option ℤ) (lines : List Line) → IsFile 33554432 told bytes → IsReadFrom bytes o p lines → HasLinesOf told o p lines
read_lines_of told bytes o p lines file r = record { root = r.root; of = record { bytes = bytes; file = file; version = r.version; read = r.read }; is = r.is; listed = r.listed }

-- a text that is no moves
pub moves_down : (bytes : List ℕ) (f : NoMoves) (s : Status) (t : List ℕ) → ExplainsMoves bytes f → TurnsMovesFaultDown f s t → TurnsMovesDown bytes s t
moves_down bytes (Bad at) s t why is = rw is.0 (record { at = at; is = why; line = is.1 })
moves_down bytes (Want e) s t why is = rw is.0 is.1

-- moves that fail
pub play_down : (g : Game) (own : Kind) (tree : Choices) (ms : List ℤ) (f : PlayFault) (s : Status) (t : List ℕ) →
    IsFaultOf (play_of g own tree ms) f → TurnsPlayDown f s t → PlaysMoves g own tree ms s t
play_down g own tree ms (Missing i) s t why is = rw is.0 (subst (λ e. FailLine e t) (sym why) is.1)
play_down g own tree ms (NotAllowed i) s t why is = rw is.0 (subst (λ e. FailLine e t) (sym why) is.1)
play_down g own tree ms (WantPlay e) s t why is = rw is.0 is.1

module _ (g : Game) (outcome : Outcome) (optimum : Option ℤ) (root : Tree) where
  -- who plays by what the certificate shows
  pub plan_side : (plan : Plan) → IsPlanOf g outcome optimum root plan → ShowsSide g outcome optimum root Exists
  plan_side plan m = record {
    proves = m.proves;
    side = ap side_of m.outcome_is;
    sound = subst (λ q. Optimal g g.scopes 0 [] q) m.reading m.optimal;
  }

  pub counter_side : (counter : Counter) → IsCounterOf g outcome optimum root counter → ShowsSide g outcome optimum root Forall
  counter_side counter m = record {
    proves = m.proves;
    side = ap side_of m.outcome_is;
    sound = subst (λ q. IsWinning g g.scopes 0 [] q) m.reading m.winning;
  }

  module _ (own : Kind) (tree : Choices) (name : List ℕ) (told : Option (List ℕ)) (gave : ℕ → Type 0) (t : List ℕ) where
    never_not_proved : PlaysFile g own tree name told gave NotProved t → ⊥
    never_not_proved h = elim h [ inl d ↦ d | inr (bytes, file, k) ↦ elim k [ inl d ↦ d | inr (good, m) ↦ m ] ]

    never_open : PlaysFile g own tree name told gave Open t → ⊥
    never_open h = elim h [ inl d ↦ d | inr (bytes, file, k) ↦ elim k [ inl d ↦ d | inr (good, m) ↦ m ] ]

    nothing_written : PlaysFile g own tree name told gave Memory t → t ≡ []
    nothing_written h = elim h [ inl d ↦ d | inr (bytes, file, k) ↦ elim k [ inl d ↦ d | inr (good, m) ↦ m ] ]

  by_side : (own : Kind) (tree : Choices) (name : List ℕ) (told : Option (List ℕ)) (gave : ℕ → Type 0) → ShowsSide g outcome optimum root own → tree ≡ shown_tree g root own →
      (s : Status) (t : List ℕ) → PlaysFile g own tree name told gave s t → PlaysCertificate outcome optimum root name told gave g s t
  by_side own tree name told gave shows e NotProved t h = absurd (never_not_proved own tree name told gave t h)
  by_side own tree name told gave shows e Open t h = absurd (never_open own tree name told gave t h)
  by_side own tree name told gave shows e Memory t h = nothing_written own tree name told gave t h
  by_side own tree name told gave shows e s t h = (own, shows, subst (λ q. PlaysFile g own q name told gave s t) e h)

  -- what is answered for what it shows
  pub plan_played : (plan : Plan) → IsPlanOf g outcome optimum root plan → (name : List ℕ) (told : Option (List ℕ)) (gave : ℕ → Type 0) →
      (s : Status) (t : List ℕ) → PlaysFile g Exists (plan_of plan) name told gave s t → PlaysCertificate outcome optimum root name told gave g s t
  plan_played plan m name told gave = by_side Exists (plan_of plan) name told gave (plan_side plan m) m.reading

  pub counter_played : (counter : Counter) → IsCounterOf g outcome optimum root counter → (name : List ℕ) (told : Option (List ℕ)) (gave : ℕ → Type 0) →
      (s : Status) (t : List ℕ) → PlaysFile g Forall (tree_of_counter counter) name told gave s t → PlaysCertificate outcome optimum root name told gave g s t
  counter_played counter m name told gave = by_side Forall (tree_of_counter counter) name told gave (counter_side counter m) m.reading

  pub opened : (n : ℕ) → IsLeftOpen g outcome optimum root n → (name : List ℕ) (told : Option (List ℕ)) (gave : ℕ → Type 0) →
      (s : Status) (t : List ℕ) → (s ≡ Open) × (t ≡ codes "open " ++ decimal n ++ codes "\n") → PlaysCertificate outcome optimum root name told gave g s t
  opened n m name told gave s t is = rw is.0 (record { proves = m.proves; turns = n; outcome_is = m.outcome_is; line = is.1 })

  pub not_proved : ¬ (IsTrue (proves g outcome optimum root)) → (name : List ℕ) (told : Option (List ℕ)) (gave : ℕ → Type 0) →
      (s : Status) (t : List ℕ) → (s ≡ NotProved) × (t ≡ codes "no\n") → PlaysCertificate outcome optimum root name told gave g s t
  not_proved fails name told gave s t is = rw is.0 (record { fails = fails; line = is.1 })

module _ (gave gave' : ℕ → Type 0) (f : (n : ℕ) → gave n → gave' n) where
  -- more was given before
  plays_file_before : (g : Game) (own : Kind) (tree : Choices) (name : List ℕ) (told : Option (List ℕ)) (s : Status) (t : List ℕ) →
      PlaysFile g own tree name told gave s t → PlaysFile g own tree name told gave' s t
  plays_file_before g own tree name told s t h = elim h [ inl d ↦ inl (file_before 65536 name told gave gave' f s t d) | inr b ↦ inr b ]

  pub plays_certificate_before : (o : Outcome) (p : Option ℤ) (r : Tree) (name : List ℕ) (told : Option (List ℕ)) (g : Game) (s : Status) (t : List ℕ) →
      PlaysCertificate o p r name told gave g s t → PlaysCertificate o p r name told gave' g s t
  plays_certificate_before o p r name told g NotProved t h = h
  plays_certificate_before o p r name told g Open t h = h
  plays_certificate_before o p r name told g Memory t h = h
  plays_certificate_before o p r name told g s t h = (h.0, h.1, plays_file_before g h.0 (shown_tree g r h.0) name told s t h.2)

  pub certificate_before : (name : List ℕ) (told : Option (List ℕ)) (s : Status) (t : List ℕ) → TurnsCertificateDown name told gave s t → TurnsCertificateDown name told gave' s t
  certificate_before name told BadCertificate t h = h
  certificate_before name told s t h = file_before 33554432 name told gave gave' f s t h

  pub plays_problem_before : (certificate name : List ℕ) (told : List ℕ → Option (List ℕ)) (g : Game) (s : Status) (t : List ℕ) →
      PlaysProblem certificate name told gave g s t → PlaysProblem certificate name told gave' g s t
  plays_problem_before certificate name told g s t h =
      elim h [
        | inl d ↦ inl (certificate_before certificate (told certificate) s t d)
        | inr (o, p, r, of, k) ↦ inr (o, p, r, of, plays_certificate_before o p r name (told name) g s t k)
      ]
