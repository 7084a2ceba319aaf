-- A run in which nothing failed answers what was asked.
use Rattle.std.proofs.Common.{◌≡◌, ◌⊎◌, ◌≤◌, ◌<◌, ℕ, true, false, List, length, Option, Some, None, inl, inr, refl, sym, subst, arith, ◌∙◌, ℤ, IsTrue}
use Rattle.qc_io.specs.Counts.{Rose, NoneRose}
use Rattle.qc_model.specs.Content.{Game}
use Rattle.qc_model.specs.Turns.{full_turns_of}
use Rattle.qc_syntax.specs.Reads.{Reads}
use Rattle.qc_syntax.specs.Laws.{ReadsOne, NeverBoth as NeverRefused}
use Rattle.proof_tree.specs.declared.tree.Outcome.{Outcome}
use Rattle.proof_tree.specs.declared.tree.Outcome.TheVariants.{True, False, Open as OpenOutcome}
use Rattle.proof_tree.specs.Tree.{Tree}
use Rattle.proof_tree.specs.Proves.{proves}
use Rattle.proof_text.specs.declared.fault.CertFault.{CertFault}
use Rattle.proof_text.specs.Places.{IsText, IsFault}
use Rattle.proof_text.specs.Laws.{NeverBoth, IsOneCertificate}
use Rattle.game_search.specs.Solution.{OpenMeans}
use Rattle.qdimacs.specs.Grammar.{File, IsFile as IsFormulaFile}
use Rattle.qdimacs.specs.Tokens.{tokens_of}
use Rattle.qdimacs.specs.Formula.{Formula}
use Rattle.qdimacs.specs.Content.{game_of}
use Rattle.qdimacs.specs.Refusals.{IsRefused as IsRefusedFormula, formula_of}
use Rattle.qdimacs.specs.Laws.{OneFile, NeverBoth as NeverRefusedFormula}
use Rattle.qecode_commands.specs.declared.status.Status.{Status}
use Rattle.qecode_commands.specs.declared.status.Status.TheVariants.{Done, NotProved, Open, Usage, BadProblem, BadCertificate, TooLong, ReadFault, WriteFault, Memory, BadQdimacs, NoReading}
use Rattle.qecode_commands.specs.Words.{Asked, solves, checks, plays, prints, decides, rewrites, makes, shows, opposes, restates, compares, usual_turns}
use Rattle.qecode_commands.specs.Certificates.{FaultLine}
use Rattle.qecode_commands.specs.Plays.{PlaysProblem}
use Rattle.qecode_commands.proofs.PlaysDone.{plays_done}
use Rattle.qecode_commands.proofs.Told.{told_bytes, never_long, never_unread, no_want}
use Rattle.qecode_commands.specs.Answers.{Denies, IsProblemOf, IsNoProblem, TurnsProblemDown, AnswersProblem, SolvesProblem, PrintsProblem, ChecksBytes, ChecksFile, Answers}
use Rattle.qecode_commands.specs.Certifies.{status_of}
use Rattle.qecode_commands.specs.Files.{IsFile, Wrote}
use Rattle.qecode_commands.specs.Summaries.{SummarisesProblem}
use Rattle.model_generated.specs.Pricing.{generated_game}
use Rattle.qc_pessimist.specs.declared.reading.Places.{Places}
use Rattle.qc_pessimist.specs.declared.reading.NoReading.{NoReading as Fault}
use Rattle.qc_pessimist.specs.declared.reading.NoReading.TheVariants.{NoCondition, TooManyScopes, Memory as WantReading}
use Rattle.qc_pessimist.specs.Refusals.{names_a_wish, Refuses}
use Rattle.qecode_commands.specs.Readings.{worst_game, ReadingLine, TurnsReadingDown, AnswersReading}
use Rattle.qecode_commands.specs.Gap.{gap_status, ComparesGames, AnswersGap}
use Rattle.qecode_commands.specs.Formulas.{IsFormulaOf, HasNoFormula, TurnsFormulaDown, AnswersFormula, DecidesFormula, RewritesFormula}
use Rattle.qecode_commands.specs.Complete.{TellsProblem, TellsProof, TellsFormula, TellsReading, IsComplete}
use Rattle.qecode_commands.proofs.Compared.{same_turns}

-- the laws of the texts
pub record Laws : Type 0 where
  pub one : ReadsOne
  pub either : NeverRefused
  pub never : NeverBoth
  pub certificate : IsOneCertificate
  pub formula : OneFile
  pub formula_never : NeverRefusedFormula

pub same_game : ReadsOne → (told : Option (List ℕ)) (g h : Game) → TellsProblem told g → IsProblemOf told h → h ≡ g
same_game one told g h tells of =
    let e : of.bytes ≡ tells.bytes = told_bytes told tells.bytes of.bytes tells.told_is of.file.same in
    one tells.bytes h g (subst (λ b. Reads b h) e of.reads) tells.reads

-- the file has a problem
pub never_refused : NeverRefused → (told : Option (List ℕ)) (g : Game) (t : List ℕ) → TellsProblem told g → IsNoProblem told t → ⊥
never_refused either told g t tells down =
    let e : down.bytes ≡ tells.bytes = told_bytes told tells.bytes down.bytes tells.told_is down.file.same in
    either down.bytes g down.refused.kind down.refused.at (subst (λ b. Reads b g) (sym e) tells.reads) down.refused.refuses

-- so nothing tells that there is no problem
pub never_turned_down : Laws → (name : List ℕ) (told : Option (List ℕ)) (gave : ℕ → Type 0) (g : Game) → TellsProblem told g →
    (s : Status) (t : List ℕ) → TurnsProblemDown name told gave s t → ¬ (s ≡ Memory) → ¬ (s ≡ ReadFault) → ⊥
never_turned_down l name told gave g tells BadProblem t d m r = never_refused l.either told g t tells d
never_turned_down l name told gave g tells TooLong t d m r = never_long 4194304 name told gave t tells.bytes tells.told_is tells.within d
never_turned_down l name told gave g tells Memory t d m r = m refl
never_turned_down l name told gave g tells ReadFault t d m r = r refl
never_turned_down l name told gave g tells s t d m r = d

-- what is answered is answered for the file's problem
pub for_problem : Laws → (P : Game → Status → List ℕ → Type 0) (name : List ℕ) (told : Option (List ℕ)) (gave : ℕ → Type 0) (g : Game) → TellsProblem told g →
    (s : Status) (t : List ℕ) → AnswersProblem P name told gave s t → ¬ (s ≡ Memory) → ¬ (s ≡ ReadFault) → P g s t
for_problem l P name told gave g tells s t h m r =
    elim h [
      | inl d ↦ absurd (never_turned_down l name told gave g tells s t d m r)
      | inr (h0, of, k) ↦ subst (λ q. P q s t) (same_game l.one told g h0 tells of) k
    ]

open_below : (o : Outcome) (g : Game) (turns : ℕ) (root : Tree) → Open ≡ status_of o → OpenMeans o g turns root → full_turns_of g ≤ turns → ⊥
open_below True g turns root e m f = let k : Open ≡ Done = e in cc
open_below False g turns root e m f = let k : Open ≡ Done = e in cc
open_below (OpenOutcome n) g turns root e m f = let all : n ≡ turns = m.all in let below : n < full_turns_of g = m.below in omega arith

pub solves_done : (turns : ℕ) (g : Game) (s : Status) (t : List ℕ) → SolvesProblem turns g s t → ¬ (s ≡ Memory) → full_turns_of g ≤ turns → s ≡ Done
solves_done turns g Done t c m f = refl
solves_done turns g Open t c m f = absurd (open_below c.outcome g turns c.root c.ends c.spent f)
solves_done turns g Memory t c m f = absurd (m refl)
solves_done turns g s t c m f = absurd c

prints_done : (g : Game) (s : Status) (t : List ℕ) → PrintsProblem g s t → ¬ (s ≡ Memory) → s ≡ Done
prints_done g Done t c m = refl
prints_done g Memory t c m = absurd (m refl)
prints_done g s t c m = absurd c

summarises_done : (g : Game) (s : Status) (t : List ℕ) → SummarisesProblem g s t → ¬ (s ≡ Memory) → (s ≡ Done) ⊎ (s ≡ Open)
summarises_done g Done t c m = inl refl
summarises_done g Open t c m = inr refl
summarises_done g Memory t c m = absurd (m refl)
summarises_done g s t c m = absurd c

moved : (g : Game) (o p : Outcome) (v w : Option ℤ) (r s : Tree) → o ≡ p → v ≡ w → r ≡ s → IsTrue (proves g o v r) → IsTrue (proves g p w s)
moved g o p v w r s a b c h = rw (← a, ← b, ← c) h

denied : IsOneCertificate → (told : Option (List ℕ)) (g : Game) (bytes t : List ℕ) (proof : TellsProof told g) → Denies g bytes t → bytes ≡ proof.bytes → ⊥
denied one told g bytes t proof d e =
    let p : IsText 1000 bytes = (proof.version, proof.outcome, proof.optimum, proof.root, proof.read.spellable, proof.read.shallow, e ∙ proof.read.spelled) in
    let n = d.no_proof in
    let q : IsText 1000 bytes = (n.version, n.outcome, n.optimum, n.root, n.read.spellable, n.read.shallow, n.read.spelled) in
    let same : (p.0 ≡ q.0) × (p.1 ≡ q.1) × (p.2 ≡ q.2) × (p.3 ≡ q.3) = one bytes p q in
    n.fails (moved g proof.outcome n.outcome proof.optimum n.optimum proof.root n.root same.1 same.2 same.3 proof.proved)

-- the certificate that is read is the one that proves
never_denied : IsOneCertificate → (told : Option (List ℕ)) (g : Game) (bytes t : List ℕ) → TellsProof told g → IsFile 1073741824 told bytes → Denies g bytes t → ⊥
never_denied one told g bytes t proof file d =
    denied one told g bytes t proof d (told_bytes told proof.bytes bytes proof.told_is file.same)

never_faulty : NeverBoth → (told : Option (List ℕ)) (g : Game) (bytes t : List ℕ) (fault : CertFault) → TellsProof told g → IsFile 1073741824 told bytes → IsFault fault bytes → FaultLine fault t → ⊥
never_faulty never told g bytes t fault proof file is line =
    let e : bytes ≡ proof.bytes = told_bytes told proof.bytes bytes proof.told_is file.same in
    never proof.bytes fault (proof.version, proof.outcome, proof.optimum, proof.root, proof.read.spellable, proof.read.shallow, proof.read.spelled)
    (subst (IsFault fault) e is, no_want fault t line)

confirms_done : Laws → (told : Option (List ℕ)) (g : Game) (bytes : List ℕ) → TellsProof told g → IsFile 1073741824 told bytes →
    (s : Status) (t : List ℕ) → ChecksBytes g bytes s t → s ≡ Done
confirms_done l told g bytes proof file Done t c = refl
confirms_done l told g bytes proof file NotProved t c = absurd (never_denied l.certificate told g bytes t proof file c)
confirms_done l told g bytes proof file BadCertificate t (fault, is, line) = absurd (never_faulty l.never told g bytes t fault proof file is line)
confirms_done l told g bytes proof file s t c = absurd c

pub checks_done : Laws → (name : List ℕ) (told : Option (List ℕ)) (gave : ℕ → Type 0) (g : Game) → TellsProof told g →
    (s : Status) (t : List ℕ) → ChecksFile name told gave g s t → ¬ (s ≡ Memory) → ¬ (s ≡ ReadFault) → s ≡ Done
checks_done l name told gave g proof s t h m r =
    elim h [
      | inl d ↦ absurd (never_unread 1073741824 name told gave proof.bytes proof.told_is proof.within s t d m r)
      | inr (bytes, file, c) ↦ confirms_done l told g bytes proof file s t c
    ]

same_file : OneFile → (told : Option (List ℕ)) (f h : File) → TellsFormula told f → IsFormulaOf told h → h ≡ f
same_file one told f h tells of =
    let e : of.bytes ≡ tells.bytes = told_bytes told tells.bytes of.bytes tells.told_is of.file.same in
    one (tokens_of tells.bytes) h f (subst (λ b. IsFormulaFile h (tokens_of b)) e of.states.is_file) tells.states.is_file

-- the file has a formula
never_no_formula : NeverRefusedFormula → (told : Option (List ℕ)) (f : File) (t : List ℕ) → TellsFormula told f → HasNoFormula told t → ⊥
never_no_formula never told f t tells down =
    let e : down.bytes ≡ tells.bytes = told_bytes told tells.bytes down.bytes tells.told_is down.file.same in
    never tells.bytes f down.refused.kind down.refused.at tells.states (subst (λ b. IsRefusedFormula b down.refused.kind down.refused.at) e down.refused.refuses)

never_turned_away : Laws → (name : List ℕ) (told : Option (List ℕ)) (gave : ℕ → Type 0) (f : File) → TellsFormula told f →
    (s : Status) (t : List ℕ) → TurnsFormulaDown name told gave s t → ¬ (s ≡ Memory) → ¬ (s ≡ ReadFault) → ⊥
never_turned_away l name told gave f tells BadQdimacs t d m r = never_no_formula l.formula_never told f t tells d
never_turned_away l name told gave f tells TooLong t d m r = never_long 4194304 name told gave t tells.bytes tells.told_is tells.within d
never_turned_away l name told gave f tells Memory t d m r = m refl
never_turned_away l name told gave f tells ReadFault t d m r = r refl
never_turned_away l name told gave f tells s t d m r = d

pub for_formula : Laws → (P : Formula → Status → List ℕ → Type 0) (name : List ℕ) (told : Option (List ℕ)) (gave : ℕ → Type 0) (f : File) → TellsFormula told f →
    (s : Status) (t : List ℕ) → AnswersFormula P name told gave s t → ¬ (s ≡ Memory) → ¬ (s ≡ ReadFault) → P (formula_of f) s t
for_formula l P name told gave f tells s t h m r =
    elim h [
      | inl d ↦ absurd (never_turned_away l name told gave f tells s t d m r)
      | inr (h0, of, k) ↦ subst (λ q. P (formula_of q) s t) (same_file l.formula told f h0 tells of) k
    ]

pub decides_done : (turns : ℕ) (φ : Formula) (s : Status) (t : List ℕ) → DecidesFormula turns φ s t → ¬ (s ≡ Memory) → full_turns_of (game_of φ) ≤ turns → s ≡ Done
decides_done turns φ Done t c m f = refl
decides_done turns φ Open t c m f = absurd (open_below c.certifies.outcome (game_of φ) turns c.certifies.root c.certifies.ends c.certifies.spent f)
decides_done turns φ Memory t c m f = absurd (m refl)
decides_done turns φ s t c m f = absurd c

rewrites_done : (φ : Formula) (s : Status) (t : List ℕ) → RewritesFormula φ s t → ¬ (s ≡ Memory) → s ≡ Done
rewrites_done φ Done t c m = refl
rewrites_done φ Memory t c m = absurd (m refl)
rewrites_done φ s t c m = absurd c

no_reason : (places : Places) (g : Game) (why : Fault) (t : List ℕ) → IsTrue (names_a_wish places g) → length (worst_game places g).scopes ≤ 64 →
    Refuses why places g → ReadingLine why t → ⊥
no_reason places g NoCondition t named few refuses line = let e : names_a_wish places g ≡ true = named in let f : names_a_wish places g ≡ false = refuses in cc
no_reason places g TooManyScopes t named few refuses line = let more : 64 < length (worst_game places g).scopes = refuses.1 in omega arith
no_reason places g (WantReading e) t named few refuses line = line

never_unreadable : (told : Option (List ℕ)) (places : Places) (g : Game) → TellsReading told places g →
    (s : Status) (t : List ℕ) → TurnsReadingDown places g s t → ¬ (s ≡ Memory) → ⊥
never_unreadable told places g tells NoReading t d m = no_reason places g d.why t tells.named tells.few d.refuses d.line
never_unreadable told places g tells Memory t d m = m refl
never_unreadable told places g tells s t d m = d

pub of_reading : (told : Option (List ℕ)) (places : Places) (P : Game → Status → List ℕ → Type 0) (g : Game) → TellsReading told places g →
    (s : Status) (t : List ℕ) → AnswersReading places P g s t → ¬ (s ≡ Memory) → P (worst_game places g) s t
of_reading told places P g tells s t h m =
    elim h [
      | inl d ↦ absurd (never_unreadable told places g tells s t d m)
      | inr (reading, k) ↦ k
    ]

pub for_reading : Laws → (places : Places) (P : Game → Status → List ℕ → Type 0) (name : List ℕ) (told : Option (List ℕ)) (gave : ℕ → Type 0) (g : Game) →
    TellsReading told places g → (s : Status) (t : List ℕ) → AnswersProblem (AnswersReading places P) name told gave s t → ¬ (s ≡ Memory) → ¬ (s ≡ ReadFault) →
    P (worst_game places g) s t
for_reading l places P name told gave g tells s t h m r =
    of_reading told places P g tells s t (for_problem l (AnswersReading places P) name told gave g tells.problem s t h m r) m

-- both games are answered
for_gap : Laws → (places : Places) (name : List ℕ) (told : Option (List ℕ)) (gave : ℕ → Type 0) (g : Game) →
    TellsReading told places g → (s : Status) (t : List ℕ) → AnswersProblem (AnswersGap places) name told gave s t → ¬ (s ≡ Memory) → ¬ (s ≡ ReadFault) →
    ComparesGames g (worst_game places g) s t
for_gap l places name told gave g tells s t h m r =
    of_reading told places (ComparesGames g) g tells s t (for_problem l (AnswersGap places) name told gave g tells.problem s t h m r) m

compares_done : (g h : Game) (s : Status) (t : List ℕ) → ComparesGames g h s t → ¬ (s ≡ Memory) → (s ≡ Done) ⊎ (s ≡ Open)
compares_done g h Done t c m = inl refl
compares_done g h Open t c m = inr refl
compares_done g h Memory t c m = absurd (m refl)
compares_done g h s t c m = absurd c

neither_open : (o p : Outcome) (g h : Game) (r q : Tree) → Open ≡ gap_status o p → OpenMeans o g usual_turns r → OpenMeans p h usual_turns q →
    full_turns_of g ≤ usual_turns → full_turns_of h ≤ usual_turns → ⊥
neither_open True p g h r q e m n f k = open_below p h usual_turns q e n k
neither_open False p g h r q e m n f k = open_below p h usual_turns q e n k
neither_open (OpenOutcome i) p g h r q e m n f k = open_below (OpenOutcome i) g usual_turns r refl m f

compares_settled : (g h : Game) (s : Status) (t : List ℕ) → ComparesGames g h s t → ¬ (s ≡ Memory) → full_turns_of g ≤ usual_turns → full_turns_of h ≤ usual_turns → s ≡ Done
compares_settled g h Done t c m f k = refl
compares_settled g h Open t c m f k =
    absurd (neither_open c.best.certifies.outcome c.worst.certifies.outcome g h c.best.certifies.root c.worst.certifies.root c.ends c.best.certifies.spent c.worst.certifies.spent f k)
compares_settled g h Memory t c m f k = absurd (m refl)
compares_settled g h s t c m f k = absurd c

compares_both : (places : Places) (g : Game) (s : Status) (t : List ℕ) → ComparesGames g (worst_game places g) s t → ¬ (s ≡ Memory) →
    ((s ≡ Done) ⊎ (s ≡ Open)) × (full_turns_of g ≤ usual_turns → s ≡ Done)
compares_both places g s t c m =
    (compares_done g (worst_game places g) s t c m, λ f. compares_settled g (worst_game places g) s t c m f (subst (λ n. n ≤ usual_turns) (sym (same_turns places g)) f))

pub asked_done : Laws → (asked : Option Asked) (told : List ℕ → Option (List ℕ)) (gave : ℕ → Type 0) (s : Status) (t : List ℕ) →
    Answers asked told gave s t → ¬ (s ≡ Memory) → ¬ (s ≡ ReadFault) → IsComplete asked told s
asked_done l None told gave s t h m r = words s h where
  words : (s : Status) → Answers None told gave s t → s ≡ Usage
  words Usage h = refl
  words s h = absurd h
asked_done l (Some (solves name turns)) told gave s t h m r =
    λ g tells f. solves_done turns g s t (for_problem l (SolvesProblem turns) name (told name) gave g tells s t h m r) m f
asked_done l (Some (prints name)) told gave s t h m r = λ g tells. prints_done g s t (for_problem l PrintsProblem name (told name) gave g tells s t h m r) m
asked_done l (Some (checks name certificate)) told gave s t h m r =
    λ g tells proof. checks_done l certificate (told certificate) gave g proof s t
    (for_problem l (ChecksFile certificate (told certificate) gave) name (told name) gave g tells s t h m r) m r
asked_done l (Some (plays name certificate moves)) told gave s t h m r =
    λ g own root tells side made. plays_done l.never l.certificate certificate moves told gave g own root side made s t
    (for_problem l (PlaysProblem certificate moves told gave) name (told name) gave g tells s t h m r) m r
asked_done l (Some (decides name turns)) told gave s t h m r =
    λ f tells full. decides_done turns (formula_of f) s t (for_formula l (DecidesFormula turns) name (told name) gave f tells s t h m r) m full
asked_done l (Some (rewrites name)) told gave s t h m r =
    λ f tells. rewrites_done (formula_of f) s t (for_formula l RewritesFormula name (told name) gave f tells s t h m r) m
asked_done l (Some (makes n)) told gave s t h m r = summarises_done (generated_game n) s t h m
asked_done l (Some (shows n)) told gave s t h m r = prints_done (generated_game n) s t h m
asked_done l (Some (opposes name places turns)) told gave s t h m r =
    λ g tells f. solves_done turns (worst_game places g) s t (for_reading l places (SolvesProblem turns) name (told name) gave g tells s t h m r) m f
asked_done l (Some (restates name places)) told gave s t h m r =
    λ g tells. prints_done (worst_game places g) s t (for_reading l places PrintsProblem name (told name) gave g tells s t h m r) m
asked_done l (Some (compares name places)) told gave s t h m r =
    λ g tells. compares_both places g s t (for_gap l places name (told name) gave g tells s t h m r) m

pub no_fault : (before now : ℕ) → Rose before now → NoneRose before now → ⊥
no_fault before now rose (same, below) = omega arith

-- the answer was written, and nothing failed
pub run_done : Laws → (asked : Option Asked) (told : List ℕ → Option (List ℕ)) (gave : ℕ → Type 0) (old new : Option (List ℕ)) (before now missed misses : ℕ) (s : Status) →
    Wrote old new before now s (Answers asked told gave) → (s ≡ ReadFault → Rose missed misses) →
    NoneRose missed misses → NoneRose before now → ¬ (s ≡ Memory) → IsComplete asked told s
run_done l asked told gave old new before now missed misses WriteFault wrote fault files output m = absurd (no_fault before now wrote.0 output)
run_done l asked told gave old new before now missed misses s wrote fault files output m =
    asked_done l asked told gave s wrote.1.0 wrote.1.1 m (λ e. no_fault missed misses (fault e) files)
