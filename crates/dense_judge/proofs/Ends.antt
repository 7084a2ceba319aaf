-- What all bytes come to.
use Rattle.std.proofs.Common.{◌≡◌, ◌<◌, ◌+◌, ◌-◌, ◌^◌, min, ℕ, List, [], ◌++◌, length, take, drop, refl, sym, ap, ◌∙◌, subst, arith, append-nil, append_assoc, take-append-drop, flat_map, Option, Some, None, Bool, not, ◌&&◌, true, false, IsTrue, IfNone, IfSome, ℤ}
use Rattle.std.specs.Prelude.{◌==◌, nat_le}
use Rattle.std.specs.List.{list_all}
use Rattle.std.proofs.lemmas.Bool.{and_parts}
use Rattle.std.proofs.lemmas.Bool.Decides.{nat_tests}
use Rattle.qc_model.specs.Content.{Game}
use Rattle.qc_model.specs.Valid.{IsValid}
use Rattle.qc_model.specs.Verdict.{Verdict, is_exact, is_lost, is_unknown}
use Rattle.proof_tree.specs.declared.tree.Outcome.{Outcome}
use Rattle.proof_tree.specs.declared.tree.Outcome.TheVariants.{True, False, Open}
use Rattle.proof_tree.specs.Proves.{optimises_first, is_value}
use Rattle.proof_tree.specs.Text.{outcome_fits}
use Rattle.joins.specs.declared.leaves.Found.{Found}
use Rattle.joins.specs.declared.leaves.Found.TheVariants.{Lost, Exact, AtMost, Unknown}
use Rattle.joins.specs.Seen.{verdict_of}
use Rattle.check_lines.specs.Shown.{answer_shows}
use Rattle.check_lines.proofs.Showing.{IsCounted, three, bare_unknown}
use Rattle.dense_tree.specs.Tree.{Certificate}
use Rattle.dense_tree.specs.Counts.{turns_of}
use Rattle.dense_tree.specs.Lines.{certificate_lines}
use Rattle.dense_tree.specs.Proves.{proves, shows}
use Rattle.dense_tree.specs.Read.{read_root}
use Rattle.dense_tree.specs.Text.{given_fits, node_fits}
use Rattle.dense_ledger.specs.Ledger.{Ledger, ended_due, goes_through, first_ledger}
use Rattle.dense_ledger.specs.Held.{TellsRoot, TellsOf as TellsOfRoot, LedgersAreRight}
use Rattle.dense_laws.specs.Laws.{CertificatesAreTrue}
use Rattle.dense_nest.specs.declared.answer.Answer.{Answer}
use Rattle.dense_nest.specs.Answers.{IsUnended, IsAnswer}
use Rattle.dense_text.specs.declared.reader.End.{End}
use Rattle.dense_text.specs.declared.reader.End.TheVariants.{Whole, CutShort, Bad as BadEnd}
use Rattle.dense_text.specs.Kept.{Held}
use Rattle.dense_text.specs.Reader.{IsTold, Ends}
use Rattle.dense_text.specs.Pieces.{line_pieces}
use Rattle.dense_text.specs.Places.{IsText, BeginsText, IsFault}
use Rattle.dense_check.specs.declared.machine.DenseMachine.{DenseMachine}
use Rattle.dense_check.specs.Telling.{game_of, Tells, TellsOf}
use Rattle.dense_judge.specs.declared.gather.Gather.{Gather}
use Rattle.dense_judge.specs.declared.heads.Head.{Head}
use Rattle.dense_judge.specs.declared.progress.Stop.TheVariants.{Bad}
use Rattle.dense_judge.specs.Gathered.{no_pieces, all_gathered, PiecesGatherToLines}
use Rattle.dense_judge.specs.Shown.{told_of, is_shown}
use Rattle.dense_judge.specs.Stated.{head_told}
use Rattle.dense_judge.specs.Checking.{IsReading, IsCertificateText, IsProof, IsNoProof, IsStopped}
use Rattle.dense_judge.proofs.Steps.{head_kept}

front_begins : (n : ℕ) (bytes : List ℕ) → BeginsText bytes → BeginsText (take n bytes)
front_begins n bytes (rest, is) =
    (drop n bytes ++ rest, subst IsText (ap (λ xs. xs ++ rest) (sym (take-append-drop n bytes)) ∙ append_assoc (take n bytes) (drop n bytes) rest) is)

-- bytes that begin a text have no fault before their end
no_fault : (place : ℕ) (bytes : List ℕ) → BeginsText bytes → place < length bytes → IsFault place bytes → ⊥
no_fault place bytes begins within is = is.here within (front_begins (place + 1) bytes begins)

-- what the reader said at the end
pub cut_short : (r : Option Held) (k : Gather) (m : DenseMachine) (h : Option Head) (n : ℕ) (bytes : List ℕ) (i : IsReading r k m h n bytes) (end : End) → end ≡ CutShort →
    Ends bytes i.told end → IsFault n bytes
cut_short r k m h n bytes i end e says = subst (λ a. IsFault a bytes) (sym i.counted) ((subst (Ends bytes i.told) e says).1)

pub never_bad : (r : Option Held) (k : Gather) (m : DenseMachine) (h : Option Head) (n : ℕ) (bytes : List ℕ) (i : IsReading r k m h n bytes) (end : End) → end ≡ BadEnd →
    Ends bytes i.told end → ⊥
never_bad r k m h n bytes i end e says = let bad = subst (Ends bytes i.told) e says in no_fault bad.0 bytes i.begins bad.1 bad.2

pub whole : (r : Option Held) (k : Gather) (m : DenseMachine) (h : Option Head) (n : ℕ) (bytes : List ℕ) (i : IsReading r k m h n bytes) (end : End) → end ≡ Whole →
    Ends bytes i.told end → IsTold bytes i.told
whole r k m h n bytes i end e says = subst (Ends bytes i.told) e says

-- a fault that stays is one now
pub now_stopped : (at : ℕ) (bytes : List ℕ) → IsStopped Bad at bytes → IsFault at bytes
now_stopped at bytes h = subst (IsFault at) (append-nil bytes) (h [])

-- what the head states is what the certificate does
head_of_text : (r : Option Held) (k : Gather) (m : DenseMachine) (h : Option Head) (n : ℕ) (bytes : List ℕ) (i : IsReading r k m h n bytes) (t : IsTold bytes i.told) →
    h ≡ Some (record { outcome = t.0; optimum = t.1 })
head_of_text r k m h n bytes i (outcome, optimum, c, fits, text, told) =
    i.head_is ∙ ap (head_told None) told ∙ head_kept (record { outcome = outcome; optimum = optimum }) (flat_map line_pieces (certificate_lines c))

-- a text has a head
pub some_head : (r : Option Held) (k : Gather) (m : DenseMachine) (h : Option Head) (n : ℕ) (bytes : List ℕ) (i : IsReading r k m h n bytes) → h ≡ None → IsTold bytes i.told → ⊥
some_head r k m h n bytes i none t = absent (record { outcome = t.0; optimum = t.1 }) (sym none ∙ head_of_text r k m h n bytes i t)
  where
    absent : (x : Head) → None ≡ Some x → ⊥
    absent x e = cc

-- the vector is of no matter
bare_exact : (f : Found) (w : List ℤ) → is_exact (verdict_of f w) ≡ is_exact (verdict_of f [])
bare_exact Lost w = refl
bare_exact Exact w = refl
bare_exact (AtMost n) w = refl
bare_exact Unknown w = refl

bare_lost : (f : Found) (w : List ℤ) → is_lost (verdict_of f w) ≡ is_lost (verdict_of f [])
bare_lost Lost w = refl
bare_lost Exact w = refl
bare_lost (AtMost n) w = refl
bare_lost Unknown w = refl

-- fewer turns than can be counted are counted exactly
same_count : (a n : ℕ) → n < 2 ^ 64 - 1 → (a == n) ≡ (min a (2 ^ 64 - 1) == n)
same_count a n h = grind (arith, nat_tests)

countable : (n : ℕ) → nat_le n 10000000 ≡ true → n < 2 ^ 64 - 1
countable n h = grind (arith, nat_tests)

-- a text states no more turns
counted : (o : Outcome) (p : Option ℤ) → outcome_fits o p ≡ true → IsCounted o
counted True p fits = tt
counted False p fits = tt
counted (Open n) None fits = countable n (and_parts (nat_le 1 n) (nat_le n 10000000) fits).1
counted (Open n) (Some v) fits = cc

same_verdict : (v w : Verdict) (own other : Option ℤ) → ended_due v own ≡ ended_due w other → v ≡ w
same_verdict v w own other e = cc

same_own : (v w : Verdict) (own other : Option ℤ) → ended_due v own ≡ ended_due w other → own ≡ other
same_own v w own other e = cc

-- an answer that tells of the ledger of a root
module _ (g : Game) (c : Certificate) (d : Ledger) (root : TellsRoot g c d) (a : Answer) (is : IsAnswer d a) where
  comes_to : (read_root g c).verdict ≡ verdict_of a.found is.vector
  comes_to = same_verdict _ _ _ _ (sym root.due ∙ is.due)

  own_is : (read_root g c).own ≡ a.own
  own_is = same_own _ _ _ _ (sym root.due ∙ is.due)

  shows_answer : (o : Outcome) (p : Option ℤ) → IsCounted o → answer_shows g.scopes (told_of a) o p ≡ shows g c.root (read_root g c) o p
  shows_answer True None few = sym (ap (λ b. b && not (optimises_first g.scopes)) (ap is_exact comes_to ∙ bare_exact a.found is.vector))
  shows_answer True (Some v) few = sym (three _ _ _ _ _ _ (ap is_exact comes_to ∙ bare_exact a.found is.vector) refl (ap (is_value v) own_is))
  shows_answer False None few = sym (ap is_lost comes_to ∙ bare_lost a.found is.vector)
  shows_answer False (Some v) few = refl
  shows_answer (Open n) None few =
      sym (three _ _ _ _ _ _ (ap is_unknown comes_to ∙ bare_unknown a.found is.vector)
      (same_count (turns_of c.root) n few ∙ ap (λ k. k == n) (ap (λ t. min t (2 ^ 64 - 1)) (sym root.turns) ∙ sym is.turns))
      (sym root.has_open ∙ sym is.unfinished))
  shows_answer (Open n) (Some v) few = refl

-- the answer of a machine that was given the lines of a certificate
pub record IsAnswered (m : DenseMachine) (o : Option Answer) : Type 0 where
  pub none : IfNone o ((d : Ledger) → Tells m d → IsUnended d)
  pub some : IfSome o (λ a. (d : Ledger) → Tells m d → IsAnswer d a)
  pub wrong : TellsOf m None → o ≡ None

-- what it shows is what the certificate proves
shown_answer : (g : Game) (m : DenseMachine) (c : Certificate) (h : Head) → IsCounted h.outcome → (p : Option Ledger) → TellsOf m p → TellsOfRoot g c p →
    (o : Option Answer) → IsAnswered m o → is_shown g.scopes o h ≡ proves g h.outcome h.optimum c
shown_answer g m c h few None tells unplaced o is =
    ap (λ q. is_shown g.scopes q h) (is.wrong tells) ∙ sym (ap (λ b. b && shows g c.root (read_root g c) h.outcome h.optimum) unplaced)
shown_answer g m c h few (Some d) tells (placed, root) None is = absurd (is.none d tells (read_root g c).verdict (read_root g c).own root.due)
shown_answer g m c h few (Some d) tells (placed, root) (Some a) is =
    shows_answer g c d root a (is.some d tells) h.outcome h.optimum few ∙ sym (ap (λ b. b && shows g c.root (read_root g c) h.outcome h.optimum) placed)

-- the certificate whose text the bytes are, and what was answered of it
pub record IsJudged (g : Game) (bytes : List ℕ) (h : Head) (shown : Bool) : Type 0 where
  pub certificate : Certificate
  pub read : IsCertificateText bytes h.outcome h.optimum certificate
  pub answered : shown ≡ proves g h.outcome h.optimum certificate

pub judged : (r : Option Held) (k : Gather) (m : DenseMachine) (h : Option Head) (n : ℕ) (bytes : List ℕ) (i : IsReading r k m h n bytes) (head : Head) (o : Option Answer) (shown : Bool) →
    h ≡ Some head → IsAnswered m o → shown ≡ is_shown (game_of m).scopes o head → PiecesGatherToLines → LedgersAreRight → IsTold bytes i.told → IsJudged (game_of m) bytes head shown
judged r k m h n bytes i head o shown some is e gathers ledgers (outcome, optimum, c, fits, text, told) =
    by head (same (record { outcome = outcome; optimum = optimum }) head (sym (head_of_text r k m h n bytes i (outcome, optimum, c, fits, text, told)) ∙ some)) e
  where
    same : (x y : Head) → Some x ≡ Some y → x ≡ y
    same x y q = cc

    lines : (all_gathered no_pieces i.told).lines ≡ certificate_lines c
    lines = ap (λ a. a.lines) (ap (all_gathered no_pieces) told ∙ gathers outcome optimum c)

    tells : TellsOf m (goes_through (game_of m) (Some (first_ledger (game_of m))) (certificate_lines c))
    tells = subst (λ ls. TellsOf m (goes_through (game_of m) (Some (first_ledger (game_of m))) ls)) lines i.taken.ledger

    few : IsCounted outcome
    few = counted outcome optimum (and_parts (outcome_fits outcome optimum) (list_all given_fits c.given) (and_parts (outcome_fits outcome optimum && list_all given_fits c.given) (node_fits c.root) fits).0).0

    answer : is_shown (game_of m).scopes o (record { outcome = outcome; optimum = optimum }) ≡ proves (game_of m) outcome optimum c
    answer = shown_answer (game_of m) m c (record { outcome = outcome; optimum = optimum }) few _ tells (ledgers (game_of m) outcome optimum c fits) o is

    by : (y : Head) → record { outcome = outcome; optimum = optimum } ≡ y → shown ≡ is_shown (game_of m).scopes o y → IsJudged (game_of m) bytes y shown
    by y q f = record {
      certificate = c;
      read = subst (λ x. IsCertificateText bytes x.outcome x.optimum c) q (record { spelled = text; spellable = fits });
      answered = f ∙ subst (λ x. is_shown (game_of m).scopes o x ≡ proves (game_of m) x.outcome x.optimum c) q answer;
    }

pub proof : (g : Game) (bytes : List ℕ) (h : Head) (shown : Bool) → IsValid g → CertificatesAreTrue → IsJudged g bytes h shown → shown ≡ true → IsProof g bytes h.outcome h.optimum
proof g bytes h shown valid true_of j e =
    let is : IsTrue (proves g h.outcome h.optimum j.certificate) = sym j.answered ∙ e in
    record { certificate = j.certificate; read = j.read; proves = is; means = true_of g h.outcome h.optimum j.certificate valid is }

pub no_proof : (g : Game) (bytes : List ℕ) (h : Head) (shown : Bool) → IsJudged g bytes h shown → shown ≡ false → IsNoProof g bytes
no_proof g bytes h shown j e =
    record { outcome = h.outcome; optimum = h.optimum; certificate = j.certificate; read = j.read; fails = λ p. let c : true ≡ false = sym p ∙ sym j.answered ∙ e in cc }
