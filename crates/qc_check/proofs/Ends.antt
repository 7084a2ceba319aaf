-- What all bytes come to.
use Rattle.std.proofs.Common.{◌≡◌, ◌≤◌, ◌<◌, ◌+◌, ℕ, List, [], ◌∷◌, ◌++◌, length, take, drop, refl, sym, ap, ◌∙◌, subst, arith, append-nil, append_assoc, length-append, take-append-drop, Option, Some, None, Bool, true, false, ◌&&◌, inl, inr, IsTrue, ℤ}
use Rattle.std.proofs.lemmas.List.{take_all}
use Rattle.qc_model.specs.Content.{Game}
use Rattle.proof_tree.specs.declared.tree.Version.{Version}
use Rattle.proof_tree.specs.declared.tree.Outcome.{Outcome}
use Rattle.proof_tree.specs.declared.line.Line.{Line}
use Rattle.proof_tree.specs.Tree.{Tree}
use Rattle.proof_tree.specs.InPlace.{root_in_place}
use Rattle.proof_tree.specs.Lines.{tree_lines}
use Rattle.proof_tree.specs.Proves.{proves}
use Rattle.proof_tree.specs.Meaning.{OutcomeMeans}
use Rattle.proof_tree.specs.Counts.{depth_of, turns_of}
use Rattle.proof_tree.specs.Text.{outcome_fits}
use Rattle.proof_text.specs.declared.fault.CertFault.{CertFault}
use Rattle.proof_text.specs.declared.fault.CertFault.TheVariants.{NotACertificate, TooDeep, Memory as Want}
use Rattle.proof_text.specs.Answers.{nothing, headed, StandsFor, IsTold}
use Rattle.proof_text.specs.Laws.{HasFault, IsTextOrFault}
use Rattle.proof_text.specs.Places.{IsText, BeginsText, IsNotACertificate, IsTooDeep}
use Rattle.proof_text.specs.Readings.{Reading}
use Rattle.check_lines.specs.declared.machine.Machine.{Machine}
use Rattle.check_lines.specs.declared.answer.Answer.{Answer}
use Rattle.check_lines.specs.Ledger.{Ledger}
use Rattle.check_lines.specs.LedgerHeld.{first_ledger, goes_through}
use Rattle.check_lines.specs.Machine.{game_of}
use Rattle.check_lines.specs.Telling.{Tells, TellsAfter}
use Rattle.check_lines.specs.Found.{Answers, IsAnswer}
use Rattle.qc_check.specs.declared.stated.Stated.{Stated}
use Rattle.qc_check.specs.Shown.{found_shows, counts_turns, IsStatable}
use Rattle.qc_check.specs.declared.stated.Stop.TheVariants.{Bad, Deep}
use Rattle.qc_check.specs.declared.finding.Fed.TheVariants.{NotACertificate as FedNone, TooDeep as FedDeep}
use Rattle.qc_check.specs.Checking.{lines_told, HeadIs, IsReading, IsCertificate, IsProof, IsNoProof, IsStopped, Feeds}
use Rattle.check_lines.proofs.Showing.{shows_answer}
use Rattle.qc_check.proofs.Shows.{proves_shown, proves_shown_so, shows_counted, counted}

front_begins : (limit n : ℕ) (bytes : List ℕ) → BeginsText limit bytes → BeginsText limit (take n bytes)
front_begins limit n bytes (rest, is) =
    (drop n bytes ++ rest, subst (IsText limit) (ap (λ xs. xs ++ rest) (sym (take-append-drop n bytes)) ∙ append_assoc (take n bytes) (drop n bytes) rest) is)

meet : (a n : ℕ) → a ≤ n → (a < n → ⊥) → a ≡ n
meet a n le no_less = omega arith

-- bytes that begin a text and aren't one
pub unended : (r : Reading) (m : Machine) (h : Option Stated) (n : ℕ) (bytes : List ℕ) → IsTextOrFault → IsReading r m h n bytes → (IsText 1000 bytes → ⊥) → IsNotACertificate n bytes
unended r m h n bytes either k none = elim (either bytes) [ inl t ↦ absurd (none t) | inr (fault, is) ↦ by fault is ]
  where
    by : (fault : CertFault) → HasFault fault bytes → IsNotACertificate n bytes
    by (NotACertificate at) (is, known) =
        let e : at ≡ length bytes = meet at (length bytes) is.within (λ lt. is.here lt 1000 (front_begins 1000 (at + 1) bytes k.begins)) in
        subst (λ a. IsNotACertificate a bytes) (e ∙ sym k.counted) is
    by (TooDeep at) (is, known) = absurd (is.deeper (front_begins 1000 (at + 1) bytes k.begins))
    by (Want e) (is, known) = absurd (known tt)

-- before the first byte
pub nothing_read : (r : Reading) (m : Machine) (g : Game) → StandsFor r [] nothing → TellsAfter 0 m (Some (first_ledger g)) → game_of m ≡ g → BeginsText 1000 [] → IsReading r m None 0 []
nothing_read r m g stands tells same begins = record {
  told = nothing;
  stands = stands;
  begins = begins;
  counted = refl;
  head_is = refl;
  few = omega arith;
  tells = subst (λ h. TellsAfter 0 m (Some (first_ledger h))) (sym same) tells;
}

-- a text has a head
pub some_head : (r : Reading) (m : Machine) (h : Option Stated) (n : ℕ) (bytes : List ℕ) (k : IsReading r m h n bytes) → h ≡ None → IsTold bytes k.told → ⊥
some_head r m h n bytes k none (v, o, p, t, fits, deep, text, told) =
    let is : k.told ≡ nothing = subst (λ x. HeadIs x k.told) none k.head_is in
    let e : nothing ≡ headed v o p (tree_lines t) = sym is ∙ told in cc

same_outcome : (v w : Version) (o q : Outcome) (p u : Option ℤ) (ls ks : List Line) → headed v o p ls ≡ headed w q u ks → o ≡ q
same_outcome v w o q p u ls ks e = cc

same_optimum : (v w : Version) (o q : Outcome) (p u : Option ℤ) (ls ks : List Line) → headed v o p ls ≡ headed w q u ks → p ≡ u
same_optimum v w o q p u ls ks e = cc

first : (a b : Bool) → (a && b) ≡ true → a ≡ true
first true b h = refl
first false b h = cc

-- the certificate whose text the bytes are, and that it proves what the lines come to
pub record IsJudged (g : Game) (bytes : List ℕ) (st : Stated) (found : Option Answer) : Type 0 where
  pub version : Version
  pub root : Tree
  pub read : IsCertificate bytes version st.outcome st.optimum root
  pub proved : proves g st.outcome st.optimum root ≡ found_shows g.scopes found st.outcome st.optimum

pub judged : (r : Reading) (m : Machine) (h : Option Stated) (st : Stated) (n : ℕ) (bytes : List ℕ) (k : IsReading r m h n bytes) → h ≡ Some st → (found : Option Answer) → ((p : Option Ledger) → Tells m p → Answers found p) →
    ((t : Tree) (o : Option Answer) → Answers o (goes_through (game_of m) (Some (first_ledger (game_of m))) (tree_lines t)) → depth_of t ≤ 1000 → root_in_place (game_of m) t ≡ true → (f : Answer) × (o ≡ Some f) × IsAnswer (game_of m) t f) →
    ((t : Tree) (f : Answer) → Answers (Some f) (goes_through (game_of m) (Some (first_ledger (game_of m))) (tree_lines t)) → IsAnswer (game_of m) t f) →
    IsTold bytes k.told → IsJudged (game_of m) bytes st found
judged r m h st n bytes k some found says trees own (v, o, p, t, fits, deep, text, told) = by (subst (λ x. HeadIs x k.told) some k.head_is)
  where
    by : HeadIs (Some st) k.told → IsJudged (game_of m) bytes st found
    by (w, ls, e) =
        let g = game_of m in
        let both : headed v o p (tree_lines t) ≡ headed w st.outcome st.optimum ls = sym told ∙ e in
        let eo : o ≡ st.outcome = same_outcome v w o st.outcome p st.optimum (tree_lines t) ls both in
        let ep : p ≡ st.optimum = same_optimum v w o st.outcome p st.optimum (tree_lines t) ls both in
        let answers : Answers found (goes_through g (Some (first_ledger g)) (tree_lines t)) =
        subst (λ ks. Answers found (goes_through g (Some (first_ledger g)) (lines_told ks))) told (says (goes_through g (Some (first_ledger g)) (lines_told k.told)) k.tells.tells) in
        let whole : proves g o p t ≡ found_shows g.scopes found o p =
        proves_shown g t found (λ q. trees t found answers deep q) (λ f q. own t f (subst (λ x. Answers x (goes_through g (Some (first_ledger g)) (tree_lines t))) q answers)) o p
        (λ f a. shows_answer g t f a o p (counted o p (first (outcome_fits o p) _ fits))) in
        record {
          version = v;
          root = t;
          read = subst (λ x. IsCertificate bytes v x st.optimum t) eo (subst (λ x. IsCertificate bytes v o x t) ep (record { spelled = text; spellable = fits; shallow = deep }));
          proved = subst (λ x. proves g x st.optimum t ≡ found_shows g.scopes found x st.optimum) eo (subst (λ x. proves g o x t ≡ found_shows g.scopes found o x) ep whole);
        }

pub proof : (g : Game) (bytes : List ℕ) (st : Stated) (found : Option Answer) → ((t : Tree) → IsTrue (proves g st.outcome st.optimum t) → OutcomeMeans st.outcome st.optimum g t) →
    IsJudged g bytes st found → found_shows g.scopes found st.outcome st.optimum ≡ true → IsProof g bytes st.outcome st.optimum
proof g bytes st found means j e = record { version = j.version; root = j.root; read = j.read; proves = j.proved ∙ e; means = means j.root (j.proved ∙ e) }

pub no_proof : (g : Game) (bytes : List ℕ) (st : Stated) (found : Option Answer) → IsJudged g bytes st found → found_shows g.scopes found st.outcome st.optimum ≡ false → IsNoProof g bytes
no_proof g bytes st found j e = record { version = j.version; outcome = st.outcome; optimum = st.optimum; root = j.root; read = j.read; fails = λ p. let c : true ≡ false = sym p ∙ j.proved ∙ e in cc }

pub opposed : (b : Bool) → b ≡ false → IsTrue b → ⊥
opposed true e h = cc
opposed false e h = cc

lower : (a n : ℕ) → a ≤ n → (a ≡ n → ⊥) → a < n
lower a n le differ = omega arith

-- a fault that stays whatever bytes come shows before their end
stopped_before : (at : ℕ) (bytes : List ℕ) → ((more : List ℕ) → IsNotACertificate at (bytes ++ more)) → at < length bytes
stopped_before at bytes h = lower at (length bytes) now.within at_end
  where
    now : IsNotACertificate at bytes
    now = subst (IsNotACertificate at) (append-nil bytes) (h [])

    by : (rest : List ℕ) → at ≡ length bytes → IsText 1000 (bytes ++ rest) → ⊥
    by [] e is = (h []).unfinished (e ∙ ap length (sym (append-nil bytes))) 1000 is
    by (b ∷ rest) e is =
        (h (b ∷ rest)).here (rw length-append (omega (arith, e))) 1000
        (front_begins 1000 (at + 1) (bytes ++ b ∷ rest) ([], subst (IsText 1000) (sym (append-nil (bytes ++ b ∷ rest))) is))

    at_end : at ≡ length bytes → ⊥
    at_end e = let b = now.before in by b.0 e (subst (λ xs. IsText 1000 (xs ++ b.0)) (take_all at bytes (omega (arith, e))) b.1)

-- what is answered of bytes with a fault
pub bad_feeds : (at : ℕ) (bytes : List ℕ) → IsStopped Bad at bytes → Feeds bytes (FedNone at)
bad_feeds at bytes h = (stopped_before at bytes h, subst (IsNotACertificate at) (append-nil bytes) (h []))

pub deep_feeds : (at : ℕ) (bytes : List ℕ) → IsStopped Deep at bytes → Feeds bytes (FedDeep at)
deep_feeds at bytes h = subst (IsTooDeep at) (append-nil bytes) (h [])

-- what a tree proves, by what its lines come to
pub tree_judged : (g : Game) (t : Tree) (found : Option Answer) → depth_of t ≤ 1000 → Answers found (goes_through g (Some (first_ledger g)) (tree_lines t)) →
    ((o : Option Answer) → Answers o (goes_through g (Some (first_ledger g)) (tree_lines t)) → depth_of t ≤ 1000 → root_in_place g t ≡ true → (f : Answer) × (o ≡ Some f) × IsAnswer g t f) →
    ((f : Answer) → Answers (Some f) (goes_through g (Some (first_ledger g)) (tree_lines t)) → IsAnswer g t f) →
    (o : Outcome) (p : Option ℤ) → IsStatable o → proves g o p t ≡ (found_shows g.scopes found o p && counts_turns (turns_of t) o)
tree_judged g t found deep answers trees own o p fits =
    proves_shown_so g t found (λ placed. trees found answers deep placed) (λ f e. own f (subst (λ x. Answers x (goes_through g (Some (first_ledger g)) (tree_lines t))) e answers)) o p
    (counts_turns (turns_of t) o) (λ f a. shows_counted g t f a o p fits)
