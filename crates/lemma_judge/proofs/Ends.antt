-- What all bytes come to.
use Rattle.std.proofs.Common.{◌≡◌, ◌<◌, ◌+◌, ℕ, List, [], ◌++◌, length, take, drop, sym, ap, ◌∙◌, subst, append-nil, append_assoc, take-append-drop, flat_map, Option, Some, None, Bool, true, false, IsTrue}
use Rattle.qc_model.specs.declared.problem.Kind.{Kind}
use Rattle.qc_model.specs.declared.problem.Kind.TheVariants.{Exists, Forall}
use Rattle.qc_model.specs.Content.{Game}
use Rattle.qc_model.specs.Valid.{IsValid}
use Rattle.lemma_list.specs.Lemmas.{Entry}
use Rattle.lemma_list.specs.InPlace.{proves}
use Rattle.lemma_laws.specs.Claims.{TrueIsWon, FalseIsLost}
use Rattle.lemma_text.specs.States.{State}
use Rattle.lemma_text.specs.declared.reader.End.{End}
use Rattle.lemma_text.specs.declared.reader.End.TheVariants.{Whole, CutShort, Bad as BadEnd}
use Rattle.lemma_text.specs.Reader.{IsTold, Ends}
use Rattle.lemma_text.specs.Items.{entry_items}
use Rattle.lemma_text.specs.Places.{IsText, BeginsText, IsFault}
use Rattle.lemma_check.specs.declared.machine.LemmaMachine.{LemmaMachine}
use Rattle.lemma_check.specs.Machine.{game_of, book_of}
use Rattle.lemma_check.specs.Books.{first_book, goes_through}
use Rattle.lemma_check.specs.Claims.{AnswersLists}
use Rattle.lemma_judge.specs.Stated.{head_told, LosesGame}
use Rattle.lemma_judge.specs.Checking.{IsReading, IsListText, IsProof, IsNoProof, IsStopped}
use Rattle.lemma_judge.specs.declared.progress.Stop.TheVariants.{Bad}
use Rattle.lemma_judge.proofs.Steps.{head_kept}

front_begins : (n : ℕ) (bytes : List ℕ) → BeginsText bytes → BeginsText (take n bytes)
front_begins n bytes (rest, is) =
    (drop n bytes ++ rest, subst IsText (ap (λ xs. xs ++ rest) (sym (take-append-drop n bytes)) ∙ append_assoc (take n bytes) (drop n bytes) rest) is)

-- bytes that begin a text have no fault before their end
pub no_fault : (place : ℕ) (bytes : List ℕ) → BeginsText bytes → place < length bytes → IsFault place bytes → ⊥
no_fault place bytes begins within is = is.here within (front_begins (place + 1) bytes begins)

-- what the reader said at the end
pub cut_short : (r : Option State) (m : LemmaMachine) (h : Option Kind) (n : ℕ) (bytes : List ℕ) (k : IsReading r m h n bytes) (end : End) → end ≡ CutShort →
    Ends bytes k.told end → IsFault n bytes
cut_short r m h n bytes k end e says = subst (λ a. IsFault a bytes) (sym k.counted) ((subst (Ends bytes k.told) e says).1)

pub never_bad : (r : Option State) (m : LemmaMachine) (h : Option Kind) (n : ℕ) (bytes : List ℕ) (k : IsReading r m h n bytes) (end : End) → end ≡ BadEnd →
    Ends bytes k.told end → ⊥
never_bad r m h n bytes k end e says = let bad = subst (Ends bytes k.told) e says in no_fault bad.0 bytes k.begins bad.1 bad.2

pub whole : (r : Option State) (m : LemmaMachine) (h : Option Kind) (n : ℕ) (bytes : List ℕ) (k : IsReading r m h n bytes) (end : End) → end ≡ Whole →
    Ends bytes k.told end → IsTold bytes k.told
whole r m h n bytes k end e says = subst (Ends bytes k.told) e says

-- a fault that stays is one now
pub now_stopped : (at : ℕ) (bytes : List ℕ) → IsStopped Bad at bytes → IsFault at bytes
now_stopped at bytes h = subst (IsFault at) (append-nil bytes) (h [])

-- what was said of the side by the head
pub head_of_list : (r : Option State) (m : LemmaMachine) (h : Option Kind) (n : ℕ) (bytes : List ℕ) (k : IsReading r m h n bytes) (t : IsTold bytes k.told) → h ≡ Some t.0
head_of_list r m h n bytes k (loser, entries, fits, text, told) = k.head_is ∙ ap (head_told None) told ∙ head_kept loser (flat_map entry_items entries)

-- a text has a head
pub some_head : (r : Option State) (m : LemmaMachine) (h : Option Kind) (n : ℕ) (bytes : List ℕ) (k : IsReading r m h n bytes) → h ≡ None → IsTold bytes k.told → ⊥
some_head r m h n bytes k none t = let e : None ≡ Some t.0 = sym none ∙ head_of_list r m h n bytes k t in cc

pub means : (g : Game) (loser : Kind) (entries : List Entry) → IsValid g → TrueIsWon → FalseIsLost → IsTrue (proves g loser entries) → LosesGame loser g
means g Exists entries valid won lost p = lost g entries valid p
means g Forall entries valid won lost p = won g entries valid p

-- the list whose text the bytes are, and what was answered of it
pub record IsJudged (g : Game) (bytes : List ℕ) (loser : Kind) (answer : Bool) : Type 0 where
  pub entries : List Entry
  pub read : IsListText bytes loser entries
  pub answered : answer ≡ proves g loser entries

pub judged : (r : Option State) (m : LemmaMachine) (h : Option Kind) (n : ℕ) (bytes : List ℕ) (k : IsReading r m h n bytes) (loser : Kind) (answer : Bool) → h ≡ Some loser →
    AnswersLists (game_of m) (book_of m) loser answer → IsTold bytes k.told → IsJudged (game_of m) bytes loser answer
judged r m h n bytes k loser answer some answers (l, entries, fits, text, told) = by same
  where
    same : l ≡ loser
    same = let e : Some l ≡ Some loser = sym (head_of_list r m h n bytes k (l, entries, fits, text, told)) ∙ some in cc

    by : l ≡ loser → IsJudged (game_of m) bytes loser answer
    by e = record {
      entries = entries;
      read = subst (λ q. IsListText bytes q entries) e (record { spelled = text; spellable = fits });
      answered = answers l entries (k.book ∙ ap (goes_through (game_of m) first_book) told);
    }

pub proof : (g : Game) (bytes : List ℕ) (loser : Kind) (answer : Bool) → IsValid g → TrueIsWon → FalseIsLost → IsJudged g bytes loser answer → answer ≡ true → IsProof g bytes loser
proof g bytes loser answer valid won lost j e =
    let shows : IsTrue (proves g loser j.entries) = sym j.answered ∙ e in
    record { entries = j.entries; read = j.read; proves = shows; means = means g loser j.entries valid won lost shows }

pub no_proof : (g : Game) (bytes : List ℕ) (loser : Kind) (answer : Bool) → IsJudged g bytes loser answer → answer ≡ false → IsNoProof g bytes
no_proof g bytes loser answer j e = record { loser = loser; entries = j.entries; read = j.read; fails = λ p. let c : true ≡ false = sym p ∙ sym j.answered ∙ e in cc }
