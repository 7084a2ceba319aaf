-- What one byte more makes of a reading.
use Rattle.std.proofs.Common.{◌≡◌, ◌<◌, ◌+◌, ℕ, List, [], ◌∷◌, ◌++◌, length, take, refl, sym, ap, ◌∙◌, subst, arith, length-append, append-nil, append_assoc, Option, Some, None}
use Rattle.std.proofs.lemmas.List.{take-append-le}
use Rattle.qc_model.specs.declared.problem.Kind.{Kind}
use Rattle.qc_model.specs.Content.{Game}
use Rattle.lemma_text.specs.declared.item.Item.{Item}
use Rattle.lemma_text.specs.declared.reader.Fed.{Fed}
use Rattle.lemma_text.specs.declared.reader.Fed.TheVariants.{More, Whole, Bad}
use Rattle.lemma_text.specs.States.{State}
use Rattle.lemma_text.specs.Reader.{StandsFor, Says, tell}
use Rattle.lemma_text.specs.Places.{BeginsText, IsFault}
use Rattle.lemma_check.specs.declared.machine.LemmaMachine.{LemmaMachine}
use Rattle.lemma_check.specs.Books.{Book, first_book, goes, goes_through}
use Rattle.lemma_check.specs.Machine.{game_of, book_of}
use Rattle.lemma_judge.specs.declared.progress.Stop.{Stop}
use Rattle.lemma_judge.specs.declared.progress.Stop.TheVariants.{Bad as BadStop, Spent}
use Rattle.lemma_judge.specs.Stated.{first_head, head_told}
use Rattle.lemma_judge.specs.declared.progress.ListChecker.{ListChecker}
use Rattle.lemma_judge.specs.Checking.{IsReading, IsStopped, IsCheckingBy, IsChecking}

one_more : (n : ℕ) (bytes : List ℕ) (b : ℕ) → n ≡ length bytes → n + 1 ≡ length (bytes ++ b ∷ [])
one_more n bytes b e = rw length-append (ap (λ k. k + 1) e)

goes_more : (g : Game) (b : Book) (is : List Item) (i : Item) → goes_through g b (is ++ i ∷ []) ≡ goes g (goes_through g b is) i
goes_more g b [] i = refl
goes_more g b (j ∷ is) i = goes_more g (goes g b j) is i

head_more : (h : Option Kind) (is : List Item) (i : Item) → head_told h (is ++ i ∷ []) ≡ first_head (head_told h is) i
head_more h [] i = refl
head_more h (j ∷ is) i = head_more (first_head h j) is i

pub head_kept : (k : Kind) (is : List Item) → head_told (Some k) is ≡ Some k
head_kept k [] = refl
head_kept k (i ∷ is) = head_kept k is

-- before the first byte
pub nothing_read : (r : Option State) (m : LemmaMachine) → StandsFor r [] [] → book_of m ≡ first_book → BeginsText [] → IsReading r m None 0 []
nothing_read r m stands book begins = record { told = []; stands = stands; begins = begins; counted = refl; head_is = refl; book = book }

-- within an item
pub more_read : (r s : Option State) (m : LemmaMachine) (h : Option Kind) (n : ℕ) (bytes : List ℕ) (b : ℕ) (k : IsReading r m h n bytes) (fed : Fed) → fed ≡ More →
    StandsFor s (bytes ++ b ∷ []) (tell k.told fed) → Says bytes k.told b fed → IsReading s m h (n + 1) (bytes ++ b ∷ [])
more_read r s m h n bytes b k fed e stands says = record {
  told = k.told;
  stands = subst (λ q. StandsFor s (bytes ++ b ∷ []) (tell k.told q)) e stands;
  begins = subst (λ q. Says bytes k.told b q) e says;
  counted = one_more n bytes b k.counted;
  head_is = k.head_is;
  book = k.book;
}

-- an item ends, and the machine takes it
pub item_read : (r s : Option State) (m w : LemmaMachine) (h : Option Kind) (n : ℕ) (bytes : List ℕ) (b : ℕ) (k : IsReading r m h n bytes) (fed : Fed) (item : Item) → fed ≡ Whole item →
    StandsFor s (bytes ++ b ∷ []) (tell k.told fed) → Says bytes k.told b fed → game_of w ≡ game_of m → book_of w ≡ goes (game_of m) (book_of m) item →
    IsReading s w (first_head h item) (n + 1) (bytes ++ b ∷ [])
item_read r s m w h n bytes b k fed item e stands says same book = record {
  told = k.told ++ item ∷ [];
  stands = subst (λ q. StandsFor s (bytes ++ b ∷ []) (tell k.told q)) e stands;
  begins = (subst (λ q. Says bytes k.told b q) e says).0;
  counted = one_more n bytes b k.counted;
  head_is = ap (λ q. first_head q item) k.head_is ∙ sym (head_more None k.told item);
  book = book ∙ ap (λ q. goes (game_of m) q item) k.book ∙ sym (goes_more (game_of m) first_book k.told item)
      ∙ ap (λ g. goes_through g first_book (k.told ++ item ∷ [])) (sym same);
}

-- the same of a checker
pub taken : (c : ListChecker) (r s : Option State) (m : LemmaMachine) (h : Option Kind) (n : ℕ) (bytes : List ℕ) (b : ℕ) (k : IsReading r m h n bytes) (fed : Fed) (item : Item) → fed ≡ Whole item →
    StandsFor s (bytes ++ b ∷ []) (tell k.told fed) → Says bytes k.told b fed → c.reader ≡ s → c.read ≡ n + 1 → c.loser ≡ first_head h item → game_of c.machine ≡ game_of m →
    book_of c.machine ≡ goes (game_of m) (book_of m) item → c.stop ≡ None → IsChecking c (bytes ++ b ∷ [])
taken c r s m h n bytes b k fed item e stands says reader read loser same book going =
    subst (λ q. IsCheckingBy q c (bytes ++ b ∷ [])) (sym going)
    (subst (λ q. IsReading q c.machine c.loser c.read (bytes ++ b ∷ [])) (sym reader)
    (subst (λ q. IsReading s c.machine q c.read (bytes ++ b ∷ [])) (sym loser)
    (subst (λ q. IsReading s c.machine (first_head h item) q (bytes ++ b ∷ [])) (sym read)
    (item_read r s m c.machine h n bytes b k fed item e stands says same book))))

front_before : (xs ys : List ℕ) (n : ℕ) → n < length xs → take (n + 1) (xs ++ ys) ≡ take (n + 1) xs
front_before xs ys n h = take-append-le (n + 1) xs ys (omega arith)

-- a fault stays whatever bytes come
bad_stays : (at : ℕ) (xs ys : List ℕ) → at < length xs → IsFault at xs → IsFault at (xs ++ ys)
bad_stays at xs ys lt h = record {
  within = rw length-append (omega (arith, lt));
  before = rw (take-append-le at xs ys (omega (arith, lt))) h.before;
  here = λ limit. rw (front_before xs ys at lt) (h.here lt);
  unfinished = λ e t. let e' : at ≡ length xs + length ys = rw length-append at e in absurd (omega (arith, lt, e'));
}

last_lt : (bytes : List ℕ) (b at : ℕ) → at ≡ length bytes → at < length (bytes ++ b ∷ [])
last_lt bytes b at e = rw length-append (omega (arith, e))

-- the bytes stop being a text here
pub bad_read : (r : Option State) (m : LemmaMachine) (h : Option Kind) (n : ℕ) (bytes : List ℕ) (b : ℕ) (k : IsReading r m h n bytes) (fed : Fed) → fed ≡ Bad →
    Says bytes k.told b fed → IsStopped BadStop n (bytes ++ b ∷ [])
bad_read r m h n bytes b k fed e says = λ more.
    let now = subst (λ q. Says bytes k.told b q) e says in
    let here : now.place ≡ n = now.here k.begins ∙ sym k.counted in
    subst (λ a. IsFault a ((bytes ++ b ∷ []) ++ more)) here (bad_stays now.place (bytes ++ b ∷ []) more (last_lt bytes b now.place (now.here k.begins)) now.is)

-- bytes after a fault
pub still_stopped : (s : Stop) (n : ℕ) (bytes next : List ℕ) → IsStopped s n bytes → IsStopped s n (bytes ++ next)
still_stopped BadStop n bytes next h = λ more. subst (IsFault n) (sym (append_assoc bytes next more)) (h (next ++ more))
still_stopped Spent n bytes next h = h

-- one byte more of some is read
pub one_further : (bytes front rest : List ℕ) (b : ℕ) (after : List ℕ) → bytes ≡ front ++ rest → rest ≡ b ∷ after → bytes ≡ (front ++ b ∷ []) ++ after
one_further bytes front rest b after whole cut = whole ∙ ap (λ xs. front ++ xs) cut ∙ sym (append_assoc front (b ∷ []) after)

pub all_read : (bytes front rest : List ℕ) → bytes ≡ front ++ rest → rest ≡ [] → bytes ≡ front
all_read bytes front rest whole none = whole ∙ ap (λ xs. front ++ xs) none ∙ append-nil front

-- what was not read changes nothing once there was a fault
pub passed_over : (c : ListChecker) (s : Stop) (bytes next : List ℕ) → c.stop ≡ Some s → IsChecking c bytes → IsChecking c (bytes ++ next)
passed_over c s bytes next e h =
    subst (λ q. IsCheckingBy q c (bytes ++ next)) (sym e) (still_stopped s c.read bytes next (subst (λ q. IsCheckingBy q c bytes) e h))
