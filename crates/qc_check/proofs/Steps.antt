-- What one byte more makes of a reading.
use Rattle.std.proofs.Common.{◌≡◌, ◌<◌, ◌≤◌, ◌+◌, ◌-◌, ℕ, zero, suc, List, [], ◌∷◌, ◌++◌, length, take, drop, take-append-drop, length-drop, refl, sym, ap, ◌∙◌, subst, arith, length-append, append_assoc, Option, Some, None, false}
use Rattle.std.specs.Prelude.{slice_index}
use Rattle.std.proofs.lemmas.List.{take-append-le, take_all}
use Rattle.qc_model.specs.Content.{Game}
use Rattle.proof_tree.specs.declared.tree.Version.{Version}
use Rattle.proof_tree.specs.declared.tree.Outcome.{Outcome}
use Rattle.proof_tree.specs.declared.line.Line.{Line}
use Rattle.proof_text.specs.declared.answer.Read.{Read}
use Rattle.proof_text.specs.declared.answer.Read.TheVariants.{Within, Head, Whole, TooDeep, Bad}
use Rattle.proof_text.specs.Answers.{Told, nothing, headed, tell, is_nothing, StandsFor, Says, SaysLine}
use Rattle.proof_text.specs.Places.{BeginsText, IsNotACertificate, IsTooDeep}
use Rattle.proof_text.specs.Readings.{Reading}
use Rattle.check_lines.specs.declared.machine.Machine.{Machine}
use Rattle.check_lines.specs.Ledger.{Ledger, goes}
use Rattle.check_lines.specs.LedgerHeld.{first_ledger, goes_through}
use Rattle.check_lines.specs.Machine.{game_of}
use Rattle.check_lines.specs.Telling.{TellsAfter}
use Rattle.qc_check.specs.declared.stated.Stated.{Stated}
use Rattle.qc_check.specs.declared.stated.Stop.{Stop}
use Rattle.qc_check.specs.declared.stated.Stop.TheVariants.{Bad as BadStop, Deep as DeepStop}
use Rattle.qc_check.specs.Checking.{lines_told, HeadIs, IsReading, IsStopped}

one_more : (n : ℕ) (bytes : List ℕ) (b : ℕ) → n ≡ length bytes → n + 1 ≡ length (bytes ++ b ∷ [])
one_more n bytes b e = rw length-append (ap (λ k. k + 1) e)

pub goes_more : (g : Game) (p : Option Ledger) (ls : List Line) (l : Line) → goes_through g p (ls ++ l ∷ []) ≡ goes g (goes_through g p ls) l
goes_more g p [] l = refl
goes_more g p (k ∷ ls) l = goes_more g (goes g p k) ls l

pub line_more : (ls : List Line) (l : Line) → length (ls ++ l ∷ []) ≡ suc (length ls)
line_more ls l = rw length-append (omega arith)

abbrev grown : Told → Line → Told
grown nothing l = nothing
grown (headed v o p ls) l = headed v o p (ls ++ l ∷ [])

pub head_more : (h : Option Stated) (v : Version) (o : Outcome) (p : Option _) (ls : List Line) (l : Line) → HeadIs h (headed v o p ls) → HeadIs h (headed v o p (ls ++ l ∷ []))
head_more None v o p ls l e = cc
head_more (Some s) v o p ls l (w, ks, e) = (w, ks ++ l ∷ [], ap (λ t. grown t l) e)

-- within a line
pub within : (r s : Reading) (m : Machine) (h : Option Stated) (n : ℕ) (bytes : List ℕ) (b : ℕ) (k : IsReading r m h n bytes) (read : Read) → read ≡ Within →
    StandsFor s (bytes ++ b ∷ []) (tell k.told read) → Says bytes k.told b read → IsReading s m h (n + 1) (bytes ++ b ∷ [])
within r s m h n bytes b k read e stands says = record {
  told = k.told;
  stands = subst (λ q. StandsFor s (bytes ++ b ∷ []) (tell k.told q)) e stands;
  begins = (subst (λ q. Says bytes k.told b q) e says).0;
  counted = one_more n bytes b k.counted;
  head_is = k.head_is;
  few = let f = k.few in omega (arith, f);
  tells = k.tells;
}

-- the head ends
pub head_read : (r s : Reading) (m : Machine) (h : Option Stated) (n : ℕ) (bytes : List ℕ) (b : ℕ) (k : IsReading r m h n bytes) (read : Read) (v : Version) (st : Stated) →
    read ≡ Head v st.outcome st.optimum → StandsFor s (bytes ++ b ∷ []) (tell k.told read) → Says bytes k.told b read → IsReading s m (Some st) (n + 1) (bytes ++ b ∷ [])
head_read r s m h n bytes b k read v st e stands says =
    let now = subst (λ q. Says bytes k.told b q) e says in
    record {
      told = headed v st.outcome st.optimum [];
      stands = subst (λ q. StandsFor s (bytes ++ b ∷ []) (tell k.told q)) e stands;
      begins = now.0;
      counted = one_more n bytes b k.counted;
      head_is = (v, [], refl);
      few = omega arith;
      tells = subst (λ t. TellsAfter (length (lines_told t)) m (goes_through (game_of m) (Some (first_ledger (game_of m))) (lines_told t))) now.1 k.tells;
    }

-- a line ends with these bytes, and the machine is given it
pub whole_read : (r s : Reading) (m w : Machine) (h : Option Stated) (n : ℕ) (bytes piece : List ℕ) (k : IsReading r m h n bytes) (line : Line) (size : ℕ) → length piece ≡ size → 0 < size →
    StandsFor s (bytes ++ piece) (tell k.told (Whole line)) → SaysLine bytes k.told piece line → game_of w ≡ game_of m → n < 4294967296 →
    ((i : ℕ) (p : Option Ledger) → i < 4294967296 → TellsAfter i m p → TellsAfter (suc i) w (goes (game_of m) p line)) → IsReading s w h (n + size) (bytes ++ piece)
whole_read r s m w h n bytes piece k line size long some stands says same room taken = by k.told stands says.1 k.head_is k.few k.tells says.0
  where
    by : (t : Told) → StandsFor s (bytes ++ piece) (tell t (Whole line)) → is_nothing t ≡ false → HeadIs h t →
        length (lines_told t) ≤ n → TellsAfter (length (lines_told t)) m (goes_through (game_of m) (Some (first_ledger (game_of m))) (lines_told t)) → BeginsText 1000 (bytes ++ piece) → IsReading s w h (n + size) (bytes ++ piece)
    by nothing st headless hd few tells begins = cc
    by (headed v o p ls) st head hd few tells begins = record {
      told = headed v o p (ls ++ line ∷ []);
      stands = st;
      begins = begins;
      counted = (let c = k.counted in rw length-append (omega (arith, c, long)));
      head_is = head_more h v o p ls line hd;
      few = rw line_more (omega (arith, few, some));
      tells = subst (λ g. TellsAfter (length (ls ++ line ∷ [])) w (goes_through g (Some (first_ledger g)) (ls ++ line ∷ []))) (sym same)
          (subst (λ i. TellsAfter i w (goes_through (game_of m) (Some (first_ledger (game_of m))) (ls ++ line ∷ []))) (sym (line_more ls line))
          (subst (TellsAfter (suc (length ls)) w) (sym (goes_more (game_of m) (Some (first_ledger (game_of m))) ls line))
          (taken (length ls) (goes_through (game_of m) (Some (first_ledger (game_of m))) ls) (omega (arith, few, room)) tells)));
    }

-- one with this byte
pub line_read : (r s : Reading) (m w : Machine) (h : Option Stated) (n : ℕ) (bytes : List ℕ) (b : ℕ) (k : IsReading r m h n bytes) (read : Read) (line : Line) → read ≡ Whole line →
    StandsFor s (bytes ++ b ∷ []) (tell k.told read) → Says bytes k.told b read → game_of w ≡ game_of m → n < 4294967296 →
    ((i : ℕ) (p : Option Ledger) → i < 4294967296 → TellsAfter i m p → TellsAfter (suc i) w (goes (game_of m) p line)) → IsReading s w h (n + 1) (bytes ++ b ∷ [])
line_read r s m w h n bytes b k read line e stands says same room taken =
    whole_read r s m w h n bytes (b ∷ []) k line 1 refl (omega arith) (subst (λ q. StandsFor s (bytes ++ b ∷ []) (tell k.told q)) e stands) (subst (λ q. Says bytes k.told b q) e says) same room taken

-- some more of the bytes are read
pub further : (bytes front rest : List ℕ) (n : ℕ) → bytes ≡ front ++ rest → bytes ≡ (front ++ take n rest) ++ take (length rest - n) (drop n rest)
further bytes front rest n e =
    e ∙ ap (λ xs. front ++ xs) (sym (take-append-drop n rest) ∙ ap (λ xs. take n rest ++ xs) (sym (take_all (length rest - n) (drop n rest) (omega (arith, length-drop n rest)))))
    ∙ sym (append_assoc front (take n rest) (take (length rest - n) (drop n rest)))

index_before : (xs ys : List ℕ) (n : ℕ) → n < length xs → slice_index (xs ++ ys) n ≡ slice_index xs n
index_before [] ys n h = absurd (omega arith)
index_before (x ∷ xs) ys zero h = refl
index_before (x ∷ xs) ys (suc n) h = index_before xs ys n (omega arith)

front_before : (xs ys : List ℕ) (n : ℕ) → n < length xs → take (n + 1) (xs ++ ys) ≡ take (n + 1) xs
front_before xs ys n h = take-append-le (n + 1) xs ys (omega arith)

-- a fault stays whatever bytes come
deep_stays : (at : ℕ) (xs ys : List ℕ) → IsTooDeep at xs → IsTooDeep at (xs ++ ys)
deep_stays at xs ys h = record {
  within = rw length-append (let w = h.within in omega arith);
  before = rw (take-append-le at xs ys (let w = h.within in omega arith)) h.before;
  opens = rw (front_before xs ys at h.within) h.opens;
  deeper = rw (front_before xs ys at h.within) h.deeper;
  letter = rw (index_before xs ys at h.within) h.letter;
}

bad_stays : (at : ℕ) (xs ys : List ℕ) → at < length xs → IsNotACertificate at xs → IsNotACertificate at (xs ++ ys)
bad_stays at xs ys lt h = record {
  within = rw length-append (omega (arith, lt));
  before = rw (take-append-le at xs ys (omega (arith, lt))) h.before;
  here = λ l limit. rw (front_before xs ys at lt) (h.here lt limit);
  unfinished = λ e limit t. let e' : at ≡ length xs + length ys = rw length-append at e in absurd (omega (arith, lt, e'));
}

last_lt : (bytes : List ℕ) (b at : ℕ) → at ≡ length bytes → at < length (bytes ++ b ∷ [])
last_lt bytes b at e = rw length-append (omega (arith, e))

-- the bytes nest too deep here
pub deep_read : (r : Reading) (m : Machine) (h : Option Stated) (n : ℕ) (bytes : List ℕ) (b : ℕ) (k : IsReading r m h n bytes) (read : Read) → read ≡ TooDeep →
    Says bytes k.told b read → (more : List ℕ) → IsTooDeep n (bytes ++ b ∷ [] ++ more)
deep_read r m h n bytes b k read e says more =
    let now = subst (λ q. Says bytes k.told b q) e says in
    let here : now.at ≡ n = now.here k.begins ∙ sym k.counted in
    subst (λ a. IsTooDeep a (bytes ++ b ∷ [] ++ more)) here (deep_stays now.at (bytes ++ b ∷ []) more now.is)

-- they stop being a text here
pub bad_read : (r : Reading) (m : Machine) (h : Option Stated) (n : ℕ) (bytes : List ℕ) (b : ℕ) (k : IsReading r m h n bytes) (read : Read) → read ≡ Bad →
    Says bytes k.told b read → (more : List ℕ) → IsNotACertificate n (bytes ++ b ∷ [] ++ more)
bad_read r m h n bytes b k read e says more =
    let now = subst (λ q. Says bytes k.told b q) e says in
    let here : now.at ≡ n = now.here k.begins ∙ sym k.counted in
    subst (λ a. IsNotACertificate a (bytes ++ b ∷ [] ++ more)) here (bad_stays now.at (bytes ++ b ∷ []) more (last_lt bytes b now.at (now.here k.begins)) now.is)

-- bytes after a fault
pub still_stopped : (s : Stop) (n : ℕ) (bytes next : List ℕ) → IsStopped s n bytes → IsStopped s n (bytes ++ next)
still_stopped BadStop n bytes next h = λ more. subst (IsNotACertificate n) (sym (append_assoc bytes next more)) (h (next ++ more))
still_stopped DeepStop n bytes next h = λ more. subst (IsTooDeep n) (sym (append_assoc bytes next more)) (h (next ++ more))

-- all bytes after a fault, where the first of them is the fault
pub all_stopped : (s : Stop) (n : ℕ) (before bytes : List ℕ) → 0 < length bytes → IsStopped s n (before ++ slice_index bytes 0 ∷ []) → IsStopped s n (before ++ bytes)
all_stopped s n before [] h k = absurd (omega arith)
all_stopped s n before (b ∷ bytes) h k = subst (IsStopped s n) (append_assoc before (b ∷ []) bytes) (still_stopped s n (before ++ b ∷ []) bytes k)
