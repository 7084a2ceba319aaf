-- What one byte more makes of a reading.
use Rattle.std.proofs.Common.{◌≡◌, ◌<◌, ◌≤◌, ◌^◌, ◌+◌, ◌-◌, true, ℕ, List, [], ◌∷◌, ◌++◌, length, take, refl, sym, ap, ◌∙◌, subst, arith, length-append, append-nil, append_assoc, Option, Some, None}
use Rattle.std.specs.Prelude.{ℤ}
use Rattle.std.proofs.lemmas.List.{take-append-le}
use Rattle.proof_tree.specs.declared.tree.Outcome.{Outcome}
use Rattle.dense_ledger.specs.Ledger.{first_ledger}
use Rattle.dense_text.specs.declared.piece.Piece.{Piece}
use Rattle.dense_text.specs.declared.piece.Piece.TheVariants.{Head as HeadPiece, Given, Reply, Chosen, Value, Named, Horizon, Stuck, Goal, Again, NoPlay, Close, Bound, Empty, Barred, BestLeft, Next, Branch, Range, Skip, LeftOpen, Dot}
use Rattle.dense_text.specs.declared.reader.Fed.{Fed}
use Rattle.dense_text.specs.declared.reader.Fed.TheVariants.{More, Whole, Bad}
use Rattle.dense_text.specs.Kept.{Held}
use Rattle.dense_text.specs.Reader.{StandsFor, Says, tell}
use Rattle.dense_text.specs.Pieces.{piece_text}
use Rattle.dense_text.specs.Grammar.{Place, at_start, at_value, at as due_at, allows}
use Rattle.dense_text.specs.WholeLines.{IsAfterHead, GoesOver}
use Rattle.dense_text.specs.Places.{BeginsText, IsFault}
use Rattle.dense_check.specs.declared.machine.DenseMachine.{DenseMachine}
use Rattle.dense_check.specs.Telling.{game_of, Tells}
use Rattle.dense_judge.specs.declared.gather.Gather.{Gather}
use Rattle.dense_judge.specs.declared.heads.Head.{Head}
use Rattle.dense_judge.specs.declared.progress.Stop.{Stop}
use Rattle.dense_judge.specs.declared.progress.Stop.TheVariants.{Bad as BadStop, Spent}
use Rattle.dense_judge.specs.declared.progress.DenseChecker.{DenseChecker}
use Rattle.dense_judge.specs.Gathered.{Gathered, no_pieces, gathered, all_gathered}
use Rattle.dense_judge.specs.Gathering.{Keeps}
use Rattle.dense_judge.specs.Stated.{first_head, head_told}
use Rattle.dense_judge.specs.Checking.{HasTaken, IsReading, IsStopped, IsCheckingBy, IsChecking, ReadsOn}
use Rattle.dense_judge.proofs.Gathers.{gathered_more}

one_more : (n : ℕ) (bytes : List ℕ) (b : ℕ) → n ≡ length bytes → n + 1 ≡ length (bytes ++ b ∷ [])
one_more n bytes b e = rw length-append (ap (λ k. k + 1) e)

head_more : (h : Option Head) (is : List Piece) (i : Piece) → head_told h (is ++ i ∷ []) ≡ first_head (head_told h is) i
head_more h [] i = refl
head_more h (j ∷ is) i = head_more (first_head h j) is i

pub head_kept : (h : Head) (is : List Piece) → head_told (Some h) is ≡ Some h
head_kept h [] = refl
head_kept h (i ∷ is) = head_kept h is

-- so few bytes that the reader counts right
pub few_enough : (r : Option Held) (k : Gather) (m : DenseMachine) (h : Option Head) (n : ℕ) (bytes : List ℕ) → IsReading r k m h n bytes → n + 1 ≤ 2 ^ 32 → length bytes + 1 < 2 ^ 64
few_enough r k m h n bytes i room = let e : n ≡ length bytes = i.counted in omega (arith, e, room)

-- before the first byte
pub nothing_read : (r : Option Held) (k : Gather) (m : DenseMachine) → StandsFor r [] [] → Keeps k None → Tells m (first_ledger (game_of m)) → BeginsText [] → IsReading r k m None 0 []
nothing_read r k m stands begun tells begins =
    record { told = []; stands = stands; begins = begins; counted = refl; head_is = refl; taken = record { begun = begun; ledger = tells } }

-- within a piece
pub more_read : (r s : Option Held) (k : Gather) (m : DenseMachine) (h : Option Head) (n : ℕ) (bytes : List ℕ) (b : ℕ) (i : IsReading r k m h n bytes) (fed : Fed) → fed ≡ More →
    StandsFor s (bytes ++ b ∷ []) (tell i.told fed) → Says bytes i.told b fed → IsReading s k m h (n + 1) (bytes ++ b ∷ [])
more_read r s k m h n bytes b i fed e stands says = record {
  told = i.told;
  stands = subst (λ q. StandsFor s (bytes ++ b ∷ []) (tell i.told q)) e stands;
  begins = subst (λ q. Says bytes i.told b q) e says;
  counted = one_more n bytes b i.counted;
  head_is = i.head_is;
  taken = i.taken;
}

-- a piece ends, and is taken
piece_read : (r s : Option Held) (k k2 : Gather) (m m2 : DenseMachine) (h : Option Head) (n : ℕ) (bytes : List ℕ) (b : ℕ) (i : IsReading r k m h n bytes) (fed : Fed) (p : Piece) → fed ≡ Whole p →
    StandsFor s (bytes ++ b ∷ []) (tell i.told fed) → Says bytes i.told b fed → ((a : Gathered) → HasTaken k m a → HasTaken k2 m2 (gathered a p)) →
    IsReading s k2 m2 (first_head h p) (n + 1) (bytes ++ b ∷ [])
piece_read r s k k2 m m2 h n bytes b i fed p e stands says takes = record {
  told = i.told ++ p ∷ [];
  stands = subst (λ q. StandsFor s (bytes ++ b ∷ []) (tell i.told q)) e stands;
  begins = (subst (λ q. Says bytes i.told b q) e says).0;
  counted = one_more n bytes b i.counted;
  head_is = ap (λ q. first_head q p) i.head_is ∙ sym (head_more None i.told p);
  taken = subst (HasTaken k2 m2) (sym (gathered_more no_pieces i.told p)) (takes (all_gathered no_pieces i.told) i.taken);
}

-- the same of a checker
pub taken : (c : DenseChecker) (r s : Option Held) (k : Gather) (m : DenseMachine) (h : Option Head) (n : ℕ) (bytes : List ℕ) (b : ℕ) (i : IsReading r k m h n bytes) (fed : Fed) (p : Piece) → fed ≡ Whole p →
    StandsFor s (bytes ++ b ∷ []) (tell i.told fed) → Says bytes i.told b fed → c.reader ≡ s → c.read ≡ n + 1 → c.head ≡ first_head h p →
    ((a : Gathered) → HasTaken k m a → HasTaken c.gather c.machine (gathered a p)) → c.stop ≡ None → IsChecking c (bytes ++ b ∷ [])
taken c r s k m h n bytes b i fed p e stands says reader read head takes going =
    subst (λ q. IsCheckingBy q c (bytes ++ b ∷ [])) (sym going)
    (subst (λ q. IsReading q c.gather c.machine c.head c.read (bytes ++ b ∷ [])) (sym reader)
    (subst (λ q. IsReading s c.gather c.machine q c.read (bytes ++ b ∷ [])) (sym head)
    (subst (λ q. IsReading s c.gather c.machine (first_head h p) q (bytes ++ b ∷ [])) (sym read)
    (piece_read r s k c.gather m c.machine h n bytes b i fed p e stands says takes))))

front_before : (xs ys : List ℕ) (n : ℕ) → n < length xs → take (n + 1) (xs ++ ys) ≡ take (n + 1) xs
front_before xs ys n h = take-append-le (n + 1) xs ys (omega arith)

-- a fault stays whatever bytes come
bad_stays : (at : ℕ) (xs ys : List ℕ) → at < length xs → IsFault at xs → IsFault at (xs ++ ys)
bad_stays at xs ys lt h = record {
  within = rw length-append (omega (arith, lt));
  before = rw (take-append-le at xs ys (omega (arith, lt))) h.before;
  here = λ limit. rw (front_before xs ys at lt) (h.here lt);
  unfinished = λ e t. let e' : at ≡ length xs + length ys = rw length-append at e in absurd (omega (arith, lt, e'));
}

last_lt : (bytes : List ℕ) (b at : ℕ) → at ≡ length bytes → at < length (bytes ++ b ∷ [])
last_lt bytes b at e = rw length-append (omega (arith, e))

-- the bytes stop being a text here
pub bad_read : (r : Option Held) (k : Gather) (m : DenseMachine) (h : Option Head) (n : ℕ) (bytes : List ℕ) (b : ℕ) (i : IsReading r k m h n bytes) (fed : Fed) → fed ≡ Bad →
    Says bytes i.told b fed → IsStopped BadStop n (bytes ++ b ∷ [])
bad_read r k m h n bytes b i fed e says = λ more.
    let now = subst (λ q. Says bytes i.told b q) e says in
    let here : now.place ≡ n = now.here i.begins ∙ sym i.counted in
    subst (λ a. IsFault a ((bytes ++ b ∷ []) ++ more)) here (bad_stays now.place (bytes ++ b ∷ []) more (last_lt bytes b now.place (now.here i.begins)) now.is)

-- bytes after a fault
pub still_stopped : (s : Stop) (n : ℕ) (bytes next : List ℕ) → IsStopped s n bytes → IsStopped s n (bytes ++ next)
still_stopped BadStop n bytes next h = λ more. subst (IsFault n) (sym (append_assoc bytes next more)) (h (next ++ more))
still_stopped Spent n bytes next h = h

-- a head comes at the start alone
at_start_alone : (place : Place) (o : Outcome) (v : Option ℤ) → IsAfterHead place → allows place (HeadPiece o v) ≡ true → ⊥
at_start_alone at_start o v w a = w
at_start_alone (at_value u) o v w a = absurd (cc)
at_start_alone (due_at d) o v w a = absurd (cc)

-- so a line, or a value, is none
not_head : (place : Place) (p : Piece) → IsAfterHead place → allows place p ≡ true → (h : Option Head) → first_head h p ≡ h
not_head place p w a (Some h) = refl
not_head place (HeadPiece o v) w a None = absurd (at_start_alone place o v w a)
not_head place (Given k bare) w a None = refl
not_head place (Reply bare) w a None = refl
not_head place (Chosen bare) w a None = refl
not_head place (Value u v last) w a None = refl
not_head place Named w a None = refl
not_head place (Horizon k) w a None = refl
not_head place Stuck w a None = refl
not_head place Goal w a None = refl
not_head place (Again n) w a None = refl
not_head place (NoPlay k) w a None = refl
not_head place Close w a None = refl
not_head place (Bound x low high) w a None = refl
not_head place Empty w a None = refl
not_head place Barred w a None = refl
not_head place BestLeft w a None = refl
not_head place Next w a None = refl
not_head place (Branch x) w a None = refl
not_head place (Range high) w a None = refl
not_head place Skip w a None = refl
not_head place LeftOpen w a None = refl
not_head place Dot w a None = refl

-- the bytes of a line
line_bytes : (r s : Option Held) (bytes rest : List ℕ) (p : Piece) → GoesOver r s bytes p rest → length bytes ≡ length (piece_text p) + length rest
line_bytes r s bytes rest p g = ap length g.text ∙ length-append (piece_text p) rest

-- a line or a value that is read at once, and taken
line_read : (r s : Option Held) (k k2 : Gather) (m m2 : DenseMachine) (h : Option Head) (n : ℕ) (before bytes rest : List ℕ) (p : Piece) → GoesOver r s bytes p rest → n + length bytes ≤ 2 ^ 32 →
    ((a : Gathered) → HasTaken k m a → HasTaken k2 m2 (gathered a p)) → IsReading r k m h n before → IsReading s k2 m2 h (n + (length bytes - length rest)) (before ++ piece_text p)
line_read r s k k2 m m2 h n before bytes rest p g room takes i =
    let e : n ≡ length before = i.counted in
    let size = line_bytes r s bytes rest p g in
    let all : length (before ++ piece_text p) ≡ length before + length (piece_text p) = length-append before (piece_text p) in
    let few : length (before ++ piece_text p) < 2 ^ 64 = omega (arith, e, size, all, room) in
    record {
      told = i.told ++ p ∷ [];
      stands = g.stands before i.told few i.stands;
      begins = (g.says before i.told few i.stands).0;
      counted = omega (arith, e, size, all);
      head_is = sym (not_head g.comes.0 p g.comes.2 g.comes.3 h) ∙ ap (λ q. first_head q p) i.head_is ∙ sym (head_more None i.told p);
      taken = subst (HasTaken k2 m2) (sym (gathered_more no_pieces i.told p)) (takes (all_gathered no_pieces i.told) i.taken);
    }

-- the same of a checker
pub line_taken : (old new : DenseChecker) (s : Option Held) (bytes rest : List ℕ) (p : Piece) → old.stop ≡ None → GoesOver old.reader s bytes p rest → old.read + length bytes ≤ 2 ^ 32 →
    new.reader ≡ s → new.read ≡ old.read + (length bytes - length rest) → new.head ≡ old.head → ((a : Gathered) → HasTaken old.gather old.machine a → HasTaken new.gather new.machine (gathered a p)) → new.stop ≡ None →
    ReadsOn old new bytes rest
line_taken old new s bytes rest p begun g room reader read head takes going =
    let size = line_bytes old.reader s bytes rest p g in
    let shorter = g.shorter in
    record {
      front = piece_text p;
      whole = g.text;
      some = omega (arith, size, shorter);
      read = omega (arith, size, shorter, read);
      checking = λ before h.
          let i = subst (λ q. IsCheckingBy q old before) begun h in
          subst (λ q. IsCheckingBy q new (before ++ piece_text p)) (sym going)
          (subst (λ q. IsReading q new.gather new.machine new.head new.read (before ++ piece_text p)) (sym reader)
          (subst (λ q. IsReading s new.gather new.machine q new.read (before ++ piece_text p)) (sym head)
          (subst (λ q. IsReading s new.gather new.machine old.head q (before ++ piece_text p)) (sym read)
          (line_read old.reader s old.gather new.gather old.machine new.machine old.head old.read before bytes rest p g room takes i))));
    }

-- a byte is read
pub byte_read : (old new : DenseChecker) (bytes rest : List ℕ) (b : ℕ) → bytes ≡ b ∷ rest → new.read ≤ old.read + 1 → ((before : List ℕ) → IsChecking old before → IsChecking new (before ++ b ∷ [])) → ReadsOn old new bytes rest
byte_read old new bytes rest b e read checking = record { front = b ∷ []; whole = e; some = omega arith; read = read; checking = checking }

-- some of the bytes are read, after those before them
pub read_further : (now later : DenseChecker) (bytes front rest left : List ℕ) → bytes ≡ front ++ rest → (r : ReadsOn now later rest left) → bytes ≡ (front ++ r.front) ++ left
read_further now later bytes front rest left e r = e ∙ ap (λ xs. front ++ xs) r.whole ∙ sym (append_assoc front r.front left)

-- and fewer are left
pub fewer_left : (now later : DenseChecker) (bytes rest : List ℕ) → ReadsOn now later bytes rest → length rest < length bytes
fewer_left now later bytes rest r =
    let size : length bytes ≡ length r.front + length rest = ap length r.whole ∙ length-append r.front rest in
    let some = r.some in
    omega (arith, size, some)

pub all_read : (bytes front rest : List ℕ) → bytes ≡ front ++ rest → rest ≡ [] → bytes ≡ front
all_read bytes front rest whole none = whole ∙ ap (λ xs. front ++ xs) none ∙ append-nil front

-- what was not read changes nothing once there was a fault
pub passed_over : (c : DenseChecker) (s : Stop) (bytes next : List ℕ) → c.stop ≡ Some s → IsChecking c bytes → IsChecking c (bytes ++ next)
passed_over c s bytes next e h =
    subst (λ q. IsCheckingBy q c (bytes ++ next)) (sym e) (still_stopped s c.read bytes next (subst (λ q. IsCheckingBy q c bytes) e h))
