-- From readings to the bytes that were read.
use Rattle.std.proofs.Common.{◌≡◌, refl, sym, ap, ◌∙◌, subst, ℕ, ◌+◌, ◌<◌, List, [], ◌∷◌, ◌++◌, length, take, drop, Bool, true, false, ◌&&◌, arith, append_assoc, length-append}
use Rattle.std.specs.Prelude.{flat_map, IsTrue, ◌↔◌, Option, ℤ}
use Rattle.std.specs.List.{list_all}
use Rattle.std.proofs.lemmas.Bool.{and_from, and_parts}
use Rattle.std.proofs.lemmas.List.Folds.{list_all-append}
use Rattle.std.proofs.lemmas.List.{append-nil, take-append-drop, take-append-le}
use Rattle.proof_tree.specs.declared.line.Line.{Line}
use Rattle.proof_tree.specs.declared.tree.Outcome.{Outcome}
use Rattle.proof_tree.specs.Text.{version_text, outcome_text, outcome_fits, line_text}
use Rattle.proof_text.specs.declared.answer.Read.{Read}
use Rattle.proof_text.specs.declared.answer.Read.TheVariants.{Within, Head, Whole, TooDeep, Bad}
use Rattle.proof_text.specs.LineRanges.{line_fits}
use Rattle.proof_text.specs.Symbols.{Symbol, start}
use Rattle.proof_text.specs.Places.{IsText, BeginsText, IsNotACertificate, IsTooDeep}
use Rattle.proof_text.specs.Standing.{Standing, owing, too_deep, no_text, next_standing, standing_from, standing, Tells}
use Rattle.proof_text.specs.Readings.{Reading, IsGoing, GoesOn, GoesOnLine}
use Rattle.proof_text.specs.Answers.{Told, nothing, headed, told_text, tell, is_nothing, StandsFor, HasStopped, Says, SaysLine}
use Rattle.proof_text.proofs.Standings.{tells, standing_append}

was_going : (s : Standing) (b : ℕ) (owed : List Symbol) → next_standing s b ≡ owing owed → IsGoing s
was_going (owing l) b owed h = (l, refl)
was_going too_deep b owed h = absurd (cc)
was_going no_text b owed h = absurd (cc)

next_is : (old new : Reading) (bytes : List ℕ) (told : Told) (b : ℕ) (read : Read) → StandsFor old bytes told → GoesOn old b new read → standing (bytes ++ b ∷ []) ≡ new.standing
next_is old new bytes told b read h g = standing_append (owing start) bytes b ∙ ap (λ (s : Standing). next_standing s b) h.standing ∙ sym g.0

before : (old new : Reading) (b : ℕ) (read : Read) → GoesOn old b new read → IsGoing new.standing → IsGoing old.standing
before old new b read g n = was_going old.standing b n.0 (sym g.0 ∙ n.1)

with_byte : (old new : Reading) (bytes : List ℕ) (told : Told) (b : ℕ) (read : Read) → StandsFor old bytes told → GoesOn old b new read → IsGoing new.standing → bytes ++ b ∷ [] ≡ told_text told ++ (old.unfinished ++ b ∷ [])
with_byte old new bytes told b read h g n = ap (λ (l : List ℕ). l ++ b ∷ []) (h.text (before old new b read g n)) ∙ append_assoc (told_text told) old.unfinished (b ∷ [])

in_head : (old new : Reading) (bytes : List ℕ) (told : Told) (b : ℕ) (read : Read) → StandsFor old bytes told → GoesOn old b new read → IsGoing new.standing → old.in_head ≡ is_nothing told
in_head old new bytes told b read h g n = h.head (before old new b read g n)

is_told_nothing : (told : Told) → is_nothing told ≡ true → told ≡ nothing
is_told_nothing nothing h = refl
is_told_nothing (headed v o p lines) h = absurd (cc)

stops_not : (s : Standing) → (s ≡ too_deep) → IsGoing s → ⊥
stops_not s e n =
    let both : too_deep ≡ owing n.0 = sym e ∙ n.1 in
    absurd (cc)

fails_not : (s : Standing) → (s ≡ no_text) → IsGoing s → ⊥
fails_not s e n =
    let both : no_text ≡ owing n.0 = sym e ∙ n.1 in
    absurd (cc)

one_more : (lines : List Line) (line : Line) → flat_map line_text (lines ++ line ∷ []) ≡ flat_map line_text lines ++ line_text line
one_more [] line = append-nil (line_text line)
one_more (l ∷ lines) line = ap (λ (t : List ℕ). line_text l ++ t) (one_more lines line) ∙ sym (append_assoc (line_text l) (flat_map line_text lines) (line_text line))

with_line : (o : Outcome) (p : Option ℤ) (lines : List Line) (line : Line) → IsTrue (outcome_fits o p && list_all line_fits lines) → IsTrue (line_fits line) → IsTrue (outcome_fits o p && list_all line_fits (lines ++ line ∷ []))
with_line o p lines line h g =
    let q = and_parts (outcome_fits o p) (list_all line_fits lines) h in
    and_from _ _ q.0 (list_all-append line_fits lines (line ∷ []) ∙ and_from _ _ q.1 (and_from _ _ g refl))

-- the reading stands for one byte more
pub stands : (old new : Reading) (bytes : List ℕ) (told : Told) (b : ℕ) (read : Read) → StandsFor old bytes told → GoesOn old b new read → StandsFor new (bytes ++ b ∷ []) (tell told read)
stands old new bytes told b Within h g = record {
  standing = next_is old new bytes told b Within h g;
  text = λ n. with_byte old new bytes told b Within h g n ∙ ap (λ (l : List ℕ). told_text told ++ l) (sym g.1.2);
  head = λ n. g.1.1 ∙ in_head old new bytes told b Within h g n;
  fits = h.fits;
}
stands old new bytes told b (Head v o p) h g = record {
  standing = next_is old new bytes told b (Head v o p) h g;
  text = λ n.
      with_byte old new bytes told b (Head v o p) h g n
      ∙ ap (λ (t : Told). told_text t ++ (old.unfinished ++ b ∷ [])) (is_told_nothing told (sym (in_head old new bytes told b (Head v o p) h g n) ∙ g.1.1))
      ∙ sym g.1.4
      ∙ sym (append-nil (version_text v ++ outcome_text o p))
      ∙ sym (append-nil (version_text v ++ outcome_text o p ++ []))
      ∙ ap (λ (l : List ℕ). version_text v ++ outcome_text o p ++ [] ++ l) (sym g.1.3);
  head = λ n. g.1.2;
  fits = and_from _ _ g.1.5 refl;
}
stands old new bytes nothing b (Whole line) h g = record {
  standing = next_is old new bytes nothing b (Whole line) h g;
  text = λ n. let no : true ≡ false = sym (in_head old new bytes nothing b (Whole line) h g n) ∙ g.1.1 in absurd (cc);
  head = λ n. let no : true ≡ false = sym (in_head old new bytes nothing b (Whole line) h g n) ∙ g.1.1 in absurd (cc);
  fits = refl;
}
stands old new bytes (headed v o p lines) b (Whole line) h g = record {
  standing = next_is old new bytes (headed v o p lines) b (Whole line) h g;
  text = λ n.
      with_byte old new bytes (headed v o p lines) b (Whole line) h g n
      ∙ ap (λ (l : List ℕ). told_text (headed v o p lines) ++ l) (sym g.1.4)
      ∙ append_assoc (version_text v ++ outcome_text o p) (flat_map line_text lines) (line_text line)
      ∙ ap (λ (l : List ℕ). version_text v ++ outcome_text o p ++ l) (sym (one_more lines line))
      ∙ sym (append-nil (told_text (headed v o p (lines ++ line ∷ []))))
      ∙ ap (λ (l : List ℕ). told_text (headed v o p (lines ++ line ∷ [])) ++ l) (sym g.1.3);
  head = λ n. g.1.2;
  fits = with_line o p lines line h.fits g.1.5;
}
stands old new bytes told b TooDeep h g = record {
  standing = next_is old new bytes told b TooDeep h g;
  text = λ n. absurd (stops_not new.standing g.1 n);
  head = λ n. absurd (stops_not new.standing g.1 n);
  fits = h.fits;
}
stands old new bytes told b Bad h g = record {
  standing = next_is old new bytes told b Bad h g;
  text = λ n. absurd (fails_not new.standing g.1 n);
  head = λ n. absurd (fails_not new.standing g.1 n);
  fits = h.fits;
}

pub begins_of : (s : Standing) (bytes : List ℕ) → IsGoing s → Tells s bytes → BeginsText 1000 bytes
begins_of (owing owed) bytes n h = h.begins
begins_of too_deep bytes n h = absurd (stops_not too_deep refl n)
begins_of no_text bytes n h = absurd (fails_not no_text refl n)

begins : (old new : Reading) (bytes : List ℕ) (told : Told) (b : ℕ) (read : Read) → StandsFor old bytes told → GoesOn old b new read → IsGoing new.standing → BeginsText 1000 (bytes ++ b ∷ [])
begins old new bytes told b read h g n =
    let e = next_is old new bytes told b read h g in
    begins_of (standing (bytes ++ b ∷ [])) (bytes ++ b ∷ []) (subst IsGoing (sym e) n) (tells (bytes ++ b ∷ []))

-- a front of what begins a text begins it
pub front_begins : (limit at : ℕ) (bytes : List ℕ) → BeginsText limit bytes → BeginsText limit (take at bytes)
front_begins limit at bytes h =
    let all : bytes ++ h.0 ≡ take at bytes ++ (drop at bytes ++ h.0) = ap (λ (l : List ℕ). l ++ h.0) (sym (take-append-drop at bytes)) ∙ append_assoc (take at bytes) (drop at bytes) h.0 in
    (drop at bytes ++ h.0, subst (IsText limit) all h.1)

within_front : (at : ℕ) (bytes : List ℕ) (b : ℕ) → at < length bytes → take (at + 1) (bytes ++ b ∷ []) ≡ take (at + 1) bytes
within_front at bytes b h = take-append-le (at + 1) bytes (b ∷ []) (omega arith)

place_is : (at : ℕ) (bytes : List ℕ) (b : ℕ) → at < length (bytes ++ b ∷ []) → (at < length bytes → ⊥) → at ≡ length bytes
place_is at bytes b h g =
    let l = length-append bytes (b ∷ []) in
    omega (arith, l, h, g)

last_deep : (bytes : List ℕ) (b : ℕ) → ((at : ℕ) × (at < length (bytes ++ b ∷ [])) × IsTooDeep at (bytes ++ b ∷ [])) → HasStopped IsTooDeep bytes b
last_deep bytes b h = record {
  at = h.0;
  within = (let l = length-append bytes (b ∷ []) in let k = h.1 in omega arith);
  is = h.2;
  here = λ t. place_is h.0 bytes b h.1 (λ k. h.2.deeper (subst (BeginsText 1000) (sym (within_front h.0 bytes b k)) (front_begins 1000 (h.0 + 1) bytes t)));
}

last_bad : (bytes : List ℕ) (b : ℕ) → ((at : ℕ) × (at < length (bytes ++ b ∷ [])) × IsNotACertificate at (bytes ++ b ∷ [])) → HasStopped IsNotACertificate bytes b
last_bad bytes b h = record {
  at = h.0;
  within = (let l = length-append bytes (b ∷ []) in let k = h.1 in omega arith);
  is = h.2;
  here = λ t. place_is h.0 bytes b h.1 (λ k. h.2.here h.1 1000 (subst (BeginsText 1000) (sym (within_front h.0 bytes b k)) (front_begins 1000 (h.0 + 1) bytes t)));
}

-- the answer is right
pub says : (old new : Reading) (bytes : List ℕ) (told : Told) (b : ℕ) (read : Read) → StandsFor old bytes told → GoesOn old b new read → Says bytes told b read
says old new bytes told b Within h g =
    let n = g.1.0 in (
      begins old new bytes told b Within h g n,
      λ e.
          let f = g.1.3 e in
          let none = is_told_nothing told (sym (in_head old new bytes told b Within h g n) ∙ sym g.1.1 ∙ f.0) in
          (none, f.1, with_byte old new bytes told b Within h g n ∙ ap (λ (t : Told). told_text t ++ (old.unfinished ++ b ∷ [])) none ∙ sym g.1.2 ∙ f.2),
    )
says old new bytes told b (Head v o p) h g =
    let n = g.1.0 in
    let none = is_told_nothing told (sym (in_head old new bytes told b (Head v o p) h g n) ∙ g.1.1) in
    (begins old new bytes told b (Head v o p) h g n, none, with_byte old new bytes told b (Head v o p) h g n ∙ ap (λ (t : Told). told_text t ++ (old.unfinished ++ b ∷ [])) none ∙ sym g.1.4, g.1.5)
says old new bytes told b (Whole line) h g =
    let n = g.1.0 in
    (begins old new bytes told b (Whole line) h g n, sym (in_head old new bytes told b (Whole line) h g n) ∙ g.1.1, with_byte old new bytes told b (Whole line) h g n ∙ ap (λ (l : List ℕ). told_text told ++ l) (sym g.1.4), g.1.5)
says old new bytes told b TooDeep h g =
    last_deep bytes b (subst (λ (s : Standing). Tells s (bytes ++ b ∷ [])) (next_is old new bytes told b TooDeep h g ∙ g.1) (tells (bytes ++ b ∷ [])))
says old new bytes told b Bad h g =
    last_bad bytes b (subst (λ (s : Standing). Tells s (bytes ++ b ∷ [])) (next_is old new bytes told b Bad h g ∙ g.1) (tells (bytes ++ b ∷ [])))

not_deep : (bytes : List ℕ) → ((at : ℕ) × (at < length bytes) × IsTooDeep at bytes) → IsText 1000 bytes → ⊥
not_deep bytes h t = h.2.deeper (front_begins 1000 (h.0 + 1) bytes ([], subst (IsText 1000) (sym (append-nil bytes)) t))

not_bad : (bytes : List ℕ) → ((at : ℕ) × (at < length bytes) × IsNotACertificate at bytes) → IsText 1000 bytes → ⊥
not_bad bytes h t = h.2.here h.1 1000 (front_begins 1000 (h.0 + 1) bytes ([], subst (IsText 1000) (sym (append-nil bytes)) t))

-- a text is whole where nothing is owed
pub text_by : (s : Standing) (bytes : List ℕ) → Tells s bytes → (s ≡ owing [] → IsText 1000 bytes) × (IsText 1000 bytes → s ≡ owing [])
text_by (owing owed) bytes h = (λ e. h.ended (cc), λ t. ap owing (h.unended t))
text_by too_deep bytes h = (λ e. absurd (cc), λ t. absurd (not_deep bytes h t))
text_by no_text bytes h = (λ e. absurd (cc), λ t. absurd (not_bad bytes h t))

pub ended : (r : Reading) (answer : Bool) → IsTrue answer ↔ (r.standing ≡ owing []) → (bytes : List ℕ) (told : Told) → StandsFor r bytes told → IsTrue answer ↔ IsText 1000 bytes
ended r answer h bytes told f =
    let p = text_by (standing bytes) bytes (tells bytes) in
    (λ t. p.0 (f.standing ∙ h.0 t), λ t. h.1 (sym f.standing ∙ p.1 t))

-- for the reading behind a value
pub stands_for : (old given new : Reading) (b : ℕ) (read : Read) → given ≡ old → GoesOn given b new read → (bytes : List ℕ) (told : Told) → StandsFor old bytes told → StandsFor new (bytes ++ b ∷ []) (tell told read)
stands_for old given new b read e g bytes told h = stands given new bytes told b read (subst (λ (r : Reading). StandsFor r bytes told) (sym e) h) g

pub says_for : (old given new : Reading) (b : ℕ) (read : Read) → given ≡ old → GoesOn given b new read → (bytes : List ℕ) (told : Told) → StandsFor old bytes told → Says bytes told b read
says_for old given new b read e g bytes told h = says given new bytes told b read (subst (λ (r : Reading). StandsFor r bytes told) (sym e) h) g

pub ended_for : (old given : Reading) (answer : Bool) → given ≡ old → IsTrue answer ↔ (given.standing ≡ owing []) → (bytes : List ℕ) (told : Told) → StandsFor old bytes told → IsTrue answer ↔ IsText 1000 bytes
ended_for old given answer e h bytes told f = ended given answer h bytes told (subst (λ (r : Reading). StandsFor r bytes told) (sym e) f)

-- the same of a whole line

pub standing_after : (g : Standing) (bytes more : List ℕ) → standing_from g (bytes ++ more) ≡ standing_from (standing_from g bytes) more
standing_after g [] more = refl
standing_after g (b ∷ bytes) more = standing_after (next_standing g b) bytes more

line_is : (old new : Reading) (before : List ℕ) (told : Told) (line : Line) → StandsFor old before told → GoesOnLine old line new → standing (before ++ line_text line) ≡ new.standing
line_is old new before told line h g = standing_after (owing start) before (line_text line) ∙ ap (λ (s : Standing). standing_from s (line_text line)) h.standing ∙ sym g.0

with_whole : (old new : Reading) (before : List ℕ) (told : Told) (line : Line) → StandsFor old before told → GoesOnLine old line new → before ++ line_text line ≡ told_text told ++ line_text line
with_whole old new before told line h g = ap (λ (l : List ℕ). l ++ line_text line) (h.text g.1 ∙ ap (λ (l : List ℕ). told_text told ++ l) g.5 ∙ append-nil (told_text told))

line_stands : (old new : Reading) (before : List ℕ) (told : Told) (line : Line) → StandsFor old before told → GoesOnLine old line new → StandsFor new (before ++ line_text line) (tell told (Whole line))
line_stands old new before nothing line h g = let no : true ≡ false = sym (h.head g.1) ∙ g.3 in absurd (cc)
line_stands old new before (headed v o p lines) line h g = record {
  standing = line_is old new before (headed v o p lines) line h g;
  text = λ n.
      with_whole old new before (headed v o p lines) line h g
      ∙ append_assoc (version_text v ++ outcome_text o p) (flat_map line_text lines) (line_text line)
      ∙ ap (λ (l : List ℕ). version_text v ++ outcome_text o p ++ l) (sym (one_more lines line))
      ∙ sym (append-nil (told_text (headed v o p (lines ++ line ∷ []))))
      ∙ ap (λ (l : List ℕ). told_text (headed v o p (lines ++ line ∷ [])) ++ l) (sym g.6);
  head = λ n. g.4;
  fits = with_line o p lines line h.fits g.7;
}

line_says : (old new : Reading) (before : List ℕ) (told : Told) (line : Line) → StandsFor old before told → GoesOnLine old line new → SaysLine before told (line_text line) line
line_says old new before told line h g =
    let e = line_is old new before told line h g in
    let bytes = before ++ line_text line in (
      begins_of (standing bytes) bytes (subst IsGoing (sym e) g.2) (tells bytes),
      sym (h.head g.1) ∙ g.3,
      with_whole old new before told line h g,
      g.7,
    )

pub line_stands_for : (old given new : Reading) (piece : List ℕ) (line : Line) → given ≡ old → piece ≡ line_text line → GoesOnLine given line new → (before : List ℕ) (told : Told) → StandsFor old before told → StandsFor new (before ++ piece) (tell told (Whole line))
line_stands_for old given new piece line e f g before told h =
    subst (λ (l : List ℕ). StandsFor new (before ++ l) (tell told (Whole line))) (sym f) (line_stands given new before told line (subst (λ (r : Reading). StandsFor r before told) (sym e) h) g)

pub line_says_for : (old given new : Reading) (piece : List ℕ) (line : Line) → given ≡ old → piece ≡ line_text line → GoesOnLine given line new → (before : List ℕ) (told : Told) → StandsFor old before told → SaysLine before told piece line
line_says_for old given new piece line e f g before told h =
    subst (λ (l : List ℕ). SaysLine before told l line) (sym f) (line_says given new before told line (subst (λ (r : Reading). StandsFor r before told) (sym e) h) g)
