-- What goes on as bytes do.
use Rattle.std.proofs.Common.{◌≡◌, refl, sym, ap, ◌∙◌, subst, ℕ, ◌+◌, ◌<◌, List, [], ◌∷◌, ◌++◌, length, take, drop, get_or, append_assoc, arith}
use Rattle.std.proofs.lemmas.List.{append_cancel_left, take-append-drop, drop_more}
use Rattle.best_text.specs.Stuck.{BeginAlike, IsStuck, IsWord}

-- only the first byte counts
alike_at : (x : ℕ) (u v tail : List ℕ) → BeginAlike (x ∷ u) tail → BeginAlike (x ∷ v) tail
alike_at x u v [] h = h
alike_at x u v (c ∷ cs) h = h

-- bytes that differ from a word, or end, after so many of its letters
pub word_stuck : (wanted bytes tail : List ℕ) (i : ℕ) → i < length wanted → take i wanted ++ tail ≡ bytes → (BeginAlike (get_or wanted i 0 ∷ []) tail → ⊥) → IsStuck (IsWord wanted) bytes (length tail)
word_stuck wanted bytes tail i lt e differs = record {
  front = take i wanted;
  tail = tail;
  whole = sym e;
  many = refl;
  begins = (drop i wanted, take-append-drop i wanted);
  here = λ text u more is agrees alike.
      let same : take i wanted ++ u ≡ take i wanted ++ (drop i wanted ++ more) =
      agrees ∙ ap (λ (t : List ℕ). t ++ more) (is ∙ sym (take-append-drop i wanted)) ∙ append_assoc (take i wanted) (drop i wanted) more in
      let rest_is : u ≡ drop i wanted ++ more = append_cancel_left (take i wanted) u (drop i wanted ++ more) same in
      let first : u ≡ get_or wanted i 0 ∷ (drop (i + 1) wanted ++ more) = rest_is ∙ ap (λ (t : List ℕ). t ++ more) (drop_more wanted i 0 lt) in
      differs (alike_at (get_or wanted i 0) (drop (i + 1) wanted ++ more) [] tail (subst (λ (w : List ℕ). BeginAlike w tail) first alike));
}

pub differs : (x c : ℕ) (tail more : List ℕ) → tail ≡ c ∷ more → (c ≡ x → ⊥) → BeginAlike (x ∷ []) tail → ⊥
differs x c tail more is ne h = ne (sym (subst (λ (w : List ℕ). BeginAlike (x ∷ []) w) is h))

pub ended : (x : ℕ) (tail : List ℕ) → tail ≡ [] → BeginAlike (x ∷ []) tail → ⊥
ended x tail is h = subst (λ (w : List ℕ). BeginAlike (x ∷ []) w) is h

-- the first byte of bytes is that of all that goes on as they do
pub first_stays : (bytes front tail u r : List ℕ) (c : ℕ) → bytes ≡ front ++ tail → bytes ≡ c ∷ r → BeginAlike u tail → (w : List ℕ) × (front ++ u ≡ c ∷ w)
first_stays bytes [] [] u r c e f h = let no : [] ≡ c ∷ r = sym e ∙ f in absurd (cc)
first_stays bytes [] (d ∷ tail) [] r c e f h = absurd h
first_stays bytes [] (d ∷ tail) (b ∷ u) r c e f h = let same : d ∷ tail ≡ c ∷ r = sym e ∙ f in let head : d ≡ c = cc in (u, ap (λ (x : ℕ). x ∷ u) (h ∙ head))
first_stays bytes (d ∷ front) tail u r c e f h = let same : d ∷ (front ++ tail) ≡ c ∷ r = sym e ∙ f in let head : d ≡ c = cc in (front ++ u, ap (λ (x : ℕ). x ∷ (front ++ u)) head)

-- the bytes end within a word, or differ from it
pub word_ended : (wanted bytes tail : List ℕ) (i : ℕ) → i < length wanted → take i wanted ++ tail ≡ bytes → tail ≡ [] → IsStuck (IsWord wanted) bytes 0
word_ended wanted bytes tail i lt e is = subst (IsStuck (IsWord wanted) bytes) (ap length is) (word_stuck wanted bytes tail i lt e (ended (get_or wanted i 0) tail is))

pub word_differs : (wanted bytes tail more : List ℕ) (i c : ℕ) → i < length wanted → take i wanted ++ tail ≡ bytes → tail ≡ c ∷ more → (c ≡ get_or wanted i 0 → ⊥) → IsStuck (IsWord wanted) bytes (length tail)
word_differs wanted bytes tail more i c lt e is ne = word_stuck wanted bytes tail i lt e (differs (get_or wanted i 0) c tail more is ne)

pub byte_ended : (wanted : ℕ) (bytes : List ℕ) → bytes ≡ [] → IsStuck (IsWord (wanted ∷ [])) bytes 0
byte_ended wanted bytes is = word_ended (wanted ∷ []) bytes bytes 0 (omega arith) refl is

pub byte_differs : (wanted c : ℕ) (bytes more : List ℕ) → bytes ≡ c ∷ more → (c ≡ wanted → ⊥) → IsStuck (IsWord (wanted ∷ [])) bytes (length bytes)
byte_differs wanted c bytes more is ne = word_differs (wanted ∷ []) bytes bytes more 0 c (omega arith) refl is ne
