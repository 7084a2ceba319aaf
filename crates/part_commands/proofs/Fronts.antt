-- The keeps that words begin with, one by one.
use Rattle.std.proofs.Common.{◌≡◌, ◌∙◌, ◌≤◌, ◌<◌, ◌+◌, ◌-◌, ℕ, zero, suc, List, [], ◌∷◌, ◌++◌, length, drop, map, Option, Some, None, Bor, refl, sym, ap, arith, length-drop, take}
use Rattle.std.proofs.Math.Seq.{take_all}
use Rattle.std.proofs.lemmas.List.{map-append, drop-map, length-map}
use Rattle.part_commands.specs.declared.words.Kept.{Kept as KeptWords}
use Rattle.part_commands.specs.Words.{Kept, Asked, Tail, tail_asked, whole, put_before, rest_asked}
use Rattle.part_commands.specs.View.{kept_seen, keeps_seen, before_all, IsRange, AreRanges}

pub before_more : (keeps : List Kept) (kept : Kept) (asked : Option Asked) → before_all (keeps ++ kept ∷ []) asked ≡ before_all keeps (put_before (Some kept) asked)
before_more [] kept asked = refl
before_more (k ∷ keeps) kept asked = ap (put_before (Some k)) (before_more keeps kept asked)

pub ranges_more : (keeps : List KeptWords) (kept : KeptWords) → AreRanges keeps → IsRange kept → AreRanges (keeps ++ kept ∷ [])
ranges_more [] kept are is = (is, tt)
ranges_more (k ∷ keeps) kept are is = (are.0, ranges_more keeps kept are.1 is)

-- one keep more was read
pub front_more : (keeps : List KeptWords) (kept : KeptWords) (all now later : Option Asked)
    → all ≡ before_all (keeps_seen keeps) now → now ≡ put_before (Some (kept_seen kept)) later → all ≡ before_all (keeps_seen (keeps ++ kept ∷ [])) later
front_more keeps kept all now later e f =
    e ∙ ap (before_all (keeps_seen keeps)) f ∙ sym (before_more (keeps_seen keeps) (kept_seen kept) later)
    ∙ ap (λ ks. before_all ks later) (sym (map-append kept_seen keeps (kept ∷ [])))

-- where one keep isn't right, nothing is asked for
pub front_wrong : (keeps : List Kept) → None ≡ before_all keeps None
front_wrong [] = refl
front_wrong (k ∷ keeps) = ap (put_before (Some k)) (front_wrong keeps)

-- what is asked for with all keeps
pub before_whole : (keeps : List Kept) (name : List ℕ) (tail : Tail)
    → before_all keeps (whole name (Some tail)) ≡ Some (record { problem = name; keeps = keeps; reached = tail.reached; turns = tail.turns })
before_whole [] name tail = refl
before_whole (k ∷ keeps) name tail = ap (put_before (Some k)) (before_whole keeps name tail)

-- the words from a place on
pub rest_of : (k : ℕ) (ws : List (Bor (List ℕ))) → take (length ws - k) (drop k ws) ≡ drop k ws
rest_of k ws = take_all _ (drop k ws) (rw length-drop (omega arith))

-- four words on
drop_four : {A : Type 0} (k : ℕ) (xs : List A) → drop 4 (drop k xs) ≡ drop (k + 4) xs
drop_four zero xs = refl
drop_four (suc k) [] = let e : suc k + 4 ≡ suc (k + 4) = omega arith in rw e refl
drop_four (suc k) (x ∷ xs) = let e : suc k + 4 ≡ suc (k + 4) = omega arith in rw e (drop_four k xs)

pub four_on : (ws : List (Bor (List ℕ))) (k : ℕ) → drop 4 (map (λ w. w.now) (drop k ws)) ≡ map (λ w. w.now) (drop (k + 4) ws)
four_on ws k = drop-map (λ (w : Bor (List ℕ)). w.now) 4 (drop k ws) ∙ ap (λ l. map (λ w. w.now) l) (drop_four k ws)

pub four_within : (ws : List (Bor (List ℕ))) (k : ℕ) → 4 ≤ length (map (λ w. w.now) (drop k ws)) → k + 4 ≤ length ws
four_within ws k h =
    let same : length (map (λ w. w.now) (drop k ws)) ≡ length (drop k ws) = length-map (drop k ws) (λ w. w.now) in
    let left : length (drop k ws) ≡ length ws - k = length-drop k ws in
    omega arith

-- fewer than four words are no keep
pub few_words : (name : List ℕ) (ws : List (Bor (List ℕ))) → length ws ≤ 3 → rest_asked name (map (λ w. w.now) ws) ≡ whole name (tail_asked (map (λ w. w.now) ws))
few_words name [] h = refl
few_words name (a ∷ []) h = refl
few_words name (a ∷ b ∷ []) h = refl
few_words name (a ∷ b ∷ c ∷ []) h = refl
few_words name (a ∷ b ∷ c ∷ d ∷ ws) h = absurd (omega arith)

-- neither one word, nor three, nor more than four stand behind the keeps
pub one_word : (ws : List (Bor (List ℕ))) → 1 ≤ length ws → length ws < 2 → None ≡ tail_asked (map (λ w. w.now) ws)
one_word [] l h = absurd (omega arith)
one_word (a ∷ []) l h = refl
one_word (a ∷ b ∷ ws) l h = absurd (omega arith)

pub three_words : (ws : List (Bor (List ℕ))) → 3 ≤ length ws → length ws < 4 → None ≡ tail_asked (map (λ w. w.now) ws)
three_words [] l h = absurd (omega arith)
three_words (a ∷ []) l h = absurd (omega arith)
three_words (a ∷ b ∷ []) l h = absurd (omega arith)
three_words (a ∷ b ∷ c ∷ []) l h = refl
three_words (a ∷ b ∷ c ∷ d ∷ ws) l h = absurd (omega arith)

pub many_words : (ws : List (Bor (List ℕ))) → 5 ≤ length ws → None ≡ tail_asked (map (λ w. w.now) ws)
many_words [] h = absurd (omega arith)
many_words (a ∷ []) h = absurd (omega arith)
many_words (a ∷ b ∷ []) h = absurd (omega arith)
many_words (a ∷ b ∷ c ∷ []) h = absurd (omega arith)
many_words (a ∷ b ∷ c ∷ d ∷ []) h = absurd (omega arith)
many_words (a ∷ b ∷ c ∷ d ∷ e ∷ ws) h = refl
