-- A byte has one answer.
use Rattle.std.proofs.Common.{◌≡◌, refl, sym, ap, ◌∙◌, ℕ, ◌+◌, List, [], ◌∷◌, ◌++◌, true, false, arith, append_assoc, length-append, subst, ◌<◌, length}
use Rattle.std.specs.Prelude.{Option, Some, None, ℤ, codes, slice_index, take, ◌⊎◌}
use Rattle.std.specs.Fmt.{decimal, signed_decimal}
use Rattle.std.proofs.lemmas.List.{append-nil, append_cancel_left, take-append-le, get_or_append_left}
use Rattle.proof_tree.specs.declared.line.Line.{Line}
use Rattle.proof_tree.specs.declared.line.Line.TheVariants.{Horizon, Prune, Bound, Dot, Stuck, Goal, Empty, Barred, Next, Branch, Skip, Open as OpenLine, Range}
use Rattle.proof_tree.specs.declared.tree.Version.{Version}
use Rattle.proof_tree.specs.declared.tree.Outcome.{Outcome}
use Rattle.proof_tree.specs.declared.tree.Outcome.TheVariants.{True, False, Open}
use Rattle.proof_tree.specs.Text.{version_text, outcome_text, line_text, place_text, range_text}
use Rattle.proof_text.specs.declared.answer.Read.{Read}
use Rattle.proof_text.specs.declared.answer.Read.TheVariants.{Within, Head, Whole, TooDeep, Bad}
use Rattle.proof_text.specs.declared.fault.CertFault.TheVariants.{NotACertificate, TooDeep as DeepFault}
use Rattle.proof_text.specs.Places.{BeginsText, IsNotACertificate, IsTooDeep}
use Rattle.proof_text.specs.Answers.{Told, nothing, told_text, is_nothing, HasStopped, Says}
use Rattle.proof_text.specs.Laws.{IsStop}
use Rattle.proof_text.proofs.EachText.{one_of_faults}
use Rattle.proof_text.proofs.Saying.{front_begins}
use Rattle.proof_text.proofs.UniqueLines.{line_one}
use Rattle.proof_text.proofs.UniqueTrees.{digit_one, outcome_one}

nil_not : (ys : List ℕ) (b : ℕ) → [] ≡ ys ++ b ∷ [] → ⊥
nil_not [] b h = absurd (cc)
nil_not (y ∷ ys) b h = absurd (cc)

last_one : (xs ys : List ℕ) (a b : ℕ) → xs ++ a ∷ [] ≡ ys ++ b ∷ [] → a ≡ b
last_one [] [] a b h = cc
last_one [] (y ∷ ys) a b h =
    let rest : [] ≡ ys ++ b ∷ [] = cc in
    absurd (nil_not ys b rest)
last_one (x ∷ xs) [] a b h =
    let rest : [] ≡ xs ++ a ∷ [] = cc in
    absurd (nil_not xs a rest)
last_one (x ∷ xs) (y ∷ ys) a b h =
    let rest : xs ++ a ∷ [] ≡ ys ++ b ∷ [] = cc in
    last_one xs ys a b rest

-- each line ends with a line feed
line_ends : (l : Line) → (u : List ℕ) × (line_text l ≡ u ++ 10 ∷ [])
line_ends (Horizon k) = (codes "h " ++ decimal k, refl)
line_ends (Prune x low high c) = (codes "p " ++ place_text x.0 ++ codes " " ++ range_text low high ++ codes " " ++ place_text c.0, refl)
line_ends (Bound x low high) = (codes "b " ++ place_text x.0 ++ codes " " ++ range_text low high, refl)
line_ends Dot = (46 ∷ [], refl)
line_ends Stuck = (116 ∷ [], refl)
line_ends Goal = (103 ∷ [], refl)
line_ends Empty = (101 ∷ [], refl)
line_ends Barred = (120 ∷ [], refl)
line_ends Next = (110 ∷ [], refl)
line_ends (Branch x) = (codes "v " ++ place_text x.0, refl)
line_ends Skip = (115 ∷ [], refl)
line_ends OpenLine = (111 ∷ [], refl)
line_ends (Range high) = (codes "r " ++ signed_decimal high, refl)

outcome_ends : (o : Outcome) (p : Option ℤ) → (u : List ℕ) × (outcome_text o p ≡ u ++ 10 ∷ [])
outcome_ends True None = (116 ∷ 114 ∷ 117 ∷ 101 ∷ [], refl)
outcome_ends True (Some v) = (codes "true " ++ signed_decimal v, refl)
outcome_ends False v = (102 ∷ 97 ∷ 108 ∷ 115 ∷ 101 ∷ [], refl)
outcome_ends (Open n) v = (codes "open " ++ decimal n, refl)

feed_last : (bytes before text : List ℕ) (b : ℕ) → ((u : List ℕ) × (text ≡ u ++ 10 ∷ [])) → bytes ++ b ∷ [] ≡ before ++ text → b ≡ 10
feed_last bytes before text b h e = last_one bytes (before ++ h.0) b 10 (e ∙ ap (λ (l : List ℕ). before ++ l) h.1 ∙ sym (append_assoc before h.0 (10 ∷ [])))

outcome_some : (o : Outcome) (p : Option ℤ) → [] ≡ outcome_text o p → ⊥
outcome_some o p h =
    let u = outcome_ends o p in
    nil_not u.0 10 (h ∙ u.1)

nothing_not : (told : Told) → told ≡ nothing → is_nothing told ≡ false → ⊥
nothing_not told e f =
    let both : true ≡ false = sym (ap is_nothing e) ∙ f in
    absurd (cc)

goes_not_deep : (bytes : List ℕ) (b : ℕ) → BeginsText 1000 (bytes ++ b ∷ []) → HasStopped IsTooDeep bytes b → ⊥
goes_not_deep bytes b t h = h.is.deeper (front_begins 1000 (h.at + 1) (bytes ++ b ∷ []) t)

goes_not_bad : (bytes : List ℕ) (b : ℕ) → BeginsText 1000 (bytes ++ b ∷ []) → HasStopped IsNotACertificate bytes b → ⊥
goes_not_bad bytes b t h =
    let l = length-append bytes (b ∷ []) in
    let k = h.within in
    h.is.here (omega arith) 1000 (front_begins 1000 (h.at + 1) (bytes ++ b ∷ []) t)

deep_not_bad : (bytes : List ℕ) (b : ℕ) → HasStopped IsTooDeep bytes b → HasStopped IsNotACertificate bytes b → ⊥
deep_not_bad bytes b h g =
    let one : DeepFault h.at ≡ NotACertificate g.at = one_of_faults (bytes ++ b ∷ []) (DeepFault h.at) (NotACertificate g.at) (h.is, λ w. w) (g.is, λ w. w) in
    absurd (cc)

within_not_head : (bytes : List ℕ) (told : Told) (b : ℕ) (v : Version) (o : Outcome) (p : Option ℤ) → Says bytes told b Within → Says bytes told b (Head v o p) → ⊥
within_not_head bytes told b v o p w h =
    let first = w.1 (feed_last bytes (version_text v) (outcome_text o p) b (outcome_ends o p) h.2) in
    let d = digit_one first.1 v [] (outcome_text o p) (append-nil (version_text first.1) ∙ sym first.2 ∙ h.2) in
    outcome_some o p d.1

within_not_whole : (bytes : List ℕ) (told : Told) (b : ℕ) (l : Line) → Says bytes told b Within → Says bytes told b (Whole l) → ⊥
within_not_whole bytes told b l w h = nothing_not told (w.1 (feed_last bytes (told_text told) (line_text l) b (line_ends l) h.2)).0 h.1

heads_one : (bytes : List ℕ) (told : Told) (b : ℕ) (v w : Version) (o q : Outcome) (p r : Option ℤ) → Says bytes told b (Head v o p) → Says bytes told b (Head w q r) → Head v o p ≡ Head w q r
heads_one bytes told b v w o q p r h g =
    let d = digit_one v w (outcome_text o p) (outcome_text q r) (sym h.2 ∙ g.2) in
    let s = outcome_one o q p r [] [] h.3 g.3 (append-nil (outcome_text o p) ∙ d.1 ∙ sym (append-nil (outcome_text q r))) in
    let version = d.0 in
    let outcome = s.outcome in
    let optimum = s.optimum in
    cc

wholes_one : (bytes : List ℕ) (told : Told) (b : ℕ) (l m : Line) → Says bytes told b (Whole l) → Says bytes told b (Whole m) → Whole l ≡ Whole m
wholes_one bytes told b l m h g =
    let same = append_cancel_left (told_text told) (line_text l) (line_text m) (sym h.2 ∙ g.2) in
    ap Whole (line_one l m [] [] h.3 g.3 (append-nil (line_text l) ∙ same ∙ sym (append-nil (line_text m)))).0

pub one_answer : (bytes : List ℕ) (told : Told) (b : ℕ) (x y : Read) → Says bytes told b x → Says bytes told b y → x ≡ y
one_answer bytes told b Within Within h g = refl
one_answer bytes told b Within (Head v o p) h g = absurd (within_not_head bytes told b v o p h g)
one_answer bytes told b Within (Whole l) h g = absurd (within_not_whole bytes told b l h g)
one_answer bytes told b Within TooDeep h g = absurd (goes_not_deep bytes b h.0 g)
one_answer bytes told b Within Bad h g = absurd (goes_not_bad bytes b h.0 g)
one_answer bytes told b (Head v o p) Within h g = absurd (within_not_head bytes told b v o p g h)
one_answer bytes told b (Head v o p) (Head w q r) h g = heads_one bytes told b v w o q p r h g
one_answer bytes told b (Head v o p) (Whole l) h g = absurd (nothing_not told h.1 g.1)
one_answer bytes told b (Head v o p) TooDeep h g = absurd (goes_not_deep bytes b h.0 g)
one_answer bytes told b (Head v o p) Bad h g = absurd (goes_not_bad bytes b h.0 g)
one_answer bytes told b (Whole l) Within h g = absurd (within_not_whole bytes told b l g h)
one_answer bytes told b (Whole l) (Head v o p) h g = absurd (nothing_not told g.1 h.1)
one_answer bytes told b (Whole l) (Whole m) h g = wholes_one bytes told b l m h g
one_answer bytes told b (Whole l) TooDeep h g = absurd (goes_not_deep bytes b h.0 g)
one_answer bytes told b (Whole l) Bad h g = absurd (goes_not_bad bytes b h.0 g)
one_answer bytes told b TooDeep Within h g = absurd (goes_not_deep bytes b g.0 h)
one_answer bytes told b TooDeep (Head v o p) h g = absurd (goes_not_deep bytes b g.0 h)
one_answer bytes told b TooDeep (Whole l) h g = absurd (goes_not_deep bytes b g.0 h)
one_answer bytes told b TooDeep TooDeep h g = refl
one_answer bytes told b TooDeep Bad h g = absurd (deep_not_bad bytes b h g)
one_answer bytes told b Bad Within h g = absurd (goes_not_bad bytes b g.0 h)
one_answer bytes told b Bad (Head v o p) h g = absurd (goes_not_bad bytes b g.0 h)
one_answer bytes told b Bad (Whole l) h g = absurd (goes_not_bad bytes b g.0 h)
one_answer bytes told b Bad TooDeep h g = absurd (deep_not_bad bytes b g h)
one_answer bytes told b Bad Bad h g = refl

-- the bytes up to a place, and with it, are the same with one byte more
same_before : (at : ℕ) (bytes : List ℕ) (c : ℕ) → at < length bytes → take at (bytes ++ c ∷ []) ≡ take at bytes
same_before at bytes c h = take-append-le at bytes (c ∷ []) (omega arith)

same_with : (at : ℕ) (bytes : List ℕ) (c : ℕ) → at < length bytes → take (at + 1) (bytes ++ c ∷ []) ≡ take (at + 1) bytes
same_with at bytes c h = take-append-le (at + 1) bytes (c ∷ []) (omega arith)

longer : (at : ℕ) (bytes : List ℕ) (c : ℕ) → at < length bytes → at < length (bytes ++ c ∷ [])
longer at bytes c h =
    let l = length-append bytes (c ∷ []) in
    omega arith

stays_deep : (at : ℕ) (bytes : List ℕ) (c : ℕ) → IsTooDeep at bytes → IsTooDeep at (bytes ++ c ∷ [])
stays_deep at bytes c h =
    let same : slice_index (bytes ++ c ∷ []) at ≡ slice_index bytes at = get_or_append_left bytes (c ∷ []) 0 at h.within in
    record {
      within = longer at bytes c h.within;
      before = subst (BeginsText 1000) (sym (same_before at bytes c h.within)) h.before;
      opens = subst (BeginsText 1001) (sym (same_with at bytes c h.within)) h.opens;
      deeper = λ t. h.deeper (subst (BeginsText 1000) (same_with at bytes c h.within) t);
      letter = subst (λ (n : ℕ). (n ≡ 118) ⊎ (n ≡ 110)) (sym same) h.letter;
    }

stays_bad : (at : ℕ) (bytes : List ℕ) (c : ℕ) → at < length bytes → IsNotACertificate at bytes → IsNotACertificate at (bytes ++ c ∷ [])
stays_bad at bytes c l h =
    let far = longer at bytes c l in
    record {
      within = omega arith;
      before = subst (BeginsText 1000) (sym (same_before at bytes c l)) h.before;
      here = λ m limit t. h.here l limit (subst (BeginsText limit) (same_with at bytes c l) t);
      unfinished = λ e. absurd (omega arith);
    }

deep_again : (bytes : List ℕ) (b c : ℕ) → HasStopped IsTooDeep bytes b → HasStopped IsTooDeep (bytes ++ b ∷ []) c
deep_again bytes b c h =
    let l = h.is.within in
    record {
      at = h.at;
      within = omega arith;
      is = stays_deep h.at (bytes ++ b ∷ []) c h.is;
      here = λ t. absurd (goes_not_deep bytes b t h);
    }

bad_again : (bytes : List ℕ) (b c : ℕ) → HasStopped IsNotACertificate bytes b → HasStopped IsNotACertificate (bytes ++ b ∷ []) c
bad_again bytes b c h =
    let k = length-append bytes (b ∷ []) in
    let w = h.within in
    let l : h.at < length (bytes ++ b ∷ []) = omega arith in
    record {
      at = h.at;
      within = omega arith;
      is = stays_bad h.at (bytes ++ b ∷ []) c l h.is;
      here = λ t. absurd (goes_not_bad bytes b t h);
    }

pub stays_stopped : (bytes : List ℕ) (told later : Told) (b c : ℕ) (x y : Read) → IsStop x → Says bytes told b x → Says (bytes ++ b ∷ []) later c y → y ≡ x
stays_stopped bytes told later b c Within y s h g = absurd (s)
stays_stopped bytes told later b c (Head v o p) y s h g = absurd (s)
stays_stopped bytes told later b c (Whole l) y s h g = absurd (s)
stays_stopped bytes told later b c TooDeep y s h g = one_answer (bytes ++ b ∷ []) later c y TooDeep g (deep_again bytes b c h)
stays_stopped bytes told later b c Bad y s h g = one_answer (bytes ++ b ∷ []) later c y Bad g (bad_again bytes b c h)
