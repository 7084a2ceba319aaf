-- A text that goes to a sink part by part, behind the bytes that are held.
use Rattle.std.proofs.Common.{◌≡◌, ◌<◌, ◌+◌, length, take, drop, get_or, ◌∙◌, sym, ap, subst, [], ℕ, List, ◌∷◌, ◌++◌, append_assoc, append-nil, Option, flat_map}
use Rattle.std.proofs.lemmas.Grind.{flat_map-append}
use Rattle.std.proofs.lemmas.List.{take_more, drop_more, take-append-drop}
use Rattle.std.specs.Io.KnownBytes.{Appends}
use Rattle.qc_io.specs.Sink.{AppendsPrefix, Moves}
use Rattle.qc_io.proofs.Known.{Appends-append, moves_then, prefix_then, prefix_of}

-- a fault at the first part of a text
pub first_fails : (a b : Option (List ℕ)) (held x y : List ℕ) → AppendsPrefix a b (held ++ x) → AppendsPrefix a b (held ++ (x ++ y))
first_fails a b held x y p = subst (AppendsPrefix a b) (append_assoc held x y) (prefix_of a b (held ++ x) y p)

-- both parts
pub both_put : (a b c : Option (List ℕ)) (held x middle y z last : List ℕ) → Moves a b middle (held ++ x) → y ≡ z → Moves b c last (middle ++ y) → Moves a c last (held ++ (x ++ z))
both_put a b c held x middle y z last p e q =
    subst (Moves a c last) (append_assoc held x z) (moves_then a b c (held ++ x) middle z last p (subst (λ bs. Moves b c last (middle ++ bs)) e q))

-- a fault at the second part
pub second_fails : (a b c : Option (List ℕ)) (held x middle y z : List ℕ) → Moves a b middle (held ++ x) → y ≡ z → AppendsPrefix b c (middle ++ y) → AppendsPrefix a c (held ++ (x ++ z))
second_fails a b c held x middle y z p e q =
    subst (AppendsPrefix a c) (append_assoc held x z) (prefix_then a b c (held ++ x) middle z p (subst (λ bs. AppendsPrefix b c (middle ++ bs)) e q))

-- the bytes that are held at the end are written
pub held_written : (a b c : Option (List ℕ)) (held all : List ℕ) → Moves a b held all → Appends b c held → Appends a c all
held_written a b c held all (xs, first, e) p = subst (Appends a c) e (Appends-append a b c xs held first p)

pub held_fails : (a b c : Option (List ℕ)) (held all : List ℕ) → Moves a b held all → AppendsPrefix b c held → AppendsPrefix a c all
held_fails a b c held all p q =
    subst (AppendsPrefix a c) (append-nil all) (prefix_then a b c all held [] p (subst (AppendsPrefix b c) (sym (append-nil held)) q))

-- the text of the items so far, and of one more
one_more : {X : Type 0} (text : X → List ℕ) (xs : List X) (x : X) → flat_map text (xs ++ x ∷ []) ≡ flat_map text xs ++ text x
one_more text xs x = flat_map-append text xs (x ∷ []) ∙ ap (λ (l : List ℕ). flat_map text xs ++ l) (append-nil (text x))

-- a part behind the text of the items so far
one_put : {X : Type 0} (text : X → List ℕ) (a b c : Option (List ℕ)) (held middle last : List ℕ) (xs : List X) (x : X)
    → Moves a b middle (held ++ flat_map text xs) → Moves b c last (middle ++ text x) → Moves a c last (held ++ flat_map text (xs ++ x ∷ []))
one_put text a b c held middle last xs x p q =
    subst (λ (l : List ℕ). Moves a c last (held ++ l)) (sym (one_more text xs x))
    (subst (Moves a c last) (append_assoc held (flat_map text xs) (text x)) (moves_then a b c (held ++ flat_map text xs) middle (text x) last p q))

-- a fault at an item, where others are left
one_fails : {X : Type 0} (text : X → List ℕ) (a b c : Option (List ℕ)) (held middle : List ℕ) (xs : List X) (x : X) (rest all : List X)
    → Moves a b middle (held ++ flat_map text xs) → AppendsPrefix b c (middle ++ text x) → xs ++ x ∷ rest ≡ all → AppendsPrefix a c (held ++ flat_map text all)
one_fails text a b c held middle xs x rest all p q e =
    let sofar = prefix_then a b c (held ++ flat_map text xs) middle (text x) p q in
    let more = prefix_of a c ((held ++ flat_map text xs) ++ text x) (flat_map text rest) sofar in
    let whole : ((held ++ flat_map text xs) ++ text x) ++ flat_map text rest ≡ held ++ flat_map text all =
    append_assoc (held ++ flat_map text xs) (text x) (flat_map text rest)
    ∙ append_assoc held (flat_map text xs) (text x ++ flat_map text rest)
    ∙ ap (λ (l : List ℕ). held ++ l) (sym (flat_map-append text xs (x ∷ rest)) ∙ ap (λ l. flat_map text l) e) in
    subst (AppendsPrefix a c) whole more

-- the item at a place behind the text of those before it
pub next_put : {X : Type 0} (text : X → List ℕ) (a b c : Option (List ℕ)) (held middle last : List ℕ) (xs : List X) (k : ℕ) (d : X) → k < length xs
    → Moves a b middle (held ++ flat_map text (take k xs)) → Moves b c last (middle ++ text (get_or xs k d)) → Moves a c last (held ++ flat_map text (take (k + 1) xs))
next_put text a b c held middle last xs k d lt p q =
    subst (λ ys. Moves a c last (held ++ flat_map text ys)) (sym (take_more xs k d lt)) (one_put text a b c held middle last (take k xs) (get_or xs k d) p q)

-- a fault at it
pub next_fails : {X : Type 0} (text : X → List ℕ) (a b c : Option (List ℕ)) (held middle : List ℕ) (xs : List X) (k : ℕ) (d : X) → k < length xs
    → Moves a b middle (held ++ flat_map text (take k xs)) → AppendsPrefix b c (middle ++ text (get_or xs k d)) → AppendsPrefix a c (held ++ flat_map text xs)
next_fails text a b c held middle xs k d lt p q =
    one_fails text a b c held middle (take k xs) (get_or xs k d) (drop (k + 1) xs) xs p q (ap (λ ys. take k xs ++ ys) (sym (drop_more xs k d lt)) ∙ take-append-drop k xs)

-- a whole text, where none was held before
pub all_written : (a b c : Option (List ℕ)) (none held all : List ℕ) → none ≡ [] → Moves a b held (none ++ all) → Appends b c held → Appends a c all
all_written a b c none held all e p q = held_written a b c held all (subst (λ (l : List ℕ). Moves a b held (l ++ all)) e p) q

pub all_fails : (a b : Option (List ℕ)) (none all : List ℕ) → none ≡ [] → AppendsPrefix a b (none ++ all) → AppendsPrefix a b all
all_fails a b none all e p = subst (λ (l : List ℕ). AppendsPrefix a b (l ++ all)) e p

pub end_fails : (a b c : Option (List ℕ)) (none held all : List ℕ) → none ≡ [] → Moves a b held (none ++ all) → AppendsPrefix b c held → AppendsPrefix a c all
end_fails a b c none held all e p q = held_fails a b c held all (subst (λ (l : List ℕ). Moves a b held (l ++ all)) e p) q

-- the same text said in another way
pub moves_as : (a b : Option (List ℕ)) (held last x y : List ℕ) → x ≡ y → Moves a b last (held ++ x) → Moves a b last (held ++ y)
moves_as a b held last x y e p = subst (λ (l : List ℕ). Moves a b last (held ++ l)) e p

pub prefix_as : (a b : Option (List ℕ)) (held x y : List ℕ) → x ≡ y → AppendsPrefix a b (held ++ x) → AppendsPrefix a b (held ++ y)
prefix_as a b held x y e p = subst (λ (l : List ℕ). AppendsPrefix a b (held ++ l)) e p
