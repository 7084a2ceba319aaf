-- The first word that passes, over lists of lists.
use Rattle.std.proofs.Common.{◌+◌, ◌<◌, length, get_or, drop, ◌≡◌, ◌∙◌, refl, sym, ap, ℕ, Bool, true, false, cond, List, [], ◌∷◌, ◌++◌, flat_map, find, Option, None, Some}
use Rattle.std.specs.Option.{option_map}
use Rattle.std.proofs.lemmas.List.{drop_more}
use Rattle.text_grammar.specs.declared.tree.Word.{Word}
use Rattle.text_resolve.specs.Names.{first_word}

abbrev or_later : Option ℕ → Option ℕ → Option ℕ
or_later None later = later
or_later (Some at) later = Some at

first_word-append : (p : Word → Bool) (ws vs : List Word) → first_word p (ws ++ vs) ≡ or_later (first_word p ws) (first_word p vs)
first_word-append p [] vs = refl
first_word-append p (w ∷ ws) vs =
    elim (p w) as (λ b. option_map (λ (x : Word). x.start) (cond b (Some w) (find p (ws ++ vs))) ≡ or_later (option_map (λ (x : Word). x.start) (cond b (Some w) (find p ws))) (first_word p vs))
    [ true ↦ refl | false ↦ first_word-append p ws vs ]

first_at : {A : Type 0} (p : Word → Bool) (uses : A → List Word) (xs : List A) (n : ℕ) (x : A) → n < length xs → x ≡ get_or xs n x → first_word p (flat_map uses (drop n xs)) ≡ or_later (first_word p (uses x)) (first_word p (flat_map uses (drop (n + 1) xs)))
first_at p uses xs n x h e =
    ap (λ ys. first_word p (flat_map uses ys)) (drop_more xs n x h ∙ ap (λ y. y ∷ drop (n + 1) xs) (sym e)) ∙ first_word-append p (uses x) (flat_map uses (drop (n + 1) xs))

-- the first word stands in the part at a place, and in none before it
pub found_at : {A : Type 0} (p : Word → Bool) (uses : A → List Word) (xs : List A) (n : ℕ) (x : A) (at : ℕ) (all : Option ℕ) → n < length xs → x ≡ get_or xs n x → Some at ≡ first_word p (uses x) → first_word p (flat_map uses (drop n xs)) ≡ all → Some at ≡ all
found_at p uses xs n x at all h e here before =
    ap (λ o. or_later o (first_word p (flat_map uses (drop (n + 1) xs)))) here ∙ sym (first_at p uses xs n x h e) ∙ before

-- it doesn't stand in that part either
pub not_found_at : {A : Type 0} (p : Word → Bool) (uses : A → List Word) (xs : List A) (n : ℕ) (x : A) (all : Option ℕ) → n < length xs → x ≡ get_or xs n x → None ≡ first_word p (uses x) → first_word p (flat_map uses (drop n xs)) ≡ all → first_word p (flat_map uses (drop (n + 1) xs)) ≡ all
not_found_at p uses xs n x all h e here before =
    ap (λ o. or_later o (first_word p (flat_map uses (drop (n + 1) xs)))) here ∙ sym (first_at p uses xs n x h e) ∙ before
