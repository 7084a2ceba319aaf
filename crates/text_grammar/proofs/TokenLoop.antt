-- A step of the loop over the tokens.
use Rattle.std.proofs.Common.{◌≡◌, ◌↔◌, IsTrue, Bool, true, false, ◌∙◌, sym, ap, subst, refl, ◌<◌, ◌≤◌, ◌+◌, ℕ, List, [], ◌∷◌, ◌++◌, length, take, drop, get_or, Option, Some, None, Ok, drop-cons, add-one}
use Rattle.std.proofs.lemmas.List.{take_more, take_all, map-append, take-append-drop}
use Rattle.qc_tokens.specs.declared.token.Token.{Token}
use Rattle.text_grammar.specs.declared.lexeme.Lexeme.{Lexeme}
use Rattle.text_grammar.specs.declared.tree.Item.{Item}
use Rattle.text_grammar.specs.declared.reader.Reception.{Reception}
use Rattle.text_grammar.specs.declared.reader.Reception.TheVariants.{Taken, Refused}
use Rattle.text_grammar.specs.declared.part.Part.TheVariants.{Ended}
use Rattle.text_grammar.specs.Moves.{Reading, after_lexeme, after_all, bind}
use Rattle.text_grammar.specs.Grammar.{IsProblem}
use Rattle.text_grammar.specs.Lexemes.{lexeme_of, lexemes_of, StopsAt}
use Rattle.text_grammar.specs.Read.{start}
use Rattle.text_grammar.specs.Outcomes.{Takes}
use Rattle.text_grammar.proofs.Problems.{ended_is_problem}
use Rattle.text_grammar.proofs.Stops.{token_stops, end_stops}

bind_some : (o : Option Reading) → bind o (λ q. Some q) ≡ o
bind_some None = refl
bind_some (Some q) = refl

bind_twice : (o : Option Reading) (f g : Reading → Option Reading) → bind (bind o f) g ≡ bind o (λ q. bind (f q) g)
bind_twice None f g = refl
bind_twice (Some q) f g = refl

bind_same : (o : Option Reading) (f g : Reading → Option Reading) → ((q : Reading) → f q ≡ g q) → bind o f ≡ bind o g
bind_same None f g h = refl
bind_same (Some q) f g h = h q

after_all-push : (r : Reading) (ls : List Lexeme) (l : Lexeme) → after_all r (ls ++ l ∷ []) ≡ bind (after_all r ls) (λ q. after_lexeme q l)
after_all-push r [] l = bind_some (after_lexeme r l)
after_all-push r (x ∷ xs) l =
    bind_same (after_lexeme r x) (λ q. after_all q (xs ++ l ∷ [])) (λ q. bind (after_all q xs) (λ p. after_lexeme p l)) (λ q. after_all-push q xs l)
    ∙ sym (bind_twice (after_lexeme r x) (λ q. after_all q xs) (λ p. after_lexeme p l))

when_taken : (old new : Reading) (l : Lexeme) (s : Reception) → Takes old l (Ok s) new → s ≡ Taken → after_lexeme old l ≡ Some new
when_taken old new l Taken takes is = takes
when_taken old new l Refused takes is = absurd (cc)

when_refused : (old new : Reading) (l : Lexeme) (s : Reception) → Takes old l (Ok s) new → s ≡ Refused → after_lexeme old l ≡ None
when_refused old new l Taken takes is = absurd (cc)
when_refused old new l Refused takes is = takes

-- what the tokens before this place make of nothing
abbrev pub HasRead : List ℕ → List Token → ℕ → Reading → Type 0
HasRead text ts i r = after_all start (lexemes_of text (take i ts)) ≡ Some r

pub has_read_more : (text : List ℕ) (ts : List Token) (i : ℕ) (r q : Reading) (l : Lexeme) (s : Reception) (d : Token) → i < length ts → HasRead text ts i r
    → l ≡ lexeme_of text (get_or ts i d) → Takes r l (Ok s) q → s ≡ Taken → HasRead text ts (i + 1) q
has_read_more text ts i r q l s d lt inv e takes is =
    ap (λ xs. after_all start (lexemes_of text xs)) (take_more ts i d lt)
    ∙ ap (after_all start) (map-append (lexeme_of text) (take i ts) (get_or ts i d ∷ []))
    ∙ after_all-push start (lexemes_of text (take i ts)) (lexeme_of text (get_or ts i d))
    ∙ ap (λ o. bind o (λ p. after_lexeme p (lexeme_of text (get_or ts i d)))) inv
    ∙ ap (after_lexeme r) (sym e) ∙ when_taken r q l s takes is

cut : (ts : List Token) (i : ℕ) (d : Token) → i < length ts → take i ts ++ get_or ts i d ∷ drop (i + 1) ts ≡ ts
cut ts i d lt =
    ap (λ k. take i ts ++ get_or ts i d ∷ drop k ts) (add-one i) ∙ ap (λ xs. take i ts ++ xs) (sym (drop-cons ts i d lt)) ∙ take-append-drop i ts

pub stops_at_token : (text : List ℕ) (ts : List Token) (i : ℕ) (r q : Reading) (l : Lexeme) (s : Reception) (d : Token) → i < length ts → HasRead text ts i r
    → l ≡ lexeme_of text (get_or ts i d) → Takes r l (Ok s) q → s ≡ Refused → StopsAt text ts (get_or ts i d).start
stops_at_token text ts i r q l s d lt inv e takes is =
    let P : List Token → Type 0 = λ xs. StopsAt text xs (get_or ts i d).start in
    subst P (cut ts i d lt) (token_stops text (take i ts) (get_or ts i d) (drop (i + 1) ts) r inv (ap (after_lexeme r) (sym e) ∙ when_refused r q l s takes is))

has_read_all : (text : List ℕ) (ts : List Token) (i : ℕ) (r : Reading) → length ts ≤ i → HasRead text ts i r → after_all start (lexemes_of text ts) ≡ Some r
has_read_all text ts i r le inv = ap (λ xs. after_all start (lexemes_of text xs)) (sym (take_all i ts le)) ∙ inv

no_test : {P : Type 0} (b : Bool) → (IsTrue b ↔ P) → b ≡ false → P → ⊥
no_test b h e p = let is : b ≡ true = h.1 p in absurd (cc)

pub stops_at_end : (text : List ℕ) (ts : List Token) (i : ℕ) (r : Reading) (b : Bool) → length ts ≤ i → HasRead text ts i r → (IsTrue b ↔ (r.part ≡ Ended)) → b ≡ false
    → StopsAt text ts (length text)
stops_at_end text ts i r b le inv tests e = end_stops text ts r (has_read_all text ts i r le inv) (no_test b tests e)

pub is_whole : (text : List ℕ) (ts : List Token) (i : ℕ) (r : Reading) (items : List Item) (b : Bool) → length ts ≤ i → HasRead text ts i r → (IsTrue b ↔ (r.part ≡ Ended)) → b ≡ true
    → items ≡ r.items → IsProblem items (lexemes_of text ts)
is_whole text ts i r items b le inv tests e same =
    let P : List Item → Type 0 = λ xs. IsProblem xs (lexemes_of text ts) in
    subst P (sym same) (ended_is_problem (lexemes_of text ts) r (has_read_all text ts i r le inv) (tests.0 e))
