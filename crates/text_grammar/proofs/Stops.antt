-- Where tokens stop being a problem: nowhere in a problem, and in other texts at one place.
use Rattle.std.proofs.Common.{◌≡◌, ◌⊎◌, inl, inr, refl, sym, ap, ◌∙◌, subst, ℕ, List, [], ◌∷◌, ◌++◌, Option, Some, None, length, append_assoc}
use Rattle.std.proofs.lemmas.List.{map-append, append-nil}
use Rattle.qc_tokens.specs.declared.token.Token.{Token}
use Rattle.text_grammar.specs.declared.tree.Item.{Item}
use Rattle.text_grammar.specs.declared.lexeme.Lexeme.{Lexeme}
use Rattle.text_grammar.specs.declared.part.Part.{Part}
use Rattle.text_grammar.specs.declared.part.Part.TheVariants.{Ready, Head as HeadIn, Variable as VariableIn, Aggregate as AggregateIn, Constraint as ConstraintIn, Solve as Solving, Ended}
use Rattle.text_grammar.specs.Grammar.{IsProblem, Begins}
use Rattle.text_grammar.specs.Lexemes.{lexeme_of, lexemes_of, StopsAt, at_token, at_end}
use Rattle.text_grammar.specs.Moves.{Reading, after_lexeme, bind, after_all}
use Rattle.text_grammar.specs.Read.{start}
use Rattle.text_grammar.proofs.Complete.{after_append}
use Rattle.text_grammar.proofs.Live.{read_begins}
use Rattle.text_grammar.proofs.Problems.{ended_is_problem, stuck_begins_none, open_is_none, fewer_begin, problem_begins}

-- the tokens before the one at which they stop, that token, and those after it
record AtToken (text : List ℕ) (ts : List Token) (at : ℕ) : Type 0 where
  before : List Token
  t : Token
  after : List Token
  are : ts ≡ before ++ t ∷ after
  place : at ≡ t.start
  begin : Begins (lexemes_of text before)
  no : Begins (lexemes_of text (before ++ t ∷ [])) → ⊥

-- they stop at the end of the text
record AtEnd (text : List ℕ) (ts : List Token) (at : ℕ) : Type 0 where
  place : at ≡ length text
  begin : Begins (lexemes_of text ts)
  no : (items : List Item) → IsProblem items (lexemes_of text ts) → ⊥

stop_of : (text : List ℕ) (ts : List Token) (at : ℕ) → StopsAt text ts at → AtToken text ts at ⊎ AtEnd text ts at
stop_of text _ _ (at_token before t after b n) = inl (record { before = before; t = t; after = after; are = refl; place = refl; begin = b; no = n })
stop_of text _ _ (at_end ts b n) = inr (record { place = refl; begin = b; no = n })

-- the front of tokens that begin a problem begins one
front_begins : (text : List ℕ) (xs ys : List Token) → Begins (lexemes_of text (xs ++ ys)) → Begins (lexemes_of text xs)
front_begins text xs ys b =
    fewer_begin (lexemes_of text xs) (lexemes_of text ys) (subst (λ (k : List Lexeme). Begins k) (map-append (lexeme_of text) xs ys) b)

problem_front : (text : List ℕ) (items : List Item) (xs ys : List Token) → IsProblem items (lexemes_of text (xs ++ ys)) → Begins (lexemes_of text xs)
problem_front text items xs ys p =
    problem_begins items (lexemes_of text xs) (lexemes_of text ys) (subst (λ (k : List Lexeme). IsProblem items k) (map-append (lexeme_of text) xs ys) p)

one_more : (before after : List Token) (t : Token) → before ++ t ∷ after ≡ (before ++ t ∷ []) ++ after
one_more before after t = sym (append_assoc before (t ∷ []) after)

no_stop : (text : List ℕ) (ts : List Token) (at : ℕ) (items : List Item) → IsProblem items (lexemes_of text ts) → AtToken text ts at ⊎ AtEnd text ts at → ⊥
no_stop text ts at items p (inl s) =
    s.no (problem_front text items (s.before ++ s.t ∷ []) s.after (subst (λ (k : List Token). IsProblem items (lexemes_of text k)) (s.are ∙ one_more s.before s.after s.t) p))
no_stop text ts at items p (inr s) = s.no items p

-- where a token can't follow what was read before it, the tokens stop there
pub token_stops :
    (text : List ℕ) (before : List Token) (t : Token) (after : List Token) (r : Reading) → after_all start (lexemes_of text before) ≡ Some r →
    after_lexeme r (lexeme_of text t) ≡ None → StopsAt text (before ++ t ∷ after) t.start
token_stops text before t after r e stuck =
    at_token before t after (read_begins (lexemes_of text before) r e)
    (λ b. stuck_begins_none (lexemes_of text before) (lexeme_of text t) r e stuck (subst (λ (k : List Lexeme). Begins k) (map-append (lexeme_of text) before (t ∷ [])) b))

-- where the end wasn't read, they stop at the end of the text
pub end_stops : (text : List ℕ) (ts : List Token) (r : Reading) → after_all start (lexemes_of text ts) ≡ Some r → (r.part ≡ Ended → ⊥) → StopsAt text ts (length text)
end_stops text ts r e n = at_end ts (read_begins (lexemes_of text ts) r e) (open_is_none (lexemes_of text ts) r e n)

-- tokens that are those of a problem, or that stop somewhere
data Outcome (text : List ℕ) (ts : List Token) : Type 0 where
  are_problem : (items : List Item) → IsProblem items (lexemes_of text ts) → Outcome text ts
  stop : (at : ℕ) → StopsAt text ts at → Outcome text ts

at_last : (text : List ℕ) (ts : List Token) (r : Reading) (p : Part) → after_all start (lexemes_of text ts) ≡ Some r → r.part ≡ p → Outcome text ts
at_last text ts r Ended e h = are_problem r.items (ended_is_problem (lexemes_of text ts) r e h)
at_last text ts r Ready e h = stop (length text) (end_stops text ts r e (λ k. (let clash : Ready ≡ Ended = sym h ∙ k in cc)))
at_last text ts r (HeadIn p) e h = stop (length text) (end_stops text ts r e (λ k. (let clash : HeadIn p ≡ Ended = sym h ∙ k in cc)))
at_last text ts r (VariableIn p) e h = stop (length text) (end_stops text ts r e (λ k. (let clash : VariableIn p ≡ Ended = sym h ∙ k in cc)))
at_last text ts r (AggregateIn p) e h = stop (length text) (end_stops text ts r e (λ k. (let clash : AggregateIn p ≡ Ended = sym h ∙ k in cc)))
at_last text ts r (ConstraintIn p) e h = stop (length text) (end_stops text ts r e (λ k. (let clash : ConstraintIn p ≡ Ended = sym h ∙ k in cc)))
at_last text ts r Solving e h = stop (length text) (end_stops text ts r e (λ k. (let clash : Solving ≡ Ended = sym h ∙ k in cc)))

one_further : (text : List ℕ) (before : List Token) (t : Token) (r q : Reading) → after_all start (lexemes_of text before) ≡ Some r → after_lexeme r (lexeme_of text t) ≡ Some q → after_all start (lexemes_of text (before ++ t ∷ [])) ≡ Some q
one_further text before t r q e h =
    ap (λ (k : List Lexeme). after_all start k) (map-append (lexeme_of text) before (t ∷ []))
    ∙ after_append start (lexemes_of text before) (lexeme_of text t ∷ [])
    ∙ ap (λ (o : Option Reading). bind o (λ s. after_all s (lexeme_of text t ∷ []))) e
    ∙ ap (λ (o : Option Reading). bind o (λ s. after_all s [])) h

next_outcome :
    (text : List ℕ) (before : List Token) (t : Token) (ts : List Token) (r : Reading) (o : Option Reading) → after_all start (lexemes_of text before) ≡ Some r → after_lexeme r (lexeme_of text t) ≡ o →
    ((q : Reading) → after_all start (lexemes_of text (before ++ t ∷ [])) ≡ Some q → Outcome text ((before ++ t ∷ []) ++ ts)) → Outcome text (before ++ t ∷ ts)
next_outcome text before t ts r None e h f = stop t.start (token_stops text before t ts r e h)
next_outcome text before t ts r (Some q) e h f = subst (λ (k : List Token). Outcome text k) (append_assoc before (t ∷ []) ts) (f q (one_further text before t r q e h))

outcome_from : (text : List ℕ) (ts before : List Token) (r : Reading) → after_all start (lexemes_of text before) ≡ Some r → Outcome text (before ++ ts)
outcome_from text [] before r e = subst (λ (k : List Token). Outcome text k) (sym (append-nil before)) (at_last text before r r.part e refl)
outcome_from text (t ∷ ts) before r e = next_outcome text before t ts r (after_lexeme r (lexeme_of text t)) e refl (λ q h. outcome_from text ts (before ++ t ∷ []) q h)

either : (text : List ℕ) (ts : List Token) → Outcome text ts → ((items : List Item) × IsProblem items (lexemes_of text ts)) ⊎ ((at : ℕ) × StopsAt text ts at)
either text ts (are_problem items p) = inl (items, p)
either text ts (stop at s) = inr (at, s)

-- tokens are those of a problem or stop somewhere
pub problem_or_stop : (text : List ℕ) (ts : List Token) → ((items : List Item) × IsProblem items (lexemes_of text ts)) ⊎ ((at : ℕ) × StopsAt text ts at)
problem_or_stop text ts = either text ts (outcome_from text ts [] start refl)

-- a problem stops nowhere
pub problem_stops_nowhere : (text : List ℕ) (ts : List Token) (at : ℕ) (items : List Item) → IsProblem items (lexemes_of text ts) → StopsAt text ts at → ⊥
problem_stops_nowhere text ts at items p s = no_stop text ts at items p (stop_of text ts at s)

-- Two ways to cut a list at an item: at the same one, or at one before the other.
data TwoCuts (t u : Token) (xs ys : List Token) : Type 0 where
  same : t ≡ u → TwoCuts t u xs ys
  first_before : (more : List Token) → ys ≡ (xs ++ t ∷ []) ++ more → TwoCuts t u xs ys
  second_before : (more : List Token) → xs ≡ (ys ++ u ∷ []) ++ more → TwoCuts t u xs ys

under : (x y : Token) (xs ys : List Token) (t u : Token) → x ≡ y → TwoCuts t u xs ys → TwoCuts t u (x ∷ xs) (y ∷ ys)
under x y xs ys t u h (same e) = same e
under x y xs ys t u h (first_before more e) = let k : y ≡ x = sym h in first_before more cc
under x y xs ys t u h (second_before more e) = second_before more cc

cuts : (t u : Token) (xs ys us vs : List Token) → xs ++ t ∷ us ≡ ys ++ u ∷ vs → TwoCuts t u xs ys
cuts t u [] [] us vs e = same cc
cuts t u [] (y ∷ ys) us vs e = let h : y ≡ t = cc in first_before ys cc
cuts t u (x ∷ xs) [] us vs e = let h : x ≡ u = cc in second_before xs cc
cuts t u (x ∷ xs) (y ∷ ys) us vs e =
    let h : x ≡ y = cc in
    let tail : xs ++ t ∷ us ≡ ys ++ u ∷ vs = cc in
    under x y xs ys t u h (cuts t u xs ys us vs tail)

-- a stop at a token, where the tokens before it go on to begin a problem, is none
passed : (text : List ℕ) (before more : List Token) (t : Token) (ys : List Token) → (Begins (lexemes_of text (before ++ t ∷ [])) → ⊥) → ys ≡ (before ++ t ∷ []) ++ more → Begins (lexemes_of text ys) → ⊥
passed text before more t ys n e b = n (front_begins text (before ++ t ∷ []) more (subst (λ (k : List Token). Begins (lexemes_of text k)) e b))

by_cuts : (text : List ℕ) (ts : List Token) (a b : ℕ) (p : AtToken text ts a) (q : AtToken text ts b) → TwoCuts p.t q.t p.before q.before → a ≡ b
by_cuts text ts a b p q (same e) = p.place ∙ ap (λ (t : Token). t.start) e ∙ sym q.place
by_cuts text ts a b p q (first_before more e) = absurd (passed text p.before more p.t q.before p.no e q.begin)
by_cuts text ts a b p q (second_before more e) = absurd (passed text q.before more q.t p.before q.no e p.begin)

one_of_two : (text : List ℕ) (ts : List Token) (a b : ℕ) → AtToken text ts a ⊎ AtEnd text ts a → AtToken text ts b ⊎ AtEnd text ts b → a ≡ b
one_of_two text ts a b (inl p) (inl q) = by_cuts text ts a b p q (cuts p.t q.t p.before q.before p.after q.after (sym p.are ∙ q.are))
one_of_two text ts a b (inl p) (inr q) = absurd (passed text p.before p.after p.t ts p.no (p.are ∙ one_more p.before p.after p.t) q.begin)
one_of_two text ts a b (inr p) (inl q) = absurd (passed text q.before q.after q.t ts q.no (q.are ∙ one_more q.before q.after q.t) p.begin)
one_of_two text ts a b (inr p) (inr q) = p.place ∙ sym q.place

-- tokens stop at one place at most
pub one_stop : (text : List ℕ) (ts : List Token) (a b : ℕ) → StopsAt text ts a → StopsAt text ts b → a ≡ b
one_stop text ts a b p q = one_of_two text ts a b (stop_of text ts a p) (stop_of text ts b q)
