-- Lists with commas.
use Rattle.std.proofs.Common.{◌≡◌, refl, sym, ap, ◌∙◌, List, [], ◌∷◌, ◌++◌, append_assoc}
use Rattle.std.specs.Prelude.{IsTrue}
use Rattle.std.proofs.lemmas.List.{append-nil}
use Rattle.text_grammar.specs.declared.lexeme.Lexeme.{Lexeme}
use Rattle.text_grammar.specs.declared.lexeme.Lexeme.TheVariants.{Comma}
use Rattle.text_grammar.specs.Grammar.{between_commas, with_commas}
use Rattle.text_grammar.specs.Read.{opened, has_some, has_none}

with_more : {A : Type 0} (f : A → List Lexeme) (xs : List A) (x : A) → with_commas f (xs ++ x ∷ []) ≡ with_commas f xs ++ Comma ∷ f x
with_more f [] x = ap (λ (l : List Lexeme). Comma ∷ l) (append-nil (f x))
with_more f (y ∷ ys) x =
    ap (λ (l : List Lexeme). Comma ∷ (f y ++ l)) (with_more f ys x) ∙ ap (λ (l : List Lexeme). Comma ∷ l) (sym (append_assoc (f y) (with_commas f ys) (Comma ∷ f x)))

-- one more item after those of a list
pub between_more : {A : Type 0} (f : A → List Lexeme) (xs : List A) (x : A) → between_commas f (xs ++ x ∷ []) ≡ opened f xs ++ f x
between_more f [] x = append-nil (f x)
between_more f (y ∷ ys) x =
    ap (λ (l : List Lexeme). f y ++ l) (with_more f ys x) ∙ simp append_assoc

-- a list that isn't empty gets a comma before the next item ..
pub opened_some : {A : Type 0} (f : A → List Lexeme) (xs : List A) → IsTrue (has_some xs) → opened f xs ≡ between_commas f xs ++ Comma ∷ []
opened_some f [] h = cc
opened_some f (x ∷ xs) h = refl

-- .. and an empty one gets none
pub opened_none : {A : Type 0} (f : A → List Lexeme) (xs : List A) → IsTrue (has_none xs) → opened f xs ≡ between_commas f xs
opened_none f [] h = refl
opened_none f (x ∷ xs) h = cc

pub some_more : {A : Type 0} (xs : List A) (x : A) → IsTrue (has_some (xs ++ x ∷ []))
some_more [] x = refl
some_more (y ∷ ys) x = refl

pub opened_more : {A : Type 0} (f : A → List Lexeme) (xs : List A) (x : A) → opened f (xs ++ x ∷ []) ≡ (opened f xs ++ f x) ++ Comma ∷ []
opened_more f xs x = opened_some f (xs ++ x ∷ []) (some_more xs x) ∙ ap (λ (l : List Lexeme). l ++ Comma ∷ []) (between_more f xs x)
