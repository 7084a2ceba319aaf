-- The pieces of a text, from the first one on.
use Rattle.std.proofs.Common.{◌≡◌, ◌≤◌, ◌+◌, ◌==◌, ◌&&◌, ◌-◌, ℕ, zero, suc, arith, refl, List, [], ◌∷◌, ◌++◌, ap, ◌∙◌, sym, subst, Bool, true, false, cond, length, drop, take, take_all, append_assoc, append-nil, length-drop}
use Rattle.std.proofs.lemmas.List.Sums.{prefix_len-le-length}
use Rattle.qdimacs.specs.declared.token.Token.{Token}
use Rattle.qdimacs.specs.declared.piece.Piece.{Piece}
use Rattle.qdimacs.specs.Tokens.{is_blank, is_in_line, is_in_token, piece_of, token_at, tokens_from, tokens_of}

one_of : (P : Piece → Type 0) (t : Bool) (x y : Piece) → P x → P y → P (cond t x y)
one_of P true x y p q = p
one_of P false x y p q = q

pub more_within : (fresh : Bool) (b : ℕ) (bs : List ℕ) → (piece_of fresh b bs).more ≤ length bs
unfolding piece_of
more_within fresh b bs =
    one_of within (b == 10) _ _ (omega arith)
    (one_of within (is_blank b) _ _ (omega arith)
    (one_of within (fresh && b == 99) _ _ (prefix_len-le-length is_in_line bs) (prefix_len-le-length is_in_token bs)))
  where
    within : Piece → Type 0
    within p = p.more ≤ length bs

-- bytes that belong to the piece before are passed over
skip : (at more : ℕ) (fresh : Bool) (bs : List ℕ) → more ≤ length bs → tokens_from at fresh more bs ≡ tokens_from (at + more) fresh 0 (drop more bs)
unfolding tokens_from
skip at zero fresh bs h = let e : at ≡ at + 0 = omega arith in ap (λ a. tokens_from a fresh 0 bs) e
skip at (suc m) fresh [] h = absurd (omega arith)
skip at (suc m) fresh (b ∷ bs) h =
    let e : suc at + m ≡ at + suc m = omega arith in
    skip (suc at) m fresh bs (omega arith) ∙ ap (λ a. tokens_from a fresh 0 (drop m bs)) e

-- all that stands behind a piece
pub behind : (m : ℕ) (bs : List ℕ) → take (length bs - m) (drop m bs) ≡ drop m bs
behind m bs = take_all _ _ (omega (arith, length-drop m bs))

-- the tokens so far, and what is left of the text
pub record IsCut (text : List ℕ) (ts : List Token) (left : List ℕ) (at : ℕ) (fresh : Bool) : Type 0 where
  pub place : at + length left ≡ length text
  pub tokens : ts ++ tokens_from at fresh 0 left ≡ tokens_of text

pub next : (text : List ℕ) (ts : List Token) (left : List ℕ) (at : ℕ) (fresh : Bool) (b : ℕ) (bs : List ℕ) (p : Piece) → left ≡ b ∷ bs → p ≡ piece_of fresh b bs → IsCut text ts left at fresh →
    IsCut text (ts ++ token_at at p.sign) (drop p.more bs) (at + 1 + p.more) p.fresh
unfolding tokens_from
next text ts left at fresh b bs p is e i =
    let within : p.more ≤ length bs = subst (λ (q : Piece). q.more ≤ length bs) (sym e) (more_within fresh b bs) in
    let all : length left ≡ suc (length bs) = ap length is in
    let so_far = i.place in
    let place : suc at + p.more ≡ at + 1 + p.more = omega arith in
    record {
      place = omega (arith, length-drop p.more bs);
      tokens =
          append_assoc ts (token_at at p.sign) (tokens_from (at + 1 + p.more) p.fresh 0 (drop p.more bs))
          ∙ ap (λ us. ts ++ (token_at at p.sign ++ us)) (ap (λ a. tokens_from a p.fresh 0 (drop p.more bs)) (sym place) ∙ sym (skip (suc at) p.more p.fresh bs within))
          ∙ ap (λ (q : Piece). ts ++ (token_at at q.sign ++ tokens_from (suc at) q.fresh q.more bs)) e
          ∙ ap (λ bs. ts ++ tokens_from at fresh 0 bs) (sym is) ∙ i.tokens;
    }

nothing_left : {A : Type 0} (xs : List A) → length xs ≡ 0 → xs ≡ []
nothing_left [] e = refl
nothing_left (x ∷ xs) e = absurd (omega arith)

pub done : (text : List ℕ) (ts : List Token) (left : List ℕ) (at : ℕ) (fresh : Bool) → length left ≡ 0 → IsCut text ts left at fresh → ts ≡ tokens_of text
unfolding tokens_from
done text ts left at fresh none i = sym (append-nil ts) ∙ ap (λ bs. ts ++ tokens_from at fresh 0 bs) (sym (nothing_left left none)) ∙ i.tokens
