-- The numbers of tokens are above 0.
use Rattle.std.proofs.Common.{◌≡◌, ◌<◌, ◌==◌, ◌&&◌, refl, sym, ap, ◌∙◌, ℕ, zero, suc, Bool, true, false, cond, List, [], ◌∷◌, ◌++◌, map, length, arith, Some, None}
use Rattle.std.specs.Prelude.{nat_lt, nat_le, flat_map, codes}
use Rattle.std.specs.Char.{is_ascii_digit}
use Rattle.std.specs.List.{list_all, take_while}
use Rattle.std.specs.Str.{bytes_eq}
use Rattle.std.specs.Str.Parse.{digits_value}
use Rattle.std.proofs.lemmas.List.Folds.{list_all-append, list_all-map}
use Rattle.std.proofs.lemmas.Int.Digits.{digits_value_more}
use Rattle.std.proofs.lemmas.Str.{digit_value_digit}
use Rattle.std.proofs.lemmas.Str.Parse.{digits_value-take-le}
use Rattle.std.proofs.lemmas.Bool.{and_from, and_parts, leb-true, lt-ltb}
use Rattle.qdimacs.specs.declared.token.Token.{Token}
use Rattle.qdimacs.specs.declared.token.Sign.{Sign}
use Rattle.qdimacs.specs.declared.token.Sign.TheVariants.{Zero, Number, Negative, Other}
use Rattle.qdimacs.specs.declared.piece.Piece.{Piece}
use Rattle.qdimacs.specs.declared.tree.LiteralText.{LiteralText}
use Rattle.qdimacs.specs.declared.tree.SetText.{SetText}
use Rattle.qdimacs.specs.declared.tree.ClauseText.{ClauseText}
use Rattle.qdimacs.specs.Tokens.{is_blank, is_in_token, is_number, number_of, negative_sign, minus_sign, number_sign, sign_of, piece_of, token_at, tokens_from, tokens_of}
use Rattle.qdimacs.specs.Grammar.{File, token, number_token, literal_sign, literal_token, set_tokens, clause_tokens, IsFile}
use Rattle.qdimacs.specs.Refusals.{is_positive, has_positives}

abbrev good_sign : Sign → Bool
good_sign (Number n) = nat_lt 0 n
good_sign (Negative n) = nat_lt 0 n
good_sign _ = true

abbrev good : Token → Bool
good t = good_sign t.sign

number_positive : (w : List ℕ) → is_number w ≡ true → 0 < digits_value 10 w
number_positive [] e = absurd cc
number_positive (d ∷ ds) e =
    let a = and_parts (nat_le 49 d && nat_le d 57 && nat_le (length ds) 8) (list_all is_ascii_digit ds) e in
    let b = and_parts (nat_le 49 d && nat_le d 57) (nat_le (length ds) 8) a.0 in
    let c = and_parts (nat_le 49 d) (nat_le d 57) b.0 in
    let low = leb-true 49 d c.0 in
    let high = leb-true d 57 c.1 in
    let v = digit_value_digit d (omega arith, high) in
    let m = digits_value_more 10 (d ∷ ds) 0 (omega arith) in
    let t = digits_value-take-le 10 (d ∷ ds) 1 (omega arith) in
    omega (arith, v, m, t)

good_negative : (w : List ℕ) (b : Bool) → is_number w ≡ b → good_sign (negative_sign (cond b (Some (digits_value 10 w)) None)) ≡ true
good_negative w true e = lt-ltb 0 (digits_value 10 w) (number_positive w e)
good_negative w false e = refl

good_minus : (w : List ℕ) → good_sign (minus_sign w) ≡ true
good_minus [] = refl
good_minus (b ∷ bs) = go (b == 45) (good_negative bs (is_number bs) refl)
  where
    go : (t : Bool) → good_sign (negative_sign (number_of bs)) ≡ true → good_sign (cond t (negative_sign (number_of bs)) Other) ≡ true
    go true h = h
    go false h = refl

good_number : (w : List ℕ) (b : Bool) → is_number w ≡ b → good_sign (number_sign w (cond b (Some (digits_value 10 w)) None)) ≡ true
good_number w true e = lt-ltb 0 (digits_value 10 w) (number_positive w e)
good_number w false e = good_minus w

one_good : (t : Bool) (x y : Sign) → good_sign x ≡ true → good_sign y ≡ true → good_sign (cond t x y) ≡ true
one_good true x y p q = p
one_good false x y p q = q

good_word : (w : List ℕ) → good_sign (sign_of w) ≡ true
unfolding sign_of
good_word w =
    one_good (bytes_eq w (codes "p")) _ _ refl (one_good (bytes_eq w (codes "cnf")) _ _ refl (one_good (bytes_eq w (codes "e")) _ _ refl
    (one_good (bytes_eq w (codes "a")) _ _ refl (one_good (bytes_eq w (codes "0")) _ _ refl (good_number w (is_number w) refl)))))

one_of : (P : Piece → Type 0) (t : Bool) (x y : Piece) → P x → P y → P (cond t x y)
one_of P true x y p q = p
one_of P false x y p q = q

good_piece : (at : ℕ) (fresh : Bool) (b : ℕ) (bs : List ℕ) → list_all good (token_at at (piece_of fresh b bs).sign) ≡ true
unfolding piece_of
good_piece at fresh b bs =
    one_of P (b == 10) _ _ refl (one_of P (is_blank b) _ _ refl (one_of P (fresh && b == 99) _ _ refl (and_from (good_sign (sign_of (b ∷ take_while is_in_token bs))) true (good_word (b ∷ take_while is_in_token bs)) refl)))
  where
    P : Piece → Type 0
    P p = list_all good (token_at at p.sign) ≡ true

good_tokens : (bs : List ℕ) (at : ℕ) (fresh : Bool) (k : ℕ) → list_all good (tokens_from at fresh k bs) ≡ true
unfolding tokens_from
good_tokens [] at fresh k = refl
good_tokens (b ∷ bs) at fresh (suc k) = good_tokens bs (suc at) fresh k
good_tokens (b ∷ bs) at fresh zero =
    let p = piece_of fresh b bs in
    list_all-append good (token_at at p.sign) (tokens_from (suc at) p.fresh p.more bs)
    ∙ and_from (list_all good (token_at at p.sign)) (list_all good (tokens_from (suc at) p.fresh p.more bs)) (good_piece at fresh b bs) (good_tokens bs (suc at) p.fresh p.more)

split : (xs ys : List Token) → list_all good (xs ++ ys) ≡ true → (list_all good xs ≡ true) × (list_all good ys ≡ true)
split xs ys h = and_parts (list_all good xs) (list_all good ys) (sym (list_all-append good xs ys) ∙ h)

sets_positive : (ss : List SetText) → list_all good (flat_map set_tokens ss) ≡ true → list_all (λ (s : SetText). list_all is_positive s.variables) ss ≡ true
sets_positive [] h = refl
sets_positive (s ∷ ss) h =
    let a = split (set_tokens s) (flat_map set_tokens ss) h in
    let b = split (map number_token s.variables) (token s.end Zero ∷ []) a.0 in
    and_from (list_all is_positive s.variables) (list_all (λ (s : SetText). list_all is_positive s.variables) ss) (sym (list_all-map good number_token s.variables) ∙ b.0) (sets_positive ss a.1)

literals_positive : (ls : List LiteralText) → list_all good (map literal_token ls) ≡ true → list_all (λ (l : LiteralText). nat_lt 0 l.variable) ls ≡ true
literals_positive [] h = refl
literals_positive (l ∷ ls) h =
    let a = and_parts (good (literal_token l)) (list_all good (map literal_token ls)) h in
    and_from (nat_lt 0 l.variable) (list_all (λ (l : LiteralText). nat_lt 0 l.variable) ls) (go l.positive l.variable a.0) (literals_positive ls a.1)
  where
    go : (b : Bool) (n : ℕ) → good_sign (literal_sign b n) ≡ true → nat_lt 0 n ≡ true
    go true n h = h
    go false n h = h

body_positive : (cs : List ClauseText) → list_all good (flat_map clause_tokens cs) ≡ true → list_all (λ (c : ClauseText). list_all (λ (l : LiteralText). nat_lt 0 l.variable) c.literals) cs ≡ true
body_positive [] h = refl
body_positive (c ∷ cs) h =
    let a = split (clause_tokens c) (flat_map clause_tokens cs) h in
    let b = split (map literal_token c.literals) (token c.end Zero ∷ []) a.0 in
    and_from (list_all (λ (l : LiteralText). nat_lt 0 l.variable) c.literals) (list_all (λ (c : ClauseText). list_all (λ (l : LiteralText). nat_lt 0 l.variable) c.literals) cs) (literals_positive c.literals b.0) (body_positive cs a.1)

pub positives_in : (text : List ℕ) (f : File) → IsFile f (tokens_of text) → has_positives f ≡ true
positives_in text f i =
    let a = sym (ap (λ ts. list_all good ts) i.are) ∙ good_tokens text 0 true 0 in
    let rest = flat_map set_tokens f.sets ++ flat_map clause_tokens f.body in
    let b = and_parts (good i.variables) (good i.clauses && list_all good rest) a in
    let c = and_parts (good i.clauses) (list_all good rest) b.1 in
    let d = split (flat_map set_tokens f.sets) (flat_map clause_tokens f.body) c.1 in
    and_from _ _ (sets_positive f.sets d.0) (body_positive f.body d.1)
