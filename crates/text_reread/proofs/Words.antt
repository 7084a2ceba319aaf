-- Which lexemes words make: names are none of the language's words, and each predicate's name is a name.
use Rattle.std.proofs.Common.{◌≡◌, refl, ◌+◌, ℕ, Bool, true, false, not, cond, List, length}
use Rattle.std.specs.Prelude.{codes}
use Rattle.std.specs.List.{list_any}
use Rattle.std.specs.Str.{bytes_eq}
use Rattle.std.proofs.lemmas.Bool.{and_parts, or_parts}
use Rattle.qc_model.specs.declared.problem.Pred.{Pred}
use Rattle.qc_model.specs.declared.problem.Pred.TheVariants.{IntEq}
use Rattle.qc_model.specs.Signature.{pred_name}
use Rattle.qc_model.specs.Names.{is_word, reserved_words, is_name}
use Rattle.text_grammar.specs.declared.lexeme.Lexeme.TheVariants.{Name}
use Rattle.text_grammar.specs.Lexemes.{word_lexeme}
use Rattle.text_reread.proofs.Places.{word_at}

-- a name is a word
pub name_is_word : (w : List ℕ) → is_name w ≡ true → is_word w ≡ true
name_is_word w h = (and_parts (is_word w) (not (list_any (bytes_eq w) reserved_words)) h).0

-- a test whose opposite passes fails
not_false : (t : Bool) → not t ≡ true → t ≡ false
not_false true h = absurd cc
not_false false h = refl

-- a choice whose test fails
passed : {A : Type 0} (t : Bool) (x y z : A) → t ≡ false → y ≡ z → cond t x y ≡ z
passed true x y z h e = absurd cc
passed false x y z h e = e

-- a name makes the lexeme of a name
pub name_lexeme : (w : List ℕ) (at : ℕ) → is_name w ≡ true → word_lexeme w at (at + length w) ≡ Name (word_at at w)
name_lexeme w at h =
    let none : list_any (bytes_eq w) reserved_words ≡ false = not_false _ (and_parts (is_word w) (not (list_any (bytes_eq w) reserved_words)) h).1 in
    let a = or_parts (bytes_eq w (codes "exists")) _ none in
    let b = or_parts (bytes_eq w (codes "forall")) _ a.1 in
    let c = or_parts (bytes_eq w (codes "goal")) _ b.1 in
    let d = or_parts (bytes_eq w (codes "solve")) _ c.1 in
    let e = or_parts (bytes_eq w (codes "var")) _ d.1 in
    let f = or_parts (bytes_eq w (codes "bool")) _ e.1 in
    let g = or_parts (bytes_eq w (codes "aggregate")) _ f.1 in
    let i = or_parts (bytes_eq w (codes "sum")) _ g.1 in
    let j = or_parts (bytes_eq w (codes "least")) _ i.1 in
    let k = or_parts (bytes_eq w (codes "greatest")) _ j.1 in
    let l = or_parts (bytes_eq w (codes "else")) _ k.1 in
    let m = or_parts (bytes_eq w (codes "minimize")) _ l.1 in
    let n = or_parts (bytes_eq w (codes "maximize")) _ m.1 in
    let o = or_parts (bytes_eq w (codes "constraint")) _ n.1 in
    let p = or_parts (bytes_eq w (codes "true")) _ o.1 in
    let q = or_parts (bytes_eq w (codes "false")) _ p.1 in
    passed _ _ _ _ a.0 (passed _ _ _ _ b.0 (passed _ _ _ _ c.0 (passed _ _ _ _ d.0 (passed _ _ _ _ e.0 (passed _ _ _ _ f.0 (passed _ _ _ _ g.0 (passed _ _ _ _ i.0 (passed _ _ _ _ j.0 (passed _ _ _ _ k.0 (passed _ _ _ _ l.0 (passed _ _ _ _ m.0 (passed _ _ _ _ n.0 (passed _ _ _ _ o.0 (passed _ _ _ _ p.0 (passed _ _ _ _ q.0 refl)))))))))))))))

-- the name of a predicate is a name
pub predicate_is_name : (p : Pred) → is_name (pred_name p) ≡ true
predicate_is_name IntEq = refl
predicate_is_name _ = refl
