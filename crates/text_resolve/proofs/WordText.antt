-- A word is a text, and each item of a makeable text declares a word.
use Rattle.std.proofs.Common.{◌≡◌, refl, ap, ◌∙◌, ◌<◌, ℕ, zero, suc, Bool, true, false, ◌||◌, List, [], ◌∷◌, length, get_or, arith}
use Rattle.std.specs.Char.{is_ascii_digit}
use Rattle.std.specs.List.{list_all}
use Rattle.std.specs.Str.{IsAscii, IsUtf8}
use Rattle.std.proofs.lemmas.Str.{IsUtf8-from_ascii}
use Rattle.std.proofs.lemmas.Bool.Decides.{nat_tests}
use Rattle.std.proofs.lemmas.Bool.{and_parts, or_left}
use Rattle.qc_model.specs.Names.{is_word, is_word_byte, is_first_byte}
use Rattle.text_grammar.specs.declared.tree.Item.{Item}
use Rattle.text_grammar.specs.declared.tree.Item.TheVariants.{Exists as ExistsItem, Forall as ForallItem, Goal as GoalItem, Variable, Aggregate as AggregateItem, Constraint}
use Rattle.text_resolve.specs.Owned.{owned_from, word_bytes}
use Rattle.text_resolve.specs.Names.{Declared, declared_from}
use Rattle.text_resolve.specs.Makeable.{IsMakeable, declares_word}

word_ascii : (b : ℕ) → is_word_byte b ≡ true → b < 128
word_ascii b h = grind (arith, nat_tests)

bytes_ascii : (bs : List ℕ) → list_all is_word_byte bs ≡ true → IsAscii bs
bytes_ascii [] h i = omega arith
bytes_ascii (b ∷ bs) h zero = word_ascii b (and_parts (is_word_byte b) (list_all is_word_byte bs) h).0
bytes_ascii (b ∷ bs) h (suc i) = bytes_ascii bs (and_parts (is_word_byte b) (list_all is_word_byte bs) h).1 i

pub word_text : (w : List ℕ) → is_word w ≡ true → IsUtf8 w
word_text [] h = absurd cc
word_text (b ∷ bs) h =
    let t = and_parts (is_first_byte b) (list_all is_word_byte bs) h in
    IsUtf8-from_ascii (b ∷ bs) (bytes_ascii (b ∷ bs) (rw (or_left (is_first_byte b) (is_ascii_digit b) t.0, t.1) refl))

abbrev has_word : Declared → Bool
has_word d = is_word d.name

declare_words : (text : List ℕ) (xs qs n owner : ℕ) (items : List Item) → list_all has_word (declared_from text xs qs (owned_from n owner items)) ≡ true → list_all (declares_word text) items ≡ true
declare_words text xs qs n owner [] h = refl
declare_words text xs qs n owner (ExistsItem at condition ∷ is) h = declare_words text xs qs (suc n) n is h
declare_words text xs qs n owner (ForallItem at ∷ is) h = declare_words text xs qs (suc n) n is h
declare_words text xs qs n owner (GoalItem ∷ is) h = declare_words text xs qs n n is h
declare_words text xs qs n owner (Variable at domain w ∷ is) h =
    let t = and_parts (is_word (word_bytes text w)) (list_all has_word (declared_from text (suc xs) qs (owned_from n owner is))) h in
    rw (t.0, declare_words text (suc xs) qs n owner is t.1) refl
declare_words text xs qs n owner (AggregateItem at w fold target ∷ is) h =
    let t = and_parts (is_word (word_bytes text w)) (list_all has_word (declared_from text xs (suc qs) (owned_from n owner is))) h in
    rw (t.0, declare_words text xs (suc qs) n owner is t.1) refl
declare_words text xs qs n owner (Constraint at w args ∷ is) h = declare_words text xs qs n owner is h

passes_at : (p : Item → Bool) (items : List Item) (n : ℕ) (d : Item) → list_all p items ≡ true → n < length items → p (get_or items n d) ≡ true
passes_at p [] n d h lt = absurd (omega arith)
passes_at p (i ∷ is) zero d h lt = (and_parts (p i) (list_all p is) h).0
passes_at p (i ∷ is) (suc n) d h lt = passes_at p is n d (and_parts (p i) (list_all p is) h).1 (omega arith)

pub word_at : (text : List ℕ) (items : List Item) → IsMakeable text items → (n : ℕ) (i : Item) → n < length items → i ≡ get_or items n i → declares_word text i ≡ true
word_at text items h n i lt e = ap (declares_word text) e ∙ passes_at (declares_word text) items n i (declare_words text 0 0 0 0 items h.names) lt
