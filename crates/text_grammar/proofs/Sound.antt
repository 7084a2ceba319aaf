-- A reading that began with nothing has read the lexemes that it was given, and fits.
use Rattle.std.proofs.Common.{◌≡◌, refl, sym, ap, ◌∙◌, subst, List, [], ◌∷◌, ◌++◌, Option, Some, None, append_assoc}
use Rattle.std.specs.Prelude.{IsTrue, flat_map}
use Rattle.std.proofs.lemmas.Bool.{and_from, and_parts}
use Rattle.std.proofs.lemmas.List.{append-nil, flat_map_more}
use Rattle.text_grammar.specs.declared.tree.Item.{Item}
use Rattle.text_grammar.specs.declared.lexeme.Lexeme.{Lexeme}
use Rattle.text_grammar.specs.declared.part.Phase.{Phase}
use Rattle.text_grammar.specs.declared.part.Phase.TheVariants.{Outside}
use Rattle.text_grammar.specs.declared.part.Part.TheVariants.{Ready}
use Rattle.text_grammar.specs.declared.part.Move.{Move}
use Rattle.text_grammar.specs.declared.part.Move.TheVariants.{Goes, Makes, Stuck}
use Rattle.text_grammar.specs.Grammar.{item_lexemes, may_stand, phase_after, are_arranged}
use Rattle.text_grammar.specs.Moves.{Reading, part_move, moved, after_lexeme, bind, after_all}
use Rattle.text_grammar.specs.Read.{start, part_lexemes, read_lexemes, all_stand, last_phase, IsFit}
use Rattle.text_grammar.proofs.Steps.{ReadPart, part_good}

-- the phase after more items
pub last_more : (p : Phase) (xs ys : List Item) → last_phase p (xs ++ ys) ≡ last_phase (last_phase p xs) ys
last_more p [] ys = refl
last_more p (x ∷ xs) ys = last_more (phase_after p x) xs ys

stand_more : (p : Phase) (xs ys : List Item) → IsTrue (all_stand p xs) → IsTrue (all_stand (last_phase p xs) ys) → IsTrue (all_stand p (xs ++ ys))
stand_more p [] ys h g = g
stand_more p (x ∷ xs) ys h g = let both = and_parts _ _ h in and_from _ _ both.0 (stand_more (phase_after p x) xs ys both.1 g)

-- items that stand where they may, and then items that are arranged
pub arranged_more : (p : Phase) (xs ys : List Item) → IsTrue (all_stand p xs) → IsTrue (are_arranged (last_phase p xs) ys) → IsTrue (are_arranged p (xs ++ ys))
arranged_more p [] ys h g = g
arranged_more p (x ∷ xs) ys h g = let both = and_parts _ _ h in and_from _ _ both.0 (arranged_more (phase_after p x) xs ys both.1 g)

-- a reading that fits, with what was read since
pub record Ran (r : Reading) (ls : List Lexeme) (q : Reading) : Type 0 where
  pub fit : IsFit q
  pub read : read_lexemes q ≡ read_lexemes r ++ ls

-- the whole items, with one that is made
made_read : (items : List Item) (i : Item) (part : List Lexeme) (l : Lexeme) → item_lexemes i ≡ part ++ l ∷ [] → flat_map item_lexemes (items ++ i ∷ []) ++ [] ≡ (flat_map item_lexemes items ++ part) ++ l ∷ []
made_read items i part l h =
    append-nil (flat_map item_lexemes (items ++ i ∷ [])) ∙ sym (flat_map_more item_lexemes [] items i)
    ∙ ap (λ (k : List Lexeme). flat_map item_lexemes items ++ k) h ∙ sym (append_assoc (flat_map item_lexemes items) part (l ∷ []))

one_stands : (p : Phase) (i : Item) → IsTrue (may_stand p i) → IsTrue (all_stand p (i ∷ []))
one_stands p i h = and_from _ _ h refl

moved_read : (r : Reading) (l : Lexeme) (m : Move) (q : Reading) → IsFit r → ReadPart r.phase r.part l m → moved r m ≡ Some q → Ran r (l ∷ []) q
moved_read r l (Goes p) q f h e =
    let same : record r { part = p } ≡ q = cc in
    subst (λ (z : Reading). Ran r (l ∷ []) z) same (record {
      fit = record { stand = f.stand; phase = f.phase; part = h.1 };
      read = ap (λ (k : List Lexeme). flat_map item_lexemes r.items ++ k) h.0 ∙ sym (append_assoc (flat_map item_lexemes r.items) (part_lexemes r.part) (l ∷ []));
    })
moved_read r l (Makes i) q f h e =
    let s : Reading = record { items = r.items ++ i ∷ []; phase = phase_after r.phase i; part = Ready } in
    let same : s ≡ q = cc in
    subst (λ (z : Reading). Ran r (l ∷ []) z) same (record {
      fit = record {
        stand = stand_more Outside r.items (i ∷ []) f.stand (one_stands _ i (subst (λ (p : Phase). IsTrue (may_stand p i)) (sym f.phase) h.1));
        phase = last_more Outside r.items (i ∷ []) ∙ ap (λ (p : Phase). phase_after p i) f.phase;
        part = refl;
      };
      read = made_read r.items i (part_lexemes r.part) l h.0;
    })
moved_read r l Stuck q f h e = cc

-- one lexeme more
pub step_read : (r : Reading) (l : Lexeme) (q : Reading) → IsFit r → after_lexeme r l ≡ Some q → Ran r (l ∷ []) q
unfolding after_lexeme
step_read r l q f e = moved_read r l (part_move r.phase r.part l) q f (part_good r.phase r.part l f.part) e

after_first : (r : Reading) (l : Lexeme) (ls : List Lexeme) (q : Reading) (o : Option Reading) → IsFit r → after_lexeme r l ≡ o → bind o (λ s. after_all s ls) ≡ Some q → ((s : Reading) → IsFit s → after_all s ls ≡ Some q → Ran s ls q) → Ran r (l ∷ ls) q
after_first r l ls q None f a e more = cc
after_first r l ls q (Some s) f a e more =
    let one = step_read r l s f a in
    let rest = more s one.fit e in
    record {
      fit = rest.fit;
      read = rest.read ∙ ap (λ (k : List Lexeme). k ++ ls) one.read ∙ append_assoc (read_lexemes r) (l ∷ []) ls;
    }

-- many lexemes more
pub run_read : (r : Reading) (ls : List Lexeme) (q : Reading) → IsFit r → after_all r ls ≡ Some q → Ran r ls q
run_read r [] q f e =
    let same : r ≡ q = cc in
    subst (λ (z : Reading). Ran r [] z) same (record { fit = f; read = sym (append-nil (read_lexemes r)) })
run_read r (l ∷ ls) q f e = after_first r l ls q (after_lexeme r l) f refl e (λ s. run_read s ls q)

pub start_fits : IsFit start
start_fits = record { stand = refl; phase = refl; part = refl }

-- what was read from the beginning is what was given
pub all_read : (ls : List Lexeme) (r : Reading) → after_all start ls ≡ Some r → Ran start ls r
all_read ls r e = run_read start ls r start_fits e
