-- Which lexemes are those of a problem: those that are read to the end, with the items that were read.
use Rattle.std.proofs.Common.{◌≡◌, sym, ap, ◌∙◌, subst, List, [], ◌∷◌, ◌++◌, Option, Some, None, append_assoc}
use Rattle.std.specs.Prelude.{IsTrue, flat_map}
use Rattle.std.proofs.lemmas.List.{append-nil}
use Rattle.text_grammar.specs.declared.tree.Item.{Item}
use Rattle.text_grammar.specs.declared.lexeme.Lexeme.{Lexeme}
use Rattle.text_grammar.specs.declared.part.Phase.{Phase}
use Rattle.text_grammar.specs.declared.part.Phase.TheVariants.{Outside}
use Rattle.text_grammar.specs.declared.part.Part.{Part}
use Rattle.text_grammar.specs.declared.part.Part.TheVariants.{Ended}
use Rattle.text_grammar.specs.Grammar.{item_lexemes, in_goal, are_arranged, IsProblem, Begins}
use Rattle.text_grammar.specs.Moves.{Reading, after_lexeme, bind, after_all}
use Rattle.text_grammar.specs.Read.{start, part_lexemes, part_fits, last_phase}
use Rattle.text_grammar.proofs.Sound.{arranged_more, all_read}
use Rattle.text_grammar.proofs.Complete.{problem_run, after_append}

-- lexemes that are read to the end are those of a problem with the items that were read
pub ended_is_problem : (ls : List Lexeme) (r : Reading) → after_all start ls ≡ Some r → r.part ≡ Ended → IsProblem r.items ls
ended_is_problem ls r e ended =
    let ran = all_read ls r e in
    let last : IsTrue (part_fits r.phase Ended) = subst (λ (p : Part). IsTrue (part_fits r.phase p)) ended ran.fit.part in
    record {
      arranged =
          subst (λ (k : List Item). IsTrue (are_arranged Outside k)) (append-nil r.items)
          (arranged_more Outside r.items [] ran.fit.stand (subst (λ (p : Phase). IsTrue (in_goal p)) (sym ran.fit.phase) last));
      written = sym ran.read ∙ ap (λ (p : Part). flat_map item_lexemes r.items ++ part_lexemes p) ended;
    }

-- the reading after a problem
abbrev pub whole : List Item → Reading
whole items = record { items = items; phase = last_phase Outside items; part = Ended }

-- the lexemes of a problem are read to the end, and its items are what was read
pub problem_is_read : (items : List Item) (ls : List Lexeme) → IsProblem items ls → after_all start ls ≡ Some (whole items)
problem_is_read items ls p = ap (λ (k : List Lexeme). after_all start k) p.written ∙ problem_run items p.arranged

-- where a lexeme can't follow what was read, no problem begins so
pub stuck_begins_none : (ls : List Lexeme) (l : Lexeme) (r : Reading) → after_all start ls ≡ Some r → after_lexeme r l ≡ None → Begins (ls ++ l ∷ []) → ⊥
stuck_begins_none ls l r e stuck b =
    let goes : after_all start ((ls ++ l ∷ []) ++ b.more) ≡ Some (whole b.items) = problem_is_read b.items ((ls ++ l ∷ []) ++ b.more) b.whole in
    let front : after_all start (ls ++ l ∷ []) ≡ None =
    after_append start ls (l ∷ []) ∙ ap (λ (o : Option Reading). bind o (λ q. after_all q (l ∷ []))) e
    ∙ ap (λ (o : Option Reading). bind o (λ q. after_all q [])) stuck in
    let stops : after_all start ((ls ++ l ∷ []) ++ b.more) ≡ None =
    after_append start (ls ++ l ∷ []) b.more ∙ ap (λ (o : Option Reading). bind o (λ q. after_all q b.more)) front in
    let both : Some (whole b.items) ≡ None = sym goes ∙ stops in
    cc

-- where the end wasn't read, the lexemes are those of no problem
pub open_is_none : (ls : List Lexeme) (r : Reading) → after_all start ls ≡ Some r → (r.part ≡ Ended → ⊥) → (items : List Item) → IsProblem items ls → ⊥
open_is_none ls r e n items p =
    let both : Some r ≡ Some (whole items) = sym e ∙ problem_is_read items ls p in
    let same : r ≡ whole items = cc in
    n (ap (λ (q : Reading). q.part) same)

-- lexemes are those of one problem at most
pub one_problem : (items items2 : List Item) (ls : List Lexeme) → IsProblem items ls → IsProblem items2 ls → items ≡ items2
one_problem items items2 ls p q =
    let both : Some (whole items) ≡ Some (whole items2) = sym (problem_is_read items ls p) ∙ problem_is_read items2 ls q in
    let same : whole items ≡ whole items2 = cc in
    ap (λ (r : Reading). r.items) same

-- what begins a problem after more lexemes begins one before them
pub fewer_begin : (ls more : List Lexeme) → Begins (ls ++ more) → Begins ls
fewer_begin ls more b =
    record { more = more ++ b.more; items = b.items; whole = subst (λ (k : List Lexeme). IsProblem b.items k) (append_assoc ls more b.more) b.whole }

-- a problem begins one, as does each of its fronts
pub problem_begins : (items : List Item) (ls more : List Lexeme) → IsProblem items (ls ++ more) → Begins ls
problem_begins items ls more p = record { more = more; items = items; whole = p }
