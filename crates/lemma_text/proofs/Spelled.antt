-- The pieces of a list spell its text.
use Rattle.std.proofs.Common.{◌≡◌, refl, sym, ap, ◌∙◌, ℕ, List, [], ◌∷◌, ◌++◌, Bool, true, false, ◌&&◌, append_assoc}
use Rattle.std.specs.Prelude.{map, flat_map, codes}
use Rattle.std.specs.List.{list_all}
use Rattle.std.proofs.lemmas.Grind.{flat_map-append}
use Rattle.std.proofs.lemmas.List.{append-nil}
use Rattle.std.proofs.lemmas.List.Folds.{flat_map-map, list_all-append}
use Rattle.qc_model.specs.declared.problem.Kind.{Kind}
use Rattle.proof_tree.specs.Text.{place_text, range_text}
use Rattle.lemma_list.specs.declared.lemma.Literal.{Literal}
use Rattle.lemma_list.specs.declared.lemma.SumLiteral.{SumLiteral}
use Rattle.lemma_list.specs.declared.lemma.Step.{Step}
use Rattle.lemma_list.specs.declared.lemma.Ending.{Ending}
use Rattle.lemma_list.specs.declared.lemma.Ending.TheVariants.{Emptied, Lost as LostEnding, Goal as GoalEnding}
use Rattle.lemma_list.specs.Lemmas.{Entry, shown, forget}
use Rattle.lemma_text.specs.declared.item.Item.{Item}
use Rattle.lemma_text.specs.declared.item.Item.TheVariants.{Sum, Step as StepItem}
use Rattle.lemma_text.specs.Text.{literal_text, sum_text, loser_text, step_text, ending_text, entry_text, head_text, list_text}
use Rattle.lemma_text.specs.Ranges.{literal_fits, sum_fits, step_fits, ending_fits, entry_fits, has_text}
use Rattle.lemma_text.specs.Items.{end_text, item_text, item_fits, is_none, literal_items, ending_items, entry_items, list_items}

literals_spelled : (ls : List Literal) → end_text (is_none ls) ++ flat_map item_text (literal_items ls) ≡ flat_map literal_text ls ++ codes "\n"
literals_spelled [] = refl
literals_spelled (l ∷ ls) =
    let text : List ℕ = place_text l.x.0 ++ codes " " ++ range_text l.lo l.hi in
    let step : (text ++ end_text (is_none ls)) ++ flat_map item_text (literal_items ls) ≡ (text ++ flat_map literal_text ls) ++ codes "\n" =
    append_assoc text (end_text (is_none ls)) (flat_map item_text (literal_items ls)) ∙ ap (λ (u : List ℕ). text ++ u) (literals_spelled ls) ∙ sym (append_assoc text (flat_map literal_text ls) (codes "\n")) in
    ap (λ (u : List ℕ). 32 ∷ u) step

ending_spelled : (e : Ending) → flat_map item_text (ending_items e) ≡ ending_text e
ending_spelled Emptied = refl
ending_spelled (LostEnding r) = append-nil (ending_text (LostEnding r))
ending_spelled GoalEnding = refl

regroup : (l b f g n s t e : List ℕ) → b ++ f ≡ g ++ n → (l ++ b) ++ (f ++ (s ++ (t ++ e))) ≡ ((((l ++ g) ++ n) ++ s) ++ t) ++ e
regroup l b f g n s t e h =
    append_assoc l b (f ++ (s ++ (t ++ e))) ∙ ap (λ (u : List ℕ). l ++ u) (sym (append_assoc b f (s ++ (t ++ e))) ∙ ap (λ (u : List ℕ). u ++ (s ++ (t ++ e))) h)
    ∙ simp append_assoc

entry_spelled : (e : Entry) → flat_map item_text (entry_items e) ≡ entry_text e
entry_spelled (shown s) =
    let ls = literal_items s.lemma.literals in
    let zs = s.lemma.sums in
    let ss = s.steps in
    let end = ending_items s.ending in
    let sums : flat_map item_text (map Sum zs) ≡ flat_map sum_text zs = flat_map-map item_text Sum zs in
    let steps : flat_map item_text (map StepItem ss) ≡ flat_map step_text ss = flat_map-map item_text StepItem ss in
    let last : flat_map item_text (map StepItem ss ++ end) ≡ flat_map step_text ss ++ ending_text s.ending =
    flat_map-append item_text (map StepItem ss) end ∙ ap (λ (u : List ℕ). u ++ flat_map item_text end) steps ∙ ap (λ (u : List ℕ). flat_map step_text ss ++ u) (ending_spelled s.ending) in
    let middle : flat_map item_text (map Sum zs ++ (map StepItem ss ++ end)) ≡ flat_map sum_text zs ++ (flat_map step_text ss ++ ending_text s.ending) =
    flat_map-append item_text (map Sum zs) (map StepItem ss ++ end) ∙ ap (λ (u : List ℕ). u ++ flat_map item_text (map StepItem ss ++ end)) sums ∙ ap (λ (u : List ℕ). flat_map sum_text zs ++ u) last in
    let all : flat_map item_text (ls ++ (map Sum zs ++ (map StepItem ss ++ end))) ≡ flat_map item_text ls ++ (flat_map sum_text zs ++ (flat_map step_text ss ++ ending_text s.ending)) =
    flat_map-append item_text ls (map Sum zs ++ (map StepItem ss ++ end)) ∙ ap (λ (u : List ℕ). flat_map item_text ls ++ u) middle in
    ap (λ (u : List ℕ). (loser_text s.lemma.loser ++ end_text (is_none s.lemma.literals)) ++ u) all
    ∙ regroup (loser_text s.lemma.loser) (end_text (is_none s.lemma.literals)) (flat_map item_text ls) (flat_map literal_text s.lemma.literals) (codes "\n") (flat_map sum_text zs) (flat_map step_text ss) (ending_text s.ending)
    (literals_spelled s.lemma.literals)
entry_spelled (forget n) = append-nil (entry_text (forget n))

entries_spelled : (es : List Entry) → flat_map item_text (flat_map entry_items es) ≡ flat_map entry_text es
entries_spelled [] = refl
entries_spelled (e ∷ es) =
    flat_map-append item_text (entry_items e) (flat_map entry_items es) ∙ ap (λ (u : List ℕ). u ++ flat_map item_text (flat_map entry_items es)) (entry_spelled e) ∙ ap (λ (u : List ℕ). entry_text e ++ u) (entries_spelled es)

pub list_spelled : (loser : Kind) (es : List Entry) → flat_map item_text (list_items loser es) ≡ list_text loser es
list_spelled loser es = ap (λ (u : List ℕ). head_text loser ++ u) (entries_spelled es)

-- ranges
both : (a b c d : Bool) → a ≡ b → c ≡ d → (a && c) ≡ (b && d)
both a b c d h g = ap (λ (x : Bool). x && c) h ∙ ap (λ (x : Bool). b && x) g

grouped : (a b c d : Bool) → (a && (b && (c && d))) ≡ (((a && b) && c) && d)
grouped true true c d = refl
grouped true false c d = refl
grouped false b c d = refl

and_true : (a : Bool) → (a && true) ≡ a
and_true true = refl
and_true false = refl

literals_fit : (ls : List Literal) → list_all item_fits (literal_items ls) ≡ list_all literal_fits ls
literals_fit [] = refl
literals_fit (l ∷ ls) = ap (λ (x : Bool). literal_fits l && x) (literals_fit ls)

sums_fit : (zs : List SumLiteral) → list_all item_fits (map Sum zs) ≡ list_all sum_fits zs
sums_fit [] = refl
sums_fit (z ∷ zs) = ap (λ (x : Bool). sum_fits z && x) (sums_fit zs)

steps_fit : (ss : List Step) → list_all item_fits (map StepItem ss) ≡ list_all step_fits ss
steps_fit [] = refl
steps_fit (s ∷ ss) = ap (λ (x : Bool). step_fits s && x) (steps_fit ss)

end_fits : (e : Ending) → list_all item_fits (ending_items e) ≡ ending_fits e
end_fits Emptied = refl
end_fits (LostEnding r) = and_true (ending_fits (LostEnding r))
end_fits GoalEnding = refl

all_append : (xs ys : List Item) (a b : Bool) → list_all item_fits xs ≡ a → list_all item_fits ys ≡ b → list_all item_fits (xs ++ ys) ≡ (a && b)
all_append xs ys a b h g = list_all-append item_fits xs ys ∙ both _ a _ b h g

entry_all : (e : Entry) → list_all item_fits (entry_items e) ≡ entry_fits e
entry_all (shown s) =
    all_append (literal_items s.lemma.literals) _ _ _ (literals_fit s.lemma.literals)
    (all_append (map Sum s.lemma.sums) _ _ _ (sums_fit s.lemma.sums) (all_append (map StepItem s.steps) _ _ _ (steps_fit s.steps) (end_fits s.ending)))
    ∙ grouped (list_all literal_fits s.lemma.literals) (list_all sum_fits s.lemma.sums) (list_all step_fits s.steps) (ending_fits s.ending)
entry_all (forget n) = and_true (entry_fits (forget n))

entries_all : (es : List Entry) → list_all item_fits (flat_map entry_items es) ≡ list_all entry_fits es
entries_all [] = refl
entries_all (e ∷ es) = all_append (entry_items e) (flat_map entry_items es) (entry_fits e) (list_all entry_fits es) (entry_all e) (entries_all es)

pub list_fits : (loser : Kind) (es : List Entry) → list_all item_fits (list_items loser es) ≡ has_text es
list_fits loser es = entries_all es
