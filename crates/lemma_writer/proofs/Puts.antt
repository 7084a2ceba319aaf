-- A text that goes to a sink part by part, behind the bytes that are held.
use Rattle.std.proofs.Common.{◌≡◌, ◌∙◌, refl, sym, ap, subst, ℕ, List, [], ◌∷◌, ◌++◌, Bool, append_assoc, Option, Result, Ok, Err, OnOk, OnErr, flat_map, map}
use Rattle.std.proofs.lemmas.Grind.{flat_map-append}
use Rattle.std.proofs.lemmas.List.{append-nil}
use Rattle.qc_io.specs.Sink.{AppendsPrefix, Moves}
use Rattle.qc_io.proofs.Known.{moves_then, moves_none, prefix_then, prefix_of}
use Rattle.std.proofs.lemmas.List.{append_cancel_left}
use Rattle.qc_model.specs.declared.problem.Kind.{Kind}
use Rattle.qc_model.specs.declared.problem.Kind.TheVariants.{Exists}
use Rattle.lemma_list.specs.declared.lemma.Literal.{Literal}
use Rattle.lemma_list.specs.declared.lemma.SumLiteral.{SumLiteral}
use Rattle.lemma_list.specs.declared.lemma.Step.{Step}
use Rattle.lemma_list.specs.declared.lemma.Ending.{Ending}
use Rattle.lemma_list.specs.Lemmas.{Lemma, Entry}
use Rattle.lemma_text.specs.declared.item.Item.{Item}
use Rattle.lemma_text.specs.declared.item.Item.TheVariants.{Head, Lemma as LemmaItem, Literal as LiteralItem, Sum as SumItem, Step as StepItem}
use Rattle.lemma_text.specs.Text.{head_text, entry_text}
use Rattle.lemma_text.specs.Items.{item_text, is_none, literal_items, entry_items}
use Rattle.lemma_text.proofs.Spelled.{list_spelled}
use Rattle.lemma_writer.specs.Entries.{shown_of, body_items}

-- so many bytes are put or held, of all that are to be
pub record Going (a b : Option (List ℕ)) (held all rest : List ℕ) : Type 0 where
  pub done : List ℕ
  pub moves : Moves a b held done
  pub left : done ++ rest ≡ all

pub going_first : (a : Option (List ℕ)) (held text : List ℕ) → Going a a held (held ++ text) text
going_first a held text = record { done = held; moves = moves_none a held held refl; left = refl }

pub going_on : (a b c : Option (List ℕ)) (held all x rest next : List ℕ) → Going a b held all (x ++ rest) → Moves b c next (held ++ x) → Going a c next all rest
going_on a b c held all x rest next g m = record {
  done = g.done ++ x;
  moves = moves_then a b c g.done held x next g.moves m;
  left = append_assoc g.done x rest ∙ g.left;
}

pub going_last : (a b : Option (List ℕ)) (held all : List ℕ) → Going a b held all [] → Moves a b held all
going_last a b held all g = subst (Moves a b held) (sym (append-nil g.done) ∙ g.left) g.moves

pub going_fails : (a b c : Option (List ℕ)) (held all x rest : List ℕ) → Going a b held all (x ++ rest) → AppendsPrefix b c (held ++ x) → AppendsPrefix a c all
going_fails a b c held all x rest g p =
    subst (AppendsPrefix a c) (append_assoc g.done x rest ∙ g.left) (prefix_of a c (g.done ++ x) rest (prefix_then a b c g.done held x g.moves p))

-- two parts, by their pieces
pub both_put : (a b c : Option (List ℕ)) (held middle last : List ℕ) (xs ys : List Item) → Moves a b middle (held ++ flat_map item_text xs) → Moves b c last (middle ++ flat_map item_text ys) → Moves a c last (held ++ flat_map item_text (xs ++ ys))
both_put a b c held middle last xs ys p q =
    subst (Moves a c last) (append_assoc held (flat_map item_text xs) (flat_map item_text ys) ∙ ap (λ (u : List ℕ). held ++ u) (sym (flat_map-append item_text xs ys)))
    (moves_then a b c (held ++ flat_map item_text xs) middle (flat_map item_text ys) last p q)

pub first_fails : (a b : Option (List ℕ)) (held : List ℕ) (xs ys : List Item) → AppendsPrefix a b (held ++ flat_map item_text xs) → AppendsPrefix a b (held ++ flat_map item_text (xs ++ ys))
first_fails a b held xs ys p =
    subst (AppendsPrefix a b) (append_assoc held (flat_map item_text xs) (flat_map item_text ys) ∙ ap (λ (u : List ℕ). held ++ u) (sym (flat_map-append item_text xs ys)))
    (prefix_of a b (held ++ flat_map item_text xs) (flat_map item_text ys) p)

pub second_fails : (a b c : Option (List ℕ)) (held middle : List ℕ) (xs ys : List Item) → Moves a b middle (held ++ flat_map item_text xs) → AppendsPrefix b c (middle ++ flat_map item_text ys) → AppendsPrefix a c (held ++ flat_map item_text (xs ++ ys))
second_fails a b c held middle xs ys p q =
    subst (AppendsPrefix a c) (append_assoc held (flat_map item_text xs) (flat_map item_text ys) ∙ ap (λ (u : List ℕ). held ++ u) (sym (flat_map-append item_text xs ys)))
    (prefix_then a b c (held ++ flat_map item_text xs) middle (flat_map item_text ys) p q)

-- the same of parts that are said in another way
pub both_put_as : (a b c : Option (List ℕ)) (held middle last : List ℕ) (xs xs' ys ys' : List Item) → xs' ≡ xs → ys' ≡ ys → Moves a b middle (held ++ flat_map item_text xs') → Moves b c last (middle ++ flat_map item_text ys')
    → Moves a c last (held ++ flat_map item_text (xs ++ ys))
both_put_as a b c held middle last xs xs' ys ys' e f p q =
    both_put a b c held middle last xs ys (subst (λ (is : List Item). Moves a b middle (held ++ flat_map item_text is)) e p) (subst (λ (is : List Item). Moves b c last (middle ++ flat_map item_text is)) f q)

pub second_fails_as : (a b c : Option (List ℕ)) (held middle : List ℕ) (xs xs' ys ys' : List Item) → xs' ≡ xs → ys' ≡ ys → Moves a b middle (held ++ flat_map item_text xs') → AppendsPrefix b c (middle ++ flat_map item_text ys')
    → AppendsPrefix a c (held ++ flat_map item_text (xs ++ ys))
second_fails_as a b c held middle xs xs' ys ys' e f p q =
    second_fails a b c held middle xs ys (subst (λ (is : List Item). Moves a b middle (held ++ flat_map item_text is)) e p) (subst (λ (is : List Item). AppendsPrefix b c (middle ++ flat_map item_text is)) f q)

-- the next of the pieces that are left
pub literal_due : (a b : Option (List ℕ)) (held all : List ℕ) (rest : List Literal) (l : Literal) (after : List Literal) (last : Bool) → rest ≡ l ∷ after → last ≡ is_none after
    → Going a b held all (flat_map item_text (literal_items rest)) → Going a b held all (item_text (LiteralItem l last) ++ flat_map item_text (literal_items after))
literal_due a b held all rest l after last e f g =
    subst (λ (t : Bool). Going a b held all (item_text (LiteralItem l t) ++ flat_map item_text (literal_items after))) (sym f)
    (subst (λ (ls : List Literal). Going a b held all (flat_map item_text (literal_items ls))) e g)

pub sum_due : (a b : Option (List ℕ)) (held all : List ℕ) (rest : List SumLiteral) (z : SumLiteral) (after : List SumLiteral) → rest ≡ z ∷ after
    → Going a b held all (flat_map item_text (map SumItem rest)) → Going a b held all (item_text (SumItem z) ++ flat_map item_text (map SumItem after))
sum_due a b held all rest z after e g = subst (λ (zs : List SumLiteral). Going a b held all (flat_map item_text (map SumItem zs))) e g

pub step_due : (a b : Option (List ℕ)) (held all : List ℕ) (rest : List Step) (s : Step) (after : List Step) → rest ≡ s ∷ after
    → Going a b held all (flat_map item_text (map StepItem rest)) → Going a b held all (item_text (StepItem s) ++ flat_map item_text (map StepItem after))
step_due a b held all rest s after e g = subst (λ (ss : List Step). Going a b held all (flat_map item_text (map StepItem ss))) e g

-- the pieces of an entry spell it
entry_is : (e : Entry) → flat_map item_text (entry_items e) ≡ entry_text e
entry_is e =
    let whole : item_text (Head Exists) ++ flat_map item_text (entry_items e ++ []) ≡ head_text Exists ++ (entry_text e ++ []) = list_spelled Exists (e ∷ []) in
    let rest = append_cancel_left (head_text Exists) (flat_map item_text (entry_items e ++ [])) (entry_text e ++ []) whole in
    ap (flat_map item_text) (sym (append-nil (entry_items e))) ∙ rest ∙ append-nil (entry_text e)

lemma_is : (m : Lemma) (steps : List Step) (end : Ending) (k : Kind) (bare : Bool) → k ≡ m.loser → bare ≡ is_none m.literals
    → item_text (LemmaItem k bare) ++ flat_map item_text (body_items m steps end) ≡ entry_text (shown_of m steps end)
lemma_is m steps end k bare e f =
    ap (λ (x : Kind). item_text (LemmaItem x bare) ++ flat_map item_text (body_items m steps end)) e
    ∙ ap (λ (t : Bool). item_text (LemmaItem m.loser t) ++ flat_map item_text (body_items m steps end)) f
    ∙ entry_is (shown_of m steps end)

pub lemma_put : (a b c : Option (List ℕ)) (held middle last : List ℕ) (m : Lemma) (steps : List Step) (end : Ending) (k : Kind) (bare : Bool) → k ≡ m.loser → bare ≡ is_none m.literals
    → Moves a b middle (held ++ item_text (LemmaItem k bare)) → Moves b c last (middle ++ flat_map item_text (body_items m steps end)) → Moves a c last (held ++ entry_text (shown_of m steps end))
lemma_put a b c held middle last m steps end k bare e f p q =
    let x = item_text (LemmaItem k bare) in
    let y = flat_map item_text (body_items m steps end) in
    subst (Moves a c last) (append_assoc held x y ∙ ap (λ (u : List ℕ). held ++ u) (lemma_is m steps end k bare e f)) (moves_then a b c (held ++ x) middle y last p q)

pub lemma_fails : (a b : Option (List ℕ)) (held : List ℕ) (m : Lemma) (steps : List Step) (end : Ending) (k : Kind) (bare : Bool) → k ≡ m.loser → bare ≡ is_none m.literals
    → AppendsPrefix a b (held ++ item_text (LemmaItem k bare)) → AppendsPrefix a b (held ++ entry_text (shown_of m steps end))
lemma_fails a b held m steps end k bare e f p =
    let x = item_text (LemmaItem k bare) in
    let y = flat_map item_text (body_items m steps end) in
    subst (AppendsPrefix a b) (append_assoc held x y ∙ ap (λ (u : List ℕ). held ++ u) (lemma_is m steps end k bare e f)) (prefix_of a b (held ++ x) y p)

pub body_fails : (a b c : Option (List ℕ)) (held middle : List ℕ) (m : Lemma) (steps : List Step) (end : Ending) (k : Kind) (bare : Bool) → k ≡ m.loser → bare ≡ is_none m.literals
    → Moves a b middle (held ++ item_text (LemmaItem k bare)) → AppendsPrefix b c (middle ++ flat_map item_text (body_items m steps end)) → AppendsPrefix a c (held ++ entry_text (shown_of m steps end))
body_fails a b c held middle m steps end k bare e f p q =
    let x = item_text (LemmaItem k bare) in
    let y = flat_map item_text (body_items m steps end) in
    subst (AppendsPrefix a c) (append_assoc held x y ∙ ap (λ (u : List ℕ). held ++ u) (lemma_is m steps end k bare e f)) (prefix_then a b c (held ++ x) middle y p q)
