-- Boxes that are cut to literals, and literals that a box entails.
use Rattle.std.proofs.Common.{◌≡◌, inl, inr, refl, ℕ, ◌<◌, ◌≤◌, true, List, [], ◌∷◌, ◌++◌, length, set, get_or, filter, sym, ap, ◌∙◌, arith}
use Rattle.std.specs.Prelude.{ℤ, pos}
use Rattle.std.specs.List.{list_all}
use Rattle.std.proofs.lemmas.Bool.{and_parts}
use Rattle.qc_model.specs.Lists.{Among, LiesIn}
use Rattle.qc_model.specs.Domains.{Box}
use Rattle.model_table.proofs.Fits.{all_at}
use Rattle.lemma_list.specs.declared.lemma.Literal.{Literal}
use Rattle.lemma_list.specs.Literals.{meets, literals_hold, cut_to, box_to}
use Rattle.lemma_boxes.proofs.Lists.{all_from, lies_filter, left_filter, left_other, get_front}

-- values that meet the literals lie in the box cut to them
cut_lies : (ls rest : List Literal) (box : Box) (w : List ℤ) → LiesIn w box → list_all (λ l. meets ls l.x.0 (get_or w l.x.0 (pos 0))) rest ≡ true → LiesIn w (cut_to ls rest box)
cut_lies ls [] box w h e = h
cut_lies ls (l ∷ rest) box w h e =
    let p = and_parts (meets ls l.x.0 (get_or w l.x.0 (pos 0))) (list_all (λ r. meets ls r.x.0 (get_or w r.x.0 (pos 0))) rest) e in
    cut_lies ls rest (set box l.x.0 (filter (meets ls l.x.0) (get_or box l.x.0 []))) w (lies_filter (meets ls l.x.0) box l.x.0 w h p.0) p.1

pub box_lies : (ls : List Literal) (box : Box) (w : List ℤ) → LiesIn w box → literals_hold ls w ≡ true → LiesIn w (box_to ls box)
box_lies ls box w h e = cut_lies ls ls box w h e

-- a variable without literals keeps its values
cut_keeps : (n : ℕ) (ls rest : List Literal) (box : Box) (x : ℕ) (v : ℤ) → ((l : Literal) → Among l rest → l.x.0 < n) → n ≤ x → Among v (get_or box x []) → Among v (get_or (cut_to ls rest box) x [])
cut_keeps n ls [] box x v f l h = h
cut_keeps n ls (c ∷ rest) box x v f l h =
    let b = f c (inl refl) in
    cut_keeps n ls rest (set box c.x.0 (filter (meets ls c.x.0) (get_or box c.x.0 []))) x v (λ r i. f r (inr i)) l
    (left_other box c.x.0 x (filter (meets ls c.x.0) (get_or box c.x.0 [])) v (λ q. absurd (omega arith)) h)

pub box_keeps : (n : ℕ) (ls : List Literal) (box : Box) (x : ℕ) (v : ℤ) → ((l : Literal) → Among l ls → l.x.0 < n) → n ≤ x → Among v (get_or box x []) → Among v (get_or (box_to ls box) x [])
box_keeps n ls box x v f l h = cut_keeps n ls ls box x v f l h

-- and none gets more
cut_less : (ls rest : List Literal) (box : Box) (x : ℕ) (v : ℤ) → Among v (get_or (cut_to ls rest box) x []) → Among v (get_or box x [])
cut_less ls [] box x v h = h
cut_less ls (l ∷ rest) box x v h =
    left_filter (meets ls l.x.0) box l.x.0 x v (cut_less ls rest (set box l.x.0 (filter (meets ls l.x.0) (get_or box l.x.0 []))) x v h)

pub box_less : (ls : List Literal) (box : Box) (x : ℕ) (v : ℤ) → Among v (get_or (box_to ls box) x []) → Among v (get_or box x [])
box_less ls box x v h = cut_less ls ls box x v h

-- literals on the first values hold of all
pub literals_longer : (ls : List Literal) (a r : List ℤ) → ((l : Literal) → Among l ls → l.x.0 < length a) → literals_hold ls a ≡ true → literals_hold ls (a ++ r) ≡ true
literals_longer ls a r f e = all_from (λ l. meets ls l.x.0 (get_or (a ++ r) l.x.0 (pos 0))) ls (λ l i.
    ap (meets ls l.x.0) (get_front a r l.x.0 (f l i)) ∙ all_at (λ y. meets ls y.x.0 (get_or a y.x.0 (pos 0))) ls l e i)

pub literals_front : (ls : List Literal) (a r : List ℤ) → ((l : Literal) → Among l ls → l.x.0 < length a) → literals_hold ls (a ++ r) ≡ true → literals_hold ls a ≡ true
literals_front ls a r f e = all_from (λ l. meets ls l.x.0 (get_or a l.x.0 (pos 0))) ls (λ l i.
    ap (meets ls l.x.0) (sym (get_front a r l.x.0 (f l i))) ∙ all_at (λ y. meets ls y.x.0 (get_or (a ++ r) y.x.0 (pos 0))) ls l e i)
