-- Pieces are read whole, and so are lists of them.
use Rattle.std.proofs.Common.{◌≡◌, refl, sym, ap, ◌∙◌, ℕ, suc, List, [], ◌∷◌, ◌++◌, Bool, true, false, add-one, append_assoc}
use Rattle.std.specs.Prelude.{ℤ, pos, codes, nat_le}
use Rattle.std.specs.Fmt.{decimal, signed_decimal}
use Rattle.std.proofs.lemmas.Bool.{and_parts}
use Rattle.qc_model.specs.declared.problem.Kind.{Kind}
use Rattle.qc_model.specs.declared.problem.Kind.TheVariants.{Exists, Forall}
use Rattle.proof_tree.specs.Text.{place_text, range_text, is_place}
use Rattle.lemma_list.specs.declared.lemma.LemmaId.{LemmaId}
use Rattle.lemma_list.specs.declared.lemma.Literal.{Literal}
use Rattle.lemma_list.specs.declared.lemma.SumLiteral.{SumLiteral}
use Rattle.lemma_list.specs.declared.lemma.Reason.{Reason}
use Rattle.lemma_list.specs.declared.lemma.Reason.TheVariants.{Constraint as ByConstraint, Lemma as ByLemma}
use Rattle.lemma_list.specs.declared.lemma.Step.{Step}
use Rattle.lemma_list.specs.declared.lemma.Step.TheVariants.{Cut, Choose}
use Rattle.lemma_list.specs.declared.lemma.Ending.TheVariants.{Lost as LostEnding}
use Rattle.lemma_text.specs.declared.item.Item.{Item}
use Rattle.lemma_text.specs.declared.item.Item.TheVariants.{Head, Lemma as LemmaItem, Literal as LiteralItem, Sum as SumItem, Step as StepItem, Lost, Goal, Forget}
use Rattle.lemma_text.specs.declared.parts.Field.TheVariants.{Variable, Constraint, Named, Value, Total}
use Rattle.lemma_text.specs.declared.parts.Form.TheVariants.{Literal as LiteralForm, Sum, CutByConstraint, CutByLemma, Choice, LostToConstraint, LostToLemma, Forgotten}
use Rattle.lemma_text.specs.declared.parts.Due.{Due}
use Rattle.lemma_text.specs.declared.parts.Due.TheVariants.{Entries, Steps, Sums}
use Rattle.lemma_text.specs.Text.{step_text, ending_text}
use Rattle.lemma_text.specs.Ranges.{literal_fits, sum_fits, reason_fits, step_fits, is_named}
use Rattle.lemma_text.specs.Items.{item_text, item_fits}
use Rattle.lemma_text.specs.States.{State, due, Place, at_start, at_literal, at, state_at, place_after, allows}
use Rattle.lemma_text.specs.Standing.{Standing, going, standing_from}
use Rattle.lemma_text.proofs.NumbersRead.{number_read}

-- a number from 1, as the text has it
pub counted_text : (k : ℕ) → place_text k ≡ signed_decimal (pos (suc k))
counted_text k = ap decimal (add-one k)

pub counted_fits : (most k : ℕ) → is_place most k ≡ true → nat_le (suc k) most ≡ true
counted_fits most k h = ap (λ (x : ℕ). nat_le x most) (sym (add-one k)) ∙ h

-- a counted number, and a range
pub three_numbers : (k : ℕ) (low high : ℤ) (e : ℕ) (rest : List ℕ)
    → ((place_text k ++ codes " " ++ range_text low high) ++ e ∷ []) ++ rest ≡ signed_decimal (pos (suc k)) ++ 32 ∷ (signed_decimal low ++ 32 ∷ (signed_decimal high ++ e ∷ rest))
three_numbers k low high e rest = ap (λ (u : List ℕ). ((u ++ codes " " ++ range_text low high) ++ e ∷ []) ++ rest) (counted_text k) ∙ simp append_assoc

pub four_numbers : (k : ℕ) (low high : ℤ) (c : ℕ) (rest : List ℕ)
    → (place_text k ++ codes " " ++ range_text low high ++ codes " " ++ place_text c ++ codes "\n") ++ rest
    ≡ signed_decimal (pos (suc k)) ++ 32 ∷ (signed_decimal low ++ 32 ∷ (signed_decimal high ++ 32 ∷ (signed_decimal (pos (suc c)) ++ 10 ∷ rest)))
four_numbers k low high c rest =
    ap (λ (u : List ℕ). (u ++ codes " " ++ range_text low high ++ codes " " ++ place_text c ++ codes "\n") ++ rest) (counted_text k)
    ∙ ap (λ (u : List ℕ). (signed_decimal (pos (suc k)) ++ codes " " ++ range_text low high ++ codes " " ++ u ++ codes "\n") ++ rest) (counted_text c)
    ∙ simp append_assoc

pub two_numbers : (k : ℕ) (v : ℤ) (rest : List ℕ) → (place_text k ++ codes " " ++ signed_decimal v ++ codes "\n") ++ rest ≡ signed_decimal (pos (suc k)) ++ 32 ∷ (signed_decimal v ++ 10 ∷ rest)
two_numbers k v rest = ap (λ (u : List ℕ). (u ++ codes " " ++ signed_decimal v ++ codes "\n") ++ rest) (counted_text k) ∙ simp append_assoc

pub last_number : (k : ℕ) (rest : List ℕ) → (place_text k ++ codes "\n") ++ rest ≡ signed_decimal (pos (suc k)) ++ 10 ∷ rest
last_number k rest = ap (λ (u : List ℕ). (u ++ codes "\n") ++ rest) (counted_text k) ∙ append_assoc (signed_decimal (pos (suc k))) (codes "\n") rest

-- what is read so far, and these bytes
abbrev reads : List Item → State → List ℕ → Standing
reads told s w = standing_from (going told s) w

-- what comes after a whole piece
abbrev onward : List Item → Item → List ℕ → Standing
onward told i w = standing_from (going (told ++ i ∷ []) (state_at (place_after i))) w

literal_read : (told : List Item) (l : Literal) (last : Bool) (rest : List ℕ) → literal_fits l ≡ true → reads told (state_at at_literal) (item_text (LiteralItem l last) ++ rest) ≡ onward told (LiteralItem l last) rest
literal_read told l true rest h =
    let p = and_parts _ _ h in let q = and_parts _ _ p.0 in
    let x : ℤ = pos (suc l.x.0) in
    ap (reads told (state_at at_literal)) (three_numbers l.x.0 l.lo l.hi 10 rest)
    ∙ number_read told LiteralForm [] Variable (Value ∷ Value ∷ []) x 32 (signed_decimal l.lo ++ 32 ∷ (signed_decimal l.hi ++ 10 ∷ rest)) (counted_fits 500 l.x.0 q.0) refl
    ∙ number_read told LiteralForm (x ∷ []) Value (Value ∷ []) l.lo 32 (signed_decimal l.hi ++ 10 ∷ rest) q.1 refl
    ∙ number_read told LiteralForm (x ∷ l.lo ∷ []) Value [] l.hi 10 rest p.1 refl
literal_read told l false rest h =
    let p = and_parts _ _ h in let q = and_parts _ _ p.0 in
    let x : ℤ = pos (suc l.x.0) in
    ap (reads told (state_at at_literal)) (three_numbers l.x.0 l.lo l.hi 32 rest)
    ∙ number_read told LiteralForm [] Variable (Value ∷ Value ∷ []) x 32 (signed_decimal l.lo ++ 32 ∷ (signed_decimal l.hi ++ 32 ∷ rest)) (counted_fits 500 l.x.0 q.0) refl
    ∙ number_read told LiteralForm (x ∷ []) Value (Value ∷ []) l.lo 32 (signed_decimal l.hi ++ 32 ∷ rest) q.1 refl
    ∙ number_read told LiteralForm (x ∷ l.lo ∷ []) Value [] l.hi 32 rest p.1 refl

-- the numbers of a sum, after its letter
sum_read : (told : List Item) (z : SumLiteral) (rest : List ℕ) → sum_fits z ≡ true → reads told (due Sums) (item_text (SumItem z) ++ rest) ≡ onward told (SumItem z) rest
sum_read told z rest h =
    let p = and_parts _ _ h in let q = and_parts _ _ p.0 in
    let c : ℤ = pos (suc z.c.0) in
    ap (λ (u : List ℕ). reads told (due Sums) (117 ∷ 32 ∷ u)) (three_numbers z.c.0 z.lo z.hi 10 rest)
    ∙ number_read told Sum [] Constraint (Total ∷ Total ∷ []) c 32 (signed_decimal z.lo ++ 32 ∷ (signed_decimal z.hi ++ 10 ∷ rest)) (counted_fits 20000 z.c.0 q.0) refl
    ∙ number_read told Sum (c ∷ []) Total (Total ∷ []) z.lo 32 (signed_decimal z.hi ++ 10 ∷ rest) q.1 refl
    ∙ number_read told Sum (c ∷ z.lo ∷ []) Total [] z.hi 10 rest p.1 refl

step_read : (told : List Item) (s : Step) (rest : List ℕ) → step_fits s ≡ true → reads told (due Steps) (step_text s ++ rest) ≡ onward told (StepItem s) rest
step_read told (Cut x low high (ByConstraint c)) rest h =
    let p = and_parts _ _ h in let q = and_parts _ _ p.0 in let r = and_parts _ _ q.0 in
    let y : ℤ = pos (suc x.0) in
    let d : ℤ = pos (suc c.0) in
    ap (λ (u : List ℕ). reads told (due Steps) (112 ∷ 32 ∷ u)) (four_numbers x.0 low high c.0 rest)
    ∙ number_read told CutByConstraint [] Variable (Value ∷ Value ∷ Constraint ∷ []) y 32 (signed_decimal low ++ 32 ∷ (signed_decimal high ++ 32 ∷ (signed_decimal d ++ 10 ∷ rest))) (counted_fits 500 x.0 r.0) refl
    ∙ number_read told CutByConstraint (y ∷ []) Value (Value ∷ Constraint ∷ []) low 32 (signed_decimal high ++ 32 ∷ (signed_decimal d ++ 10 ∷ rest)) r.1 refl
    ∙ number_read told CutByConstraint (y ∷ low ∷ []) Value (Constraint ∷ []) high 32 (signed_decimal d ++ 10 ∷ rest) q.1 refl
    ∙ number_read told CutByConstraint (y ∷ low ∷ high ∷ []) Constraint [] d 10 rest (counted_fits 20000 c.0 p.1) refl
step_read told (Cut x low high (ByLemma n)) rest h =
    let p = and_parts _ _ h in let q = and_parts _ _ p.0 in let r = and_parts _ _ q.0 in
    let y : ℤ = pos (suc x.0) in
    let d : ℤ = pos (suc n.0) in
    ap (λ (u : List ℕ). reads told (due Steps) (113 ∷ 32 ∷ u)) (four_numbers x.0 low high n.0 rest)
    ∙ number_read told CutByLemma [] Variable (Value ∷ Value ∷ Named ∷ []) y 32 (signed_decimal low ++ 32 ∷ (signed_decimal high ++ 32 ∷ (signed_decimal d ++ 10 ∷ rest))) (counted_fits 500 x.0 r.0) refl
    ∙ number_read told CutByLemma (y ∷ []) Value (Value ∷ Named ∷ []) low 32 (signed_decimal high ++ 32 ∷ (signed_decimal d ++ 10 ∷ rest)) r.1 refl
    ∙ number_read told CutByLemma (y ∷ low ∷ []) Value (Named ∷ []) high 32 (signed_decimal d ++ 10 ∷ rest) q.1 refl
    ∙ number_read told CutByLemma (y ∷ low ∷ high ∷ []) Named [] d 10 rest (counted_fits 4294967296 n.0 p.1) refl
step_read told (Choose x v) rest h =
    let p = and_parts _ _ h in
    let y : ℤ = pos (suc x.0) in
    ap (λ (u : List ℕ). reads told (due Steps) (99 ∷ 32 ∷ u)) (two_numbers x.0 v rest)
    ∙ number_read told Choice [] Variable (Value ∷ []) y 32 (signed_decimal v ++ 10 ∷ rest) (counted_fits 500 x.0 p.0) refl
    ∙ number_read told Choice (y ∷ []) Value [] v 10 rest p.1 refl

lost_read : (told : List Item) (r : Reason) (rest : List ℕ) → reason_fits r ≡ true → reads told (due Steps) (ending_text (LostEnding r) ++ rest) ≡ onward told (Lost r) rest
lost_read told (ByConstraint c) rest h =
    ap (λ (u : List ℕ). reads told (due Steps) (102 ∷ 32 ∷ u)) (last_number c.0 rest)
    ∙ number_read told LostToConstraint [] Constraint [] (pos (suc c.0)) 10 rest (counted_fits 20000 c.0 h) refl
lost_read told (ByLemma n) rest h =
    ap (λ (u : List ℕ). reads told (due Steps) (97 ∷ 32 ∷ u)) (last_number n.0 rest)
    ∙ number_read told LostToLemma [] Named [] (pos (suc n.0)) 10 rest (counted_fits 4294967296 n.0 h) refl

forgotten_read : (d : Due) (told : List Item) (n : LemmaId) (rest : List ℕ) → is_named n.0 ≡ true → reads told (due d) (item_text (Forget n) ++ rest) ≡ onward told (Forget n) rest
forgotten_read Entries told n rest h =
    ap (λ (u : List ℕ). reads told (due Entries) (100 ∷ 32 ∷ u)) (last_number n.0 rest) ∙ number_read told Forgotten [] Named [] (pos (suc n.0)) 10 rest (counted_fits 4294967296 n.0 h) refl
forgotten_read Steps told n rest h =
    ap (λ (u : List ℕ). reads told (due Steps) (100 ∷ 32 ∷ u)) (last_number n.0 rest) ∙ number_read told Forgotten [] Named [] (pos (suc n.0)) 10 rest (counted_fits 4294967296 n.0 h) refl
forgotten_read Sums told n rest h =
    ap (λ (u : List ℕ). reads told (due Sums) (100 ∷ 32 ∷ u)) (last_number n.0 rest) ∙ number_read told Forgotten [] Named [] (pos (suc n.0)) 10 rest (counted_fits 4294967296 n.0 h) refl

begun_read : (d : Due) (k : Kind) (bare : Bool) (told : List Item) (rest : List ℕ) → reads told (due d) (item_text (LemmaItem k bare) ++ rest) ≡ onward told (LemmaItem k bare) rest
begun_read Entries Exists true told rest = refl
begun_read Entries Exists false told rest = refl
begun_read Entries Forall true told rest = refl
begun_read Entries Forall false told rest = refl
begun_read Steps Exists true told rest = refl
begun_read Steps Exists false told rest = refl
begun_read Steps Forall true told rest = refl
begun_read Steps Forall false told rest = refl
begun_read Sums Exists true told rest = refl
begun_read Sums Exists false told rest = refl
begun_read Sums Forall true told rest = refl
begun_read Sums Forall false told rest = refl

head_read : (k : Kind) (told : List Item) (rest : List ℕ) → reads told (state_at at_start) (item_text (Head k) ++ rest) ≡ onward told (Head k) rest
head_read Exists told rest = refl
head_read Forall told rest = refl

-- a line of a lemma's steps is read after its sums as well
after_sums : (told : List Item) (s : Step) (rest : List ℕ) → reads told (due Sums) (step_text s ++ rest) ≡ reads told (due Steps) (step_text s ++ rest)
after_sums told (Cut x low high (ByConstraint c)) rest = refl
after_sums told (Cut x low high (ByLemma n)) rest = refl
after_sums told (Choose x v) rest = refl

lost_after_sums : (told : List Item) (r : Reason) (rest : List ℕ) → reads told (due Sums) (ending_text (LostEnding r) ++ rest) ≡ reads told (due Steps) (ending_text (LostEnding r) ++ rest)
lost_after_sums told (ByConstraint c) rest = refl
lost_after_sums told (ByLemma n) rest = refl

pub piece_read : (p : Place) (i : Item) (told : List Item) (rest : List ℕ) → allows p i ≡ true → item_fits i ≡ true → reads told (state_at p) (item_text i ++ rest) ≡ onward told i rest
piece_read at_start (Head k) told rest a h = head_read k told rest
piece_read at_start (LemmaItem k bare) told rest a h = absurd (cc)
piece_read at_start (LiteralItem l last) told rest a h = absurd (cc)
piece_read at_start (SumItem z) told rest a h = absurd (cc)
piece_read at_start (StepItem s) told rest a h = absurd (cc)
piece_read at_start (Lost r) told rest a h = absurd (cc)
piece_read at_start Goal told rest a h = absurd (cc)
piece_read at_start (Forget n) told rest a h = absurd (cc)
piece_read at_literal (Head k) told rest a h = absurd (cc)
piece_read at_literal (LemmaItem k bare) told rest a h = absurd (cc)
piece_read at_literal (LiteralItem l last) told rest a h = literal_read told l last rest h
piece_read at_literal (SumItem z) told rest a h = absurd (cc)
piece_read at_literal (StepItem s) told rest a h = absurd (cc)
piece_read at_literal (Lost r) told rest a h = absurd (cc)
piece_read at_literal Goal told rest a h = absurd (cc)
piece_read at_literal (Forget n) told rest a h = absurd (cc)
piece_read (at d) (Head k) told rest a h = absurd (cc)
piece_read (at d) (LemmaItem k bare) told rest a h = begun_read d k bare told rest
piece_read (at d) (LiteralItem l last) told rest a h = absurd (cc)
piece_read (at Entries) (SumItem z) told rest a h = absurd (cc)
piece_read (at Steps) (SumItem z) told rest a h = absurd (cc)
piece_read (at Sums) (SumItem z) told rest a h = sum_read told z rest h
piece_read (at Entries) (StepItem s) told rest a h = absurd (cc)
piece_read (at Steps) (StepItem s) told rest a h = step_read told s rest h
piece_read (at Sums) (StepItem s) told rest a h = after_sums told s rest ∙ step_read told s rest h
piece_read (at Entries) (Lost r) told rest a h = absurd (cc)
piece_read (at Steps) (Lost r) told rest a h = lost_read told r rest h
piece_read (at Sums) (Lost r) told rest a h = lost_after_sums told r rest ∙ lost_read told r rest h
piece_read (at Entries) Goal told rest a h = absurd (cc)
piece_read (at Steps) Goal told rest a h = refl
piece_read (at Sums) Goal told rest a h = refl
piece_read (at d) (Forget n) told rest a h = forgotten_read d told n rest h
