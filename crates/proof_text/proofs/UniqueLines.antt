-- Equal texts are of equal lines.
use Rattle.std.proofs.Common.{◌≡◌, refl, sym, ap, ◌∙◌, ℕ, ◌+◌, ◌≤◌, List, [], ◌∷◌, ◌++◌, ◌&&◌, Bool, true, false, cond, eqb, arith, append_assoc, leb-true}
use Rattle.std.specs.Prelude.{IsTrue, ℤ, nat_le, nat_eq, flat_map}
use Rattle.std.specs.Fmt.{decimal, signed_decimal}
use Rattle.std.specs.List.{list_all}
use Rattle.std.proofs.lemmas.Bool.{and_parts}
use Rattle.qc_model.specs.declared.problem.VarId.{VarId}
use Rattle.qc_model.specs.Valid.{is_number}
use Rattle.proof_tree.specs.declared.line.Line.{Line}
use Rattle.proof_tree.specs.declared.line.Line.TheVariants.{Horizon, Prune as PruneLine, Bound as BoundLine, Dot, Stuck, Goal, Empty, Barred, Next, Branch, Skip, Open, Range}
use Rattle.proof_tree.specs.declared.tree.Step.{Step}
use Rattle.proof_tree.specs.declared.tree.Step.TheVariants.{Prune, Bound}
use Rattle.proof_tree.specs.Lines.{step_line}
use Rattle.proof_tree.specs.Text.{is_place, step_fits, line_text}
use Rattle.proof_text.specs.LineRanges.{line_fits}
use Rattle.proof_text.specs.Parts.{step_text}
use Rattle.proof_text.proofs.Forward.{rest_of_step, letter_of_step, step_is}
use Rattle.proof_text.proofs.Unique.{number_one, signed_one, step_one, apart}

-- lines by how their texts go on: at once with the end, or with which numbers
data Form : Type 0 where
  short : ℕ → Form
  horizon : ℕ → Form
  branched : VarId → Form
  ranged : ℤ → Form
  removal : Step → Form

abbrev form : Line → Form
form (Horizon k) = horizon k
form (PruneLine x low high c) = removal (Prune x low high c)
form (BoundLine x low high) = removal (Bound x low high)
form Dot = short 46
form Stuck = short 116
form Goal = short 103
form Empty = short 101
form Barred = short 120
form Next = short 110
form (Branch x) = branched x
form Skip = short 115
form Open = short 111
form (Range high) = ranged high

-- the line of a letter
abbrev lettered : ℕ → Line
lettered c =
    cond (nat_eq c 46) Dot (cond (nat_eq c 116) Stuck (cond (nat_eq c 103) Goal (cond (nat_eq c 101) Empty (cond (nat_eq c 120) Barred (cond (nat_eq c 110) Next (cond (nat_eq c 115) Skip Open))))))

abbrev formed : Form → Line
formed (short c) = lettered c
formed (horizon k) = Horizon k
formed (branched x) = Branch x
formed (ranged high) = Range high
formed (removal s) = step_line s

formed_form : (l : Line) → formed (form l) ≡ l
formed_form (Horizon k) = refl
formed_form (PruneLine x low high c) = refl
formed_form (BoundLine x low high) = refl
formed_form Dot = refl
formed_form Stuck = refl
formed_form Goal = refl
formed_form Empty = refl
formed_form Barred = refl
formed_form Next = refl
formed_form (Branch x) = refl
formed_form Skip = refl
formed_form Open = refl
formed_form (Range high) = refl

abbrev form_text : Form → List ℕ
form_text (short c) = c ∷ 10 ∷ []
form_text (horizon k) = 104 ∷ 32 ∷ (decimal k ++ 10 ∷ [])
form_text (branched x) = 118 ∷ 32 ∷ (decimal (x.0 + 1) ++ 10 ∷ [])
form_text (ranged high) = 114 ∷ 32 ∷ (signed_decimal high ++ 10 ∷ [])
form_text (removal s) = step_text s

line_is : (l : Line) → line_text l ≡ form_text (form l)
line_is (Horizon k) = refl
line_is (PruneLine x low high c) = refl
line_is (BoundLine x low high) = refl
line_is Dot = refl
line_is Stuck = refl
line_is Goal = refl
line_is Empty = refl
line_is Barred = refl
line_is Next = refl
line_is (Branch x) = refl
line_is Skip = refl
line_is Open = refl
line_is (Range high) = refl

abbrev form_fits : Form → Bool
form_fits (short c) = true
form_fits (horizon k) = nat_le 1 k && nat_le k 65
form_fits (branched x) = is_place 500 x.0
form_fits (ranged high) = is_number high
form_fits (removal s) = step_fits s

fits_form : (l : Line) → IsTrue (line_fits l) → IsTrue (form_fits (form l))
fits_form (Horizon k) h = h
fits_form (PruneLine x low high c) h = h
fits_form (BoundLine x low high) h = h
fits_form Dot h = h
fits_form Stuck h = h
fits_form Goal h = h
fits_form Empty h = h
fits_form Barred h = h
fits_form Next h = h
fits_form (Branch x) h = h
fits_form Skip h = h
fits_form Open h = h
fits_form (Range high) h = h

after_two : (c d : ℕ) (u v : List ℕ) → c ∷ d ∷ u ≡ c ∷ d ∷ v → u ≡ v
after_two c d u v h = cc

-- texts whose second bytes differ
second : {P : Type 0} (c d e f : ℕ) (u v : List ℕ) → eqb d f ≡ false → c ∷ d ∷ u ≡ e ∷ f ∷ v → P
second c d e f u v h e2 = apart d f u v h (tails e2)
  where
    tails : c ∷ d ∷ u ≡ e ∷ f ∷ v → d ∷ u ≡ f ∷ v
    tails h = cc

-- a removal begins with its own letter, and goes on with a blank
removal_apart : {P : Type 0} (s : Step) (a : List ℕ) (c : ℕ) (v : List ℕ) → eqb 112 c ≡ false → eqb 98 c ≡ false → step_text s ++ a ≡ c ∷ v → P
removal_apart (Prune x low high k) a c v f g e = apart 112 c _ v f (sym (step_is (Prune x low high k) a) ∙ e)
removal_apart (Bound x low high) a c v f g e = apart 98 c _ v g (sym (step_is (Bound x low high) a) ∙ e)

removal_long : {P : Type 0} (s : Step) (a : List ℕ) (c : ℕ) (v : List ℕ) → step_text s ++ a ≡ c ∷ 10 ∷ v → P
removal_long (Prune x low high k) a c v e = second 112 32 c 10 _ v refl (sym (step_is (Prune x low high k) a) ∙ e)
removal_long (Bound x low high) a c v e = second 98 32 c 10 _ v refl (sym (step_is (Bound x low high) a) ∙ e)

counted : (c m n : ℕ) (a b : List ℕ) → m ≤ 20001 → n ≤ 20001 → c ∷ 32 ∷ ((decimal m ++ 10 ∷ []) ++ a) ≡ c ∷ 32 ∷ ((decimal n ++ 10 ∷ []) ++ b) → (m ≡ n) × (a ≡ b)
counted c m n a b f g e = number_one m n 10 a b (omega arith) (omega arith) (omega arith) (sym (append_assoc (decimal m) (10 ∷ []) a) ∙ after_two c 32 _ _ e ∙ append_assoc (decimal n) (10 ∷ []) b)

form_one : (f g : Form) (a b : List ℕ) → IsTrue (form_fits f) → IsTrue (form_fits g) → form_text f ++ a ≡ form_text g ++ b → (f ≡ g) × (a ≡ b)
form_one (short c) (short d) a b f g e = (let same : c ≡ d = cc in ap short same, cc)
form_one (short c) (horizon k) a b f g e = second c 10 104 32 _ _ refl e
form_one (short c) (branched x) a b f g e = second c 10 118 32 _ _ refl e
form_one (short c) (ranged z) a b f g e = second c 10 114 32 _ _ refl e
form_one (short c) (removal s) a b f g e = removal_long s b c a (sym e)
form_one (horizon k) (short d) a b f g e = second 104 32 d 10 _ _ refl e
form_one (horizon k) (horizon j) a b f g e =
    let p = leb-true _ _ (and_parts (nat_le 1 k) (nat_le k 65) f).1 in
    let q = leb-true _ _ (and_parts (nat_le 1 j) (nat_le j 65) g).1 in
    let r = counted 104 k j a b (omega arith) (omega arith) e in
    (ap horizon r.0, r.1)
form_one (horizon k) (branched x) a b f g e = apart 104 118 _ _ refl e
form_one (horizon k) (ranged z) a b f g e = apart 104 114 _ _ refl e
form_one (horizon k) (removal s) a b f g e = removal_apart s b 104 _ refl refl (sym e)
form_one (branched x) (short d) a b f g e = second 118 32 d 10 _ _ refl e
form_one (branched x) (horizon k) a b f g e = apart 118 104 _ _ refl e
form_one (branched x) (branched y) a b f g e =
    let p = leb-true _ _ f in
    let q = leb-true _ _ g in
    let r = counted 118 (x.0 + 1) (y.0 + 1) a b (omega arith) (omega arith) e in
    let one = r.0 in
    let same : x.0 ≡ y.0 = omega arith in
    (ap (λ (i : ℕ). branched (record { 0 = i })) same, r.1)
form_one (branched x) (ranged z) a b f g e = apart 118 114 _ _ refl e
form_one (branched x) (removal s) a b f g e = removal_apart s b 118 _ refl refl (sym e)
form_one (ranged z) (short d) a b f g e = second 114 32 d 10 _ _ refl e
form_one (ranged z) (horizon k) a b f g e = apart 114 104 _ _ refl e
form_one (ranged z) (branched x) a b f g e = apart 114 118 _ _ refl e
form_one (ranged z) (ranged y) a b f g e =
    let p = leb-true _ _ f in
    let q = leb-true _ _ g in
    let r = signed_one z y 10 a b (omega arith) (omega arith) (omega arith) (sym (append_assoc (signed_decimal z) (10 ∷ []) a) ∙ after_two 114 32 _ _ e ∙ append_assoc (signed_decimal y) (10 ∷ []) b) in
    (ap ranged r.0, r.1)
form_one (ranged z) (removal s) a b f g e = removal_apart s b 114 _ refl refl (sym e)
form_one (removal s) (short d) a b f g e = removal_long s a d b e
form_one (removal s) (horizon k) a b f g e = removal_apart s a 104 _ refl refl e
form_one (removal s) (branched x) a b f g e = removal_apart s a 118 _ refl refl e
form_one (removal s) (ranged z) a b f g e = removal_apart s a 114 _ refl refl e
form_one (removal s) (removal t) a b f g e =
    let r = step_one s t a b f g e in
    (ap removal r.0, r.1)

pub line_one : (l m : Line) (a b : List ℕ) → IsTrue (line_fits l) → IsTrue (line_fits m) → line_text l ++ a ≡ line_text m ++ b → (l ≡ m) × (a ≡ b)
line_one l m a b f g e =
    let r = form_one (form l) (form m) a b (fits_form l f) (fits_form m g) (ap (λ (t : List ℕ). t ++ a) (sym (line_is l)) ∙ e ∙ ap (λ (t : List ℕ). t ++ b) (line_is m)) in
    (sym (formed_form l) ∙ ap formed r.0 ∙ formed_form m, r.1)

form_some : (f : Form) (a : List ℕ) → form_text f ++ a ≡ [] → ⊥
form_some (short c) a e = absurd (cc)
form_some (horizon k) a e = absurd (cc)
form_some (branched x) a e = absurd (cc)
form_some (ranged z) a e = absurd (cc)
form_some (removal s) a e =
    let is : letter_of_step s ∷ rest_of_step s a ≡ [] = sym (step_is s a) ∙ e in
    absurd (cc)

line_some : (l : Line) (a : List ℕ) → line_text l ++ a ≡ [] → ⊥
line_some l a e = form_some (form l) a (ap (λ (t : List ℕ). t ++ a) (sym (line_is l)) ∙ e)

-- a text is that of one list of lines
pub lines_one : (ls ms : List Line) → IsTrue (list_all line_fits ls) → IsTrue (list_all line_fits ms) → flat_map line_text ls ≡ flat_map line_text ms → ls ≡ ms
lines_one [] [] f g e = refl
lines_one [] (m ∷ ms) f g e = absurd (line_some m (flat_map line_text ms) (sym e))
lines_one (l ∷ ls) [] f g e = absurd (line_some l (flat_map line_text ls) e)
lines_one (l ∷ ls) (m ∷ ms) f g e =
    let p = and_parts (line_fits l) (list_all line_fits ls) f in
    let q = and_parts (line_fits m) (list_all line_fits ms) g in
    let r = line_one l m (flat_map line_text ls) (flat_map line_text ms) p.0 q.0 e in
    let more = lines_one ls ms p.1 q.1 r.1 in
    let first = r.0 in
    cc
