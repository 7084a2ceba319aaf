-- Equal texts are of equal parts: numbers and steps.
use Rattle.std.proofs.Common.{◌≡◌, refl, sym, ap, ◌∙◌, subst, ℕ, zero, suc, ◌+◌, ◌≤◌, ◌<◌, ◌^◌, List, [], ◌∷◌, ◌++◌, Bool, true, false, arith, append_assoc, leb-true, eqb, not, ◌||◌}
use Rattle.std.specs.Prelude.{IsTrue, ℤ, pos, negsuc, nat_eq, unsigned_abs}
use Rattle.std.specs.Fmt.{decimal, signed_decimal}
use Rattle.std.specs.List.{list_all}
use Rattle.std.proofs.lemmas.Bool.{and_parts, eqb-false}
use Rattle.std.proofs.lemmas.Fmt.{decimal_digit, decimal_injective}
use Rattle.qc_model.specs.declared.problem.VarId.{VarId}
use Rattle.qc_model.specs.declared.problem.ConId.{ConId}
use Rattle.proof_tree.specs.declared.tree.Step.{Step}
use Rattle.proof_tree.specs.declared.tree.Step.TheVariants.{Prune, Bound}
use Rattle.proof_tree.specs.Text.{is_place, step_fits}
use Rattle.proof_text.specs.Parts.{step_text, steps_text}
use Rattle.proof_text.proofs.Grammar.{AreDigits}
use Rattle.proof_text.proofs.Digits.{parts}
use Rattle.proof_text.proofs.Forward.{rest_of_step, letter_of_step, step_is, steps_are}

digits_one : (ds es : List ℕ) (c : ℕ) (a b : List ℕ) → AreDigits ds → AreDigits es → c < 48 → ds ++ c ∷ a ≡ es ++ c ∷ b → (ds ≡ es) × (a ≡ b)
digits_one [] [] c a b f g lt h = (refl, cc)
digits_one [] (e ∷ es) c a b f g lt h = let same : c ≡ e = cc in let low = g.0 in absurd (omega arith)
digits_one (d ∷ ds) [] c a b f g lt h = let same : d ≡ c = cc in let low = f.0 in absurd (omega arith)
digits_one (d ∷ ds) (e ∷ es) c a b f g lt h =
    let head : d ≡ e = cc in
    let tail : ds ++ c ∷ a ≡ es ++ c ∷ b = cc in
    let r = digits_one ds es c a b f.2 g.2 lt tail in
    (let t = r.0 in cc, r.1)

pub record Digits (n : ℕ) (text : List ℕ) : Type 0 where
  pub first : ℕ
  pub ds : List ℕ
  pub is : text ≡ first ∷ ds
  pub are : AreDigits text
  pub low : 48 ≤ first

digits_of : (n : ℕ) → n < 2 ^ 64 → Digits n (decimal n)
digits_of zero h = subst (Digits zero) (sym (decimal_digit 0 (omega arith))) (record { first = 48; ds = []; is = refl; are = (omega arith, omega arith, tt); low = omega arith })
digits_of (suc n) h =
    let p = parts (suc n) h (omega arith) in
    let low = p.low in
    subst (Digits (suc n)) (sym p.is) (record { first = p.first; ds = p.ds; is = refl; are = (omega arith, p.high, p.are); low = omega arith })

pub number_one : (m n c : ℕ) (a b : List ℕ) → m < 2 ^ 64 → n < 2 ^ 64 → c < 48 → decimal m ++ c ∷ a ≡ decimal n ++ c ∷ b → (m ≡ n) × (a ≡ b)
number_one m n c a b f g lt h =
    let r = digits_one (decimal m) (decimal n) c a b (digits_of m f).are (digits_of n g).are lt h in
    (decimal_injective m n f g r.0, r.1)

no_sign : (m n c : ℕ) (a b : List ℕ) → m < 2 ^ 64 → decimal m ++ c ∷ a ≡ 45 ∷ b → ⊥
no_sign m n c a b f h =
    let d = digits_of m f in
    let is : d.first ∷ (d.ds ++ c ∷ a) ≡ 45 ∷ b = sym (ap (λ (l : List ℕ). l ++ c ∷ a) d.is) ∙ h in
    let head : d.first ≡ 45 = cc in
    let low = d.low in
    omega arith

pub signed_one : (y z : ℤ) (c : ℕ) (a b : List ℕ) → unsigned_abs y ≤ 2 ^ 62 → unsigned_abs z ≤ 2 ^ 62 → c < 48 → signed_decimal y ++ c ∷ a ≡ signed_decimal z ++ c ∷ b → (y ≡ z) × (a ≡ b)
signed_one (pos m) (pos n) c a b f g lt h = let r = number_one m n c a b (omega arith) (omega arith) lt h in (ap pos r.0, r.1)
signed_one (pos m) (negsuc n) c a b f g lt h = absurd (no_sign m n c a (decimal (suc n) ++ c ∷ b) (omega arith) h)
signed_one (negsuc m) (pos n) c a b f g lt h = absurd (no_sign n m c b (decimal (suc m) ++ c ∷ a) (omega arith) (sym h))
signed_one (negsuc m) (negsuc n) c a b f g lt h =
    let tail : decimal (suc m) ++ c ∷ a ≡ decimal (suc n) ++ c ∷ b = cc in
    let r = number_one (suc m) (suc n) c a b (omega arith) (omega arith) lt tail in
    (let s = r.0 in let t : m ≡ n = cc in ap negsuc t, r.1)

pub place_one : (most j k c : ℕ) (a b : List ℕ) → most ≤ 20000 → IsTrue (is_place most j) → IsTrue (is_place most k) → c < 48 → decimal (j + 1) ++ c ∷ a ≡ decimal (k + 1) ++ c ∷ b → (j ≡ k) × (a ≡ b)
place_one most j k c a b le f g lt h =
    let p = leb-true _ _ f in
    let q = leb-true _ _ g in
    let r = number_one (j + 1) (k + 1) c a b (omega arith) (omega arith) lt h in
    (let s = r.0 in omega arith, r.1)

-- the variable and the range of a step
record Same (x y : VarId) (l m h k : ℤ) (a b : List ℕ) : Type 0 where
  var : x ≡ y
  low : l ≡ m
  high : h ≡ k
  rest : a ≡ b

removed_one : (x y : VarId) (l m h k : ℤ) (c : ℕ) (a b : List ℕ) → IsTrue (is_place 500 x.0) → IsTrue (is_place 500 y.0) → unsigned_abs l ≤ 1000000000 → unsigned_abs m ≤ 1000000000 → unsigned_abs h ≤ 1000000000 → unsigned_abs k ≤ 1000000000 → c < 48
    → decimal (x.0 + 1) ++ 32 ∷ (signed_decimal l ++ 32 ∷ (signed_decimal h ++ c ∷ a)) ≡ decimal (y.0 + 1) ++ 32 ∷ (signed_decimal m ++ 32 ∷ (signed_decimal k ++ c ∷ b)) → Same x y l m h k a b
removed_one x y l m h k c a b p q dl dm dh dk lt e =
    let r = place_one 500 x.0 y.0 32 _ _ (omega arith) p q (omega arith) e in
    let s = signed_one l m 32 _ _ (omega arith) (omega arith) (omega arith) r.1 in
    let t = signed_one h k c a b (omega arith) (omega arith) lt s.1 in
    record { var = ap (λ (i : ℕ). let v : VarId = record { 0 = i } in v) r.0; low = s.0; high = t.0; rest = t.1 }

heads : (c d : ℕ) (u v : List ℕ) → c ∷ u ≡ d ∷ v → c ≡ d
heads c d u v h = cc

-- texts that begin with different bytes are not equal
pub apart : {P : Type 0} (c d : ℕ) (u v : List ℕ) → eqb c d ≡ false → c ∷ u ≡ d ∷ v → P
apart c d u v f h = absurd (eqb-false c d f (heads c d u v h))

pub step_one : (s t : Step) (a b : List ℕ) → IsTrue (step_fits s) → IsTrue (step_fits t) → step_text s ++ a ≡ step_text t ++ b → (s ≡ t) × (a ≡ b)
step_one (Prune x l h c) (Prune y m k d) a b f g e =
    let i : letter_of_step (Prune x l h c) ∷ rest_of_step (Prune x l h c) a ≡ letter_of_step (Prune y m k d) ∷ rest_of_step (Prune y m k d) b = sym (step_is (Prune x l h c) a) ∙ e ∙ step_is (Prune y m k d) b in
    let p = and_parts _ _ f in let p1 = and_parts _ _ p.0 in let p2 = and_parts _ _ p1.0 in
    let q = and_parts _ _ g in let q1 = and_parts _ _ q.0 in let q2 = and_parts _ _ q1.0 in
    let tail : decimal (x.0 + 1) ++ 32 ∷ (signed_decimal l ++ 32 ∷ (signed_decimal h ++ 32 ∷ (decimal (c.0 + 1) ++ 10 ∷ a))) ≡ decimal (y.0 + 1) ++ 32 ∷ (signed_decimal m ++ 32 ∷ (signed_decimal k ++ 32 ∷ (decimal (d.0 + 1) ++ 10 ∷ b))) = cc in
    let r = removed_one x y l m h k 32 _ _ p2.0 q2.0 (leb-true _ _ p2.1) (leb-true _ _ q2.1) (leb-true _ _ p1.1) (leb-true _ _ q1.1) (omega arith) tail in
    let s = place_one 20000 c.0 d.0 10 a b (omega arith) p.1 q.1 (omega arith) r.rest in
    let con : c ≡ d = ap (λ (i : ℕ). let v : ConId = record { 0 = i } in v) s.0 in
    let v = r.var in let low = r.low in let high = r.high in
    (cc, s.1)
step_one (Prune x l h c) (Bound y m k) a b f g e =
    apart 112 98 _ _ refl (sym (step_is (Prune x l h c) a) ∙ e ∙ step_is (Bound y m k) b)
step_one (Bound x l h) (Prune y m k d) a b f g e =
    apart 98 112 _ _ refl (sym (step_is (Bound x l h) a) ∙ e ∙ step_is (Prune y m k d) b)
step_one (Bound x l h) (Bound y m k) a b f g e =
    let i : letter_of_step (Bound x l h) ∷ rest_of_step (Bound x l h) a ≡ letter_of_step (Bound y m k) ∷ rest_of_step (Bound y m k) b = sym (step_is (Bound x l h) a) ∙ e ∙ step_is (Bound y m k) b in
    let p1 = and_parts _ _ f in let p2 = and_parts _ _ p1.0 in
    let q1 = and_parts _ _ g in let q2 = and_parts _ _ q1.0 in
    let tail : decimal (x.0 + 1) ++ 32 ∷ (signed_decimal l ++ 32 ∷ (signed_decimal h ++ 10 ∷ a)) ≡ decimal (y.0 + 1) ++ 32 ∷ (signed_decimal m ++ 32 ∷ (signed_decimal k ++ 10 ∷ b)) = cc in
    let r = removed_one x y l m h k 10 _ _ p2.0 q2.0 (leb-true _ _ p2.1) (leb-true _ _ q2.1) (leb-true _ _ p1.1) (leb-true _ _ q1.1) (omega arith) tail in
    let v = r.var in let low = r.low in let high = r.high in
    (cc, r.rest)

-- the first byte passes a test
pub record First (test : ℕ → Bool) (u : List ℕ) : Type 0 where
  pub first : ℕ
  pub w : List ℕ
  pub is : u ≡ first ∷ w
  pub passes : test first ≡ true

pub clash : (test : ℕ → Bool) (u v : List ℕ) (c : ℕ) → First test u → u ≡ c ∷ v → test c ≡ false → ⊥
clash test u v c f e g =
    let is : f.first ∷ f.w ≡ c ∷ v = sym f.is ∙ e in
    let head : f.first ≡ c = cc in
    let both : true ≡ false = sym f.passes ∙ ap test head ∙ g in
    cc

step_first : (test : ℕ → Bool) (s : Step) (steps : List Step) (a : List ℕ) → test 112 ≡ true → test 98 ≡ true → First test (steps_text (s ∷ steps) ++ a)
step_first test (Prune x l h c) steps a f g = record { first = 112; w = _; is = steps_are (Prune x l h c) steps a; passes = f }
step_first test (Bound x l h) steps a f g = record { first = 98; w = _; is = steps_are (Bound x l h) steps a; passes = g }

-- steps, or else what comes after them
pub steps_first : (test : ℕ → Bool) (steps : List Step) (a : List ℕ) → test 112 ≡ true → test 98 ≡ true → First test a → First test (steps_text steps ++ a)
steps_first test [] a f g h = h
steps_first test (s ∷ steps) a f g h = step_first test s steps a f g

abbrev pub no_step : ℕ → Bool
no_step c = not (nat_eq c 112 || nat_eq c 98)

steps_end : (s : Step) (steps : List Step) (a b : List ℕ) → First no_step a → a ≡ steps_text (s ∷ steps) ++ b → ⊥
steps_end (Prune x l h c) steps a b f e = clash no_step a _ 112 f (e ∙ steps_are (Prune x l h c) steps b) refl
steps_end (Bound x l h) steps a b f e = clash no_step a _ 98 f (e ∙ steps_are (Bound x l h) steps b) refl

pub steps_one : (ss ts : List Step) (a b : List ℕ) → IsTrue (list_all step_fits ss) → IsTrue (list_all step_fits ts) → First no_step a → First no_step b → steps_text ss ++ a ≡ steps_text ts ++ b → (ss ≡ ts) × (a ≡ b)
steps_one [] [] a b f g p q e = (refl, e)
steps_one [] (t ∷ ts) a b f g p q e = absurd (steps_end t ts a b p e)
steps_one (s ∷ ss) [] a b f g p q e = absurd (steps_end s ss b a q (sym e))
steps_one (s ∷ ss) (t ∷ ts) a b f g p q e =
    let f1 = and_parts (step_fits s) (list_all step_fits ss) f in
    let g1 = and_parts (step_fits t) (list_all step_fits ts) g in
    let r = step_one s t (steps_text ss ++ a) (steps_text ts ++ b) f1.0 g1.0 (sym (append_assoc (step_text s) (steps_text ss) a) ∙ e ∙ append_assoc (step_text t) (steps_text ts) b) in
    let more = steps_one ss ts a b f1.1 g1.1 p q r.1 in
    (let h = r.0 in let m = more.0 in cc, more.1)
