-- A variable is looked at up to its own scope.
use Rattle.std.proofs.Common.{◌≡◌, ◌∙◌, ap, refl, ℕ, zero, suc, ◌<◌, ◌≤◌, Bool, true, false, ◌||◌, List, [], ◌∷◌, length, map, get_or, arith, slice_get, Some}
use Rattle.std.specs.Prelude.{nat_le}
use Rattle.std.proofs.lemmas.Bool.Decides.{nat_tests}
use Rattle.std.proofs.lemmas.List.{length-map}
use Rattle.qc_model.specs.declared.problem.Variable.{Variable}
use Rattle.qc_model.specs.Content.{Game}
use Rattle.qc_model.specs.Valid.{IsValid}
use Rattle.qc_model.specs.Game.{before}
use Rattle.qc_model.proofs.InOrder.{stands_before, stands_after}
use Rattle.proof_alike.specs.Alike.{is_seen}
use Rattle.likeness.specs.Marks.{reaches, AddsMarks, AreMarksOf}

-- the scope of each variable
abbrev pub scopes_of : Game → List ℕ
scopes_of g = map (λ x. x.scope.0) g.variables

found : (xs : List Variable) (x : ℕ) → x < length xs → (v : Variable) × (slice_get xs x ≡ Some v) × (get_or (map (λ v. v.scope.0) xs) x 0 ≡ v.scope.0)
found [] x l = absurd (omega arith)
found (v ∷ xs) zero l = (v, refl, refl)
found (v ∷ xs) (suc x) l = found xs x (omega arith)

-- x is of scope i or a later one exactly where its scope is
own_reaches : (g : Game) (i x : ℕ) → IsValid g → x < length g.variables → reaches (scopes_of g) i x ≡ nat_le (before g i) x
own_reaches g i x v l =
    let f = found g.variables x l in
    ap (nat_le i) f.2 ∙ tests i f.0.scope.0 (before g i) x (λ h. stands_after (λ w. w.scope.0) (length g.scopes) i g.variables x f.0 v.variable_order f.1 h)
    (λ h. stands_before (λ w. w.scope.0) (length g.scopes) i g.variables x f.0 v.variable_order f.1 h)
  where
    tests : (i s b x : ℕ) → (i ≤ s → b ≤ x) → (s < i → x < b) → nat_le i s ≡ nat_le b x
    tests i s b x f h = by (nat_le i s) refl
      where
        le : (i s : ℕ) → nat_le i s ≡ true → i ≤ s
        le i s e = grind (arith, nat_tests)

        lt : (i s : ℕ) → nat_le i s ≡ false → s < i
        lt i s e = grind (arith, nat_tests)

        is_le : (b x : ℕ) → b ≤ x → true ≡ nat_le b x
        is_le b x e = grind (arith, nat_tests)

        is_gt : (b x : ℕ) → x < b → false ≡ nat_le b x
        is_gt b x e = grind (arith, nat_tests)

        by : (q : Bool) → nat_le i s ≡ q → q ≡ nat_le b x
        by true e = is_le b x (f (le i s e))
        by false e = is_gt b x (h (lt i s e))

-- all marks together
pub marks_are : (g : Game) (a b : List ℕ) → IsValid g → a ≡ scopes_of g → AddsMarks (λ i y. is_seen g i y) a b → AreMarksOf g b
marks_are g a b v e m =
    let size : length a ≡ length g.variables = ap length e ∙ length-map g.variables (λ x. x.scope.0) in
    record {
      count = m.count ∙ size;
      each = λ i x k q.
          let own : x < length a = omega (arith, q, m.count) in
          m.each i x k own ∙ ap (λ r. r || is_seen g i x) (ap (λ us. reaches us i x) e ∙ own_reaches g i x v (omega (arith, own, size)));
    }
