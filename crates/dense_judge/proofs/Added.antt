-- One value more of a tuple.
use Rattle.std.proofs.Common.{◌≡◌, ◌<◌, ◌≤◌, ◌+◌, ℕ, List, [], ◌∷◌, ◌++◌, length, take, set, refl, sym, ap, ◌∙◌, arith, length-append, Option, Some, None, min, ℤ}
use Rattle.std.proofs.lemmas.List.{length-take, take_all, take-append-le}
use Rattle.std.proofs.lemmas.Grind.{take-set_at}
use Rattle.dense_check.specs.declared.line.Line.{Line}
use Rattle.dense_check.specs.Telling.{IsGathered}
use Rattle.dense_judge.specs.declared.gather.Gather.{Gather}
use Rattle.dense_judge.specs.Gathered.{LineSoFar}
use Rattle.dense_judge.specs.Gathering.{Keeps}

-- a tuple of which fewer are kept than could be is kept whole
short : (r : List ℤ) (n : ℕ) → length r ≡ 501 → n < 501 → (t : List ℤ) → take n r ≡ take 501 t → length t ≡ n
short r n long lt t e =
    let sizes : min n (length r) ≡ min 501 (length t) = sym (length-take n r) ∙ ap length e ∙ length-take 501 t in
    omega (arith, sizes, long, lt)

longer_than : (t : List ℤ) (v : ℤ) → length (t ++ v ∷ []) ≡ length t + 1
longer_than t v = length-append t (v ∷ [])

-- there is room for the next value
pub added : (r : List ℤ) (n : ℕ) (v w : ℤ) → w ≡ v → length r ≡ 501 → n < 501 → (t : List ℤ) → take n r ≡ take 501 t → take (n + 1) (set r n w) ≡ take 501 (t ++ v ∷ [])
added r n v w same long lt t e =
    let size = short r n long lt t e in
    take-set_at r n (n + 1) w refl (omega (arith, long, lt)) ∙ ap (λ x. take n r ++ x ∷ []) same ∙ ap (λ s. s ++ v ∷ []) (e ∙ take_all 501 t (omega (arith, size, lt)))
    ∙ sym (take_all 501 (t ++ v ∷ []) (omega (arith, size, lt, longer_than t v)))

-- there is none
pub full : (r : List ℤ) (n : ℕ) (v : ℤ) → length r ≡ 501 → n ≤ 501 → (n < 501 → ⊥) → (t : List ℤ) → take n r ≡ take 501 t → take n r ≡ take 501 (t ++ v ∷ [])
full r n v long most none t e =
    let sizes : min n (length r) ≡ min 501 (length t) = sym (length-take n r) ∙ ap length e ∙ length-take 501 t in
    e ∙ sym (take-append-le 501 t (v ∷ []) (enough n (length r) (length t) sizes long none))
  where
    enough : (a b k : ℕ) → min a b ≡ min 501 k → b ≡ 501 → (a < 501 → ⊥) → 501 ≤ k
    enough a b k s l h = omega (arith, s, l, h)

-- the line that has begun, with its values so far
pub kept_line : (k : Gather) (l : Line) → k.begun ≡ Some l → (p : Option LineSoFar) → Keeps k p → (b : LineSoFar) × (p ≡ Some b) × (l ≡ b.line) × IsGathered k.values b.tuple
kept_line k l e None h = absurd (absent l (sym h ∙ e))
  where
    absent : (x : Line) → None ≡ Some x → ⊥
    absent x q = cc
kept_line k l e (Some b) (is, all) = (b, refl, same l b.line (sym e ∙ is), all)
  where
    same : (x y : Line) → Some x ≡ Some y → x ≡ y
    same x y q = cc
