-- The last place as the first of the list, what is left of a list from a place on, and a write to the next place.
use Rattle.std.proofs.Common.{◌≡◌, ◌≢◌, ℕ, zero, suc, ◌<◌, ◌≤◌, ◌+◌, ◌-◌, ◌*◌, ◌^◌, inl, inr, List, [], ◌∷◌, length, take, drop, set, ℤ, refl, sym, ap, ◌∙◌, subst, arith, add-one, get_or-set_same, get_or-set_other}
use Rattle.std.proofs.lemmas.List.{drop-take, take-take}
use Rattle.std.proofs.lemmas.Nat.{mul-le}
use Rattle.std.specs.Prelude.{slice_index_or}
use Rattle.qc_check.specs.declared.starts.Start.{Start}
use Rattle.qc_check.specs.Places.{StartHeld, no_start, start_at, starts_of, rest, IsTail, AreStartPlaces}

either : (ps : List Start) (m : ℕ) (a b : Start) → m < length ps → slice_index_or ps m a ≡ slice_index_or ps m b
either [] m a b h = absurd (omega arith)
either (p ∷ ps) zero a b h = refl
either (p ∷ ps) (suc m) a b h = either ps m a b (omega arith)

-- the last place is the first of the list
pub top_is :
    (ps : List Start) (vs : List ℤ) (w n : ℕ) (s : Start)
    → (n ≡ 0 → ⊥)
    → n ≤ length ps
    → s ≡ slice_index_or ps (n - 1) s
    → (xs : List ℤ) × (starts_of ps vs w n ≡ record { start = s; values = xs } ∷ rest (starts_of ps vs w n))
top_is ps vs w zero s h k e = absurd (h refl)
top_is ps vs w (suc m) s h k e =
    let back : m ≡ suc m - 1 = omega arith in
    let at : slice_index_or ps m no_start ≡ s = either ps m no_start s (omega arith) ∙ sym (e ∙ ap (λ j. slice_index_or ps j s) (sym back)) in
    let f = λ (t : Start). take t.count (drop (m * w) vs) in
    (f (slice_index_or ps m no_start), ap (λ t. record { start = t; values = f (slice_index_or ps m no_start) } ∷ starts_of ps vs w m) at)

-- a list is an end of itself
pub tail_self : (xs : List StartHeld) → IsTail xs xs
tail_self [] = refl
tail_self (x ∷ xs) = inl refl

-- an end without its first is an end too
pub tail_rest : (xs ys : List StartHeld) → IsTail xs ys → IsTail (rest xs) ys
tail_rest xs [] h = ap rest h
tail_rest xs (y ∷ ys) (inl e) = inr (subst (λ zs. IsTail zs ys) (sym (ap rest e)) (tail_self ys))
tail_rest xs (y ∷ ys) (inr h) = inr (tail_rest xs ys h)

-- what stands before a place of a list is the same where all before a later place is
before_same : (a k n : ℕ) (vs us : List ℤ) → k + n ≤ a → take a us ≡ take a vs → take n (drop k us) ≡ take n (drop k vs)
before_same a k n vs us h e =
    sym (drop-take k n us)
    ∙ (ap (drop k) (sym (take-take (k + n) a us h) ∙ (ap (take (k + n)) e ∙ take-take (k + n) a vs h))
    ∙ drop-take k n vs)

-- the values of a place end before those of a later one begin
within : (k d w n : ℕ) → k < d → n ≤ w → k * w + n ≤ d * w
within k d w n h l = let m : suc k * w ≤ d * w = mul-le (suc k) w d w (omega arith) (omega arith) in omega (arith, m)

-- where the next place's values begin is a number of the machine
pub place_fits : (ps : List Start) (vs : List ℤ) (w d : ℕ) → AreStartPlaces ps vs w d → length vs < 2 ^ 63 → w < 2 ^ 64 → d * w < 2 ^ 64
place_fits ps vs w zero are l m = omega arith
place_fits ps vs w (suc zero) are l m = omega arith
place_fits ps vs w (suc (suc d)) are l m =
    let e : 1 * w ≤ suc d * w = mul-le 1 w (suc d) w (omega arith) (omega arith) in
    let f = (are.each (suc d) (omega arith)).1 in
    omega (arith, e, f)

-- a write to the next place leaves those before it
below_same :
    (ps : List Start) (vs us : List ℤ) (w d : ℕ) (s : Start)
    → AreStartPlaces ps vs w d
    → take (d * w) us ≡ take (d * w) vs
    → (k : ℕ)
    → k ≤ d
    → starts_of (set ps d s) us w k ≡ starts_of ps vs w k
below_same ps vs us w d s are e zero h = refl
below_same ps vs us w d s are e (suc k) h =
    let old = slice_index_or ps k no_start in
    let n : k ≢ d = omega arith in
    let at : slice_index_or (set ps d s) k no_start ≡ old = get_or-set_other ps d k s no_start n in
    let room : k * w + old.count ≤ d * w = within k d w old.count (omega arith) (are.each k (omega arith)).0 in
    let same : start_at (set ps d s) us w k ≡ start_at ps vs w k =
    ap (λ t. record { start = t; values = take t.count (drop (k * w) us) }) at
    ∙ ap (λ zs. record { start = old; values = zs }) (before_same (d * w) (k * w) old.count vs us room e) in
    ap (λ t. t ∷ starts_of (set ps d s) us w k) same
    ∙ ap (λ ts. start_at ps vs w k ∷ ts) (below_same ps vs us w d s are e k (omega arith))

-- one more place, as the list says it
pub start_pushed :
    (ps : List Start) (vs us : List ℤ) (w d : ℕ) (s : Start) (xs : List ℤ)
    → AreStartPlaces ps vs w d
    → d < length ps
    → take (d * w) us ≡ take (d * w) vs
    → take s.count (drop (d * w) us) ≡ xs
    → starts_of (set ps d s) us w (d + 1) ≡ record { start = s; values = xs } ∷ starts_of ps vs w d
start_pushed ps vs us w d s xs are h e f =
    ap (starts_of (set ps d s) us w) (add-one d)
    ∙ (ap (λ t. record { start = t; values = take t.count (drop (d * w) us) } ∷ starts_of (set ps d s) us w d) (get_or-set_same ps d s no_start h)
    ∙ (ap (λ zs. record { start = s; values = zs } ∷ starts_of (set ps d s) us w d) f
    ∙ ap (λ ts. record { start = s; values = xs } ∷ ts) (below_same ps vs us w d s are e d (omega arith))))
