-- Memories that take each other's place.
use Rattle.std.proofs.Common.{◌≡◌, ℕ, zero, suc, ◌<◌, ◌⊎◌, inl, inr, List, [], ◌∷◌, ◌++◌, length, set, get_or, refl, sym, ◌∙◌, subst, arith}
use Rattle.qc_model.specs.Content.{Game}
use Rattle.qc_model.specs.Lists.{Among}
use Rattle.dense_quiet.specs.declared.taking.Taking.{Taking}
use Rattle.dense_close.specs.Memory.{Memory, IsMemory, Memories, IsOneOf, AreMemories, ComeFrom, IsAlike}

among_last : {X : Type 0} (x y : X) (xs : List X) → Among x (xs ++ (y ∷ [])) → Among x xs ⊎ (x ≡ y)
among_last x y [] (inl e) = inr e
among_last x y [] (inr h) = absurd h
among_last x y (z ∷ xs) (inl e) = inl (inl e)
among_last x y (z ∷ xs) (inr h) = behind (among_last x y xs h)
  where
    behind : Among x xs ⊎ (x ≡ y) → Among x (z ∷ xs) ⊎ (x ≡ y)
    behind (inl m) = inl (inr m)
    behind (inr e) = inr e

among_at : {X : Type 0} (xs : List X) (i : ℕ) (d : X) → i < length xs → Among (get_or xs i d) xs
among_at [] i d l = absurd (omega arith)
among_at (x ∷ xs) zero d l = inl refl
among_at (x ∷ xs) (suc i) d l = inr (among_at xs i d (omega arith))

among_set : {X : Type 0} (x y : X) (xs : List X) (i : ℕ) → Among x (set xs i y) → (x ≡ y) ⊎ Among x xs
among_set x y [] i h = absurd h
among_set x y (z ∷ xs) zero (inl e) = inl e
among_set x y (z ∷ xs) zero (inr h) = inr (inr h)
among_set x y (z ∷ xs) (suc i) (inl e) = inr (inl e)
among_set x y (z ∷ xs) (suc i) (inr h) = behind (among_set x y xs i h)
  where
    behind : (x ≡ y) ⊎ Among x xs → (x ≡ y) ⊎ Among x (z ∷ xs)
    behind (inl e) = inl e
    behind (inr m) = inr (inr m)

-- none is kept yet
pub kept_none : (t : Taking) (g : Game) (p : Memory) (ks : List Memory) → ks ≡ [] → IsMemory t g p → AreMemories t g (record { present = p; kept = ks })
kept_none t g p ks e own n (inl q) = subst (IsMemory t g) (sym q) own
kept_none t g p ks e own n (inr h) = absurd (subst (λ ms. Among n ms) e h)

-- one more is kept
pub kept_more : (t : Taking) (g : Game) (p m : Memory) (ks : List Memory) → AreMemories t g (record { present = p; kept = ks }) → IsMemory t g m → AreMemories t g (record { present = p; kept = ks ++ (m ∷ []) })
kept_more t g p m ks are own n (inl e) = are n (inl e)
kept_more t g p m ks are own n (inr h) = by (among_last n m ks h)
  where
    by : Among n ks ⊎ (n ≡ m) → IsMemory t g n
    by (inl a) = are n (inr a)
    by (inr e) = subst (IsMemory t g) (sym e) own

-- the one in this place is kept
pub kept_at : (ks : List Memory) (i : ℕ) (d : Memory) → i < length ks → d ≡ get_or ks i d → Among d ks
kept_at ks i d l e = subst (λ m. Among m ks) (sym e) (among_at ks i d l)

-- it becomes the present one too
pub kept_restored : (was : Memories) (p x d : Memory) (ks : List Memory) (i : ℕ) → record { present = p; kept = ks } ≡ was → i < length ks → d ≡ get_or ks i d → x ≡ d → ComeFrom was (record { present = x; kept = ks })
kept_restored was p x d ks i v l e f = subst (λ w. ComeFrom w (record { present = x; kept = ks })) v from
  where
    from : ComeFrom (record { present = p; kept = ks }) (record { present = x; kept = ks })
    from n (inl q) = inr (subst (λ m. Among m ks) (sym (q ∙ f)) (kept_at ks i d l e))
    from n (inr h) = inr h

-- it takes the place of the present one, and the other way round
pub kept_swapped : (was : Memories) (p x y d : Memory) (ks : List Memory) (i : ℕ) → record { present = p; kept = ks } ≡ was → i < length ks → d ≡ get_or ks i d → x ≡ d → y ≡ p → ComeFrom was (record { present = x; kept = set ks i y })
kept_swapped was p x y d ks i v l e f g = subst (λ w. ComeFrom w (record { present = x; kept = set ks i y })) v from
  where
    either : (n : Memory) → (n ≡ y) ⊎ Among n ks → IsOneOf n (record { present = p; kept = ks })
    either n (inl q) = inl (q ∙ g)
    either n (inr h) = inr h

    from : ComeFrom (record { present = p; kept = ks }) (record { present = x; kept = set ks i y })
    from n (inl q) = inr (subst (λ m. Among m ks) (sym (q ∙ f)) (kept_at ks i d l e))
    from n (inr h) = either n (among_set n y ks i h)

-- another one is the present one
pub present_anew : (t : Taking) (g : Game) (p q : Memory) (ks : List Memory) → AreMemories t g (record { present = p; kept = ks }) → IsMemory t g q → AreMemories t g (record { present = q; kept = ks })
present_anew t g p q ks are own n (inl e) = subst (IsMemory t g) (sym e) own
present_anew t g p q ks are own n (inr h) = are n (inr h)

-- memories of one game have the same lengths
pub kept_alike : (t : Taking) (g : Game) (p m : Memory) (ks : List Memory) → AreMemories t g (record { present = p; kept = ks }) → Among m ks → IsAlike p m
kept_alike t g p m ks are h =
    let one = are p (inl refl) in
    let other = are m (inr h) in
    record { variables = one.variables ∙ sym other.variables; constraints = one.constraints ∙ sym other.constraints }

-- the trail's length is no matter
pub stamped : (t : Taking) (g : Game) (m : Memory) (n : ℕ) → IsMemory t g m → IsMemory t g (record { seen = m.seen; pending = m.pending; at = n })
stamped t g m n h = record { variables = h.variables; constraints = h.constraints; settled = h.settled }
