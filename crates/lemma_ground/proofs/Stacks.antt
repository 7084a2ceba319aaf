-- What holds at the marks, as the store goes on and back.
use Rattle.std.proofs.Common.{◌≡◌, ◌<◌, ◌≤◌, ◌⊎◌, ℕ, zero, suc, true, false, List, [], ◌∷◌, ◌++◌, length, get_or, take, refl, sym, ap, ◌∙◌, subst, arith, inl, inr, Some}
use Rattle.std.specs.Prelude.{slice_get}
use Rattle.std.proofs.lemmas.Option.{slice_get_within}
use Rattle.qc_model.specs.Content.{Game}
use Rattle.qc_model.specs.Domains.{declared_box, has_empty}
use Rattle.model_arguments.specs.Asked.{is_box_of}
use Rattle.fd_store.specs.Held.{Held, IsUndone, trail_len, past_box}
use Rattle.fd_store.specs.declared.store.Mark.{Mark}
use Rattle.lemma_ground.specs.Steady.{IsWhole, IsMarked, IsSteady, GoesOn}

marked_still : (g : Game) (s t : Held) (m : Mark) → IsMarked g s m → m.at ≤ trail_len t → past_box t m.at ≡ past_box s m.at → IsMarked g t m
marked_still g s t m h l p = record { at = l; whole = subst (λ b. IsWhole g b) (sym p) h.whole }

-- a store that went on
pub steady_on : (g : Game) (s t : Held) (ms : List Mark) → IsSteady g s ms → GoesOn s t → (has_empty s.box ≡ false → has_empty t.box ≡ false) → IsSteady g t ms
steady_on g s t ms h w f = record {
  whole = record { declared = w.within (declared_box g) h.whole.declared; full = f h.whole.full };
  each = λ k m i. on m (h.each k m i);
  rises = h.rises;
}
  where
    on : (m : Mark) → IsMarked g s m → IsMarked g t m
    on m k = marked_still g s t m k (omega (arith, k.at, w.follows.longer)) (w.follows.boxes m.at k.at)

-- one mark more, for the box that the store has
past_the_end : {X : Type 0} (xs : List X) (d : X) → get_or xs (length xs) d ≡ d
past_the_end [] d = refl
past_the_end (x ∷ xs) d = past_the_end xs d

marked_now : (g : Game) (t : Held) (m : Mark) → m.at ≡ trail_len t → IsWhole g t.box → IsMarked g t m
marked_now g t m e w =
    let here : past_box t m.at ≡ t.box = ap (λ k. get_or t.past k t.box) e ∙ past_the_end t.past t.box in
    record { at = omega (arith, e); whole = subst (λ b. IsWhole g b) (sym here) w }

where_is : (ms : List Mark) (m : Mark) (k : ℕ) (n : Mark) → slice_get (ms ++ m ∷ []) k ≡ Some n → (slice_get ms k ≡ Some n) ⊎ ((k ≡ length ms) × (n ≡ m))
where_is [] m zero n h = inr (refl, cc)
where_is [] m (suc k) n h = cc
where_is (x ∷ ms) m zero n h = inl h
where_is (x ∷ ms) m (suc k) n h = next (where_is ms m k n h)
  where
    next : (slice_get ms k ≡ Some n) ⊎ ((k ≡ length ms) × (n ≡ m)) → (slice_get ms k ≡ Some n) ⊎ ((suc k ≡ suc (length ms)) × (n ≡ m))
    next (inl p) = inl p
    next (inr p) = inr (ap suc p.0, p.1)

pub steady_more : (g : Game) (t : Held) (ms : List Mark) (m : Mark) → IsSteady g t ms → m.at ≡ trail_len t → IsSteady g t (ms ++ m ∷ [])
steady_more g t ms m h e = record {
  whole = h.whole;
  each = λ k n i. each k n (where_is ms m k n i);
  rises = λ j k a b l p q. up j k a b l (where_is ms m j a p) (where_is ms m k b q);
}
  where
    each : (k : ℕ) (n : Mark) → (slice_get ms k ≡ Some n) ⊎ ((k ≡ length ms) × (n ≡ m)) → IsMarked g t n
    each k n (inl i) = h.each k n i
    each k n (inr i) = subst (λ z. IsMarked g t z) (sym i.1) (marked_now g t m e h.whole)

    up : (j k : ℕ) (a b : Mark) → j ≤ k → (slice_get ms j ≡ Some a) ⊎ ((j ≡ length ms) × (a ≡ m)) → (slice_get ms k ≡ Some b) ⊎ ((k ≡ length ms) × (b ≡ m)) → a.at ≤ b.at
    up j k a b l (inl p) (inl q) = h.rises j k a b l p q
    up j k a b l (inl p) (inr q) = let r = (h.each j a p).at in let n = ap (λ z. z.at) q.1 in omega (arith, r, e, n)
    up j k a b l (inr p) (inl q) = absurd (omega (arith, l, p.0, slice_get_within ms k b q))
    up j k a b l (inr p) (inr q) = let n = ap (λ z. z.at) p.1 in let o = ap (λ z. z.at) q.1 in omega (arith, n, o)

-- undone to a mark, with the marks before it
among : (ms : List Mark) (n k : ℕ) (m : Mark) → slice_get (take n ms) k ≡ Some m → (k < n) × (slice_get ms k ≡ Some m)
among ms zero k m h = cc
among [] (suc n) k m h = cc
among (x ∷ ms) (suc n) zero m h = (omega arith, h)
among (x ∷ ms) (suc n) (suc k) m h = let r = among ms n k m h in (omega (arith, r.0), r.1)

pub steady_back : (g : Game) (s t : Held) (ms : List Mark) (n : ℕ) (m : Mark) → IsSteady g s ms → slice_get ms n ≡ Some m → IsUndone m.at s t → t.box ≡ past_box s m.at → IsSteady g t (take n ms)
steady_back g s t ms n m h i u b = record {
  whole = subst (λ box. IsWhole g box) (sym b) (h.each n m i).whole;
  each = λ k o j. back o k (among ms n k o j);
  rises = λ j k a c l p q. h.rises j k a c l (among ms n j a p).1 (among ms n k c q).1;
}
  where
    back : (o : Mark) (k : ℕ) → (k < n) × (slice_get ms k ≡ Some o) → IsMarked g t o
    back o k p =
        let l : o.at ≤ m.at = h.rises k n o m (omega (arith, p.0)) p.1 i in
        marked_still g s t o (h.each k o p.1) (omega (arith, l, u.len)) (u.boxes o.at l)

pub steady_none : (g : Game) (s : Held) → is_box_of g s.box ≡ true → has_empty s.box ≡ false → IsSteady g s []
steady_none g s d f = record { whole = record { declared = d; full = f }; each = λ k m i. cc; rises = λ j k a b l p q. cc }

-- one mark more, or memory was refused
pub steady_pushed : (g : Game) (t : Held) (ms ns : List Mark) (m : Mark) → IsSteady g t ms → m.at ≡ trail_len t → (ns ≡ ms) ⊎ (ns ≡ ms ++ m ∷ []) → IsSteady g t ns
steady_pushed g t ms ns m h e (inl p) = subst (λ (ks : List Mark). IsSteady g t ks) (sym p) h
steady_pushed g t ms ns m h e (inr p) = subst (λ (ks : List Mark). IsSteady g t ks) (sym p) (steady_more g t ms m h e)
