-- What holds at saved places, as the store goes on and back.
use Rattle.std.proofs.Common.{◌≡◌, ◌≤◌, ◌⊎◌, ℕ, zero, suc, true, false, List, [], ◌∷◌, ◌++◌, length, refl, sym, ap, subst, arith, inl, inr, Option, Some, None}
use Rattle.std.specs.Prelude.{slice_get, IfNone, IfSome}
use Rattle.std.proofs.lemmas.Option.{slice_get_within}
use Rattle.qc_model.specs.Content.{Game}
use Rattle.qc_model.specs.Domains.{has_empty}
use Rattle.model_arguments.specs.Asked.{is_box_of}
use Rattle.fd_store.specs.Held.{Held, Follows, IsUndone, trail_len, past_box}
use Rattle.fd_store.specs.declared.store.Mark.{Mark}
use Rattle.box_laws.proofs.Trails.{past_now}
use Rattle.dense_board.specs.Saved.{IsSaved, AreSaved}

saved_still : (g : Game) (s t : Held) (m : Mark) → IsSaved g s m → m.at ≤ trail_len t → past_box t m.at ≡ past_box s m.at → IsSaved g t m
saved_still g s t m h l p = record {
  at = l;
  declared = subst (λ b. is_box_of g b ≡ true) (sym p) h.declared;
  full = subst (λ b. has_empty b ≡ false) (sym p) h.full;
}

-- a store that went on
pub saved_on : (g : Game) (s t : Held) (ms : List Mark) → AreSaved g s ms → Follows s t → AreSaved g t ms
saved_on g s t ms h w = record { each = λ k m i. on m (h.each k m i); rises = h.rises }
  where
    on : (m : Mark) → IsSaved g s m → IsSaved g t m
    on m k = saved_still g s t m k (omega (arith, k.at, w.longer)) (w.boxes m.at k.at)

-- one place more, for the box that the store has
saved_now : (g : Game) (s : Held) (m : Mark) → m.at ≡ trail_len s → is_box_of g s.box ≡ true → has_empty s.box ≡ false → IsSaved g s m
saved_now g s m e d f =
    let here : past_box s m.at ≡ s.box = past_now s m.at e in
    record {
      at = omega (arith, e);
      declared = subst (λ b. is_box_of g b ≡ true) (sym here) d;
      full = subst (λ b. has_empty b ≡ false) (sym here) f;
    }

where_is : (ms : List Mark) (m : Mark) (k : ℕ) (n : Mark) → slice_get (ms ++ m ∷ []) k ≡ Some n → (slice_get ms k ≡ Some n) ⊎ ((k ≡ length ms) × (n ≡ m))
where_is [] m zero n h = inr (refl, cc)
where_is [] m (suc k) n h = cc
where_is (x ∷ ms) m zero n h = inl h
where_is (x ∷ ms) m (suc k) n h = next (where_is ms m k n h)
  where
    next : (slice_get ms k ≡ Some n) ⊎ ((k ≡ length ms) × (n ≡ m)) → (slice_get ms k ≡ Some n) ⊎ ((suc k ≡ suc (length ms)) × (n ≡ m))
    next (inl p) = inl p
    next (inr p) = inr (ap suc p.0, p.1)

pub saved_more : (g : Game) (s : Held) (ms : List Mark) (m : Mark) → AreSaved g s ms → m.at ≡ trail_len s → is_box_of g s.box ≡ true → has_empty s.box ≡ false → AreSaved g s (ms ++ m ∷ [])
saved_more g s ms m h e d f = record {
  each = λ k n i. each k n (where_is ms m k n i);
  rises = λ j k a b l p q. up j k a b l (where_is ms m j a p) (where_is ms m k b q);
}
  where
    each : (k : ℕ) (n : Mark) → (slice_get ms k ≡ Some n) ⊎ ((k ≡ length ms) × (n ≡ m)) → IsSaved g s n
    each k n (inl i) = h.each k n i
    each k n (inr i) = subst (λ z. IsSaved g s z) (sym i.1) (saved_now g s m e d f)

    up : (j k : ℕ) (a b : Mark) → j ≤ k → (slice_get ms j ≡ Some a) ⊎ ((j ≡ length ms) × (a ≡ m)) → (slice_get ms k ≡ Some b) ⊎ ((k ≡ length ms) × (b ≡ m)) → a.at ≤ b.at
    up j k a b l (inl p) (inl q) = h.rises j k a b l p q
    up j k a b l (inl p) (inr q) = let r = (h.each j a p).at in let n = ap (λ z. z.at) q.1 in omega (arith, r, e, n)
    up j k a b l (inr p) (inl q) = absurd (omega (arith, l, p.0, slice_get_within ms k b q))
    up j k a b l (inr p) (inr q) = let n = ap (λ z. z.at) p.1 in let o = ap (λ z. z.at) q.1 in omega (arith, n, o)

-- the last place is there
last_there : (ms : List Mark) (m : Mark) → slice_get (ms ++ m ∷ []) (length ms) ≡ Some m
last_there [] m = refl
last_there (x ∷ ms) m = last_there ms m

earlier : (ms : List Mark) (m : Mark) (k : ℕ) (n : Mark) → slice_get ms k ≡ Some n → slice_get (ms ++ m ∷ []) k ≡ Some n
earlier [] m k n h = cc
earlier (x ∷ ms) m zero n h = h
earlier (x ∷ ms) m (suc k) n h = earlier ms m k n h

pub saved_last : (g : Game) (s : Held) (ms : List Mark) (m : Mark) → AreSaved g s (ms ++ m ∷ []) → IsSaved g s m
saved_last g s ms m h = h.each (length ms) m (last_there ms m)

-- undone to the last place
pub saved_back : (g : Game) (s t : Held) (ms : List Mark) (m : Mark) → AreSaved g s (ms ++ m ∷ []) → IsUndone m.at s t → AreSaved g t ms
saved_back g s t ms m h u = record {
  each = λ k n i. back k n i;
  rises = λ j k a b l p q. h.rises j k a b l (earlier ms m j a p) (earlier ms m k b q);
}
  where
    back : (k : ℕ) (n : Mark) → slice_get ms k ≡ Some n → IsSaved g t n
    back k n i =
        let l : n.at ≤ m.at = h.rises k (length ms) n m (let w = slice_get_within ms k n i in omega (arith, w)) (earlier ms m k n i) (last_there ms m) in
        saved_still g s t n (h.each k n (earlier ms m k n i)) (omega (arith, l, u.len)) (u.boxes n.at l)

-- one place less
saved_less : (g : Game) (s : Held) (ms : List Mark) (m : Mark) → AreSaved g s (ms ++ m ∷ []) → AreSaved g s ms
saved_less g s ms m h = record {
  each = λ k n i. h.each k n (earlier ms m k n i);
  rises = λ j k a b l p q. h.rises j k a b l (earlier ms m j a p) (earlier ms m k b q);
}

pub saved_popped : (g : Game) (s : Held) (ms ns : List Mark) (last : Option Mark) → IfNone last (ns ≡ ms) → IfSome last (λ m. ms ≡ ns ++ m ∷ []) → AreSaved g s ms → AreSaved g s ns
saved_popped g s ms ns None e f h = subst (λ (ks : List Mark). AreSaved g s ks) (sym e) h
saved_popped g s ms ns (Some m) e f h = saved_less g s ns m (subst (λ (ks : List Mark). AreSaved g s ks) f h)

pub saved_none : (g : Game) (s : Held) → AreSaved g s []
saved_none g s = record { each = λ k m i. cc; rises = λ j k a b l p q. cc }

-- one place more, or memory was refused
pub saved_pushed : (g : Game) (s : Held) (ms ns : List Mark) (m : Mark) → AreSaved g s ms → m.at ≡ trail_len s → is_box_of g s.box ≡ true → has_empty s.box ≡ false →
    (ns ≡ ms) ⊎ (ns ≡ ms ++ m ∷ []) → AreSaved g s ns
saved_pushed g s ms ns m h e d f (inl p) = subst (λ (ks : List Mark). AreSaved g s ks) (sym p) h
saved_pushed g s ms ns m h e d f (inr p) = subst (λ (ks : List Mark). AreSaved g s ks) (sym p) (saved_more g s ms m h e d f)
