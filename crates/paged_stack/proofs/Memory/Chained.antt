-- What stays linked where a node comes or goes.
use mathlib.Core.Path.{◌≡◌, refl, ap, ◌∙◌}
use mathlib.Core.Logic.{∥∥₁_elim}
use mathlib.Core.List.{List, [], ◌∷◌, ◌++◌}
use Prim.Native.Nat.{ℕ, zero, suc, ◌+◌, ◌-◌, ◌<◌}
use native.Mathlib.Omega.{arith}
use lib.ListN.{length, get_or}
use base.Stored.{Coded-set}
use denote.RawPtr.{Ptr, null_ptr, coded_ptr}
use Rattle.paged_stack.specs.Links.{Link, place_of, LeadsForward, LeadsBackTo, LeadsBack, IsChained}

LeadsForward-prop : (h : Ptr) (ls : List Link) → IsProp (LeadsForward h ls)
LeadsForward-prop h [] = λ p q. refl
LeadsForward-prop h (l ∷ ls) = λ p q i. (Coded-set coded_ptr h l.0 p.0 q.0 i, LeadsForward-prop l.1 ls p.1 q.1 i)

LeadsBackTo-prop : (a : Ptr) (ls : List Link) (t : Ptr) → IsProp (LeadsBackTo a ls t)
LeadsBackTo-prop a [] t = Coded-set coded_ptr t a
LeadsBackTo-prop a (l ∷ ls) t = λ p q i. (Coded-set coded_ptr l.2 a p.0 q.0 i, LeadsBackTo-prop l.0 ls t p.1 q.1 i)

LeadsBack-prop : (ls : List Link) (t : Ptr) → IsProp (LeadsBack ls t)
LeadsBack-prop [] t = λ p q. refl
LeadsBack-prop (l ∷ ls) t = LeadsBackTo-prop l.0 ls t

pub IsChained-had : (h t : Ptr) (ls : List Link) → ∥ IsChained h t ls ∥₁ → IsChained h t ls
IsChained-had h t ls c = ∥∥₁_elim c (λ p q i. (LeadsForward-prop h ls p.0 q.0 i, LeadsBack-prop ls t p.1 q.1 i)) (λ p. p)

-- ---- at the front
pub IsChained-tail : (h t : Ptr) (l : Link) (ls : List Link) → IsChained h t (l ∷ ls) → IsChained l.1 t ls
IsChained-tail h t l [] c = (tt, tt)
IsChained-tail h t l (m ∷ ls) c = (c.0.1, c.1.1)

pub IsChained-cons : (h t p q : Ptr) (l : Link) (ls : List Link) → IsChained h t (l ∷ ls) → IsChained p t ((p, h, q) ∷ (l.0, l.1, p) ∷ ls)
IsChained-cons h t p q l ls c = ((refl, c.0), (refl, c.1))

-- ---- at the back
LeadsForward-init : (h : Ptr) (ls : List Link) (l : Link) → LeadsForward h (ls ++ l ∷ []) → LeadsForward h ls
LeadsForward-init h [] l c = tt
LeadsForward-init h (m ∷ ls) l c = (c.0, LeadsForward-init m.1 ls l c.1)

LeadsBackTo-init : (a t : Ptr) (ls : List Link) (l : Link) → LeadsBackTo a (ls ++ l ∷ []) t → LeadsBackTo a ls l.2 × (t ≡ l.0)
LeadsBackTo-init a t [] l c = c
LeadsBackTo-init a t (m ∷ ls) l c = let on = LeadsBackTo-init m.0 t ls l c.1 in ((c.0, on.0), on.1)

pub IsChained-init : (h t : Ptr) (ls : List Link) (l : Link) → IsChained h t (ls ++ l ∷ []) → IsChained h l.2 ls × (t ≡ l.0)
IsChained-init h t [] l c = ((tt, tt), c.1)
IsChained-init h t (m ∷ ls) l c = let on = LeadsBackTo-init m.0 t ls l c.1 in ((LeadsForward-init h (m ∷ ls) l c.0, on.0), on.1)

-- ---- two chains are joined: the last node of the first gets a new `next`, and the first of the second a new `prev`
LeadsForward-join : (h p : Ptr) (ls : List Link) (l : Link) (ms : List Link) → LeadsForward h (ls ++ l ∷ []) → LeadsForward p ms → LeadsForward h ((ls ++ (l.0, p, l.2) ∷ []) ++ ms)
LeadsForward-join h p [] l ms c d = (c.0, d)
LeadsForward-join h p (k ∷ ls) l ms c d = (c.0, LeadsForward-join k.1 p ls l ms c.1 d)

LeadsBackTo-join : (a t u p : Ptr) (ls : List Link) (l : Link) (ms : List Link) → LeadsBackTo a (ls ++ l ∷ []) t → LeadsBackTo l.0 ms u → LeadsBackTo a ((ls ++ (l.0, p, l.2) ∷ []) ++ ms) u
LeadsBackTo-join a t u p [] l ms c d = (c.0, d)
LeadsBackTo-join a t u p (k ∷ ls) l ms c d = (c.0, LeadsBackTo-join k.0 t u p ls l ms c.1 d)

pub IsChained-join : (h t p u : Ptr) (ls : List Link) (l m : Link) (ms : List Link) → IsChained h t (ls ++ l ∷ []) → IsChained p u (m ∷ ms)
    → IsChained h u ((ls ++ (l.0, p, l.2) ∷ []) ++ (m.0, m.1, l.0) ∷ ms)
IsChained-join h t p u [] l m ms c d = ((c.0.0, d.0), (refl, d.1))
IsChained-join h t p u (k ∷ ls) l m ms c d =
    (LeadsForward-join h p (k ∷ ls) l ((m.0, m.1, l.0) ∷ ms) c.0 d.0, LeadsBackTo-join k.0 t u p ls l ((m.0, m.1, l.0) ∷ ms) c.1 (refl, d.1))

-- ---- by index
abbrev pub link_at : List Link → ℕ → Link
link_at ls i = get_or ls i (null_ptr, null_ptr, null_ptr)

pub place_of-is : (ls : List Link) (i : ℕ) → place_of ls i ≡ (link_at ls i).0
unfolding place_of
place_of-is ls i = refl

pub head_is : (h : Ptr) (ls : List Link) → 0 < length ls → LeadsForward h ls → h ≡ (link_at ls 0).0
head_is h [] p c = absurd (omega arith)
head_is h (l ∷ ls) p c = c.0

pub next_is : (h : Ptr) (ls : List Link) (i : ℕ) → i + 1 < length ls → LeadsForward h ls → (link_at ls i).1 ≡ (link_at ls (suc i)).0
next_is h [] i p c = absurd (omega arith)
next_is h (l ∷ ls) zero p c = head_is l.1 ls (omega arith) c.1
next_is h (l ∷ ls) (suc i) p c = next_is l.1 ls i (omega arith) c.1

before_is : (l : Link) (ls : List Link) (t : Ptr) (i : ℕ) → i < length ls → LeadsBackTo l.0 ls t → (link_at ls i).2 ≡ (link_at (l ∷ ls) i).0
before_is l [] t i p c = absurd (omega arith)
before_is l (m ∷ ls) t zero p c = c.0
before_is l (m ∷ ls) t (suc i) p c = before_is m ls t i (omega arith) c.1

pub prev_is : (ls : List Link) (t : Ptr) (i : ℕ) → suc i < length ls → LeadsBack ls t → (link_at ls (suc i)).2 ≡ (link_at ls i).0
prev_is [] t i p c = absurd (omega arith)
prev_is (l ∷ ls) t i p c = before_is l ls t i (omega arith) c

last_is : (l : Link) (ls : List Link) (t : Ptr) → LeadsBackTo l.0 ls t → t ≡ (link_at (l ∷ ls) (length ls)).0
last_is l [] t c = c
last_is l (m ∷ ls) t c = last_is m ls t c.1

pub tail_is : (ls : List Link) (t : Ptr) (n : ℕ) → n ≡ length ls → 0 < n → LeadsBack ls t → t ≡ (link_at ls (n - 1)).0
tail_is [] t n e p c = absurd (omega arith)
tail_is (l ∷ ls) t n e p c = let less : length ls ≡ n - 1 = omega arith in last_is l ls t c ∙ ap (λ k. (link_at (l ∷ ls) k).0) less
