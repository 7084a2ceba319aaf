-- Pages that are packed stay so where an item comes or goes.
use Rattle.std.proofs.Common.{◌≡◌, ℕ, zero, suc, ◌+◌, ◌-◌, ◌*◌, ◌%◌, ◌/◌, ◌<◌, ◌≤◌, List, [], ◌∷◌, ◌++◌, length, get_or, set, take, refl, sym, ap, subst, ◌∙◌, arith, take_at, length-take-le, append_assoc, append-nil, length-append}
use lib.ListN.{get_or-append}
use lib.Seq.{set_at, get_or_at, get_or-append_right}
use Rattle.paged_stack.specs.Packed.{last_of, joined, IsFilled, IsPacked, before_last}

take-past : {X : Type 0} (xs ys : List X) (m : ℕ) → take (length xs + m) (xs ++ ys) ≡ xs ++ take m ys
take-past [] ys m = let e : 0 + m ≡ m = omega arith in ap (λ k. take k ys) e
take-past (x ∷ xs) ys m = let e : suc (length xs) + m ≡ suc (length xs + m) = omega arith in ap (λ k. take k (x ∷ (xs ++ ys))) e ∙ ap (λ l. x ∷ l) (take-past xs ys m)

module _ {X : Type 0} where
  -- each page is full
  abbrev pub AllFull : List (List X) → Type 0
  AllFull [] = Unit {0}
  AllFull (page ∷ pages) = (length page ≡ 1024) × AllFull pages

  pub joined-append : (ps qs : List (List X)) → joined (ps ++ qs) ≡ joined ps ++ joined qs
  joined-append [] qs = refl
  joined-append (p ∷ ps) qs = ap (λ l. p ++ l) (joined-append ps qs) ∙ sym (append_assoc p (joined ps) (joined qs))

  pub joined-snoc : (ps : List (List X)) (p : List X) → joined (ps ++ p ∷ []) ≡ joined ps ++ p
  joined-snoc ps p = joined-append ps (p ∷ []) ∙ ap (λ l. joined ps ++ l) (append-nil p)

  pub length-joined-snoc : (ps : List (List X)) (p : List X) → length (joined (ps ++ p ∷ [])) ≡ length (joined ps) + length p
  length-joined-snoc ps p = ap length (joined-snoc ps p) ∙ length-append (joined ps) p

  pub length-snoc : (ps : List (List X)) (p : List X) → length (ps ++ p ∷ []) ≡ length ps + 1
  length-snoc ps p = length-append ps (p ∷ [])

  pub full_length : (ps : List (List X)) → AllFull ps → length (joined ps) ≡ 1024 * length ps
  full_length [] f = refl
  full_length (p ∷ ps) f = omega (arith, length-append p (joined ps), f.0, full_length ps f.1)

  -- the last page, apart
  pub split_last : (ps : List (List X)) → 0 < length ps → (front : List (List X)) × (last : List X) × (ps ≡ front ++ last ∷ [])
  split_last [] p = absurd (omega arith)
  split_last (x ∷ []) p = ([], x, refl)
  split_last (x ∷ y ∷ ps) p = let on = split_last (y ∷ ps) (omega arith) in (x ∷ on.0, on.1, ap (λ l. x ∷ l) on.2)

  filled_front : (x : List X) (ps : List (List X)) (p : List X) → IsFilled x (ps ++ p ∷ []) → length x ≡ 1024
  filled_front x [] p f = f
  filled_front x (y ∷ ps) p f = f

  front_filled : (x : List X) (ps : List (List X)) (p : List X) → length x ≡ 1024 → IsFilled x (ps ++ p ∷ [])
  front_filled x [] p f = f
  front_filled x (y ∷ ps) p f = f

  pub packed_out : (ps : List (List X)) (p : List X) → IsPacked (ps ++ p ∷ []) → AllFull ps × (0 < length p) × (length p ≤ 1024)
  packed_out [] p k = (tt, k.0.0, k.0.1)
  packed_out (x ∷ ps) p k = let on = packed_out ps p k.1 in ((filled_front x ps p k.0, on.0), on.1, on.2)

  pub packed_in : (ps : List (List X)) (p : List X) → AllFull ps → 0 < length p → length p ≤ 1024 → IsPacked (ps ++ p ∷ [])
  packed_in [] p f some most = ((some, most), tt)
  packed_in (x ∷ ps) p f some most = (front_filled x ps p f.0, packed_in ps p f.1 some most)

  pub packed_of_full : (ps : List (List X)) → AllFull ps → IsPacked ps
  packed_of_full [] f = tt
  packed_of_full (x ∷ []) f = ((omega (arith, f.0), omega (arith, f.0)), tt)
  packed_of_full (x ∷ y ∷ ps) f = (f.0, packed_of_full (y ∷ ps) f.1)

  full_snoc : (ps : List (List X)) (p : List X) → AllFull ps → length p ≡ 1024 → AllFull (ps ++ p ∷ [])
  full_snoc [] p f e = (e, tt)
  full_snoc (x ∷ ps) p f e = (f.0, full_snoc ps p f.1 e)

  pub full_init : (ps : List (List X)) (p : List X) → AllFull (ps ++ p ∷ []) → AllFull ps
  full_init [] p f = tt
  full_init (x ∷ ps) p f = (f.0, full_init ps p f.1)

  -- how many items packed pages hold
  pub packed_bounds : (ps : List (List X)) → IsPacked ps → (length (joined ps) ≤ 1024 * length ps) × (1024 * length ps ≤ length (joined ps) + 1023)
  packed_bounds [] k = (omega arith, omega arith)
  packed_bounds (x ∷ ps) k =
      let s = split_last (x ∷ ps) (omega arith) in
      let o = packed_out s.0 s.1 (subst IsPacked s.2 k) in
      let long = ap length s.2 ∙ length-snoc s.0 s.1 in
      let many = ap (λ l. length (joined l)) s.2 ∙ length-joined-snoc s.0 s.1 in
      let full = full_length s.0 o.0 in
      (omega (arith, long, many, full, o.2), omega (arith, long, many, full, o.1))

  pub packed_full : (ps : List (List X)) → IsPacked ps → length (joined ps) % 1024 ≡ 0 → AllFull ps
  packed_full [] k even = tt
  packed_full (x ∷ ps) k even =
      let s = split_last (x ∷ ps) (omega arith) in
      let o = packed_out s.0 s.1 (subst IsPacked s.2 k) in
      let many = ap (λ l. length (joined l)) s.2 ∙ length-joined-snoc s.0 s.1 in
      let full = full_length s.0 o.0 in
      subst AllFull (sym s.2) (full_snoc s.0 s.1 o.0 (omega (arith, many, full, o.1, o.2, even)))

  last_snoc : (ps : List (List X)) (p : List X) → last_of (ps ++ p ∷ []) ≡ p
  last_snoc ps p = get_or_at ps p [] [] (length (ps ++ p ∷ []) - 1) (omega (arith, length-snoc ps p))

  set_snoc : (ps : List (List X)) (p w : List X) → set (ps ++ p ∷ []) (length (ps ++ p ∷ []) - 1) w ≡ ps ++ w ∷ []
  set_snoc ps p w = set_at ps p [] w (length (ps ++ p ∷ []) - 1) (omega (arith, length-snoc ps p))

  -- the pages with w in place of the last
  abbrev pub relast : List (List X) → List X → List (List X)
  relast ps w = set ps (length ps - 1) w

  -- a page that holds one item comes after full ones
  pub opened : (ps : List (List X)) (x : X) → IsPacked ps → length (joined ps) % 1024 ≡ 0
      → IsPacked (ps ++ (x ∷ []) ∷ []) × (joined (ps ++ (x ∷ []) ∷ []) ≡ joined ps ++ x ∷ [])
  opened ps x k even = (packed_in ps (x ∷ []) (packed_full ps k even) (omega arith) (omega arith), joined-snoc ps (x ∷ []))

  -- the last page is not full
  pub has_room : (ps : List (List X)) → IsPacked ps → (length (joined ps) % 1024 ≡ 0 → ⊥) → (0 < length ps) × (length (last_of ps) < 1024)
  has_room [] k odd = absurd (odd refl)
  has_room (x ∷ ps) k odd =
      let s = split_last (x ∷ ps) (omega arith) in
      let o = packed_out s.0 s.1 (subst IsPacked s.2 k) in
      let many = ap (λ l. length (joined l)) s.2 ∙ length-joined-snoc s.0 s.1 in
      let full = full_length s.0 o.0 in
      (omega arith, omega (arith, many, full, o.1, o.2, odd, ap length (ap last_of s.2 ∙ last_snoc s.0 s.1)))

  pub added : (ps : List (List X)) (x : X) → IsPacked ps → (length (joined ps) % 1024 ≡ 0 → ⊥)
      → IsPacked (relast ps (last_of ps ++ x ∷ [])) × (joined (relast ps (last_of ps ++ x ∷ [])) ≡ joined ps ++ x ∷ []) × (length (relast ps (last_of ps ++ x ∷ [])) ≡ length ps)
  added ps x k odd =
      let room = has_room ps k odd in
      let s = split_last ps room.0 in
      let o = packed_out s.0 s.1 (subst IsPacked s.2 k) in
      let is : relast ps (last_of ps ++ x ∷ []) ≡ s.0 ++ (s.1 ++ x ∷ []) ∷ [] =
      ap (λ l. relast l (last_of l ++ x ∷ [])) s.2 ∙ set_snoc s.0 s.1 _ ∙ ap (λ l. s.0 ++ (l ++ x ∷ []) ∷ []) (last_snoc s.0 s.1) in
      let short : length s.1 < 1024 = omega (arith, room.1, ap length (ap last_of s.2 ∙ last_snoc s.0 s.1)) in (
        subst IsPacked (sym is) (packed_in s.0 (s.1 ++ x ∷ []) o.0 (omega (arith, length-append s.1 (x ∷ []))) (omega (arith, length-append s.1 (x ∷ [])))),
        ap joined is ∙ joined-snoc s.0 (s.1 ++ x ∷ []) ∙ sym (append_assoc (joined s.0) s.1 (x ∷ [])) ∙ ap (λ l. l ++ x ∷ []) (sym (joined-snoc s.0 s.1) ∙ ap joined (sym s.2)),
        ap length is ∙ length-snoc s.0 _ ∙ sym (length-snoc s.0 s.1) ∙ ap length (sym s.2),
      )

  -- the last page holds items
  pub some_last : (ps : List (List X)) → IsPacked ps → 0 < length (joined ps) → (0 < length ps) × (0 < length (last_of ps))
  some_last [] k some = absurd (omega arith)
  some_last (x ∷ ps) k some =
      let s = split_last (x ∷ ps) (omega arith) in
      let o = packed_out s.0 s.1 (subst IsPacked s.2 k) in
      (omega arith, omega (arith, o.1, ap length (ap last_of s.2 ∙ last_snoc s.0 s.1)))

  -- the last item goes, and others stay on its page
  pub taken : (ps : List (List X)) (ys : List X) (x : X) → IsPacked ps → (length (joined ps) % 1024 ≡ 1 → ⊥) → 0 < length ps → last_of ps ≡ ys ++ x ∷ []
      → IsPacked (relast ps ys) × (joined ps ≡ joined (relast ps ys) ++ x ∷ []) × (length (relast ps ys) ≡ length ps)
  taken ps ys x k odd some e =
      let s = split_last ps some in
      let o = packed_out s.0 s.1 (subst IsPacked s.2 k) in
      let ends : s.1 ≡ ys ++ x ∷ [] = sym (last_snoc s.0 s.1) ∙ ap last_of (sym s.2) ∙ e in
      let is : relast ps ys ≡ s.0 ++ ys ∷ [] = ap (λ l. relast l ys) s.2 ∙ set_snoc s.0 s.1 ys in
      let many = ap (λ l. length (joined l)) s.2 ∙ length-joined-snoc s.0 s.1 in
      let full = full_length s.0 o.0 in
      let long = ap length ends ∙ length-append ys (x ∷ []) in
      let left : 0 < length ys = positive (length ys) (λ none. odd (omega (arith, many, full, long, none))) in (
        subst IsPacked (sym is) (packed_in s.0 ys o.0 left (omega (arith, long, o.2))),
        ap joined s.2 ∙ joined-snoc s.0 s.1 ∙ ap (λ l. joined s.0 ++ l) ends ∙ sym (append_assoc (joined s.0) ys (x ∷ [])) ∙ ap (λ l. l ++ x ∷ []) (sym (joined-snoc s.0 ys) ∙ ap joined (sym is)),
        ap length is ∙ length-snoc s.0 ys ∙ sym (length-snoc s.0 s.1) ∙ ap length (sym s.2),
      )
    where
      positive : (n : ℕ) → (n ≡ 0 → ⊥) → 0 < n
      positive zero wrong = absurd (wrong refl)
      positive (suc n) wrong = omega arith

  -- the last item goes with its page
  pub emptied : (ps qs : List (List X)) (p ys : List X) (x : X) → IsPacked ps → length (joined ps) % 1024 ≡ 1 → ps ≡ qs ++ p ∷ [] → p ≡ ys ++ x ∷ []
      → IsPacked qs × (joined ps ≡ joined qs ++ x ∷ []) × (length ps ≡ length qs + 1)
  emptied ps qs p ys x k one e ends =
      let o = packed_out qs p (subst IsPacked e k) in
      let many = ap (λ l. length (joined l)) e ∙ length-joined-snoc qs p in
      let full = full_length qs o.0 in
      let long = ap length ends ∙ length-append ys (x ∷ []) in
      let none : ys ≡ [] = nothing ys (omega (arith, many, full, long, one, o.2)) in
      (packed_of_full qs o.0, ap joined e ∙ joined-snoc qs p ∙ ap (λ l. joined qs ++ l) (ends ∙ ap (λ l. l ++ x ∷ []) none), ap length e ∙ length-snoc qs p)
    where
      nothing : (l : List X) → length l ≡ 0 → l ≡ []
      nothing [] q = refl
      nothing (y ∷ l) q = absurd (omega arith)

  -- where an item lies
  pub lies_at : (ps : List (List X)) (i j : ℕ) (d : List X) (x : X) → IsPacked ps → j < 1024 → 1024 * i + j < length (joined ps)
      → (j < length (get_or ps i d)) × (get_or (joined ps) (1024 * i + j) x ≡ get_or (get_or ps i d) j x)
  lies_at [] i j d x k low lt = absurd (omega arith)
  lies_at (p ∷ []) zero j d x k low lt =
      let short : j < length p = omega (arith, ap length (append-nil p)) in
      (short, ap (λ n. get_or (p ++ []) n x) (omega arith) ∙ ap (λ l. get_or l j x) (append-nil p))
  lies_at (p ∷ q ∷ ps) zero j d x k low lt =
      let short : j < length p = omega (arith, k.0) in
      (short, ap (λ n. get_or (p ++ joined (q ∷ ps)) n x) (omega arith) ∙ get_or-append p (joined (q ∷ ps)) x j short)
  lies_at (p ∷ []) (suc i) j d x k low lt = absurd (omega (arith, k.0.1, ap length (append-nil p)))
  lies_at (p ∷ q ∷ ps) (suc i) j d x k low lt =
      let long = length-append p (joined (q ∷ ps)) in
      let on = lies_at (q ∷ ps) i j d x k.1 low (omega (arith, k.0, long)) in
      (on.0, get_or-append_right p (joined (q ∷ ps)) (1024 * suc i + j) x (omega (arith, k.0)) ∙ ap (λ n. get_or (joined (q ∷ ps)) n x) (omega (arith, k.0)) ∙ on.1)

  -- the page that has an item is among the pages
  pub page_in : (ps : List (List X)) (place : ℕ) → IsPacked ps → place < length (joined ps) → place / 1024 < length ps
  page_in ps place k lt = omega (arith, lt, (packed_bounds ps k).0)

  -- where that item lies on it
  pub page_has : (ps : List (List X)) (place : ℕ) (page : List X) (x : X) → IsPacked ps → place < length (joined ps) → page ≡ get_or ps (place / 1024) page
      → (place % 1024 < length page) × (get_or (joined ps) place x ≡ get_or page (place % 1024) x)
  page_has ps place page x k lt is =
      let parts : 1024 * (place / 1024) + place % 1024 ≡ place = omega arith in
      let at = lies_at ps (place / 1024) (place % 1024) page x k (omega arith) (omega (arith, parts, lt)) in (
        omega (arith, at.0, ap length is),
        ap (λ n. get_or (joined ps) n x) (sym parts) ∙ at.1 ∙ ap (λ l. get_or l (place % 1024) x) (sym is),
      )

  -- some item, where there is one
  pub first_of : (xs : List X) → 0 < length xs → X
  first_of [] p = absurd (omega arith)
  first_of (x ∷ xs) p = x

  -- the last page goes whole
  pub dropped : (ps qs : List (List X)) (p : List X) → IsPacked ps → ps ≡ qs ++ p ∷ []
      → IsPacked qs × (length (joined qs) ≡ before_last (joined ps)) × (joined qs ≡ take (before_last (joined ps)) (joined ps)) × (length ps ≡ length qs + 1)
  dropped ps qs p k e =
      let o = packed_out qs p (subst IsPacked e k) in
      let many = ap (λ l. length (joined l)) e ∙ length-joined-snoc qs p in
      let full = full_length qs o.0 in
      let long : length (joined qs) ≡ before_last (joined ps) = omega (arith, many, full, o.1, o.2) in (
        packed_of_full qs o.0,
        long,
        sym (take_at (joined qs) p (before_last (joined ps)) long) ∙ ap (take (before_last (joined ps))) (sym (ap joined e ∙ joined-snoc qs p)),
        ap length e ∙ length-snoc qs p,
      )

  -- the last page keeps its first n - (before it) items
  pub shortened : (ps : List (List X)) (n : ℕ) → IsPacked ps → before_last (joined ps) < n → n ≤ length (joined ps)
      → (0 < length ps) × (n - before_last (joined ps) ≤ length (last_of ps))
      × IsPacked (relast ps (take (n - before_last (joined ps)) (last_of ps))) × (joined (relast ps (take (n - before_last (joined ps)) (last_of ps))) ≡ take n (joined ps))
      × (length (relast ps (take (n - before_last (joined ps)) (last_of ps))) ≡ length ps)
  shortened [] n k low high = absurd (omega arith)
  shortened (y ∷ ys) n k low high =
      let ps = y ∷ ys in
      let s = split_last ps (omega arith) in
      let o = packed_out s.0 s.1 (subst IsPacked s.2 k) in
      let m = n - before_last (joined ps) in
      let many = ap (λ l. length (joined l)) s.2 ∙ length-joined-snoc s.0 s.1 in
      let full = full_length s.0 o.0 in
      let ends : last_of ps ≡ s.1 = ap last_of s.2 ∙ last_snoc s.0 s.1 in
      let is : relast ps (take m (last_of ps)) ≡ s.0 ++ take m s.1 ∷ [] = ap (λ l. relast l (take m (last_of l))) s.2 ∙ set_snoc s.0 s.1 _ ∙ ap (λ l. s.0 ++ take m l ∷ []) (last_snoc s.0 s.1) in
      let fits : m ≤ length s.1 = omega (arith, many, full, o.1, o.2) in
      let long : length (take m s.1) ≡ m = length-take-le m s.1 fits in
      let parts : length (joined s.0) + m ≡ n = omega (arith, many, full, o.1, o.2) in (
        omega arith,
        omega (arith, fits, ap length ends),
        subst IsPacked (sym is) (packed_in s.0 (take m s.1) o.0 (omega (arith, long)) (omega (arith, long, fits, o.2))),
        ap joined is ∙ joined-snoc s.0 (take m s.1) ∙ sym (take-past (joined s.0) s.1 m) ∙ ap (λ j. take j (joined s.0 ++ s.1)) parts ∙ ap (take n) (sym (joined-snoc s.0 s.1) ∙ ap joined (sym s.2)),
        ap length is ∙ length-snoc s.0 _ ∙ sym (length-snoc s.0 s.1) ∙ ap length (sym s.2),
      )
