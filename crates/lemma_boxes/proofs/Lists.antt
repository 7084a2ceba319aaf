-- Values that lie in a box, one for each of its domains, and values left to a variable after a change.
use Rattle.std.proofs.Common.{◌≡◌, inl, inr, ℕ, zero, suc, ◌+◌, ◌<◌, ◌≤◌, Bool, true, false, ◌||◌, ◌&&◌, not, List, [], ◌∷◌, ◌++◌, length, set, get_or, filter, drop, refl, sym, ap, ◌∙◌, subst, arith, slice_get, Some, None}
use Rattle.std.specs.Prelude.{ℤ, pos}
use Rattle.std.specs.List.{list_all, list_any}
use Rattle.qc_model.specs.Lists.{Among, LiesIn}
use Rattle.qc_model.specs.Content.{Rule}
use Rattle.lemma_list.specs.Reasons.{all_rules}
use Rattle.qc_model.specs.Domains.{Box, InBox, is_none_left, has_value}
use Rattle.std.specs.Ordering.{int_eq}
use Rattle.std.proofs.lemmas.Bool.{and_parts}
use Rattle.qc_model.proofs.Moves.{among_filter, of_filter}
use Rattle.model_table.proofs.Fits.{any_at}
use Rattle.model_table.proofs.Sums.{same_number}

pub differ : false ≡ true → ⊥
differ e = cc

pub not_true : (a : Bool) → not a ≡ true → a ≡ false
not_true true e = absurd (differ e)
not_true false e = refl

pub lies_in_box : (w : List ℤ) (ds : Box) → LiesIn w ds → InBox w ds
lies_in_box [] ds h = tt
lies_in_box (v ∷ w) [] h = absurd h
lies_in_box (v ∷ w) (d ∷ ds) h = (h.0, lies_in_box w ds h.1)

pub lies_filter : (p : ℤ → Bool) (ds : Box) (x : ℕ) (w : List ℤ) → LiesIn w ds → p (get_or w x (pos 0)) ≡ true → LiesIn w (set ds x (filter p (get_or ds x [])))
lies_filter p [] x [] h e = tt
lies_filter p (d ∷ ds) x [] h e = absurd h
lies_filter p [] x (v ∷ w) h e = h
lies_filter p (d ∷ ds) zero (v ∷ w) h e = (among_filter p v d h.0 e, h.1)
lies_filter p (d ∷ ds) (suc x) (v ∷ w) h e = (h.0, lies_filter p ds x w h.1 e)

pub lies_set : (ds : Box) (x : ℕ) (us w : List ℤ) → LiesIn w ds → Among (get_or w x (pos 0)) us → LiesIn w (set ds x us)
lies_set [] x us [] h m = tt
lies_set (d ∷ ds) x us [] h m = absurd h
lies_set [] x us (v ∷ w) h m = h
lies_set (d ∷ ds) zero us (v ∷ w) h m = (m, h.1)
lies_set (d ∷ ds) (suc x) us (v ∷ w) h m = (h.0, lies_set ds x us w h.1 m)

pub lies_at : (w : List ℤ) (ds : Box) (x : ℕ) → LiesIn w ds → x < length w → Among (get_or w x (pos 0)) (get_or ds x [])
lies_at [] ds x h l = absurd (omega arith)
lies_at (v ∷ w) [] x h l = absurd h
lies_at (v ∷ w) (d ∷ ds) zero h l = h.0
lies_at (v ∷ w) (d ∷ ds) (suc x) h l = lies_at w ds x h.1 (omega arith)

pub lies_empty : (w : List ℤ) (ds : Box) → LiesIn w ds → list_any is_none_left ds ≡ true → ⊥
lies_empty [] [] h e = differ e
lies_empty [] (d ∷ ds) h e = h
lies_empty (v ∷ w) [] h e = h
lies_empty (v ∷ w) (d ∷ ds) h e = go d h.0 e (λ q. lies_empty w ds h.1 q)
  where
    go : (d : List ℤ) → Among v d → (is_none_left d || list_any is_none_left ds) ≡ true → (list_any is_none_left ds ≡ true → ⊥) → ⊥
    go [] m e f = m
    go (u ∷ d) m e f = f e

-- what is left after a domain is set
pub left_some : (ds : Box) (x y : ℕ) (us : List ℤ) (v : ℤ) → ((z : ℤ) → Among z us → Among z (get_or ds x [])) → Among v (get_or (set ds x us) y []) → Among v (get_or ds y [])
left_some [] x y us v f h = h
left_some (d ∷ ds) zero zero us v f h = f v h
left_some (d ∷ ds) zero (suc y) us v f h = h
left_some (d ∷ ds) (suc x) zero us v f h = h
left_some (d ∷ ds) (suc x) (suc y) us v f h = left_some ds x y us v f h

pub left_filter : (p : ℤ → Bool) (ds : Box) (x y : ℕ) (v : ℤ) → Among v (get_or (set ds x (filter p (get_or ds x []))) y []) → Among v (get_or ds y [])
left_filter p ds x y v h = left_some ds x y (filter p (get_or ds x [])) v (λ z m. (of_filter p z (get_or ds x []) m).0) h

pub left_other : (ds : Box) (x y : ℕ) (us : List ℤ) (v : ℤ) → (x ≡ y → ⊥) → Among v (get_or ds y []) → Among v (get_or (set ds x us) y [])
left_other [] x y us v n h = h
left_other (d ∷ ds) zero zero us v n h = absurd (n refl)
left_other (d ∷ ds) zero (suc y) us v n h = h
left_other (d ∷ ds) (suc x) zero us v n h = h
left_other (d ∷ ds) (suc x) (suc y) us v n h = left_other ds x y us v (λ e. n (ap suc e)) h

pub left_same : (ds : Box) (x : ℕ) (v : ℤ) → Among v (get_or ds x []) → Among v (get_or (set ds x (v ∷ [])) x [])
left_same [] x v h = h
left_same (d ∷ ds) zero v h = inl refl
left_same (d ∷ ds) (suc x) v h = left_same ds x v h

-- places
pub get_among : {X : Type 0} (xs : List X) (k : ℕ) (x : X) → slice_get xs k ≡ Some x → Among x xs
get_among [] k x e = cc
get_among (y ∷ xs) zero x e = inl cc
get_among (y ∷ xs) (suc k) x e = inr (get_among xs k x e)

pub among_get : {X : Type 0} (xs : List X) (x : X) → Among x xs → (k : ℕ) × (slice_get xs k ≡ Some x)
among_get [] x m = absurd m
among_get (y ∷ xs) x m = elim m [ inl e ↦ (0, ap Some (sym e)) | inr t ↦ (let r = among_get xs x t in (suc r.0, r.1)) ]

pub all_same : {X : Type 0} (p q : X → Bool) (xs : List X) → ((x : X) → Among x xs → p x ≡ q x) → list_all p xs ≡ list_all q xs
all_same p q [] f = refl
all_same p q (x ∷ xs) f =
    ap (λ b. b && list_all p xs) (f x (inl refl)) ∙ ap (λ b. q x && b) (all_same p q xs (λ y m. f y (inr m)))

pub drop_head : {X : Type 0} (i : ℕ) (xs : List X) (y : X) (ys : List X) → drop i xs ≡ y ∷ ys → slice_get xs i ≡ Some y
drop_head zero [] y ys e = cc
drop_head zero (x ∷ xs) y ys e = cc
drop_head (suc i) [] y ys e = cc
drop_head (suc i) (x ∷ xs) y ys e = drop_head i xs y ys e

pub drop_tail : {X : Type 0} (i : ℕ) (xs : List X) (y : X) (ys : List X) → drop i xs ≡ y ∷ ys → drop (suc i) xs ≡ ys
drop_tail zero [] y ys e = cc
drop_tail zero (x ∷ xs) y ys e = cc
drop_tail (suc i) [] y ys e = cc
drop_tail (suc i) (x ∷ xs) y ys e = drop_tail i xs y ys e

pub drop_all : {X : Type 0} (i : ℕ) (xs : List X) → length xs ≡ i → drop i xs ≡ []
drop_all zero [] e = refl
drop_all zero (x ∷ xs) e = absurd (omega arith)
drop_all (suc i) [] e = refl
drop_all (suc i) (x ∷ xs) e = drop_all i xs (omega arith)

pub all_from : {X : Type 0} (p : X → Bool) (xs : List X) → ((x : X) → Among x xs → p x ≡ true) → list_all p xs ≡ true
all_from p [] f = refl
all_from p (x ∷ xs) f = join (p x) (list_all p xs) (f x (inl refl)) (all_from p xs (λ y m. f y (inr m)))
  where
    join : (a b : Bool) → a ≡ true → b ≡ true → (a && b) ≡ true
    join true b e f = f
    join false b e f = e

pub lies_some : (ds : Box) (x : ℕ) (us w : List ℤ) → ((z : ℤ) → Among z us → Among z (get_or ds x [])) → LiesIn w (set ds x us) → LiesIn w ds
lies_some [] x us w f h = h
lies_some (d ∷ ds) zero us [] f h = h
lies_some (d ∷ ds) (suc x) us [] f h = h
lies_some (d ∷ ds) zero us (v ∷ w) f h = (f v h.0, h.1)
lies_some (d ∷ ds) (suc x) us (v ∷ w) f h = (h.0, lies_some ds x us w f h.1)

pub lies_less : (p : ℤ → Bool) (ds : Box) (x : ℕ) (w : List ℤ) → LiesIn w (set ds x (filter p (get_or ds x []))) → LiesIn w ds
lies_less p ds x w h = lies_some ds x (filter p (get_or ds x [])) w (λ z m. (of_filter p z (get_or ds x []) m).0) h

pub left_only : (ds : Box) (x : ℕ) (u v : ℤ) → Among v (get_or ds x []) → Among u (get_or (set ds x (v ∷ [])) x []) → u ≡ v
left_only [] x u v m h = absurd m
left_only (d ∷ ds) zero u v m h = elim h [ inl e ↦ e | inr t ↦ absurd t ]
left_only (d ∷ ds) (suc x) u v m h = left_only ds x u v m h

pub value_among : (vs : List ℤ) (v : ℤ) → has_value vs v ≡ true → Among v vs
value_among vs v e = let r = any_at (int_eq v) vs e in subst (λ z. Among z vs) (sym (same_number v r.0 r.2)) r.1

pub get_front : (b r : List ℤ) (x : ℕ) → x < length b → get_or (b ++ r) x (pos 0) ≡ get_or b x (pos 0)
get_front [] r x l = absurd (omega arith)
get_front (v ∷ b) r zero l = refl
get_front (v ∷ b) r (suc x) l = get_front b r x (omega arith)

-- the first value
pub first_of : List ℤ → ℤ
first_of [] = pos 0
first_of (v ∷ d) = v

pub first_among : (ds : Box) (x : ℕ) → list_any is_none_left ds ≡ false → x < length ds → Among (first_of (get_or ds x [])) (get_or ds x [])
unfolding first_of
first_among [] x e l = absurd (omega arith)
first_among ([] ∷ ds) x e l = absurd (differ (sym e))
first_among ((v ∷ d) ∷ ds) zero e l = inl refl
first_among ((v ∷ d) ∷ ds) (suc x) e l = first_among ds x e (omega arith)

-- each constraint of a list, by its place
pub rule_at : (p : ℕ → Rule → Bool) (cs : List Rule) (j k : ℕ) (c : Rule) → all_rules p j cs ≡ true → slice_get cs k ≡ Some c → p (j + k) c ≡ true
rule_at p [] j k c e q = cc
rule_at p (d ∷ cs) j zero c e q =
    let s : d ≡ c = some_rule d c q in
    let n : j ≡ j + 0 = omega arith in
    subst (λ z. p (j + 0) z ≡ true) s (subst (λ i. p i d ≡ true) n (and_parts (p j d) (all_rules p (suc j) cs) e).0)
  where
    some_rule : (d c : Rule) → Some d ≡ Some c → d ≡ c
    some_rule d c e = cc
rule_at p (d ∷ cs) j (suc k) c e q =
    let n : suc j + k ≡ j + suc k = omega arith in
    subst (λ i. p i c ≡ true) n (rule_at p cs (suc j) k c (and_parts (p j d) (all_rules p (suc j) cs) e).1 q)
