-- Short lines stand for the same when wide ones are appended, and when they are taken apart and put together.
use Rattle.std.proofs.Common.{◌≡◌, ◌∙◌, refl, sym, ap, ℕ, ◌≤◌, ◌<◌, ◌+◌, ◌-◌, zero, suc, List, [], ◌∷◌, ◌++◌, length, map, take, drop, arith, subst, get_or, set, flat_map, append_assoc, Result, OnOk}
use Rattle.std.proofs.lemmas.List.{append-nil, get_or-take, length-take, length-drop, map-append, take-map, drop-map, take_more, take_all, take-append-le}
use Rattle.std.proofs.lemmas.List.Edits.{paste_more}
use Rattle.proof_tree.specs.declared.line.Line.{Line}
use Rattle.proof_tree.specs.declared.line.Line.TheVariants.{Dot as DotLine}
use Rattle.proof_tree.specs.Text.{line_text}
use Rattle.strategy_arena.specs.declared.short.Short.{Short}
use Rattle.strategy_arena.specs.declared.short.Short.TheVariants.{Horizon, Prune, Bound, Dot, Stuck, Goal, Empty, Barred, Next, Branch, Skip, Open, Range, Wide}
use Rattle.strategy_arena.specs.Short.{line_of, reach, AllStand, lines_of, short_text, written_over, Extends}

-- the texts of the lines that these stand for
texts_of : (wide : List Line) (ss : List Short) → flat_map (short_text wide) ss ≡ flat_map line_text (lines_of wide ss)
texts_of wide [] = refl
texts_of wide (s ∷ ss) = ap (λ bs. line_text (line_of wide s) ++ bs) (texts_of wide ss)

-- the same, where both are given as slices
slice_texts : (slice wide : List Line) (ss : List Short) (now : List Line) → slice ≡ wide → lines_of wide ss ≡ now → flat_map (short_text slice) ss ≡ flat_map line_text now
slice_texts slice wide ss now e p = texts_of slice ss ∙ (ap (λ w. flat_map line_text (lines_of w ss)) e ∙ ap (λ ls. flat_map line_text ls) p)

pub slices_texts : (known wide : List Line) (slice ss : List Short) (now : List Line) → known ≡ wide → slice ≡ ss → lines_of wide ss ≡ now → flat_map (short_text known) slice ≡ flat_map line_text now
slices_texts known wide slice ss now e q p = ap (λ xs. flat_map (short_text known) xs) q ∙ slice_texts known wide ss now e p

pub no_shorter : (old new : List Line) → Extends old new → length old ≤ length new
no_shorter old new e = let q = ap length e ∙ length-take (length old) new in omega (arith, q)

take_take : (xs : List Line) (m n : ℕ) → m ≤ n → take m (take n xs) ≡ take m xs
take_take [] zero zero p = refl
take_take [] zero (suc n) p = refl
take_take [] (suc m) zero p = refl
take_take [] (suc m) (suc n) p = refl
take_take (x ∷ xs) zero n p = refl
take_take (x ∷ xs) (suc m) zero p = absurd (omega (arith, p))
take_take (x ∷ xs) (suc m) (suc n) p = ap (λ ys. x ∷ ys) (take_take xs m n (omega (arith, p)))

pub extends_twice : (a b c : List Line) → Extends a b → Extends b c → Extends a c
extends_twice a b c p q = p ∙ (ap (λ xs. take (length a) xs) q ∙ take_take c (length a) (length b) (no_shorter a b p))

pub line_kept : (old new : List Line) → Extends old new → (s : Short) → reach s ≤ length old → line_of new s ≡ line_of old s
line_kept old new e (Horizon k) p = refl
line_kept old new e (Prune x low high c) p = refl
line_kept old new e (Bound x low high) p = refl
line_kept old new e Dot p = refl
line_kept old new e Stuck p = refl
line_kept old new e Goal p = refl
line_kept old new e Empty p = refl
line_kept old new e Barred p = refl
line_kept old new e Next p = refl
line_kept old new e (Branch x) p = refl
line_kept old new e Skip p = refl
line_kept old new e Open p = refl
line_kept old new e (Range high) p = refl
line_kept old new e (Wide at) p = sym (ap (λ (xs : List Line). get_or xs at DotLine) e ∙ get_or-take (length old) new at DotLine (omega (arith, p)))

pub lines_kept : (old new : List Line) → Extends old new → (ss : List Short) → AllStand (length old) ss → lines_of new ss ≡ lines_of old ss
lines_kept old new e [] a = refl
lines_kept old new e (s ∷ ss) a = ap (λ x. x ∷ lines_of new ss) (line_kept old new e s a.0) ∙ ap (λ xs. line_of old s ∷ xs) (lines_kept old new e ss a.1)

pub stand_kept : (m n : ℕ) → m ≤ n → (ss : List Short) → AllStand m ss → AllStand n ss
stand_kept m n p [] a = tt
stand_kept m n p (s ∷ ss) a = let q = a.0 in (omega (arith, p, q), stand_kept m n p ss a.1)

pub stand_both : (n : ℕ) (xs ys : List Short) → AllStand n xs → AllStand n ys → AllStand n (xs ++ ys)
stand_both n [] ys a b = b
stand_both n (s ∷ xs) ys a b = (a.0, stand_both n xs ys a.1 b)

pub stand_first : (n : ℕ) (xs ys : List Short) → AllStand n (xs ++ ys) → AllStand n xs
stand_first n [] ys a = tt
stand_first n (s ∷ xs) ys a = (a.0, stand_first n xs ys a.1)

pub stand_take : (n k : ℕ) (ss : List Short) → AllStand n ss → AllStand n (take k ss)
stand_take n zero ss a = tt
stand_take n (suc k) [] a = tt
stand_take n (suc k) (s ∷ ss) a = (a.0, stand_take n k ss a.1)

pub stand_drop : (n k : ℕ) (ss : List Short) → AllStand n ss → AllStand n (drop k ss)
stand_drop n zero ss a = a
stand_drop n (suc k) [] a = tt
stand_drop n (suc k) (s ∷ ss) a = stand_drop n k ss a.1

pub put_one : (old new : List Line) → Extends old new → (ss all : List Short) (s : Short) (line : Line) → AllStand (length old) ss → all ≡ ss ++ s ∷ [] → line_of new s ≡ line → lines_of new all ≡ lines_of old ss ++ line ∷ []
put_one old new e ss all s line a p q =
    ap (λ xs. lines_of new xs) p
    ∙ (map-append (line_of new) ss (s ∷ [])
    ∙ (ap (λ xs. xs ++ line_of new s ∷ []) (lines_kept old new e ss a) ∙ ap (λ x. lines_of old ss ++ x ∷ []) q))

pub stand_one : (old new : List Line) → Extends old new → (ss all : List Short) (s : Short) → AllStand (length old) ss → all ≡ ss ++ s ∷ [] → reach s ≤ length new → AllStand (length new) all
stand_one old new e ss all s a p q =
    subst (AllStand (length new)) (sym p) (stand_both (length new) ss (s ∷ []) (stand_kept (length old) (length new) (no_shorter old new e) ss a) (q, tt))

-- lines in place of others
pub stand_replaced : (old new : List Line) → Extends old new → (ss room all : List Short) (start at : ℕ) → AllStand (length old) ss → AllStand (length new) room → all ≡ take start ss ++ (room ++ drop at ss) → AllStand (length new) all
stand_replaced old new e ss room all start at a b p =
    let n = length new in
    let kept = stand_kept (length old) n (no_shorter old new e) ss a in
    subst (AllStand n) (sym p) (stand_both n (take start ss) (room ++ drop at ss) (stand_take n start ss kept) (stand_both n room (drop at ss) b (stand_drop n at ss kept)))

pub put_between : (old new : List Line) → Extends old new → (ss room all : List Short) (with now : List Line) (start at : ℕ) → AllStand (length old) ss → all ≡ take start ss ++ (room ++ drop at ss) → lines_of new room ≡ with → lines_of old ss ≡ now → lines_of new all ≡ take start now ++ (with ++ drop at now)
put_between old new e ss room all with now start at a p q v =
    let f = line_of new in
    let same : lines_of new ss ≡ now = lines_kept old new e ss a ∙ v in
    ap (λ xs. lines_of new xs) p
    ∙ (map-append f (take start ss) (room ++ drop at ss)
    ∙ (ap (λ xs. map f (take start ss) ++ xs) (map-append f room (drop at ss))
    ∙ (ap (λ xs. map f (take start ss) ++ (xs ++ map f (drop at ss))) q
    ∙ (ap (λ xs. xs ++ (with ++ map f (drop at ss))) (sym (take-map f start ss) ∙ ap (λ xs. take start xs) same)
    ∙ ap (λ xs. take start now ++ (with ++ xs)) (sym (drop-map f at ss) ∙ ap (λ xs. drop at xs) same)))))

-- the short lines after they were moved, where those between are given as a slice
pub moved : (all slice room ss : List Short) (start at : ℕ) → all ≡ take start ss ++ (slice ++ drop at ss) → slice ≡ room → all ≡ take start ss ++ (room ++ drop at ss)
moved all slice room ss start at p e = p ∙ ap (λ xs. take start ss ++ (xs ++ drop at ss)) e

-- one more that is written over
pub written_more : (ss with now : List Short) (start k : ℕ) (x d : Short) → start + k < length ss → k < length with → x ≡ get_or with k d → now ≡ written_over ss start with k → set now (start + k) x ≡ written_over ss start with (k + 1)
written_more ss with now start k x d p q e f =
    ap (λ v. set now (start + k) v) e ∙ (ap (λ xs. set xs (start + k) (get_or with k d)) f ∙ paste_more ss start with k d p q)

-- where no line is wide, they stand for the same beside any
none_wide : (known wide : List Line) → length known ≡ 0 → (ss : List Short) → AllStand (length known) ss → lines_of wide ss ≡ lines_of known ss
none_wide [] wide e ss a = lines_kept [] wide refl ss a
none_wide (x ∷ known) wide e ss a = absurd (omega (arith, e))

pub carried_all : (known wide : List Line) (from before all : List Short) → length known ≡ 0 → AllStand (length known) from → all ≡ before ++ from → lines_of wide all ≡ lines_of wide before ++ lines_of known from
carried_all known wide from before all e a p =
    ap (λ ss. lines_of wide ss) p ∙ (map-append (line_of wide) before from ∙ ap (λ ls. lines_of wide before ++ ls) (none_wide known wide e from a))

pub stand_carried : (known : List Line) (n : ℕ) (from before all : List Short) → length known ≡ 0 → AllStand (length known) from → AllStand n before → all ≡ before ++ from → AllStand n all
stand_carried known n from before all e a b p =
    subst (AllStand n) (sym p) (stand_both n before from b (stand_kept (length known) n (omega (arith, e)) from a))

-- the last lines, where the wide ones are given as a slice
slice_dropped : (slice wide : List Line) (ss : List Short) (now : List Line) (k : ℕ) → slice ≡ wide → lines_of wide ss ≡ now → lines_of slice (drop k ss) ≡ drop k now
slice_dropped slice wide ss now k e p = sym (drop-map (line_of slice) k ss) ∙ ap (λ ls. drop k ls) (ap (λ w. lines_of w ss) e ∙ p)

sliced : (slice ss : List Short) (k : ℕ) → slice ≡ ss → take (length slice - k) (drop k slice) ≡ drop k ss
sliced slice ss k e = take_all (length slice - k) (drop k slice) (let q = length-drop k slice in omega (arith, q)) ∙ ap (λ xs. drop k xs) e

pub slices_dropped : (known wide : List Line) (slice ss : List Short) (now : List Line) (k : ℕ) → known ≡ wide → slice ≡ ss → lines_of wide ss ≡ now → lines_of known (take (length slice - k) (drop k slice)) ≡ drop k now
slices_dropped known wide slice ss now k e q p = ap (λ xs. lines_of known xs) (sliced slice ss k q) ∙ slice_dropped known wide ss now k e p

pub slices_stand : (known wide : List Line) (slice ss : List Short) (k : ℕ) → known ≡ wide → slice ≡ ss → AllStand (length wide) ss → AllStand (length known) (take (length slice - k) (drop k slice))
slices_stand known wide slice ss k e q a =
    subst (λ n. AllStand n (take (length slice - k) (drop k slice))) (sym (ap length e)) (subst (AllStand (length wide)) (sym (sliced slice ss k q)) (stand_drop (length wide) k ss a))

-- the same of all lines
pub slices_all : (known wide : List Line) (slice ss : List Short) (now : List Line) → known ≡ wide → slice ≡ ss → lines_of wide ss ≡ now → lines_of known slice ≡ now
slices_all known wide slice ss now e q p = ap (λ xs. lines_of known xs) q ∙ (ap (λ w. lines_of w ss) e ∙ p)

pub slices_all_stand : (known wide : List Line) (slice ss : List Short) → known ≡ wide → slice ≡ ss → AllStand (length wide) ss → AllStand (length known) slice
slices_all_stand known wide slice ss e q a = subst (λ n. AllStand n slice) (sym (ap length e)) (subst (AllStand (length wide)) (sym q) a)

-- lines that are put where none was
pub copied_lines : (wide : List Line) (before : List Short) (last now all : List Line) → before ≡ [] → all ≡ lines_of wide before ++ last → last ≡ now → all ≡ now
copied_lines wide before last now all e p q = p ∙ (ap (λ ss. lines_of wide ss ++ last) e ∙ q)

-- one line more of those that are gone over
pub one_more_kept : (after before with : List Line) (k : ℕ) (d : Line) → k < length with → after ≡ before ++ get_or with k d ∷ [] → before ≡ take k with → after ≡ take (k + 1) with
one_more_kept after before with k d p e f = e ∙ (ap (λ ls. ls ++ get_or with k d ∷ []) f ∙ sym (take_more with k d p))

pub one_more_put : (after before old with : List Line) (k : ℕ) (d : Line) → k < length with → after ≡ before ++ get_or with k d ∷ [] → before ≡ old ++ take k with → after ≡ old ++ take (k + 1) with
one_more_put after before old with k d p e f =
    e ∙ (ap (λ ls. ls ++ get_or with k d ∷ []) f ∙ (append_assoc old (take k with) (get_or with k d ∷ []) ∙ ap (λ ls. old ++ ls) (sym (take_more with k d p))))

-- the first items stay the first
pub still_first : (first now all : List Short) (s : Short) → first ≡ take (length first) now → all ≡ now ++ s ∷ [] → first ≡ take (length first) all
still_first first now all s e p =
    let q = ap length e ∙ length-take (length first) now in
    e ∙ (sym (take-append-le (length first) now (s ∷ []) (omega (arith, q))) ∙ ap (λ xs. take (length first) xs) (sym p))

-- the short lines after some were appended and taken back
pub cut_back : (reserved put cut ss : List Short) (n : ℕ) → n ≡ length reserved → reserved ≡ take (length reserved) put → cut ≡ take n put → reserved ≡ ss → cut ≡ ss
cut_back reserved put cut ss n e f g h = g ∙ (ap (λ k. take k put) e ∙ (sym f ∙ h))

pub appended_as : {T E : Type 0} (r : Result T E) (new old xs ys : List Line) → xs ≡ ys → OnOk r (new ≡ old ++ xs) → OnOk r (new ≡ old ++ ys)
appended_as r new old xs ys e p = subst (λ (ls : List Line). OnOk r (new ≡ old ++ ls)) e p

pub next_line : (before after : List Line) (line same : Line) → after ≡ before ++ line ∷ [] → line ≡ same → after ≡ before ++ same ∷ []
next_line before after line same p e = p ∙ ap (λ l. before ++ l ∷ []) e

-- one line more of those that are carried over
pub one_more_carried : (known after before old : List Line) (from : List Short) (k : ℕ) (d : Short) → k < length from → after ≡ before ++ line_of known (get_or from k d) ∷ [] → before ≡ old ++ lines_of known (take k from) → after ≡ old ++ lines_of known (take (k + 1) from)
one_more_carried known after before old from k d p e f =
    let line = line_of known (get_or from k d) in
    let more : lines_of known (take (k + 1) from) ≡ lines_of known (take k from) ++ line ∷ [] =
    ap (λ ss. lines_of known ss) (take_more from k d p) ∙ map-append (line_of known) (take k from) (get_or from k d ∷ []) in
    e ∙ (ap (λ ls. ls ++ line ∷ []) f ∙ (append_assoc old (lines_of known (take k from)) (line ∷ []) ∙ ap (λ ls. old ++ ls) (sym more)))

-- before the first line that is gone over, and after the last
pub none_put : (old : List Line) (with : List Line) → old ≡ old ++ take 0 with
none_put old with = sym (append-nil old)

pub none_carried : (known old : List Line) (from : List Short) → old ≡ old ++ lines_of known (take 0 from)
none_carried known old from = sym (append-nil old)

pub all_kept : (all with : List Line) (k : ℕ) → length with ≤ k → all ≡ take k with → all ≡ with
all_kept all with k h e = e ∙ take_all k with h

pub all_put : (all old with : List Line) (k : ℕ) → length with ≤ k → all ≡ old ++ take k with → all ≡ old ++ with
all_put all old with k h e = e ∙ ap (λ ls. old ++ ls) (take_all k with h)

pub all_carried : (known all old : List Line) (from : List Short) (k : ℕ) → length from ≤ k → all ≡ old ++ lines_of known (take k from) → all ≡ old ++ lines_of known from
all_carried known all old from k h e = e ∙ ap (λ ss. old ++ lines_of known ss) (take_all k from h)

-- a list begins with itself
pub begins_same : {X : Type 0} (xs : List X) → xs ≡ take (length xs) xs
begins_same xs = sym (take_all (length xs) xs (same (length xs)))
  where
    same : (n : ℕ) → n ≤ n
    same n = omega arith

-- room for one line more
pub room_first : (len n capacity : ℕ) → len + n ≤ capacity → len + n ≤ capacity + 0
room_first len n capacity h = omega arith
