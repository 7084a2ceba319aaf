-- The least and the greatest value of a cell, and the places that a removal takes.
use Rattle.std.proofs.Common.{◌≡◌, ◌⊎◌, inl, inr, ℕ, List, ◌+◌, ◌-◌, ◌*◌, ◌/◌, ◌<◌, ◌≤◌, Bool, true, false, not, ◌&&◌, cond, length, get_or, refl, sym, ap, subst, ◌∙◌, arith, ℤ, [], ◌∷◌}
use Rattle.std.specs.Prelude.{pos, ◌+ℤ◌, ◌-ℤ◌, ◌<ℤ◌, ◌≤ℤ◌, nat_abs, int_lt, int_le, nat_le, nat_lt}
use Rattle.std.specs.Int.{int_min, int_max}
use Rattle.std.proofs.lemmas.Bool.Decides.{nat_tests}
use Rattle.std.proofs.lemmas.Int.{ints}
use Rattle.qc_model.specs.Domains.{Values, is_none_left, least_value, greatest_value, is_within}
use Rattle.fd_store.specs.declared.table.Cell.{Cell}
use Rattle.fd_store.specs.declared.table.Table.{Table}
use Rattle.fd_store.specs.Held.{removal_need, words_between}
use Rattle.fd_store.specs.Places.{is_set, is_kept, is_inside, cell_values}
use Rattle.fd_store.specs.Sound.{IsCell}
use Rattle.fd_store.specs.Takes.{Takes, IsSoundTable}
use Rattle.fd_store.proofs.Values.{HasLeast, least_of, greatest_of, values_none}
use Rattle.fd_store.proofs.Steps.{takes_by, takes_none, within_places}

outside : (s : Bool) (first end k : ℕ) → (k < first) ⊎ (end ≤ k) → (is_inside first end k && s) ≡ false
outside s first end k h = grind (arith, nat_tests)

within : (s : Bool) (first end k : ℕ) → first ≤ k → k < end → s ≡ true → (is_inside first end k && s) ≡ true
within s first end k h l e = grind (arith, nat_tests)

kept_inside : (s : Bool) (first end k : ℕ) → (is_inside first end k && s) ≡ true → (first ≤ k) × (k < end)
kept_inside s first end k e = grind (arith, nat_tests)

pub cell_least : (words : List ℕ) (c : Cell) → IsCell words c → c.first < c.end → HasLeast (cell_values words c) (c.base +ℤ pos c.first)
cell_least words c i h =
    least_of (is_kept words c) c.base c.first c.width (omega (arith, i.within)) (within (is_set words (64 * c.start + c.first)) c.first c.end c.first (omega arith) h (i.first h))
    (λ j l. outside (is_set words (64 * c.start + j)) c.first c.end j (inl l))

pub cell_greatest : (words : List ℕ) (c : Cell) → IsCell words c → c.first < c.end → greatest_value (cell_values words c) ≡ c.base +ℤ pos (c.end - 1)
cell_greatest words c i h =
    greatest_of (is_kept words c) c.base (c.end - 1) c.width (omega (arith, i.within)) (within (is_set words (64 * c.start + (c.end - 1))) c.first c.end (c.end - 1) (omega arith) (omega arith) (i.last h))
    (λ j l m. outside (is_set words (64 * c.start + j)) c.first c.end j (inr (omega arith)))

pub cell_none : (words : List ℕ) (c : Cell) → c.end ≤ c.first → cell_values words c ≡ []
cell_none words c h = values_none (is_kept words c) c.base c.width (λ k l. outside (is_set words (64 * c.start + k)) c.first c.end k (far k))
  where
    far : (k : ℕ) → (k < c.first) ⊎ (c.end ≤ k)
    far k = grind arith

some_left : (vs : Values) → 0 < length vs → is_none_left vs ≡ false
some_left [] h = absurd (omega arith)
some_left (v ∷ vs) h = refl

-- what the two ends of a removal are, as places
pub record IsSpan (c : Cell) (lo hi : ℤ) (a e : ℕ) : Type 0 where
  pub from : c.first ≤ a
  pub most : e ≤ c.end
  pub low : (k : ℕ) → c.first ≤ k → k < c.end → nat_le a k ≡ int_le lo (c.base +ℤ pos k)
  pub high : (k : ℕ) → c.first ≤ k → k < c.end → nat_lt k e ≡ int_le (c.base +ℤ pos k) hi
  pub least : a < c.end → int_max lo (c.base +ℤ pos c.first) ≡ c.base +ℤ pos a
  pub greatest : c.first < e → int_min hi (c.base +ℤ pos (c.end - 1)) ≡ c.base +ℤ pos (e - 1)

need_of : (words : List ℕ) (c : Cell) (lo hi : ℤ) → IsCell words c → c.first < c.end →
    removal_need (cell_values words c) lo hi ≡ words_between (int_max lo (c.base +ℤ pos c.first)) (int_min hi (c.base +ℤ pos (c.end - 1)))
need_of words c lo hi i h =
    let l = cell_least words c i h in
    ap (λ b. cond b 0 (words_between (int_max lo (least_value (cell_values words c))) (int_min hi (greatest_value (cell_values words c))))) (some_left (cell_values words c) l.some)
    ∙ (ap (λ v. words_between (int_max lo v) (int_min hi (greatest_value (cell_values words c)))) l.least
    ∙ ap (λ v. words_between (int_max lo (c.base +ℤ pos c.first)) (int_min hi v)) (cell_greatest words c i h))

pub need_some : (words : List ℕ) (c : Cell) (lo hi : ℤ) (a e : ℕ) → IsCell words c → IsSpan c lo hi a e → a < e → removal_need (cell_values words c) lo hi ≡ (e - 1 - a) / 64 + 2
need_some words c lo hi a e i s h =
    need_of words c lo hi i (omega (arith, s.from, s.most))
    ∙ (ap (λ v. words_between v (int_min hi (c.base +ℤ pos (c.end - 1)))) (s.least (omega (arith, s.most)))
    ∙ (ap (words_between (c.base +ℤ pos a)) (s.greatest (omega (arith, s.from)))
    ∙ (ap (λ b. cond b 0 (nat_abs ((c.base +ℤ pos (e - 1)) -ℤ (c.base +ℤ pos a)) / 64 + 2)) up ∙ ap (λ n. n / 64 + 2) far)))
  where
    up : int_lt (c.base +ℤ pos (e - 1)) (c.base +ℤ pos a) ≡ false
    up = grind (arith, ints)

    far : nat_abs ((c.base +ℤ pos (e - 1)) -ℤ (c.base +ℤ pos a)) ≡ e - 1 - a
    far = omega (arith, ints)

crossed : (b lo hi : ℤ) (first end a e : ℕ) → first < end → first ≤ a → e ≤ end → e ≤ a →
    nat_le a (end - 1) ≡ int_le lo (b +ℤ pos (end - 1)) → nat_lt first e ≡ int_le (b +ℤ pos first) hi →
    (a < end → int_max lo (b +ℤ pos first) ≡ b +ℤ pos a) → (first < e → int_min hi (b +ℤ pos (end - 1)) ≡ b +ℤ pos (e - 1)) →
    int_lt (int_min hi (b +ℤ pos (end - 1))) (int_max lo (b +ℤ pos first)) ≡ true
crossed b lo hi first end a e h f m l p q r s = elim (near a end) [
  | inl x ↦ elim (near first e) [
    | inl y ↦ ap (int_lt (int_min hi (b +ℤ pos (end - 1)))) (r x) ∙ (ap (λ v. int_lt v (b +ℤ pos a)) (s y) ∙ one y)
    | inr y ↦ below y (off_first y)
  ]
  | inr x ↦ above x (off_last x)
]
  where
    near : (x y : ℕ) → (x < y) ⊎ (y ≤ x)
    near x y = grind arith

    one : first < e → int_lt (b +ℤ pos (e - 1)) (b +ℤ pos a) ≡ true
    one y = grind (arith, ints)

    off_first : e ≤ first → int_le (b +ℤ pos first) hi ≡ false
    off_first y = sym q ∙ not_lt first e y
      where
        not_lt : (x y : ℕ) → y ≤ x → nat_lt x y ≡ false
        not_lt x y h = grind (arith, nat_tests)

    off_last : end ≤ a → int_le lo (b +ℤ pos (end - 1)) ≡ false
    off_last x = sym p ∙ not_le a (end - 1) (omega arith)
      where
        not_le : (x y : ℕ) → y < x → nat_le x y ≡ false
        not_le x y h = grind (arith, nat_tests)

    below : e ≤ first → int_le (b +ℤ pos first) hi ≡ false → int_lt (int_min hi (b +ℤ pos (end - 1))) (int_max lo (b +ℤ pos first)) ≡ true
    below y z = grind (arith, ints)

    above : end ≤ a → int_le lo (b +ℤ pos (end - 1)) ≡ false → int_lt (int_min hi (b +ℤ pos (end - 1))) (int_max lo (b +ℤ pos first)) ≡ true
    above x z = grind (arith, ints)

pub need_none : (words : List ℕ) (c : Cell) (lo hi : ℤ) (a e : ℕ) → IsCell words c → IsSpan c lo hi a e → e ≤ a → removal_need (cell_values words c) lo hi ≡ 0
need_none words c lo hi a e i s h = elim (near c.first c.end) [
  | inl l ↦
      need_of words c lo hi i l
      ∙ ap (λ b. cond b 0 (nat_abs ((int_min hi (c.base +ℤ pos (c.end - 1))) -ℤ (int_max lo (c.base +ℤ pos c.first))) / 64 + 2))
      (crossed c.base lo hi c.first c.end a e l s.from s.most h (s.low (c.end - 1) (omega arith) (omega arith)) (s.high c.first (omega arith) l) s.least s.greatest)
  | inr l ↦ ap (λ vs. removal_need vs lo hi) (cell_none words c l)
]
  where
    near : (x y : ℕ) → (x < y) ⊎ (y ≤ x)
    near x y = grind arith

span_within : (c : Cell) (lo hi : ℤ) (a e k : ℕ) → IsSpan c lo hi a e → c.first ≤ k → k < c.end → is_inside a e k ≡ is_within lo hi (c.base +ℤ pos k)
span_within c lo hi a e k s h l = ap (λ b. b && nat_lt k e) (s.low k h l) ∙ ap (λ b. int_le lo (c.base +ℤ pos k) && b) (s.high k h l)

-- the places of a removal at an end, and of one beyond it
pub span_low : (c : Cell) (lo hi : ℤ) (k : ℕ) → lo ≤ℤ (c.base +ℤ pos c.first) → hi ≡ c.base +ℤ pos k → c.first ≤ k → k + 1 < c.end → IsSpan c lo hi c.first (k + 1)
span_low c lo hi k h e l m = record {
  from = omega arith;
  most = omega arith;
  low = λ j p q. from_first c.base c.first j h p;
  high = λ j p q. up_to_place c.base j e;
  least = λ q. least_is c.base c.first h;
  greatest = λ q. greatest_is c.base c.end e m;
}
  where
    from_first : (b : ℤ) (first j : ℕ) → lo ≤ℤ (b +ℤ pos first) → first ≤ j → nat_le first j ≡ int_le lo (b +ℤ pos j)
    from_first b first j h p = grind (arith, ints, nat_tests)

    up_to_place : (b : ℤ) (j : ℕ) → hi ≡ b +ℤ pos k → nat_lt j (k + 1) ≡ int_le (b +ℤ pos j) hi
    up_to_place b j e = grind (arith, ints, nat_tests)

    least_is : (b : ℤ) (first : ℕ) → lo ≤ℤ (b +ℤ pos first) → int_max lo (b +ℤ pos first) ≡ b +ℤ pos first
    least_is b first h = grind (arith, ints)

    greatest_is : (b : ℤ) (end : ℕ) → hi ≡ b +ℤ pos k → k + 1 < end → int_min hi (b +ℤ pos (end - 1)) ≡ b +ℤ pos (k + 1 - 1)
    greatest_is b end e m = grind (arith, ints)

pub span_high : (c : Cell) (lo hi : ℤ) (k : ℕ) → (c.base +ℤ pos c.end) ≤ℤ (hi +ℤ pos 1) → lo ≡ c.base +ℤ pos k → c.first < k → k < c.end → IsSpan c lo hi k c.end
span_high c lo hi k h e l m = record {
  from = omega arith;
  most = omega arith;
  low = λ j p q. from_place c.base j e;
  high = λ j p q. up_to_end c.base c.end j h q;
  least = λ q. least_is c.base c.first e l;
  greatest = λ q. greatest_is c.base c.end h m;
}
  where
    from_place : (b : ℤ) (j : ℕ) → lo ≡ b +ℤ pos k → nat_le k j ≡ int_le lo (b +ℤ pos j)
    from_place b j e = grind (arith, ints, nat_tests)

    up_to_end : (b : ℤ) (end j : ℕ) → (b +ℤ pos end) ≤ℤ (hi +ℤ pos 1) → j < end → nat_lt j end ≡ int_le (b +ℤ pos j) hi
    up_to_end b end j h q = grind (arith, ints, nat_tests)

    least_is : (b : ℤ) (first : ℕ) → lo ≡ b +ℤ pos k → first < k → int_max lo (b +ℤ pos first) ≡ b +ℤ pos k
    least_is b first e l = grind (arith, ints)

    greatest_is : (b : ℤ) (end : ℕ) → (b +ℤ pos end) ≤ℤ (hi +ℤ pos 1) → k < end → int_min hi (b +ℤ pos (end - 1)) ≡ b +ℤ pos (end - 1)
    greatest_is b end h m = grind (arith, ints)

pub span_below : (c : Cell) (lo hi : ℤ) → c.first ≤ c.end → lo ≤ℤ (c.base +ℤ pos c.first) → hi <ℤ (c.base +ℤ pos c.first) → IsSpan c lo hi c.first c.first
span_below c lo hi o h l = record {
  from = omega arith;
  most = o;
  low = λ j p q. from_first c.base c.first j h p;
  high = λ j p q. below_first c.base c.first j l p;
  least = λ q. least_is c.base c.first h;
  greatest = λ q. absurd (omega arith);
}
  where
    from_first : (b : ℤ) (first j : ℕ) → lo ≤ℤ (b +ℤ pos first) → first ≤ j → nat_le first j ≡ int_le lo (b +ℤ pos j)
    from_first b first j h p = grind (arith, ints, nat_tests)

    below_first : (b : ℤ) (first j : ℕ) → hi <ℤ (b +ℤ pos first) → first ≤ j → nat_lt j first ≡ int_le (b +ℤ pos j) hi
    below_first b first j l p = grind (arith, ints, nat_tests)

    least_is : (b : ℤ) (first : ℕ) → lo ≤ℤ (b +ℤ pos first) → int_max lo (b +ℤ pos first) ≡ b +ℤ pos first
    least_is b first h = grind (arith, ints)

pub span_past : (c : Cell) (lo hi : ℤ) → c.first ≤ c.end → (c.base +ℤ pos c.end) ≤ℤ lo → (c.base +ℤ pos c.end) ≤ℤ (hi +ℤ pos 1) → IsSpan c lo hi c.end c.end
span_past c lo hi o h l = record {
  from = o;
  most = omega arith;
  low = λ j p q. past_end c.base c.end j h q;
  high = λ j p q. up_to_end c.base c.end j l q;
  least = λ q. absurd (omega arith);
  greatest = λ q. greatest_is c.base c.first c.end l q;
}
  where
    past_end : (b : ℤ) (end j : ℕ) → (b +ℤ pos end) ≤ℤ lo → j < end → nat_le end j ≡ int_le lo (b +ℤ pos j)
    past_end b end j h q = grind (arith, ints, nat_tests)

    up_to_end : (b : ℤ) (end j : ℕ) → (b +ℤ pos end) ≤ℤ (hi +ℤ pos 1) → j < end → nat_lt j end ≡ int_le (b +ℤ pos j) hi
    up_to_end b end j h q = grind (arith, ints, nat_tests)

    greatest_is : (b : ℤ) (first end : ℕ) → (b +ℤ pos end) ≤ℤ (hi +ℤ pos 1) → first < end → int_min hi (b +ℤ pos (end - 1)) ≡ b +ℤ pos (end - 1)
    greatest_is b first end h m = grind (arith, ints)

-- a removal by values, from one by places
pub takes_span : (t u : Table) (x : ℕ) (c : Cell) (lo hi : ℤ) (a e : ℕ) → x < length t.cells.items → get_or t.cells.items x c ≡ c → IsSpan c lo hi a e → a < e →
    Takes x (c.base +ℤ pos a) (c.base +ℤ pos (e - 1)) t u → Takes x lo hi t u
takes_span t u x c lo hi a e h at s l i =
    takes_by t u x c (c.base +ℤ pos a) (c.base +ℤ pos (e - 1)) lo hi h at
    (λ k q p. let w = kept_inside (is_set t.words.items (64 * c.start + k)) c.first c.end k p in within_places c.base a e k l ∙ span_within c lo hi a e k s w.0 w.1) i

pub takes_no_span : (t : Table) (x : ℕ) (c : Cell) (lo hi : ℤ) (a e : ℕ) → IsSoundTable t → x < length t.cells.items → get_or t.cells.items x c ≡ c → IsSpan c lo hi a e → e ≤ a → Takes x lo hi t t
takes_no_span t x c lo hi a e i h at s l = takes_none t x c lo hi i h at (λ k q. stays k (is_kept t.words.items c k) refl)
  where
    apart : (k : ℕ) → is_inside a e k ≡ false
    apart k = grind (arith, nat_tests)

    stays : (k : ℕ) (b : Bool) → is_kept t.words.items c k ≡ b → b ≡ (b && not (is_within lo hi (c.base +ℤ pos k)))
    stays k false p = refl
    stays k true p =
        let w = kept_inside (is_set t.words.items (64 * c.start + k)) c.first c.end k p in
        ap not (sym (apart k) ∙ span_within c lo hi a e k s w.0 w.1)

-- places of a cell are few
words_few : (a b : ℤ) → b ≤ℤ (a +ℤ pos 1048576) → words_between a b ≤ 16400
words_few a b h = by (int_lt b a) refl
  where
    by : (t : Bool) → int_lt b a ≡ t → cond t 0 (nat_abs (b -ℤ a) / 64 + 2) ≤ 16400
    by true e = omega arith
    by false e = omega (arith, near)
      where
        near : nat_abs (b -ℤ a) ≤ 1048576
        near = grind (arith, ints)

pub need_few : (words : List ℕ) (c : Cell) (lo hi : ℤ) → IsCell words c → removal_need (cell_values words c) lo hi ≤ 16400
need_few words c lo hi i = elim (near c.first c.end) [
  | inl l ↦ subst (λ n. n ≤ 16400) (sym (need_of words c lo hi i l)) (words_few (int_max lo (c.base +ℤ pos c.first)) (int_min hi (c.base +ℤ pos (c.end - 1))) (close c.base lo hi c.first c.end (omega (arith, i.within, i.narrow))))
  | inr l ↦ subst (λ (vs : Values). removal_need vs lo hi ≤ 16400) (sym (cell_none words c l)) (omega arith)
]
  where
    near : (x y : ℕ) → (x < y) ⊎ (y ≤ x)
    near x y = grind arith

    close : (b lo hi : ℤ) (first end : ℕ) → end ≤ 1048576 → int_min hi (b +ℤ pos (end - 1)) ≤ℤ (int_max lo (b +ℤ pos first) +ℤ pos 1048576)
    close b lo hi first end h = grind (arith, ints)
