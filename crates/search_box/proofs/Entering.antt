-- Boxes that are entered at a scope.
use Rattle.std.proofs.Common.{◌≡◌, ℕ, zero, suc, ◌<◌, ◌≤◌, Bool, true, false, ◌&&◌, ◌||◌, [], ◌∷◌, length, take, drop, refl, sym, ap, ◌∙◌, subst, arith, ℤ, Result, Ok, Err, OnOk, OnErr}
use Rattle.std.specs.Prelude.{nat_le, nat_lt, int_lt}
use Rattle.std.specs.Ordering.{int_eq}
use Rattle.std.proofs.lemmas.Int.{ints}
use Rattle.std.specs.List.{list_all}
use Rattle.std.specs.declared.alloc.AllocError.{AllocError}
use Rattle.std.proofs.lemmas.Bool.Decides.{nat_tests, Decides-int_eq}
use Rattle.std.proofs.lemmas.Bool.{or_parts}
use Rattle.qc_model.specs.Content.{Game}
use Rattle.qc_model.specs.Domains.{Values, Box, box_values, is_none_left, is_single, has_empty, has_value, is_ascending, is_sub_box}
use Rattle.qc_model.specs.Game.{before, is_of_scope}
use Rattle.qc_model.proofs.Before.{before_up, before-zero}
use Rattle.qc_model.proofs.Readable.{first, second}
use Rattle.qc_model.specs.Valid.{IsValid}
use Rattle.model_arguments.specs.Asked.{is_box_of}
use Rattle.model_levels.proofs.SpanLaws.{variables_all}
use Rattle.proof_tree.specs.Place.{position, is_fixed}
use Rattle.fd_store.specs.Held.{Follows, past_box}
use Rattle.prop_base.proofs.Steps.{follows_more}
use Rattle.search_box.specs.Boxed.{Boxed, LeadsOn, KeepsValues, IsMarked}
use Rattle.search_box.specs.Entered.{IsEntered, IsWithin}
use Rattle.search_box.proofs.Places.{fixed_join, fixed_both, fixed_fewer, fixed_none, stand_fewer, take_all}
use Rattle.search_box.proofs.Keeping.{sub_through}

-- a call that went well, or was refused
pub either : {P Q X : Type 0} (r : Result (Unit {0}) AllocError) → OnOk r P → OnErr r Q → (P → X) → (Q → X) → X
either (Ok u) p q f g = f p
either (Err e) p q f g = g q

-- the next variable of a scope
pub passed_on : (g : Game) (i x y : ℕ) (b : Boxed) → IsWithin g i x b → x ≤ y → y ≤ before g (suc i) → list_all is_single (drop x (take y b.store.box)) ≡ true → IsWithin g i y b
passed_on g i x y b w l u f = record {
  here = w.here;
  from = omega (arith, w.from, l);
  upto = u;
  fixed = fixed_join b.store.box (before g i) x y w.from l w.fixed f;
}

pub is_own : (g : Game) (i x y stop : ℕ) → before g i ≤ x → x ≤ y → y < stop → stop ≡ before g (suc i) → is_of_scope g i y ≡ true
is_own g i x y stop f l m e = go (before g i) (before g (suc i)) y (omega (arith, f, l)) (omega (arith, m, e))
  where
    go : (a b y : ℕ) → a ≤ y → y < b → (nat_le a y && nat_lt y b) ≡ true
    go a b y h k = grind (arith, nat_tests)

-- a box of the same game with the same values left, and with as many values of the position
pub entered_same : (g : Game) (i : ℕ) (b c : Boxed) → IsEntered g i b → c.game ≡ b.game → c.store.box ≡ b.store.box → KeepsValues g i b c → IsEntered g i c
entered_same g i b c h e f k = record {
  game = e ∙ h.game;
  full = ap has_empty f ∙ h.full;
  fixed = ap (λ box. list_all is_single (take (before g i) box)) f ∙ h.fixed;
  stand = k ∙ (h.stand ∙ ap (position g i) (sym f));
}

-- the tuple of a scope is complete, and read
pub entered_next : (g : Game) (i : ℕ) (b c : Boxed) → IsEntered g i b → is_fixed g i b.store.box ≡ true → c.game ≡ b.game → c.store.box ≡ b.store.box → take (before g (suc i)) c.values ≡ position g (suc i) b.store.box →
    IsEntered g (suc i) c
entered_next g i b c h t e f k = record {
  game = e ∙ h.game;
  full = ap has_empty f ∙ h.full;
  fixed = ap (λ box. list_all is_single (take (before g (suc i)) box)) f ∙ fixed_both b.store.box (before g i) (before g (suc i)) (before_up g i) h.fixed t;
  stand = k ∙ ap (position g (suc i)) (sym f);
}

-- and the other way
pub entered_before : (g : Game) (i : ℕ) (b : Boxed) → IsEntered g (suc i) b → IsEntered g i b
entered_before g i b h = record {
  game = h.game;
  full = h.full;
  fixed = fixed_fewer b.store.box (before g i) (before g (suc i)) (before_up g i) h.fixed;
  stand = stand_fewer b.values b.store.box (before g i) (before g (suc i)) (before_up g i) h.stand;
}

-- a variable with one value left keeps it, unless it loses that
only : (v w : ℤ) → has_value (w ∷ []) v ≡ true → v ≡ w
only v w h = (Decides-int_eq v w).0 (strip (int_eq v w) h)
  where
    strip : (b : Bool) → (b || false) ≡ true → b ≡ true
    strip true h = refl
    strip false h = h

apart : (v u : ℤ) → int_lt v u ≡ true → v ≡ u → ⊥
apart v u h e = grind (arith, ints)

single_within : (d e : Values) → is_none_left d ≡ false → is_ascending d ≡ true → list_all (has_value e) d ≡ true → is_single e ≡ true → d ≡ e
single_within d [] n a h s = cc
single_within d (w ∷ u ∷ us) n a h s = cc
single_within [] (w ∷ []) n a h s = cc
single_within (v ∷ []) (w ∷ []) n a h s = let e : v ≡ w = only v w (first (has_value (w ∷ []) v) true h) in ap (λ z. z ∷ []) e
single_within (v ∷ u ∷ us) (w ∷ []) n a h s =
    let e : v ≡ w = only v w (first (has_value (w ∷ []) v) (list_all (has_value (w ∷ [])) (u ∷ us)) h) in
    let k = second (has_value (w ∷ []) v) (list_all (has_value (w ∷ [])) (u ∷ us)) h in
    let f : u ≡ w = only u w (first (has_value (w ∷ []) u) (list_all (has_value (w ∷ [])) us) k) in
    absurd (apart v u (first (int_lt v u) (is_ascending (u ∷ us)) a) (e ∙ sym f))

pub fixed_within : (small box : Box) (n : ℕ) → is_sub_box small box ≡ true → has_empty small ≡ false → list_all is_single (take n box) ≡ true → take n small ≡ take n box
fixed_within small box zero h f s = refl
fixed_within [] [] (suc n) h f s = refl
fixed_within [] (e ∷ es) (suc n) h f s = cc
fixed_within (d ∷ ds) [] (suc n) h f s = cc
fixed_within (d ∷ ds) (e ∷ es) (suc n) h f s =
    let p = is_ascending d && list_all (has_value e) d in
    let q = first p (is_sub_box ds es) h in
    let same : d ≡ e = single_within d e (or_parts (is_none_left d) (has_empty ds) f).0 (first (is_ascending d) (list_all (has_value e) d) q) (second (is_ascending d) (list_all (has_value e) d) q) (first (is_single e) (list_all is_single (take n es)) s) in
    ap (λ z. z ∷ take n ds) same ∙ ap (λ z. e ∷ z) (fixed_within ds es n (second p (is_sub_box ds es) h) (or_parts (is_none_left d) (has_empty ds) f).1 (second (is_single e) (list_all is_single (take n es)) s))

pub entered_on : (g : Game) (i : ℕ) (b c : Boxed) → IsEntered g i b → LeadsOn b c → has_empty c.store.box ≡ false → IsEntered g i c
entered_on g i b c h on f =
    let same = fixed_within c.store.box b.store.box (before g i) on.fewer f h.fixed in
    record {
      game = on.game ∙ h.game;
      full = f;
      fixed = ap (list_all is_single) same ∙ h.fixed;
      stand = ap (take (before g i)) on.values ∙ (h.stand ∙ ap box_values (sym same));
    }

pub leads_further : (b c d : Boxed) → LeadsOn b c → LeadsOn c d → LeadsOn b d
leads_further b c d p q = record {
  game = q.game ∙ p.game;
  values = q.values ∙ p.values;
  follows = follows_more b.store c.store d.store p.follows q.follows;
  fewer = sub_through d.store.box c.store.box b.store.box q.fewer p.fewer;
}

-- a mark stays one where the store is led on, and where the places alone change
pub marked_on : (n : ℕ) (b c : Boxed) → IsMarked n b → c.game ≡ b.game → Follows b.store c.store → IsMarked n c
marked_on n b c m e f =
    let same : past_box c.store n ≡ past_box b.store n = f.boxes n m.at in
    record {
      at = omega (arith, m.at, f.longer);
      declared = ap (λ g. is_box_of g (past_box c.store n)) e ∙ (ap (is_box_of b.game) same ∙ m.declared);
    }

-- the first node
pub entered_first : (g : Game) (b : Boxed) → b.game ≡ g → has_empty b.store.box ≡ false → IsEntered g 0 b
entered_first g b e f = record {
  game = e;
  full = f;
  fixed = ap (λ n. list_all is_single (take n b.store.box)) (before-zero g);
  stand = ap (λ n. take n b.values) (before-zero g) ∙ sym (ap (λ n. box_values (take n b.store.box)) (before-zero g));
}

-- the same place, by other names
pub entered_at : (g h : Game) (i j : ℕ) (b : Boxed) → IsEntered g i b → h ≡ g → j ≡ i → IsEntered h j b
entered_at g h i j b e p q = subst (λ k. IsEntered h k b) (sym q) (subst (λ k. IsEntered k i b) (sym p) e)

-- nothing of the scope is fixed as yet
pub within_first : (g : Game) (i x : ℕ) (b : Boxed) → IsEntered g i b → x ≡ before g i → IsWithin g i x b
within_first g i x b h e = record {
  here = h;
  from = omega (arith, e);
  upto = omega (arith, e, before_up g i);
  fixed = ap (λ n. list_all is_single (drop (before g i) (take n b.store.box))) e ∙ fixed_none b.store.box (before g i);
}

-- at the goal all places are those of the position
pub all_stand : (g : Game) (b : Boxed) → IsValid b.game → length b.values ≡ length b.game.variables → IsEntered g (length g.scopes) b → b.values ≡ position g (length g.scopes) b.store.box
all_stand g b v l h =
    let n = before g (length g.scopes) in
    let all : n ≡ length g.variables = variables_all g (subst IsValid h.game v) in
    let size : length b.values ≡ length g.variables = l ∙ ap (λ (k : Game). length k.variables) h.game in
    sym (take_all b.values n (omega (arith, all, size))) ∙ h.stand
