-- What it means how reading ends.
use Rattle.std.proofs.Common.{◌≡◌, ◌⊎◌, inl, inr, refl, sym, ap, ◌∙◌, subst, ℕ, suc, List, [], ◌∷◌, ◌++◌, length, Option, Some, None, Bool, true, false, ◌||◌, cond, arith, leb-true, le-leb}
use Rattle.std.specs.Prelude.{nat_le, nat_eq, pos}
use Rattle.std.specs.List.{list_all}
use Rattle.std.proofs.lemmas.Bool.{and_from, and_parts, or_cases, eqb-true}
use Rattle.std.proofs.lemmas.Fmt.{decimal_digit}
use Rattle.std.proofs.lemmas.List.Folds.{list_all-append}
use Rattle.proof_tree.specs.declared.tree.Outcome.TheVariants.{False}
use Rattle.proof_tree.specs.declared.tree.Version.TheVariants.{One}
use Rattle.proof_tree.specs.Tree.{tree, stuck, empty, no_more, skip}
use Rattle.proof_text.specs.Symbols.{Symbol, byte, number, signed, digits, certificate, outcome, optimum, prunes, node, body, cases, ending, case, branches, after}
use Rattle.proof_text.specs.Running.{nests_within, run, onward, Verdict, whole, wrong, deep}
use Rattle.proof_text.proofs.Grammar.{Begins, Runs, runs_append, runs_split}
use Rattle.proof_text.proofs.Owed.{is_sound, is_range, range, enter, leave, sound_after, nests_after}

-- all of a list of symbols can be had within a nesting
pub record AreReady (m : ℕ) (k : List Symbol) : Type 0 where
  pub sound : list_all is_sound k ≡ true
  pub nests : list_all (nests_within m) k ≡ true

-- a shortest text of a symbol
shortest : (m : ℕ) (s : Symbol) (b : List ℕ) → is_sound s ≡ true → nests_within m s ≡ true → (u : List ℕ) × Begins m s u b
shortest m (byte c) b f g = (c ∷ b, refl)
shortest m (number most end) b f g =
    let r = range most end f in
    let low = r.low in
    (49 ∷ end ∷ b, record { n = 1; low = omega arith; high = omega arith; told = ap (λ (l : List ℕ). l ++ end ∷ b) (sym (decimal_digit 1 (omega arith))) })
shortest m (signed most end) b f g = (48 ∷ end ∷ b, record { z = pos 0; fits = le-leb _ _ (omega arith); told = ap (λ (l : List ℕ). l ++ end ∷ b) (sym (decimal_digit 0 (omega arith))) })
shortest m (digits most v end) b f g =
    let p = and_parts (nat_le v most) (is_range most end) f in
    (end ∷ b, record { ds = []; are = tt; high = leb-true _ _ p.0; told = refl })
shortest m certificate b f g = (_, record { ver = One; o = False; v = None; t = tree None stuck; outcome = refl; fits = refl; shallow = omega arith; told = refl })
shortest m outcome b f g = (_, record { o = False; v = None; fits = refl; told = refl })
shortest m optimum b f g = (_, record { v = None; fits = refl; told = refl })
shortest m prunes b f g = (_, record { steps = []; fit = refl; are = refl; told = refl })
shortest m (node ver n) b f g = let le = leb-true _ _ g in (_, record { t = tree None stuck; fits = refl; shallow = omega arith; told = refl })
shortest m (body ver n) b f g = let le = leb-true _ _ g in (_, record { t = stuck; fits = refl; shallow = omega arith; told = refl })
shortest m (cases ver n) b f g = let le = leb-true _ _ g in (_, record { steps = []; fit = refl; rest = _; end = record { end = empty; fits = refl; shallow = omega arith; told = refl }; told = refl })
shortest m (ending ver n) b f g = let le = leb-true _ _ g in (_, record { end = empty; fits = refl; shallow = omega arith; told = refl })
shortest m (case ver n) b f g = let le = leb-true _ _ g in (_, record { c = skip; fits = refl; shallow = omega arith; told = refl })
shortest m (branches ver n) b f g = let le = leb-true _ _ g in (_, record { bs = no_more; fit = refl; shallow = omega arith; told = refl })

pub ready_parts : (m : ℕ) (s : Symbol) (k : List Symbol) → AreReady m (s ∷ k) → (is_sound s ≡ true) × (nests_within m s ≡ true) × AreReady m k
ready_parts m s k h =
    let p = and_parts (is_sound s) (list_all is_sound k) h.sound in
    let q = and_parts (nests_within m s) (list_all (nests_within m) k) h.nests in
    (p.0, q.0, record { sound = p.1; nests = q.1 })

pub can_end : (m : ℕ) (k : List Symbol) → AreReady m k → (u : List ℕ) × Runs m k u []
can_end m [] h = ([], refl)
can_end m (s ∷ k) h =
    let p = ready_parts m s k h in
    let r = can_end m k p.2 in
    let q = shortest m s r.0 p.0 p.1 in
    (q.0, (r.0, q.1, r.1))

pub go_in : (m : ℕ) (s : Symbol) (k owed : List Symbol) (c : ℕ) (w b : List ℕ) → is_sound s ≡ true → after s c ≡ Some owed → Runs m (s ∷ k) (c ∷ w) b → Runs m (owed ++ k) w b
go_in m s k owed c w b f h r =
    let e = enter m s (c ∷ w) r.0 f r.1 in
    let is : c ∷ w ≡ e.first ∷ e.w = e.is in
    let head : c ≡ e.first = cc in
    let tail : e.w ≡ w = cc in
    let some : Some e.owed ≡ Some owed = sym e.goes_on ∙ ap (after s) (sym head) ∙ h in
    let same : e.owed ≡ owed = cc in
    runs_append m owed k w r.0 b (subst (λ (l : List Symbol). Runs m l w r.0) same (subst (λ (l : List ℕ). Runs m e.owed l r.0) tail e.runs)) r.2

pub no_way : (m : ℕ) (s : Symbol) (k : List Symbol) (c : ℕ) (w b : List ℕ) → is_sound s ≡ true → after s c ≡ None → Runs m (s ∷ k) (c ∷ w) b → ⊥
no_way m s k c w b f h r =
    let e = enter m s (c ∷ w) r.0 f r.1 in
    let is : c ∷ w ≡ e.first ∷ e.w = e.is in
    let head : c ≡ e.first = cc in
    let clash : None ≡ Some e.owed = sym h ∙ ap (after s) head ∙ e.goes_on in
    cc

pub not_empty : (m : ℕ) (s : Symbol) (k : List Symbol) (b : List ℕ) → is_sound s ≡ true → Runs m (s ∷ k) [] b → ⊥
not_empty m s k b f r =
    let e = enter m s [] r.0 f r.1 in
    let is : [] ≡ e.first ∷ e.w = e.is in
    cc

pub come_out : (m : ℕ) (s : Symbol) (k owed : List Symbol) (c : ℕ) (w b : List ℕ) → is_sound s ≡ true → nests_within m s ≡ true → after s c ≡ Some owed → Runs m (owed ++ k) w b → Runs m (s ∷ k) (c ∷ w) b
come_out m s k owed c w b f g h r =
    let p = runs_split m owed k w b r in
    (p.0, leave m s c owed w p.0 f g h p.1, p.2)

-- what was had within a nesting is nested within it
nests_since : (m : ℕ) (s : Symbol) (u b : List ℕ) → Begins m s u b → nests_within m s ≡ true
nests_since m (byte c) u b h = refl
nests_since m (number most end) u b h = refl
nests_since m (signed most end) u b h = refl
nests_since m (digits most v end) u b h = refl
nests_since m certificate u b h = refl
nests_since m outcome u b h = refl
nests_since m optimum u b h = refl
nests_since m prunes u b h = refl
nests_since m (node ver n) u b h = let s = h.shallow in le-leb _ _ (omega arith)
nests_since m (body ver n) u b h = let s = h.shallow in le-leb _ _ (omega arith)
nests_since m (cases ver n) u b h = let s = h.end.shallow in le-leb _ _ (omega arith)
nests_since m (ending ver n) u b h = let s = h.shallow in le-leb _ _ (omega arith)
nests_since m (case ver n) u b h = let s = h.shallow in le-leb _ _ (omega arith)
nests_since m (branches ver n) u b h = let s = h.shallow in le-leb _ _ (omega arith)

pub all_nest : (m : ℕ) (k : List Symbol) (u b : List ℕ) → Runs m k u b → list_all (nests_within m) k ≡ true
all_nest m [] u b h = refl
all_nest m (s ∷ k) u b h = and_from _ _ (nests_since m s u h.0 h.1) (all_nest m k h.0 b h.2)

deeper_one : (m : ℕ) (s : Symbol) → nests_within m s ≡ true → nests_within (suc m) s ≡ true
deeper_one m (byte c) h = refl
deeper_one m (number most end) h = refl
deeper_one m (signed most end) h = refl
deeper_one m (digits most v end) h = refl
deeper_one m certificate h = refl
deeper_one m outcome h = refl
deeper_one m optimum h = refl
deeper_one m prunes h = refl
deeper_one m (node ver n) h = let s = leb-true _ _ h in le-leb _ _ (omega arith)
deeper_one m (body ver n) h = let s = leb-true _ _ h in le-leb _ _ (omega arith)
deeper_one m (cases ver n) h = let s = leb-true _ _ h in le-leb _ _ (omega arith)
deeper_one m (ending ver n) h = let s = leb-true _ _ h in le-leb _ _ (omega arith)
deeper_one m (case ver n) h = let s = leb-true _ _ h in le-leb _ _ (omega arith)
deeper_one m (branches ver n) h = let s = leb-true _ _ h in le-leb _ _ (omega arith)

deeper_all : (m : ℕ) (k : List Symbol) → list_all (nests_within m) k ≡ true → list_all (nests_within (suc m)) k ≡ true
deeper_all m [] h = refl
deeper_all m (s ∷ k) h =
    let p = and_parts (nests_within m s) (list_all (nests_within m) k) h in
    and_from _ _ (deeper_one m s p.0) (deeper_all m k p.1)

pub append_ready : (m : ℕ) (k l : List Symbol) → list_all is_sound k ≡ true → list_all (nests_within m) k ≡ true → AreReady m l → AreReady m (k ++ l)
append_ready m k l f g h = record {
  sound = list_all-append is_sound k l ∙ and_from _ _ f h.sound;
  nests = list_all-append (nests_within m) k l ∙ and_from _ _ g h.nests;
}

-- a text goes on after these bytes
abbrev pub CanGo : ℕ → List Symbol → List ℕ → Type 0
CanGo m k u = (z : List ℕ) × Runs m k (u ++ z) []

-- reading ended at a byte with which no text goes on, or for want of more bytes
pub record StopsAt (k : List Symbol) (w : List ℕ) (left : ℕ) : Type 0 where
  pub u : List ℕ
  pub rest : List ℕ
  pub is : w ≡ u ++ rest
  pub many : length rest ≡ left
  pub front : CanGo 1000 k u
  pub here : (c : ℕ) (r : List ℕ) → rest ≡ c ∷ r → (m : ℕ) → CanGo m k (u ++ c ∷ []) → ⊥
  pub unfinished : rest ≡ [] → (m : ℕ) → Runs m k w [] → ⊥

pub record DeepAt (k : List Symbol) (w : List ℕ) (left : ℕ) : Type 0 where
  pub u : List ℕ
  pub c : ℕ
  pub r : List ℕ
  pub is : w ≡ u ++ c ∷ r
  pub many : suc (length r) ≡ left
  pub front : CanGo 1000 k u
  pub opens : CanGo 1001 k (u ++ c ∷ [])
  pub deeper : CanGo 1000 k (u ++ c ∷ []) → ⊥
  pub letter : (c ≡ 118) ⊎ (c ≡ 110)

abbrev pub Says : Verdict → List Symbol → List ℕ → Type 0
Says whole k w = Runs 1000 k w []
Says (wrong left) k w = StopsAt k w left
Says (deep left) k w = DeepAt k w left

nothing_left : (c : ℕ) (cs : List ℕ) → StopsAt [] (c ∷ cs) (suc (length cs))
nothing_left c cs = record {
  u = [];
  rest = c ∷ cs;
  is = refl;
  many = refl;
  front = ([], refl);
  here = λ d r e m h. let is : d ∷ h.0 ≡ [] = h.1 in cc;
  unfinished = λ e m h. cc;
}

too_short : (s : Symbol) (k : List Symbol) → AreReady 1000 (s ∷ k) → StopsAt (s ∷ k) [] 0
too_short s k h = record {
  u = [];
  rest = [];
  is = refl;
  many = refl;
  front = can_end 1000 (s ∷ k) h;
  here = λ c r e m g. cc;
  unfinished = λ e m g. not_empty m s k [] (ready_parts 1000 s k h).0 g;
}

no_such : (s : Symbol) (k : List Symbol) (c : ℕ) (cs : List ℕ) → AreReady 1000 (s ∷ k) → after s c ≡ None → StopsAt (s ∷ k) (c ∷ cs) (suc (length cs))
no_such s k c cs h e = record {
  u = [];
  rest = c ∷ cs;
  is = refl;
  many = refl;
  front = can_end 1000 (s ∷ k) h;
  here = λ d r f m g.
      let same : c ≡ d = cc in
      no_way m s k d g.0 [] (ready_parts 1000 s k h).0 (ap (after s) (sym same) ∙ e) g.1;
  unfinished = λ f m g. cc;
}

front_more : (s : Symbol) (k owed : List Symbol) (c m : ℕ) (u : List ℕ) → is_sound s ≡ true → nests_within m s ≡ true → after s c ≡ Some owed → CanGo m (owed ++ k) u → CanGo m (s ∷ k) (c ∷ u)
front_more s k owed c m u f g e h = (h.0, come_out m s k owed c (u ++ h.0) [] f g e h.1)

front_less : (s : Symbol) (k owed : List Symbol) (c m : ℕ) (u : List ℕ) → is_sound s ≡ true → after s c ≡ Some owed → CanGo m (s ∷ k) (c ∷ u) → CanGo m (owed ++ k) u
front_less s k owed c m u f e h = (h.0, go_in m s k owed c (u ++ h.0) [] f e h.1)

stops_more : (s : Symbol) (k owed : List Symbol) (c : ℕ) (cs : List ℕ) (left : ℕ) → AreReady 1000 (s ∷ k) → after s c ≡ Some owed → StopsAt (owed ++ k) cs left → StopsAt (s ∷ k) (c ∷ cs) left
stops_more s k owed c cs left h e g =
    let p = ready_parts 1000 s k h in
    record {
      u = c ∷ g.u;
      rest = g.rest;
      is = ap (λ (l : List ℕ). c ∷ l) g.is;
      many = g.many;
      front = front_more s k owed c 1000 g.u p.0 p.1 e g.front;
      here = λ d r f m x. g.here d r f m (front_less s k owed c m (g.u ++ d ∷ []) p.0 e x);
      unfinished = λ f m x. g.unfinished f m (go_in m s k owed c cs [] p.0 e x);
    }

deep_more : (s : Symbol) (k owed : List Symbol) (c : ℕ) (cs : List ℕ) (left : ℕ) → AreReady 1000 (s ∷ k) → after s c ≡ Some owed → DeepAt (owed ++ k) cs left → DeepAt (s ∷ k) (c ∷ cs) left
deep_more s k owed c cs left h e g =
    let p = ready_parts 1000 s k h in
    record {
      u = c ∷ g.u;
      c = g.c;
      r = g.r;
      is = ap (λ (l : List ℕ). c ∷ l) g.is;
      many = g.many;
      front = front_more s k owed c 1000 g.u p.0 p.1 e g.front;
      opens = front_more s k owed c 1001 (g.u ++ g.c ∷ []) p.0 (deeper_one 1000 s p.1) e g.opens;
      deeper = λ x. g.deeper (front_less s k owed c 1000 (g.u ++ g.c ∷ []) p.0 e x);
      letter = g.letter;
    }

letter_of : (a : Bool) (c : ℕ) → a ≡ false → (a || (nat_eq c 118 || nat_eq c 110)) ≡ true → (c ≡ 118) ⊎ (c ≡ 110)
letter_of a c f h =
    elim (or_cases a (nat_eq c 118 || nat_eq c 110) h) [
      | inl x ↦ absurd (cc)
      | inr x ↦ elim (or_cases (nat_eq c 118) (nat_eq c 110) x) [ inl y ↦ inl (eqb-true c 118 y) | inr y ↦ inr (eqb-true c 110 y) ]
    ]

deep_here : (s : Symbol) (k owed : List Symbol) (c : ℕ) (cs : List ℕ) → AreReady 1000 (s ∷ k) → after s c ≡ Some owed → list_all (nests_within 1000) owed ≡ false → DeepAt (s ∷ k) (c ∷ cs) (suc (length cs))
deep_here s k owed c cs h e f =
    let p = ready_parts 1000 s k h in
    let t = and_parts (list_all (nests_within 1001) owed) (list_all (nests_within 1000) owed || (nat_eq c 118 || nat_eq c 110)) (nests_after 1000 s c owed p.1 e) in
    let ready : AreReady 1001 k = record { sound = p.2.sound; nests = deeper_all 1000 k p.2.nests } in
    record {
      u = [];
      c = c;
      r = cs;
      is = refl;
      many = refl;
      front = can_end 1000 (s ∷ k) h;
      opens = front_more s k owed c 1001 [] p.0 (deeper_one 1000 s p.1) e (can_end 1001 (owed ++ k) (append_ready 1001 owed k (sound_after s c owed p.0 e) t.0 ready));
      deeper = λ x.
          let y = runs_split 1000 owed k _ [] (go_in 1000 s k owed c x.0 [] p.0 e x.1) in
          let n = all_nest 1000 owed x.0 y.0 y.1 in
          cc;
      letter = letter_of _ c f t.1;
    }

says_onward : (t : Bool) (s : Symbol) (k owed : List Symbol) (c : ℕ) (cs : List ℕ) → AreReady 1000 (s ∷ k) → after s c ≡ Some owed → list_all (nests_within 1000) owed ≡ t
    → (AreReady 1000 (owed ++ k) → Says (run (owed ++ k) cs) (owed ++ k) cs) → Says (cond t (run (owed ++ k) cs) (deep (suc (length cs)))) (s ∷ k) (c ∷ cs)
says_onward false s k owed c cs h e f more = deep_here s k owed c cs h e f
says_onward true s k owed c cs h e f more =
    let p = ready_parts 1000 s k h in
    carry (run (owed ++ k) cs) (more (append_ready 1000 owed k (sound_after s c owed p.0 e) f p.2))
  where
    carry : (v : Verdict) → Says v (owed ++ k) cs → Says v (s ∷ k) (c ∷ cs)
    carry whole g = come_out 1000 s k owed c cs [] (ready_parts 1000 s k h).0 (ready_parts 1000 s k h).1 e g
    carry (wrong left) g = stops_more s k owed c cs left h e g
    carry (deep left) g = deep_more s k owed c cs left h e g

says_after : (o : Option (List Symbol)) (s : Symbol) (k : List Symbol) (c : ℕ) (cs : List ℕ) → AreReady 1000 (s ∷ k) → after s c ≡ o
    → ((l : List Symbol) → AreReady 1000 l → Says (run l cs) l cs) → Says (onward o (λ more. run (more ++ k) cs) (suc (length cs))) (s ∷ k) (c ∷ cs)
says_after None s k c cs h e more = no_such s k c cs h e
says_after (Some owed) s k c cs h e more = says_onward (list_all (nests_within 1000) owed) s k owed c cs h e refl (more (owed ++ k))

-- each verdict is right
pub says : (w : List ℕ) (k : List Symbol) → AreReady 1000 k → Says (run k w) k w
says [] [] h = refl
says [] (s ∷ k) h = too_short s k h
says (c ∷ cs) [] h = nothing_left c cs
says (c ∷ cs) (s ∷ k) h = says_after (after s c) s k c cs h refl (says cs)
