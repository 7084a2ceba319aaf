-- Where a walk is after one that led on, or came back.
use Rattle.std.proofs.Common.{◌≡◌, ℕ, suc, ◌-◌, true, false, refl, sym, ap, ◌∙◌, subst, arith, ℤ}
use Rattle.qc_model.specs.Content.{Game}
use Rattle.qc_model.specs.Domains.{box_within, has_empty, is_within}
use Rattle.model_arguments.specs.Asked.{is_box_of}
use Rattle.joins.specs.Joins.{game_of as game_joined, KeepsOthers, KeepsAll}
use Rattle.joins.specs.declared.joins.Joins.{Joins}
use Rattle.fd_store.specs.Held.{Held, trail_len, past_box, Follows, IsUndone}
use Rattle.check_box.specs.Placed.{IsAt, values_to}
use Rattle.box_laws.proofs.Trails.{past_now}
use Rattle.check_box.proofs.Fewer.{at_fewer, at_values, fewer_values}
use Rattle.check_box.proofs.Placing.{at_filtered}
use Rattle.qc_play.specs.declared.walk.Walk.{Walk}
use Rattle.qc_play.specs.Walk.{IsWithin, Keeps, LeadsOn, IsBack}

-- stores
pub follows_self : (s : Held) → Follows s s
follows_self s = record { longer = omega arith; boxes = λ k l. refl }

pub follows_then : (s t u : Held) → Follows s t → Follows t u → Follows s u
follows_then s t u f h = record {
  longer = let a = f.longer in let b = h.longer in omega (arith, a, b);
  boxes = λ k l. h.boxes k (let a = f.longer in omega (arith, a, l)) ∙ f.boxes k l;
}

pub undone_self : (s : Held) → IsUndone (trail_len s) s s
undone_self s = record { len = refl; boxes = λ k l. refl }

pub undone_follows : (s t : Held) → IsUndone (trail_len s) s t → Follows s t
undone_follows s t u = record { longer = let a = u.len in omega (arith, a); boxes = λ k l. u.boxes k l }

pub undone_then : (s t u : Held) → IsUndone (trail_len s) s t → IsUndone (trail_len t) t u → IsUndone (trail_len s) s u
undone_then s t u f h = record {
  len = h.len ∙ f.len;
  boxes = λ k l. h.boxes k (let a = f.len in omega (arith, a, l)) ∙ f.boxes k l;
}

-- after undoing what followed
pub undone_after : (s t u : Held) (n : ℕ) → n ≡ trail_len s → Follows s t → IsUndone n t u → IsUndone (trail_len s) s u
undone_after s t u n e f h = record {
  len = h.len ∙ e;
  boxes = λ k l. h.boxes k (omega (arith, e, l)) ∙ f.boxes k l;
}

pub past_before : (s t : Held) (n : ℕ) → n ≡ trail_len s → Follows s t → past_box t n ≡ s.box
past_before s t n e f = f.boxes n (omega (arith, e)) ∙ past_now s n e

-- the rest of the walk
pub keeps_self : (g : Game) (i : ℕ) (w : Walk) → IsWithin g w i → Keeps g i w w
keeps_self g i w h = record { joined = refl; joins = λ j xs l s. s; values = refl; each = refl; numbers = h.numbers }

pub keeps_then : (g : Game) (i : ℕ) (a b c : Walk) → Keeps g i a b → Keeps g i b c → Keeps g i a c
keeps_then g i a b c f h = record {
  joined = h.joined ∙ f.joined;
  joins = λ j xs l s. h.joins j xs l (f.joins j xs l s);
  values = h.values ∙ f.values;
  each = h.each ∙ f.each;
  numbers = h.numbers;
}

-- a walk in the next scope
pub keeps_below : (g : Game) (i : ℕ) (a b : Walk) → Keeps g (suc i) a b → Keeps g i a b
keeps_below g i a b k = record {
  joined = k.joined;
  joins = λ j xs l s. k.joins j xs (omega (arith, l)) s;
  values = let e : suc i - 1 ≡ i = omega arith in subst (λ j. values_to g j b.values.items ≡ values_to g j a.values.items) e (fewer_values g (suc i) a.values.items b.values.items k.values);
  each = k.each;
  numbers = k.numbers;
}

-- where the store alone changes, or the join of the scope
pub keeps_store : (g : Game) (i : ℕ) (w : Walk) (t : Held) → IsWithin g w i → Keeps g i w (record w { remains = t })
keeps_store g i w t h = record { joined = refl; joins = λ j xs l s. s; values = refl; each = refl; numbers = h.numbers }

pub keeps_join : (g : Game) (i : ℕ) (w : Walk) (js : Joins) → IsWithin g w i → game_joined js ≡ game_joined w.joins → KeepsOthers i w.joins js → Keeps g i w (record w { joins = js })
keeps_join g i w js h e k = record { joined = e; joins = λ j xs l s. k j xs (λ q. absurd (omega (arith, l, q))) s; values = refl; each = refl; numbers = h.numbers }

pub back_self : (g : Game) (i : ℕ) (w : Walk) → IsWithin g w i → IsBack g i w w
back_self g i w h = record { keeps = keeps_self g i w h; past = undone_self w.remains; box = refl }

pub back_then : (g : Game) (i : ℕ) (a b c : Walk) → IsBack g i a b → IsBack g i b c → IsBack g i a c
back_then g i a b c f h = record {
  keeps = keeps_then g i a b c f.keeps h.keeps;
  past = undone_then a.remains b.remains c.remains f.past h.past;
  box = h.box ∙ f.box;
}

pub back_below : (g : Game) (i : ℕ) (a b : Walk) → IsBack g (suc i) a b → IsBack g i a b
back_below g i a b h = record { keeps = keeps_below g i a b h.keeps; past = h.past; box = h.box }

pub back_join : (g : Game) (i : ℕ) (w : Walk) (js : Joins) → IsWithin g w i → game_joined js ≡ game_joined w.joins → KeepsOthers i w.joins js → IsBack g i w (record w { joins = js })
back_join g i w js h e k = record { keeps = keeps_join g i w js h e k; past = undone_self w.remains; box = refl }

pub on_then : (g : Game) (i : ℕ) (a b c : Walk) → LeadsOn g i a b → LeadsOn g i b c → LeadsOn g i a c
on_then g i a b c f h = record { keeps = keeps_then g i a b c f.keeps h.keeps; past = follows_then a.remains b.remains c.remains f.past h.past }

-- the walk goes back
pub on_undone : (g : Game) (i : ℕ) (a b : Walk) (t : Held) (n : ℕ) → n ≡ trail_len a.remains → LeadsOn g i a b → IsUndone n b.remains t → t.box ≡ past_box b.remains n → IsBack g i a (record b { remains = t })
on_undone g i a b t n e f u q = record {
  keeps = record { joined = f.keeps.joined; joins = f.keeps.joins; values = f.keeps.values; each = f.keeps.each; numbers = f.keeps.numbers };
  past = undone_after a.remains b.remains t n e f.past u;
  box = q ∙ past_before a.remains b.remains n e f.past;
}

-- it is still in the scope
pub within_kept : (g : Game) (i : ℕ) (a b : Walk) → IsWithin g a i → Keeps g i a b → is_box_of g b.remains.box ≡ true → (has_empty b.remains.box ≡ false → IsAt g i a.values.items b.remains.box) → IsWithin g b i
within_kept g i a b h k d p = record {
  joined = k.joined ∙ h.joined;
  each = k.each ∙ h.each;
  numbers = k.numbers;
  declared = d;
  placed = λ f. at_values g i a.values.items b.values.items b.remains.box k.values (p f);
}

pub within_back : (g : Game) (i : ℕ) (a b : Walk) → IsWithin g a i → IsBack g i a b → IsWithin g b i
within_back g i a b h k =
    within_kept g i a b h k.keeps (ap (λ c. is_box_of g c) k.box ∙ h.declared) (λ f. subst (IsAt g i a.values.items) (sym k.box) (h.placed (sym (ap has_empty k.box) ∙ f)))

pub back_all : (g : Game) (i : ℕ) (w : Walk) (js : Joins) → IsWithin g w i → game_joined js ≡ game_joined w.joins → KeepsAll w.joins js → IsBack g i w (record w { joins = js })
back_all g i w js h e k = back_join g i w js h e (λ j xs n s. k j xs s)

-- in the next scope it is in this one too
pub within_fewer : (g : Game) (i : ℕ) (w : Walk) → IsWithin g w (suc i) → IsWithin g w i
within_fewer g i w h = record {
  joined = h.joined;
  each = h.each;
  numbers = h.numbers;
  declared = h.declared;
  placed = λ f. let e : suc i - 1 ≡ i = omega arith in subst (λ j. IsAt g j w.values.items w.remains.box) e (at_fewer g (suc i) w.values.items w.remains.box (h.placed f));
}

-- where a join changes, or the store
pub within_kept_box : (g : Game) (i : ℕ) (w : Walk) (t : Held) (x : ℕ) (lo hi : ℤ) → IsWithin g w i → t.box ≡ box_within w.remains.box x lo hi → is_box_of g t.box ≡ true → IsWithin g (record w { remains = t }) i
within_kept_box g i w t x lo hi h e d = record {
  joined = h.joined;
  each = h.each;
  numbers = h.numbers;
  declared = d;
  placed = at_filtered g i w.values.items w.remains.box t.box x (is_within lo hi) e h.placed;
}
