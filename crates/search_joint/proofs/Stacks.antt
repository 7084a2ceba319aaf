-- Boxes on the way, as the store goes on and back.
use Rattle.std.proofs.Common.{◌≡◌, ◌<◌, ◌≤◌, ◌-◌, ◌⊎◌, ℕ, zero, suc, Bool, true, List, [], ◌∷◌, ◌++◌, length, get_or, refl, sym, ap, ◌∙◌, subst, arith, inl, inr, Option, Some, None}
use Rattle.std.specs.Prelude.{slice_get, unwrap_or}
use Rattle.std.proofs.lemmas.Bool.Decides.{nat_tests}
use Rattle.std.proofs.lemmas.Option.{slice_get_within, slice_get-get_or}
use Rattle.qc_model.specs.Content.{Game, Rule}
use Rattle.qc_model.specs.Domains.{Box}
use Rattle.model_arguments.specs.Asked.{is_box_of}
use Rattle.model_levels.specs.Spans.{IsSpanOf, is_rule_within, is_number_within}
use Rattle.fd_store.specs.Held.{Held, Follows, IsUndone, trail_len, past_box}
use Rattle.prop_engine.specs.Closing.{EachRule, IsClosedFor, is_between}
use Rattle.search_joint.specs.declared.entry.Entry.{Entry}
use Rattle.search_joint.specs.Stacked.{IsFront, IsKept, IsStacked, declared_entry, last_entry}

-- fewer entries
pub stacked_front : (g : Game) (s : Held) (es all : List Entry) → IsFront es all → IsStacked g s all → IsStacked g s es
stacked_front g s es all f h = record {
  first = h.first;
  each = λ k e i. h.each k e (f.each k e i);
  rises = λ j k d e l p q. h.rises j k d e l (f.each j d p) (f.each k e q);
}

-- a store that went on, or came back no further than where the entry is
kept_still : (g : Game) (s t : Held) (e : Entry) → IsKept g s e → e.mark.at ≤ trail_len t → past_box t e.mark.at ≡ past_box s e.mark.at → IsKept g t e
kept_still g s t e h l p = record {
  at = l;
  declared = subst (λ b. is_box_of g b ≡ true) (sym p) h.declared;
  closed = subst (λ b. IsClosedFor (is_number_within g e.from.0 e.stop) g b) (sym p) h.closed;
}

pub stacked_on : (g : Game) (s t : Held) (es : List Entry) → Follows s t → IsStacked g s es → IsStacked g t es
stacked_on g s t es f h = record {
  first = on declared_entry h.first;
  each = λ k e i. on e (h.each k e i);
  rises = h.rises;
}
  where
    on : (e : Entry) → IsKept g s e → IsKept g t e
    on e k = kept_still g s t e k (omega (arith, k.at, f.longer)) (f.boxes e.mark.at k.at)

-- the last entry stands for a box on the way, and none lies behind it
last_by : (g : Game) (s : Held) (es : List Entry) (o : Option Entry) → slice_get es (length es - 1) ≡ o → IsStacked g s es → IsKept g s (unwrap_or o declared_entry)
last_by g s es None f h = h.first
last_by g s es (Some e) f h = h.each (length es - 1) e f

pub last_kept : (g : Game) (s : Held) (es : List Entry) → IsStacked g s es → IsKept g s (last_entry es)
last_kept g s es h = last_by g s es (slice_get es (length es - 1)) refl h

before_last : (g : Game) (s : Held) (es : List Entry) (o : Option Entry) → slice_get es (length es - 1) ≡ o → IsStacked g s es → (k : ℕ) (d : Entry) → slice_get es k ≡ Some d → d.mark.at ≤ (unwrap_or o declared_entry).mark.at
before_last g s es None f h k d i = let l = slice_get_within es k d i in absurd (no (sym (slice_get-get_or es (length es - 1) d (omega (arith, l))) ∙ f))
  where
    no : {e : Entry} → Some e ≡ None → ⊥
    no p = cc
before_last g s es (Some e) f h k d i = h.rises k (length es - 1) d e (omega (arith, slice_get_within es k d i)) i f

pub stacked_undone : (g : Game) (s t : Held) (es : List Entry) → IsUndone (last_entry es).mark.at s t → IsStacked g s es → IsStacked g t es
stacked_undone g s t es u h = record {
  first = back declared_entry h.first (omega arith);
  each = λ k e i. back e (h.each k e i) (before_last g s es (slice_get es (length es - 1)) refl h k e i);
  rises = h.rises;
}
  where
    back : (e : Entry) → IsKept g s e → e.mark.at ≤ (last_entry es).mark.at → IsKept g t e
    back e k l = kept_still g s t e k (omega (arith, l, u.len)) (u.boxes e.mark.at l)

-- one entry more, for the box that the store has
past_the_end : {X : Type 0} (xs : List X) (d : X) → get_or xs (length xs) d ≡ d
past_the_end [] d = refl
past_the_end (x ∷ xs) d = past_the_end xs d

kept_now : (g : Game) (t : Held) (e : Entry) → e.mark.at ≡ trail_len t → is_box_of g t.box ≡ true → IsClosedFor (is_number_within g e.from.0 e.stop) g t.box → IsKept g t e
kept_now g t e m d c =
    let here : past_box t e.mark.at ≡ t.box = ap (λ k. get_or t.past k t.box) m ∙ past_the_end t.past t.box in
    record {
      at = omega (arith, m);
      declared = subst (λ b. is_box_of g b ≡ true) (sym here) d;
      closed = subst (λ b. IsClosedFor (is_number_within g e.from.0 e.stop) g b) (sym here) c;
    }

where_is : (es : List Entry) (e : Entry) (k : ℕ) (d : Entry) → slice_get (es ++ e ∷ []) k ≡ Some d → (slice_get es k ≡ Some d) ⊎ ((k ≡ length es) × (d ≡ e))
where_is [] e zero d h = inr (refl, cc)
where_is [] e (suc k) d h = cc
where_is (x ∷ es) e zero d h = inl h
where_is (x ∷ es) e (suc k) d h = next (where_is es e k d h)
  where
    next : (slice_get es k ≡ Some d) ⊎ ((k ≡ length es) × (d ≡ e)) → (slice_get es k ≡ Some d) ⊎ ((suc k ≡ suc (length es)) × (d ≡ e))
    next (inl p) = inl p
    next (inr p) = inr (ap suc p.0, p.1)

pub stacked_more : (g : Game) (t : Held) (es : List Entry) (e : Entry) → IsStacked g t es → e.mark.at ≡ trail_len t → is_box_of g t.box ≡ true → IsClosedFor (is_number_within g e.from.0 e.stop) g t.box → IsStacked g t (es ++ e ∷ [])
stacked_more g t es e h m d c = record {
  first = h.first;
  each = λ k f i. each k f (where_is es e k f i);
  rises = λ j k a b l p q. up j k a b l (where_is es e j a p) (where_is es e k b q);
}
  where
    each : (k : ℕ) (f : Entry) → (slice_get es k ≡ Some f) ⊎ ((k ≡ length es) × (f ≡ e)) → IsKept g t f
    each k f (inl i) = h.each k f i
    each k f (inr i) = subst (λ z. IsKept g t z) (sym i.1) (kept_now g t e m d c)

    up : (j k : ℕ) (a b : Entry) → j ≤ k → (slice_get es j ≡ Some a) ⊎ ((j ≡ length es) × (a ≡ e)) → (slice_get es k ≡ Some b) ⊎ ((k ≡ length es) × (b ≡ e)) → a.mark.at ≤ b.mark.at
    up j k a b l (inl p) (inl q) = h.rises j k a b l p q
    up j k a b l (inl p) (inr q) = let r = (h.each j a p).at in let n = ap (λ z. z.mark.at) q.1 in omega (arith, r, m, n)
    up j k a b l (inr p) (inl q) = absurd (omega (arith, l, p.0, slice_get_within es k b q))
    up j k a b l (inr p) (inr q) = let n = ap (λ z. z.mark.at) p.1 in let o = ap (λ z. z.mark.at) q.1 in omega (arith, n, o)

-- constraints of some of the scopes
pub of_more : (g : Game) (a i n b k : ℕ) → a ≤ i → n ≤ b → is_number_within g i n k ≡ true → is_number_within g a b k ≡ true
of_more g a i n b k l m h = by (slice_get g.constraints k) h
  where
    by : (o : Option Rule) → is_rule_within i n o ≡ true → is_rule_within a b o ≡ true
    by None h = cc
    by (Some c) h = grind (arith, nat_tests)

pub kept_of_more : (g : Game) (a i n b first end : ℕ) (p : Rule → Bool) → a ≤ i → n ≤ b → IsSpanOf g i n first end → EachRule (is_number_within g a b) g p → EachRule (is_between first end) g p
kept_of_more g a i n b first end p l m s e k c o h = e k c (of_more g a i n b k l m (sym (s.numbers k) ∙ o)) h

pub closed_of_span : (g : Game) (i n first end : ℕ) (box : Box) → IsSpanOf g i n first end → IsClosedFor (is_between first end) g box → IsClosedFor (is_number_within g i n) g box
closed_of_span g i n first end box s h = (h.0, λ k c o e. h.1 k c (s.numbers k ∙ o) e)

-- undone to the last entry of those that stay
pub last_at : (g : Game) (s : Held) (es all : List Entry) (last : Entry) → IsFront es all → IsStacked g s all → last ≡ last_entry es → last.mark.at ≤ trail_len s
last_at g s es all last f h e = (subst (λ z. IsKept g s z) (sym e) (last_kept g s es (stacked_front g s es all f h))).at

pub record IsBackAt (g : Game) (t : Held) (es : List Entry) (last : Entry) : Type 0 where
  pub stacked : IsStacked g t es
  pub closed : IsClosedFor (is_number_within g last.from.0 last.stop) g t.box

pub back_at : (g : Game) (s t : Held) (es all : List Entry) (last : Entry) → IsFront es all → IsStacked g s all → last ≡ last_entry es → t.box ≡ past_box s last.mark.at → IsUndone last.mark.at s t → IsBackAt g t es last
back_at g s t es all last f h e b u =
    let fewer = stacked_front g s es all f h in
    record {
      stacked = stacked_undone g s t es (subst (λ z. IsUndone z.mark.at s t) e u) fewer;
      closed = subst (λ box. IsClosedFor (is_number_within g last.from.0 last.stop) g box) (sym b) (subst (λ z. IsKept g s z) (sym e) (last_kept g s es fewer)).closed;
    }

pub counted : (n : ℕ) → 0 < n → suc (n - 1) ≡ n
counted n h = omega (arith, h)
