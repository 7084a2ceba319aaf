-- A lemma in place is true, and so is what a list of lemmas proves.
use Rattle.std.proofs.Common.{◌≡◌, ℕ, zero, suc, ◌<◌, Bool, true, false, ◌&&◌, List, [], ◌∷◌, ◌++◌, length, drop, slice_get, set, get_or, refl, sym, ap, ◌∙◌, subst, arith, cond, Some, None}
use Rattle.std.specs.Prelude.{ℤ}
use Rattle.std.specs.List.{list_all}
use Rattle.std.proofs.lemmas.Bool.{and_parts, and_from}
use Rattle.qc_model.specs.declared.problem.Kind.{Kind}
use Rattle.qc_model.specs.declared.problem.Kind.TheVariants.{Exists, Forall}
use Rattle.qc_model.specs.Content.{Game}
use Rattle.qc_model.specs.Lists.{Among}
use Rattle.qc_model.specs.Domains.{declared_box}
use Rattle.qc_model.specs.Game.{before}
use Rattle.qc_model.specs.Counter.{opposite}
use Rattle.qc_model.specs.Valid.{IsValid}
use Rattle.qc_model.proofs.Before.{before-zero}
use Rattle.model_table.proofs.Ordered.{valid_ordered}
use Rattle.proof_meaning.proofs.Standing.{left_from}
use Rattle.lemma_list.specs.declared.lemma.Literal.{Literal}
use Rattle.lemma_list.specs.declared.lemma.SumLiteral.{SumLiteral}
use Rattle.lemma_list.specs.Lemmas.{Lemma, Shown, Entry, shown, forget}
use Rattle.lemma_list.specs.Places.{is_kind, is_chosen_before, place_of, place, is_winners}
use Rattle.lemma_list.specs.Literals.{literals_hold, box_to, are_in_order}
use Rattle.lemma_list.specs.Sums.{last_scope, sum_holds, sums_hold, are_linear}
use Rattle.lemma_list.specs.Reasons.{Known, if_known}
use Rattle.lemma_list.specs.InPlace.{closes, holds_at, is_lemma, in_place, is_nil, is_final, entry_in_place, known_after, ends_with, proves_after}
use Rattle.lemma_list.specs.Claims.{Loses, IsPosition, LemmaMeans}
use Rattle.lemma_boxes.proofs.Lists.{differ, first_of, first_among}
use Rattle.lemma_boxes.proofs.Scopes.{chosen_late, starts}
use Rattle.lemma_boxes.proofs.Literals.{box_lies, box_keeps, box_less, literals_longer}
use Rattle.lemma_boxes.proofs.Sums.{sums_front}
use Rattle.lemma_laws.specs.Claims.{AreTrue, LemmasAreTrue, TrueIsWon, FalseIsLost}
use Rattle.lemma_laws.proofs.Turns.{Holds, loses_unless, is_same}
use Rattle.lemma_laws.proofs.Plays.{Reply, Play, played}
use Rattle.lemma_laws.proofs.Shows.{literals_before}
use Rattle.lemma_laws.proofs.Closes.{RepliesIn, Refutation, refuted}

-- a value for each variable: the reply's for those of the winner that are still to come
first_left : Game → Reply
first_left g b x = first_of (get_or (declared_box g) x [])

filling : Game → Lemma → Reply → Reply
filling g m reply b x = cond (is_winners g m x) (reply b x) (first_left g b x)

module _ (g : Game) (valid : IsValid g) where
  first_lies : (b : List ℤ) (x : ℕ) → x < length (declared_box g) → Among (first_left g b x) (get_or (declared_box g) x [])
  unfolding first_left
  first_lies b x l = first_among (declared_box g) x (valid_ordered g valid).no_empty l

  filling_lies : (m : Lemma) (reply : Reply) → RepliesIn g m (declared_box g) reply → (b : List ℤ) (x : ℕ) → x < length (declared_box g) → Among (filling g m reply b x) (get_or (declared_box g) x [])
  unfolding filling
  filling_lies m reply f b x l = by (is_winners g m x) refl
    where
      by : (c : Bool) → is_winners g m x ≡ c → Among (cond c (reply b x) (first_left g b x)) (get_or (declared_box g) x [])
      by true q = f b x q
      by false q = first_lies b x l

  filling_same : (m : Lemma) (reply : Reply) (b : List ℤ) (x : ℕ) → is_winners g m x ≡ true → filling g m reply b x ≡ reply b x
  unfolding filling
  filling_same m reply b x e = ap (λ c. cond c (reply b x) (first_left g b x)) e

  module _ (m : Lemma) (is : is_lemma g m ≡ true) (a : List ℤ) (position : IsPosition g (place g m) a) (holds : holds_at g m a ≡ true) where
    before_place : (l : Literal) → Among l m.literals → l.x.0 < before g (place g m)
    before_place =
        let p = and_parts (are_in_order m.literals && list_all (λ l. is_chosen_before g (place g m) l.x.0) m.literals) (are_linear g m.sums) is in
        literals_before g valid m (and_parts (are_in_order m.literals) (list_all (λ l. is_chosen_before g (place g m) l.x.0) m.literals) p.0).1

    parts : (literals_hold m.literals a ≡ true) × (sums_hold g m a ≡ true)
    parts = and_parts (literals_hold m.literals a) (sums_hold g m a) holds

    first_within : RepliesIn g m (box_to m.literals (declared_box g)) (first_left g)
    first_within b x l =
        let p = chosen_late g valid (opposite m.loser) (place g m) x l in
        box_keeps (before g (place g m)) m.literals (declared_box g) x (first_left g b x) before_place p.0 (first_lies b x p.1)

    not_held : Refutation g m a (box_to m.literals (declared_box g)) → Holds m.loser g (drop (place g m) g.scopes) (place g m) a → ⊥
    not_held r h =
        against
        (played g valid m.loser (filling g m r.reply) (filling_lies m r.reply (λ b x l. box_less m.literals (declared_box g) x (r.reply b x) (r.within b x l))) (drop (place g m) g.scopes) (place g m) a refl (left_from g (place g m) (starts g valid m)) position.count position.declared h)
      where
        against : Play g m.loser (filling g m r.reply) (drop (place g m) g.scopes) (place g m) a → ⊥
        against p = r.none p.ahead.values
            (record {
              rest = p.ahead.rest;
              goes_on = p.ahead.goes_on;
              full = p.ahead.full;
              sums = ap (sums_hold g m) p.ahead.goes_on ∙ (sums_front g valid m a p.ahead.rest position.count ∙ parts.1);
              reaches = p.reaches;
            })
            (λ x l. let q = p.ahead.answers x l in
            record { scope = q.scope; front = q.front; rest = q.rest; of_scope = q.of_scope; count = q.count; goes_on = q.goes_on; same = q.same ∙ filling_same m r.reply q.front x l })
            (box_lies m.literals (declared_box g) p.ahead.values p.ahead.full
            (ap (literals_hold m.literals) p.ahead.goes_on ∙ literals_longer m.literals a p.ahead.rest (λ l i. (let x = before_place l i in omega (arith, position.count))) parts.0))

  lemma_true : (known : Known) (s : Shown) → AreTrue g known → in_place g known s ≡ true → LemmaMeans g s.lemma
  lemma_true known s true_of e =
      let p = and_parts (is_lemma g s.lemma) (closes g known s.lemma s.ending s.steps (place g s.lemma) (box_to s.lemma.literals (declared_box g))) e in
      record {
        is_lemma = p.0;
        loses = λ a position holds. loses_unless s.lemma.loser g (drop (place g s.lemma) g.scopes) (place g s.lemma) a
            (not_held s.lemma p.0 a position holds
            (refuted g valid known true_of s.lemma a position s.ending s.steps (place g s.lemma) (box_to s.lemma.literals (declared_box g)) (first_left g) (starts g valid s.lemma)
            (λ w f j low high side. absurd (omega arith)) (first_within s.lemma p.0 a position holds) p.1));
      }

  -- what may be named after an entry was there before, or is the entry's own lemma
  one_more : (known : Known) (m : Lemma) (n : ℕ) (l : Lemma) → LemmaMeans g m → AreTrue g known → if_known (slice_get (known ++ (Some m ∷ [])) n) ≡ Some l → LemmaMeans g l
  one_more [] m zero l h t e = subst (LemmaMeans g) (some_same m l e) h
    where
      some_same : (m l : Lemma) → Some m ≡ Some l → m ≡ l
      some_same m l e = cc
  one_more [] m (suc n) l h t e = absurd (none_some l e)
    where
      none_some : (l : Lemma) → None ≡ Some l → ⊥
      none_some l e = cc
  one_more (k ∷ known) m zero l h t e = t 0 l e
  one_more (k ∷ known) m (suc n) l h t e = one_more known m n l h (λ j. t (suc j)) e

  one_less : (known : Known) (d n : ℕ) (l : Lemma) → AreTrue g known → if_known (slice_get (set known d None) n) ≡ Some l → LemmaMeans g l
  one_less [] d n l t e = t n l e
  one_less (k ∷ known) zero zero l t e = absurd (none_some l e)
    where
      none_some : (l : Lemma) → None ≡ Some l → ⊥
      none_some l e = cc
  one_less (k ∷ known) zero (suc n) l t e = t (suc n) l e
  one_less (k ∷ known) (suc d) zero l t e = t 0 l e
  one_less (k ∷ known) (suc d) (suc n) l t e = one_less known d n l (λ j. t (suc j)) e

  true_after : (known : Known) (e : Entry) → AreTrue g known → entry_in_place g known e ≡ true → AreTrue g (known_after known e)
  true_after known (shown s) t e n l q = one_more known s.lemma n l (lemma_true known s t e) t q
  true_after known (forget d) t e n l q = one_less known d.0 n l t q

  -- a lemma of the start without literals
  final_loses : (k : Kind) (m : Lemma) → is_final k m ≡ true → LemmaMeans g m → Loses k g g.scopes 0 []
  final_loses k m e h =
      let p0 = and_parts (is_kind k m.loser && is_nil m.literals) (is_nil m.sums) e in
      let p = and_parts (is_kind k m.loser) (is_nil m.literals) p0.0 in
      let zero_is : place g m ≡ 0 = none_placed m.literals p.1 in
      subst (λ l. Loses l g g.scopes 0 []) (sym (is_same k m.loser p.0))
      (subst (λ i. (IsPosition g i [] → Loses m.loser g (drop i g.scopes) i [])) zero_is (λ position. h.loses [] position (and_from (literals_hold m.literals []) (sums_hold g m []) (hold m.literals p.1) (none m.sums p0.1))) (record { count = sym (before-zero g); declared = tt; entered = tt }))
    where
      none_placed : (ls : List Literal) → is_nil ls ≡ true → place_of g m.loser ls ≡ 0
      none_placed [] e = refl
      none_placed (l ∷ ls) e = absurd (differ e)

      none : (zs : List SumLiteral) → is_nil zs ≡ true → list_all (λ z. sum_holds g (last_scope g m) z []) zs ≡ true
      none [] e = refl
      none (z ∷ zs) e = absurd (differ e)

      hold : (ls : List Literal) → is_nil ls ≡ true → literals_hold ls [] ≡ true
      hold [] e = refl
      hold (l ∷ ls) e = absurd (differ e)

  last_loses : (k : Kind) (known : Known) (e : Entry) → AreTrue g known → entry_in_place g known e ≡ true → ends_with k e ≡ true → Loses k g g.scopes 0 []
  last_loses k known (shown s) t e f = final_loses k s.lemma f (lemma_true known s t e)
  last_loses k known (forget d) t e f = absurd (differ f)

  list_true : (k : Kind) (known : Known) (entries : List Entry) → AreTrue g known → proves_after g k known entries ≡ true → Loses k g g.scopes 0 []
  list_true k known [] t e = absurd (differ e)
  list_true k known (x ∷ []) t e = let p = and_parts (entry_in_place g known x) (ends_with k x) e in last_loses k known x t p.0 p.1
  list_true k known (x ∷ y ∷ rest) t e =
      let p = and_parts (entry_in_place g known x) (proves_after g k (known_after known x) (y ∷ rest)) e in
      list_true k (known_after known x) (y ∷ rest) (true_after known x t p.0) p.1

  none_known : AreTrue g []
  none_known n l e = absurd (none_some l e)
    where
      none_some : (l : Lemma) → None ≡ Some l → ⊥
      none_some l e = cc

pub lemmas_true : LemmasAreTrue
lemmas_true g known s valid t e = lemma_true g valid known s t e

pub true_won : TrueIsWon
true_won g entries valid e = list_true g valid Forall [] entries (none_known g valid) e

pub false_lost : FalseIsLost
false_lost g entries valid e = list_true g valid Exists [] entries (none_known g valid) e
