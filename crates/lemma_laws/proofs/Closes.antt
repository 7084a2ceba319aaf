-- Steps that come to their end leave the loser no play: the winner has a reply that it can't escape.
use Rattle.std.proofs.Common.{◌≡◌, inl, inr, ℕ, suc, ◌≤◌, slice_get, Bool, true, false, not, ◌&&◌, List, [], ◌∷◌, length, set, get_or, filter, refl, sym, ap, ◌∙◌, subst, arith, cond}
use Rattle.std.specs.Prelude.{ℤ, pos, max, ◌==◌}
use Rattle.std.proofs.lemmas.Bool.Decides.{nat_tests}
use Rattle.std.proofs.lemmas.Bool.{and_parts, and_from}
use Rattle.qc_model.specs.Content.{Game}
use Rattle.qc_model.specs.Lists.{Among, LiesIn}
use Rattle.qc_model.specs.Domains.{Box, values_left, values_within, is_none_left, has_value, has_empty, is_within, box_at, box_within, box_without}
use Rattle.qc_model.specs.Counter.{opposite}
use Rattle.qc_model.specs.Valid.{IsValid}
use Rattle.lemma_list.specs.declared.lemma.Reason.{Reason}
use Rattle.lemma_list.specs.declared.lemma.Step.{Step}
use Rattle.lemma_list.specs.declared.lemma.Step.TheVariants.{Cut, Choose}
use Rattle.lemma_list.specs.declared.lemma.Ending.{Ending}
use Rattle.lemma_list.specs.declared.lemma.Ending.TheVariants.{Emptied, Lost, Goal}
use Rattle.lemma_list.specs.Lemmas.{Lemma}
use Rattle.lemma_list.specs.Places.{of_its_scope, is_chosen_from, place, is_winners, is_answer}
use Rattle.lemma_list.specs.Reasons.{Known, goes_on, reason_place, reason_shows, shows, goal_shows}
use Rattle.lemma_list.specs.InPlace.{no_answer, may_step, ends, closes}
use Rattle.lemma_list.specs.Claims.{IsPosition}
use Rattle.lemma_boxes.specs.Claims.{Fitting}
use Rattle.lemma_boxes.proofs.Lists.{differ, not_true, lies_empty, lies_filter, lies_less, lies_some, lies_set, left_filter, left_some, left_other, left_same, left_only, value_among, get_front}
use Rattle.lemma_boxes.proofs.Scopes.{answer_after}
use Rattle.lemma_boxes.proofs.Answers.{Pick, reason_pick, picks_in, AllPicked}
use Rattle.lemma_laws.specs.Claims.{AreTrue}
use Rattle.lemma_laws.proofs.Plays.{Reply, Answered, Unblocked}
use Rattle.lemma_laws.proofs.Shows.{Course, passed_most, passes_on, shows_none, goal_none}

-- the reply stays within the box
abbrev pub RepliesIn : Game → Lemma → Box → Reply → Type 0
RepliesIn g m box reply = (b : List ℤ) (x : ℕ) → is_winners g m x ≡ true → Among (reply b x) (values_left box x)

-- the play answers as the reply names
abbrev pub Answers : Game → Lemma → Reply → List ℤ → Type 0
Answers g m reply w = (x : ℕ) → is_winners g m x ≡ true → Answered g reply w x

-- a reply within the box against which no play within the box is held
pub record Refutation (g : Game) (m : Lemma) (a : List ℤ) (box : Box) : Type 0 where
  pub reply : Reply
  pub within : RepliesIn g m box reply
  pub none : (w : List ℤ) → Course g m a w → Answers g m reply w → LiesIn w box → ⊥

-- each play within the box passes the other side's scopes up to a number
abbrev pub Passed : Game → Lemma → ℕ → Box → Type 0
Passed g m passed box = (w : List ℤ) → Fitting g m box w → Unblocked g m.loser (place g m) passed w

equal_of : (x y : ℕ) → (x == y) ≡ true → x ≡ y
equal_of x y e = grind (arith, nat_tests)

apart_of : (x y : ℕ) → (x == y) ≡ false → y ≡ x → ⊥
apart_of x y e q = grind (arith, nat_tests)

not_same : (p : ℕ → Bool) (x y : ℕ) → p x ≡ false → p y ≡ true → x ≡ y → ⊥
not_same p x y e f q = differ (sym e ∙ (ap p q ∙ f))

none_and : (b : Bool) → (b && false) ≡ false
none_and true = refl
none_and false = refl

-- the reply with the value v for x
choosing : Reply → ℕ → ℤ → Reply
choosing reply x v b y = cond (y == x) v (reply b y)

module _ (g : Game) (valid : IsValid g) (known : Known) (true_of : AreTrue g known) (m : Lemma) (a : List ℤ) (position : IsPosition g (place g m) a) where
  fitting : (w : List ℤ) (box : Box) → Course g m a w → LiesIn w box → Fitting g m box w
  fitting w box c i = record { declared = c.full; inside = i; sums = c.sums }

  is_winner : (x y : ℕ) → is_answer g m x y ≡ true → is_winners g m y ≡ true
  is_winner x y e = (and_parts (is_winners g m y) (of_its_scope (λ i. is_chosen_from (opposite m.loser) g (suc i) y) (slice_get g.variables x)) e).0

  ends_none : (passed : ℕ) (box : Box) (end : Ending) → passed ≤ length g.scopes → Passed g m passed box → ends g known m end passed box ≡ true → (w : List ℤ) → Course g m a w → LiesIn w box → ⊥
  unfolding fitting
  ends_none passed box Emptied most on e w c i = lies_empty w box i e
  ends_none passed box (Lost r) most on e w c i =
      shows_none g valid m a position w c passed most (on w (fitting w box c i)) known true_of no_answer box box i i r (λ y q. absurd (differ q)) (and_parts (not (has_empty box)) (shows g known m no_answer passed box box r) e).1
  ends_none passed box Goal most on e w c i = goal_none g valid m a position w c passed most (on w (fitting w box c i)) box i (and_parts (not (has_empty box)) (goal_shows g m passed box) e).1

  -- the reply that answers values of x from low to high as the pick says
  answering : Pick → ℕ → ℤ → ℤ → Reply → Reply
  answering pick x low high reply b y = cond (is_within low high (get_or b x (pos 0)) && is_answer g m x y) (pick y (reply b y)) (reply b y)

  module _ (x : ℕ) (low high : ℤ) (r : Reason) (passed : ℕ) (box : Box) (most : passed ≤ length g.scopes) (on : Passed g m passed box) (own : is_winners g m x ≡ false) (e : shows g known m (is_answer g m x) passed box (box_within box x low high) r ≡ true) (s : Refutation g m a (box_without box x low high)) where
    pick : Pick
    pick = reason_pick g known r (box_within box x low high)

    stays : (b : List ℤ) (y : ℕ) → is_winners g m y ≡ true → Among (s.reply b y) (values_left (box_within box x low high) y)
    stays b y l =
        left_other box x y (filter (is_within low high) (get_or box x [])) (s.reply b y) (not_same (is_winners g m) x y own l)
        (left_filter (λ v. not (is_within low high v)) box x y (s.reply b y) (s.within b y l))

    in_box : (b : List ℤ) (y : ℕ) → is_winners g m y ≡ true → (c : Bool) → Among (cond c (pick y (s.reply b y)) (s.reply b y)) (values_left box y)
    unfolding pick
    in_box b y l true = left_filter (is_within low high) box x y (pick y (s.reply b y)) (picks_in g known r (box_within box x low high) y (s.reply b y) (stays b y l))
    in_box b y l false = left_filter (λ v. not (is_within low high v)) box x y (s.reply b y) (s.within b y l)

    -- the position before an answer's scope has the value of x
    seen : (w : List ℤ) (y : ℕ) → is_answer g m x y ≡ true → (q : Answered g (answering pick x low high s.reply) w y) → get_or w x (pos 0) ≡ get_or q.front x (pos 0)
    seen w y k q =
        let up = answer_after g valid m x y q.scope k q.of_scope in
        ap (λ z. get_or z x (pos 0)) q.goes_on ∙ get_front q.front q.rest x (omega (arith, q.count))

    picked : (w : List ℤ) → Answers g m (answering pick x low high s.reply) w → is_within low high (get_or w x (pos 0)) ≡ true → AllPicked (is_answer g m x) pick (box_within box x low high) w
    unfolding answering
    picked w n q y k =
        let l = is_winner x y k in
        let h = n y l in
        record {
          meant = s.reply h.front y;
          left = stays h.front y l;
          same = h.same
              ∙ ap (λ c. cond c (pick y (s.reply h.front y)) (s.reply h.front y)) (and_from (is_within low high (get_or h.front x (pos 0))) (is_answer g m x y) (ap (is_within low high) (sym (seen w y k h)) ∙ q) k);
        }

    plain : (w : List ℤ) → Answers g m (answering pick x low high s.reply) w → is_within low high (get_or w x (pos 0)) ≡ false → Answers g m s.reply w
    unfolding answering
    plain w n q y l = to (n y l) (is_answer g m x y) refl
      where
        to : (h : Answered g (answering pick x low high s.reply) w y) → (c : Bool) → is_answer g m x y ≡ c → Answered g s.reply w y
        to h c k = record {
          scope = h.scope;
          front = h.front;
          rest = h.rest;
          of_scope = h.of_scope;
          count = h.count;
          goes_on = h.goes_on;
          same = h.same ∙ ap (λ b. cond b (pick y (s.reply h.front y)) (s.reply h.front y)) (off c k);
        }
          where
            off : (c : Bool) → is_answer g m x y ≡ c → (is_within low high (get_or h.front x (pos 0)) && is_answer g m x y) ≡ false
            off true k = ap (λ b. b && is_answer g m x y) (ap (is_within low high) (sym (seen w y k h)) ∙ q)
            off false k = ap (λ b. is_within low high (get_or h.front x (pos 0)) && b) k ∙ none_and (is_within low high (get_or h.front x (pos 0)))

    none_there : (w : List ℤ) → Course g m a w → Answers g m (answering pick x low high s.reply) w → LiesIn w box → (b : Bool) → is_within low high (get_or w x (pos 0)) ≡ b → ⊥
    unfolding fitting pick
    none_there w c n i true q =
        shows_none g valid m a position w c passed most (on w (fitting w box c i)) known true_of (is_answer g m x) box (box_within box x low high) i (lies_filter (is_within low high) box x w i q) r (picked w n q) e
    none_there w c n i false q = s.none w c (plain w n q) (lies_filter (λ v. not (is_within low high v)) box x w i (ap not q))

    after_cut : Refutation g m a box
    unfolding answering pick
    after_cut = record {
      reply = answering pick x low high s.reply;
      within = λ b y l. in_box b y l (is_within low high (get_or b x (pos 0)) && is_answer g m x y);
      none = λ w c n i. none_there w c n i (is_within low high (get_or w x (pos 0))) refl;
    }

  after_choice : (x : ℕ) (v : ℤ) (box : Box) → is_winners g m x ≡ true → Among v (values_left box x) → Refutation g m a (box_at box x v) → Refutation g m a box
  after_choice x v box l h s = record {
    reply = s.reply;
    within = λ b y k. left_some box x y (v ∷ []) (s.reply b y) alone (s.within b y k);
    none = λ w c n i. s.none w c n (lies_set box x (v ∷ []) w i (inl (chosen w (n x l))));
  }
    where
      alone : (z : ℤ) → Among z (v ∷ []) → Among z (get_or box x [])
      alone z k = elim k [ inl e ↦ subst (λ u. Among u (get_or box x [])) (sym e) h | inr t ↦ absurd t ]

      chosen : (w : List ℤ) → Answered g s.reply w x → get_or w x (pos 0) ≡ v
      chosen w q = q.same ∙ left_only box x (s.reply q.front x) v h (s.within q.front x l)

  choosing_in : (reply : Reply) (x : ℕ) (v : ℤ) (box : Box) → Among v (values_left box x) → RepliesIn g m box reply → RepliesIn g m (box_at box x v) (choosing reply x v)
  unfolding choosing
  choosing_in reply x v box h f b y l = by (y == x) refl
    where
      by : (c : Bool) → (y == x) ≡ c → Among (cond c v (reply b y)) (get_or (set box x (v ∷ [])) y [])
      by true q = subst (λ z. Among v (get_or (set box x (v ∷ [])) z [])) (sym (equal_of y x q)) (left_same box x v h)
      by false q = left_other box x y (v ∷ []) (reply b y) (apart_of y x q) (f b y l)

  cut_in : (x : ℕ) (low high : ℤ) (box : Box) (reply : Reply) → is_winners g m x ≡ false → RepliesIn g m box reply → RepliesIn g m (box_without box x low high) reply
  cut_in x low high box reply e f b y l =
      left_other box x y (filter (λ v. not (is_within low high v)) (get_or box x [])) (reply b y) (not_same (is_winners g m) x y e l) (f b y l)

  smaller : (w : List ℤ) (box inner : Box) → (LiesIn w inner → LiesIn w box) → Fitting g m inner w → Fitting g m box w
  smaller w box inner f h = record { declared = h.declared; inside = f h.inside; sums = h.sums }

  pub refuted : (end : Ending) (steps : List Step) (passed : ℕ) (box : Box) (reply : Reply) → passed ≤ length g.scopes → Passed g m passed box → RepliesIn g m box reply → closes g known m end steps passed box ≡ true → Refutation g m a box
  refuted end [] passed box reply most on f e = record { reply = reply; within = f; none = λ w c n i. ends_none passed box end most on e w c i }
  refuted end (Cut x low high by ∷ steps) passed box reply most on f e =
      let p = and_parts (not (has_empty box) && may_step g known m (Cut x low high by) passed box) (closes g known m end steps (max passed (reason_place g known by)) (box_without box x.0 low high)) e in
      let p1 = and_parts (not (has_empty box)) (may_step g known m (Cut x low high by) passed box) p.0 in
      let p2 = and_parts (not (is_winners g m x.0) && not (is_none_left (values_within low high (values_left box x.0)))) (shows g known m (is_answer g m x.0) passed box (box_within box x.0 low high) by) p1.1 in
      let own = not_true (is_winners g m x.0) (and_parts (not (is_winners g m x.0)) (not (is_none_left (values_within low high (values_left box x.0)))) p2.0).0 in
      let reached : goes_on g m passed (reason_place g known by) box ≡ true = (and_parts (goes_on g m passed (reason_place g known by) box) (reason_shows g known m (is_answer g m x.0) (box_within box x.0 low high) by) p2.1).0 in
      after_cut x.0 low high by passed box most on own p2.1
      (refuted end steps (max passed (reason_place g known by)) (box_without box x.0 low high) reply (passed_most g valid known by passed most)
      (λ w h. (let outer = smaller w box (box_without box x.0 low high) (lies_less (λ v. not (is_within low high v)) box x.0 w) h in passes_on g valid m passed (reason_place g known by) w box reached outer (on w outer)))
      (cut_in x.0 low high box reply own f) p.1)
  refuted end (Choose x v ∷ steps) passed box reply most on f e =
      let p = and_parts (not (has_empty box) && may_step g known m (Choose x v) passed box) (closes g known m end steps passed (box_at box x.0 v)) e in
      let p1 = and_parts (not (has_empty box)) (may_step g known m (Choose x v) passed box) p.0 in
      let p2 = and_parts (is_winners g m x.0) (has_value (values_left box x.0) v) p1.1 in
      let h : Among v (values_left box x.0) = value_among (values_left box x.0) v p2.1 in
      after_choice x.0 v box p2.0 h
      (refuted end steps passed (box_at box x.0 v) (choosing reply x.0 v) most
      (λ w k. on w (smaller w box (box_at box x.0 v) (lies_some box x.0 (v ∷ []) w (λ z i. elim i [ inl q ↦ subst (λ u. Among u (get_or box x.0 [])) (sym q) h | inr t ↦ absurd t ])) k)) (choosing_in reply x.0 v box h f) p.1)
