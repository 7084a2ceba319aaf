-- A play by a sound tree ends as it has to.
use Rattle.std.proofs.Common.{◌≡◌, ◌⊎◌, inl, inr, ℕ, zero, suc, Bool, true, false, ◌||◌, cond, List, [], ◌∷◌, ◌++◌, length, take, drop, refl, sym, ap, ◌∙◌, subst, Option, Some, None, ℤ}
use Rattle.std.specs.Prelude.{nat_lt, slice_get}
use Rattle.std.specs.Option.{option_map}
use Rattle.std.specs.Ordering.{int_eq}
use Rattle.std.proofs.lemmas.Bool.Decides.{Decides-int_eq}
use Rattle.std.proofs.lemmas.Bool.{and_parts, true≢false}
use Rattle.qc_model.specs.declared.problem.Kind.{Kind}
use Rattle.qc_model.specs.declared.problem.Kind.TheVariants.{Exists, Forall}
use Rattle.qc_model.specs.declared.problem.Condition.{Condition}
use Rattle.qc_model.specs.declared.problem.Scope.{Scope}
use Rattle.qc_model.specs.Content.{Game}
use Rattle.qc_model.specs.Lists.{Among, LiesIn, Distinct, same_values}
use Rattle.qc_model.specs.Domains.{Values, has_value}
use Rattle.qc_model.specs.Game.{IsMove, allows, scope_domains}
use Rattle.qc_model.specs.Plan.{Plan, finish, choose, answer, Entries, no_entries, entry, entry_tuples, EachEntry, Turn, Covers, Chooses}
use Rattle.qc_model.specs.Counter.{opposite, PassScope, CanPassBlock, HasEntry, RepliesTo, CounterWins, AnswersOnce, EachAnswersOnce}
use Rattle.qc_model.specs.Optimal.{ChoosesBest, Optimal}
use Rattle.qc_model.proofs.Moves.{moves_from}
use Rattle.proof_meaning.proofs.LeafWords.{same_true, same_self}
use Rattle.qc_play.specs.Play.{missing_at, not_allowed_at, Play, ends, lies_in, is_move, reply_to, Rest, own_turn, replied, moved, answered, answers_of, turn, play_from, play_of}
use Rattle.qc_play.specs.Ends.{IsSound, MayGoOn, values_after, kind_at, IsHopeless, EndsFor, EndsWell}

-- tests and what they test
some_value : (d : Values) (v : ℤ) → has_value d v ≡ true → Among v d
some_value [] v e = cc
some_value (w ∷ d) v e = by (int_eq v w) refl e (some_value d v)
  where
    by : (b : Bool) → int_eq v w ≡ b → (b || has_value d v) ≡ true → (has_value d v ≡ true → Among v d) → Among v (w ∷ d)
    by true q e f = inl ((Decides-int_eq v w).0 q)
    by false q e f = inr (f e)

pub lies_true : (t : List ℤ) (ds : List Values) → lies_in t ds ≡ true → LiesIn t ds
lies_true [] [] e = tt
lies_true [] (d ∷ ds) e = absurd (true≢false (sym e))
lies_true (v ∷ t) [] e = absurd (true≢false (sym e))
lies_true (v ∷ t) (d ∷ ds) e = let p = and_parts (has_value d v) (lies_in t ds) e in (some_value d v p.0, lies_true t ds p.1)

pub move_true : (g : Game) (i : ℕ) (a t : List ℤ) → is_move g i a t ≡ true → IsMove g i a t
move_true g i a t e = let p = and_parts (lies_in t (scope_domains g i)) (allows g i (a ++ t)) e in record { is_tuple = lies_true t (scope_domains g i) p.0; is_allowed = p.1 }

-- the entry that is found
pub found_entry : (R : List ℤ → Plan → Type 0) (t : List ℤ) (s : Plan) (l : Entries) → EachEntry R l → reply_to t l ≡ Some s → R t s
found_entry R t s no_entries h e = cc
found_entry R t s (entry u r rest) h e = by (same_values u t) refl e (found_entry R t s rest h.1)
  where
    by : (b : Bool) → same_values u t ≡ b → cond b (Some r) (reply_to t rest) ≡ Some s → (reply_to t rest ≡ Some s → R t s) → R t s
    by true q k f = let w : r ≡ s = cc in subst (R t) w (subst (λ z. R z r) (same_true u t q) h.0)
    by false q k f = f k

none_found : (t : List ℤ) (l : Entries) → reply_to t l ≡ None → ¬ Among t (entry_tuples l)
none_found t no_entries e m = m
none_found t (entry u r rest) e m = by (same_values u t) refl e m (none_found t rest)
  where
    by : (b : Bool) → same_values u t ≡ b → cond b (Some r) (reply_to t rest) ≡ None → (t ≡ u) ⊎ Among t (entry_tuples rest) → (reply_to t rest ≡ None → ¬ Among t (entry_tuples rest)) → ⊥
    by true q k m f = cc
    by false q k m f = elim m [ inl w ↦ true≢false (sym (same_self t) ∙ (ap (λ z. same_values z t) w ∙ q)) | inr n ↦ f k n ]

absent : (R : List ℤ → Plan → Type 0) (a t : List ℤ) (l : Entries) → ¬ Among t (entry_tuples l) → ¬ HasEntry R a t l
absent R a t no_entries n h = h
absent R a t (entry v w more) n h = elim h [ inl p ↦ n (inl (sym p.0)) | inr k ↦ absent R a t more (λ m. n (inr m)) k ]

-- of different tuples the entry that is found is the one with R
pub once_found : (R : List ℤ → Plan → Type 0) (a t : List ℤ) (s : Plan) (l : Entries) → Distinct (entry_tuples l) → HasEntry R a t l → reply_to t l ≡ Some s → R (a ++ t) s
once_found R a t s no_entries d h e = absurd h
once_found R a t s (entry u r rest) d h e = by (same_values u t) refl e h (once_found R a t s rest d.1)
  where
    by : (b : Bool) → same_values u t ≡ b → cond b (Some r) (reply_to t rest) ≡ Some s → ((u ≡ t) × R (a ++ t) r) ⊎ HasEntry R a t rest → (HasEntry R a t rest → reply_to t rest ≡ Some s → R (a ++ t) s) → R (a ++ t) s
    by true q k h f =
        let w : r ≡ s = cc in
        elim h [ inl p ↦ subst (R (a ++ t)) w p.1 | inr m ↦ absurd (absent R a t rest (subst (λ z. ¬ Among z (entry_tuples rest)) (same_true u t q) d.0) m) ]
    by false q k h f =
        elim h [ inl p ↦ absurd (true≢false (sym (same_self t) ∙ (ap (λ z. same_values z t) (sym p.0) ∙ q))) | inr m ↦ f m k ]

entry_there : (R : List ℤ → Plan → Type 0) (a t : List ℤ) (l : Entries) → HasEntry R a t l → ¬ (reply_to t l ≡ None)
entry_there R a t no_entries h e = h
entry_there R a t (entry u r rest) h e = by (same_values u t) refl h e (entry_there R a t rest)
  where
    by : (b : Bool) → same_values u t ≡ b → ((u ≡ t) × R (a ++ t) r) ⊎ HasEntry R a t rest → cond b (Some r) (reply_to t rest) ≡ None → (HasEntry R a t rest → reply_to t rest ≡ None → ⊥) → ⊥
    by true q h k f = cc
    by false q h k f = elim h [ inl p ↦ true≢false (sym (same_self t) ∙ (ap (λ z. same_values z t) (sym p.0) ∙ q)) | inr m ↦ f m k ]

pub once_reply : (t : List ℤ) (s : Plan) (l : Entries) → EachAnswersOnce l → reply_to t l ≡ Some s → AnswersOnce s
once_reply t s no_entries h e = cc
once_reply t s (entry u r rest) h e = by (same_values u t) refl e (once_reply t s rest h.1)
  where
    by : (b : Bool) → same_values u t ≡ b → cond b (Some r) (reply_to t rest) ≡ Some s → (reply_to t rest ≡ Some s → AnswersOnce s) → AnswersOnce s
    by true q k f = let w : r ≡ s = cc in subst AnswersOnce w h.0
    by false q k f = f k

first_of : (ss : List Scope) (i : ℕ) (s : Scope) (later : List Scope) → s ∷ later ≡ drop i ss → (slice_get ss i ≡ Some s) × (later ≡ drop (suc i) ss)
first_of [] zero s later e = absurd (none e)
  where
    none : ¬ (s ∷ later ≡ [])
    none e = cc
first_of [] (suc i) s later e = absurd (none e)
  where
    none : ¬ (s ∷ later ≡ [])
    none e = cc
first_of (x ∷ ss) zero s later e = (let h : x ≡ s = cc in ap Some h, let h : later ≡ ss = cc in h)
first_of (x ∷ ss) (suc i) s later e = first_of ss i s later e

-- what is known of an end at the position after a
abbrev pub EndsFrom : Kind → Game → List ℤ → Play → Type 0
EndsFrom own g a p = EndsFor own g (values_after a p.turns) p.ending

abbrev Follows : Kind → Game → List ℤ → Rest → (List ℤ → Plan → Type 0) → Type 0
Follows own g a go O = (t : List ℤ) (r : Plan) (ns : List ℤ) → O (a ++ t) r → EndsFrom own g (a ++ t) (go (a ++ t) r ns)

not_so : (b : Bool) → ¬ (b ≡ true) → b ≡ false
not_so true n = absurd (n refl)
not_so false n = refl

module _ (g : Game) (i : ℕ) (a : List ℤ) (ms : List ℤ) (go : Rest) where
  -- a scope of the player's by an optimal strategy, and one of the opponent's
  own_plan : (c : Option Condition) (O : List ℤ → Plan → Type 0) (s : Plan) → Turn Exists s (ChoosesBest c g i a O) (Covers g i a O) → Follows Exists g a go O → EndsFrom Exists g a (own_turn Exists i a s ms go)
  own_plan c O finish h f = absurd h
  own_plan c O (choose t s) h f = f t s ms h.after
  own_plan c O (answer l) h f = absurd h

  moved_plan : (O : List ℤ → Plan → Type 0) (n : ℕ) (l : Entries) → Covers g i a O l → Follows Exists g a go O → EndsFrom Exists g a (moved g Forall i a n l ms go)
  moved_plan O n l h f = by (nat_lt (length ms) n) (is_move g i a (take n ms)) refl (reply_to (take n ms) l) refl
    where
      by : (b c : Bool) → is_move g i a (take n ms) ≡ c → (o : Option Plan) → reply_to (take n ms) l ≡ o →
          EndsFrom Exists g a (cond b (ends (missing_at i) ms) (cond c (replied Forall i a (take n ms) o (drop n ms) go) (ends (not_allowed_at i) ms)))
      by true c q o e = tt
      by false false q o e = tt
      by false true q None e = none_found (take n ms) l e (subst (Among (take n ms)) (sym h.tuples) (moves_from g i a (take n ms) (move_true g i a (take n ms) q)))
      by false true q (Some r) e = f (take n ms) r (drop n ms) (found_entry (λ t s. O (a ++ t) s) (take n ms) r l h.each e)

  answered_plan : (O : List ℤ → Plan → Type 0) (l : Entries) → kind_at g i ≡ Some Forall → Covers g i a O l → Follows Exists g a go O → EndsFrom Exists g a (answered g Forall i a l ms go)
  answered_plan O no_entries q h f = record { kind = q; none = λ t m. subst (Among t) (sym h.tuples) (moves_from g i a t m) }
  answered_plan O (entry t s rest) q h f = moved_plan O (length (scope_domains g i)) (entry t s rest) h f

  plan_turn : (c : Option Condition) (O : List ℤ → Plan → Type 0) (k : Kind) (s : Plan) → kind_at g i ≡ Some k → Turn k s (ChoosesBest c g i a O) (Covers g i a O) → Follows Exists g a go O → EndsFrom Exists g a (turn g Exists k i a s ms go)
  plan_turn c O Exists s q h f = own_plan c O s h f
  plan_turn c O Forall finish q h f = absurd h
  plan_turn c O Forall (choose t s) q h f = absurd h
  plan_turn c O Forall (answer l) q h f = answered_plan O l q h f

  -- the same by a counterstrategy that wins, where P says who can still pass
  module _ (C : List ℤ → Plan → Type 0) (P : List ℤ → Type 0) (hope : (t : List ℤ) → ¬ P (a ++ t) → IsHopeless g i (a ++ t)) (f : Follows Forall g a go (λ w r. (C w r × AnswersOnce r) ⊎ (¬ P w))) where
    own_counter : (s : Plan) → Turn Exists s (Chooses g i a C) (RepliesTo g i a P C) → AnswersOnce s → EndsFrom Forall g a (own_turn Forall i a s ms go)
    own_counter finish h o = absurd h
    own_counter (choose t s) h o = f t s ms (inl (h.after, o))
    own_counter (answer l) h o = absurd h

    moved_counter : (n : ℕ) (l : Entries) → kind_at g i ≡ Some Exists → ((t : List ℤ) → IsMove g i a t → HasEntry C a t l ⊎ (¬ P (a ++ t))) → Distinct (entry_tuples l) → EachAnswersOnce l → EndsFrom Forall g a (moved g Exists i a n l ms go)
    moved_counter n l k h d o = by (nat_lt (length ms) n) (is_move g i a (take n ms)) refl (reply_to (take n ms) l) refl
      where
        by : (b c : Bool) → is_move g i a (take n ms) ≡ c → (o : Option Plan) → reply_to (take n ms) l ≡ o →
            EndsFrom Forall g a (cond b (ends (missing_at i) ms) (cond c (replied Exists i a (take n ms) o (drop n ms) go) (ends (not_allowed_at i) ms)))
        by true c q r e = tt
        by false false q r e = tt
        by false true q None e = record {
          kind = k;
          hopeless = hope (take n ms) (elim (h (take n ms) (move_true g i a (take n ms) q)) [ inl m ↦ absurd (entry_there C a (take n ms) l m e) | inr w ↦ w ]);
        }
        by false true q (Some r) e = f (take n ms) r (drop n ms) (elim (h (take n ms) (move_true g i a (take n ms) q)) [
          | inl m ↦ inl (once_found C a (take n ms) r l d m e, once_reply (take n ms) r l o e)
          | inr w ↦ inr w
        ])

    answered_counter : (l : Entries) → kind_at g i ≡ Some Exists → ((t : List ℤ) → IsMove g i a t → HasEntry C a t l ⊎ (¬ P (a ++ t))) → Distinct (entry_tuples l) → EachAnswersOnce l → EndsFrom Forall g a (answered g Exists i a l ms go)
    answered_counter no_entries k h d o = record { kind = k; each = λ t m. hope t (elim (h t m) [ inl n ↦ absurd n | inr w ↦ w ]) }
    answered_counter (entry t s rest) k h d o = moved_counter (length (scope_domains g i)) (entry t s rest) k h d o

    counter_turn : (k : Kind) (s : Plan) → kind_at g i ≡ Some k → Turn (opposite k) s (Chooses g i a C) (RepliesTo g i a P C) → AnswersOnce s → EndsFrom Forall g a (turn g Forall k i a s ms go)
    counter_turn Exists finish q h o = absurd h
    counter_turn Exists (choose t s) q h o = absurd h
    counter_turn Exists (answer l) q h o = answered_counter l q h o.0 o.1
    counter_turn Forall s q h o = own_counter s h o

    -- and where nobody can pass any more
    moved_nowhere : (n : ℕ) (l : Entries) → kind_at g i ≡ Some Exists → ¬ PassScope Exists g i a P → EndsFrom Forall g a (moved g Exists i a n l ms go)
    moved_nowhere n l k h = by (nat_lt (length ms) n) (is_move g i a (take n ms)) refl (reply_to (take n ms) l)
      where
        by : (b c : Bool) → is_move g i a (take n ms) ≡ c → (o : Option Plan) →
            EndsFrom Forall g a (cond b (ends (missing_at i) ms) (cond c (replied Exists i a (take n ms) o (drop n ms) go) (ends (not_allowed_at i) ms)))
        by true c q r = tt
        by false false q r = tt
        by false true q None = record { kind = k; hopeless = hope (take n ms) (λ p. h (take n ms, move_true g i a (take n ms) q, p)) }
        by false true q (Some r) = f (take n ms) r (drop n ms) (inr (λ p. h (take n ms, move_true g i a (take n ms) q, p)))

    nowhere_turn : (k : Kind) (s : Plan) → kind_at g i ≡ Some k → ¬ PassScope k g i a P → EndsFrom Forall g a (turn g Forall k i a s ms go)
    nowhere_turn Forall s q h = absurd (h tt)
    nowhere_turn Exists s q h = by (answers_of s)
      where
        by : (l : Entries) → EndsFrom Forall g a (answered g Exists i a l ms go)
        by no_entries = record { kind = q; each = λ t m. hope t (λ p. h (t, m, p)) }
        by (entry t r rest) = moved_nowhere (length (scope_domains g i)) (entry t r rest) q h

kind_here : (g : Game) (i : ℕ) (s : Scope) → slice_get g.scopes i ≡ Some s → kind_at g i ≡ Some s.kind
kind_here g i s e = ap (option_map (λ x. x.kind)) e

pub ends_right : (g : Game) (own : Kind) (later : List Scope) (i : ℕ) (a : List ℤ) (s : Plan) (ms : List ℤ) → later ≡ drop i g.scopes → MayGoOn own g later i a s → EndsFrom own g a (play_from g own later i a s ms)
ends_right g Exists [] i a s ms q h = h.1
ends_right g Forall [] i a s ms q h = not_so (allows g i a) (elim h [ inl w ↦ w.wins.1 | inr n ↦ n ])
ends_right g Exists (scope ∷ later) i a s ms q h =
    let at = first_of g.scopes i scope later q in
    plan_turn g i a ms (play_from g Exists later (suc i)) scope.condition (Optimal g later (suc i)) scope.kind s (kind_here g i scope at.0) h
    (λ t r ns o. ends_right g Exists later (suc i) (a ++ t) r ns at.1 o)
ends_right g Forall (scope ∷ later) i a s ms q h =
    let at = first_of g.scopes i scope later q in
    let hope : (t : List ℤ) → ¬ CanPassBlock g later (suc i) (a ++ t) → IsHopeless g i (a ++ t) = λ t n. subst (λ ls. ¬ CanPassBlock g ls (suc i) (a ++ t)) at.1 n in
    let f : Follows Forall g a (play_from g Forall later (suc i)) (λ w r. (CounterWins g later (suc i) w r × AnswersOnce r) ⊎ (¬ CanPassBlock g later (suc i) w)) =
    λ t r ns o. ends_right g Forall later (suc i) (a ++ t) r ns at.1 (elim o [ inl w ↦ inl (record { wins = w.0; once = w.1 }) | inr n ↦ inr n ]) in
    elim h [
      | inl w ↦ counter_turn g i a ms (play_from g Forall later (suc i)) (CounterWins g later (suc i)) (CanPassBlock g later (suc i)) hope f scope.kind s (kind_here g i scope at.0) w.wins w.once
      | inr n ↦ nowhere_turn g i a ms (play_from g Forall later (suc i)) (CounterWins g later (suc i)) (CanPassBlock g later (suc i)) hope f scope.kind s (kind_here g i scope at.0) n
    ]

-- the whole play
pub ends_well : (g : Game) (own : Kind) (s : Plan) (ms : List ℤ) → IsSound own g g.scopes 0 [] s → EndsWell own g (play_of g own s ms)
ends_well g Exists s ms h = ends_right g Exists g.scopes 0 [] s ms refl h
ends_well g Forall s ms h = ends_right g Forall g.scopes 0 [] s ms refl (inl h)
