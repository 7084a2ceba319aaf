-- How a play goes, step by step, and what is told of it.
use Rattle.std.proofs.Common.{◌≡◌, ℕ, zero, suc, Bool, true, false, cond, List, [], ◌∷◌, ◌++◌, length, take, drop, refl, sym, ap, ◌∙◌, subst, Option, Some, None, ℤ, append_assoc}
use Rattle.std.specs.Prelude.{nat_lt, slice_get}
use Rattle.std.specs.Option.{option_map}
use Rattle.qc_model.specs.declared.problem.Kind.{Kind}
use Rattle.qc_model.specs.declared.problem.Kind.TheVariants.{Exists, Forall}
use Rattle.qc_model.specs.declared.problem.Scope.{Scope}
use Rattle.qc_model.specs.Content.{Game}
use Rattle.qc_model.specs.Game.{scope_domains}
use Rattle.qc_model.specs.Plan.{Plan, finish, choose, answer, Entries, no_entries, entry}
use Rattle.qc_model.specs.Counter.{opposite}
use Rattle.qc_play.specs.declared.fault.PlayFault.{PlayFault}
use Rattle.qc_play.specs.declared.fault.PlayFault.TheVariants.{Missing, NotAllowed, Memory}
use Rattle.qc_play.specs.Play.{Ending, stuck_at, hopeless_at, missing_at, not_allowed_at, Play, ends, after_turn, is_move, reply_to, Rest, own_turn, replied, moved, answered, answers_of, turn, play_from}
use Rattle.qc_play.specs.PlayText.{turn_line, ending_line, unused_line, text_from}
use Rattle.qc_play.specs.Playing.{is_played, IsFaultOf, IsToldAfter}
use Rattle.qc_play.specs.Sides.{HasNoChoice, has_entries, is_same}
use Rattle.qc_play.specs.Ends.{kind_at}

-- the scopes from i on
pub drop_here : (ss : List Scope) (i : ℕ) (s : Scope) → slice_get ss i ≡ Some s → drop i ss ≡ s ∷ drop (suc i) ss
drop_here [] zero s e = cc
drop_here [] (suc i) s e = cc
drop_here (x ∷ ss) zero s e = let h : x ≡ s = cc in ap (λ y. y ∷ ss) h
drop_here (x ∷ ss) (suc i) s e = drop_here ss i s e

pub kind_there : (o : Option Scope) (k : Kind) → option_map (λ s. s.kind) o ≡ Some k → (s : Scope) × (o ≡ Some s) × (s.kind ≡ k)
kind_there None k e = cc
kind_there (Some s) k e = (s, refl, let h : s.kind ≡ k = cc in h)

pub same_kind : (k o : Kind) → is_same k o ≡ true → o ≡ k
same_kind Exists Exists e = refl
same_kind Exists Forall e = cc
same_kind Forall Exists e = cc
same_kind Forall Forall e = refl

pub other_kind : (k o : Kind) → is_same k o ≡ false → o ≡ opposite k
other_kind Exists Exists e = cc
other_kind Exists Forall e = refl
other_kind Forall Exists e = refl
other_kind Forall Forall e = cc

-- how the play goes on from scope i
abbrev pub rest_of : Game → Kind → ℕ → Rest
rest_of g own i = play_from g own (drop (suc i) g.scopes) (suc i)

abbrev pub play_at : Game → Kind → ℕ → List ℤ → Plan → List ℤ → Play
play_at g own i a s ms = play_from g own (drop i g.scopes) i a s ms

module _ (g : Game) (own : Kind) (i : ℕ) (a : List ℤ) (s : Plan) (ms : List ℤ) where
  at_scope : (k : Kind) → kind_at g i ≡ Some k → play_at g own i a s ms ≡ turn g own k i a s ms (rest_of g own i)
  at_scope k e =
      let r = kind_there (slice_get g.scopes i) k e in
      ap (λ ss. play_from g own ss i a s ms) (drop_here g.scopes i r.0 r.1) ∙ ap (λ j. turn g own j i a s ms (rest_of g own i)) r.2

  own_is : (k : Kind) (go : Rest) → turn g k k i a s ms go ≡ own_turn k i a s ms go
  own_is Exists go = refl
  own_is Forall go = refl

  other_is : (k : Kind) (go : Rest) → turn g k (opposite k) i a s ms go ≡ answered g (opposite k) i a (answers_of s) ms go
  other_is Exists go = refl
  other_is Forall go = refl

  own_scope : (k : Kind) → kind_at g i ≡ Some k → is_same own k ≡ true → play_at g own i a s ms ≡ own_turn k i a s ms (rest_of g own i)
  own_scope k e q =
      let h = same_kind own k q in
      at_scope k e ∙ (ap (λ j. turn g j k i a s ms (rest_of g own i)) (sym h) ∙ own_is k (rest_of g own i))

  other_scope : (k : Kind) → kind_at g i ≡ Some k → is_same own k ≡ false → play_at g own i a s ms ≡ answered g k i a (answers_of s) ms (rest_of g own i)
  other_scope k e q =
      let h = other_kind own k q in
      at_scope k e ∙ (ap (λ j. turn g own j i a s ms (rest_of g own i)) h ∙ (other_is own (rest_of g own i) ∙ ap (λ j. answered g j i a (answers_of s) ms (rest_of g own i)) (sym h)))

  no_choice : (k : Kind) (r : Plan) (go : Rest) → HasNoChoice r → own_turn k i a r ms go ≡ ends (stuck_at i) ms
  no_choice k finish go h = refl
  no_choice k (choose t r) go h = absurd h
  no_choice k (answer l) go h = refl

  pub own_stuck : (k : Kind) → kind_at g i ≡ Some k → is_same own k ≡ true → HasNoChoice s → play_at g own i a s ms ≡ ends (stuck_at i) ms
  own_stuck k e q h = own_scope k e q ∙ no_choice k s (rest_of g own i) h

  pub own_goes : (k : Kind) (t : List ℤ) (r : Plan) → kind_at g i ≡ Some k → is_same own k ≡ true → s ≡ choose t r → play_at g own i a s ms ≡ after_turn k t (rest_of g own i (a ++ t) r ms)
  own_goes k t r e q h = own_scope k e q ∙ ap (λ z. own_turn k i a z ms (rest_of g own i)) h

  no_answers : (k : Kind) (l : Entries) (go : Rest) → has_entries l ≡ false → answered g k i a l ms go ≡ ends (stuck_at i) ms
  no_answers k no_entries go h = refl
  no_answers k (entry t r l) go h = cc

  some_answers : (k : Kind) (l : Entries) (go : Rest) → has_entries l ≡ true → answered g k i a l ms go ≡ moved g k i a (length (scope_domains g i)) l ms go
  some_answers k no_entries go h = cc
  some_answers k (entry t r l) go h = refl

  pub other_stuck : (k : Kind) → kind_at g i ≡ Some k → is_same own k ≡ false → has_entries (answers_of s) ≡ false → play_at g own i a s ms ≡ ends (stuck_at i) ms
  other_stuck k e q h = other_scope k e q ∙ no_answers k (answers_of s) (rest_of g own i) h

  other_moves : (k : Kind) → kind_at g i ≡ Some k → is_same own k ≡ false → has_entries (answers_of s) ≡ true → play_at g own i a s ms ≡ moved g k i a (length (scope_domains g i)) (answers_of s) ms (rest_of g own i)
  other_moves k e q h = other_scope k e q ∙ some_answers k (answers_of s) (rest_of g own i) h

  pub other_missing : (k : Kind) → kind_at g i ≡ Some k → is_same own k ≡ false → has_entries (answers_of s) ≡ true → nat_lt (length ms) (length (scope_domains g i)) ≡ true → play_at g own i a s ms ≡ ends (missing_at i) ms
  other_missing k e q h m = other_moves k e q h ∙
      ap (λ b. cond b (ends (missing_at i) ms) (cond (is_move g i a (take (length (scope_domains g i)) ms)) (replied k i a (take (length (scope_domains g i)) ms) (reply_to (take (length (scope_domains g i)) ms) (answers_of s)) (drop (length (scope_domains g i)) ms) (rest_of g own i)) (ends (not_allowed_at i) ms))) m

  -- enough moves are left
  module _ (n : ℕ) (wide : n ≡ length (scope_domains g i)) (enough : nat_lt (length ms) n ≡ false) (k : Kind) (e : kind_at g i ≡ Some k) (q : is_same own k ≡ false) (h : has_entries (answers_of s) ≡ true) where
    other_tuple : (b : Bool) → is_move g i a (take n ms) ≡ b → play_at g own i a s ms ≡ cond b (replied k i a (take n ms) (reply_to (take n ms) (answers_of s)) (drop n ms) (rest_of g own i)) (ends (not_allowed_at i) ms)
    other_tuple b m = other_moves k e q h ∙
        (ap (λ w. moved g k i a w (answers_of s) ms (rest_of g own i)) (sym wide) ∙
        (ap (λ c. cond c (ends (missing_at i) ms) (cond (is_move g i a (take n ms)) (replied k i a (take n ms) (reply_to (take n ms) (answers_of s)) (drop n ms) (rest_of g own i)) (ends (not_allowed_at i) ms))) enough
        ∙ ap (λ c. cond c (replied k i a (take n ms) (reply_to (take n ms) (answers_of s)) (drop n ms) (rest_of g own i)) (ends (not_allowed_at i) ms)) m))

    pub other_wrong : is_move g i a (take n ms) ≡ false → play_at g own i a s ms ≡ ends (not_allowed_at i) ms
    other_wrong m = other_tuple false m

    pub other_hopeless : is_move g i a (take n ms) ≡ true → reply_to (take n ms) (answers_of s) ≡ None → play_at g own i a s ms ≡ after_turn k (take n ms) (ends (hopeless_at i) (drop n ms))
    other_hopeless m r = other_tuple true m ∙ ap (λ o. replied k i a (take n ms) o (drop n ms) (rest_of g own i)) r

    pub other_goes : (r : Plan) → is_move g i a (take n ms) ≡ true → reply_to (take n ms) (answers_of s) ≡ Some r → play_at g own i a s ms ≡ after_turn k (take n ms) (rest_of g own i (a ++ take n ms) r (drop n ms))
    other_goes r m w = other_tuple true m ∙ ap (λ o. replied k i a (take n ms) o (drop n ms) (rest_of g own i)) w

-- what is told
pub told_end : (i : ℕ) (p : Play) (e : Ending) (ms : List ℤ) (before after : List ℕ) → p ≡ ends e ms → is_played e ≡ true → after ≡ before ++ (ending_line e ++ unused_line (length ms)) → IsToldAfter i p before after
told_end i p e ms before after q h t = subst (λ z. IsToldAfter i z before after) (sym q) (record { played = h; text_is = t })

pub told_turn : (i : ℕ) (p rest : Play) (k : Kind) (t : List ℤ) (before between after : List ℕ) → p ≡ after_turn k t rest → between ≡ before ++ turn_line i k t → IsToldAfter (suc i) rest between after → IsToldAfter i p before after
told_turn i p rest k t before between after q b h = subst (λ z. IsToldAfter i z before after) (sym q) (record {
  played = h.played;
  text_is = h.text_is ∙ (ap (λ z. z ++ text_from (suc i) rest.turns rest.ending rest.left) b ∙ append_assoc before (turn_line i k t) (text_from (suc i) rest.turns rest.ending rest.left));
})

pub told_hopeless : (i : ℕ) (p : Play) (k : Kind) (t ms : List ℤ) (before between after : List ℕ) → p ≡ after_turn k t (ends (hopeless_at i) ms) → between ≡ before ++ turn_line i k t → after ≡ between ++ (ending_line (hopeless_at i) ++ unused_line (length ms)) → IsToldAfter i p before after
told_hopeless i p k t ms before between after q b w = told_turn i p (ends (hopeless_at i) ms) k t before between after q b (record { played = refl; text_is = w })

pub fault_turn : (p rest : Play) (k : Kind) (t : List ℤ) (f : PlayFault) → p ≡ after_turn k t rest → IsFaultOf rest f → IsFaultOf p f
fault_turn p rest k t (Missing i) q h = ap (λ z. z.ending) q ∙ h
fault_turn p rest k t (NotAllowed i) q h = ap (λ z. z.ending) q ∙ h
fault_turn p rest k t (Memory e) q h = tt
