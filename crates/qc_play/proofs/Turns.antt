-- One turn, and the play after it.
use Rattle.std.proofs.Common.{◌≡◌, ℕ, suc, ◌<◌, ◌≤◌, Bool, true, false, List, ◌++◌, length, take, drop, refl, sym, ap, ◌∙◌, subst, Some, ℤ}
use Rattle.std.specs.Prelude.{Result, Ok, Err, MatchResult, nat_lt}
use Rattle.std.specs.List.{list_all}
use Rattle.std.proofs.lemmas.Bool.Decides.{nat_tests}
use Rattle.std.proofs.lemmas.List.{at_drop_all}
use Rattle.qc_model.specs.declared.problem.Kind.{Kind}
use Rattle.qc_model.specs.Content.{Game}
use Rattle.qc_model.specs.Game.{scope_domains, allows}
use Rattle.qc_model.specs.Plan.{Plan, choose}
use Rattle.qc_model.specs.Valid.{IsValid, is_number}
use Rattle.qc_play.specs.declared.fault.PlayFault.{PlayFault}
use Rattle.qc_play.specs.declared.fault.PlayFault.TheVariants.{Missing, NotAllowed, Memory}
use Rattle.qc_play.specs.Play.{Play, at_goal, ends, play_from, after_turn, is_move, reply_to, answers_of}
use Rattle.qc_play.specs.PlayText.{turn_line, ending_line, unused_line}
use Rattle.qc_play.specs.Playing.{IsFaultOf, IsToldAfter, IsWant}
use Rattle.qc_play.specs.Sides.{is_same, has_entries}
use Rattle.qc_play.specs.Ends.{MayGoOn, kind_at}
use Rattle.qc_play.proofs.Endings.{move_true}
use Rattle.qc_play.proofs.Going.{own_may, other_may}
use Rattle.qc_play.proofs.Ranges.{move_numbers, numbers_both}
use Rattle.qc_play.proofs.Telling.{play_at, rest_of, own_goes, other_goes, told_end, told_turn, fault_turn}
use Rattle.std.proofs.Common.{arith}

match_turn : {X : Type 0} (res : Result X PlayFault) (i : ℕ) (p rest : Play) (k : Kind) (t : List ℤ) (before between after : List ℕ) → p ≡ after_turn k t rest → between ≡ before ++ turn_line i k t →
    MatchResult res (λ u. IsToldAfter (suc i) rest between after) (IsFaultOf rest) → MatchResult res (λ u. IsToldAfter i p before after) (IsFaultOf p)
match_turn (Ok u) i p rest k t before between after q b h = told_turn i p rest k t before between after q b h
match_turn (Err f) i p rest k t before between after q b h = fault_turn p rest k t f q h

abbrev pub Goes : {X : Type 0} → Result X PlayFault → Game → Kind → ℕ → List ℤ → Plan → List ℤ → List ℕ → List ℕ → Type 0
Goes res g own i a s ms before after = MatchResult res (λ u. IsToldAfter i (play_at g own i a s ms) before after) (IsFaultOf (play_at g own i a s ms))

-- at the goal the play ends
ends_there : {X : Type 0} (res : Result X PlayFault) (i : ℕ) (p : Play) (b : Bool) (ms : List ℤ)
    (before after : List ℕ) → p ≡ ends (at_goal b) ms →
    MatchResult res (λ u. after ≡ before ++ (ending_line (at_goal b) ++ unused_line (length ms))) IsWant →
    MatchResult res (λ u. IsToldAfter i p before after) (IsFaultOf p)
ends_there (Ok u) i p b ms before after q h = told_end i p (at_goal b) ms before after q refl h
ends_there (Err (Missing j)) i p b ms before after q h = absurd h
ends_there (Err (NotAllowed j)) i p b ms before after q h = absurd h
ends_there (Err (Memory e)) i p b ms before after q h = tt

pub goal_told : {X : Type 0} (res : Result X PlayFault) (g : Game) (own : Kind) (i : ℕ) (a : List ℤ) (s : Plan)
    (ms : List ℤ) (before after : List ℕ) → i ≡ length g.scopes →
    MatchResult res (λ u. after ≡ before
    ++ (ending_line (at_goal (allows g (length g.scopes) a)) ++ unused_line (length ms))) IsWant →
    Goes res g own i a s ms before after
goal_told res g own i a s ms before after e h =
    ends_there res i (play_at g own i a s ms) (allows g (length g.scopes) a) ms before after
    (at_drop_all (λ ss. play_from g own ss i a s ms) g.scopes i (omega (arith, e))
    ∙ ap (λ j. ends (at_goal (allows g j a)) ms) e) h

-- the position after a turn, as the code names it
abbrev pub Stands : Game → Kind → ℕ → List ℤ → Plan → Type 0
Stands g own i a s = (list_all is_number a ≡ true) × MayGoOn own g (drop i g.scopes) i a s

here_again : {X : Type 0} (res : Result X PlayFault) (g : Game) (own own' : Kind) (i n : ℕ) (a a' : List ℤ) (s : Plan) (ms : List ℤ) (before after : List ℕ) → n ≡ i → own' ≡ own → a' ≡ a → Goes res g own' n a' s ms before after → Goes res g own i a s ms before after
here_again res g own own' i n a a' s ms before after e f q h =
    subst (λ j. Goes res g own j a s ms before after) e (subst (λ o. Goes res g o n a s ms before after) f (subst (λ z. Goes res g own' n z s ms before after) q h))

stands_again : (g : Game) (own own' : Kind) (i n : ℕ) (a a' : List ℤ) (s : Plan) → n ≡ i → own' ≡ own → a' ≡ a → Stands g own i a s → Stands g own' n a' s
stands_again g own own' i n a a' s e f q h =
    subst (λ j. Stands g own' j a' s) (sym e) (subst (λ o. Stands g o i a' s) (sym f) (subst (λ z. Stands g own i z s) (sym q) h))

module _ (g : Game) (own own' k : Kind) (i n : ℕ) (a a' : List ℤ) (s r : Plan) (ms : List ℤ) (next : n ≡ suc i) (same : own' ≡ own) (e : kind_at g i ≡ Some k) where
  -- the tree chose t
  module _ (t : List ℤ) (q : is_same own k ≡ true) (c : s ≡ choose t r) (taken : a' ≡ a ++ t) where
    pub own_stands : IsValid g → list_all is_number a ≡ true → MayGoOn own g (drop i g.scopes) i a s → Stands g own' n a' r
    own_stands valid numbers h =
        let m = own_may g i a t r own k s e q c h in
        stands_again g own own' (suc i) n (a ++ t) a' r next same taken (numbers_both a t numbers (move_numbers g i a t valid m.0), m.1)

    pub own_told : {X : Type 0} (res : Result X PlayFault) (before between after : List ℕ) → between ≡ before ++ turn_line i k t → Goes res g own' n a' r ms between after → Goes res g own i a s ms before after
    own_told res before between after b h =
        match_turn res i (play_at g own i a s ms) (rest_of g own i (a ++ t) r ms) k t before between after (own_goes g own i a s ms k t r e q c) b
        (here_again res g own own' (suc i) n (a ++ t) a' r ms between after next same taken h)

  -- the first of the moves are an allowed tuple
  module _ (w : ℕ) (wide : w ≡ length (scope_domains g i)) (enough : nat_lt (length ms) w ≡ false) (q : is_same own k ≡ false) (some : has_entries (answers_of s) ≡ true) (m : is_move g i a (take w ms) ≡ true) (taken : a' ≡ a ++ take w ms)
      (found : reply_to (take w ms) (answers_of s) ≡ Some r) where
    pub other_stands : IsValid g → list_all is_number a ≡ true → MayGoOn own g (drop i g.scopes) i a s → Stands g own' n a' r
    other_stands valid numbers h =
        let move = move_true g i a (take w ms) m in
        stands_again g own own' (suc i) n (a ++ take w ms) a' r next same taken
        (numbers_both a (take w ms) numbers (move_numbers g i a (take w ms) valid move), other_may g i a (take w ms) r own k s e q found move h)

    pub other_told : {X : Type 0} (res : Result X PlayFault) (before between after : List ℕ) → between ≡ before ++ turn_line i k (take w ms) → Goes res g own' n a' r (drop w ms) between after → Goes res g own i a s ms before after
    other_told res before between after b h =
        match_turn res i (play_at g own i a s ms) (rest_of g own i (a ++ take w ms) r (drop w ms)) k (take w ms) before between after (other_goes g own i a s ms w wide enough k e q some r m found) b
        (here_again res g own own' (suc i) n (a ++ take w ms) a' r (drop w ms) between after next same taken h)

-- whether so many moves are left
pub are_left : (n w : ℕ) → w ≤ n → nat_lt n w ≡ false
are_left n w h = grind (arith, nat_tests)

pub are_missing : (n w : ℕ) → n < w → nat_lt n w ≡ true
are_missing n w h = grind (arith, nat_tests)
