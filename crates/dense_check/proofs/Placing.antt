-- What is asked where a node is due.
use Rattle.std.proofs.Common.{◌≡◌, ◌∙◌, refl, sym, ap, subst, ℕ, zero, suc, ◌+◌, ◌-◌, ◌≤◌, Bool, true, false, ◌&&◌, not, Option, Some, None, List, [], ◌∷◌, length, drop, arith}
use Rattle.std.specs.Prelude.{MatchBool, nat_le, is_none, slice_get, slice_index_or}
use Rattle.std.specs.Option.{option_map}
use Rattle.std.proofs.lemmas.Bool.Decides.{nat_tests}
use Rattle.std.proofs.lemmas.List.{length-drop}
use Rattle.qc_model.specs.declared.problem.ScopeId.{ScopeId}
use Rattle.qc_model.specs.declared.problem.Kind.{Kind}
use Rattle.qc_model.specs.declared.problem.Scope.{Scope}
use Rattle.qc_model.specs.Block.{of_kind}
use Rattle.model_levels.specs.Spans.{kind_at}
use Rattle.model_levels.specs.declared.level.Level.{Level}
use Rattle.dense_tree.specs.Place.{Place, is_players}
use Rattle.qc_model.specs.Content.{Game}
use Rattle.qc_model.specs.Domains.{Box, has_empty}
use Rattle.fd_store.specs.Held.{Held, trail_len, past_box, Follows, IsUndone}
use Rattle.proof_tree.specs.Place.{is_goal}
use Rattle.proof_tree.specs.InPlace.{is_nearer}
use Rattle.dense_closing.specs.ClosingSteps.{greatest_closed}
use Rattle.dense_closing.specs.Takes.{takes_all}
use Rattle.dense_tree.specs.Free.{is_free_from}
use Rattle.dense_tree.specs.InPlace.{horizon_placed, no_play_placed}
use Rattle.dense_ledger.specs.Ledger.{Ledger, setting_of}
use Rattle.dense_nest.specs.declared.place.Entry.{Entry}
use Rattle.dense_nest.specs.Places.{IsFull, entry_told}
use Rattle.dense_check.specs.declared.machine.DenseMachine.{DenseMachine}
use Rattle.dense_check.specs.Telling.{game_of, InNode, IsNode, IsPart, IsSameHeld, here_in}

-- ---- the trail
at_end : (boxes : List Box) (box : Box) → slice_index_or boxes (length boxes) box ≡ box
at_end [] box = refl
at_end (b ∷ boxes) box = at_end boxes box

pub past_end : (s : Held) (n : ℕ) → n ≡ trail_len s → past_box s n ≡ s.box
past_end s n e = ap (past_box s) e ∙ at_end s.past s.box

-- undone to where it was
pub undone_same : (s t u : Held) (n : ℕ) → n ≡ trail_len s → Follows s t → IsUndone n t u → u.box ≡ past_box t n → IsSameHeld s u
undone_same s t u n e f back b = record {
  len = back.len ∙ e;
  box = b ∙ (f.boxes n (omega (arith, e)) ∙ past_end s n e);
  boxes = λ k l. back.boxes k (omega (arith, e, l)) ∙ f.boxes k l;
}

-- the box that it was is full
pub was_full : (s t : Held) (n : ℕ) → n ≡ trail_len s → Follows s t → has_empty s.box ≡ false → has_empty (past_box t n) ≡ false
was_full s t n e f h = ap (λ (b : Box). has_empty b) (f.boxes n (omega (arith, e)) ∙ past_end s n e) ∙ h

-- whether none is closed
pub none_closed : (b : Bool) (o : Option Box) (box : Box) → MatchBool b (o ≡ Some box) (o ≡ None) → not b ≡ is_none o
none_closed true o box h = sym (ap is_none h)
none_closed false o box h = sym (ap is_none h)

-- ---- scopes
pub goal_is : (ss : List Scope) (i : ℕ) → is_goal (drop i ss) ≡ nat_le (length ss) i
goal_is [] zero = refl
goal_is [] (suc i) = least (suc i)
  where
    least : (n : ℕ) → true ≡ nat_le 0 n
    least n = grind (arith, nat_tests)
goal_is (s ∷ ss) zero = over (length ss)
  where
    over : (n : ℕ) → false ≡ nat_le (suc n) 0
    over n = grind (arith, nat_tests)
goal_is (s ∷ ss) (suc i) = goal_is ss i ∙ up (length ss) i
  where
    up : (a b : ℕ) → nat_le a b ≡ nat_le (suc a) (suc b)
    up a b = grind (arith, nat_tests)

ahead_is : (g : Game) (i k : ℕ) → i ≤ length g.scopes → nat_le k (i + length (drop i g.scopes)) ≡ nat_le k (length g.scopes)
ahead_is g i k l = ap (nat_le k) (by i (length g.scopes) (length (drop i g.scopes)) (length-drop i g.scopes) l)
  where
    by : (i n x : ℕ) → x ≡ n - i → i ≤ n → i + x ≡ n
    by i n x e l = omega (arith, e, l)

pub node_full : (m : DenseMachine) (e : Entry) → InNode m e → IsFull (game_of m) m.nest.remains.box
node_full m e (d, h) = subst (IsFull (game_of m)) (sym h.node.here) h.node.entry.box

pub node_inside : (m : DenseMachine) (e : Entry) → InNode m e → e.spot.number ≤ length (game_of m).scopes
node_inside m e (d, h) = h.node.entry.inside

pub node_closer : (m : DenseMachine) (e : Entry) → InNode m e → m.closer ≡ game_of m
node_closer m e (d, h) = h.knows.made.closed

-- what a horizon at a node asks
pub horizon_is : (m : DenseMachine) (e : Entry) (d : Ledger) (k : ScopeId) (a b c n : Bool) → IsNode m e d → a ≡ nat_le (length (game_of m).scopes) e.spot.number → b ≡ (nat_le e.spot.number k.0 && nat_le k.0 (length (game_of m).scopes)) →
    c ≡ is_nearer k.0 e.horizon → n ≡ is_none (greatest_closed takes_all (game_of m) e.spot.number (suc k.0) m.nest.remains.box) →
    (not a && b && c && n) ≡ horizon_placed (setting_of (game_of m) d) (Some k) (entry_told (game_of m) m.nest.remains e).place
horizon_is m e d k a b c n h ea eb ec en =
    let g = game_of m in
    let i = e.spot.number in
    let box : m.nest.remains.box ≡ past_box m.nest.remains e.mark.at = h.node.here in
    ap (λ x. not x && b && c && n) (ea ∙ sym (goal_is g.scopes i))
    ∙ (ap (λ x. not (is_goal (drop i g.scopes)) && x && c && n) (eb ∙ ap (λ x. nat_le i k.0 && x) (sym (ahead_is g i k.0 h.node.entry.inside)))
    ∙ (ap (λ x. not (is_goal (drop i g.scopes)) && (nat_le i k.0 && nat_le k.0 (i + length (drop i g.scopes))) && x && n) ec
    ∙ ap (λ x. not (is_goal (drop i g.scopes)) && (nat_le i k.0 && nat_le k.0 (i + length (drop i g.scopes))) && is_nearer k.0 e.horizon && x)
    (en ∙ ap (λ (x : Box). is_none (greatest_closed takes_all g i (suc k.0) x)) box)))

-- and a node, or an end, that nobody passes
pub no_play_node : (m : DenseMachine) (e : Entry) (d : Ledger) (k : ScopeId) (a b n : Bool) → IsNode m e d → a ≡ is_free_from (game_of m) d.given (drop e.spot.number (game_of m).scopes) e.spot.number →
    b ≡ (nat_le e.spot.number k.0 && nat_le k.0 (length (game_of m).scopes)) → n ≡ is_none (greatest_closed takes_all (game_of m) e.spot.number (suc k.0) m.nest.remains.box) →
    (a && b && n) ≡ no_play_placed (setting_of (game_of m) d) (entry_told (game_of m) m.nest.remains e).place k
no_play_node m e d k a b n h ea eb en =
    let g = game_of m in
    let i = e.spot.number in
    let box : m.nest.remains.box ≡ past_box m.nest.remains e.mark.at = h.node.here in
    ap (λ x. x && b && n) ea
    ∙ (ap (λ x. is_free_from g d.given (drop i g.scopes) i && x && n) (eb ∙ ap (λ x. nat_le i k.0 && x) (sym (ahead_is g i k.0 h.node.entry.inside)))
    ∙ ap (λ x. is_free_from g d.given (drop i g.scopes) i && (nat_le i k.0 && nat_le k.0 (i + length (drop i g.scopes))) && x)
    (en ∙ ap (λ (x : Box). is_none (greatest_closed takes_all g i (suc k.0) x)) box))

pub no_play_part : (m : DenseMachine) (bounded : Bool) (d : Ledger) (k : ScopeId) (a b n : Bool) → IsPart m d → a ≡ is_free_from (game_of m) d.given (drop m.nest.entry.spot.number (game_of m).scopes) m.nest.entry.spot.number →
    b ≡ (nat_le m.nest.entry.spot.number k.0 && nat_le k.0 (length (game_of m).scopes)) → n ≡ is_none (greatest_closed takes_all (game_of m) m.nest.entry.spot.number (suc k.0) m.nest.remains.box) →
    (a && b && n) ≡ no_play_placed (setting_of (game_of m) d) (here_in m bounded) k
no_play_part m bounded d k a b n h ea eb en =
    let g = game_of m in
    let i = m.nest.entry.spot.number in
    ap (λ x. x && b && n) ea
    ∙ (ap (λ x. is_free_from g d.given (drop i g.scopes) i && x && n) (eb ∙ ap (λ x. nat_le i k.0 && x) (sym (ahead_is g i k.0 h.part.entry.inside)))
    ∙ ap (λ x. is_free_from g d.given (drop i g.scopes) i && (nat_le i k.0 && nat_le k.0 (i + length (drop i g.scopes))) && x) en)

-- ---- whose scope it is
players_in : (p : Place) (ss : List Scope) (i : ℕ) (k : Kind) → option_map (λ (s : Scope). s.kind) (slice_get ss i) ≡ Some k → is_players (record p { later = drop i ss }) ≡ of_kind k true false
players_in p [] zero k e = cc
players_in p [] (suc i) k e = cc
players_in p (s ∷ ss) zero k e = let q : s.kind ≡ k = cc in ap (λ x. of_kind x true false) q
players_in p (s ∷ ss) (suc i) k e = players_in p ss i k e

pub players_here : (m : DenseMachine) (l : Level) (k : Kind) (bounded : Bool) → l.problem.now ≡ game_of m → l.number ≡ m.nest.entry.spot.number → l.kind ≡ k → is_players (here_in m bounded) ≡ of_kind k true false
players_here m l k bounded p n e =
    players_in (here_in m bounded) (game_of m).scopes m.nest.entry.spot.number k
    (ap (λ (g : Game). kind_at g m.nest.entry.spot.number) (sym p) ∙ (ap (kind_at l.problem.now) (sym n) ∙ (l.has_kind ∙ ap Some e)))

-- by a number of the scope that is known to be that
pub no_play_at : (m : DenseMachine) (bounded : Bool) (d : Ledger) (k : ScopeId) (i : ℕ) (a b n : Bool) → i ≡ m.nest.entry.spot.number → IsPart m d → a ≡ is_free_from (game_of m) d.given (drop i (game_of m).scopes) i →
    b ≡ (nat_le i k.0 && nat_le k.0 (length (game_of m).scopes)) → n ≡ is_none (greatest_closed takes_all (game_of m) i (suc k.0) m.nest.remains.box) →
    (a && b && n) ≡ no_play_placed (setting_of (game_of m) d) (here_in m bounded) k
no_play_at m bounded d k i a b n e h ea eb en =
    let g = game_of m in
    no_play_part m bounded d k a b n h (subst (λ j. a ≡ is_free_from g d.given (drop j g.scopes) j) e ea) (subst (λ j. b ≡ (nat_le j k.0 && nat_le k.0 (length g.scopes))) e eb)
    (subst (λ j. n ≡ is_none (greatest_closed takes_all g j (suc k.0) m.nest.remains.box)) e en)

pub le_of : (a b : ℕ) → nat_le a b ≡ true → a ≤ b
le_of a b e = grind (arith, nat_tests)
