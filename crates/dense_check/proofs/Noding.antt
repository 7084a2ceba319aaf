-- Lines where a node is due.
use Rattle.std.proofs.Common.{◌≡◌, ◌∙◌, refl, sym, ap, subst, ℕ, ◌≤◌, ◌<◌, Bool, true, false, ◌&&◌, not, Option, Some, None, List, [], ◌∷◌, ◌++◌, length, cond, arith}
use Rattle.std.proofs.lemmas.Bool.Decides.{nat_tests}
use Rattle.std.specs.Prelude.{Result, OnOk, ℤ, nat_le, slice_get, is_some}
use Rattle.qc_model.specs.Content.{Game}
use Rattle.qc_model.specs.Domains.{Box, has_empty}
use Rattle.model_arguments.specs.Asked.{is_box_of}
use Rattle.fd_store.specs.Held.{Held}
use Rattle.proof_tree.specs.InPlace.{is_horizon}
use Rattle.dense_tree.specs.Tree.{Given}
use Rattle.dense_tree.specs.Place.{Setting, Place}
use Rattle.dense_tree.specs.InPlace.{cases_placed, goal_placed}
use Rattle.dense_tree.specs.Verdicts.{loosened, goal_comes_to}
use Rattle.dense_ledger.specs.Ledger.{Ledger, setting_of, only_ledger, node_ended, begun, part_line, body_line, told_again}
use Rattle.dense_tree.specs.Alike.{are_alike}
use Rattle.dense_tree.specs.Read.{Known}
use Rattle.dense_alike.specs.Kept.{Kept}
use Rattle.dense_alike.specs.Laid.{is_full_box}
use Rattle.dense_check.specs.Alike.{is_alike_known}
use Rattle.dense_ledger.specs.Ledger as ledger
use Rattle.dense_tree.specs.Lines as told
use Rattle.dense_nest.specs.declared.nest.Nest.{Nest}
use Rattle.dense_nest.specs.declared.place.Entry.{Entry}
use Rattle.dense_nest.specs.declared.nodes.Reached.{Reached}
use Rattle.dense_nest.specs.Places.{IsFull, entry_told, place_at, part_spot}
use Rattle.dense_nest.specs.declared.place.Due.TheVariants as due
use Rattle.dense_nest.specs.Telling as nest
use Rattle.dense_nest.specs.Goes as goes
use Rattle.dense_nest.specs.Goes.{goal_of, verdict_known}
use Rattle.dense_check.specs.declared.machine.DenseMachine.{DenseMachine}
use Rattle.dense_check.specs.Telling.{game_of, InNode, IsNode, InPart, IsPart, Tells, TellsOf, NodeGoes, PartGoes, IsSameHeld, IsGathered, with_remains, here_in, begins_with}
use Rattle.dense_check.specs.declared.line.Line.{Line}
use Rattle.dense_check.specs.Lines.{line_told}
use Rattle.dense_check.proofs.Going.{node_held, knows_nest, part_by, tells_by, with_nest, refuses, accepts, told_same}
use Rattle.dense_check.proofs.Ending.{always, on_ok}
use Rattle.dense_check.proofs.Placing.{goal_is, node_full}

abbrev pub Told : DenseMachine → Entry → ledger.Entry
Told m e = entry_told (game_of m) m.nest.remains e

-- a line that isn't in place, and one that is
pub refused_node : {T E : Type 0} (r : Result T E) (m : DenseMachine) (e : Entry) (o : DenseMachine) (placed : Ledger → Bool) (k : Ledger → Ledger) → o.nest.due ≡ due.Wrong → ((d : Ledger) → IsNode m e d → placed d ≡ false) →
    OnOk r (NodeGoes m e o (λ d. only_ledger (placed d) (k d)))
refused_node r m e o placed k w f = always r (λ d h. refuses o (placed d) (k d) (f d h) w)

pub accepted_node : {T E : Type 0} (r : Result T E) (m : DenseMachine) (e : Entry) (o : DenseMachine) (placed : Ledger → Bool) (k : Ledger → Ledger) → ((d : Ledger) → IsNode m e d → placed d ≡ true) → OnOk r ((d : Ledger) → IsNode m e d → Tells o (k d)) →
    OnOk r (NodeGoes m e o (λ d. only_ledger (placed d) (k d)))
accepted_node r m e o placed k f h = on_ok r (λ g d p. accepts o (placed d) (k d) (f d p) (g d p)) h

-- some ledger is told there
pub nest_node : (m : DenseMachine) (e : Entry) → InNode m e → goes.InNode m.nest e
nest_node m e (d, h) = (d.given, m.positions.boxes, d, h.node)

pub node_on : (m n : DenseMachine) (e : Entry) (d : Ledger) → n ≡ with_remains n.nest.remains m → IsSameHeld m.nest.remains n.nest.remains → IsNode m e d → IsNode n e d
node_on m n e d q k h = subst (λ z. IsNode z e d) (sym q) (node_held m n.nest.remains e d k h)

pub in_node_on : (m n : DenseMachine) (e : Entry) → n ≡ with_remains n.nest.remains m → IsSameHeld m.nest.remains n.nest.remains → InNode m e → InNode n e
in_node_on m n e q k (d, h) = (d, node_on m n e d q k h)

-- the node is told as before
pub told_on : (m n : DenseMachine) (e : Entry) (d : Ledger) → n ≡ with_remains n.nest.remains m → IsSameHeld m.nest.remains n.nest.remains → IsNode m e d → Told n e ≡ Told m e
told_on m n e d q k h = ap (λ g. entry_told g n.nest.remains e) (ap game_of q) ∙ told_same m.nest n.nest.remains d.given m.positions.boxes e d k h.node

-- what a nest goes on to from a node
pub node_goes : {T E : Type 0} (r : Result T E) (m : DenseMachine) (e : Entry) (n : Nest) (k : Ledger → Ledger) → nest.game_of n ≡ game_of m → OnOk r (goes.NodeGoes m.nest e n (λ d. Some (k d))) →
    OnOk r ((d : Ledger) → IsNode m e d → Tells (with_nest n m) (k d))
node_goes r m e n k q f = on_ok r (λ (g : goes.NodeGoes m.nest e n (λ d. Some (k d))) d h. tells_by m n d.given (Some (k d)) q h.knows (g d.given m.positions.boxes d h.node)) f

-- and from one whose box was looked at
pub node_goes_on : {T E : Type 0} (r : Result T E) (m n : DenseMachine) (e : Entry) (o : Nest) (k : Game → ledger.Entry → Ledger → Ledger) → n ≡ with_remains n.nest.remains m → IsSameHeld m.nest.remains n.nest.remains → nest.game_of o ≡ game_of n →
    OnOk r (goes.NodeGoes n.nest e o (λ d. Some (k (game_of n) (Told n e) d))) → OnOk r ((d : Ledger) → IsNode m e d → Tells (with_nest o n) (k (game_of m) (Told m e) d))
node_goes_on r m n e o k rest same q f = on_ok r by (node_goes r n e o (k (game_of n) (Told n e)) q f)
  where
    by : ((d : Ledger) → IsNode n e d → Tells (with_nest o n) (k (game_of n) (Told n e) d)) → (d : Ledger) → IsNode m e d → Tells (with_nest o n) (k (game_of m) (Told m e) d)
    by g d h =
        subst (λ t. Tells (with_nest o n) (k (game_of m) t d)) (told_on m n e d rest same h)
        (subst (λ x. Tells (with_nest o n) (k x (Told n e) d)) (ap game_of rest) (g d (node_on m n e d rest same h)))

-- ---- what the ends of a node ask
pub cases_are : (m : DenseMachine) (e : Entry) (a b : Bool) → a ≡ is_horizon e.horizon e.spot.number → b ≡ nat_le (length (game_of m).scopes) e.spot.number → (not a && not b) ≡ cases_placed (Told m e).place
cases_are m e a b p q = ap (λ x. not x && not b) p ∙ ap (λ x. not (is_horizon e.horizon e.spot.number) && not x) (q ∙ sym (goal_is (game_of m).scopes e.spot.number))

pub goal_are : (m : DenseMachine) (e : Entry) (a b : Bool) → a ≡ is_horizon e.horizon e.spot.number → b ≡ nat_le (length (game_of m).scopes) e.spot.number → (not a && b) ≡ goal_placed (Told m e).place
goal_are m e a b p q = ap (λ x. not x && b) p ∙ ap (λ x. not (is_horizon e.horizon e.spot.number) && x) (q ∙ sym (goal_is (game_of m).scopes e.spot.number))

pub at_least : (a b : ℕ) → true ≡ nat_le a b → a ≤ b
at_least a b e = grind (arith, nat_tests)

pub below_it : (a b : ℕ) → false ≡ nat_le a b → b < a
below_it a b e = grind (arith, nat_tests)

pub scope_inside : (m : DenseMachine) (e : Entry) → InNode m e → false ≡ nat_le (length (game_of m).scopes) e.spot.number → e.spot.number < length (game_of m).scopes
scope_inside m e i q = below_it (length (game_of m).scopes) e.spot.number q

pub goal_at : (m : DenseMachine) (e : Entry) → InNode m e → true ≡ nat_le (length (game_of m).scopes) e.spot.number → e.spot.number ≡ length (game_of m).scopes
goal_at m e (d, h) q = let least = at_least (length (game_of m).scopes) e.spot.number q in let most = h.node.entry.inside in omega (arith, least, most)

-- ---- the scope's own tree begins
abbrev pub NestBegins : Nest → Entry → Nest → Type 0
NestBegins m e n = (us : List Given) (boxes : List Box) (d : Ledger) → nest.IsNode m us boxes e d → nest.IsPart n us boxes (begun d (entry_told (nest.game_of m) m.remains e))

pub part_begun : (m : DenseMachine) (e : Entry) (n : Nest) (d : Ledger) → nest.game_of n ≡ game_of m → NestBegins m.nest e n → IsNode m e d → IsPart (with_nest n m) (begun d (Told m e))
part_begun m e n d q f h = part_by m n d.given (begun d (Told m e)) q h.knows (f d.given m.positions.boxes d h.node)

pub in_part_begun : (m : DenseMachine) (e : Entry) (n : Nest) → nest.game_of n ≡ game_of m → NestBegins m.nest e n → InNode m e → InPart (with_nest n m)
in_part_begun m e n q f (d, h) = (begun d (Told m e), part_begun m e n d q f h)

-- it stands where the node does
pub stands_there : (m : DenseMachine) (e : Entry) (n : Nest) (d : Ledger) → nest.game_of n ≡ game_of m → n.entry ≡ e → n.remains ≡ m.nest.remains → IsNode m e d → here_in (with_nest n m) e.spot.bounded ≡ (Told m e).place
stands_there m e n d q en re h =
    ap (λ g. place_at g (part_spot n.entry e.spot.bounded) n.remains.box) q
    ∙ (ap (λ x. place_at (game_of m) (part_spot x e.spot.bounded) n.remains.box) en
    ∙ ap (λ box. place_at (game_of m) (part_spot e e.spot.bounded) box) (ap (λ (r : Held). r.box) re ∙ h.node.here))

pub begins_so : (m o : DenseMachine) (e : Entry) (n : Nest) (l : told.Line) → nest.game_of n ≡ game_of m → n.entry ≡ e → n.remains ≡ m.nest.remains → NestBegins m.nest e n → cases_placed (Told m e).place ≡ true →
    PartGoes (with_nest n m) o (λ d. part_line (setting_of (nest.game_of n) d) d (here_in (with_nest n m) e.spot.bounded) l) →
    NodeGoes m e o (λ d. begins_with (setting_of (game_of m) d) d (Told m e) l)
begins_so m o e n l q en re f placed g d h =
    let t = Told m e in
    let x = begun d t in
    let told = g x (part_begun m e n d q f h) in
    let in_game : TellsOf o (part_line (setting_of (game_of m) x) x (here_in (with_nest n m) e.spot.bounded) l) = subst (λ w. TellsOf o (part_line (setting_of w x) x (here_in (with_nest n m) e.spot.bounded) l)) q told in
    let at : TellsOf o (part_line (setting_of (game_of m) x) x t.place l) = subst (λ p. TellsOf o (part_line (setting_of (game_of m) x) x p l)) (stands_there m e n d q en re h) in_game in
    subst (λ b. TellsOf o (cond b (part_line (setting_of (game_of m) d) x t.place l) None)) (sym placed) at

pub begins_not : (m o : DenseMachine) (e : Entry) (l : told.Line) → o.nest.due ≡ due.Wrong → cases_placed (Told m e).place ≡ false → NodeGoes m e o (λ d. begins_with (setting_of (game_of m) d) d (Told m e) l)
begins_not m o e l w placed d h = subst (λ b. TellsOf o (cond b (part_line (setting_of (game_of m) d) (begun d (Told m e)) (Told m e).place l) None)) (sym placed) w

-- ---- the goal
pub goal_comes : (m : DenseMachine) (e : Entry) (r : Reached) (d : Ledger) → IsNode m e d → ((s : Setting) (p : Place) → s.game ≡ game_of m → p.number ≡ e.spot.number → p.box ≡ m.nest.remains.box → goal_comes_to s p ≡ goal_of p (game_of m) r) →
    goal_of (Told m e).place (game_of m) r ≡ goal_comes_to (setting_of (game_of m) d) (Told m e).place
goal_comes m e r d h f = sym (f (setting_of (game_of m) d) (Told m e).place refl refl (sym h.node.here))

-- ---- a node that is told again, and one that is named
pub node_moves : (m n : DenseMachine) (e : Entry) (o : Nest) (k : Game → ledger.Entry → Ledger → Ledger) → n ≡ with_remains n.nest.remains m → IsSameHeld m.nest.remains n.nest.remains → nest.game_of o ≡ game_of n →
    goes.NodeGoes n.nest e o (λ d. Some (k (game_of n) (Told n e) d)) → (d : Ledger) → IsNode m e d → Tells (with_nest o n) (k (game_of m) (Told m e) d)
node_moves m n e o k rest same q f d h =
    let there = node_on m n e d rest same h in
    let told : Tells (with_nest o n) (k (game_of n) (Told n e) d) = tells_by n o d.given (Some (k (game_of n) (Told n e) d)) q there.knows (f d.given n.positions.boxes d there.node) in
    subst (λ t. Tells (with_nest o n) (k (game_of m) t d)) (told_on m n e d rest same h) (subst (λ x. Tells (with_nest o n) (k x (Told n e) d)) (ap game_of rest) told)

abbrev pub NestAgain : Nest → Entry → Nest → ℕ → Type 0
NestAgain m e o n = goes.NodeGoes m e o (λ d. Some (node_ended (setting_of (nest.game_of m) d) d (entry_told (nest.game_of m) m.remains e) (loosened (setting_of (nest.game_of m) d) (entry_told (nest.game_of m) m.remains e).place (verdict_known (slice_get d.known n))) d.frames))

again_at : (m : DenseMachine) (e : Entry) (o : Nest) (n : ℕ) → nest.game_of o ≡ game_of m → ((d : Ledger) → IsNode m e d → true ≡ is_alike_known (game_of m) (Told m e).place (slice_get d.known n)) → NestAgain m.nest e o n →
    NodeGoes m e (with_nest o m) (λ d. told_again (setting_of (game_of m) d) d (Told m e) (slice_get d.known n))
again_at m e o n q alike f d h = by (slice_get d.known n) (alike d h) (f d.given m.positions.boxes d h.node)
  where
    After : Option Known → Ledger
    After k = node_ended (setting_of (game_of m) d) d (Told m e) (loosened (setting_of (game_of m) d) (Told m e).place (verdict_known k)) d.frames

    by : (k : Option Known) → true ≡ is_alike_known (game_of m) (Told m e).place k → nest.Tells o d.given m.positions.boxes (After k) → TellsOf (with_nest o m) (told_again (setting_of (game_of m) d) d (Told m e) k)
    by None a t = cc
    by (Some k) a t = accepts (with_nest o m) (is_some k.verdict && are_alike (game_of m) (Told m e).place k.place) (After (Some k)) (sym a) (tells_by m o d.given (Some (After (Some k))) q h.knows t)

pub again_goes : {T E : Type 0} (r : Result T E) (m n : DenseMachine) (e : Entry) (o : Nest) (k : ℕ) → n ≡ m → nest.game_of o ≡ game_of n → ((d : Ledger) → IsNode m e d → true ≡ is_alike_known (game_of m) (Told m e).place (slice_get d.known k)) →
    OnOk r (NestAgain n.nest e o k) → OnOk r (NodeGoes m e (with_nest o n) (λ d. told_again (setting_of (game_of m) d) d (Told m e) (slice_get d.known k)))
again_goes r m n e o k same q alike f =
    let there = subst (λ z. (d : Ledger) → IsNode z e d → true ≡ is_alike_known (game_of z) (Told z e).place (slice_get d.known k)) (sym same) alike in
    subst (λ z. OnOk r (NodeGoes z e (with_nest o n) (λ d. told_again (setting_of (game_of z) d) d (Told z e) (slice_get d.known k)))) same (on_ok r (again_at n e o k q there) f)

-- one that isn't alike
pub again_refused : (m o : DenseMachine) (e : Entry) (n : ℕ) → o.nest.due ≡ due.Wrong → ((d : Ledger) → IsNode m e d → false ≡ is_alike_known (game_of m) (Told m e).place (slice_get d.known n)) →
    NodeGoes m e o (λ d. told_again (setting_of (game_of m) d) d (Told m e) (slice_get d.known n))
again_refused m o e n w alike d h = by (slice_get d.known n) (alike d h)
  where
    by : (k : Option Known) → false ≡ is_alike_known (game_of m) (Told m e).place k → TellsOf o (told_again (setting_of (game_of m) d) d (Told m e) k)
    by None a = w
    by (Some k) a = refuses o (is_some k.verdict && are_alike (game_of m) (Told m e).place k.place) _ (sym a) w

-- the machine with a box kept, and a node named
abbrev pub with_kept : Nest → Kept → DenseMachine → DenseMachine
with_kept n p m = record m { nest = n; positions = p }

abbrev pub named_ledger : DenseMachine → Entry → Ledger → Ledger
named_ledger m e d = record d { due = ledger.named_due (record (Told m e) { named = Some (length d.known) }); known = d.known ++ record { place = (Told m e).begin; verdict = None } ∷ [] }

pub named_goes : {T E : Type 0} (r : Result T E) (m : DenseMachine) (e : Entry) (n : Nest) (p : Kept) → p ≡ record (m.positions) { boxes = m.positions.boxes ++ m.nest.remains.box ∷ [] } → nest.game_of n ≡ game_of m →
    OnOk r ((us : List Given) (boxes : List Box) (d : Ledger) → nest.IsNode m.nest us boxes e d → nest.Tells n us (boxes ++ m.nest.remains.box ∷ []) (named_ledger m e d)) →
    OnOk r ((d : Ledger) → IsNode m e d → Tells (with_kept n p m) (named_ledger m e d))
named_goes r m e n p keeps q f = on_ok r by f
  where
    by : ((us : List Given) (boxes : List Box) (d : Ledger) → nest.IsNode m.nest us boxes e d → nest.Tells n us (boxes ++ m.nest.remains.box ∷ []) (named_ledger m e d)) → (d : Ledger) → IsNode m e d → Tells (with_kept n p m) (named_ledger m e d)
    by g d h =
        let known = knows_nest m n d.given q h.knows in
        record {
          knows = record {
            made = record { closed = known.made.closed; wishes = known.made.wishes; boxes = ap (λ (x : Kept). x.game) keeps ∙ known.made.boxes };
            given = known.given;
            order = known.order;
          };
          tells = subst (λ (x : Kept). nest.Tells n d.given x.boxes (named_ledger m e d)) (sym keeps) (g d.given m.positions.boxes d h.node);
        }

pub keeps_full : (m : DenseMachine) (e : Entry) → InNode m e → is_full_box m.positions.game m.nest.remains.box ≡ true
keeps_full m e (d, h) = subst (λ g. is_full_box g m.nest.remains.box ≡ true) (sym h.knows.made.boxes) (by (node_full m e (d, h)))
  where
    by : IsFull (game_of m) m.nest.remains.box → is_full_box (game_of m) m.nest.remains.box ≡ true
    by f = both (is_box_of (game_of m) m.nest.remains.box) (has_empty m.nest.remains.box) f.declared f.full
      where
        both : (a b : Bool) → a ≡ true → b ≡ false → (a && not b) ≡ true
        both true true p q = cc
        both true false p q = refl
        both false b p q = cc

-- the goal comes to what was reached
pub goal_goes : {T E : Type 0} (r : Result T E) (m : DenseMachine) (e : Entry) (n : Nest) (reached : Reached) → nest.game_of n ≡ game_of m → goal_placed (Told m e).place ≡ true →
    ((s : Setting) (p : Place) → s.game ≡ game_of m → p.number ≡ e.spot.number → p.box ≡ m.nest.remains.box → goal_comes_to s p ≡ goal_of p (game_of m) reached) →
    OnOk r (goes.NodeGoes m.nest e n (λ d. Some (node_ended (setting_of (game_of m) d) d (Told m e) (loosened (setting_of (game_of m) d) (Told m e).place (goal_of (Told m e).place (game_of m) reached)) d.frames))) →
    OnOk r (NodeGoes m e (with_nest n m) (λ d. body_line (setting_of (game_of m) d) d (Told m e) told.goal_line))
goal_goes r m e n reached q placed comes f =
    accepted_node r m e (with_nest n m) (λ d. goal_placed (Told m e).place) (λ d. node_ended (setting_of (game_of m) d) d (Told m e) (loosened (setting_of (game_of m) d) (Told m e).place (goal_comes_to (setting_of (game_of m) d) (Told m e).place)) d.frames)
    (λ d h. placed)
    (on_ok r by (node_goes r m e n (λ d. node_ended (setting_of (game_of m) d) d (Told m e) (loosened (setting_of (game_of m) d) (Told m e).place (goal_of (Told m e).place (game_of m) reached)) d.frames) q f))
  where
    by : ((d : Ledger) → IsNode m e d → Tells (with_nest n m) (node_ended (setting_of (game_of m) d) d (Told m e) (loosened (setting_of (game_of m) d) (Told m e).place (goal_of (Told m e).place (game_of m) reached)) d.frames)) →
        (d : Ledger) → IsNode m e d → Tells (with_nest n m) (node_ended (setting_of (game_of m) d) d (Told m e) (loosened (setting_of (game_of m) d) (Told m e).place (goal_comes_to (setting_of (game_of m) d) (Told m e).place)) d.frames)
    by g d h = subst (λ v. Tells (with_nest n m) (node_ended (setting_of (game_of m) d) d (Told m e) (loosened (setting_of (game_of m) d) (Told m e).place v) d.frames)) (goal_comes m e reached d h comes) (g d h)

-- the first line of the scope's own tree
pub first_goes : {T E : Type 0} (r : Result T E) (m o : DenseMachine) (e : Entry) (n : Nest) (v : List ℤ) (l : Line) → nest.game_of n ≡ game_of m → n.entry ≡ e → n.remains ≡ m.nest.remains → NestBegins m.nest e n → cases_placed (Told m e).place ≡ true →
    OnOk r ((t : List ℤ) → IsGathered v t → PartGoes (with_nest n m) o (λ d. part_line (setting_of (nest.game_of n) d) d (here_in (with_nest n m) e.spot.bounded) (line_told l t))) →
    OnOk r ((t : List ℤ) → IsGathered v t → NodeGoes m e o (λ d. begins_with (setting_of (game_of m) d) d (Told m e) (line_told l t)))
first_goes r m o e n v l q en re f placed g = on_ok r by g
  where
    by : ((t : List ℤ) → IsGathered v t → PartGoes (with_nest n m) o (λ d. part_line (setting_of (nest.game_of n) d) d (here_in (with_nest n m) e.spot.bounded) (line_told l t))) →
        (t : List ℤ) → IsGathered v t → NodeGoes m e o (λ d. begins_with (setting_of (game_of m) d) d (Told m e) (line_told l t))
    by h t x = begins_so m o e n (line_told l t) q en re f placed (h t x)
