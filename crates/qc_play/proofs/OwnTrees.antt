-- A scope's own tree from its beginning to its end, and a case.
use Rattle.std.proofs.Common.{◌≡◌, ℕ, ◌+◌, ◌≤◌, List, [], drop, sym, subst, arith, ℤ}
use Rattle.qc_model.specs.Content.{Game}
use Rattle.qc_model.specs.Demands.{demands}
use Rattle.qc_model.specs.Domains.{Box, box_within}
use Rattle.joins.specs.declared.joins.Joins.{Joins}
use Rattle.joins.specs.Joins.{game_of as game_joined, KeepsOthers}
use Rattle.fd_store.specs.Held.{Held, trail_len, past_box, Follows, IsUndone}
use Rattle.proof_tree.specs.Finding.{Leaf, scope_finding}
use Rattle.proof_tree.specs.Place.{position}
use Rattle.proof_meaning.specs.Answered.{IsAnswered}
use Rattle.qc_play.specs.declared.gathering.Gathering.{Gathering}
use Rattle.qc_play.specs.declared.shown.Shown.{Shown}
use Rattle.qc_play.specs.declared.walk.Walk.{Walk}
use Rattle.qc_play.specs.Shown.{Shows}
use Rattle.qc_play.specs.Walk.{IsWithin, LeadsOn, IsBack, HasSeen, Tells}
use Rattle.qc_play.proofs.Backs.{back_then, back_join, on_then, on_undone, keeps_store}

module _ (g : Game) (i : ℕ) (w : Walk) (h : IsWithin g w i) where
  -- the own tree is walked, and the walk goes back to the node's box
  module _ (js : Joins) (same : game_joined js ≡ game_joined w.joins) (others : KeepsOthers i w.joins js) (b : Walk) (on : LeadsOn g i (record w { joins = js }) b) (t : Held) (n : ℕ) (at : n ≡ trail_len w.remains) (undone : IsUndone n b.remains t) (content : t.box ≡ past_box b.remains n) where
    pub own_back : IsBack g i w (record b { remains = t })
    own_back = back_then g i w (record w { joins = js }) (record b { remains = t }) (back_join g i w js h same others) (on_undone g i (record w { joins = js }) b t n at on undone content)

  -- a case is walked, and the walk goes back to the branch's box
  module _ (x : ℕ) (first last : ℤ) (s : Held) (kept : s.box ≡ box_within w.remains.box x first last) (follows : Follows w.remains s) (b : Walk) (on : LeadsOn g i (record w { remains = s }) b) where
    pub taken_on : LeadsOn g i w b
    taken_on = on_then g i w (record w { remains = s }) b (record { keeps = keeps_store g i w s h; past = follows }) on

    pub taken_back : (t : Held) (n : ℕ) → n ≡ trail_len w.remains → IsUndone n b.remains t → t.box ≡ past_box b.remains n → IsBack g i w (record b { remains = t })
    taken_back t n at undone content = on_undone g i w b t n at taken_on undone content

-- what the scope shows, by the leaves of its own tree
pub own_shows : (g : Game) (i : ℕ) (js ks : Joins) (x y : Gathering) (box new : Box) (ends : ℕ) (ls : List Leaf) (v : List ℤ) (s : Shown) → new ≡ box → HasSeen g i js x 0 [] → Tells g i js x ks y ends ls → ends ≤ 1073741824 → IsAnswered (drop i g.scopes) g i (position g i box) ls →
    ((n : ℕ) (ls : List Leaf) → HasSeen g i ks y n ls → IsAnswered (drop i g.scopes) g i (position g i new) ls → Shows (scope_finding (drop i g.scopes) g i (demands g i) (position g i new) ls) v s) →
    Shows (scope_finding (drop i g.scopes) g i (demands g i) (position g i box) ls) v s
own_shows g i js ks x y box new ends ls v s e none told few answered shows =
    subst (λ b. Shows (scope_finding (drop i g.scopes) g i (demands g i) (position g i b) ls) v s) e
    (shows (0 + ends) ls (told 0 [] (omega (arith, few)) none) (subst (λ b. IsAnswered (drop i g.scopes) g i (position g i b) ls) (sym e) answered))
