use Rattle.std.proofs.Common.{◌≡◌, ℕ, ◌∙◌, sym, ap, subst, length, List, Some, None}
use Rattle.qc_model.specs.Content.{Game}
use Rattle.qc_model.specs.Demands.{demands}
use Rattle.qc_model.specs.Game.{allows}
use Rattle.qc_model.specs.ForallVerdict.{goal_verdict}
use Rattle.qc_model.specs.Verdict.{Verdict}
use Rattle.check_assignment.specs.Assigned.{Assigned}
use Rattle.joins.specs.declared.joins.Joins.{Joins}
use Rattle.joins.specs.Joins.{game_of as game_joined}
use Rattle.joins.specs.declared.leaves.Found.{Found}
use Rattle.check_lines.specs.declared.machine.Machine.{Machine}
use Rattle.check_lines.specs.Ledger.{Ledger, Entry}
use Rattle.check_lines.specs.Machine.{game_of, before_of, IsSound}
use Rattle.check_lines.specs.Telling.{IsNodeEnd, Tells, node_ended}
use Rattle.check_lines.proofs.AtNodes.{goal_tells, at_goal, all_before}
use Rattle.check_lines.proofs.machine.Machine.goal_line.Goals as goal

-- the machine once the goal's verdict is found, with these values
abbrev found_with : Machine → Joins → Found → Assigned → Machine
found_with m js f a = record m { values = a; joins = js; found = f; own = None }

-- the values are those from before
found_sound : (m : Machine) (js : Joins) (f : Found) (a : Assigned) → game_joined js ≡ game_joined m.joins → a ≡ m.values → IsSound m → IsSound (found_with m js f a)
found_sound m js f a same e s = subst (λ b. IsSound (found_with m js f b)) (sym e) (record {
  laws = s.laws;
  tracks = s.tracks;
  joined = same ∙ s.joined;
  valued = s.valued;
  value_each = s.value_each;
  numbers = s.numbers;
  declared = s.declared;
  inside = s.inside;
  placed = s.placed;
  frames = s.frames;
  read = s.read;
})

pub close_node-requires : goal.close_node-requires
close_node-requires c =
    let m = c.args.self.now in
    record { sound = found_sound m c.goal-self.new.self c.goal-self.result c.goal_is_met-holds.new.values c.goal-self.ensures.same c.goal_is_met-holds.ensures.same c.requires.node.sound }

pub returns-clause-tells : goal.returns-clause-tells
returns-clause-tells c =
    let m = c.args.self.now in
    let g = game_of m in
    let s = c.requires.node.sound in
    let js = c.goal-self.new.self in
    let f = c.goal-self.result in
    let new = c.close_node.new.self in
    let last = sym c.is_at_last.ensures ∙ c.if-not-is_at_last.false in
    let number = at_goal m s last in
    let all = all_before m s m.levels.has_all number in
    let b = c.goal_is_met-holds.result in
    let back : c.goal_is_met-holds.new.values ≡ m.values = c.goal_is_met-holds.ensures.same in
    let read : c.values.result.now ≡ before_of m = c.values.ensures ∙ (ap (λ (a : Assigned). a.items) back ∙ sym all) in
    let holds : b ≡ allows g m.number (before_of m) = c.goal_is_met-holds.ensures.holds ∙ (ap (allows g (length g.scopes)) (sym all) ∙ ap (λ i. allows g i (before_of m)) (sym number)) in
    let verdict = c.goal-self.ensures.verdict ∙ (ap (λ (u : Game). goal_verdict u b (demands u (length u.scopes)) c.values.result.now) s.joined ∙ (ap (goal_verdict g b (demands g (length g.scopes))) read ∙ ap (λ i. goal_verdict g b (demands g i) (before_of m)) (sym number))) in
    let closes = subst (λ a. (n : ℕ) (d : Ledger) (es : List Entry) (v : Verdict) → IsNodeEnd n (found_with m js f a) d es v → Tells new (Some (node_ended (found_with m js f a) d es v))) back c.close_node.ensures.tells in
    goal_tells m js f b c.requires.node c.goal-self.ensures.all c.goal-self.ensures.same new closes (sym c.is_at_horizon.ensures ∙ c.if-is_at_horizon.false) last holds (sym verdict)
