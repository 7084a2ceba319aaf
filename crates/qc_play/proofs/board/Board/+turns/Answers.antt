use Rattle.std.proofs.Common.{◌≡◌, true, ◌+◌, ◌++◌, refl, sym, ap, ◌∙◌, subst, arith, length, take, drop, add-one}
use Rattle.std.specs.Prelude.{nat_lt, Some}
use Rattle.qc_play.specs.Play.{is_move, reply_to, answers_of, stuck_at, hopeless_at}
use Rattle.qc_play.specs.Sides.{kind_of, choices_of}
use Rattle.qc_play.proofs.Telling.{play_at, own_stuck, other_stuck, other_missing, other_wrong, other_hopeless, told_end, told_hopeless}
use Rattle.qc_play.specs.PlayText.{turn_line, ending_line, unused_line}
use Rattle.qc_play.proofs.Turns.{Goes, goal_told, own_stands, own_told, other_stands, other_told, are_left, are_missing}
use Rattle.qc_play.proofs.board.Board.+turns.Goals as goal

pub other_turn-returns-then-not-has_answers : goal.other_turn-returns-then-not-has_answers
other_turn-returns-then-not-has_answers t c =
    let g = c.args.self.now.problem.now in
    let s = choices_of c.args.side in
    told_end c.args.i (play_at g (kind_of c.args.side) c.args.i c.args.self.now.values.items s c.args.moves.now) (stuck_at c.args.i) c.args.moves.now c.args.self.now.text.items c.put_stuck.new.out.items
    (other_stuck g (kind_of c.args.side) c.args.i c.args.self.now.values.items s c.args.moves.now c.args.owner c.requires.owner c.requires.own (sym c.has_answers.ensures ∙ c.if-not-has_answers.true))
    refl c.in_ok-put_stuck.ensures

pub other_turn-returns-then-moves-width : goal.other_turn-returns-then-moves-width
other_turn-returns-then-moves-width t c =
    let g = c.args.self.now.problem.now in
    let ms = c.args.moves.now in
    ap (λ p. p.ending) (other_missing g (kind_of c.args.side) c.args.i c.args.self.now.values.items (choices_of c.args.side) ms c.args.owner c.requires.owner c.requires.own (sym c.has_answers.ensures ∙ c.if-not-has_answers.false)
    (ap (nat_lt (length ms)) (sym c.width-width.ensures) ∙ are_missing (length ms) c.width-width.result c.if-moves-width.true))

pub other_turn-returns-then-not-branch : goal.other_turn-returns-then-not-branch
other_turn-returns-then-not-branch t c =
    let g = c.args.self.now.problem.now in
    let a = c.args.self.now.values.items in
    let ms = c.args.moves.now in
    let w = c.width-width.result in
    ap (λ p. p.ending) (other_wrong g (kind_of c.args.side) c.args.i a (choices_of c.args.side) ms w c.width-width.ensures (are_left (length ms) w c.if-moves-width.false) c.args.owner c.requires.owner c.requires.own
    (sym c.has_answers.ensures ∙ c.if-not-has_answers.false) (ap (is_move g c.args.i a) (sym c.split_at.ensures.front) ∙ (sym c.in_ok-take_tuple.ensures.allowed ∙ c.if-not-branch.true)))

pub other_turn-returns-in_default : goal.other_turn-returns-in_default
other_turn-returns-in_default t c =
    let g = c.args.self.now.problem.now in
    let own = kind_of c.args.side in
    let a = c.args.self.now.values.items in
    let s = choices_of c.args.side in
    let ms = c.args.moves.now in
    let w = c.width-width.result in
    let e = sym c.split_at.ensures.front in
    let left = ap length c.split_at.ensures.back in
    told_hopeless c.args.i (play_at g own c.args.i a s ms) c.args.owner (take w ms) (drop w ms) c.args.self.now.text.items c.put_turn.new.out.items c.put_hopeless.new.out.items
    (other_hopeless g own c.args.i a s ms w c.width-width.ensures (are_left (length ms) w c.if-moves-width.false) c.args.owner c.requires.owner c.requires.own (sym c.has_answers.ensures ∙ c.if-not-has_answers.false)
    (ap (is_move g c.args.i a) e ∙ (sym c.in_ok-take_tuple.ensures.allowed ∙ c.if-not-branch.false)) (ap (λ u. reply_to u (answers_of s)) e ∙ c.in_default.ensures.tree))
    (c.in_ok-put_turn.ensures ∙ ap (λ u. c.args.self.now.text.items ++ turn_line c.args.i c.args.owner u) (sym e))
    (c.in_ok-put_hopeless.ensures ∙ ap (λ n. c.put_turn.new.out.items ++ (ending_line (hopeless_at c.args.i) ++ unused_line n)) left)

pub other_turn-go_on-requires : goal.other_turn-go_on-requires
other_turn-go_on-requires t c =
    let g = c.args.self.now.problem.now in
    let own = kind_of c.args.side in
    let i = c.args.i in
    let a = c.args.self.now.values.items in
    let s = choices_of c.args.side in
    let ms = c.args.moves.now in
    let w = c.width-width.result in
    let e : take w ms ≡ c.split_at.result.0.now = sym c.split_at.ensures.front in
    let move : is_move g i a (take w ms) ≡ true = ap (is_move g i a) e ∙ (sym c.in_ok-take_tuple.ensures.allowed ∙ c.if-not-branch.false) in
    let taken : c.take_tuple.new.values.items ≡ a ++ take w ms = c.in_ok-take_tuple.ensures.taken c.if-not-branch.false ∙ ap (λ u. a ++ u) (sym e) in
    let found : reply_to (take w ms) (answers_of s) ≡ Some (choices_of c.in-Some.after) = ap (λ u. reply_to u (answers_of s)) e ∙ c.in-Some.ensures.tree in
    let r = other_stands g own (kind_of c.in-Some.after) c.args.owner i (i + 1) a c.take_tuple.new.values.items s (choices_of c.in-Some.after) ms (add-one i) c.in-Some.ensures.kind c.requires.owner
    w c.width-width.ensures (are_left (length ms) w c.if-moves-width.false) c.requires.own (sym c.has_answers.ensures ∙ c.if-not-has_answers.false) move taken found c.known.ensures c.requires.numbers c.requires.sound in
    (omega arith, (omega arith, (r.0, r.1)))

pub other_turn-returns : goal.other_turn-returns
other_turn-returns t c =
    let g = c.args.self.now.problem.now in
    let own = kind_of c.args.side in
    let i = c.args.i in
    let a = c.args.self.now.values.items in
    let s = choices_of c.args.side in
    let ms = c.args.moves.now in
    let w = c.width-width.result in
    let e : take w ms ≡ c.split_at.result.0.now = sym c.split_at.ensures.front in
    let move : is_move g i a (take w ms) ≡ true = ap (is_move g i a) e ∙ (sym c.in_ok-take_tuple.ensures.allowed ∙ c.if-not-branch.false) in
    let taken : c.take_tuple.new.values.items ≡ a ++ take w ms = c.in_ok-take_tuple.ensures.taken c.if-not-branch.false ∙ ap (λ u. a ++ u) (sym e) in
    let found : reply_to (take w ms) (answers_of s) ≡ Some (choices_of c.in-Some.after) = ap (λ u. reply_to u (answers_of s)) e ∙ c.in-Some.ensures.tree in
    other_told g own (kind_of c.in-Some.after) c.args.owner i (i + 1) a c.take_tuple.new.values.items s (choices_of c.in-Some.after) ms (add-one i) c.in-Some.ensures.kind c.requires.owner
    w c.width-width.ensures (are_left (length ms) w c.if-moves-width.false) c.requires.own (sym c.has_answers.ensures ∙ c.if-not-has_answers.false) move taken found c.go_on.result c.args.self.now.text.items c.put_turn.new.out.items c.go_on.new.self.text.items
    (c.in_ok-put_turn.ensures ∙ ap (λ u. c.args.self.now.text.items ++ turn_line i c.args.owner u) (sym e))
    (subst (λ ns. Goes c.go_on.result g (kind_of c.in-Some.after) (i + 1) c.take_tuple.new.values.items (choices_of c.in-Some.after) ns c.put_turn.new.out.items c.go_on.new.self.text.items) c.split_at.ensures.back c.go_on.ensures)

pub own_turn-returns-in_default : goal.own_turn-returns-in_default
own_turn-returns-in_default t c =
    let g = c.args.self.now.problem.now in
    let s = choices_of c.args.side in
    told_end c.args.i (play_at g (kind_of c.args.side) c.args.i c.args.self.now.values.items s c.args.moves.now) (stuck_at c.args.i) c.args.moves.now c.args.self.now.text.items c.put_stuck.new.out.items
    (own_stuck g (kind_of c.args.side) c.args.i c.args.self.now.values.items s c.args.moves.now c.args.owner c.requires.owner c.requires.own c.in_default.ensures.tree)
    refl c.in_ok-put_stuck.ensures

pub own_turn-go_on-requires : goal.own_turn-go_on-requires
own_turn-go_on-requires t c =
    let g = c.args.self.now.problem.now in
    let own = kind_of c.args.side in
    let i = c.args.i in
    let a = c.args.self.now.values.items in
    let s = choices_of c.args.side in
    let ms = c.args.moves.now in
    let taken : c.extend_from_slice.new.self.items ≡ a ++ c.in-Some.choice.tuple.now = c.in_ok-extend_from_slice.ensures.items ∙ ap (λ u. a ++ u) c.items-tuple.ensures in
    let r = own_stands g own (kind_of c.in-Some.choice.after) c.args.owner i (i + 1) a c.extend_from_slice.new.self.items s (choices_of c.in-Some.choice.after) ms (add-one i) c.in-Some.ensures.kind c.requires.owner
    c.in-Some.choice.tuple.now c.requires.own c.in-Some.ensures.tree taken c.known.ensures c.requires.numbers c.requires.sound in
    (omega arith, (omega arith, (r.0, r.1)))

pub own_turn-returns : goal.own_turn-returns
own_turn-returns t c =
    let g = c.args.self.now.problem.now in
    let own = kind_of c.args.side in
    let i = c.args.i in
    let a = c.args.self.now.values.items in
    let s = choices_of c.args.side in
    let ms = c.args.moves.now in
    let taken : c.extend_from_slice.new.self.items ≡ a ++ c.in-Some.choice.tuple.now = c.in_ok-extend_from_slice.ensures.items ∙ ap (λ u. a ++ u) c.items-tuple.ensures in
    own_told g own (kind_of c.in-Some.choice.after) c.args.owner i (i + 1) a c.extend_from_slice.new.self.items s (choices_of c.in-Some.choice.after) ms (add-one i) c.in-Some.ensures.kind c.requires.owner
    c.in-Some.choice.tuple.now c.requires.own c.in-Some.ensures.tree taken c.go_on.result c.args.self.now.text.items c.put_turn.new.out.items c.go_on.new.self.text.items
    (c.in_ok-put_turn.ensures ∙ ap (λ u. c.args.self.now.text.items ++ turn_line i c.args.owner u) c.items-tuple.ensures) c.go_on.ensures

pub go_on-returns-then-i-scopes : goal.go_on-returns-then-i-scopes
go_on-returns-then-i-scopes t c =
    let w = c.args.self.now in
    goal_told c.reach_goal.result w.problem.now (kind_of c.args.side) c.args.i w.values.items (choices_of c.args.side)
    c.args.moves.now w.text.items c.reach_goal.new.self.text.items
    (c.if-i-scopes.true ∙ c.scopes.ensures) c.reach_goal.ensures
