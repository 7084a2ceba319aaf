-- Ledgers line by line, on games that one can follow by hand.
use Rattle.std.proofs.Common.{◌≡◌, refl}
use Rattle.std.specs.Prelude.{ℕ, Bool, List, [], ◌∷◌, ◌++◌, true, false, Option, Some, None, is_some, pos, neg_ℤ, ℤ}
use Rattle.qc_model.specs.declared.problem.Kind.TheVariants.{Exists, Forall}
use Rattle.qc_model.specs.declared.problem.Sense.TheVariants.{Min, Max}
use Rattle.qc_model.specs.declared.problem.Arg.TheVariants.{Var}
use Rattle.qc_model.specs.declared.problem.Domain.TheVariants.{Bits, Range}
use Rattle.qc_model.specs.declared.problem.Pred.TheVariants.{IntLe, IntLt}
use Rattle.qc_model.specs.Content.{Game}
use Rattle.qc_model.specs.Verdict.{Verdict, lost, exact, at_most, unknown, Seen, seen_bound, seen_node}
use Rattle.proof_tree.proofs.Build.{var, scope, optimising, variable}
use Rattle.dense_tree.specs.Lines.{Line, given_line, named_line, horizon_line, goal_line, again_line, no_play_line, close_line, bound_line, reply_line, empty_line, best_line, next_line, chosen_line, branch_line, range_line, skip_line, open_line, dot_line}
use Rattle.dense_tree.specs.Read.{Known}
use Rattle.dense_tree.proofs.Words.{scope_id, game, of_variable, at, num, rule_two, sum_at_most}
use Rattle.dense_ledger.specs.Ledger.{Due, ranged_due, ended_due, Ledger, goes_through, first_ledger}

abbrev after : Game → List Line → Option Ledger
after g ls = goes_through g (Some (first_ledger g)) ls

-- what a ledger says at the end: what the root comes to, its turns, and whether a case is open
record Said : Type 0 where
  pub verdict : Verdict
  pub own : Option ℤ
  pub turns : ℕ
  pub has_open : Bool

abbrev said_at : Due → ℕ → Bool → Option Said
said_at (ended_due v own) n b = Some (record { verdict = v; own = own; turns = n; has_open = b })
said_at u n b = None

abbrev said : Option Ledger → Option Said
said None = None
said (Some d) = said_at d.due d.turns d.has_open

-- exists; var 0..3: most; forall; var 0..1: a; var 0..1: b; constraint int_lin_le([1,1],[a,b],1); exists; var 0..2: z;
-- constraint int_lin_le([1,1,-1],[a,b,z],0); goal; constraint int_le(z,most); constraint int_le(most,1); solve;
abbrev enough : Game
enough = game (scope Exists ∷ scope Forall ∷ scope Exists ∷ [])
    (variable 0 (Range (pos 0) (pos 3)) ∷ variable 1 Bits ∷ variable 1 Bits ∷ variable 2 (Range (pos 0) (pos 2)) ∷ [])
    (sum_at_most 1 (pos 1 ∷ pos 1 ∷ []) (Var (var 1) ∷ Var (var 2) ∷ []) (pos 1)
    ∷ sum_at_most 2 (pos 1 ∷ pos 1 ∷ neg_ℤ (pos 1) ∷ []) (Var (var 1) ∷ Var (var 2) ∷ Var (var 3) ∷ []) (pos 0)
    ∷ rule_two 3 IntLe (at 3) (at 0) ∷ rule_two 3 IntLe (at 0) (num (pos 1)) ∷ [])

-- u 2 0 0
abbrev always_none : Line
always_none = given_line (scope_id 1) (pos 0 ∷ pos 0 ∷ [])

-- c, v 1, s, n, v 2, v 3, n, v 4, n, g, s
abbrev first_but_dot : List Line
first_but_dot =
    close_line ∷ branch_line (var 0) ∷ skip_line ∷ next_line ∷ branch_line (var 1) ∷ branch_line (var 2)
    ∷ next_line ∷ branch_line (var 3) ∷ next_line ∷ goal_line ∷ skip_line ∷ []

-- .. .
abbrev first_lines : List Line
first_lines = first_but_dot ++ dot_line ∷ []

-- n, m, c, n, g, ., c, n, a 1, ., .
abbrev last_lines : List Line
last_lines =
    next_line ∷ named_line ∷ close_line ∷ next_line ∷ goal_line ∷ dot_line ∷ close_line ∷ next_line ∷ again_line 0 ∷ dot_line ∷ dot_line ∷ []

all_told : said (after enough (always_none ∷ (first_lines ++ last_lines))) ≡ Some (record { verdict = exact []; own = None; turns = 6; has_open = false })
all_told = refl

-- without its tuple the game isn't free: the first closing leaves z up to 2, and after z = 0 and z = 1 a dot comes too early
not_given_up_to : is_some (after enough first_but_dot) ≡ true
not_given_up_to = refl

not_given_dot : after enough first_lines ≡ None
not_given_dot = refl

not_given : after enough (first_lines ++ last_lines) ≡ None
not_given = refl

-- twice the same scope
given_twice : after enough (always_none ∷ always_none ∷ []) ≡ None
given_twice = refl

-- 1 and 1 aren't allowed
never_allowed : after enough (given_line (scope_id 1) (pos 1 ∷ pos 1 ∷ []) ∷ []) ≡ None
never_allowed = refl

-- no tuple stands behind the root's first line
given_late : after enough (close_line ∷ always_none ∷ []) ≡ None
given_late = refl

-- node 2 isn't there
wrong_number : after enough (always_none ∷ (first_lines ++ (next_line ∷ named_line ∷ close_line ∷ next_line ∷ goal_line ∷ dot_line ∷ close_line ∷ next_line ∷ again_line 1 ∷ []))) ≡ None
wrong_number = refl

-- without its last line nothing is said of the root, and no line may follow it
not_ended : said (after enough (always_none ∷ (first_lines ++ (next_line ∷ named_line ∷ close_line ∷ next_line ∷ goal_line ∷ dot_line ∷ close_line ∷ next_line ∷ again_line 0 ∷ dot_line ∷ [])))) ≡ None
not_ended = refl

no_line_after : after enough (always_none ∷ (first_lines ++ (last_lines ++ dot_line ∷ []))) ≡ None
no_line_after = refl

abbrev verdict_of : List Known → List (Option Verdict)
verdict_of [] = []
verdict_of (k ∷ ks) = k.verdict ∷ verdict_of ks

abbrev names : Option Ledger → List (Option Verdict)
names None = []
names (Some d) = verdict_of d.known

-- a node that is named is known where it begins, and its verdict where it ends
named_first : names (after enough (always_none ∷ (first_lines ++ (next_line ∷ named_line ∷ close_line ∷ [])))) ≡ None ∷ []
named_first = refl

told_later : names (after enough (always_none ∷ (first_lines ++ (next_line ∷ named_line ∷ close_line ∷ next_line ∷ goal_line ∷ [])))) ≡ Some (exact []) ∷ []
told_later = refl

-- it isn't told within itself
told_within : after enough (always_none ∷ (first_lines ++ (next_line ∷ named_line ∷ close_line ∷ next_line ∷ again_line 0 ∷ []))) ≡ None
told_within = refl

name_twice : after enough (always_none ∷ named_line ∷ named_line ∷ []) ≡ None
name_twice = refl

-- exists; var 0..1: x; constraint int_lt(x,0); goal; solve;
abbrev nobody_passes : Game
nobody_passes = game (scope Exists ∷ []) (variable 0 Bits ∷ []) (rule_two 0 IntLt (at 0) (num (pos 0)) ∷ [])

-- l 1, in place of the root; it has no name then, and no horizon
lost_at_once : said (after nobody_passes (no_play_line (scope_id 0) ∷ [])) ≡ Some (record { verdict = lost; own = None; turns = 0; has_open = false })
lost_at_once = refl

name_of_none : after nobody_passes (named_line ∷ no_play_line (scope_id 0) ∷ []) ≡ None
name_of_none = refl

horizon_of_none : after nobody_passes (horizon_line (scope_id 1) ∷ no_play_line (scope_id 0) ∷ []) ≡ None
horizon_of_none = refl

-- m, h 2, e: a name, and then a horizon; not the other way round
name_first : said (after nobody_passes (named_line ∷ horizon_line (scope_id 1) ∷ empty_line ∷ [])) ≡ Some (record { verdict = lost; own = None; turns = 0; has_open = false })
name_first = refl

name_second : after nobody_passes (horizon_line (scope_id 1) ∷ named_line ∷ []) ≡ None
name_second = refl

-- in a case the end `l 1` stands as such
dead_end : said (after nobody_passes (branch_line (var 0) ∷ no_play_line (scope_id 0) ∷ no_play_line (scope_id 0) ∷ dot_line ∷ [])) ≡ Some (record { verdict = lost; own = None; turns = 2; has_open = false })
dead_end = refl

abbrev due_after : Option Ledger → Option Due
due_after None = None
due_after (Some d) = Some d.due

-- v 1, r 1: a case of two values; and another r
range_first : due_after (after enough (branch_line (var 0) ∷ range_line (pos 1) ∷ [])) ≡ Some (ranged_due (pos 1))
range_first = refl

range_twice : after enough (branch_line (var 0) ∷ range_line (pos 1) ∷ range_line (pos 2) ∷ []) ≡ None
range_twice = refl

-- a case isn't of all values that are left
case_of_three : is_some (after enough (branch_line (var 0) ∷ range_line (pos 2) ∷ close_line ∷ [])) ≡ true
case_of_three = refl

case_of_all : after enough (branch_line (var 0) ∷ range_line (pos 3) ∷ close_line ∷ []) ≡ None
case_of_all = refl

-- v 1, s, .: three values are left
dot_early : after enough (branch_line (var 0) ∷ skip_line ∷ dot_line ∷ []) ≡ None
dot_early = refl

-- v 1, r 2, s, o, .: nothing is known, and a case is open
left_open : said (after enough (branch_line (var 0) ∷ range_line (pos 2) ∷ skip_line ∷ open_line ∷ dot_line ∷ [])) ≡ Some (record { verdict = unknown; own = None; turns = 0; has_open = true })
left_open = refl

-- exists maximize c; var 0..3: p; exists minimize c; var 0..1: b; var 0..6: c; constraint int_lin_le([1,-3,-1],[p,b,c],0);
-- constraint int_lin_le([2,-1],[b,c],0); goal; solve;
abbrev seller : Game
seller = game (optimising Max (of_variable 2) ∷ optimising Min (of_variable 2) ∷ [])
    (variable 0 (Range (pos 0) (pos 3)) ∷ variable 1 Bits ∷ variable 1 (Range (pos 0) (pos 6)) ∷ [])
    (sum_at_most 1 (pos 1 ∷ neg_ℤ (pos 3) ∷ neg_ℤ (pos 1) ∷ []) (Var (var 0) ∷ Var (var 1) ∷ Var (var 2) ∷ []) (pos 0)
    ∷ sum_at_most 1 (pos 2 ∷ neg_ℤ (pos 1) ∷ []) (Var (var 1) ∷ Var (var 2) ∷ []) (pos 0) ∷ [])

-- v 1, r 1, n, f 0 1, y
abbrev cheap : List Line
cheap = branch_line (var 0) ∷ range_line (pos 1) ∷ next_line ∷ reply_line (pos 0 ∷ pos 1 ∷ []) ∷ best_line ∷ []

-- c, v 3, n, g, r 6, b 3 3 6, e, .
abbrev pays_two : List Line
pays_two =
    close_line ∷ branch_line (var 2) ∷ next_line ∷ goal_line ∷ range_line (pos 6) ∷ bound_line (var 2) (pos 3) (pos 6) ∷ empty_line ∷ dot_line ∷ []

-- n, v 2, .., .., .
abbrev fair_price : List Line
fair_price = next_line ∷ branch_line (var 1) ∷ (pays_two ++ (pays_two ++ dot_line ∷ []))

-- n, f 1 2, y, .
abbrev dear : List Line
dear = next_line ∷ reply_line (pos 1 ∷ pos 2 ∷ []) ∷ best_line ∷ dot_line ∷ []

seller_told : said (after seller (cheap ++ (fair_price ++ dear))) ≡ Some (record { verdict = exact []; own = Some (pos 2); turns = 9; has_open = false })
seller_told = refl

abbrev seen_of : Option Ledger → List Seen
seen_of None = []
seen_of (Some d) = d.own.seen

-- the price 0 or 1 is a leaf of the seller's scope that bounds it; the price 2 one that is exact
bounded_leaf : seen_of (after seller cheap) ≡ seen_node (at_most (pos 1)) ∷ []
bounded_leaf = refl

exact_leaf : seen_of (after seller (cheap ++ fair_price)) ≡ seen_node (at_most (pos 1)) ∷ seen_node (exact (pos 2 ∷ [])) ∷ []
exact_leaf = refl

-- .. n, v 2, c, v 3, n, g, r 6, b 3 3 6: in the buyer's scope a leaf and a mark, and the seller's scope waits
mark_shown : seen_of (after seller (cheap ++ (next_line ∷ branch_line (var 1) ∷ close_line ∷ branch_line (var 2) ∷ next_line ∷ goal_line ∷ range_line (pos 6)
    ∷ bound_line (var 2) (pos 3) (pos 6) ∷ []))) ≡ seen_node (exact (pos 2 ∷ pos 2 ∷ [])) ∷ seen_bound (pos 3) ∷ []
mark_shown = refl

-- where each price is bounded alone nothing is known of what the seller reaches
only_bounds : said (after seller (cheap ++ (next_line ∷ best_line ∷ next_line ∷ reply_line (pos 1 ∷ pos 2 ∷ []) ∷ best_line ∷ dot_line ∷ [])))
    ≡ Some (record { verdict = unknown; own = None; turns = 3; has_open = false })
only_bounds = refl

-- forall; var 0..2: y; constraint int_le(1,y); exists; var 0..1: z; constraint int_le(y,z); goal; solve; lost by y = 2
abbrev too_great : Game
too_great = game (scope Forall ∷ scope Exists ∷ []) (variable 0 (Range (pos 0) (pos 2)) ∷ variable 1 Bits ∷ [])
    (rule_two 0 IntLe (num (pos 1)) (at 0) ∷ rule_two 1 IntLe (at 0) (at 1) ∷ [])

-- w 2, e; and w 1, v 2, s, n, g, .: the other tuples are skipped
taken_at_once : said (after too_great (chosen_line (pos 2 ∷ []) ∷ empty_line ∷ [])) ≡ Some (record { verdict = lost; own = None; turns = 0; has_open = false })
taken_at_once = refl

others_skipped : said (after too_great (chosen_line (pos 1 ∷ []) ∷ branch_line (var 1) ∷ skip_line ∷ next_line ∷ goal_line ∷ dot_line ∷ [])) ≡ Some (record { verdict = unknown; own = None; turns = 1; has_open = false })
others_skipped = refl

-- w 0: it isn't allowed
not_allowed : after too_great (chosen_line (pos 0 ∷ []) ∷ []) ≡ None
not_allowed = refl
