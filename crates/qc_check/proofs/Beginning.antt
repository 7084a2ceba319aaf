-- A node that is due: what its box is like, and that it begins in the piece.
use Rattle.std.proofs.Common.{◌≡◌, ◌≤◌, ◌<◌, ◌⊎◌, ℕ, List, [], ◌∷◌, length, take, refl, sym, ap, ◌∙◌, subst, arith, inl, inr, Some, ℤ}
use Rattle.std.proofs.lemmas.List.{length-map, length-take-le, drop_all}
use Rattle.qc_model.specs.Content.{Game}
use Rattle.qc_model.specs.Domains.{declared_box, domain_values, values_left}
use Rattle.qc_model.specs.Game.{before}
use Rattle.qc_model.proofs.Before.{before-le}
use Rattle.proof_tree.specs.declared.line.Line.{Line}
use Rattle.proof_text.specs.Answers.{Told}
use Rattle.likeness.specs.Likeness.{IsLike}
use Rattle.likeness.proofs.Likes.{like_fresh}
use Rattle.check_lines.specs.declared.machine.Machine.{Machine}
use Rattle.check_lines.specs.declared.open.Due.TheVariants as due_of
use Rattle.check_lines.specs.declared.passing.NodeDue.{NodeDue}
use Rattle.check_lines.specs.Awaited.{node_awaited}
use Rattle.check_lines.specs.Ledger.{Ledger}
use Rattle.check_lines.specs.LedgerHeld.{Tells as Stands, first_ledger, goes_through}
use Rattle.check_lines.specs.Machine.{game_of, IsReady, IsReadyAt, IsAtNode}
use Rattle.check_lines.specs.Passed.{IsDueIn, DueTold}
use Rattle.check_lines.specs.State.{start, run}
use Rattle.check_lines.specs.Telling.{Tells}
use Rattle.check_lines.specs.Under.{IsUnder}
use Rattle.check_lines.proofs.LedgerRight.{Follows, follows}
use Rattle.check_lines.proofs.Passed.{due_told}
use Rattle.box_laws.proofs.Readings.{box_size}
use Rattle.check_lines.proofs.SameTold.{the_same}
use Rattle.check_lines.proofs.Under.{under_here}
use Rattle.qc_check.specs.Checking.{lines_told}
use Rattle.qc_check.specs.Keeping.{GoesOn, IsStart, IsInside, AreStartsOf, ledger_told, IsKeeping, values_due}
use Rattle.qc_check.specs.declared.progress.Checker.{Checker}
use Rattle.qc_check.specs.declared.starts.Start.{Start}
use Rattle.qc_check.specs.Places.{StartHeld, rest}

-- at a node where later variables have all their values, the box is like the machine's first values
pub like_due : (m : Machine) → IsReady m → m.due ≡ due_of.Node →
    ((x : ℕ) → before (game_of m) m.number ≤ x → x < length m.remains.box → values_left m.remains.box x ≡ values_left (declared_box (game_of m)) x) →
    IsLike (game_of m) m.number (values_due m) m.remains.box
like_due m ready node fresh =
    let g = game_of m in
    let here : IsAtNode m = subst (IsReadyAt m) node ready in
    let size = box_size g m.remains.box here.sound.declared in
    let all : length (declared_box g) ≡ length g.variables = length-map g.variables (λ x. domain_values x.domain) in
    let few = before-le g m.number in
    like_fresh g m.number m.values.items m.remains.box here.sound.declared here.full (here.sound.placed here.full) (omega (arith, size, all, few)) fresh

-- the ledger of a machine whose node is due
pub record IsDueAt (m : Machine) (d : Ledger) : Type 0 where
  pub awaited : d.awaited ≡ node_awaited
  pub number : d.number ≡ m.number
  pub horizon : d.horizon ≡ m.horizon
  pub box : d.box ≡ m.remains.box
  pub depth : length d.entries ≡ length m.nesting
  pub turns : d.turns ≡ m.turns

pub due_at : (m : Machine) (d : Ledger) → m.due ≡ due_of.Node → Tells m (Some d) → IsDueAt m d
due_at m d node tells =
    let q : DueTold m (Some d) = due_told m (Some d) node tells in
    subst (IsDueAt m) (sym (the_same d q.ledger q.is))
    (record { awaited = q.awaited; number = q.number; horizon = q.horizon; box = q.box; depth = q.depth; turns = q.turns })

-- no line came yet since a node was due after these lines
pub due_under : (g : Game) (ls : List Line) (d : Ledger) → goes_through g (Some (first_ledger g)) ls ≡ Some d → d.awaited ≡ node_awaited → 0 < length d.entries → length d.entries ≤ 1000 → IsUnder g d [] d
due_under g ls d e w some few = under_here g (run g (start g) ls) d (subst (Follows g (run g (start g) ls)) e (follows g ls (start g) (Some (first_ledger g)) first)) w some few
  where
    first : Stands g (start g) (first_ledger g)
    first = (refl, refl, record { tally = record { in_place = refl; turns = refl; opens = refl }; frames = refl; place = refl })

-- the node that is due at this place, with this number of its position
abbrev pub begun : Machine → ℕ → NodeDue → ℕ → ℕ → StartHeld
begun m at due number count = record { start = record { at = at; node = due; number = number; count = count }; values = values_due m }

pub begins : (m : Machine) (told : Told) (due : NodeDue) (at number count : ℕ) (piece : List ℕ) (ss : List StartHeld) → IsDueIn m due → (due.depth ≡ 0 → ⊥) →
    IsLike (game_of m) due.scope (values_due m) m.remains.box → at ≤ length piece → Tells m (ledger_told (game_of m) told) → IsInside (begun m at due number count) ss →
    AreStartsOf GoesOn (game_of m) (take at piece) (ledger_told (game_of m) told) ss → AreStartsOf GoesOn (game_of m) (take at piece) (ledger_told (game_of m) told) (begun m at due number count ∷ ss)
begins m told due at number count piece ss is some like within tells inside others = λ d e. (here d e, inside, others d e)
  where
    here : (d : Ledger) → ledger_told (game_of m) told ≡ Some d → IsStart GoesOn (game_of m) (take at piece) d (begun m at due number count)
    here d e =
        let k = due_at m d is.due (subst (Tells m) e tells) in
        let deep : length d.entries ≡ due.depth = k.depth ∙ sym is.depth in
        let many = is.depth in
        let few = is.few in
        let long = length-take-le at piece within in
        record {
          ledger = d;
          lines = [];
          stands = due_under (game_of m) (lines_told told) d e k.awaited (omega (arith, deep, some)) (omega (arith, deep, many, few));
          scope = k.number ∙ sym is.scope;
          horizon = k.horizon ∙ sym is.horizon;
          depth = deep;
          turns = k.turns ∙ sym is.turns;
          within = omega (arith, long);
          text = drop_all at (take at piece) (omega (arith, long));
          fits = refl;
          looks = refl;
          like = subst (IsLike (game_of m) due.scope (values_due m)) (sym k.box) like;
        }

-- it begins within the nodes before it
pub within_none : (s : StartHeld) (ss : List StartHeld) → ss ≡ [] → IsInside s ss
within_none s ss e = subst (IsInside s) (sym e) tt

pub within_last : (s : StartHeld) (o : Start) (ss : List StartHeld) → ((values : List ℤ) × (ss ≡ record { start = o; values = values } ∷ rest ss)) → o.node.scope < s.start.node.scope → o.node.depth < s.start.node.depth → IsInside s ss
within_last s o ss (values, e) h k = subst (IsInside s) (sym e) (h, k)

-- where there was room for it the node is held
pub held : (c : Checker) (due : NodeDue) (at number count : ℕ) (vs : List ℤ) (front piece : List ℕ) (ss : List StartHeld) → IsDueIn c.machine due → (due.depth ≡ 0 → ⊥) →
    IsLike (game_of c.machine) due.scope (values_due c.machine) c.machine.remains.box → at ≤ length piece → vs ≡ values_due c.machine → IsInside (begun c.machine at due number count) c.starts →
    ((ss ≡ c.starts) ⊎ (ss ≡ record { start = record { at = at; node = due; number = number; count = count }; values = vs } ∷ c.starts)) → (k : IsKeeping c front piece at) →
    AreStartsOf GoesOn (game_of c.machine) (take at piece) (ledger_told (game_of c.machine) k.reading.told) ss
held c due at number count vs front piece ss is some like within here inside new k = by new
  where
    by : ((ss ≡ c.starts) ⊎ (ss ≡ record { start = record { at = at; node = due; number = number; count = count }; values = vs } ∷ c.starts)) →
        AreStartsOf GoesOn (game_of c.machine) (take at piece) (ledger_told (game_of c.machine) k.reading.told) ss
    by (inl e) = subst (AreStartsOf GoesOn (game_of c.machine) (take at piece) (ledger_told (game_of c.machine) k.reading.told)) (sym e) k.starts
    by (inr e) =
        let same : ss ≡ begun c.machine at due number count ∷ c.starts = e ∙ ap (λ us. record { start = record { at = at; node = due; number = number; count = count }; values = us } ∷ c.starts) here in
        subst (AreStartsOf GoesOn (game_of c.machine) (take at piece) (ledger_told (game_of c.machine) k.reading.told)) (sym same)
        (begins c.machine k.reading.told due at number count piece c.starts is some like within k.reading.tells.tells inside k.starts)
