-- Ledgers that say the same are told by the same machines.
use Rattle.std.proofs.Common.{◌≡◌, ℕ, List, refl, sym, ap, ◌∙◌, subst, Option, Some, None, ℤ}
use Rattle.qc_model.specs.Domains.{Box}
use Rattle.qc_model.specs.Verdict.{Verdict, Seen}
use Rattle.check_lines.specs.declared.open.Due.{Due}
use Rattle.check_lines.specs.declared.open.Due.TheVariants as due
use Rattle.check_lines.specs.declared.machine.Machine.{Machine}
use Rattle.fd_store.specs.Held.{past_box}
use Rattle.check_lines.specs.Awaited.{Awaited, node_awaited, prune_awaited, body_awaited, part_awaited, case_awaited, ranged_awaited, none_awaited}
use Rattle.check_lines.specs.Ledger.{Ledger, Entry}
use Rattle.check_lines.specs.Machine.{before_of}
use Rattle.check_lines.specs.Telling.{node_at, part_at, node_ended, IsNodeEnd, TellsNode, TellsPart, TellsClosed, TellsEnd, TellsAt, Tells}
use Rattle.check_lines.specs.Passing.{Waits, IsSame}

-- a ledger says the same as itself
pub same_self : (d : Ledger) → IsSame d d
same_self d = record {
  box = λ w. refl;
  entries = refl;
  awaited = refl;
  number = λ w. refl;
  horizon = λ w. refl;
  seen = λ w. refl;
  before = λ w. refl;
  turns = refl;
  has_open = refl;
  ends = λ h. (refl, refl);
}

-- and what says the same as a second, which says the same as a third, says the same as that
pub same_through : (c d e : Ledger) → IsSame c d → IsSame d e → IsSame c e
same_through c d e p q =
    let on : Waits c → Waits d = λ w h. w (p.awaited ∙ h) in
    record {
      box = λ w. p.box w ∙ q.box (on w);
      entries = p.entries ∙ q.entries;
      awaited = p.awaited ∙ q.awaited;
      number = λ w. p.number w ∙ q.number (on w);
      horizon = λ w. p.horizon w ∙ q.horizon (on w);
      seen = λ w. p.seen w ∙ q.seen (on w);
      before = λ w. p.before w ∙ q.before (on w);
      turns = p.turns ∙ q.turns;
      has_open = p.has_open ∙ q.has_open;
      ends = λ h. let a = p.ends h in let b = q.ends (sym p.awaited ∙ h) in (a.0 ∙ b.0, a.1 ∙ b.1);
    }

pub the_same : (d e : Ledger) → ◌≡◌ {A = Option Ledger} (Some d) (Some e) → d ≡ e
the_same d e q = cc

node_form : (e : Ledger) (box : Box) (fs : List Entry) (u : Awaited) (i : ℕ) (h : Option ℕ) → e.box ≡ box → e.entries ≡ fs → e.awaited ≡ u → e.number ≡ i → e.horizon ≡ h →
    e ≡ record e { box = box; entries = fs; awaited = u; number = i; horizon = h }
node_form e box fs u i h p q r s t =
    ap (λ x. let c : Ledger = record e { box = x } in c) p
    ∙ (ap (λ x. let c : Ledger = record e { box = box; entries = x } in c) q
    ∙ (ap (λ x. let c : Ledger = record e { box = box; entries = fs; awaited = x } in c) r
    ∙ (ap (λ x. let c : Ledger = record e { box = box; entries = fs; awaited = u; number = x } in c) s
    ∙ ap (λ x. let c : Ledger = record e { box = box; entries = fs; awaited = u; number = i; horizon = x } in c) t)))

part_form : (e : Ledger) (xs : List Seen) (a : List ℤ) → e.seen ≡ xs → e.before ≡ a → e ≡ record e { seen = xs; before = a }
part_form e xs a p q =
    ap (λ x. let c : Ledger = record e { seen = x } in c) p
    ∙ ap (λ x. let c : Ledger = record e { seen = xs; before = x } in c) q

module _ (m : Machine) (d e : Ledger) (k : IsSame d e) where
  module _ (u : Awaited) (waits : u ≡ none_awaited → ⊥) where
    node_same : TellsNode m u (Some d) → TellsNode m u (Some e)
    node_same h =
        let fs = h.1 in
        let c : d ≡ node_at m h.0 fs u = the_same d (node_at m h.0 fs u) h.3 in
        let w : Waits d = λ x. waits (sym (ap (λ (c : Ledger). c.awaited) c) ∙ x) in (
          e,
          fs,
          record { counts = (sym k.turns ∙ (ap (λ (c : Ledger). c.turns) c ∙ h.2.counts.0), sym k.has_open ∙ (ap (λ (c : Ledger). c.has_open) c ∙ h.2.counts.1)); entries = h.2.entries },
          ap Some (node_form e m.remains.box fs u m.number m.horizon
              (sym (k.box w) ∙ ap (λ (c : Ledger). c.box) c)
              (sym k.entries ∙ ap (λ (c : Ledger). c.entries) c)
              (sym k.awaited ∙ ap (λ (c : Ledger). c.awaited) c)
              (sym (k.number w) ∙ ap (λ (c : Ledger). c.number) c)
              (sym (k.horizon w) ∙ ap (λ (c : Ledger). c.horizon) c)),
        )

    part_same : TellsPart m u (Some d) → TellsPart m u (Some e)
    part_same h =
        let fs = h.1 in
        let xs = h.2 in
        let c : d ≡ part_at m h.0 fs xs u = the_same d (part_at m h.0 fs xs u) h.4 in
        let w : Waits d = λ x. waits (sym (ap (λ (c : Ledger). c.awaited) c) ∙ x) in (
          e,
          fs,
          xs,
          record {
            counts = (sym k.turns ∙ (ap (λ (c : Ledger). c.turns) c ∙ h.3.counts.0), sym k.has_open ∙ (ap (λ (c : Ledger). c.has_open) c ∙ h.3.counts.1));
            entries = h.3.entries;
            stands = h.3.stands;
          },
          ap Some (
              part_form e xs (before_of m) (sym (k.seen w) ∙ ap (λ (c : Ledger). c.seen) c) (sym (k.before w) ∙ ap (λ (c : Ledger). c.before) c)
              ∙ node_form (record e { seen = xs; before = before_of m }) m.remains.box fs u m.number m.horizon
              (sym (k.box w) ∙ ap (λ (c : Ledger). c.box) c)
              (sym k.entries ∙ ap (λ (c : Ledger). c.entries) c)
              (sym k.awaited ∙ ap (λ (c : Ledger). c.awaited) c)
              (sym (k.number w) ∙ ap (λ (c : Ledger). c.number) c)
              (sym (k.horizon w) ∙ ap (λ (c : Ledger). c.horizon) c)
              ),
        )

  end_same : TellsEnd m (Some d) → TellsEnd m (Some e)
  end_same h =
      let c : d ≡ h.0 = the_same d h.0 h.2 in
      let ended : d.awaited ≡ none_awaited = ap (λ (c : Ledger). c.awaited) c ∙ h.1.ends in (
        e,
        record {
          ends = sym k.awaited ∙ ended;
          verdict = sym (k.ends ended).0 ∙ (ap (λ (c : Ledger). c.verdict) c ∙ h.1.verdict);
          own = sym (k.ends ended).1 ∙ (ap (λ (c : Ledger). c.own) c ∙ h.1.own);
          counts = (sym k.turns ∙ (ap (λ (c : Ledger). c.turns) c ∙ h.1.counts.0), sym k.has_open ∙ (ap (λ (c : Ledger). c.has_open) c ∙ h.1.counts.1));
        },
        refl,
      )

  closed_same : TellsClosed m (Some d) → TellsClosed m (Some e)
  closed_same h =
      let c : d ≡ h.4 = the_same d h.4 h.7 in
      (h.0, h.1, h.2, h.3, e, h.5, same_through (node_ended m h.1 h.2 h.3) h.4 e h.6 (subst (λ b. IsSame b e) c k), refl)

  due_same : (u : Due) → TellsAt m u (Some d) → TellsAt m u (Some e)
  due_same due.Node h = node_same node_awaited (λ q. cc) h
  due_same (due.Prune n mark) h = node_same (prune_awaited n (past_box m.remains mark.at)) (λ q. cc) h
  due_same due.Body h = node_same body_awaited (λ q. cc) h
  due_same due.Part h = part_same part_awaited (λ q. cc) h
  due_same due.Case h = part_same case_awaited (λ q. cc) h
  due_same (due.Ranged high) h = part_same (ranged_awaited high) (λ q. cc) h
  due_same due.Closed h = closed_same h
  due_same due.Ended h = end_same h
  due_same due.Wrong h = let q : ◌≡◌ {A = Option Ledger} (Some d) None = h in cc

-- what a machine tells of one it tells of the other
pub tells_same : (m : Machine) (d e : Ledger) → IsSame d e → Tells m (Some d) → Tells m (Some e)
tells_same m d e k h = due_same m d e k m.due h

-- a node that has ended is told as it is
pub closed_tells : (m : Machine) (n : ℕ) (d : Ledger) (es : List Entry) (v : Verdict) → IsNodeEnd n m d es v → Tells (record m { due = due.Closed }) (Some (node_ended m d es v))
closed_tells m n d es v p = (
  n,
  d,
  es,
  v,
  node_ended m d es v,
  record { few = p.few; node = record { counts = p.node.counts; entries = p.node.entries }; verdict = p.verdict; sizes = p.sizes },
  same_self (node_ended m d es v),
  refl,
)

-- what is told of a node that has ended is told once it is left
pub left_tells : (m new : Machine) (p : Option Ledger) → m.due ≡ due.Closed → ((n : ℕ) (d : Ledger) (es : List Entry) (v : Verdict) → IsNodeEnd n m d es v → Tells new (Some (node_ended m d es v))) → Tells m p → Tells new p
left_tells m new p closed f t =
    let h : TellsClosed m p = subst (λ u. TellsAt m u p) closed t in
    subst (Tells new) (sym h.7) (tells_same new (node_ended m h.1 h.2 h.3) h.4 h.6 (f h.0 h.1 h.2 h.3 h.5))
