-- What is open, as the store goes on or back and as joins and tallies of later scopes change.
use Rattle.std.proofs.Common.{◌≡◌, ℕ, ◌<◌, ◌≤◌, List, [], ◌∷◌, slice_get, sym, ap, ◌∙◌, subst, arith}
use Rattle.qc_model.specs.Content.{Game}
use Rattle.qc_model.specs.Domains.{Box, values_left}
use Rattle.qc_model.specs.Demands.{demands}
use Rattle.qc_model.specs.Verdict.{Seen}
use Rattle.joins.specs.Joins.{StandsAt}
use Rattle.joins.specs.declared.joins.Joins.{Joins}
use Rattle.fd_store.specs.Held.{Held, past_box, values_from}
use Rattle.dense_ledger.specs.Ledger.{Own, Frame, waiting, forked, Entry as EntryTold, Fork as ForkTold}
use Rattle.dense_nest.specs.declared.place.Entry.{Entry}
use Rattle.dense_nest.specs.declared.place.Fork.{Fork}
use Rattle.dense_nest.specs.declared.place.Open.{Open}
use Rattle.dense_nest.specs.declared.place.Open.TheVariants.{Waiting, Forked}
use Rattle.dense_nest.specs.declared.told.Tally.{Tally}
use Rattle.dense_nest.specs.Places.{place_at, part_spot, spot_below, entry_told, fork_told, IsFull, IsEntry, IsFork}
use Rattle.dense_nest.specs.Tallies.{HasTally}
use Rattle.dense_nest.specs.Telling.{IsOwn, AreFrames}

-- the boxes of the first n places of the trail, and of their end, are the same
abbrev pub KeepsTo : ℕ → Held → Held → Type 0
KeepsTo n s t = (k : ℕ) → k ≤ n → past_box t k ≡ past_box s k

-- the joins and tallies of the scopes before the i-th are the same
abbrev pub KeepsJoins : ℕ → Joins → Joins → Type 0
KeepsJoins i js ks = (j : ℕ) (xs : List Seen) → j < i → StandsAt js j xs → StandsAt ks j xs

abbrev pub KeepsTallies : ℕ → List Tally → List Tally → Type 0
KeepsTallies i ts us = (j : ℕ) → j < i → slice_get ts j ≡ slice_get us j

entry_with : Game → Entry → Box → EntryTold
entry_with g e box = record { begin = place_at g e.spot box; place = place_at g (spot_below e) box; named = e.named; chosen = e.chosen }

fork_with : Game → Entry → Fork → Box → ForkTold
fork_with g e k box = record { place = place_at g (part_spot e k.bounded) box; variable = k.x.0; left = values_from k.from (values_left box k.x.0) }

module _ (g : Game) where
  pub entry_same : (s t : Held) (n m : ℕ) (e : Entry) → n ≤ m → KeepsTo n s t → IsEntry g s n e → IsEntry g t m e
  entry_same s t n m e l f h =
      let p = h.at in
      record { inside = h.inside; above = h.above; horizon = h.horizon; at = omega (arith, p, l); box = subst (IsFull g) (sym (f e.mark.at p)) h.box }

  pub entry_told_same : (s t : Held) (n : ℕ) (e : Entry) → e.mark.at ≤ n → KeepsTo n s t → entry_told g t e ≡ entry_told g s e
  unfolding entry_with
  entry_told_same s t n e l f = ap (entry_with g e) (f e.mark.at l)

  pub fork_same : (s t : Held) (n m : ℕ) (e : Entry) (k : Fork) → n ≤ m → KeepsTo n s t → IsFork g s n e k → IsFork g t m e k
  fork_same s t n m e k l f h =
      let p = h.at in
      record { after = h.after; at = omega (arith, p, l); variable = h.variable; box = subst (IsFull g) (sym (f k.mark.at p)) h.box }

  pub fork_told_same : (s t : Held) (n : ℕ) (e : Entry) (k : Fork) → k.mark.at ≤ n → KeepsTo n s t → fork_told g t e k ≡ fork_told g s e k
  unfolding fork_with
  fork_told_same s t n e k l f = ap (fork_with g e k) (f k.mark.at l)

  -- a scope's own tree, where its join and its tally are kept
  pub own_same : (s t : Held) (js ks : Joins) (ts us : List Tally) (n : ℕ) (e : Entry) (o : Own) → e.mark.at ≤ n → KeepsTo n s t →
      (StandsAt js e.spot.number o.seen → StandsAt ks e.spot.number o.seen) → slice_get ts e.spot.number ≡ slice_get us e.spot.number → IsOwn g s js ts e o → IsOwn g t ks us e o
  own_same s t js ks ts us n e o l f stands tally h = record {
    entry = h.entry ∙ sym (entry_told_same s t n e l f);
    scope = h.scope;
    stands = stands h.stands;
    long = h.long;
    tally = subst (HasTally (demands g e.spot.number) o.seen o.bests) tally h.tally;
  }

  -- marks may be taken later
  pub frames_same : (s t : Held) (js ks : Joins) (ts us : List Tally) (e : Entry) (n m : ℕ) (os : List Open) (fs : List Frame) → n ≤ m → KeepsTo n s t → KeepsJoins e.spot.number js ks → KeepsTallies e.spot.number ts us →
      e.mark.at ≤ n → AreFrames g s js ts e n os fs → AreFrames g t ks us e m os fs
  frames_same s t js ks ts us e n m [] [] l f j y at h = tt
  frames_same s t js ks ts us e n m [] (x ∷ fs) l f j y at h = h
  frames_same s t js ks ts us e n m (Waiting up ∷ os) [] l f j y at h = h
  frames_same s t js ks ts us e n m (Waiting up ∷ os) (forked b ∷ fs) l f j y at h = h
  frames_same s t js ks ts us e n m (Waiting up ∷ os) (waiting o ∷ fs) l f j y at h =
      let below = h.2 in
      let p = h.1.at in
      let less : up.spot.number < e.spot.number = omega (arith, below) in
      let kept : KeepsTo e.mark.at s t = λ k q. f k (omega (arith, q, at)) in (
        own_same s t js ks ts us e.mark.at up o p kept (j up.spot.number o.seen less) (y up.spot.number less) h.0,
        entry_same s t e.mark.at e.mark.at up (omega arith) kept h.1,
        h.2,
        frames_same s t js ks ts us up e.mark.at e.mark.at os fs (omega arith) kept (λ i xs q. j i xs (omega (arith, q, less))) (λ i q. y i (omega (arith, q, less))) p h.3,
      )
  frames_same s t js ks ts us e n m (Forked k ∷ os) [] l f j y at h = h
  frames_same s t js ks ts us e n m (Forked k ∷ os) (waiting o ∷ fs) l f j y at h = h
  frames_same s t js ks ts us e n m (Forked k ∷ os) (forked b ∷ fs) l f j y at h =
      let p = h.1.at in
      let kept : KeepsTo k.mark.at s t = λ i q. f i (omega (arith, q, p)) in (
        h.0 ∙ sym (fork_told_same s t n e k p f),
        fork_same s t n m e k l f h.1,
        frames_same s t js ks ts us e k.mark.at k.mark.at os fs (omega arith) kept j y h.1.after h.2,
      )
