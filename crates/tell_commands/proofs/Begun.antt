-- What is answered for how a certificate begins, from its last step to its first.
use Rattle.std.proofs.Common.{◌≡◌, ℕ, ℤ, List, ◌++◌, Option, inl, inr, refl, subst}
use Rattle.std.specs.Prelude.{IsTrue, codes, decimal}
use Rattle.qc_model.specs.declared.problem.Kind.{Kind}
use Rattle.qc_model.specs.declared.problem.Kind.TheVariants.{Exists, Forall}
use Rattle.qc_model.specs.Content.{Game}
use Rattle.qc_model.specs.Plan.{Plan as Choices}
use Rattle.proof_tree.specs.declared.tree.Outcome.{Outcome}
use Rattle.proof_tree.specs.Tree.{Tree}
use Rattle.proof_tree.specs.Proves.{proves}
use Rattle.proof_text.specs.Laws.{NeverBoth, IsOneCertificate}
use Rattle.qc_play.specs.declared.plan.Plan.{Plan}
use Rattle.qc_play.specs.declared.counter.Counter.{Counter}
use Rattle.qc_play.specs.Shape.{plan_of, tree_of_counter}
use Rattle.qc_play.specs.Made.{IsPlanOf, IsCounterOf}
use Rattle.qc_play.specs.Evidence.{IsLeftOpen}
use Rattle.qecode_commands.specs.declared.status.Status.{Status}
use Rattle.qecode_commands.specs.declared.status.Status.TheVariants.{Done, NotProved, Open, Memory, ReadFault}
use Rattle.qecode_commands.specs.Complete.{TellsSide}
use Rattle.qecode_commands.specs.Plays.{shown_tree, ShowsSide}
use Rattle.qecode_commands.proofs.Played.{plan_side, counter_side, certificate_before}
use Rattle.qecode_commands.proofs.PlaysDone.{never_uncertified, one_certificate, not_open}
use Rattle.tell_commands.specs.Opening.{BeginsWith, BeginsCertificate, BeginsFile}

-- more was given before
pub begins_before : (gave gave' : ℕ → Type 0) → ((n : ℕ) → gave n → gave' n) → (name : List ℕ) (told : Option (List ℕ)) (g : Game) (s : Status) (t : List ℕ) →
    BeginsFile name told gave g s t → BeginsFile name told gave' g s t
begins_before gave gave' f name told g s t h = elim h [ inl d ↦ inl (certificate_before gave gave' f name told s t d) | inr b ↦ inr b ]

module _ (g : Game) (outcome : Outcome) (optimum : Option ℤ) (root : Tree) where
  by_side : (own : Kind) (tree : Choices) → ShowsSide g outcome optimum root own → tree ≡ shown_tree g root own →
      (s : Status) (t : List ℕ) → BeginsWith outcome optimum own tree g s t → BeginsCertificate outcome optimum root g s t
  by_side own tree shows e Done t h = record { own = own; shows = shows; lines = subst (λ q. BeginsWith outcome optimum own q g Done t) e h }
  by_side own tree shows e Memory t h = h
  by_side own tree shows e s t h = absurd h

  pub plan_begun : (plan : Plan) → IsPlanOf g outcome optimum root plan → (s : Status) (t : List ℕ) → BeginsWith outcome optimum Exists (plan_of plan) g s t → BeginsCertificate outcome optimum root g s t
  plan_begun plan m = by_side Exists (plan_of plan) (plan_side g outcome optimum root plan m) m.reading

  pub counter_begun : (counter : Counter) → IsCounterOf g outcome optimum root counter → (s : Status) (t : List ℕ) → BeginsWith outcome optimum Forall (tree_of_counter counter) g s t → BeginsCertificate outcome optimum root g s t
  counter_begun counter m = by_side Forall (tree_of_counter counter) (counter_side g outcome optimum root counter m) m.reading

  pub left_open : (n : ℕ) → IsLeftOpen g outcome optimum root n → (s : Status) (t : List ℕ) → (s ≡ Open) × (t ≡ codes "open " ++ decimal n ++ codes "\n") → BeginsCertificate outcome optimum root g s t
  left_open n m s t is = rw is.0 (record { proves = m.proves; turns = n; outcome_is = m.outcome_is; line = is.1 })

  pub not_shown : ¬ (IsTrue (proves g outcome optimum root)) → (s : Status) (t : List ℕ) → (s ≡ NotProved) × (t ≡ codes "no\n") → BeginsCertificate outcome optimum root g s t
  not_shown fails s t is = rw is.0 (record { fails = fails; line = is.1 })

certificate_done : (side : Option (List ℕ)) (g : Game) (own : Kind) (root : Tree) → (tells : TellsSide side g own root) →
    (s : Status) (t : List ℕ) → BeginsCertificate tells.outcome tells.optimum root g s t → ¬ (s ≡ Memory) → s ≡ Done
certificate_done side g own root tells Done t h m = refl
certificate_done side g own root tells NotProved t h m = absurd (h.fails tells.proved)
certificate_done side g own root tells Open t h m = absurd (not_open tells.outcome own h.turns tells.side h.outcome_is)
certificate_done side g own root tells Memory t h m = absurd (m refl)
certificate_done side g own root tells s t h m = absurd h

-- of a certificate that proves its outcome it is told how it begins
pub begins_done : NeverBoth → IsOneCertificate → (name : List ℕ) (told : Option (List ℕ)) (gave : ℕ → Type 0) (g : Game) (own : Kind) (root : Tree) → TellsSide told g own root →
    (s : Status) (t : List ℕ) → BeginsFile name told gave g s t → ¬ (s ≡ Memory) → ¬ (s ≡ ReadFault) → s ≡ Done
begins_done never one name told gave g own root tells s t h m r =
    elim h [
      | inl d ↦ absurd (never_uncertified never name told gave g own root tells s t d m r)
      | inr (o, p, q, of, k) ↦
          let same = one_certificate one told g own root o p q tells of in
          certificate_done told g own root tells s t
          (subst (λ x. BeginsCertificate tells.outcome tells.optimum x g s t) same.2
          (subst (λ x. BeginsCertificate tells.outcome x q g s t) same.1
          (subst (λ x. BeginsCertificate x p q g s t) same.0 k))) m
    ]
