-- What the types say of the machine values passed. Assumes `Logic`.
use mathlib.Core.List.{List}
use seplogic.Ra.Ura.{Ura}
use base.Logic.{SProp, ent, via, fst∗, snd∗}
use types.Logic.{Logic, sem}
use contract.Monad.{Fun, fact_use}
use denote.RattleType.{RattleType, owns}
use denote.Laws.{Are, Ises, owns_show, showss}
use denote.Signature.{types_at}
use denote.Triple.Clauses.{Clauses, Ended}
use denote.Triple.Entry.{on_entry, alive}
use denote.Triple.Walked.{Stays, walk_of}

module _ {M : Type 1} {𝓤 : Ura M} (𝓛 : Logic 𝓤) (T : Ended) (hs : Stays T.signature.params T.kept) (c : Clauses 𝓤 T) (run : Fun 𝓤) (y : (walk_of 𝓛 T hs c).Ghost) where
  abbrev Rs : List RattleType
  Rs = types_at T.signature.params y.0.0

  abbrev Goes : Type 1
  Goes = ent 𝓤 ((walk_of 𝓛 T hs c).pre y) (run ((walk_of 𝓛 T hs c).args y) ((walk_of 𝓛 T hs c).post y))

  pub knowing : (Are Rs (Ises Rs) y.0.3 y.0.4 → Goes) → Goes
  knowing k =
      let a = y.0.3 in let vss = y.0.4 in
      let entry : SProp 𝓤 = on_entry 𝓛 T.signature y.0.0 y.0.1 a vss in
      fact_use 𝓤 (Are Rs (Ises Rs) a vss) (via 𝓤 (sem 𝓛 (owns Rs a vss)) (via 𝓤 entry (fst∗ 𝓤 entry ((c y.0.0 a).requires y.1)) (snd∗ 𝓤 (alive 𝓛 T.signature y.0.0 y.0.1) (sem 𝓛 (owns Rs a vss))))
      (owns_show 𝓛 Rs (Ises Rs) (showss 𝓛 Rs) a vss)) k
