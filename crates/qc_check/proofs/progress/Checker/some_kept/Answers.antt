use Rattle.std.proofs.Common.{◌∙◌, refl, sym, subst, take, ◌+◌, ◌++◌, ◌∷◌, []}
use Rattle.std.specs.Prelude.{slice_index, drop}
use Rattle.qc_check.specs.Checking.{IsChecking, IsCheckingBy, IsReading}
use Rattle.qc_check.proofs.Kept.{whole_at, byte_here, bytes_here, keeps_none}
use Rattle.qc_check.proofs.Steps.{still_stopped}
use Rattle.qc_check.proofs.progress.Checker.some_kept.Goals as goal

pub read_line-requires-clause-some : goal.read_line-requires-clause-some
read_line-requires-clause-some c =
    let w = c.requires.some in
    let i = c.in-Some in
    (w.0, whole_at c.args.self.now _ w.0 c.args.bytes.now c.args.at i.size i.line refl refl refl refl c.requires.more i.ensures.line i.ensures.stands i.ensures.says w.1)

pub returns-in-Some-clause-keeping : goal.returns-in-Some-clause-keeping
returns-in-Some-clause-keeping c = λ front k.
    let i = c.in-Some in
    c.read_line.ensures.keeping front (whole_at c.args.self.now _ front c.args.bytes.now c.args.at i.size i.line refl refl refl refl c.requires.more i.ensures.line i.ensures.stands i.ensures.says k)

pub returns-in-None-stop-clause-keeping : goal.returns-in-None-stop-clause-keeping
returns-in-None-stop-clause-keeping c = λ front k.
    let old = c.args.self.now in
    let bytes = c.args.bytes.now in
    let here = front ++ take c.args.at bytes in
    let there = subst (λ r. IsReading r old.machine old.head old.read here) (sym c.in-None.ensures.line) k.reading in
    let next = c.next.ensures.checking here (rw c.requires.going there) in
    keeps_none c.next.new.self front bytes (c.args.at + 1) (here ++ slice_index bytes c.args.at ∷ []) c.in-None-stop.is (c.next.ensures.starts ∙ c.clear.ensures) (byte_here front bytes c.args.at c.requires.more) next

pub returns-in-Some-stop-clause-stopped : goal.returns-in-Some-stop-clause-stopped
returns-in-Some-stop-clause-stopped c = λ front k.
    let old = c.args.self.now in
    let after = c.next.new.self in
    let bytes = c.args.bytes.now in
    let here = front ++ take c.args.at bytes in
    let there = subst (λ r. IsReading r old.machine old.head old.read here) (sym c.in-None.ensures.line) k.reading in
    let next = c.next.ensures.checking here (rw c.requires.going there) in
    let stopped = subst (λ s. IsCheckingBy s after (here ++ slice_index bytes c.args.at ∷ [])) c.in-Some-stop.is next in
    subst (λ bs. IsChecking after bs) (bytes_here front bytes c.args.at c.requires.more)
    (subst (λ s. IsCheckingBy s after ((here ++ slice_index bytes c.args.at ∷ []) ++ drop (c.args.at + 1) bytes)) (sym c.in-Some-stop.is) (still_stopped _ _ (here ++ slice_index bytes c.args.at ∷ []) (drop (c.args.at + 1) bytes) stopped))
