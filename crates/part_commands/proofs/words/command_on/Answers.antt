use Rattle.std.proofs.Common.{◌≡◌, ◌∙◌, ℕ, List, Bor, Some, None, drop, map, sym, ap, subst}
use Rattle.std.proofs.lemmas.List.{drop-map}
use Rattle.part_commands.specs.Words.{tail_asked, whole}
use Rattle.part_commands.specs.View.{keeps_seen, tail_seen, before_all, Fronts}
use Rattle.part_commands.proofs.Fronts.{front_wrong, before_whole, rest_of}
use Rattle.part_commands.proofs.words.command_on.Goals as goal

pub returns-in-Some-tail_in-clause-asked : goal.returns-in-Some-tail_in-clause-asked
returns-in-Some-tail_in-clause-asked c =
    let name = c.args.problem.now in
    let front = c.in-Some.front in
    let keeps = keeps_seen front.keeps.items in
    let told : Fronts (map (λ w. w.now) c.args.words.now) (Some front) = subst (Fronts (map (λ w. w.now) c.args.words.now)) c.in-Some.is c.in_ok-front.ensures.front in
    let tail : Some (tail_seen c.in-Some-tail_in.tail) ≡ tail_asked (map (λ w. w.now) (drop front.words c.args.words.now)) =
    subst (λ l. Some (tail_seen c.in-Some-tail_in.tail) ≡ tail_asked (map (λ w. w.now) l)) (rest_of front.words c.args.words.now) c.in-Some-tail_in.ensures.tail in
    sym (told.2 name
    ∙ ap (λ l. before_all keeps (whole name (tail_asked l))) (drop-map (λ (w : Bor (List ℕ)). w.now) front.words c.args.words.now)
    ∙ ap (λ t. before_all keeps (whole name t)) (sym tail)
    ∙ before_whole keeps name (tail_seen c.in-Some-tail_in.tail))

pub returns-clause-asked : goal.returns-clause-asked
returns-clause-asked c =
    let name = c.args.problem.now in
    let front = c.in-Some.front in
    let keeps = keeps_seen front.keeps.items in
    let told : Fronts (map (λ w. w.now) c.args.words.now) (Some front) = subst (Fronts (map (λ w. w.now) c.args.words.now)) c.in-Some.is c.in_ok-front.ensures.front in
    let tail : None ≡ tail_asked (map (λ w. w.now) (drop front.words c.args.words.now)) =
    subst (λ l. None ≡ tail_asked (map (λ w. w.now) l)) (rest_of front.words c.args.words.now) c.in-None.ensures.tail in
    sym (told.2 name
    ∙ ap (λ l. before_all keeps (whole name (tail_asked l))) (drop-map (λ (w : Bor (List ℕ)). w.now) front.words c.args.words.now)
    ∙ ap (λ t. before_all keeps (whole name t)) (sym tail)
    ∙ sym (front_wrong keeps))
