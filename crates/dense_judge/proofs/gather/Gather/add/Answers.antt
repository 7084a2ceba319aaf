use Rattle.std.proofs.Common.{rules, SFits, ◌++◌, ◌∷◌, [], sym, subst, w64}
use Rattle.std.proofs.lemmas.Int.{to_z-of_z}
use Rattle.dense_check.specs.Telling.{IsGathered}
use Rattle.dense_judge.specs.Gathered.{turned, longer}
use Rattle.dense_judge.specs.Gathering.{Keeps, Hands}
use Rattle.dense_judge.proofs.Added.{kept_line}
use Rattle.dense_judge.proofs.gather.Gather.add.Goals as goal

pub returns-clause-begun : goal.returns-clause-begun
returns-clause-begun c = λ p h.
    let k = kept_line c.args.self.now c.in-Some.line c.in-Some.is p h in
    let fits : SFits w64 c.args.value = search rules in
    subst (λ q. Keeps c.hand_on.new.self (turned (longer c.args.value q) c.args.last).begun) (sym k.1)
    (c.hand_on.ensures.begun (record (k.0) { tuple = k.0.tuple ++ c.args.value ∷ [] }) k.2
    (subst (λ v. IsGathered c.add.new.self (k.0.tuple ++ v ∷ [])) (to_z-of_z w64 c.args.value fits) (c.add.ensures k.0.tuple k.3)))

pub returns-clause-hands : goal.returns-clause-hands
returns-clause-hands c = λ p h.
    let k = kept_line c.args.self.now c.in-Some.line c.in-Some.is p h in
    let fits : SFits w64 c.args.value = search rules in
    subst (λ q. Hands c.hand_on.result c.hand_on.new.self.values (turned (longer c.args.value q) c.args.last).whole) (sym k.1)
    (c.hand_on.ensures.hands (record (k.0) { tuple = k.0.tuple ++ c.args.value ∷ [] }) k.2
    (subst (λ v. IsGathered c.add.new.self (k.0.tuple ++ v ∷ [])) (to_z-of_z w64 c.args.value fits) (c.add.ensures k.0.tuple k.3)))
