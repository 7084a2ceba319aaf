use Rattle.std.proofs.Common.{◌≡◌, ◌∙◌, ◌+◌, ◌++◌, ◌∷◌, [], ℕ, List, drop, map, sym, ap, subst, Bor, Some}
use Rattle.std.proofs.lemmas.List.{drop-map, length-map}
use Rattle.part_commands.specs.declared.words.Begin.TheVariants.{Keep, Wrong, Other}
use Rattle.part_commands.specs.Words.{rest_asked, tail_asked, whole, put_before}
use Rattle.part_commands.specs.View.{kept_seen, keeps_seen, before_all, AreRanges, BeginsWith}
use Rattle.part_commands.proofs.Fronts.{front_more, front_wrong, ranges_more, four_on, four_within, rest_of}
use Rattle.part_commands.proofs.words.keeps_in.Goals as goal

pub keeps-preserved : goal.keeps-preserved
keeps-preserved c =
    let kept = c.in-Keep.kept in
    let keeps = c.keeps.keeps.items in
    let ws = c.args.words.now in
    let more : c.push.new.self.items ≡ keeps ++ kept ∷ [] = c.in_ok-push-in-Keep.ensures.items in
    let begins : BeginsWith (map (λ w. w.now) (drop c.keeps.at ws)) (Keep kept) =
    subst (λ l. BeginsWith (map (λ w. w.now) l) (Keep kept)) (rest_of c.keeps.at ws) c.in-Keep.ensures in
    record {
      within = four_within ws c.keeps.at begins.0;
      ranges = subst AreRanges (sym more) (ranges_more keeps kept c.keeps.invariant.ranges begins.1);
      fronts = λ name.
          subst (λ ks. rest_asked name (map (λ w. w.now) ws) ≡ before_all (keeps_seen ks) (rest_asked name (map (λ w. w.now) (drop (c.keeps.at + 4) ws)))) (sym more)
          (front_more keeps kept (rest_asked name (map (λ w. w.now) ws)) (rest_asked name (map (λ w. w.now) (drop c.keeps.at ws))) (rest_asked name (map (λ w. w.now) (drop (c.keeps.at + 4) ws)))
          (c.keeps.invariant.fronts name)
          (begins.2 name ∙ ap (λ l. put_before (Some (kept_seen kept)) (rest_asked name l)) (four_on ws c.keeps.at)));
    }

pub returns-in-Wrong-clause-front : goal.returns-in-Wrong-clause-front
returns-in-Wrong-clause-front c =
    let begins : BeginsWith (map (λ w. w.now) (drop c.keeps.at c.args.words.now)) Wrong =
    subst (λ l. BeginsWith (map (λ w. w.now) l) Wrong) (rest_of c.keeps.at c.args.words.now) c.in-Wrong.ensures in
    λ name. c.keeps.invariant.fronts name ∙ ap (before_all (keeps_seen c.keeps.keeps.items)) (begins name) ∙ sym (front_wrong (keeps_seen c.keeps.keeps.items))

pub returns-in-Other-clause-front : goal.returns-in-Other-clause-front
returns-in-Other-clause-front c =
    let ws = c.args.words.now in
    let keeps = keeps_seen c.keeps.keeps.items in
    let begins : BeginsWith (map (λ w. w.now) (drop c.keeps.at ws)) Other =
    subst (λ l. BeginsWith (map (λ w. w.now) l) Other) (rest_of c.keeps.at ws) c.in-Other.ensures in (
      simp length-map c.keeps.invariant.within,
      c.keeps.invariant.ranges,
      λ name. c.keeps.invariant.fronts name ∙ ap (before_all keeps) (begins name)
          ∙ ap (λ l. before_all keeps (whole name (tail_asked l))) (sym (drop-map (λ (w : Bor (List ℕ)). w.now) c.keeps.at ws)),
    )
