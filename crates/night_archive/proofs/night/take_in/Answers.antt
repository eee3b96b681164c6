use Rattle.std.proofs.Common.{◌==◌, false, not, refl, sym, ap, ◌∙◌}
use Rattle.std.specs.Prelude.{is_none}
use Rattle.std.proofs.lemmas.Bool.{eq-eqb, false≢true, and_parts, cond-false, not-true}
use Rattle.night_archive.specs.Clerk.{View, view, is_asked}
use Rattle.night_archive.proofs.Nights.{refused_told, refused_settled}
use Rattle.night_archive.proofs.night.take_in.Goals as goal

pub ask-requires : goal.ask-requires
ask-requires g c = record { over = c.requires.over }

pub is_same-requires : goal.is_same-requires
is_same-requires g c =
    let told = rw c.in-Some.is at c.in_ok-pgn.ensures.told in
    record { told = told c.args.game ∙ eq-eqb c.args.game c.args.game refl }

pub put-requires : goal.put-requires
put-requires g c =
    let game = c.args.game in
    let old : View = view c.args.clerk.now in
    let told = rw c.in-Some.is at c.in_ok-pgn.ensures.told in
    let puts = sym c.in_ok-came.ensures.0 ∙ c.if-branch.true in record {
      over = c.is_same.ensures.over game ∙ (c.ask.ensures.over game ∙ c.requires.over);
      new = c.is_same.ensures.safe game
          ∙ (c.ask.ensures.safe game
          ∙ (sym (c.requires.asking.has game)
          ∙ not-true (old.has game) (and_parts (is_asked (old.stage game)) (not (old.has game)) puts).1));
      told = c.is_same.ensures.told game c.in-Some.pgn ∙ (told game ∙ eq-eqb game game refl);
    }

pub returns-in_default : goal.returns-in_default
returns-in_default g c =
    let game = c.args.game in
    let night = c.args.night.now in
    let asked = c.ask.new.self in
    let old : View = view c.args.clerk.now in
    let new : View = view c.refused.new.self in record {
      over = c.ask.ensures.over;
      told = refused_told game old new c.refused.ensures (g.N.Night.is_safe night) (g.N.Night.is_safe asked)
          (g.N.Night.is_matched night) (g.N.Night.is_matched asked) c.requires.asking c.ask.ensures.safe c.ask.ensures.matched;
      there = λ e. absurd (false≢true e);
      left = λ e. c.in_ok-pgn.ensures.left (ap is_none c.in_default.is);
      safe = λ n h. c.ask.ensures.safe n ∙ h;
      later = c.ask.ensures.later;
      drops = c.ask.ensures.drops;
      settled = refused_settled game old new c.refused.ensures (g.N.Night.drops_games night) (g.N.Night.drops_games asked)
          (g.N.Night.is_settled night) (g.N.Night.is_settled asked) c.requires.settled c.ask.ensures.drops c.ask.ensures.settled;
      seen = λ e. absurd (false≢true e);
      others = λ n other. c.ask.ensures.settled n ∙ cond-false (game == n) false (g.N.Night.is_settled night n) other;
    }
