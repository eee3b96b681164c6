use Rattle.std.proofs.Common.{◌∙◌, ap}
use Rattle.chess_game.specs.declared.sides.Sides.{Sides}
use Rattle.chess_game.specs.Scoresheet.{ScoresheetState}
use Rattle.chess_game.proofs.Shown.{Shows-kept, IsGame-kept}
use Rattle.chess_game.proofs.StoredLemmas.{IsSeatOf-stored, told-none, told-some}
use Rattle.chess_game.proofs.games.Game.head.Goals as goal
use Rattle.chess_game.proofs.games.Game.head.Goals.{in-None, in-Some}

pub returns : goal.returns
returns c =
    let game = c.args.self.now in
    let shows = Shows-kept c.self.inside game c.self.view_is c.self.invariant in
    let ends = ap (λ (sides : Sides). sides.ending) shows.sides in
    record {
      number = shows.number;
      moment = c.moment.ensures;
      moves = c.ply.ensures.ply;
      control = shows.control;
      start = c.start.ensures ∙ ap (λ (line : ScoresheetState). line.start) shows.line;
      white = IsSeatOf-stored c.self.inside.sides.white game.white c.stored_seat.result c.held.result
          c.stored_seat.ensures (ap (λ (sides : Sides). sides.white) shows.sides) c.held.ensures;
      black = IsSeatOf-stored c.self.inside.sides.black game.black c.stored_seat-2.result c.held-2.result
          c.stored_seat-2.ensures (ap (λ (sides : Sides). sides.black) shows.sides) c.held-2.ensures;
      claimed = ap (λ (sides : Sides). sides.claimed) shows.sides;
      ending = elim c.match-self.branch [
        | in-None w ↦ told-none c.match-self.ending c.self.inside.sides.ending game.ending w.ending-is w.in-None.is ends
        | in-Some w ↦
            told-some game (IsGame-kept c.self.inside game c.self.view_is c.self.invariant) c.match-self.ending
            c.self.inside.sides.ending w.in-Some.ending w.stored_ending.result w.ending-is w.stored_ending.ensures
            w.in-Some.is ends
      ];
    }
