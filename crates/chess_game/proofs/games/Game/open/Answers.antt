use Rattle.std.proofs.Common.{◌∙◌, ap, refl}
use Rattle.chess_bits.specs.declared.men.Colour.{Colour}
use Rattle.chess_clock.specs.ClockState.{started}
use Rattle.chess_entry.specs.Games.{control_of}
use Rattle.chess_entry.specs.Follow.{new_game}
use Rattle.chess_game.proofs.KeptGame.{IsGame-new}
use Rattle.chess_game.proofs.Shown.{IsSound-shown}
use Rattle.chess_game.proofs.Acts.{new-shown}
use Rattle.chess_game.proofs.games.Game.open.Goals as goal

pub invariant_of-result : goal.invariant_of-result
invariant_of-result c =
    let opening = c.args.opening.now in
    IsSound-shown _ (new_game c.args.number opening)
    (record {
      number = refl;
      control = refl;
      line = c.in_ok-new.ensures;
      sides = new-shown c.args.number opening c.new-clock.result c.fresh_seat.result c.fresh_seat-2.result
          (c.new-clock.ensures ∙ ap (λ (side : Colour). started (control_of opening) side 0) c.side.ensures)
          c.fresh_seat.ensures c.fresh_seat-2.ensures;
    })
    (IsGame-new c.args.number opening c.get-numbered.ensures.from c.get-numbered.ensures.fits c.requires.times
    c.requires.start c.as_str-named.ensures.named)
