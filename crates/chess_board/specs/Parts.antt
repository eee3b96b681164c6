use Rattle.chess_board.specs.declared.parts.Parts.{Parts}
use Rattle.chess_board.specs.declared.parts.BadBoard.{BadBoard}
use Rattle.chess_board.specs.declared.parts.BadBoard.TheVariants as broken
use Rattle.chess_board.specs.declared.draft.Draft.{Draft}
use Rattle.chess_board.specs.Position.{Position, HasKings, HasFewMen, HasPawnsInside, HasNoCheck, HasTrueRights}
use Rattle.chess_board.specs.Position.{HasTrueTarget, HasCounters}
use Rattle.chess_board.specs.RightsOf.{rights_of}

-- the position that parts describe, valid or not
abbrev pub described : Parts → Position
described parts = record {
  placement = parts.men;
  side = parts.side;
  rights = rights_of parts.rights;
  target = parts.target;
  halfmove = parts.halfmove;
  fullmove = parts.fullmove;
}

-- the same of a draft
abbrev pub drafted : Draft → Position
drafted draft = record {
  placement = draft.men;
  side = draft.side;
  rights = rights_of draft.rights;
  target = draft.target;
  halfmove = draft.halfmove;
  fullmove = draft.fullmove;
}

-- the first condition of a valid position that a position breaks, in the order of the faults
abbrev pub IsFirstBroken : Position → BadBoard → Type 0
IsFirstBroken p broken.Kings = ¬ HasKings p
IsFirstBroken p broken.Pieces = HasKings p × ¬ HasFewMen p
IsFirstBroken p broken.Pawns = HasKings p × HasFewMen p × ¬ HasPawnsInside p
IsFirstBroken p broken.Check = HasKings p × HasFewMen p × HasPawnsInside p × ¬ HasNoCheck p
IsFirstBroken p broken.Rights = HasKings p × HasFewMen p × HasPawnsInside p × HasNoCheck p × ¬ HasTrueRights p
IsFirstBroken p broken.Target = HasKings p × HasFewMen p × HasPawnsInside p × HasNoCheck p × HasTrueRights p ×
    ¬ HasTrueTarget p
IsFirstBroken p broken.Counter = HasKings p × HasFewMen p × HasPawnsInside p × HasNoCheck p × HasTrueRights p ×
    HasTrueTarget p × ¬ HasCounters p
