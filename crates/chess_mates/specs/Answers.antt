use Rattle.std.specs.Prelude.{◌⊎◌}
use Rattle.chess_bits.specs.declared.men.Colour.{Colour}
use Rattle.chess_board.specs.Position.{Position}
use Rattle.chess_end.specs.Material.{IsListedDead, HasKingAlone}
use Rattle.chess_mates.specs.declared.deciding.Reason.{Reason}
use Rattle.chess_mates.specs.declared.deciding.Reason.TheVariants.{KingAlone, DeadMaterial, Searched}
use Rattle.chess_mates.specs.declared.deciding.Answer.{Answer}
use Rattle.chess_mates.specs.declared.deciding.Answer.TheVariants.{Mates, Cannot, Unknown}
use Rattle.chess_mates.specs.Mates.{IsMatingLine, CanMate}

-- the material that a reason names
abbrev pub HasMaterial : Colour → Position → Reason → Type 0
HasMaterial side p KingAlone = HasKingAlone p.placement side
HasMaterial side p DeadMaterial = IsListedDead p.placement
HasMaterial side p Searched = Unit {0}

-- What an answer promises: a line that mates, or that there is none. Where it is unknown nothing is promised.
abbrev pub IsTrueAnswer : Colour → Position → Answer → Type 0
IsTrueAnswer side p (Mates line) = IsMatingLine side p line.items
IsTrueAnswer side p (Cannot reason) = ¬ CanMate side p × HasMaterial side p reason
IsTrueAnswer side p Unknown = Unit {0}
