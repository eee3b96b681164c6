-- A list that no legal move leaves, and that has no mate, has the starts of no series that mates.
use Rattle.std.specs.Prelude.{List, Contains}
use Rattle.chess_bits.specs.declared.men.Colour.{Colour}
use Rattle.chess_board.specs.declared.moves.Move.{Move}
use Rattle.chess_board.specs.Position.{Position}
use Rattle.chess_board.specs.Next.{next}
use Rattle.chess_board.specs.Legal.{IsLegal}
use Rattle.chess_mates.specs.Mates.{IsMatedBy, CanMate}
use Rattle.chess_mates.specs.Closed.{HasLike, IsClosed}
use Rattle.chess_mates.proofs.Like.{next_like, legal_like, turned, through, mated_like}
use Rattle.chess_mates.proofs.Never.{IsKept, never}

kept_inside : (side : Colour) (list : List Position) → IsClosed side list → IsKept (HasLike list)
kept_inside side list closed p m here legal =
    let q = here.like in
    let there = (closed q here.among).leads m (legal_like p q m (turned q p here.differs) legal) in
    record {
      like = there.like;
      among = there.among;
      differs = through there.like (next q m) (next p m) there.differs (next_like q p m here.differs);
    }

pub never_inside : (side : Colour) (list : List Position) (p : Position) → IsClosed side list → HasLike list p →
    ¬ CanMate side p
never_inside side list p closed here =
    never side (HasLike list) (kept_inside side list closed)
    (λ q inside mated. (closed inside.like inside.among).not_mated
    (mated_like side q inside.like (turned inside.like q inside.differs) mated)) p here
