-- Where no castling right is left, none is left after a move.
use Rattle.std.specs.Prelude.{◌≡◌, ◌↔◌, Bool, true, false, ◌&&◌, ◌||◌, not}
use Rattle.std.proofs.Common.{refl, ap, sym}
use Rattle.std.proofs.lemmas.Bool.{false≢true}
use Rattle.chess_bits.specs.declared.men.Colour.TheVariants.{White, Black}
use Rattle.chess_board.specs.declared.castling.Wing.TheVariants as wing
use Rattle.chess_board.specs.declared.moves.Move.{Move}
use Rattle.chess_board.specs.Position.{Position, Rights, has_right, king_home, rook_home}
use Rattle.chess_board.specs.Next.{touches, rights_after}
use Rattle.chess_board.specs.RightsOf.{no_rights}

pub none_told : (r : Rights) →
    (not (((r.white_king || r.white_queen) || r.black_king) || r.black_queen) ≡ true) ↔ (r ≡ no_rights)
none_told r = by_flags r.white_king r.white_queen r.black_king r.black_queen
  where
    by_flags : (a b c d : Bool) → (not (((a || b) || c) || d) ≡ true) ↔
        (record { white_king = a; white_queen = b; black_king = c; black_queen = d } ≡ no_rights)
    by_flags false false false false = (λ _. refl, λ _. refl)
    by_flags true b c d = (
      λ e. absurd (false≢true e),
      λ e. absurd (false≢true (sym (ap (λ (r : Rights). r.white_king) e))),
    )
    by_flags false true c d = (
      λ e. absurd (false≢true e),
      λ e. absurd (false≢true (sym (ap (λ (r : Rights). r.white_queen) e))),
    )
    by_flags false false true d = (
      λ e. absurd (false≢true e),
      λ e. absurd (false≢true (sym (ap (λ (r : Rights). r.black_king) e))),
    )
    by_flags false false false true = (
      λ e. absurd (false≢true e),
      λ e. absurd (false≢true (sym (ap (λ (r : Rights). r.black_queen) e))),
    )

pub rights_after-none : (p : Position) (m : Move) → p.rights ≡ no_rights → rights_after p m ≡ no_rights
unfolding rights_after
rights_after-none p m none =
    let after : Rights → Rights = λ r. record {
      white_king = has_right r White wing.King && not (touches m (king_home White)) && not (touches m
          (rook_home White wing.King));
      white_queen = has_right r White wing.Queen && not (touches m (king_home White)) && not (touches m
          (rook_home White wing.Queen));
      black_king = has_right r Black wing.King && not (touches m (king_home Black)) && not (touches m
          (rook_home Black wing.King));
      black_queen = has_right r Black wing.Queen && not (touches m (king_home Black)) && not (touches m
          (rook_home Black wing.Queen));
    } in
    ap after none
