use Rattle.std.proofs.Common.{◌≡◌, [], ◌∷◌, ◌++◌, decimal, ◌∙◌}
use Rattle.chess_notation.specs.Fen.{placement_text, side_letter, rights_text, target_text, fen_of}
use Rattle.chess_fen.proofs.Positions.{join_six}
use Rattle.chess_fen.proofs.fen.push_fields.Goals as goal

pub returns : goal.returns
unfolding fen_of
returns c =
    let p = c.args.board.now in
    let first = c.requires.placement in
    let written : c.push_number-2.new.text.bytes ≡
    (((((((placement_text p.placement ++ (32 ∷ [])) ++ (side_letter p.side ∷ [])) ++ (32 ∷ [])) ++ rights_text p.rights)
    ++ (32 ∷ [])) ++ target_text p.target) ++ (32 ∷ decimal p.halfmove)) ++ (32 ∷ decimal p.fullmove) = cc in
    written ∙ join_six _ _ _ _ _ _
