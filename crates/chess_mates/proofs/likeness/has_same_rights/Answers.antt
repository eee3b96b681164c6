use Rattle.std.proofs.Common.{◌≡◌, ◌∙◌, ap, Bool}
use Rattle.std.proofs.lemmas.Bool.{and_parts}
use Rattle.chess_board.specs.declared.castling.Wing.TheVariants as wing
use Rattle.chess_board.specs.Position.{Rights}
use Rattle.chess_mates.proofs.likeness.has_same_rights.Goals as goal

abbrev rights : Bool → Bool → Bool → Bool → Rights
rights a b c d = record { white_king = a; white_queen = b; black_king = c; black_queen = d }

same_rights : (r s : Rights) → r.white_king ≡ s.white_king → r.white_queen ≡ s.white_queen →
    r.black_king ≡ s.black_king → r.black_queen ≡ s.black_queen → r ≡ s
same_rights r s a b c d =
    ap (λ (x : Bool). rights x r.white_queen r.black_king r.black_queen) a
    ∙ ap (λ (x : Bool). rights s.white_king x r.black_king r.black_queen) b
    ∙ ap (λ (x : Bool). rights s.white_king s.white_queen x r.black_queen) c
    ∙ ap (λ (x : Bool). rights s.white_king s.white_queen s.black_king x) d

pub returns : goal.returns
returns c told =
    let parts = and_parts c.has_same_rights_of-white.result c.has_same_rights_of-black.result told in
    let white = c.has_same_rights_of-white.ensures parts.0 in
    let black = c.has_same_rights_of-black.ensures parts.1 in
    same_rights c.args.b.now.rights c.args.a.now.rights (white wing.King) (white wing.Queen) (black wing.King)
    (black wing.Queen)
