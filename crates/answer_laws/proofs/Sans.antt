-- A SAN is one field.
use Rattle.std.proofs.Common.{ℕ, ◌≡◌, ◌==◌, Bool, true, false, List, [], ◌∷◌, ◌++◌, length, Option, Some, None, codes, refl, sym, subst, arith}
use Rattle.std.proofs.lemmas.Bool.Decides.{nat_tests}
use Rattle.text_parts.proofs.Cuts.{Lacks, lacks_both}
use Rattle.chess_bits.specs.declared.men.Kind.{Kind}
use Rattle.chess_bits.specs.declared.men.Kind.TheVariants.{Pawn, Knight, Bishop, Rook, Queen, King}
use Rattle.chess_bits.specs.Square.{Square}
use Rattle.chess_board.specs.declared.castling.Wing.{Wing}
use Rattle.chess_board.specs.declared.castling.Wing.TheVariants as wing
use Rattle.chess_board.specs.declared.moves.Move.{Move}
use Rattle.chess_board.specs.Position.{Position}
use Rattle.chess_notation.specs.declared.telling.Origin.{Origin}
use Rattle.chess_notation.specs.declared.telling.Origin.TheVariants as origin
use Rattle.chess_notation.specs.declared.telling.Threat.{Threat}
use Rattle.chess_notation.specs.declared.telling.Threat.TheVariants as threat
use Rattle.chess_notation.specs.Name.{file_letter, rank_digit, square_name, capital_of, promotion_text}
use Rattle.chess_notation.specs.San.{origin_text, is_capture, capture_text, pawn_origin, pawn_text, piece_text, castling_text, castled_wing, IsPieceText, IsKingText, IsManText, IsSan, threat_text}

-- a text that is one field: not empty, and without a space
pub record IsField (text : List ℕ) : Type 0 where
  pub some : (length text == 0) ≡ false
  pub field : Lacks 32 text

file_is : (s : Square) → (file_letter s == 32) ≡ false
file_is s = grind (arith, nat_tests)

rank_is : (s : Square) → (rank_digit s == 32) ≡ false
rank_is s = grind (arith, nat_tests)

capital_is : (kind : Kind) → (capital_of kind == 32) ≡ false
capital_is Pawn = refl
capital_is Knight = refl
capital_is Bishop = refl
capital_is Rook = refl
capital_is Queen = refl
capital_is King = refl

square_lacks : (s : Square) → Lacks 32 (square_name s)
square_lacks s = rw (file_is s) (rw (rank_is s) refl)

origin_lacks : (o : Origin) (s : Square) → Lacks 32 (origin_text o s)
origin_lacks origin.Nothing s = refl
origin_lacks origin.File s = rw (file_is s) refl
origin_lacks origin.Rank s = rw (rank_is s) refl
origin_lacks origin.Square s = square_lacks s

capture_lacks : (takes : Bool) → Lacks 32 (capture_text takes)
capture_lacks true = refl
capture_lacks false = refl

pawn_origin_lacks : (takes : Bool) (s : Square) → Lacks 32 (pawn_origin takes s)
pawn_origin_lacks true s = rw (file_is s) refl
pawn_origin_lacks false s = refl

promotion_lacks : (kind : Option Kind) → Lacks 32 (promotion_text kind)
promotion_lacks None = refl
promotion_lacks (Some kind) = rw (capital_is kind) refl

threat_lacks : (t : Threat) → Lacks 32 (threat_text t)
threat_lacks threat.Nothing = refl
threat_lacks threat.Check = refl
threat_lacks threat.Mate = refl

some_length : (x : ℕ) (xs : List ℕ) → (length (x ∷ xs) == 0) ≡ false
some_length x xs = grind (arith, nat_tests)

more_length : (text more : List ℕ) → (length text == 0) ≡ false → (length (text ++ more) == 0) ≡ false
more_length [] more h = absurd (grind (arith, nat_tests))
more_length (x ∷ xs) more h = some_length x (xs ++ more)

pawn_some : (takes : Bool) (s to : Square) (more : List ℕ) → (length (pawn_origin takes s ++ (square_name to ++ more)) == 0) ≡ false
pawn_some true s to more = some_length (file_letter s) (codes "x" ++ (square_name to ++ more))
pawn_some false s to more = some_length (file_letter to) (rank_digit to ∷ more)

pawn_field : (p : Position) (m : Move) → IsField (pawn_text p m)
pawn_field p m = record {
  some = pawn_some (is_capture p m) m.from m.to (promotion_text m.promotion);
  field =
      lacks_both 32 (pawn_origin (is_capture p m) m.from) (square_name m.to ++ promotion_text m.promotion)
      (pawn_origin_lacks (is_capture p m) m.from)
      (lacks_both 32 (square_name m.to) (promotion_text m.promotion) (square_lacks m.to) (promotion_lacks m.promotion));
}

piece_field : (p : Position) (m : Move) (kind : Kind) (from : Origin) → IsField (piece_text p m kind from)
piece_field p m kind from = record {
  some = some_length (capital_of kind) (origin_text from m.from ++ (capture_text (is_capture p m) ++ square_name m.to));
  field =
      rw (capital_is kind) (lacks_both 32 (origin_text from m.from) (capture_text (is_capture p m) ++ square_name m.to)
      (origin_lacks from m.from)
      (lacks_both 32 (capture_text (is_capture p m)) (square_name m.to) (capture_lacks (is_capture p m)) (square_lacks m.to)));
}

castling_field : (to : Wing) → IsField (castling_text to)
castling_field wing.King = record { some = refl; field = refl }
castling_field wing.Queen = record { some = refl; field = refl }

of_piece : (p : Position) (m : Move) (kind : Kind) (text : List ℕ) → IsPieceText p m kind text → IsField text
of_piece p m kind text is = subst IsField (sym is.joined) (piece_field p m kind is.origin)

of_king : (p : Position) (m : Move) (to : Option Wing) (text : List ℕ) → IsKingText p m to text → IsField text
of_king p m (Some to) text is = subst IsField (sym is) (castling_field to)
of_king p m None text is = of_piece p m King text is

of_man : (p : Position) (m : Move) (kind : Kind) (text : List ℕ) → IsManText p m kind text → IsField text
of_man p m Pawn text is = subst IsField (sym is) (pawn_field p m)
of_man p m Knight text is = of_piece p m Knight text is
of_man p m Bishop text is = of_piece p m Bishop text is
of_man p m Rook text is = of_piece p m Rook text is
of_man p m Queen text is = of_piece p m Queen text is
of_man p m King text is = of_king p m (castled_wing p m) text is

pub san_field : (p : Position) (m : Move) (text : List ℕ) → IsSan p m text → IsField text
san_field p m text is =
    let body = of_man p m is.is_body.kind is.body is.is_body.told in
    subst IsField (sym is.joined) (record {
      some = more_length is.body (threat_text is.threat) body.some;
      field = lacks_both 32 is.body (threat_text is.threat) body.field (threat_lacks is.threat);
    })
