use Rattle.std.proofs.Common.{ℕ, ◌≡◌, ◌∙◌, replicate}
use Rattle.std.specs.Prelude.{slice_index}
use Rattle.std.proofs.lemmas.List.{get_or-replicate}
use Rattle.chess_bits.specs.declared.men.Colour.TheVariants.{White, Black}
use Rattle.chess_bits.specs.declared.men.Kind.TheVariants.{Pawn, Knight, Bishop, Rook, Queen, King}
use Rattle.chess_bits.specs.Square.{number_of}
use Rattle.chess_bits.proofs.TableLemmas.{number_of-below}
use Rattle.chess_board.specs.Position.{Placement, man_at}
use Rattle.chess_fen.proofs.LetterLemmas.{step, twelve_letters}
use Rattle.chess_fen.proofs.letters.letters_of.Goals as goal

pub returns : goal.returns
returns c s on =
    let men : Placement = c.args.men.now in
    let n : ℕ = number_of s in
    let none : slice_index (replicate 64 0) n ≡ 0 = get_or-replicate 64 n 0 0 (number_of-below s on) in
    let white_pawn = step men s (White, Pawn) c.of_man.result 80 (slice_index (replicate 64 0) n)
    (slice_index c.mark.new.letters n) _ c.of_man.ensures (c.mark.ensures s on) none in
    let white_knight = step men s (White, Knight) c.of_man-2.result 78 (slice_index c.mark.new.letters n)
    (slice_index c.mark-2.new.letters n) _ c.of_man-2.ensures (c.mark-2.ensures s on) white_pawn in
    let white_bishop = step men s (White, Bishop) c.of_man-3.result 66 (slice_index c.mark-2.new.letters n)
    (slice_index c.mark-3.new.letters n) _ c.of_man-3.ensures (c.mark-3.ensures s on) white_knight in
    let white_rook = step men s (White, Rook) c.of_man-4.result 82 (slice_index c.mark-3.new.letters n)
    (slice_index c.mark-4.new.letters n) _ c.of_man-4.ensures (c.mark-4.ensures s on) white_bishop in
    let white_queen = step men s (White, Queen) c.of_man-5.result 81 (slice_index c.mark-4.new.letters n)
    (slice_index c.mark-5.new.letters n) _ c.of_man-5.ensures (c.mark-5.ensures s on) white_rook in
    let white_king = step men s (White, King) c.of_man-6.result 75 (slice_index c.mark-5.new.letters n)
    (slice_index c.mark-6.new.letters n) _ c.of_man-6.ensures (c.mark-6.ensures s on) white_queen in
    let black_pawn = step men s (Black, Pawn) c.of_man-7.result 112 (slice_index c.mark-6.new.letters n)
    (slice_index c.mark-7.new.letters n) _ c.of_man-7.ensures (c.mark-7.ensures s on) white_king in
    let black_knight = step men s (Black, Knight) c.of_man-8.result 110 (slice_index c.mark-7.new.letters n)
    (slice_index c.mark-8.new.letters n) _ c.of_man-8.ensures (c.mark-8.ensures s on) black_pawn in
    let black_bishop = step men s (Black, Bishop) c.of_man-9.result 98 (slice_index c.mark-8.new.letters n)
    (slice_index c.mark-9.new.letters n) _ c.of_man-9.ensures (c.mark-9.ensures s on) black_knight in
    let black_rook = step men s (Black, Rook) c.of_man-10.result 114 (slice_index c.mark-9.new.letters n)
    (slice_index c.mark-10.new.letters n) _ c.of_man-10.ensures (c.mark-10.ensures s on) black_bishop in
    let black_queen = step men s (Black, Queen) c.of_man-11.result 113 (slice_index c.mark-10.new.letters n)
    (slice_index c.mark-11.new.letters n) _ c.of_man-11.ensures (c.mark-11.ensures s on) black_rook in
    let black_king = step men s (Black, King) c.of_man-12.result 107 (slice_index c.mark-11.new.letters n)
    (slice_index c.mark-12.new.letters n) _ c.of_man-12.ensures (c.mark-12.ensures s on) black_queen in
    black_king ∙ twelve_letters (man_at men s)
