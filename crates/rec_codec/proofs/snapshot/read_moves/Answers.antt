use Rattle.std.proofs.Common.{◌≤◌, ℕ, List, ◌∙◌, Some, sym, ap, length, drop, arith}
use Rattle.std.proofs.lemmas.List.{take_all, length-drop}
use Rattle.chess_board.specs.declared.moves.Move.{Move}
use Rattle.rec_codec.specs.declared.record.Moves.{Moves}
use Rattle.rec_codec.proofs.EntryLemmas.{no_some, same_some}
use Rattle.rec_codec.proofs.snapshot.read_moves.Goals as goal

pub returns-in_err-moves : goal.returns-in_err-moves
returns-in_err-moves c = λ m is s.
    let bytes = c.args.bytes.now in
    let few : length (drop 8 bytes) ≤ 120 = simp length-drop (omega arith) in
    absurd (no_some m.moves c.from_field.result c.in_err-moves.was
    (c.from_field.ensures m.moves is.moves (c.u8_at-count.ensures (length m.moves) s.1.0)
    (c.split_at.ensures.back ∙ (sym (take_all 120 (drop 8 bytes) few) ∙ s.1.1.1.0))))

pub returns : goal.returns
returns c = λ m is s.
    let bytes = c.args.bytes.now in
    let few : length (drop 8 bytes) ≤ 120 = simp length-drop (omega arith) in
    let moves = same_some c.in_ok-moves.moves m.moves c.from_field.result c.in_ok-moves.was
    (c.from_field.ensures m.moves is.moves (c.u8_at-count.ensures (length m.moves) s.1.0)
    (c.split_at.ensures.back ∙ (sym (take_all 120 (drop 8 bytes) few) ∙ s.1.1.1.0))) in
    let game = c.in_ok-game.ensures.some ∙ c.u32_at.ensures m.game is.game s.1.1.0 in
    let make : ℕ → List Move → Moves = λ game moves. record { game = game; moves = moves } in
    ap (λ x. Some (make x c.in_ok-moves.moves)) game ∙ ap (λ x. Some (make m.game x)) moves
