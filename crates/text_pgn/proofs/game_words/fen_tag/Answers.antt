use Rattle.std.proofs.Common.{ℕ, ◌+◌, List, [], Some, get_or, map, take, drop, sym, ap, ◌∙◌}
use Rattle.std.specs.Prelude.{find}
use Rattle.std.specs.Borrow.{Bor}
use Rattle.std.specs.Option.{option_map}
use Rattle.text_pgn.specs.Game.{is_fen_tag, value_of}
use Rattle.text_parts.proofs.Items.{items_more, items_around}
use Rattle.text_pgn.proofs.Found.{none_more, found_at}
use Rattle.text_pgn.proofs.game_words.fen_tag.Goals as goal

pub returns-then-is_fen_tag : goal.returns-then-is_fen_tag
returns-then-is_fen_tag c =
    let now = λ (line : Bor (List ℕ)). line.now in
    let items = c.args.lines.now in
    let i = c.loop-line.line-index in
    let d : Bor (List ℕ) = record { ref_ptr = (0, 0); now = [] } in
    let line = (get_or items i d).now in
    ap Some c.between_quotes.ensures
    ∙ sym (ap (option_map value_of) (ap (find is_fen_tag) (items_around items i d c.loop-line-test.true)
    ∙ found_at is_fen_tag (take i (map now items)) line (drop (i + 1) (map now items)) c.loop-line.invariant
    (sym c.is_fen_tag.ensures ∙ c.if-is_fen_tag.true)))

pub loop-line-preserved : goal.loop-line-preserved
loop-line-preserved c =
    let now = λ (line : Bor (List ℕ)). line.now in
    let items = c.args.lines.now in
    let i = c.loop-line.line-index in
    let d : Bor (List ℕ) = record { ref_ptr = (0, 0); now = [] } in
    ap (find is_fen_tag) (items_more items i d c.loop-line-test.true)
    ∙ none_more is_fen_tag (take i (map now items)) (get_or items i d).now c.loop-line.invariant
    (sym c.is_fen_tag.ensures ∙ c.if-is_fen_tag.false)
