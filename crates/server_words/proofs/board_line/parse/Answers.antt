use Rattle.std.proofs.Common.{arith, refl}
use Rattle.std.proofs.lemmas.List.Elements.{All-weaker}
use Rattle.std.proofs.lemmas.Str.{IsUtf8-from_ascii}
use Rattle.std.proofs.lemmas.Str.Ascii.{IsAscii-from_all}
use Rattle.std.specs.Prelude.{◌≤◌, ◌<◌}
use Rattle.server_words.specs.BoardLine.{IsVisibleText}
use Rattle.server_words.proofs.board_line.parse.Goals as goal

-- a field is of ASCII, so it is text
pub unreachable-requires : goal.unreachable-requires
unreachable-requires c =
    let field : IsVisibleText c.in-Some.field.now = c.if-not-is_visible_text.ensures.0 refl in
    c.in-Err.ensures.cases.0 (IsUtf8-from_ascii _ (IsAscii-from_all _
    (All-weaker (λ b. (33 ≤ b) × (b ≤ 126)) (λ b. b < 128) (λ b h. omega (arith, h.1)) _ field.visible)))
