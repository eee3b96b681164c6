use Rattle.std.proofs.Common.{ℕ, List, map, filter, sym, ap, ◌∙◌, rules}
use Rattle.std.specs.Borrow.{Bor}
use Rattle.std.proofs.lemmas.Fn.{filter_same}
use Rattle.text_pgn.specs.Pgn.{is_tag}
use Rattle.chess_bits.proofs.MemberLemmas.{filter-map}
use Rattle.text_pgn.proofs.json_tags.tag_lines.Goals as goal

pub returns : goal.returns
returns c =
    let now = λ (line : Bor (List ℕ)). line.now in
    let is_kept = λ (line : Bor (List ℕ)). is_tag line.now in
    ap (map now) (filter_same _ is_kept _ (λ x b f' k. search rules) _ _ c.retain.ensures.filtered)
    ∙ (sym (filter-map is_tag now c.in_ok-lines.lines.items)
    ∙ ap (λ (lines : List (List ℕ)). filter is_tag lines) c.in_ok-lines.ensures)
