use Rattle.std.proofs.Common.{ℕ, List, map, sym, ap, ◌∙◌, rules}
use Rattle.std.specs.Borrow.{Bor}
use Rattle.std.proofs.lemmas.Fn.{filter_same}
use Rattle.text_pgn.specs.Pgn.{is_move, moves_in}
use Rattle.chess_bits.proofs.MemberLemmas.{filter-map}
use Rattle.text_pgn.proofs.game_words.words_of.Goals as goal

pub returns : goal.returns
returns c =
    let now = λ (word : Bor (List ℕ)). word.now in
    ap (map now) (filter_same _ (λ (word : Bor (List ℕ)). is_move word.now) _ (λ x b f' k. search rules) _ _
    c.retain.ensures.filtered)
    ∙ (sym (filter-map is_move now c.in_ok-words.words.items) ∙ ap moves_in c.in_ok-words.ensures)
