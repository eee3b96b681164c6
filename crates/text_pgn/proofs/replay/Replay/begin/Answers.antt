use Rattle.std.proofs.Common.{◌≡◌, ℕ, List, length, map, ap, sym, ◌∙◌, subst, rules, refl}
use Rattle.std.proofs.lemmas.List.{length-map}
use Rattle.std.specs.Borrow.{Bor}
use Rattle.std.specs.String.{string_bytes}
use Rattle.text_pgn.specs.Pgn.{tokens_of, moves_in}
use Rattle.text_pgn.specs.Game.{lines_of, fen_in, words_in, StartsAt}
use Rattle.text_pgn.specs.Answer.{head}
use Rattle.text_pgn.proofs.Replaying.{begins}
use Rattle.text_pgn.proofs.replay.Replay.begin.Goals as goal

pub returns-clause-some : goal.returns-clause-some
returns-clause-some c =
    let pgn = c.args.pgn.now in
    let one : map (λ (line : Bor (List ℕ)). line.now) c.as_slice.result.now ≡ lines_of c.args.pgn.now = search rules in
    let two : map (λ (line : Bor (List ℕ)). line.now) c.as_slice-2.result.now
    ≡ lines_of c.args.pgn.now = search rules in
    let words : map string_bytes c.in_ok-words.words.items ≡ words_in c.args.pgn.now =
    c.in_ok-words.ensures
    ∙ (ap (map (λ (word : Bor (List ℕ)). word.now)) c.as_slice-3.ensures.value ∙ (c.in_ok-named.ensures
    ∙ ap (λ (ls : List (List ℕ)). moves_in (tokens_of ls)) two)) in
    let count : c.len.result ≡ length c.in_ok-words.words.items = search rules in
    begins c.args.game pgn _
    (subst (λ (ls : List (List ℕ)). StartsAt (fen_in ls) c.in-Some.board) one
    (rw c.in-Some.is at c.start_of.ensures.some))
    (λ p h.
    let found = c.start_of.ensures.every p (subst (λ (ls : List (List ℕ)). StartsAt (fen_in ls) p) (sym one) h) in
    let is = c.in-Some.is in
    cc)
    words refl
    (c.in_ok-text.ensures
    ∙ ap (λ (n : ℕ). head c.args.game n c.in-Some.board)
    (count ∙ (sym (length-map c.in_ok-words.words.items string_bytes) ∙ ap length words)))
