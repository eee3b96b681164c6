use Rattle.std.proofs.Common.{ℕ, List, ap, sym, refl, ◌∙◌, ◌∷◌, ◌+◌, drop, map}
use Rattle.std.specs.String.{string_bytes}
use Rattle.text_pgn.proofs.Replaying.{word_at, goes_one, stops, stuck}
use Rattle.text_pgn.proofs.replay.Replay.step.Goals as goal

pub returns-in_default-clause-stops : goal.returns-in_default-clause-stops
returns-in_default-clause-stops c = λ game pgn u.
    let old = c.args.self.now in
    let rest = drop (old.at + 1) (map string_bytes old.words.items) in
    stops game pgn old c.as_str.result.now rest
    (word_at string_bytes old.words.items old.at c.index.result.now c.requires
    ∙ ap (λ (t : List ℕ). t ∷ rest) (sym (c.as_str.ensures.value ∙ ap string_bytes c.index.ensures)))
    (rw c.in_default.is at c.named.ensures.none) u

pub returns-in_default-clause-stuck : goal.returns-in_default-clause-stuck
returns-in_default-clause-stuck c =
    let old = c.args.self.now in
    let rest = drop (old.at + 1) (map string_bytes old.words.items) in
    stuck old c.as_str.result.now rest
    (word_at string_bytes old.words.items old.at c.index.result.now c.requires
    ∙ ap (λ (t : List ℕ). t ∷ rest) (sym (c.as_str.ensures.value ∙ ap string_bytes c.index.ensures)))
    (rw c.in_default.is at c.named.ensures.none)

pub returns-clause-goes : goal.returns-clause-goes
returns-clause-goes c =
    let old = c.args.self.now in
    let rest = drop (old.at + 1) (map string_bytes old.words.items) in
    goes_one old _ c.as_str.result.now c.in-Some.mv
    (word_at string_bytes old.words.items old.at c.index.result.now c.requires
    ∙ ap (λ (t : List ℕ). t ∷ rest) (sym (c.as_str.ensures.value ∙ ap string_bytes c.index.ensures)))
    refl refl c.requires c.in-Some.ensures.some c.in-Some.ensures.one c.apply-after.ensures.next c.in_ok-push_row.ensures
