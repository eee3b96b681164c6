use Rattle.std.proofs.Common.{ℕ, ◌≡◌, ◌∷◌, List, ap, sym, subst, ◌∙◌}
use Rattle.rec_codec.specs.declared.record.Record.{Record}
use Rattle.rec_codec.specs.declared.record.Record.TheVariants as kind
use Rattle.chess_entry.specs.State.{GameState}
use Rattle.chess_table.specs.declared.parts.reading.ReadGame.{ReadGame}
use Rattle.chess_table.specs.Part.{HasGameAfter, StartsWithGame, StartsWithNone}
use Rattle.chess_table.proofs.ReadLemmas.{after_head, with_head, told_some, told_none}
use Rattle.chess_table.proofs.parts.reading.read_game.Goals as goal

pub returns-in-Head-clause-some : goal.returns-in-Head-clause-some
returns-in-Head-clause-some c =
    let head = c.in-Head.head in
    let rest = c.in-Some.rest.now in
    let records = c.args.records.now in
    let whole : records ≡ kind.Head head ∷ rest =
    c.in-Some.ensures.cases.0 ∙ ap (λ (r : Record). r ∷ rest) c.in-Head.is in
    told_some (λ (read : ReadGame). HasGameAfter head rest read.game read.records)
    (λ (read : ReadGame). StartsWithGame records read.game read.records) c.read_with_head.result
    (λ read after. subst (λ (rs : List Record). StartsWithGame rs read.game read.records) (sym whole)
    (with_head head rest read.game read.records after))
    c.read_with_head.ensures.some

pub returns-in-Head-clause-none : goal.returns-in-Head-clause-none
returns-in-Head-clause-none c =
    let head = c.in-Head.head in
    let rest = c.in-Some.rest.now in
    let records = c.args.records.now in
    let whole : records ≡ kind.Head head ∷ rest =
    c.in-Some.ensures.cases.0 ∙ ap (λ (r : Record). r ∷ rest) c.in-Head.is in
    told_none ((game : GameState) (many : ℕ) → ¬ HasGameAfter head rest game many) (StartsWithNone records)
    c.read_with_head.result
    (λ none game many is_game starts.
    none game many (after_head head rest game many is_game
    (subst (λ (rs : List Record). StartsWithGame rs game many) whole starts)))
    c.read_with_head.ensures.none
