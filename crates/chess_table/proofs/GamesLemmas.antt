-- The parts of several games, one after the other.
use Rattle.std.specs.Prelude.{ℕ, ◌≡◌, ◌<◌, ◌+◌, List, [], ◌∷◌, ◌++◌, length, take}
use Rattle.std.specs.List.{flat_map}
use Rattle.std.proofs.Common.{ap, sym, subst, ◌∙◌, append_assoc, get_or}
use Rattle.std.proofs.lemmas.List.{append-nil, take_more}
use Rattle.std.proofs.lemmas.Grind.{flat_map-append}
use Rattle.rec_codec.specs.declared.record.Record.{Record}
use Rattle.chess_entry.specs.State.{GameState}
use Rattle.chess_entry.specs.Snapshot.{StoredGame, records_of, IsStoredAs, AreStoredAs}
use Rattle.chess_table.specs.Part.{HasGameMore, HasGamesMore}

pub AreStoredAs-more : (games : List GameState) (parts : List StoredGame) (game : GameState) (part : StoredGame) →
    AreStoredAs games parts → IsStoredAs game part → AreStoredAs (games ++ game ∷ []) (parts ++ part ∷ [])
AreStoredAs-more [] [] game part stored last = (last, tt)
AreStoredAs-more (g ∷ games) (p ∷ parts) game part stored last =
    (stored.0, AreStoredAs-more games parts game part stored.1 last)
AreStoredAs-more [] (p ∷ parts) game part stored last = absurd stored
AreStoredAs-more (g ∷ games) [] game part stored last = absurd stored

pub HasGamesMore-more : (old mid new : List Record) (games : List GameState) (game : GameState) →
    HasGamesMore old mid games → HasGameMore mid new game → HasGamesMore old new (games ++ game ∷ [])
HasGamesMore-more old mid new games game before last = record {
  parts = before.parts ++ last.part ∷ [];
  stored = AreStoredAs-more games before.parts game last.part before.stored last.stored;
  records =
      last.records
      ∙ ap (λ (rs : List Record). rs ++ records_of last.part) before.records
      ∙ append_assoc old (flat_map records_of before.parts) (records_of last.part)
      ∙ ap (λ (rs : List Record). old ++ rs)
      (ap (λ (rs : List Record). flat_map records_of before.parts ++ rs) (sym (append-nil (records_of last.part)))
      ∙ sym (flat_map-append records_of before.parts (last.part ∷ [])));
}

-- one game more of a list of them
pub HasGamesMore-next : (old mid new : List Record) (games : List GameState) (i : ℕ) (game : GameState) →
    i < length games → game ≡ get_or games i game → HasGamesMore old mid (take i games) → HasGameMore mid new game →
    HasGamesMore old new (take (i + 1) games)
HasGamesMore-next old mid new games i game below here before last =
    let front : take (i + 1) games ≡ take i games ++ game ∷ [] =
    take_more games i game below ∙ ap (λ (g : GameState). take i games ++ g ∷ []) (sym here) in
    subst (λ (gs : List GameState). HasGamesMore old new gs) (sym front)
    (HasGamesMore-more old mid new (take i games) game before last)
