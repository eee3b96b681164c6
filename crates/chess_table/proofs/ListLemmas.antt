-- The games that a list of records holds, one part after the other.
use Rattle.std.specs.Prelude.{ℕ, ◌≡◌, ◌≤◌, List, [], ◌∷◌, ◌++◌, length, map}
use Rattle.std.specs.List.{flat_map}
use Rattle.std.proofs.Common.{arith, ap, sym, subst, ◌∙◌, refl, drop, append_assoc}
use Rattle.std.proofs.Math.Seq.{drop-append_seam}
use Rattle.std.proofs.lemmas.List.{append-nil}
use Rattle.std.proofs.lemmas.Grind.{flat_map-append}
use Rattle.chess_board.specs.Legal.{EachOf}
use Rattle.chess_board.proofs.EachOfLemmas.{EachOf-push}
use Rattle.rec_codec.specs.declared.record.Record.{Record}
use Rattle.chess_entry.specs.State.{GameState}
use Rattle.chess_entry.specs.Bounds.{IsGame}
use Rattle.chess_entry.specs.Snapshot.{StoredGame, moves_record, records_of, AreStoredAs}
use Rattle.chess_table.specs.Part.{StartsWithGame, StartsWithNone, HoldsGames}
use Rattle.chess_table.proofs.ReadLemmas.{after_head}
use Rattle.chess_table.proofs.GamesLemmas.{AreStoredAs-more}

-- records, of which a front holds games
pub record HoldsSoFar (records rest : List Record) (games : List GameState) : Type 0 where
  pub front : List Record
  pub holds : HoldsGames front games
  pub parts : records ≡ front ++ rest

pub HoldsSoFar-none : (records : List Record) → HoldsSoFar records records []
HoldsSoFar-none records = record {
  front = [];
  holds = record { parts = []; stored = tt; are_games = tt; kept = refl };
  parts = refl;
}

pub drop_part : (rest : List Record) (game : GameState) (many : ℕ) (starts : StartsWithGame rest game many) →
    drop many rest ≡ starts.rest
drop_part rest game many starts =
    ap (λ (n : ℕ). drop n rest) (sym starts.size)
    ∙ ap (λ (rs : List Record). drop (length (records_of starts.part)) rs) starts.starts
    ∙ drop-append_seam (records_of starts.part) starts.rest

pub HoldsSoFar-more : (records rest : List Record) (games : List GameState) (game : GameState) (many : ℕ) →
    HoldsSoFar records rest games → IsGame 20000 game → StartsWithGame rest game many →
    HoldsSoFar records (drop many rest) (games ++ game ∷ [])
HoldsSoFar-more records rest games game many before is_game starts = record {
  front = before.front ++ records_of starts.part;
  holds = record {
    parts = before.holds.parts ++ starts.part ∷ [];
    stored = AreStoredAs-more games before.holds.parts game starts.part before.holds.stored starts.stored;
    are_games = EachOf-push (IsGame 20000) games game before.holds.are_games is_game;
    kept =
        ap (λ (rs : List Record). rs ++ records_of starts.part) before.holds.kept
        ∙ ap (λ (rs : List Record). flat_map records_of before.holds.parts ++ rs)
        (sym (append-nil (records_of starts.part)))
        ∙ sym (flat_map-append records_of before.holds.parts (starts.part ∷ []));
  };
  parts =
      before.parts
      ∙ ap (λ (rs : List Record). before.front ++ rs)
      (starts.starts ∙ ap (λ (rs : List Record). records_of starts.part ++ rs) (sym (drop_part rest game many starts)))
      ∙ sym (append_assoc before.front (records_of starts.part) (drop many rest));
}

-- a first game, and others
pub record HoldsFirst (rest : List Record) : Type 0 where
  pub game : GameState
  pub many : ℕ
  pub starts : StartsWithGame rest game many
  pub is_game : IsGame 20000 game
  pub others : List GameState
  pub tail : HoldsGames (drop many rest) others

first_of : (rest : List Record) (games : List GameState) (parts : List StoredGame) → AreStoredAs games parts →
    EachOf (IsGame 20000) games → rest ≡ flat_map records_of parts → 1 ≤ length rest → HoldsFirst rest
first_of rest [] [] stored each kept some =
    let none : length rest ≡ 0 = ap length kept in
    absurd (omega arith)
first_of rest (game ∷ games) (part ∷ parts) stored each kept some = record {
  game = game;
  many = length (records_of part);
  starts = record {
    part = part;
    rest = flat_map records_of parts;
    stored = stored.0;
    starts = kept;
    size = refl;
  };
  is_game = each.0;
  others = games;
  tail = record {
    parts = parts;
    stored = stored.1;
    are_games = each.1;
    kept =
        ap (λ (rs : List Record). drop (length (records_of part)) rs) kept
        ∙ drop-append_seam (records_of part) (flat_map records_of parts);
  };
}
first_of rest [] (part ∷ parts) stored each kept some = absurd stored
first_of rest (game ∷ games) [] stored each kept some = absurd stored

-- a part at the front has one size
one_many : (rest : List Record) (one two : GameState) (n m : ℕ) → IsGame 20000 one → IsGame 20000 two →
    StartsWithGame rest one n → StartsWithGame rest two m → n ≡ m
one_many rest one two n m is_one is_two a b =
    let head = a.part.head in
    let tail = map (moves_record head.game) a.part.runs ++ a.rest in
    let first = after_head head tail one n is_one (subst (λ (rs : List Record). StartsWithGame rs one n) a.starts a) in
    let second = after_head head tail two m is_two (subst (λ (rs : List Record). StartsWithGame rs two m) a.starts b) in
    first.size ∙ sym second.size

-- Where all records hold games, those that are left do.
abbrev pub LeftToo : List Record → List Record → Type 0
LeftToo records rest =
    (all : List GameState) → HoldsGames records all → (more : List GameState) × HoldsGames rest more

pub LeftToo-more : (records rest : List Record) (game : GameState) (many : ℕ) → 1 ≤ length rest → IsGame 20000 game →
    StartsWithGame rest game many → LeftToo records rest → LeftToo records (drop many rest)
LeftToo-more records rest game many some is_game starts left = λ all holds.
    let more = left all holds in
    let first = first_of rest more.0 more.1.parts more.1.stored more.1.are_games more.1.kept some in
    let same = one_many rest first.game game first.many many first.is_game is_game first.starts starts in
    (first.others, subst (λ (n : ℕ). HoldsGames (drop n rest) first.others) same first.tail)

pub no_games : (records rest : List Record) → 1 ≤ length rest → StartsWithNone rest → LeftToo records rest →
    (all : List GameState) → HoldsGames records all → ⊥
no_games records rest some none left all holds =
    let more = left all holds in
    let first = first_of rest more.0 more.1.parts more.1.stored more.1.are_games more.1.kept some in
    none first.game first.many first.is_game first.starts
