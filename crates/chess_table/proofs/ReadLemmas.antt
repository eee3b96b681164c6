-- A game's part at the front of records, by its head and its moves.
use Rattle.std.specs.Prelude.{ℕ, ◌≡◌, ◌≤◌, ◌+◌, List, [], ◌∷◌, ◌++◌, length, map, take, Result, Ok, Err, Option, Some, None, IfOk, IfSome, IfNone}
use Rattle.std.specs.List.{flat_map}
use Rattle.std.proofs.Common.{arith, ap, sym, subst, ◌∙◌, refl, drop, length-append}
use Rattle.std.proofs.Math.Seq.{take-append_seam}
use Rattle.std.proofs.lemmas.List.{append-nil, length-map, take-append-drop}
use Rattle.chess_board.specs.declared.moves.Move.{Move}
use Rattle.rec_codec.specs.Limits.{ceiling}
use Rattle.rec_codec.specs.declared.record.Head.{Head}
use Rattle.rec_codec.specs.declared.record.Record.{Record}
use Rattle.rec_codec.specs.declared.record.Record.TheVariants as kind
use Rattle.chess_entry.specs.State.{GameState}
use Rattle.chess_entry.specs.Bounds.{IsGame}
use Rattle.chess_entry.specs.Snapshot.{AreRuns, IsHeadOf, moves_record}
use Rattle.chess_entry.proofs.OneMeaning.{one_list_of_runs}
use Rattle.chess_game.specs.Restored.{IsRestored, NamesNoGame}
use Rattle.chess_table.specs.Part.{HoldsMoves, StartsWithGame, HasGameAfter}
use Rattle.chess_table.proofs.RunLemmas.{AreRuns-uncons}

-- how many runs some moves have
pub length-runs : (moves : List Move) (runs : List (List Move)) → AreRuns moves runs →
    length runs ≡ ceiling (length moves) 60
length-runs moves [] are =
    let none : 0 ≡ length moves = ap length are.joined in
    omega arith
length-runs moves (run ∷ runs) are =
    let more = AreRuns-uncons moves run runs are in
    let fewer = length-runs more.rest runs more.cut in
    let sum : length moves ≡ length run + length more.rest = ap length more.parts ∙ length-append run more.rest in
    let some = more.some in
    let most = more.most in
    omega arith

-- records hold the moves of one game at most
pub one_list_of_moves : (number many : ℕ) (records : List Record) (one two : List Move) →
    HoldsMoves number many records one → HoldsMoves number many records two → one ≡ two
one_list_of_moves number many records one two a b =
    let same = one_list_of_runs number a.runs b.runs [] []
    (append-nil (map (moves_record number) a.runs) ∙ sym a.kept ∙ b.kept
    ∙ sym (append-nil (map (moves_record number) b.runs))) in
    sym a.cut.joined
    ∙ ap (λ (rs : List (List Move)). flat_map (λ run. run) rs) same.0
    ∙ b.cut.joined

-- ---- a game's part, by its head and what follows

pub after_head : (head : Head) (rest : List Record) (game : GameState) (many : ℕ) → IsGame 20000 game →
    StartsWithGame (kind.Head head ∷ rest) game many → HasGameAfter head rest game many
after_head head rest game many is_game starts =
    let both : kind.Head head ∷ rest
    ≡ kind.Head starts.part.head ∷ (map (moves_record starts.part.head.game) starts.part.runs ++ starts.rest)
    = starts.starts in
    let same : head ≡ starts.part.head = cc in
    let tail : rest ≡ map (moves_record starts.part.head.game) starts.part.runs ++ starts.rest = cc in
    let of_game : IsHeadOf game head = subst (λ (h : Head). IsHeadOf game h) (sym same) starts.stored.head in
    let kept = map (moves_record head.game) starts.part.runs in
    let named : rest ≡ kept ++ starts.rest = tail
    ∙ ap (λ (h : Head). map (moves_record h.game) starts.part.runs ++ starts.rest) (sym same) in
    let size : length kept ≡ ceiling head.moves 60 = length-map starts.part.runs (moves_record head.game)
    ∙ length-runs game.moves starts.part.runs starts.stored.runs
    ∙ ap (λ (n : ℕ). ceiling n 60) (sym of_game.moves) in
    let front : take (ceiling head.moves 60) rest ≡ kept =
    ap (λ (rs : List Record). take (ceiling head.moves 60) rs) named
    ∙ ap (λ (n : ℕ). take n (kept ++ starts.rest)) (sym size)
    ∙ take-append_seam kept starts.rest in
    let whole : length (kind.Head starts.part.head ∷ map (moves_record starts.part.head.game) starts.part.runs) ≡ many
    = starts.size in
    record {
      of_game = of_game;
      is_game = is_game;
      enough = omega (arith, ap length named, length-append kept starts.rest);
      moves = record {
        runs = starts.part.runs;
        cut = starts.stored.runs;
        kept = front;
        size = sym of_game.moves;
      };
      size = omega (
        arith,
        length-map starts.part.runs (moves_record starts.part.head.game),
        length-map starts.part.runs (moves_record head.game),
      );
    }

pub with_head : (head : Head) (rest : List Record) (game : GameState) (many : ℕ) → HasGameAfter head rest game many →
    StartsWithGame (kind.Head head ∷ rest) game many
with_head head rest game many after =
    let n = ceiling head.moves 60 in
    let size : length after.moves.runs ≡ ceiling head.moves 60 =
    length-runs game.moves after.moves.runs after.moves.cut ∙ ap (λ (k : ℕ). ceiling k 60) (sym after.of_game.moves) in
    let many_is = after.size in
    record {
      part = record { head = head; runs = after.moves.runs };
      rest = drop n rest;
      stored = record { head = after.of_game; runs = after.moves.cut };
      starts = ap (λ (rs : List Record). kind.Head head ∷ rs)
          (sym (take-append-drop n rest) ∙ ap (λ (rs : List Record). rs ++ drop n rest) after.moves.kept);
      size = omega (arith, length-map after.moves.runs (moves_record head.game));
    }

-- ---- what reading finds

pub found : (head : Head) (rest : List Record) (game : GameState) (made : List Move) →
    ceiling head.moves 60 ≤ length rest → HoldsMoves head.game head.moves (take (ceiling head.moves 60) rest) made →
    IsRestored head made game → HasGameAfter head rest game (ceiling head.moves 60 + 1)
found head rest game made enough holds restored = record {
  of_game = restored.head;
  is_game = restored.is_game;
  enough = enough;
  moves = subst (λ (ms : List Move). HoldsMoves head.game head.moves (take (ceiling head.moves 60) rest) ms)
      (sym restored.moves) holds;
  size = refl;
}

pub not_found : (head : Head) (rest : List Record) (made : List Move) →
    HoldsMoves head.game head.moves (take (ceiling head.moves 60) rest) made → NamesNoGame head made →
    (game : GameState) (many : ℕ) → HasGameAfter head rest game many → ⊥
not_found head rest made holds none game many after =
    none game after.of_game
    (one_list_of_moves head.game head.moves (take (ceiling head.moves 60) rest) game.moves made after.moves holds)
    after.is_game

pub told_some : {A E : Type 0} (P Q : A → Type 0) (result : Result (Option A) E) → ((a : A) → P a → Q a) →
    IfOk result (λ told. IfSome told P) → IfOk result (λ told. IfSome told Q)
told_some P Q (Ok (Some a)) more holds = more a holds
told_some P Q (Ok None) more holds = tt
told_some P Q (Err e) more holds = tt

pub told_none : {A E : Type 0} (P Q : Type 0) (result : Result (Option A) E) → (P → Q) →
    IfOk result (λ told. IfNone told P) → IfOk result (λ told. IfNone told Q)
told_none P Q (Ok (Some a)) more holds = tt
told_none P Q (Ok None) more holds = more holds
told_none P Q (Err e) more holds = tt
