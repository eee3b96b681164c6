-- Records with one run more, and with a game's part.
use Rattle.std.specs.Prelude.{ℕ, ◌≡◌, ◌≤◌, ◌<◌, ◌+◌, min, List, [], ◌∷◌, ◌++◌, length, map, Result, Ok, Err, OnOk, OnErr}
use Rattle.std.proofs.Common.{arith, ap, sym, subst, ◌∙◌, length-append, append_assoc}
use Rattle.std.proofs.lemmas.List.{append-nil, map-append, nil_from_length}
use Rattle.chess_board.specs.declared.moves.Move.{Move}
use Rattle.rec_codec.specs.declared.record.Record.{Record}
use Rattle.rec_codec.specs.declared.record.Record.TheVariants as kind
use Rattle.chess_entry.specs.State.{GameState}
use Rattle.chess_entry.specs.Snapshot.{AreRuns, moves_record}
use Rattle.chess_table.specs.Part.{IsFrontOf, HasHeadMore, HasRunsMore, HasGameMore}
use Rattle.chess_table.proofs.RunLemmas.{AreRuns-none, AreRuns-cons}

-- ---- runs, one after the other

abbrev pub GoesOn : List Move → List Move → List (List Move) → Type 0
GoesOn moves rest done = (runs : List (List Move)) → AreRuns rest runs → AreRuns moves (done ++ runs)

pub written_more : (number : ℕ) (front items now : List Record) (done : List (List Move)) (run : List Move) →
    items ≡ front ++ map (moves_record number) done → now ≡ items ++ moves_record number run ∷ [] →
    now ≡ front ++ map (moves_record number) (done ++ run ∷ [])
written_more number front items now done run written more =
    more
    ∙ ap (λ (rs : List Record). rs ++ moves_record number run ∷ []) written
    ∙ append_assoc front (map (moves_record number) done) (moves_record number run ∷ [])
    ∙ ap (λ (rs : List Record). front ++ rs) (sym (map-append (moves_record number) done (run ∷ [])))

-- what a further run of at most `size` moves is
pub record IsNextRun (size : ℕ) (rest run rest' : List Move) : Type 0 where
  pub whole : size ≡ 60
  pub cut : rest ≡ run ++ rest'
  pub most : length run ≡ min size (length rest)
  pub some : 0 < length rest

pub next_size : (size : ℕ) (rest run rest' : List Move) → IsNextRun size rest run rest' →
    (1 ≤ length run) × (length run ≤ 60)
next_size size rest run rest' next =
    let whole = next.whole in
    let most = next.most in
    let some = next.some in
    (omega arith, omega arith)

pub goes_more : (moves rest run rest' : List Move) (done : List (List Move)) (size : ℕ) → IsNextRun size rest run rest' →
    GoesOn moves rest done → GoesOn moves rest' (done ++ run ∷ [])
goes_more moves rest run rest' done size next goes = λ runs are.
    let whole = next.whole in
    let most = next.most in
    let some = next.some in
    let sum : length rest ≡ length run + length rest' = ap length next.cut ∙ length-append run rest' in
    let longer = AreRuns-cons run rest' runs (omega arith) (omega arith) are in
    subst (λ (rs : List (List Move)). AreRuns moves rs) (sym (append_assoc done (run ∷ []) runs))
    (goes (run ∷ runs) (subst (λ (ms : List Move). AreRuns ms (run ∷ runs)) (sym next.cut) longer))

pub all_written : (number : ℕ) (front now : List Record) (moves rest : List Move) (done : List (List Move)) →
    length rest ≡ 0 → now ≡ front ++ map (moves_record number) done → GoesOn moves rest done →
    HasRunsMore front now number moves
all_written number front now moves rest done none written goes = record {
  runs = done;
  cut = subst (λ (rs : List (List Move)). AreRuns moves rs) (append-nil done)
      (goes [] (subst (λ (ms : List Move). AreRuns ms []) (sym (nil_from_length rest none)) AreRuns-none));
  records = written;
}

-- ---- a part

pub part_written : (old mid new : List Record) (game : GameState) (number : ℕ) (moves : List Move) →
    HasHeadMore old mid game → HasRunsMore mid new number moves → number ≡ game.number → moves ≡ game.moves →
    HasGameMore old new game
part_written old mid new game number moves head runs same all =
    let named : number ≡ head.head.game = same ∙ sym head.of_game.number in
    record {
      part = record { head = head.head; runs = runs.runs };
      stored = record {
        head = head.of_game;
        runs = subst (λ (ms : List Move). AreRuns ms runs.runs) all runs.cut;
      };
      records =
          runs.records
          ∙ ap (λ (rs : List Record). rs ++ map (moves_record number) runs.runs) head.records
          ∙ append_assoc old (kind.Head head.head ∷ []) (map (moves_record number) runs.runs)
          ∙ ap (λ (n : ℕ). old ++ kind.Head head.head ∷ map (moves_record n) runs.runs) named;
    }

pub IsFrontOf-more : (old mid new : List Record) (game : GameState) → HasHeadMore old mid game → IsFrontOf mid new →
    IsFrontOf old new
IsFrontOf-more old mid new game head front = record {
  more = kind.Head head.head ∷ front.more;
  records =
      front.records
      ∙ ap (λ (rs : List Record). rs ++ front.more) head.records
      ∙ append_assoc old (kind.Head head.head ∷ []) front.more;
}

-- ---- what writing a game answers, after its head record

pub game_written : {E : Type 0} (result : Result (Unit {0}) E) (old mid new : List Record) (game : GameState) (number : ℕ)
    (moves : List Move) → HasHeadMore old mid game → number ≡ game.number → moves ≡ game.moves →
    OnOk result (HasRunsMore mid new number moves) → OnOk result (HasGameMore old new game)
game_written (Ok done) old mid new game number moves head same all runs =
    part_written old mid new game number moves head runs same all
game_written (Err e) old mid new game number moves head same all runs = tt

pub game_begun : {E : Type 0} (result : Result (Unit {0}) E) (old mid new : List Record) (game : GameState) →
    HasHeadMore old mid game → OnErr result (IsFrontOf mid new) → OnErr result (IsFrontOf old new)
game_begun (Ok done) old mid new game head front = tt
game_begun (Err e) old mid new game head front = IsFrontOf-more old mid new game head front
