-- Records of snapshots by their fields.
use Rattle.std.proofs.Common.{◌≡◌, ℕ, ◌<◌, ◌^◌, Bool, Option, Some, None, ap, ◌∙◌, arith}
use Rattle.chess_board.specs.Position.{Position}
use Rattle.rec_codec.specs.declared.record.Meta.{Meta}
use Rattle.rec_codec.specs.declared.record.Seat.{Seat}
use Rattle.rec_codec.specs.declared.record.StoredEnding.{StoredEnding}
use Rattle.rec_codec.specs.declared.record.StoredEnding.TheVariants as ending
use Rattle.rec_codec.specs.declared.record.Head.{Head}
use Rattle.rec_codec.specs.Records.{ending_number}

pub same_meta : (m : Meta) (games : ℕ) (moment : ℕ) (last : ℕ) (entries : ℕ) →
    games ≡ m.games → moment ≡ m.moment → last ≡ m.last → entries ≡ m.entries →
    (let made : Meta = record { games = games; moment = moment; last = last; entries = entries } in made) ≡ m
same_meta m games moment last entries e0 e1 e2 e3 =
    let make : ℕ → ℕ → ℕ → ℕ → Meta =
    λ games moment last entries. record { games = games; moment = moment; last = last; entries = entries } in
    ap (λ x. make x moment last entries) e0
    ∙ (ap (λ x. make m.games x last entries) e1
    ∙ (ap (λ x. make m.games m.moment x entries) e2
    ∙ ap (λ x. make m.games m.moment m.last x) e3))

pub same_head : (h : Head) (game : ℕ) (moment : ℕ) (moves : ℕ) (initial : ℕ) (increment : ℕ) (period : Option
    (ℕ × ℕ)) (start : Position) (white : Seat) (black : Seat) (claimed : Bool) (ending : Option StoredEnding) →
    game ≡ h.game → moment ≡ h.moment → moves ≡ h.moves → initial ≡ h.initial → increment ≡ h.increment →
    period ≡ h.period → start ≡ h.start → white ≡ h.white → black ≡ h.black → claimed ≡ h.claimed → ending ≡ h.ending →
    (let made : Head = record {
      game = game;
      moment = moment;
      moves = moves;
      initial = initial;
      increment =
          increment;
      period = period;
      start = start;
      white = white;
      black = black;
      claimed = claimed;
      ending =
          ending;
    } in made) ≡ h
same_head h game moment moves initial increment period start white black claimed ending e0 e1 e2 e3 e4 e5 e6 e7 e8 e9 e10 =
    let make : ℕ → ℕ → ℕ → ℕ → ℕ → Option (ℕ × ℕ) → Position → Seat → Seat → Bool → Option StoredEnding → Head =
    λ game moment moves initial increment period start white black claimed ending. record {
      game = game;
      moment =
          moment;
      moves = moves;
      initial = initial;
      increment = increment;
      period = period;
      start = start;
      white =
          white;
      black = black;
      claimed = claimed;
      ending = ending;
    } in
    ap (λ x. make x moment moves initial increment period start white black claimed ending) e0
    ∙ (ap (λ x. make h.game x moves initial increment period start white black claimed ending) e1
    ∙ (ap (λ x. make h.game h.moment x initial increment period start white black claimed ending) e2
    ∙ (ap (λ x. make h.game h.moment h.moves x increment period start white black claimed ending) e3
    ∙ (ap (λ x. make h.game h.moment h.moves h.initial x period start white black claimed ending) e4
    ∙ (ap (λ x. make h.game h.moment h.moves h.initial h.increment x start white black claimed ending) e5
    ∙ (ap (λ x. make h.game h.moment h.moves h.initial h.increment h.period x white black claimed ending) e6
    ∙ (ap (λ x. make h.game h.moment h.moves h.initial h.increment h.period h.start x black claimed ending) e7
    ∙ (ap (λ x. make h.game h.moment h.moves h.initial h.increment h.period h.start h.white x claimed ending) e8
    ∙ (ap (λ x. make h.game h.moment h.moves h.initial h.increment h.period h.start h.white h.black x ending) e9
    ∙ ap (λ x. make h.game h.moment h.moves h.initial h.increment h.period h.start h.white h.black h.claimed x) e10)))))))))

-- the number of an ending fits its field
pub ending_number-below : (e : Option StoredEnding) → ending_number e < 2 ^ 16
ending_number-below None = omega arith
ending_number-below (Some ending.WhiteMates) = omega arith
ending_number-below (Some ending.BlackMates) = omega arith
ending_number-below (Some ending.WhiteWinsByResignation) = omega arith
ending_number-below (Some ending.BlackWinsByResignation) = omega arith
ending_number-below (Some ending.Stalemate) = omega arith
ending_number-below (Some ending.DeadPosition) = omega arith
ending_number-below (Some ending.Agreement) = omega arith
ending_number-below (Some ending.WhiteWinsOnTime) = omega arith
ending_number-below (Some ending.BlackWinsOnTime) = omega arith
ending_number-below (Some ending.DrawnOnTime) = omega arith
ending_number-below (Some ending.ThirdOccurrence) = omega arith
ending_number-below (Some ending.FiftyMoves) = omega arith
ending_number-below (Some ending.FifthOccurrence) = omega arith
ending_number-below (Some ending.SeventyFiveMoves) = omega arith
