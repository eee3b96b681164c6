-- Worked bytes, computed by the definitions alone.
use Rattle.std.proofs.Common.{arith, ◌≡◌, ℕ, true, List, [], ◌∷◌, ◌++◌, take, drop, replicate, Option, Some, None, refl}
use Rattle.std.specs.Prelude.{codes}
use Rattle.chess_bits.specs.declared.men.Colour.TheVariants.{Black}
use Rattle.chess_bits.specs.declared.men.Kind.TheVariants.{Queen}
use Rattle.chess_bits.specs.Square.{square}
use Rattle.chess_bits.specs.Table.{at}
use Rattle.chess_board.specs.declared.moves.Move.{Move}
use Rattle.chess_board.specs.Initial.{initial}
use Rattle.rec_codec.specs.declared.limits.Limits.{Limits}
use Rattle.rec_codec.specs.declared.limits.Version.TheVariants as version
use Rattle.rec_codec.specs.declared.header.Half.TheVariants as half
use Rattle.rec_codec.specs.declared.header.Header.{Header}
use Rattle.rec_codec.specs.declared.record.Event.TheVariants as event
use Rattle.rec_codec.specs.declared.record.Record.TheVariants as kind
use Rattle.rec_codec.specs.declared.record.Record.{Record}
use Rattle.rec_codec.specs.Field.{over}
use Rattle.rec_codec.specs.Limits.{snapshot_records, snapshot_sectors, journal_sectors, half_sectors, need}
use Rattle.rec_codec.specs.Moves.{move_code}
use Rattle.rec_codec.specs.Position.{position_bytes}
use Rattle.rec_codec.specs.Records.{entry, record_bytes}
use Rattle.rec_codec.specs.Header.{header_bytes, IsValidIn}

-- The sizes of a device: the most records of a snapshot, its sectors, the journal's at least, a half's, all.
abbrev sizes : ℕ → ℕ → List ℕ
sizes games plies =
    let limits : Limits = record { games = games; plies = plies } in
    snapshot_records limits ∷ snapshot_sectors limits ∷ journal_sectors limits ∷ half_sectors limits ∷ need limits ∷ []

one_game : sizes 1 1 ≡ 3 ∷ 1 ∷ 102 ∷ 103 ∷ 208 ∷ []
one_game = refl

four_games : sizes 4 60 ≡ 9 ∷ 3 ∷ 102 ∷ 105 ∷ 212 ∷ []
four_games = refl

eight_games : sizes 8 60 ≡ 17 ∷ 5 ∷ 102 ∷ 107 ∷ 216 ∷ []
eight_games = refl

many_games : sizes 256 1024 ≡ 4865 ∷ 1217 ∷ 748 ∷ 1965 ∷ 3932 ∷ []
many_games = refl

most_games : sizes 4096 20000 ≡ 1372161 ∷ 343041 ∷ 182342 ∷ 525383 ∷ 1050768 ∷ []
most_games = refl

-- The moves e2e4 and a7b8q.
abbrev e2e4 : Move
e2e4 = record { from = square 5 2; to = square 5 4; promotion = None }

abbrev a7b8q : Move
a7b8q = record { from = square 1 7; to = square 2 8; promotion = Some Queen }

code_of_e2e4 : move_code e2e4 ≡ 1804
code_of_e2e4 = refl

code_of_a7b8q : move_code a7b8q ≡ 20080
code_of_a7b8q = refl

-- The initial position: 24533642 11111111, 16 zero bytes, 99999999 acdbbeca 1e 40 0000 0100.
bytes_of_initial : position_bytes (Some initial) ≡
    36 ∷ 83 ∷ 54 ∷ 66 ∷ 17 ∷ 17 ∷ 17 ∷ 17 ∷ (replicate 16 0 ++
    (153 ∷ 153 ∷ 153 ∷ 153 ∷ 172 ∷ 219 ∷ 190 ∷ 202 ∷ 30 ∷ 64 ∷ 0 ∷ 0 ∷ 1 ∷ 0 ∷ []))
unfolding position_bytes over at
bytes_of_initial = refl

-- White's e2e4 as the first move of game 1 at 1,000: 03 00 0c07 01000000 e803000000000000 00000000.
bytes_of_move : record_bytes (kind.Entry (entry 1 1000 (event.Move (record { mv = e2e4; ply = 0 })))) ≡
    3 ∷ 0 ∷ 12 ∷ 7 ∷ 1 ∷ 0 ∷ 0 ∷ 0 ∷ 232 ∷ 3 ∷ replicate 118 0
unfolding over position_bytes at
bytes_of_move = refl

-- The meta record of a snapshot with one game, moment 6,000, last number 1 and 12 entries.
bytes_of_meta : record_bytes (kind.Meta (record { games = 1; moment = 6000; last = 1; entries = 12 })) ≡
    16 ∷ 0 ∷ 0 ∷ 0 ∷ 1 ∷ 0 ∷ 0 ∷ 0 ∷ 112 ∷ 23 ∷ 0 ∷ 0 ∷ 0 ∷ 0 ∷ 0 ∷ 0 ∷ 1 ∷ 0 ∷ 0 ∷ 0 ∷ 12 ∷ replicate 107 0
unfolding over
bytes_of_meta = refl

-- The head record of a game between ann and bob with times 300 and 0: both seats taken, both offers standing, claimed,
-- moment 5,000, 9 moves, times held 416,000 and 420,000. Its flags are 31.
abbrev head : Option (ℕ × ℕ) → Record
head period = kind.Head (record {
  game = 1;
  moment = 5000;
  moves = 9;
  initial = 300;
  increment = 0;
  period = period;
  start = initial;
  white = record { taken = true; name = Some (codes "ann"); offers = true; held = 416000 };
  black = record { taken = true; name = Some (codes "bob"); offers = true; held = 420000 };
  claimed = true;
  ending = None;
})

bytes_of_head : take 32 (record_bytes (head None)) ≡
    17 ∷ 31 ∷ 0 ∷ 0 ∷ 1 ∷ 0 ∷ 0 ∷ 0 ∷ 136 ∷ 19 ∷ 0 ∷ 0 ∷ 0 ∷ 0 ∷ 0 ∷ 0 ∷ 9 ∷ 0 ∷ 0 ∷ 0 ∷ 44 ∷ 1 ∷ 0 ∷ 0 ∷ 0 ∷ 0 ∷
    0 ∷ 0 ∷
    3 ∷ 97 ∷ 110 ∷ 110 ∷ []
unfolding over
bytes_of_head = refl

end_of_head : drop 100 (record_bytes (head None)) ≡ 0 ∷ 89 ∷ 6 ∷ 0 ∷ 160 ∷ 104 ∷ 6 ∷ 0 ∷ replicate 20 0
unfolding over position_bytes at
end_of_head = refl

-- The same with a second period of 30 seconds after 40 moves: the flag 32, and 40 and 30 at bytes 108 and 112.
flags_with_period : take 2 (record_bytes (head (Some (40, 30)))) ≡ 17 ∷ 63 ∷ []
unfolding over
flags_with_period = refl

end_with_period : drop 108 (record_bytes (head (Some (40, 30)))) ≡ 40 ∷ 0 ∷ 0 ∷ 0 ∷ 30 ∷ replicate 15 0
unfolding over position_bytes at
end_with_period = refl

-- An Open by Black with a second period: the flags 1 and 2, and the numbers at bytes 84 and 88.
abbrev opening : Record
opening = kind.Entry (entry 1 0 (event.Open (record {
  colour = Black;
  initial = 60;
  increment = 2;
  period = Some (1, 30);
  name = codes "ann";
  start = initial;
})))

flags_of_opening : take 2 (record_bytes opening) ≡ 1 ∷ 3 ∷ []
unfolding over
flags_of_opening = refl

end_of_opening : drop 84 (record_bytes opening) ≡ 1 ∷ 0 ∷ 0 ∷ 0 ∷ 30 ∷ replicate 39 0
unfolding over position_bytes at
end_of_opening = refl

-- The header that a device for 4 games and 60 moves is formatted with, in slot 1.
abbrev first_header : Header
first_header = record {
  version = version.Two;
  sectors = 212;
  seq = 1;
  half = half.Zero;
  snapshot = 0;
  journal = 0;
  limits = record { games = 4; plies = 60 };
}

bytes_of_header : header_bytes first_header ≡
    70 ∷ 73 ∷ 68 ∷ 69 ∷ 74 ∷ 82 ∷ 78 ∷ 49 ∷ 2 ∷ 0 ∷ 0 ∷ 0 ∷ 212 ∷ 0 ∷ 0 ∷ 0 ∷ 1 ∷ 0 ∷ 0 ∷ 0 ∷ 0 ∷ 0 ∷ 0 ∷ 0 ∷
    (replicate 12 0 ++ (4 ∷ 0 ∷ 0 ∷ 0 ∷ 60 ∷ replicate 471 0))
unfolding over
bytes_of_header = refl

first_is_valid : IsValidIn 1 first_header
first_is_valid = record {
  limits = record { some_game = omega arith; few_games = omega arith; some_ply = omega arith; few_plies = omega arith };
  sectors = refl;
  first = omega arith;
  own_slot = refl;
  room = (omega arith, omega arith);
}

-- A header of version 1 in slot 0: its counts are of records, and the half of 105 sectors is full with 3 and 102.
abbrev old_header : Header
old_header = record {
  version = version.One;
  sectors = 212;
  seq = 2;
  half = half.One;
  snapshot = 9;
  journal = 408;
  limits = record { games = 4; plies = 60 };
}

bytes_of_old : header_bytes old_header ≡
    70 ∷ 73 ∷ 68 ∷ 69 ∷ 74 ∷ 82 ∷ 78 ∷ 49 ∷ 1 ∷ 0 ∷ 0 ∷ 0 ∷ 212 ∷ 0 ∷ 0 ∷ 0 ∷ 2 ∷ 0 ∷ 0 ∷ 0 ∷ 0 ∷ 0 ∷ 0 ∷ 0 ∷
    1 ∷ 0 ∷ 0 ∷ 0 ∷ 9 ∷ 0 ∷ 0 ∷ 0 ∷ 152 ∷ 1 ∷ 0 ∷ 0 ∷ 4 ∷ 0 ∷ 0 ∷ 0 ∷ 60 ∷ replicate 471 0
unfolding over
bytes_of_old = refl

old_is_valid : IsValidIn 0 old_header
old_is_valid = record {
  limits = record { some_game = omega arith; few_games = omega arith; some_ply = omega arith; few_plies = omega arith };
  sectors = refl;
  first = omega arith;
  own_slot = refl;
  room = (omega arith, omega arith);
}
