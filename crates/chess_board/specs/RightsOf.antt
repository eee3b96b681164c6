use Rattle.std.specs.Prelude.{ℕ, ◌≡◌, ◌+◌, ◌*◌, ◌<◌, ◌==◌, cond, false}
use Rattle.std.specs.Int.{bit_at}
use Rattle.std.proofs.Common.{arith, ap}
use Rattle.std.proofs.lemmas.Bool.Decides.{nat_tests}
use Rattle.chess_board.specs.declared.castling.CastlingRights.{CastlingRights}
use Rattle.chess_board.specs.Position.{Rights}

-- the rights that a set of flags stands for; other bits stand for nothing
abbrev pub rights_of : CastlingRights → Rights
rights_of flags = record {
  white_king = bit_at flags.0 0 == 1;
  white_queen = bit_at flags.0 1 == 1;
  black_king = bit_at flags.0 2 == 1;
  black_queen = bit_at flags.0 3 == 1;
}

-- neither side may castle any more
abbrev pub no_rights : Rights
no_rights = record { white_king = false; white_queen = false; black_king = false; black_queen = false }

-- no other bit is set
abbrev pub HasKnownFlags : CastlingRights → Type 0
HasKnownFlags flags = flags.0 < 16

-- the flags of rights
abbrev pub flags_of : Rights → CastlingRights
flags_of rights = record {
  0 = cond rights.white_king 1 0 + 2 * cond rights.white_queen 1 0 + 4 * cond rights.black_king 1 0 + 8 * cond
      rights.black_queen 1 0;
}

bit_back : (n i : ℕ) → cond (bit_at n i == 1) 1 0 ≡ bit_at n i
bit_back n i = grind (arith, nat_tests)

-- known flags are those of their rights
pub flags_of-rights_of : (flags : CastlingRights) → HasKnownFlags flags → flags_of (rights_of flags) ≡ flags
flags_of-rights_of flags known =
    let bits : cond (bit_at flags.0 0 == 1) 1 0 + 2 * cond (bit_at flags.0 1 == 1) 1 0 + 4 * cond (bit_at
    flags.0 2 == 1) 1 0 + 8 * cond (bit_at flags.0 3 == 1) 1 0 ≡ flags.0 =
    rw (bit_back flags.0 0, bit_back flags.0 1, bit_back flags.0 2, bit_back flags.0 3) (omega arith) in
    ap (λ (n : ℕ). let made : CastlingRights = record { 0 = n } in made) bits
