-- What a line asks for, and what follows where that has a fault.
use Rattle.std.specs.Prelude.{ℕ, ◌≢◌, ◌<◌, ◌≤◌, List, [], ◌∷◌, length, decimal, get_or}
use Rattle.std.proofs.Common.{arith, zero, suc}
use Rattle.chess_fen.proofs.Joined.{AllAbove}
use Rattle.chess_fen.proofs.OnePosition.{decimal-above}
use Rattle.perft.specs.declared.answers.Fault.{Fault}
use Rattle.perft.specs.declared.answers.Fault.TheVariants.{Line, Fen}
use Rattle.perft.specs.Answers.{Asks, IsFault, IsRefusal}

unspaced : (text : List ℕ) → AllAbove 32 text → (i : ℕ) → i < length text → get_or text i 0 ≢ 32
unspaced [] above i below = absurd (omega arith)
unspaced (c ∷ text) above zero below = λ e. absurd (omega (arith, above.0))
unspaced (c ∷ text) above (suc i) below = unspaced text above.1 i (omega arith)

pub depth_unspaced : (depth : ℕ) → depth ≤ 255 → (i : ℕ) → i < length (decimal depth) →
    get_or (decimal depth) i 0 ≢ 32
depth_unspaced depth short = unspaced (decimal depth) (decimal-above depth (omega arith))

pub refused : (line : List ℕ) (depth : ℕ) (fen : List ℕ) → Asks line depth fen → (fault : Fault) →
    IsFault fen fault → IsRefusal line fault
refused line depth fen asked (Fen fault) told =
    record { depth = depth; fen = fen; asked = asked; told = told }
refused line depth fen asked Line told = absurd told
