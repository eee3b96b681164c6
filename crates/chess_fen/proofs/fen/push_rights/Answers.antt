use Rattle.std.proofs.Common.{◌≡◌, ◌≢◌, List, ℕ, [], ◌∷◌, ◌++◌, length, ap, ◌∙◌, sym}
use Rattle.chess_board.specs.Position.{Rights}
use Rattle.chess_board.specs.RightsOf.{rights_of}
use Rattle.chess_notation.specs.Fen.{letter_if}
use Rattle.chess_fen.proofs.Rights.{or_dash-none, or_dash-some}
use Rattle.chess_fen.proofs.fen.push_rights.Goals as goal

-- the letters that the rights have
letters_of : Rights → List ℕ
letters_of rights = letter_if rights.white_king 75 ++ (letter_if rights.white_queen 81 ++
    (letter_if rights.black_king 107 ++ letter_if rights.black_queen 113))

pub returns-then-len-start-clause-bytes : goal.returns-then-len-start-clause-bytes
unfolding letters_of
returns-then-len-start-clause-bytes c =
    let old = c.args.text.now.bytes in
    let rights = rights_of c.args.rights in
    let letters : c.push_letters.new.text.bytes ≡ old ++ letters_of rights = c.push_letters.ensures.bytes in
    let none : length (old ++ letters_of rights) ≡ length old = sym (ap length letters) ∙ (cc) in
    c.push.ensures.bytes ∙ (ap (λ t. t ++ (45 ∷ [])) letters ∙ or_dash-none old (letters_of rights) none)

pub returns-else-len-start-clause-bytes : goal.returns-else-len-start-clause-bytes
unfolding letters_of
returns-else-len-start-clause-bytes c =
    let old = c.args.text.now.bytes in
    let rights = rights_of c.args.rights in
    let letters : c.push_letters.new.text.bytes ≡ old ++ letters_of rights = c.push_letters.ensures.bytes in
    let some : length (old ++ letters_of rights) ≢ length old =
    λ same. c.if-len-start.false (c.len.ensures.value ∙ (ap length letters ∙ (same ∙ sym c.len-start.ensures.value))) in
    letters ∙ or_dash-some old (letters_of rights) some
