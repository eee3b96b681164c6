use Rattle.std.proofs.Common.{◌∙◌, [], ◌∷◌, ap}
use Rattle.rec_codec.specs.Flags.{is_set, is_black}
use Rattle.rec_codec.proofs.FieldLemmas.{flag-2, flag-4, flag-8, flag-16}
use Rattle.rec_codec.proofs.PositionLemmas.{same_rights}
use Rattle.rec_codec.proofs.position.rights_of.Goals as goal

pub returns : goal.returns
returns c = λ p e.
    let r = p.rights in
    c.of.ensures.rights
    ∙ same_rights r c.is_set-white_king.result c.is_set-white_queen.result c.is_set-black_king.result c.is_set-black_queen.result
    (c.is_set-white_king.ensures ∙ (ap (λ f. is_set f 2) e
    ∙ flag-2 (is_black p.side) r.white_king (r.white_queen ∷ r.black_king ∷ r.black_queen ∷ [])))
    (c.is_set-white_queen.ensures ∙ (ap (λ f. is_set f 4) e
    ∙ flag-4 (is_black p.side) r.white_king r.white_queen (r.black_king ∷ r.black_queen ∷ [])))
    (c.is_set-black_king.ensures ∙ (ap (λ f. is_set f 8) e
    ∙ flag-8 (is_black p.side) r.white_king r.white_queen r.black_king (r.black_queen ∷ [])))
    (c.is_set-black_queen.ensures ∙ (ap (λ f. is_set f 16) e
    ∙ flag-16 (is_black p.side) r.white_king r.white_queen r.black_king r.black_queen []))
