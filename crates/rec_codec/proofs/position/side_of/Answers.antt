use Rattle.std.proofs.Common.{◌∙◌, [], ◌∷◌, ap}
use Rattle.rec_codec.specs.Flags.{is_set, is_black, colour_of}
use Rattle.rec_codec.proofs.FieldLemmas.{flag-1}
use Rattle.rec_codec.proofs.PositionLemmas.{colour_of-is_black}
use Rattle.rec_codec.proofs.position.side_of.Goals as goal

pub returns : goal.returns
returns c = λ p e.
    let r = p.rights in
    c.colour_of.ensures
    ∙ (ap colour_of (c.is_set.ensures ∙ (ap (λ f. is_set f 1) e
    ∙ flag-1 (is_black p.side) (r.white_king ∷ r.white_queen ∷ r.black_king ∷ r.black_queen ∷ [])))
    ∙ colour_of-is_black p.side)
