-- A legal move has one SAN.
use Rattle.std.proofs.Common.{ℕ, ◌≡◌, ◌∙◌, List, ◌++◌, Option, Some, None, ap, sym, subst, refl}
use Rattle.chess_bits.specs.declared.men.Kind.{Kind}
use Rattle.chess_bits.specs.declared.men.Kind.TheVariants.{Pawn, Knight, Bishop, Rook, Queen, King}
use Rattle.chess_bits.proofs.ManLemmas.{same_kind}
use Rattle.chess_board.specs.declared.castling.Wing.{Wing}
use Rattle.chess_board.specs.declared.moves.Move.{Move}
use Rattle.chess_board.specs.Position.{Position, man_at}
use Rattle.chess_notation.specs.declared.telling.Among.TheVariants as among
use Rattle.chess_notation.specs.declared.telling.Origin.{Origin}
use Rattle.chess_notation.specs.declared.telling.Origin.TheVariants as origin
use Rattle.chess_notation.specs.declared.telling.Threat.{Threat}
use Rattle.chess_notation.specs.declared.telling.Threat.TheVariants as threat
use Rattle.chess_notation.specs.San.{HasRival, Disambiguates, IsPieceText, IsKingText, IsManText, IsBody, Threatens, threat_text, IsSan, piece_text, castled_wing}

somewhere : (p : Position) (m : Move) → HasRival p m among.File → HasRival p m among.Board
somewhere p m (rival, is, on) = (rival, is, tt)

pub Disambiguates-one : (p : Position) (m : Move) (a b : Origin) → Disambiguates p m a → Disambiguates p m b → a ≡ b
Disambiguates-one p m origin.Nothing origin.Nothing x y = refl
Disambiguates-one p m origin.Nothing origin.File x y = absurd (x y.0)
Disambiguates-one p m origin.Nothing origin.Rank x y = absurd (x (somewhere p m y.0))
Disambiguates-one p m origin.Nothing origin.Square x y = absurd (x (somewhere p m y.0))
Disambiguates-one p m origin.File origin.Nothing x y = absurd (y x.0)
Disambiguates-one p m origin.File origin.File x y = refl
Disambiguates-one p m origin.File origin.Rank x y = absurd (x.1 y.0)
Disambiguates-one p m origin.File origin.Square x y = absurd (x.1 y.0)
Disambiguates-one p m origin.Rank origin.Nothing x y = absurd (y (somewhere p m x.0))
Disambiguates-one p m origin.Rank origin.File x y = absurd (y.1 x.0)
Disambiguates-one p m origin.Rank origin.Rank x y = refl
Disambiguates-one p m origin.Rank origin.Square x y = absurd (x.1 y.1)
Disambiguates-one p m origin.Square origin.Nothing x y = absurd (y (somewhere p m x.0))
Disambiguates-one p m origin.Square origin.File x y = absurd (y.1 x.0)
Disambiguates-one p m origin.Square origin.Rank x y = absurd (y.1 x.1)
Disambiguates-one p m origin.Square origin.Square x y = refl

piece_one : (p : Position) (m : Move) (kind : Kind) (a b : List ℕ) → IsPieceText p m kind a → IsPieceText p m kind b →
    a ≡ b
piece_one p m kind a b x y =
    x.joined ∙ ap (piece_text p m kind) (Disambiguates-one p m x.origin y.origin x.tells y.tells) ∙ sym y.joined

king_one : (p : Position) (m : Move) (castled : Option Wing) (a b : List ℕ) → IsKingText p m castled a →
    IsKingText p m castled b → a ≡ b
king_one p m (Some to) a b x y = x ∙ sym y
king_one p m None a b x y = piece_one p m King a b x y

man_one : (p : Position) (m : Move) (kind : Kind) (a b : List ℕ) → IsManText p m kind a → IsManText p m kind b → a ≡ b
man_one p m Pawn a b x y = x ∙ sym y
man_one p m Knight a b x y = piece_one p m Knight a b x y
man_one p m Bishop a b x y = piece_one p m Bishop a b x y
man_one p m Rook a b x y = piece_one p m Rook a b x y
man_one p m Queen a b x y = piece_one p m Queen a b x y
man_one p m King a b x y = king_one p m (castled_wing p m) a b x y

pub IsBody-one : (p : Position) (m : Move) (a b : List ℕ) → IsBody p m a → IsBody p m b → a ≡ b
IsBody-one p m a b x y =
    let same : y.kind ≡ x.kind = same_kind (man_at p.placement m.from) (p.side, y.kind) (p.side, x.kind) y.own x.own in
    let Text' : Kind → Type 0 = λ k. IsManText p m k b in
    man_one p m x.kind a b x.told (subst Text' same y.told)

Threatens-one : (p : Position) (m : Move) (a b : Threat) → Threatens p m a → Threatens p m b → a ≡ b
Threatens-one p m threat.Nothing threat.Nothing x y = refl
Threatens-one p m threat.Nothing threat.Check x y = absurd (x y.0)
Threatens-one p m threat.Nothing threat.Mate x y = absurd (x y.0)
Threatens-one p m threat.Check threat.Nothing x y = absurd (y x.0)
Threatens-one p m threat.Check threat.Check x y = refl
Threatens-one p m threat.Check threat.Mate x y = absurd (y.1 x.1)
Threatens-one p m threat.Mate threat.Nothing x y = absurd (y x.0)
Threatens-one p m threat.Mate threat.Check x y = absurd (x.1 y.1)
Threatens-one p m threat.Mate threat.Mate x y = refl

pub IsSan-one : (p : Position) (m : Move) (a b : List ℕ) → IsSan p m a → IsSan p m b → a ≡ b
IsSan-one p m a b x y =
    x.joined ∙ ap (λ (t : List ℕ). t ++ threat_text x.threat) (IsBody-one p m x.body y.body x.is_body y.is_body)
    ∙ ap (λ (t : Threat). y.body ++ threat_text t) (Threatens-one p m x.threat y.threat x.threatens y.threatens)
    ∙ sym y.joined
