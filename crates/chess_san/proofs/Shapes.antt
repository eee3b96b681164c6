-- The three shapes of a legal move's text: castling, a piece's move and a pawn's move.
use Rattle.std.proofs.Common.{ℕ, ◌≡◌, ◌≢◌, ◌∙◌, Bool, true, false, cond, List, ◌∷◌, ◌++◌, append_assoc, Option, Some, None, ap, sym, refl, inl, inr}
use Rattle.std.specs.Prelude.{◌⊎◌}
use Rattle.std.proofs.lemmas.List.{append-nil}
use Rattle.chess_bits.specs.declared.men.Kind.{Kind}
use Rattle.chess_bits.specs.declared.men.Kind.TheVariants.{Pawn, Knight, Bishop, Rook, Queen, King}
use Rattle.chess_board.specs.declared.castling.Wing.{Wing}
use Rattle.chess_board.specs.declared.castling.Wing.TheVariants as wing
use Rattle.chess_board.specs.declared.moves.Move.{Move}
use Rattle.chess_board.specs.Position.{Position, man_at}
use Rattle.chess_board.specs.Next.{castles_to}
use Rattle.chess_board.specs.Legal.{IsLegal}
use Rattle.chess_notation.specs.declared.telling.Origin.{Origin}
use Rattle.chess_notation.specs.declared.telling.Threat.{Threat}
use Rattle.chess_notation.specs.declared.telling.Threat.TheVariants as threat
use Rattle.chess_notation.specs.Name.{square_name, capital_of, promotion_text}
use Rattle.chess_notation.specs.San.{Disambiguates, IsPieceText, IsKingText, IsManText, IsBody, IsSan, threat_text, origin_text, capture_text, is_capture, pawn_origin, castling_text, castled_wing}

-- a legal move's text, with some suffix or none
pub record IsSpelled (p : Position) (m : Move) (text : List ℕ) : Type 0 where
  pub body : List ℕ
  pub is_body : IsBody p m body
  pub threat : Threat
  pub joined : text ≡ body ++ threat_text threat

pub IsSpelled-from : (p : Position) (m : Move) (text : List ℕ) → IsSan p m text ⊎ IsBody p m text → IsSpelled p m text
IsSpelled-from p m text (inl san) =
    record { body = san.body; is_body = san.is_body; threat = san.threat; joined = san.joined }
IsSpelled-from p m text (inr body) =
    record { body = text; is_body = body; threat = threat.Nothing; joined = sym (append-nil text) }

pub record IsCastlingShape (p : Position) (m : Move) (text : List ℕ) : Type 0 where
  pub legal : IsLegal p m
  pub own : man_at p.placement m.from ≡ Some (p.side, King)
  pub wing : Wing
  pub castles : castles_to p m wing ≡ true
  pub threat : Threat
  pub joined : text ≡ castling_text wing ++ threat_text threat

pub record IsPieceShape (p : Position) (m : Move) (text : List ℕ) : Type 0 where
  pub legal : IsLegal p m
  pub kind : Kind
  pub piece : kind ≢ Pawn
  pub own : man_at p.placement m.from ≡ Some (p.side, kind)
  pub origin : Origin
  pub tells : Disambiguates p m origin
  pub threat : Threat
  pub joined : text ≡ capital_of kind ∷ (origin_text origin m.from ++
      (capture_text (is_capture p m) ++ (square_name m.to ++ threat_text threat)))

pub record IsPawnShape (p : Position) (m : Move) (text : List ℕ) : Type 0 where
  pub legal : IsLegal p m
  pub own : man_at p.placement m.from ≡ Some (p.side, Pawn)
  pub threat : Threat
  pub joined : text ≡ pawn_origin (is_capture p m) m.from ++
      (square_name m.to ++ (promotion_text m.promotion ++ threat_text threat))

abbrev pub IsShape : Position → Move → List ℕ → Type 0
IsShape p m text = IsCastlingShape p m text ⊎ IsPieceShape p m text ⊎ IsPawnShape p m text

piece_shape : (p : Position) (m : Move) (kind : Kind) (body text : List ℕ) (t : Threat) → IsLegal p m → kind ≢ Pawn →
    man_at p.placement m.from ≡ Some (p.side, kind) → IsPieceText p m kind body → text ≡ body ++ threat_text t →
    IsShape p m text
piece_shape p m kind body text t legal piece own is joined = inr (inl (record {
  legal = legal;
  kind = kind;
  piece = piece;
  own = own;
  origin = is.origin;
  tells = is.tells;
  threat = t;
  joined = joined ∙ ap (λ (b : List ℕ). b ++ threat_text t) is.joined
      ∙ ap (λ (r : List ℕ). capital_of kind ∷ r)
      (append_assoc (origin_text is.origin m.from) (capture_text (is_capture p m) ++ square_name m.to) (threat_text t)
      ∙ ap (λ (r : List ℕ). origin_text is.origin m.from ++ r)
      (append_assoc (capture_text (is_capture p m)) (square_name m.to) (threat_text t)));
}))

pawn_shape : (p : Position) (m : Move) (text : List ℕ) (t : Threat) → IsLegal p m →
    man_at p.placement m.from ≡ Some (p.side, Pawn) →
    text ≡ (pawn_origin (is_capture p m) m.from ++ (square_name m.to ++ promotion_text m.promotion)) ++ threat_text t →
    IsShape p m text
pawn_shape p m text t legal own joined = inr (inr (record {
  legal = legal;
  own = own;
  threat = t;
  joined = joined ∙ append_assoc (pawn_origin (is_capture p m) m.from) (square_name m.to ++ promotion_text m.promotion)
      (threat_text t);
}))

-- the wing of castling castles
pub castled-wing : (king queen : Bool) (to : Wing) (test : Wing → Bool) → test wing.King ≡ king →
    test wing.Queen ≡ queen →
    cond king (Some wing.King) (cond queen (Some wing.Queen) None) ≡ Some to → test to ≡ true
castled-wing true queen wing.King test k q e = k
castled-wing true queen wing.Queen test k q e = absurd (cc)
castled-wing false true wing.King test k q e = absurd (cc)
castled-wing false true wing.Queen test k q e = q
castled-wing false false to test k q e = absurd (cc)

king_shape : (p : Position) (m : Move) (castled : Option Wing) (body text : List ℕ) (t : Threat) → IsLegal p m →
    man_at p.placement m.from ≡ Some (p.side, King) → ((to : Wing) → castled ≡ Some to → castles_to p m to ≡ true) →
    IsKingText p m castled body → text ≡ body ++ threat_text t → IsShape p m text
king_shape p m (Some to) body text t legal own castles is joined = inl (record {
  legal = legal;
  own = own;
  wing = to;
  castles = castles to refl;
  threat = t;
  joined = joined ∙ ap (λ (b : List ℕ). b ++ threat_text t) is;
})
king_shape p m None body text t legal own castles is joined =
    piece_shape p m King body text t legal (λ e. absurd (cc)) own is joined

wing_told : (p : Position) (m : Move) (to : Wing) → castled_wing p m ≡ Some to → castles_to p m to ≡ true
wing_told p m to e =
    castled-wing (castles_to p m wing.King) (castles_to p m wing.Queen) to (castles_to p m) refl refl e

man_shape : (p : Position) (m : Move) (kind : Kind) (body text : List ℕ) (t : Threat) → IsLegal p m →
    man_at p.placement m.from ≡ Some (p.side, kind) → IsManText p m kind body → text ≡ body ++ threat_text t →
    IsShape p m text
man_shape p m Pawn body text t legal own is joined =
    pawn_shape p m text t legal own (joined ∙ ap (λ (b : List ℕ). b ++ threat_text t) is)
man_shape p m Knight body text t legal own is joined =
    piece_shape p m Knight body text t legal (λ e. absurd (cc)) own is joined
man_shape p m Bishop body text t legal own is joined =
    piece_shape p m Bishop body text t legal (λ e. absurd (cc)) own is joined
man_shape p m Rook body text t legal own is joined =
    piece_shape p m Rook body text t legal (λ e. absurd (cc)) own is joined
man_shape p m Queen body text t legal own is joined =
    piece_shape p m Queen body text t legal (λ e. absurd (cc)) own is joined
man_shape p m King body text t legal own is joined =
    king_shape p m (castled_wing p m) body text t legal own (wing_told p m) is joined

pub IsShape-spelled : (p : Position) (m : Move) (text : List ℕ) → IsSpelled p m text → IsShape p m text
IsShape-spelled p m text is =
    man_shape p m is.is_body.kind is.body text is.threat is.is_body.legal is.is_body.own is.is_body.told is.joined
