-- The SAN that is computed is the SAN.
use Rattle.std.proofs.Common.{◌≡◌, ◌≢◌, ◌∙◌, Bool, true, false, List, [], ◌∷◌, ◌++◌, Option, Some, None, ap, sym, refl, arith, Decides}
use Rattle.std.specs.Prelude.{Contains}
use Rattle.std.proofs.lemmas.Bool.{false≢true}
use Rattle.std.proofs.lemmas.Bool.Decides.{Decides-eqb, Decides-and, Decides-not}
use Rattle.std.proofs.lemmas.List.Folds.{Any-from_list_any, list_any-from_Any}
use Rattle.chess_bits.specs.declared.men.Kind.{Kind}
use Rattle.chess_bits.specs.declared.men.Kind.TheVariants.{Pawn, Knight, Bishop, Rook, Queen, King}
use Rattle.chess_bits.specs.Square.{Square, is_square}
use Rattle.chess_bits.specs.Man.{Man}
use Rattle.chess_bits.proofs.TableLemmas.{Decides-is_square}
use Rattle.chess_bits.proofs.ManLemmas.{Decides-holds_is_man}
use Rattle.chess_board.specs.declared.castling.Wing.{Wing}
use Rattle.chess_board.specs.declared.moves.Move.{Move}
use Rattle.chess_board.specs.Position.{Position, man_at, is_in_check}
use Rattle.chess_board.specs.Next.{next}
use Rattle.chess_board.specs.Legal.{IsLegal}
use Rattle.chess_board.specs.Computing.{legal_moves_of}
use Rattle.chess_board.proofs.Deciding.{Decides-is_in_check}
use Rattle.chess_board.proofs.LegalMoves.{legal_moves_of-legal, legal_moves_of-each}
use Rattle.chess_moves.specs.Moves.{HasLegal}
use Rattle.chess_notation.specs.declared.telling.Among.{Among}
use Rattle.chess_notation.specs.declared.telling.Among.TheVariants as among
use Rattle.chess_notation.specs.San.{IsOn, HasRival, Disambiguates, IsKingText, IsManText, GivesCheck, Threatens, IsSan, threat_text, castled_wing}
use Rattle.chess_san.specs.Computing.{is_on, is_rival, has_rival, origin_by, origin_told, king_text, man_text, body_of, has_some, threat_by, threat_told, san_of}

Decides-is_on : (along : Among) (a b : Square) → Decides (is_on along a b) (IsOn along a b)
Decides-is_on among.Board a b = (λ _. tt, λ _. refl)
Decides-is_on among.File a b = Decides-eqb b.file a.file
Decides-is_on among.Rank a b = Decides-eqb b.rank a.rank

rival_decides : (p : Position) (m : Move) (man : Man) (along : Among) (r : Move) →
    Decides (is_rival p m man along r)
    ((man_at p.placement r.from ≡ Some man) × ((r.to ≡ m.to) × ((r.from ≢ m.from) × IsOn along m.from r.from)))
rival_decides p m man along r =
    Decides-and _ _ (Decides-holds_is_man man (man_at p.placement r.from))
    (Decides-and _ _ (Decides-is_square r.to m.to)
    (Decides-and _ _ (Decides-not (is_square r.from m.from) (Decides-is_square r.from m.from))
    (Decides-is_on along m.from r.from)))

pub Decides-has_rival : (p : Position) (m : Move) (man : Man) (along : Among) → man_at p.placement m.from ≡ Some man →
    Decides (has_rival p m man along) (HasRival p m along)
Decides-has_rival p m man along own = (
  λ e.
      let (k, r, within, here, passes) = Any-from_list_any (is_rival p m man along) (legal_moves_of p) e in
      let is = (rival_decides p m man along r).0 passes in (
        r,
        record {
          legal = legal_moves_of-legal p r (k, within, here);
          same_man = is.0 ∙ sym own;
          same_target = is.1.0;
          elsewhere = is.1.1.0;
        },
        is.1.1.1,
      ),
  λ (r, is, on).
      let (k, within, here) = legal_moves_of-each p r is.legal in
      list_any-from_Any (is_rival p m man along) (legal_moves_of p) (
        k,
        r,
        within,
        here,
        (rival_decides p m man along r).1
            (is.same_man ∙ own, (is.same_target, (is.elsewhere, on))),
      ),
)

no_decided : {P : Type 0} → Decides false P → P → ⊥
no_decided decides p = false≢true (decides.1 p)

tells_by : (p : Position) (m : Move) (a b c : Bool) → Decides a (HasRival p m among.Board) →
    Decides b (HasRival p m among.File) → Decides c (HasRival p m among.Rank) → Disambiguates p m (origin_by a b c)
tells_by p m false b c x y z = no_decided x
tells_by p m true false c x y z = (x.0 refl, no_decided y)
tells_by p m true true false x y z = (y.0 refl, no_decided z)
tells_by p m true true true x y z = (y.0 refl, z.0 refl)

pub Disambiguates-origin_told : (p : Position) (m : Move) (man : Man) → man_at p.placement m.from ≡ Some man →
    Disambiguates p m (origin_told p m man)
Disambiguates-origin_told p m man own =
    tells_by p m (has_rival p m man among.Board) (has_rival p m man among.File) (has_rival p m man among.Rank)
    (Decides-has_rival p m man among.Board own) (Decides-has_rival p m man among.File own)
    (Decides-has_rival p m man among.Rank own)

king_told : (p : Position) (m : Move) (man : Man) (castled : Option Wing) → man_at p.placement m.from ≡ Some man →
    IsKingText p m castled (king_text p m man castled)
king_told p m man (Some to) own = refl
king_told p m man None own =
    record { origin = origin_told p m man; tells = Disambiguates-origin_told p m man own; joined = refl }

man_told : (p : Position) (m : Move) (man : Man) (kind : Kind) → man_at p.placement m.from ≡ Some man →
    IsManText p m kind (man_text p m man kind)
man_told p m man Pawn own = refl
man_told p m man Knight own =
    record { origin = origin_told p m man; tells = Disambiguates-origin_told p m man own; joined = refl }
man_told p m man Bishop own =
    record { origin = origin_told p m man; tells = Disambiguates-origin_told p m man own; joined = refl }
man_told p m man Rook own =
    record { origin = origin_told p m man; tells = Disambiguates-origin_told p m man own; joined = refl }
man_told p m man Queen own =
    record { origin = origin_told p m man; tells = Disambiguates-origin_told p m man own; joined = refl }
man_told p m man King own = king_told p m man (castled_wing p m) own

some_first : (ms : List Move) → has_some ms ≡ true → (m : Move) × Contains ms m
some_first [] e = absurd (false≢true e)
some_first (m ∷ ms) e = (m, (0, omega arith, refl))

contains_some : (ms : List Move) (m : Move) → Contains ms m → has_some ms ≡ true
contains_some [] m (k, within, here) = absurd (omega arith)
contains_some (x ∷ xs) m here = refl

Decides-has_some : (p : Position) → Decides (has_some (legal_moves_of p)) (HasLegal p)
Decides-has_some p = (
  λ e. let (m, here) = some_first (legal_moves_of p) e in (m, legal_moves_of-legal p m here),
  λ (m, legal). contains_some (legal_moves_of p) m (legal_moves_of-each p m legal),
)

threatens_by : (p : Position) (m : Move) (a b : Bool) → Decides a (GivesCheck p m) → Decides b (HasLegal (next p m)) →
    Threatens p m (threat_by a b)
threatens_by p m false b x y = no_decided x
threatens_by p m true true x y = (x.0 refl, y.0 refl)
threatens_by p m true false x y = (x.0 refl, no_decided y)

-- what is computed of a legal move is its SAN
pub IsSan-san_of : (p : Position) (m : Move) → IsLegal p m → IsSan p m (san_of p m)
IsSan-san_of p m legal =
    let man : Man = (p.side, legal.candidate.kind) in
    record {
      body = man_text p m man legal.candidate.kind;
      is_body = record {
        legal = legal;
        kind = legal.candidate.kind;
        own = legal.candidate.own;
        told = man_told p m man legal.candidate.kind legal.candidate.own;
      };
      threat = threat_told p m;
      threatens = threatens_by p m (is_in_check (next p m).placement (next p m).side)
          (has_some (legal_moves_of (next p m))) (Decides-is_in_check (next p m).placement (next p m).side)
          (Decides-has_some (next p m));
      joined = ap (λ (here : Option Man). body_of p m here ++ threat_text (threat_told p m)) legal.candidate.own;
    }
