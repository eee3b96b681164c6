-- An entry that is the verdict on the act that it would have become of is that on a command: of a player of the game whose
-- text names its move.
use Rattle.std.specs.Prelude.{ℕ, ◌≡◌, ◌≤◌, ◌&&◌, not, nat_lt, nat_eq, Bool, true, false, if◌then◌else◌, List, [], ◌∷◌, ◌++◌, Option, Some, None, is_some, IfSome, max}
use Rattle.std.specs.Cmp.Lexicographic.{pointwise, bytes_decides}
use Rattle.std.specs.Option.{ForSome}
use Rattle.std.proofs.Common.{ap, sym, subst, ◌∙◌, refl, inl, inr, arith}
use Rattle.std.proofs.lemmas.Bool.{cases_Bool, not-false, and_parts}
use Rattle.std.proofs.lemmas.Bool.Decides.{nat_tests}
use Rattle.arrayvec.specs.ArrayString.{ArrayString}
use Rattle.chess_bits.specs.declared.men.Colour.{Colour}
use Rattle.chess_bits.specs.declared.men.Colour.TheVariants.{White, Black}
use Rattle.chess_bits.specs.declared.men.Kind.{Kind}
use Rattle.chess_bits.specs.declared.men.Kind.TheVariants.{Pawn, Knight, Bishop, Rook, Queen, King}
use Rattle.chess_board.specs.declared.moves.Move.{Move}
use Rattle.chess_board.specs.Position.{Position, IsValid}
use Rattle.chess_board.specs.Legal.{IsLegal}
use Rattle.chess_board.proofs.Candidates.{IsOnBoard-from_man}
use Rattle.chess_notation.specs.Fen.{fen_of}
use Rattle.chess_fen.proofs.Positions.{fen_of-IsFenOf}
use Rattle.chess_notation.specs.Name.{square_name}
use Rattle.chess_notation.specs.Coordinate.{IsPromotionText}
use Rattle.chess_notation.specs.Naming.{Names}
use Rattle.player_name.specs.Name.{IsName}
use Rattle.rec_codec.specs.Moves.{CanBecome}
use Rattle.rec_codec.specs.declared.record.Claim.{Claim}
use Rattle.rec_codec.specs.declared.record.Event.{Event}
use Rattle.rec_codec.specs.declared.record.Event.TheVariants as event
use Rattle.rec_codec.specs.declared.record.Entry.{Entry}
use Rattle.rec_codec.specs.declared.record.Opening.{Opening}
use Rattle.rec_codec.specs.Records.{entry}
use Rattle.chess_entry.specs.declared.commands.Act.{Act}
use Rattle.chess_entry.specs.declared.commands.Act.TheVariants as act
use Rattle.chess_entry.specs.declared.commands.Command.{Command}
use Rattle.chess_entry.specs.declared.verdicts.Verdict.{Verdict}
use Rattle.chess_entry.specs.declared.verdicts.Verdict.TheVariants.{Refuse, Enter}
use Rattle.chess_entry.specs.declared.refusals.Refusal.TheVariants.{OfferStands, AlreadyClaimed, FlagUp}
use Rattle.chess_entry.specs.State.{GameState, TableState, position_of, ply_of, is_joined, find_game}
use Rattle.chess_entry.specs.Parsed.{Parsed, parsed, IsMoveParsed}
use Rattle.chess_entry.specs.Verdict.{Check, refuse, first_of, has_offer, in_game, by_side, while_running, in_turn, for_move, for_stated, offered, for_accept, move_entered, join_verdict, move_verdict, offer_verdict, accept_verdict, decline_verdict, resign_verdict, claim_asked, claim_verdict, flag_verdict, drop_verdict, in_seat, side_of, is_named, player_verdict, is_read, verdict, IsParsed}
use Rattle.chess_entry.specs.Bounds.{AreDifferent}
use Rattle.chess_entry.specs.Table.{IsTable, IsOnTable, IsEnteredOn}
use Rattle.chess_entry.proofs.Entering.{passed, find_game-number}
use Rattle.chess_table.proofs.Promotions.{CanBecome-legal}
use Rattle.chess_table.specs.Witness.{StatesLegal, NamesPlayer, opening_verdict, witness_verdict}
use Rattle.chess_table.proofs.CheckLemmas.{skipped}
use Rattle.chess_table.proofs.WhatEnters.{EachOf-found}

-- ---- players

record Player (game : GameState) (side : Colour) : Type 0 where
  name : List ℕ
  named : IsName name
  sits : side_of name game ≡ Some side

module _ (game : GameState) (white_named : IfSome game.white.name IsName) (black_named : IfSome game.black.name IsName)
    (apart : AreDifferent game.white.name game.black.name) where
  white-player : (name : List ℕ) → game.white.name ≡ Some name → side_of name game ≡ Some White
  white-player name is =
      ap (λ (b : Bool). if b then Some White else if is_named name game.black.name then Some Black else None)
      (ap (is_named name) is ∙ (bytes_decides name name).1 refl)

  not_white : (white : Option (List ℕ)) (name : List ℕ) → AreDifferent white (Some name) → is_named name white ≡ false
  not_white None name differ = refl
  not_white (Some w) name differ = elim (cases_Bool (pointwise nat_eq w name)) [
    | inl same ↦ absurd (differ ((bytes_decides w name).0 same))
    | inr other_name ↦ other_name
  ]

  black-player : (name : List ℕ) → game.black.name ≡ Some name → side_of name game ≡ Some Black
  black-player name is =
      ap (λ (b : Bool). if b then Some White else if is_named name game.black.name then Some Black else None)
      (not_white game.white.name name (subst (λ (o : Option (List ℕ)). AreDifferent game.white.name o) is apart))
      ∙ ap (λ (b : Bool). if b then Some Black else None) (ap (is_named name) is ∙ (bytes_decides name name).1 refl)

  some-of : (o : Option (List ℕ)) → is_some o ≡ true → (name : List ℕ) × (o ≡ Some name)
  some-of None so = absurd (cc)
  some-of (Some name) so = (name, refl)

  -- each side of a joined game has a player
  player : is_joined game ≡ true → (side : Colour) → Player game side
  player joined White =
      let is = some-of game.white.name (and_parts (is_some game.white.name) (is_some game.black.name) joined).0 in
      record {
        name = is.0;
        named = subst (λ (o : Option (List ℕ)). IfSome o IsName) is.1 white_named;
        sits = white-player is.0 is.1;
      }
  player joined Black =
      let is = some-of game.black.name (and_parts (is_some game.white.name) (is_some game.black.name) joined).1 in
      record {
        name = is.0;
        named = subst (λ (o : Option (List ℕ)). IfSome o IsName) is.1 black_named;
        sits = black-player is.0 is.1;
      }

  -- one seat at least is taken
  somebody : (side : Colour) × Player game side
  somebody = by_seats game.white.name game.black.name refl refl apart
    where
      by_seats : (white black : Option (List ℕ)) → game.white.name ≡ white → game.black.name ≡ black
          → AreDifferent white black → (side : Colour) × Player game side
      by_seats (Some w) black here there differ = (
        White,
        record {
          name = w;
          named = subst (λ (o : Option (List ℕ)). IfSome o IsName) here white_named;
          sits = white-player w here;
        },
      )
      by_seats None (Some b) here there differ = (
        Black,
        record {
          name = b;
          named = subst (λ (o : Option (List ℕ)). IfSome o IsName) there black_named;
          sits = black-player b there;
        },
      )
      by_seats None None here there differ = absurd differ

-- ---- the coordinate text of a move

letter_of : Option Kind → List ℕ
letter_of (Some Queen) = 113 ∷ []
letter_of (Some Rook) = 114 ∷ []
letter_of (Some Bishop) = 98 ∷ []
letter_of (Some Knight) = 110 ∷ []
letter_of _ = []

letter-spells : (o : Option Kind) → CanBecome o → IsPromotionText (letter_of o) o
unfolding letter_of
letter-spells None can = refl
letter-spells (Some Queen) can = refl
letter-spells (Some Rook) can = refl
letter-spells (Some Bishop) can = refl
letter-spells (Some Knight) can = refl
letter-spells (Some Pawn) can = absurd can
letter-spells (Some King) can = absurd can

abbrev text_of : Move → List ℕ
text_of m = square_name m.from ++ (square_name m.to ++ letter_of m.promotion)

text-names : (p : Position) (m : Move) → IsLegal p m → Names p (text_of m) m
text-names p m legal = record {
  legal = legal;
  told = inr (record {
    letter = letter_of m.promotion;
    from_on_board = IsOnBoard-from_man p.placement m.from (p.side, legal.candidate.kind) legal.candidate.own;
    to_on_board = legal.candidate.on_board;
    promotion = letter-spells m.promotion (CanBecome-legal p m legal);
    joined = refl;
  });
}

abbrev as_text : List ℕ → ArrayString
as_text bytes = record { bytes = bytes; spare = [] }

unparsed : (game : Option GameState) → IsMoveParsed game None None
unparsed None = refl
unparsed (Some g) = refl

-- ---- a command that enters

module _ (table : TableState) (e : Entry) (from : table.moment ≤ e.moment) (to : e.moment ≤ 4611686018427387903) where
  enters : (name : List ℕ) (a : Act) (t : Parsed) → IsName name → is_read a ≡ false → IsParsed table a t
      → player_verdict table e.moment name t a ≡ Enter e → IsEnteredOn table e
  enters name a t named acts tells h =
      let command : Command = record { at = e.moment; who = Some name; act = a } in
      let early : nat_lt 4611686018427387903 e.moment ≡ false = grind (arith, nat_tests) in
      let known : (not (is_read a) && false) ≡ false = ap (λ (b : Bool). not b && false) acts in
      let same : max table.moment e.moment ≡ e.moment = omega arith in
      let here : verdict table command t ≡ Enter e =
      skipped _ _ _ early ∙ skipped _ _ _ known
      ∙ ap (λ (at : ℕ). player_verdict table at name t a) same ∙ h in
      record {
        command = command;
        named = named;
        entered = record { parsed = t; is_parsed = tells; is = sym here };
      }

  at_seat : (name : List ℕ) (game : GameState) (side : Colour) (v : GameState → Colour → Verdict)
      → find_game e.game table.games ≡ Some game → side_of name game ≡ Some side → v game side ≡ Enter e
      → in_seat table name e.game v ≡ Enter e
  at_seat name game side v found sits h =
      ap (in_game (λ g. by_side (v g) (side_of name g))) found ∙ ap (by_side (v game)) sits ∙ h

  -- ---- a game's entries

  module _ (is : IsTable table) (game : GameState) (found : find_game e.game table.games ≡ Some game) where
    on : IsOnTable table game
    on = EachOf-found (IsOnTable table) e.game table.games game is.games found

    number : game.number ≡ e.game
    number = find_game-number e.game table.games game found

    seated : is_joined game ≡ true → (side : Colour) → Player game side
    seated = player game on.game.opened.white_name on.game.opened.black_name on.game.opened.players

    -- who makes an act of a running game
    acts : (side : Colour) (a : Act) (v : GameState → Colour → Verdict) → is_read a ≡ false
        → IsParsed table a (parsed None None)
        → ((name : List ℕ) → player_verdict table e.moment name (parsed None None) a ≡ in_seat table name e.game v)
        → is_joined game ≡ true → v game side ≡ Enter e → IsEnteredOn table e
    acts side a v shut tells same joined h =
        let p = seated joined side in
        enters p.name a (parsed None None) p.named shut tells
        (same p.name ∙ at_seat p.name game side v found p.sits h)

    move_parsed : (m : Move) → IsLegal (position_of game) m
        → IsMoveParsed (find_game e.game table.games) (Some (text_of m)) (Some m)
    move_parsed m legal =
        subst (λ (o : Option GameState). IsMoveParsed o (Some (text_of m)) (Some m)) (sym found)
        (text-names (position_of game) m legal)

    -- a game whose players are asked for their seats is joined
    joined_by : (checks : List Check) (v : Verdict) → first_of (while_running game e.moment ++ checks) v ≡ Enter e
        → is_joined game ≡ true
    joined_by checks v h = not-false (is_joined game) (passed (not (is_joined game)) _ _ e h).0

    claim-comes : (claim : Claim) (mv : Option Move) → ForSome mv (IsLegal (position_of game))
        → claim_verdict table e.moment (claim_asked claim.ply claim.fifty (is_some mv) mv) game claim.by ≡ Enter e
        → is_joined game ≡ true → IsEnteredOn table e
    claim-comes claim None legal h joined =
        let p = seated joined claim.by in
        enters p.name (act.Claim e.game claim.ply claim.fifty None) (parsed None None) p.named refl
        (refl, unparsed (find_game e.game table.games))
        (at_seat p.name game claim.by (claim_verdict table e.moment (claim_asked claim.ply claim.fifty false None)) found p.sits h)
    claim-comes claim (Some m) legal h joined =
        let p = seated joined claim.by in
        enters p.name (act.Claim e.game claim.ply claim.fifty (Some (as_text (text_of m)))) (parsed None (Some m)) p.named refl
        (refl, move_parsed m (legal m refl))
        (at_seat p.name game claim.by (claim_verdict table e.moment (claim_asked claim.ply claim.fifty true (Some m))) found p.sits h)

    -- An entry that is the verdict on the act that it would have become of may come.
    pub comes : (ev : Event) → StatesLegal game ev → NamesPlayer ev → witness_verdict table e.moment game ev ≡ Enter e
        → IsEnteredOn table e
    comes (event.Open opening) legal named h = absurd (cc)
    comes (event.Join name) legal named h =
        enters name (act.Join e.game) (parsed None None) named refl (refl, refl)
        (ap (in_game (join_verdict e.moment name)) found ∙ h)
    comes (event.Move made) legal named h =
        let side = (position_of game).side in
        let move : Option Move = Some made.mv in
        let p = seated (joined_by (in_turn game side made.ply ++ for_move table game move) (move_entered game e.moment move) h)
        side in
        enters p.name (act.Play e.game made.ply (as_text (text_of made.mv))) (parsed None move) p.named refl
        (refl, move_parsed made.mv legal)
        (at_seat p.name game side (move_verdict table e.moment made.ply move) found p.sits h)
    comes (event.Offer by) legal named h =
        acts by (act.Offer e.game) (offer_verdict e.moment) refl (refl, refl) (λ name. refl)
        (joined_by (refuse (has_offer game) OfferStands ∷ []) (Enter (entry game.number e.moment (event.Offer by))) h) h
    comes (event.Accept by) legal named h =
        acts by (act.Accept e.game) (accept_verdict e.moment) refl (refl, refl) (λ name. refl)
        (joined_by (for_accept game by) (Enter (entry game.number e.moment (event.Accept by))) h) h
    comes (event.Decline by) legal named h =
        acts by (act.Decline e.game) (decline_verdict e.moment) refl (refl, refl) (λ name. refl)
        (joined_by (offered game by) (Enter (entry game.number e.moment (event.Decline by))) h) h
    comes (event.Resign by) legal named h =
        acts by (act.Resign e.game) (resign_verdict e.moment) refl (refl, refl) (λ name. refl)
        (joined_by [] (Enter (entry game.number e.moment (event.Resign by))) h) h
    comes (event.Claim claim) legal named h =
        claim-comes claim claim.mv legal h
        (joined_by
        (in_turn game claim.by claim.ply ++
        (refuse game.claimed AlreadyClaimed ∷ for_stated table game (is_some claim.mv) claim.mv))
        (Enter (entry game.number e.moment
        (event.Claim (record { by = claim.by; fifty = claim.fifty; mv = claim.mv; ply = ply_of game })))) h)
    comes event.Fallen legal named h =
        acts (position_of game).side (act.Flag e.game) (flag_verdict e.moment) refl (refl, refl) (λ name. refl)
        (joined_by [] (Refuse FlagUp) h) h
    comes event.Drop legal named h =
        let p = somebody game on.game.opened.white_name on.game.opened.black_name on.game.opened.players in
        enters p.1.name (act.Remove e.game) (parsed None None) p.1.named refl (refl, refl)
        (at_seat p.1.name game p.0 (drop_verdict e.moment) found p.1.sits h)

  -- ---- a new game

  pub open-comes : (o : Opening) → IsName o.name → IsValid o.start → opening_verdict table e.moment o ≡ Enter e
      → IsEnteredOn table e
  open-comes o named valid h =
      enters o.name (act.NewGame o.colour o.initial o.increment (Some (as_text (fen_of o.start))) o.period)
      (parsed (Some o.start) None) named refl ((valid, fen_of-IsFenOf (fen_of o.start) o.start refl), refl) h
