-- The checks of a command, group by group, and what its text tells.
use Rattle.std.proofs.Common.{ℕ, ◌≡◌, Bool, true, false, List, [], ◌∷◌, ◌++◌, Option, Some, None, refl, sym, ap, ◌∙◌, subst, inl, inr}
use Rattle.std.specs.Prelude.{◌≤◌, ◌&&◌, not, max, is_none, if◌then◌else◌}
use Rattle.std.proofs.lemmas.Bool.{cases_Bool, le-ltb, and_right}
use Rattle.std.proofs.lemmas.List.{append-nil}
use Rattle.chess_bits.specs.declared.men.Colour.{Colour}
use Rattle.chess_board.specs.declared.moves.Move.{Move}
use Rattle.chess_board.specs.Position.{Position}
use Rattle.chess_notation.specs.Naming.{Names}
use Rattle.chess_entry.specs.declared.verdicts.Verdict.{Verdict}
use Rattle.chess_entry.specs.declared.verdicts.Verdict.TheVariants.{Refuse}
use Rattle.arrayvec.specs.ArrayString.{ArrayString}
use Rattle.chess_entry.specs.declared.commands.Act.{Act}
use Rattle.chess_entry.specs.declared.commands.Act.TheVariants as act
use Rattle.chess_entry.specs.declared.commands.Command.{Command}
use Rattle.chess_entry.specs.declared.refusals.Refusal.TheVariants.{BadMoment, NoName}
use Rattle.chess_entry.specs.State.{GameState, TableState, position_of, find_game}
use Rattle.chess_entry.specs.Parsed.{Parsed, parsed, IsMoveParsed, bytes_of}
use Rattle.chess_entry.specs.Verdict.{Check, first_of, is_read, name_or_none, effective, player_verdict, verdict}
use Rattle.chess_table.specs.Checks.{stopped_by}
use Rattle.chess_table.specs.Asked.{game_of, AsksNoSeat}
use Rattle.chess_table.specs.Parsing.{IsTheMove, IsTheParsed}

-- ---- groups of checks

-- a check of the first group applies
pub stops : (o : Option Verdict) (a b : List Check) (last v : Verdict) → o ≡ stopped_by a → o ≡ Some v
    → first_of (a ++ b) last ≡ v
stops o [] b last v is some = absurd (none_some (sym is ∙ some))
  where
    none_some : {v : Verdict} → None ≡ Some v → ⊥
    none_some e = cc
stops o (c ∷ a) b last v is some = elim (cases_Bool c.applies) [
  | inl so ↦
      let here : Some c.verdict ≡ Some v =
      sym (ap (λ (b : Bool). if b then Some c.verdict else stopped_by a) so) ∙ sym is ∙ some in
      let same : c.verdict ≡ v = cc in
      ap (λ (x : Bool). if x then c.verdict else first_of (a ++ b) last) so ∙ same
  | inr not_so ↦
      ap (λ (x : Bool). if x then c.verdict else first_of (a ++ b) last) not_so
      ∙ stops o a b last v (is ∙ ap (λ (b : Bool). if b then Some c.verdict else stopped_by a) not_so) some
]

-- no check of the first group applies
pub passes : (o : Option Verdict) (a b : List Check) (last : Verdict) → o ≡ stopped_by a → o ≡ None
    → first_of (a ++ b) last ≡ first_of b last
passes o [] b last is none = refl
passes o (c ∷ a) b last is none = elim (cases_Bool c.applies) [
  | inl so ↦
      absurd (some_none
      (sym (ap (λ (b : Bool). if b then Some c.verdict else stopped_by a) so) ∙ sym is ∙ none))
  | inr not_so ↦
      ap (λ (x : Bool). if x then c.verdict else first_of (a ++ b) last) not_so
      ∙ passes o a b last (is ∙ ap (λ (b : Bool). if b then Some c.verdict else stopped_by a) not_so) none
]
  where
    some_none : {v : Verdict} → Some v ≡ None → ⊥
    some_none e = cc

-- what stops in two groups
pub stopped-first : (a b : List Check) (v : Verdict) → Some v ≡ stopped_by a → Some v ≡ stopped_by (a ++ b)
stopped-first [] b v is = absurd cc
stopped-first (c ∷ a) b v is = elim (cases_Bool c.applies) [
  | inl so ↦
      is ∙ ap (λ (x : Bool). if x then Some c.verdict else stopped_by a) so
      ∙ sym (ap (λ (x : Bool). if x then Some c.verdict else stopped_by (a ++ b)) so)
  | inr not_so ↦
      stopped-first a b v (is ∙ ap (λ (x : Bool). if x then Some c.verdict else stopped_by a) not_so)
      ∙ sym (ap (λ (x : Bool). if x then Some c.verdict else stopped_by (a ++ b)) not_so)
]

pub stopped-second : (a b : List Check) → None ≡ stopped_by a → stopped_by b ≡ stopped_by (a ++ b)
stopped-second [] b is = refl
stopped-second (c ∷ a) b is = elim (cases_Bool c.applies) [
  | inl so ↦ absurd (none_some (is ∙ ap (λ (x : Bool). if x then Some c.verdict else stopped_by a) so))
  | inr not_so ↦
      stopped-second a b (is ∙ ap (λ (x : Bool). if x then Some c.verdict else stopped_by a) not_so)
      ∙ sym (ap (λ (x : Bool). if x then Some c.verdict else stopped_by (a ++ b)) not_so)
]
  where
    none_some : {v : Verdict} → None ≡ Some v → ⊥
    none_some e = cc

-- the same of the last group
pub stops_last : (o : Option Verdict) (a : List Check) (last v : Verdict) → o ≡ stopped_by a → o ≡ Some v
    → first_of a last ≡ v
stops_last o a last v is some =
    ap (λ (l : List Check). first_of l last) (sym (append-nil a)) ∙ stops o a [] last v is some

pub passes_last : (o : Option Verdict) (a : List Check) (last : Verdict) → o ≡ stopped_by a → o ≡ None
    → first_of a last ≡ last
passes_last o a last is none =
    ap (λ (l : List Check). first_of l last) (sym (append-nil a)) ∙ passes o a [] last is none

-- a single check
pub applies : (b : Bool) (r v : Verdict) → b ≡ true → (if b then r else v) ≡ r
applies b r v so = ap (λ (x : Bool). if x then r else v) so

pub skipped : (b : Bool) (r v : Verdict) → b ≡ false → (if b then r else v) ≡ v
skipped b r v not_so = ap (λ (x : Bool). if x then r else v) not_so

-- ---- what a text tells

pub move-named : (game : Option GameState) (g : GameState) (text : List ℕ) (p : Position) (m : Move) → Some g ≡ game
    → p ≡ position_of g → Names p text m → ((other : Move) → Names p text other → other ≡ m)
    → IsTheMove game (Some text) (Some m)
move-named None g text p m is stands names one = absurd (cc)
move-named (Some h) g text p m is stands names one =
    let same : g ≡ h = cc in
    let here : p ≡ position_of h = stands ∙ ap position_of same in
    record {
      told = subst (λ (q : Position). Names q text m) here names;
      one = λ other named. only other named here;
    }
  where
    only : (other : Option Move) → IsMoveParsed (Some h) (Some text) other → p ≡ position_of h → other ≡ Some m
    only None none here = absurd (none m (subst (λ (q : Position). Names q text m) here names))
    only (Some n) named here =
        ap (λ (x : Move). Some x) (one n (subst (λ (q : Position). Names q text n) (sym here) named))

pub move-unnamed : (game : Option GameState) (g : GameState) (text : List ℕ) (p : Position) → Some g ≡ game
    → p ≡ position_of g → ((m : Move) → ¬ Names p text m) → IsTheMove game (Some text) None
move-unnamed None g text p is stands none = absurd (cc)
move-unnamed (Some h) g text p is stands none =
    let same : g ≡ h = cc in
    let here : p ≡ position_of h = stands ∙ ap position_of same in
    let never : (m : Move) → ¬ Names (position_of h) text m =
    λ m names. none m (subst (λ (q : Position). Names q text m) (sym here) names) in
    record { told = never; one = λ other named. only never other named }
  where
    only : ((m : Move) → ¬ Names (position_of h) text m) → (other : Option Move)
        → IsMoveParsed (Some h) (Some text) other → other ≡ None
    only never None named = refl
    only never (Some n) named = absurd (never n named)

-- a move that is named is the only thing that an act's text tells
one-parsed : (o : Option GameState) (text : Option (List ℕ)) (mv : Option Move) → IsTheMove o text mv → (other : Parsed)
    → (other.start ≡ None) × IsMoveParsed o text other.move → other ≡ parsed None mv
one-parsed o text mv the other is =
    ap (λ (s : Option Position). parsed s other.move) is.0
    ∙ ap (λ (m : Option Move). parsed None m) (the.one other.move is.1)

pub move-parsed : (table : TableState) (a : Act) (game ply : ℕ) (text : ArrayString) (o : Option GameState)
    (mv : Option Move) → a ≡ act.Play game ply text → o ≡ find_game (game_of a) table.games
    → IsTheMove o (Some text.bytes) mv → IsTheParsed table a (parsed None mv)
move-parsed table a game ply text o mv is found the =
    let here : IsTheMove (find_game game table.games) (Some text.bytes) mv =
    subst (λ (x : Option GameState). IsTheMove x (Some text.bytes) mv)
    (found ∙ ap (λ (x : Act). find_game (game_of x) table.games) is) the in
    subst (λ (x : Act). IsTheParsed table x (parsed None mv)) (sym is)
    (record { is = (refl, here.told); one = one-parsed _ _ mv here })

pub claim-parsed : (table : TableState) (a : Act) (game ply : ℕ) (fifty : Bool) (text : Option ArrayString)
    (o : Option GameState) (mv : Option Move) → a ≡ act.Claim game ply fifty text
    → o ≡ find_game (game_of a) table.games → IsTheMove o (bytes_of text) mv → IsTheParsed table a (parsed None mv)
claim-parsed table a game ply fifty text o mv is found the =
    let here : IsTheMove (find_game game table.games) (bytes_of text) mv =
    subst (λ (x : Option GameState). IsTheMove x (bytes_of text) mv)
    (found ∙ ap (λ (x : Act). find_game (game_of x) table.games) is) the in
    subst (λ (x : Act). IsTheParsed table x (parsed None mv)) (sym is)
    (record { is = (refl, here.told); one = one-parsed _ _ mv here })

-- what is neither made in a seat nor opens or joins a game is a read
pub other-reads : (a : Act) → AsksNoSeat a
    → ((colour : Colour) (initial increment : ℕ) (fen : Option ArrayString) (period : Option (ℕ × ℕ))
    → ¬ (a ≡ act.NewGame colour initial increment fen period))
    → ((game : ℕ) → ¬ (a ≡ act.Join game)) → is_read a ≡ true
other-reads (act.NewGame colour initial increment fen period) none new join =
    absurd (new colour initial increment fen period refl)
other-reads (act.Join game) none new join = absurd (join game refl)
other-reads (act.Play game ply text) none new join = absurd none
other-reads (act.Offer game) none new join = absurd none
other-reads (act.Accept game) none new join = absurd none
other-reads (act.Decline game) none new join = absurd none
other-reads (act.Resign game) none new join = absurd none
other-reads (act.Claim game ply fifty text) none new join = absurd none
other-reads (act.Flag game) none new join = absurd none
other-reads (act.Remove game) none new join = absurd none
other-reads (act.Show game) none new join = refl
other-reads (act.Fen game) none new join = refl
other-reads (act.Pgn game) none new join = refl
other-reads act.List none new join = refl

-- ---- a command whose moment is in range

in_range : (table : TableState) (command : Command) (t : Parsed) (v : Verdict) → command.at ≤ 4611686018427387903
    → (not (is_read command.act) && is_none command.who) ≡ false
    → v ≡ player_verdict table (effective table command.at) (name_or_none command.who) t command.act
    → v ≡ verdict table command t
in_range table command t v to named is =
    is ∙ sym (skipped _ (Refuse BadMoment) _ (le-ltb 4611686018427387903 command.at to)
    ∙ skipped _ (Refuse NoName) _ named)

-- a read is anybody's
pub read-checked : (table : TableState) (command : Command) (t : Parsed) (v : Verdict) → command.at ≤ 4611686018427387903
    → is_read command.act ≡ true
    → v ≡ player_verdict table (effective table command.at) (name_or_none command.who) t command.act
    → v ≡ verdict table command t
read-checked table command t v to reads is =
    in_range table command t v to (ap (λ (b : Bool). not b && is_none command.who) reads) is

-- an act of a player with a name
pub named-checked : (table : TableState) (command : Command) (t : Parsed) (v : Verdict) (at : ℕ) (name : List ℕ)
    → command.at ≤ 4611686018427387903 → command.who ≡ Some name → at ≡ max table.moment command.at
    → v ≡ player_verdict table at name t command.act → v ≡ verdict table command t
named-checked table command t v at name to who moment is =
    in_range table command t v to
    (and_right (not (is_read command.act)) (is_none command.who) (ap (λ (o : Option (List ℕ)). is_none o) who))
    (is ∙ ap (λ (n : ℕ). player_verdict table n name t command.act) moment
    ∙ ap (λ (o : Option (List ℕ)). player_verdict table (effective table command.at) (name_or_none o) t command.act)
    (sym who))
