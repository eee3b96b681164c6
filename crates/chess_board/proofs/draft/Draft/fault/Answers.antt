use Rattle.std.proofs.Common.{◌≡◌, sym, Bool, true, false}
use Rattle.std.proofs.lemmas.Bool.Decides.{not_from_Decides}
use Rattle.std.specs.Bool.{Decides}
use Rattle.chess_board.specs.Parts.{drafted}
use Rattle.chess_board.proofs.Deciding.{Decides-has_kings, Decides-has_few_men, Decides-has_pawns_inside, Decides-has_no_check, Decides-has_true_rights, Decides-has_true_target, Decides-has_counters}
use Rattle.chess_board.proofs.draft.Draft.fault.Goals as goal

passes : {P : Type 0} (test : Bool) → Decides test P → true ≡ test → P
passes test decides e = decides.0 (sym e)

fails : {P : Type 0} (test : Bool) → Decides test P → false ≡ test → ¬ P
fails test decides e = not_from_Decides test decides (sym e)

pub returns-then-not-has_kings : goal.returns-then-not-has_kings
returns-then-not-has_kings c =
    fails _ (Decides-has_kings (drafted c.args.self.now)) c.if-not-has_kings.ensures

pub returns-then-not-has_few_men : goal.returns-then-not-has_few_men
returns-then-not-has_few_men c = (
  passes _ (Decides-has_kings (drafted c.args.self.now)) c.if-not-has_kings.ensures,
  fails _ (Decides-has_few_men (drafted c.args.self.now)) c.if-not-has_few_men.ensures,
)

pub returns-then-not-has_pawns_inside : goal.returns-then-not-has_pawns_inside
returns-then-not-has_pawns_inside c = (
  passes _ (Decides-has_kings (drafted c.args.self.now)) c.if-not-has_kings.ensures,
  passes _ (Decides-has_few_men (drafted c.args.self.now)) c.if-not-has_few_men.ensures,
  fails _ (Decides-has_pawns_inside (drafted c.args.self.now)) c.if-not-has_pawns_inside.ensures,
)

pub returns-then-not-has_no_check : goal.returns-then-not-has_no_check
returns-then-not-has_no_check c = (
  passes _ (Decides-has_kings (drafted c.args.self.now)) c.if-not-has_kings.ensures,
  passes _ (Decides-has_few_men (drafted c.args.self.now)) c.if-not-has_few_men.ensures,
  passes _ (Decides-has_pawns_inside (drafted c.args.self.now)) c.if-not-has_pawns_inside.ensures,
  fails _ (Decides-has_no_check (drafted c.args.self.now)) c.if-not-has_no_check.ensures,
)

pub returns-then-not-has_true_rights : goal.returns-then-not-has_true_rights
returns-then-not-has_true_rights c = (
  passes _ (Decides-has_kings (drafted c.args.self.now)) c.if-not-has_kings.ensures,
  passes _ (Decides-has_few_men (drafted c.args.self.now)) c.if-not-has_few_men.ensures,
  passes _ (Decides-has_pawns_inside (drafted c.args.self.now)) c.if-not-has_pawns_inside.ensures,
  passes _ (Decides-has_no_check (drafted c.args.self.now)) c.if-not-has_no_check.ensures,
  fails _ (Decides-has_true_rights (drafted c.args.self.now)) c.if-not-has_true_rights.ensures,
)

pub returns-then-not-has_true_target : goal.returns-then-not-has_true_target
returns-then-not-has_true_target c = (
  passes _ (Decides-has_kings (drafted c.args.self.now)) c.if-not-has_kings.ensures,
  passes _ (Decides-has_few_men (drafted c.args.self.now)) c.if-not-has_few_men.ensures,
  passes _ (Decides-has_pawns_inside (drafted c.args.self.now)) c.if-not-has_pawns_inside.ensures,
  passes _ (Decides-has_no_check (drafted c.args.self.now)) c.if-not-has_no_check.ensures,
  passes _ (Decides-has_true_rights (drafted c.args.self.now)) c.if-not-has_true_rights.ensures,
  fails _ (Decides-has_true_target (drafted c.args.self.now)) c.if-not-has_true_target.ensures,
)

pub returns-then-not-has_counters : goal.returns-then-not-has_counters
returns-then-not-has_counters c = (
  passes _ (Decides-has_kings (drafted c.args.self.now)) c.if-not-has_kings.ensures,
  passes _ (Decides-has_few_men (drafted c.args.self.now)) c.if-not-has_few_men.ensures,
  passes _ (Decides-has_pawns_inside (drafted c.args.self.now)) c.if-not-has_pawns_inside.ensures,
  passes _ (Decides-has_no_check (drafted c.args.self.now)) c.if-not-has_no_check.ensures,
  passes _ (Decides-has_true_rights (drafted c.args.self.now)) c.if-not-has_true_rights.ensures,
  passes _ (Decides-has_true_target (drafted c.args.self.now)) c.if-not-has_true_target.ensures,
  fails _ (Decides-has_counters (drafted c.args.self.now)) c.if-not-has_counters.ensures,
)

pub returns-else-not-has_counters : goal.returns-else-not-has_counters
returns-else-not-has_counters c = record {
  whole = c.args.self.now.whole;
  kings = passes _ (Decides-has_kings (drafted c.args.self.now)) c.if-not-has_kings.ensures;
  men = passes _ (Decides-has_few_men (drafted c.args.self.now)) c.if-not-has_few_men.ensures;
  pawns = passes _ (Decides-has_pawns_inside (drafted c.args.self.now)) c.if-not-has_pawns_inside.ensures;
  check = passes _ (Decides-has_no_check (drafted c.args.self.now)) c.if-not-has_no_check.ensures;
  rights = passes _ (Decides-has_true_rights (drafted c.args.self.now)) c.if-not-has_true_rights.ensures;
  target = passes _ (Decides-has_true_target (drafted c.args.self.now)) c.if-not-has_true_target.ensures;
  counters = passes _ (Decides-has_counters (drafted c.args.self.now)) c.if-not-has_counters.ensures;
}
