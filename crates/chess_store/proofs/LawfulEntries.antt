-- Entries that come on the table of a lawful list, one after the other, make it a longer one.
use Rattle.std.specs.Prelude.{◌≡◌, List, [], ◌∷◌, ◌++◌}
use Rattle.std.proofs.Common.{arith, ap, sym, subst, ◌∙◌, refl, append_assoc}
use Rattle.std.proofs.lemmas.List.{append-nil}
use Rattle.rec_codec.specs.declared.limits.Limits.{Limits}
use Rattle.rec_codec.specs.declared.limits.Version.TheVariants.{Two}
use Rattle.rec_codec.specs.Limits.{IsInRange}
use Rattle.rec_codec.specs.declared.record.Entry.{Entry}
use Rattle.chess_entry.specs.declared.commands.Command.{Command}
use Rattle.chess_entry.specs.State.{TableState}
use Rattle.chess_entry.specs.Games.{table_of}
use Rattle.chess_entry.specs.Follow.{follow}
use Rattle.chess_entry.specs.Lawful.{IsEntered, IsLawful}
use Rattle.chess_entry.specs.Table.{IsEnteredOn, AreEnteredOn, followed}
use Rattle.chess_answer.specs.declared.reads.Reply.{Reply}
use Rattle.chess_store.specs.Batch.{IsAnswered}
use Rattle.chess_store.proofs.BatchLemmas.{answered_comes}
use Rattle.chess_store.specs.Laws.{IsLonger}
use Rattle.chess_entry.proofs.LawOfFollow.{law}
use Rattle.chess_entry.proofs.LawfulLists.{IsLawful-more}
use Rattle.chess_entry.proofs.MeaningMore.{AreEnteredOn-first, AreEnteredOn-rest}

-- a list that is lawful, and whose table this is
pub record Gives (limits : Limits) (entries : List Entry) (table : TableState) : Type 0 where
  pub lawful : IsLawful limits entries
  pub is : table ≡ table_of limits entries

entered : (limits : Limits) (k : List Entry) (e : Entry) → IsInRange Two limits → IsEnteredOn (table_of limits k) e →
    IsEntered limits k e
entered limits k e in_range on = record {
  earlier = limits;
  within = record { in_range = in_range; games = omega arith; plies = omega arith };
  command = on.command;
  named = on.named;
  entered = on.entered;
}

pub Gives-more : (limits : Limits) (k es : List Entry) (table : TableState) → IsInRange Two limits → Gives limits k table →
    AreEnteredOn table es → Gives limits (k ++ es) (followed table es)
Gives-more limits k [] table in_range gives on =
    subst (λ (all : List Entry). Gives limits all table) (sym (append-nil k)) gives
Gives-more limits k (x ∷ xs) table in_range gives on =
    let first : IsEnteredOn (table_of limits k) x =
    subst (λ (t : TableState). IsEnteredOn t x) gives.is (AreEnteredOn-first table x xs on) in
    let lawful = IsLawful-more limits k x gives.lawful (entered limits k x in_range first) in
    let next : Gives limits (k ++ x ∷ []) (follow table x) = record {
      lawful = lawful;
      is = ap (λ (t : TableState). follow t x) gives.is ∙ sym (law limits k x lawful);
    } in
    subst (λ (all : List Entry). Gives limits all (followed (follow table x) xs)) (append_assoc k (x ∷ []) xs)
    (Gives-more limits (k ++ x ∷ []) xs (follow table x) in_range next (AreEnteredOn-rest table x xs on))

-- with the entries of a batch that was answered
pub longer : (limits : Limits) (k : List Entry) (commands : List Command) (replies : List Reply) (entries : List Entry)
    (after : TableState) → IsInRange Two limits → IsLawful limits k
    → IsAnswered (table_of limits k) commands replies entries after → IsLonger limits k entries after
longer limits k commands replies entries after in_range lawful is =
    let come = answered_comes commands (table_of limits k) replies entries after is in
    let more = Gives-more limits k entries (table_of limits k) in_range (record { lawful = lawful; is = refl })
    come.entered in
    record { lawful = more.lawful; table = come.is ∙ more.is }
