-- What an image means, and what a store keeps.
use Rattle.std.proofs.Common.{◌≡◌, subst}
use Rattle.sector_dev.specs.Device.{State}
use Rattle.rec_codec.specs.declared.header.Header.{Header}
use Rattle.sector_journal.specs.declared.compactions.Compaction.{Compaction}
use Rattle.sector_journal.specs.Stands.{Content, content}
use Rattle.sector_journal.proofs.MeaningLemmas.{one_meaning}
use Rattle.chess_entry.specs.State.{TableState}
use Rattle.chess_entry.specs.Snapshot.{IsMeaning}
use Rattle.chess_entry.proofs.OneMeaning as meanings
use Rattle.chess_store.specs.Means.{AllMean, IsKept, LawOfImages}

-- an image means one table at most
pub one_table : LawOfImages
one_table = λ image one other a b.
    let same : a.content ≡ b.content = (one_meaning image).content a.content b.content a.shows b.shows in
    meanings.law b.content.header.limits b.content.base b.content.tail one other
    (subst (λ (c : Content). IsMeaning c.header.limits c.base c.tail one) same a.means) b.means

-- each image of a store that is kept means its table
pub kept_means : {now : State} {header : Header} {compaction : Compaction} {table : TableState}
    → IsKept now header compaction table → AllMean now table
kept_means {header = header} kept = λ image is. record {
  content = content header kept.base kept.tail;
  shows = kept.keeps.all image is;
  means = kept.means;
}
