use Rattle.rec_codec.proofs.SnapshotLemmas.{same_meta}
use Rattle.rec_codec.proofs.snapshot.read_meta.Goals as goal

pub returns : goal.returns
returns c = λ m is s.
    same_meta m c.u32_at.result c.u64_at.result c.u32_at-2.result c.u64_at-2.result
    (c.u32_at.ensures m.games is.games s.1.0) (c.u64_at.ensures m.moment is.moment s.1.1.0)
    (c.u32_at-2.ensures m.last is.last s.1.1.1.0) (c.u64_at-2.ensures m.entries is.entries s.1.1.1.1.0)
