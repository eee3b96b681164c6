-- A read gives its bytes behind those that were interrupted, which took nothing.
use Rattle.std.proofs.Common.{ℕ, List, Option, None, Some, take, refl, subst, arith}
use Rattle.std.specs.Io.KnownBytes.{Consumes, Keeps}
use Rattle.std.proofs.KnownBytes.{Keeps-refl, Keeps-trans}
use Rattle.text_lines.proofs.source.next_piece.Goals as goal

kept-consumes : (a b c : Option (List ℕ)) (bytes : List ℕ) → Keeps a b → Consumes b c bytes → Consumes a c bytes
kept-consumes None b c bytes k h = tt
kept-consumes (Some x) None c bytes k h = absurd k
kept-consumes (Some x) (Some y) c bytes k h = subst (λ (l : List ℕ). Consumes (Some l) c bytes) k h

pub loop-init : goal.loop-init
loop-init g c = record {
  kept = Keeps-refl (g.R.Read.remaining c.args.reader.now);
  works = refl;
  fewer = omega arith;
}

pub loop-preserved : goal.loop-preserved
loop-preserved g c = record {
  kept = Keeps-trans (g.R.Read.remaining c.args.reader.now) (g.R.Read.remaining c.loop.reader)
      (g.R.Read.remaining c.read.new.self) c.loop.invariant.kept c.in-Err.ensures.bytes;
  works = c.loop.invariant.works;
  fewer = c.loop.invariant.fewer;
}

pub returns-in-Ok-clause-bytes : goal.returns-in-Ok-clause-bytes
returns-in-Ok-clause-bytes g c = (
  kept-consumes (g.R.Read.remaining c.args.reader.now) (g.R.Read.remaining c.loop.reader)
      (g.R.Read.remaining c.read.new.self) (take c.in-Ok.count c.read.new.buf) c.loop.invariant.kept
      c.in-Ok.ensures.bytes.0,
  c.in-Ok.ensures.bytes.1,
)
