use Rattle.std.proofs.Common.{◌≤◌, sym, ap, subst}
use Rattle.rec_codec.specs.declared.limits.Limits.{Limits}
use Rattle.chess_entry.specs.State.{TableState}
use Rattle.chess_table.specs.TableInside.{table_seen}
use Rattle.chess_table.proofs.Kept.{IsTable-widen}
use Rattle.chess_table.proofs.table.Table.widen.Goals as goal

pub invariant_of-self : goal.invariant_of-self
invariant_of-self c =
    let limits = c.args.limits in
    let same = sym (ap (λ (t : TableState). t.limits) c.self.view_is) in
    record {
      table = IsTable-widen (table_seen c.self.inside) limits c.self.invariant.table c.requires.in_range
          (subst (λ (l : Limits). l.games ≤ limits.games) same c.requires.games)
          (subst (λ (l : Limits). l.plies ≤ limits.plies) same c.requires.plies);
      numbered = c.self.invariant.numbered;
    }
