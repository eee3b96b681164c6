use Rattle.std.proofs.Common.{ℕ, ◌≡◌, List, ap, ◌∙◌, rules}
use Rattle.std.specs.Prelude.{option_and_then, option_map, is_some}
use Rattle.std.specs.BTreeMap.{get}
use Rattle.std.specs.Map.{lookup}
use Rattle.std.specs.Ordering.{is_eq, nat_cmp}
use Rattle.std.proofs.lemmas.Map.Made.{map_same_pairs, lookup-map_values}
use Rattle.lobby_table.specs.declared.visitors.Visitor.{Visitor}
use Rattle.lobby_table.specs.Visitors.{visitor_renewed, until_at}
use Rattle.lobby_table.proofs.Others.{renewed_who, renewed_open, renewed_until}
use Rattle.lobby_table.proofs.renewing.renew_all.Goals.{After-retain}
use Rattle.lobby_table.proofs.renewing.renew_all.Goals as goal

-- a connection is found as before, acting for whom it does then
found : (c : After-retain) (q : ℕ) → get nat_cmp c.retain.new.self q
    ≡ option_map (visitor_renewed c.args.before.now c.args.later.now) (get nat_cmp c.args.visitors.now q)
found c q =
    let g = visitor_renewed c.args.before.now c.args.later.now in
    let e = map_same_pairs _ g _ (λ k v b w f' t. search rules) _ _ c.retain.ensures.filtered in
    ap (λ (es : List (ℕ × Visitor)). lookup (λ (k : ℕ). is_eq (nat_cmp q k)) es) e
    ∙ lookup-map_values g (λ (k : ℕ). is_eq (nat_cmp q k)) c.args.visitors.now.entries

pub returns-clause-who : goal.returns-clause-who
returns-clause-who c = λ q.
    ap (option_and_then (λ (v : Visitor). v.who)) (found (goal.at.returns-clause-who c).After-retain q)
    ∙ renewed_who c.args.before.now c.args.later.now (get nat_cmp c.args.visitors.now q)

pub returns-clause-opens : goal.returns-clause-opens
returns-clause-opens c = λ q.
    ap is_some (found (goal.at.returns-clause-opens c).After-retain q)
    ∙ renewed_open c.args.before.now c.args.later.now (get nat_cmp c.args.visitors.now q)

pub returns-clause-untils : goal.returns-clause-untils
returns-clause-untils c = λ q.
    ap until_at (found (goal.at.returns-clause-untils c).After-retain q)
    ∙ renewed_until c.args.before.now c.args.later.now (get nat_cmp c.args.visitors.now q)
