-- Who has waited longest, one client after the other.
use Rattle.std.proofs.Common.{◌≡◌, ◌∙◌, ◌⊎◌, ◌≤◌, ℕ, List, [], ◌∷◌, ◌++◌, refl, sym, ap, subst, inl, inr, arith, append_assoc}
use Rattle.std.proofs.lemmas.List.Elements.{All-nil, All-cons, All-append, All-weaker}
use Rattle.chess_hub.specs.declared.sessions.Sessions.{Sessions}
use Rattle.chess_sockets.specs.declared.client.Client.{Client}
use Rattle.chess_sockets.specs.Clients.{IsOpen, HasWaited, IsLongest}

module _ {S : Type 0} (sessions : Sessions) where
  abbrev pub WaitsAtMost : ℕ → Client S → Type 0
  WaitsAtMost longest client = IsOpen sessions client.sid → client.waited ≤ longest

  pub longest_none : IsLongest {S = S} sessions [] 0
  longest_none = record { none_longer = All-nil (WaitsAtMost 0); some = inl refl }

  waited_more : (clients : List (Client S)) (client : Client S) (turns : ℕ) → HasWaited sessions clients turns
      → HasWaited sessions (clients ++ client ∷ []) turns
  waited_more clients client turns has = record {
    front = has.front;
    client = has.client;
    others = has.others ++ client ∷ [];
    order = ap (λ (l : List (Client S)). l ++ client ∷ []) has.order
        ∙ append_assoc has.front (has.client ∷ has.others) (client ∷ []);
    is_open = has.is_open;
    long = has.long;
  }

  -- one client more
  pub longest_more : (clients : List (Client S)) (client : Client S) (longest next : ℕ)
      → IsLongest sessions clients longest → longest ≤ next → WaitsAtMost next client
      → (next ≡ longest) ⊎ (IsOpen sessions client.sid × (client.waited ≡ next))
      → IsLongest sessions (clients ++ client ∷ []) next
  longest_more clients client longest next so_far le own which = record {
    none_longer = All-append (WaitsAtMost next) clients (client ∷ [])
        (All-weaker (WaitsAtMost longest) (WaitsAtMost next)
        (λ x short is_open. let at : x.waited ≤ longest = short is_open in omega arith) clients so_far.none_longer)
        (All-cons (WaitsAtMost next) client [] own (All-nil (WaitsAtMost next)));
    some = elim which [
      | inl same ↦ elim so_far.some [
        | inl zero ↦ inl (same ∙ zero)
        | inr has ↦ inr (subst (λ (n : ℕ). HasWaited sessions (clients ++ client ∷ []) n) (sym same)
            (waited_more clients client longest has))
      ]
      | inr (is_open, long) ↦ inr (record {
        front = clients;
        client = client;
        others = [];
        order = refl;
        is_open = is_open;
        long = long;
      })
    ];
  }
