-- Room for answers.
use Rattle.std.proofs.Common.{◌≡◌, ◌≢◌, ℕ, ◌+◌, List, [], ◌∷◌, ◌++◌, take, refl, ap, sym, subst, ◌∙◌, Option, Some, None, inl, inr}
use Rattle.std.specs.Prelude.{IsSome, IsSomeAnd, option_map, is_some}
use Rattle.std.proofs.lemmas.Bool.{cases_eq}
use Rattle.std.proofs.lemmas.List.Elements.{All-head, All-tail, All-cons, All-nil, All-append}
use Rattle.slab.specs.Slab.{Slab, get}
use Rattle.chess_hub.specs.declared.sessions.Session.{Session}
use Rattle.chess_hub.specs.declared.sessions.Sessions.{Sessions}
use Rattle.chess_hub.specs.declared.turn.TurnLine.{TurnLine}
use Rattle.chess_hub.specs.Session.{shown, session_at, IsUnchanged}
use Rattle.chess_hub.specs.Delivery.{HasRoom, HaveRoom}

room-kept : (n sid k : ℕ) (old new : Slab Session) →
    ((m : ℕ) → IsSomeAnd (get old sid) (HasRoom m) → IsSomeAnd (get new sid) (HasRoom m)) →
    ((other : ℕ) → other ≢ sid → get new other ≡ get old other) → IsSomeAnd (get old k) (HasRoom n) →
    IsSomeAnd (get new k) (HasRoom n)
room-kept n sid k old new kept others room =
    elim (cases_eq k sid) [
      | inl e ↦ subst (λ j. IsSomeAnd (get new j) (HasRoom n)) (sym e)
          (kept n (subst (λ j. IsSomeAnd (get old j) (HasRoom n)) e room))
      | inr ne ↦ subst (λ o. IsSomeAnd o (HasRoom n)) (sym (others k ne)) room
    ]

rooms-kept : (n sid : ℕ) (old new : Slab Session) (lines : List TurnLine) →
    ((m : ℕ) → IsSomeAnd (get old sid) (HasRoom m) → IsSomeAnd (get new sid) (HasRoom m)) →
    ((other : ℕ) → other ≢ sid → get new other ≡ get old other) → HaveRoom n old lines → HaveRoom n new lines
rooms-kept n sid old new [] kept others room = All-nil (λ t. IsSomeAnd (get new t.sid) (HasRoom n))
rooms-kept n sid old new (t ∷ lines) kept others room =
    All-cons (λ t. IsSomeAnd (get new t.sid) (HasRoom n)) t lines
    (room-kept n sid t.sid old new kept others (All-head (λ t. IsSomeAnd (get old t.sid) (HasRoom n)) t lines room))
    (rooms-kept n sid old new lines kept others (All-tail (λ t. IsSomeAnd (get old t.sid) (HasRoom n)) t lines room))

-- room for one line more
pub rooms-more : (n i : ℕ) (old new : Slab Session) (lines : List TurnLine) (t : TurnLine) →
    take (i + 1) lines ≡ take i lines ++ t ∷ [] →
    ((m : ℕ) → IsSomeAnd (get old t.sid) (HasRoom m) → IsSomeAnd (get new t.sid) (HasRoom m)) →
    ((other : ℕ) → other ≢ t.sid → get new other ≡ get old other) → IsSomeAnd (get new t.sid) (HasRoom n) →
    HaveRoom n old (take i lines) → HaveRoom n new (take (i + 1) lines)
rooms-more n i old new lines t more kept others here room =
    subst (HaveRoom n new) (sym more)
    (All-append (λ t. IsSomeAnd (get new t.sid) (HasRoom n)) (take i lines) (t ∷ [])
    (rooms-kept n t.sid old new (take i lines) kept others room)
    (All-cons (λ t. IsSomeAnd (get new t.sid) (HasRoom n)) t [] here (All-nil (λ t. IsSomeAnd (get new t.sid) (HasRoom n)))))

-- All sessions are as they were where one keeps what it shows.
pub same-after : (old mid new : Sessions) (sid : ℕ) → IsUnchanged old mid →
    option_map shown (get new.slab sid) ≡ option_map shown (get mid.slab sid) →
    ((other : ℕ) → other ≢ sid → get new.slab other ≡ get mid.slab other) → IsUnchanged old new
same-after old mid new sid same one others k =
    elim (cases_eq k sid) [
      | inl e ↦ subst (λ j. session_at new j ≡ session_at old j) (sym e) (one ∙ same sid)
      | inr ne ↦ ap (option_map shown) (others k ne) ∙ same k
    ]

pub shown-some : (o : Option Session) → is_some (option_map shown o) ≡ is_some o
shown-some None = refl
shown-some (Some s) = refl

-- A session that is open stays so.
pub opens-kept : (old now : Sessions) (sid : ℕ) → IsUnchanged old now → IsSome (get old.slab sid) → IsSome (get now.slab sid)
opens-kept old now sid same is =
    sym (shown-some (get now.slab sid)) ∙ ap is_some (same sid) ∙ shown-some (get old.slab sid) ∙ is
