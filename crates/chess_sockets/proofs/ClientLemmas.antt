-- What a session is given goes behind what waits.
use Rattle.std.proofs.Common.{◌≡◌, ℕ, Bool, true, false, List, [], ◌∷◌, ◌++◌, Option, Some, None, IfSome, refl, ap, sym, ◌∙◌, subst, append_assoc}
use Rattle.std.specs.Prelude.{◌&&◌, ◌||◌, not, if◌then◌else◌, IsSome, option_map}
use Rattle.text_lines.specs.Heard.{Heard}
use Rattle.chess_answer.specs.declared.reads.Reply.{Reply}
use Rattle.chess_hub.specs.declared.sessions.Sessions.{Sessions}
use Rattle.chess_hub.specs.Session.{Said, said, SessionState, session_at, Changes, due, first_due, given_one, farewell, is_done}
use Rattle.chess_sockets.specs.Clients.{OthersStay, bytes_of, bytes_of_all, to_go, HandsOut}
use Rattle.chess_sockets.specs.Sending.{HandsOn}
use Rattle.chess_sockets.proofs.SendLemmas.{hands-behind, hands-trans}

-- ---- what is due

-- the farewell, by whether it is due once and whether it was given
abbrev fare : Bool → Bool → List Said
fare done left = if done && not left then farewell ∷ [] else []

fare_given : (done left : Bool) (a : Said) → Some a ≡ first_due (fare done left) →
    fare done left ≡ a ∷ fare done (left || done)
fare_given true false a first = let same : Some a ≡ Some farewell = first in
    let is : farewell ≡ a = cc in ap (λ x. x ∷ []) is
fare_given true true a first = absurd (let bad : Some a ≡ None = first in cc)
fare_given false left a first = absurd (let bad : Some a ≡ None = first in cc)

fare_none : (done left : Bool) → None ≡ first_due (fare done left) → fare done (left || done) ≡ fare done left
fare_none true false first = absurd (let bad : None ≡ Some farewell = first in cc)
fare_none true true first = refl
fare_none false true first = refl
fare_none false false first = refl

-- once none is due it stays so
fare_empty : (done left : Bool) → None ≡ first_due (fare done left) → fare done (left || done) ≡ []
fare_empty true false first = absurd (let bad : None ≡ Some farewell = first in cc)
fare_empty true true first = refl
fare_empty false true first = refl
fare_empty false false first = refl

abbrev pub session_state : Option (List ℕ) → Heard → List Said → Bool → SessionState
session_state name heard answers left = record { name = name; heard = heard; answers = answers; has_left = left }

due_given : (name : Option (List ℕ)) (heard : Heard) (answers : List Said) (left : Bool) (a : Said) →
    Some a ≡ first_due (due (session_state name heard answers left)) →
    due (session_state name heard answers left) ≡ a ∷ due (given_one (session_state name heard answers left))
due_given name heard [] left a first = fare_given (is_done heard) left a first
due_given name heard (x ∷ xs) left a first =
    let same : Some a ≡ Some x = first in
    let is : x ≡ a = cc in
    ap (λ y. y ∷ (xs ++ fare (is_done heard) left)) is

due_none : (name : Option (List ℕ)) (heard : Heard) (answers : List Said) (left : Bool) →
    None ≡ first_due (due (session_state name heard answers left)) →
    due (given_one (session_state name heard answers left)) ≡ due (session_state name heard answers left)
due_none name heard [] left first = fare_none (is_done heard) left first
due_none name heard (x ∷ xs) left first = absurd (let bad : None ≡ Some x = first in cc)

due_empty : (name : Option (List ℕ)) (heard : Heard) (answers : List Said) (left : Bool) →
    None ≡ first_due (due (session_state name heard answers left)) →
    due (given_one (session_state name heard answers left)) ≡ []
due_empty name heard [] left first = fare_empty (is_done heard) left first
due_empty name heard (x ∷ xs) left first = absurd (let bad : None ≡ Some x = first in cc)

none_due : (m : Option SessionState) (mid new : Sessions) (sid : ℕ) → IsSome m →
    IfSome m (λ s. None ≡ first_due (due s)) → IfSome m (λ s. Changes mid new sid (Some (given_one s))) →
    IfSome (session_at new sid) (λ s. due s ≡ [])
none_due None mid new sid is_open given after = absurd (let bad : false ≡ true = is_open in cc)
none_due (Some s) mid new sid is_open given after = subst (λ (o : Option SessionState). IfSome o (λ t. due t ≡ []))
    (sym after.changed) (due_empty s.name s.heard s.answers s.has_left given)

-- ---- one answer more

-- a session from one call of `output` to the next: nothing that is to go was lost or changed, and no other session
pub record Gives (m : Option SessionState) (mid new : Sessions) (sid : ℕ) (old_waiting new_waiting : List ℕ) : Type 0
  where
    pub stays : IsSome (session_at new sid)
    pub same : to_go (session_at new sid) new_waiting ≡ to_go m old_waiting
    pub others : OthersStay mid new sid

given_some : (m : Option SessionState) (mid new : Sessions) (sid : ℕ) (reply : Reply) (w v : List ℕ) → IsSome m →
    IfSome m (λ s. Some (said reply) ≡ first_due (due s)) →
    IfSome m (λ s. Changes mid new sid (Some (given_one s))) → v ≡ w ++ bytes_of (said reply) →
    Gives m mid new sid w v
given_some None mid new sid reply w v is_open given after is = absurd (let bad : false ≡ true = is_open in cc)
given_some (Some s) mid new sid reply w v is_open given after is = record {
  stays = subst IsSome (sym after.changed) refl;
  same = ap (λ o. to_go o v) after.changed
      ∙ ap Some (ap (λ l. l ++ bytes_of_all (due (given_one s))) is
      ∙ append_assoc w (bytes_of (said reply)) (bytes_of_all (due (given_one s)))
      ∙ ap (λ l. w ++ bytes_of_all l) (sym (due_given s.name s.heard s.answers s.has_left (said reply) given)));
  others = after.others;
}

given_none : (m : Option SessionState) (mid new : Sessions) (sid : ℕ) (w : List ℕ) → IsSome m →
    IfSome m (λ s. None ≡ first_due (due s)) → IfSome m (λ s. Changes mid new sid (Some (given_one s))) →
    Gives m mid new sid w w
given_none None mid new sid w is_open given after = absurd (let bad : false ≡ true = is_open in cc)
given_none (Some s) mid new sid w is_open given after = record {
  stays = subst IsSome (sym after.changed) refl;
  same = ap (λ o. to_go o w) after.changed
      ∙ ap Some (ap (λ l. w ++ bytes_of_all l) (due_none s.name s.heard s.answers s.has_left given));
  others = after.others;
}

-- `output` gave an answer, which now waits
pub gives : (m : Option SessionState) (mid new : Sessions) (sid : ℕ) (r : Option Reply) (reply : Reply) (w v : List ℕ) →
    r ≡ Some reply → IsSome m → IfSome m (λ s. option_map said r ≡ first_due (due s)) →
    IfSome m (λ s. Changes mid new sid (Some (given_one s))) → v ≡ w ++ bytes_of (said reply) →
    Gives m mid new sid w v
gives m mid new sid r reply w v was is_open given after is = given_some m mid new sid reply w v is_open
    (subst (λ (x : Option Reply). IfSome m (λ s. option_map said x ≡ first_due (due s))) was given) after is

-- it gave none
pub gives-none : (m : Option SessionState) (mid new : Sessions) (sid : ℕ) (r : Option Reply) (w : List ℕ) → r ≡ None →
    IsSome m → IfSome m (λ s. option_map said r ≡ first_due (due s)) →
    IfSome m (λ s. Changes mid new sid (Some (given_one s))) → Gives m mid new sid w w
gives-none m mid new sid r w was is_open given after = given_none m mid new sid w is_open
    (subst (λ (x : Option Reply). IfSome m (λ s. option_map said x ≡ first_due (due s))) was given) after

-- it gave none, so none is due
pub gave_all : (m : Option SessionState) (mid new : Sessions) (sid : ℕ) (r : Option Reply) → r ≡ None → IsSome m →
    IfSome m (λ s. option_map said r ≡ first_due (due s)) → IfSome m (λ s. Changes mid new sid (Some (given_one s))) →
    IfSome (session_at new sid) (λ s. due s ≡ [])
gave_all m mid new sid r was is_open given after = none_due m mid new sid is_open
    (subst (λ (x : Option Reply). IfSome m (λ s. option_map said x ≡ first_due (due s))) was given) after

pub others-trans : (a b c : Sessions) (sid : ℕ) → OthersStay a b sid → OthersStay b c sid → OthersStay a c sid
others-trans a b c sid h k = λ other differs. k other differs ∙ h other differs

-- ---- all that goes

-- a write, and nothing was gathered
pub hands-first : (m : Option SessionState) (b c : Option (List ℕ)) (w v : List ℕ) → HandsOn b c w v → IsSome m →
    HandsOut b c (to_go m w) (to_go m v)
hands-first None b c w v h is_open = absurd (let bad : false ≡ true = is_open in cc)
hands-first (Some s) b c w v h is_open = record {
  left = v ++ bytes_of_all (due s);
  hands = hands-behind b c w v (bytes_of_all (due s)) h;
  waits = refl;
}

-- a write, after which the session was closed
pub hands-lost : (m : Option SessionState) (b c : Option (List ℕ)) (w v : List ℕ) → HandsOn b c w v →
    HandsOut b c (to_go m w) None
hands-lost None b c w v h = record { left = []; hands = tt; waits = tt }
hands-lost (Some s) b c w v h = record {
  left = v ++ bytes_of_all (due s);
  hands = hands-behind b c w v (bytes_of_all (due s)) h;
  waits = tt;
}

-- a write, after which all that was due was gathered, and another write
pub hands-both : (m n : Option SessionState) (b c d : Option (List ℕ)) (w v u t : List ℕ) → HandsOn b c w v →
    to_go n u ≡ to_go m v → HandsOn c d u t → IsSome m → IsSome n → HandsOut b d (to_go m w) (to_go n t)
hands-both None n b c d w v u t h same k m_open n_open = absurd (let bad : false ≡ true = m_open in cc)
hands-both (Some s) None b c d w v u t h same k m_open n_open = absurd (let bad : false ≡ true = n_open in cc)
hands-both (Some s) (Some r) b c d w v u t h same k m_open n_open =
    let more = bytes_of_all (due s) in
    let rest = bytes_of_all (due r) in
    let all : u ++ rest ≡ v ++ more = (let e : Some (u ++ rest) ≡ Some (v ++ more) = same in cc) in
    record {
      left = t ++ rest;
      hands = hands-trans b c d (w ++ more) (v ++ more) (t ++ rest) (hands-behind b c w v more h)
          (subst (λ l. HandsOn c d l (t ++ rest)) all (hands-behind c d u t rest k));
      waits = refl;
    }
