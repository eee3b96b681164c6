-- Answers come to their sessions.
use Rattle.std.proofs.Common.{◌≡◌, ◌≢◌, ℕ, suc, ◌+◌, ◌-◌, ◌<◌, ◌≤◌, true, false, List, [], ◌∷◌, ◌++◌, length, take, drop, map, refl, ap, sym, subst, ◌∙◌, arith, append_assoc, append-nil, length-append, add-one, Option, Some, None, inl, inr}
use Rattle.std.specs.Prelude.{IsSomeAnd, IfSome, IfNone, option_map, ◌==◌, cond, is_none}
use Rattle.std.proofs.lemmas.Bool.Decides.{nat_tests}
use Rattle.std.specs.Option.{MatchOption}
use Rattle.std.specs.VecDeque.{deque_len, deque_capacity}
use Rattle.std.proofs.lemmas.Bool.{cases_eq}
use Rattle.std.proofs.lemmas.List.{map-append, take_all, drop_all}
use Rattle.std.proofs.lemmas.List.Elements.{filter-append, All-head, All-tail, All-cons, All-nil}
use Rattle.slab.specs.Slab.{Slab, get}
use Rattle.chess_answer.specs.declared.reads.Reply.{Reply}
use Rattle.chess_hub.specs.declared.sessions.Session.{Session}
use Rattle.chess_hub.specs.declared.sessions.Sessions.{Sessions}
use Rattle.chess_hub.specs.declared.turn.TurnLine.{TurnLine}
use Rattle.chess_hub.specs.Session.{Said, said, SessionState, shown, session_at}
use Rattle.chess_hub.specs.Answers.{given_name, renamed, own_answer, alone, AreAnswers}
use Rattle.chess_hub.specs.Delivery.{DropsLines, Answered, own, name_over, HasAnswered, AllAnswered, IsGiven, HasRoom, HaveRoom, asking_count}

-- ---- one session

name_over-push : (at : ℕ) (name : Option (List ℕ)) (xs : List Answered) (a : Answered) →
    name_over at name (xs ++ a ∷ []) ≡ renamed (given_name at a.taken.line) (name_over at name xs)
name_over-push at name [] a = refl
name_over-push at name (x ∷ xs) a = name_over-push at (renamed (given_name at x.taken.line) name) xs a

length-push : (xs : List Answered) (a : Answered) → length (xs ++ a ∷ []) ≡ suc (length xs)
length-push xs a = length-append xs (a ∷ []) ∙ add-one (length xs)

answered-push : (at : ℕ) (xs : List Answered) (a : Answered) (o : SessionState) (s t : Session)
    (name : Option (List ℕ)) (reply : Reply) → HasAnswered at xs o (shown s) → IsGiven s name reply t →
    name ≡ given_name at a.taken.line → said reply ≡ a.said → HasAnswered at (xs ++ a ∷ []) o (shown t)
answered-push at xs a o s t name reply h g is says = record {
  name = g.name ∙ ap (λ n. renamed n s.name) is ∙ ap (renamed (given_name at a.taken.line)) h.name
      ∙ sym (name_over-push at o.name xs a);
  heard = subst (λ n. DropsLines n o.heard t.lines) (sym (length-push xs a)) (s.lines, h.heard, g.heard);
  answers = ap (map said) g.answers ∙ map-append said s.answers.items (reply ∷ [])
      ∙ ap (λ r. map said s.answers.items ++ r ∷ []) says
      ∙ ap (λ ys. ys ++ a.said ∷ []) h.answers
      ∙ append_assoc o.answers (map (λ x. x.said) xs) (a.said ∷ [])
      ∙ ap (λ ys. o.answers ++ ys) (sym (map-append (λ (x : Answered). x.said) xs (a ∷ [])));
  left = g.left ∙ h.left;
}

-- the same of a session that may be opens
abbrev pub AfterAll : ℕ → List Answered → Option SessionState → Option Session → Type 0
AfterAll at xs old now = MatchOption old (option_map shown now ≡ None)
    (λ o. IsSomeAnd (option_map shown now) (HasAnswered at xs o))

after-push : (at : ℕ) (xs : List Answered) (a : Answered) (old : Option SessionState) (m n : Option Session)
    (name : Option (List ℕ)) (reply : Reply) → AfterAll at xs old m → IsSomeAnd m (HasRoom 1) →
    IfSome m (λ s. IsSomeAnd n (IsGiven s name reply)) → name ≡ given_name at a.taken.line → said reply ≡ a.said →
    AfterAll at (xs ++ a ∷ []) old n
after-push at xs a old None n name reply h opens g is says = absurd opens
after-push at xs a old (Some s) None name reply h opens g is says = absurd g
after-push at xs a None (Some s) (Some t) name reply h opens g is says = absurd (let bad : Some (shown s) ≡ None = h in cc)
after-push at xs a (Some o) (Some s) (Some t) name reply h opens g is says =
    answered-push at xs a o s t name reply h g is says

-- ---- all sessions

own-push : (sid : ℕ) (xs : List Answered) (a : Answered) →
    own sid (xs ++ a ∷ []) ≡ own sid xs ++ own sid (a ∷ [])
own-push sid xs a = filter-append (λ x. x.taken.sid == sid) xs (a ∷ [])

pub all-push : (at : ℕ) (xs : List Answered) (a : Answered) (old mid new : Sessions) (name : Option (List ℕ))
    (reply : Reply) → AllAnswered at xs old mid → IsSomeAnd (get mid.slab a.taken.sid) (HasRoom 1) →
    IfSome (get mid.slab a.taken.sid) (λ s. IsSomeAnd (get new.slab a.taken.sid) (IsGiven s name reply)) →
    ((other : ℕ) → other ≢ a.taken.sid → get new.slab other ≡ get mid.slab other) →
    name ≡ given_name at a.taken.line → said reply ≡ a.said → AllAnswered at (xs ++ a ∷ []) old new
all-push at xs a old mid new name reply all opens g others is says sid =
    elim (cases_eq a.taken.sid sid) [
      | inl e ↦
          let test : (a.taken.sid == sid) ≡ true = grind (arith, nat_tests) in
          let mine : own sid (xs ++ a ∷ []) ≡ own sid xs ++ a ∷ [] =
          own-push sid xs a ∙ ap (λ b. own sid xs ++ cond b (a ∷ []) []) test in
          subst (λ ys. AfterAll at ys (session_at old sid) (get new.slab sid)) (sym mine)
          (after-push at (own sid xs) a (session_at old sid) (get mid.slab sid) (get new.slab sid) name reply (all sid)
          (subst (λ k. IsSomeAnd (get mid.slab k) (HasRoom 1)) e opens)
          (subst (λ k. IfSome (get mid.slab k) (λ s. IsSomeAnd (get new.slab k) (IsGiven s name reply))) e g) is says)
      | inr ne ↦
          let test : (a.taken.sid == sid) ≡ false = grind (arith, nat_tests) in
          let none : own sid (xs ++ a ∷ []) ≡ own sid xs =
          own-push sid xs a ∙ ap (λ b. own sid xs ++ cond b (a ∷ []) []) test ∙ append-nil (own sid xs) in
          subst (λ ys. AfterAll at ys (session_at old sid) (get new.slab sid)) (sym none)
          (subst (λ n. AfterAll at (own sid xs) (session_at old sid) n) (sym (others sid (λ e. ne (sym e)))) (all sid))
    ]

none-answered : (at : ℕ) (o : Option SessionState) (m : Option Session) → o ≡ option_map shown m → AfterAll at [] o m
none-answered at o None e = subst (λ o. AfterAll at [] o None) (sym e) refl
none-answered at o (Some s) e = subst (λ o. AfterAll at [] o (Some s)) (sym e)
    (record { name = refl; heard = refl; answers = sym (append-nil (map said s.answers.items)); left = refl })

pub all-none : (at : ℕ) (s : Sessions) → AllAnswered at [] s s
all-none at s sid = none-answered at (session_at s sid) (get s.slab sid) refl

-- ---- room

room-left : (n : ℕ) (m k : Option Session) (name : Option (List ℕ)) (reply : Reply) → IsSomeAnd m (HasRoom (n + 1)) →
    IfSome m (λ s. IsSomeAnd k (IsGiven s name reply)) → IsSomeAnd k (HasRoom n)
room-left n None k name reply room g = absurd room
room-left n (Some s) None name reply room g = absurd g
room-left n (Some s) (Some t) name reply room g =
    let l : deque_len t.answers ≡ deque_len s.answers + 1 = g.len in
    let c : deque_capacity t.answers ≡ deque_capacity s.answers = g.room in
    let r : deque_len s.answers + (n + 1) ≤ deque_capacity s.answers = room in
    omega arith

less-room : (n : ℕ) (m : Option Session) → IsSomeAnd m (HasRoom (n + 1)) → IsSomeAnd m (HasRoom n)
less-room n None room = absurd room
less-room n (Some s) room = let r : deque_len s.answers + (n + 1) ≤ deque_capacity s.answers = room in omega arith

room-one : (n : ℕ) (m : Option Session) → IsSomeAnd m (HasRoom (n + 1)) → IsSomeAnd m (HasRoom 1)
room-one n None room = absurd room
room-one n (Some s) room = let r : deque_len s.answers + (n + 1) ≤ deque_capacity s.answers = room in omega arith

pub room-after : (n : ℕ) (sid other : ℕ) (mid new : Slab Session) (name : Option (List ℕ)) (reply : Reply) →
    IfSome (get mid sid) (λ s. IsSomeAnd (get new sid) (IsGiven s name reply)) →
    ((k : ℕ) → k ≢ sid → get new k ≡ get mid k) → IsSomeAnd (get mid other) (HasRoom (n + 1)) →
    IsSomeAnd (get new other) (HasRoom n)
room-after n sid other mid new name reply g others room =
    elim (cases_eq other sid) [
      | inl e ↦ room-left n (get mid other) (get new other) name reply room
          (subst (λ k. IfSome (get mid k) (λ s. IsSomeAnd (get new k) (IsGiven s name reply))) (sym e) g)
      | inr ne ↦ subst (λ m. IsSomeAnd m (HasRoom n)) (sym (others other ne)) (less-room n (get mid other) room)
    ]

-- room for one more at each place
rooms-after : (n : ℕ) (sid : ℕ) (mid new : Slab Session) (name : Option (List ℕ)) (reply : Reply)
    (lines : List TurnLine) →
    IfSome (get mid sid) (λ s. IsSomeAnd (get new sid) (IsGiven s name reply)) →
    ((k : ℕ) → k ≢ sid → get new k ≡ get mid k) → HaveRoom (n + 1) mid lines → HaveRoom n new lines
rooms-after n sid mid new name reply [] g others room = All-nil (λ t. IsSomeAnd (get new t.sid) (HasRoom n))
rooms-after n sid mid new name reply (t ∷ lines) g others room =
    All-cons (λ t. IsSomeAnd (get new t.sid) (HasRoom n)) t lines
    (room-after n sid t.sid mid new name reply g others
    (All-head (λ t. IsSomeAnd (get mid t.sid) (HasRoom (n + 1))) t lines room))
    (rooms-after n sid mid new name reply lines g others
    (All-tail (λ t. IsSomeAnd (get mid t.sid) (HasRoom (n + 1))) t lines room))

-- ---- the answers to lines

-- How the answers stand in the midst of lines: `left` are the replies that are left.
pub record Answering (at : ℕ) (lines : List TurnLine) (place : ℕ) (replies left : List Reply) (old now : Sessions)
    : Type 0 where
  pub answered : List Answered
  pub are : map (λ a. a.taken) answered ≡ take place lines
  pub answers : (rest : List Said) → AreAnswers at (drop place lines) (map said left) rest →
      AreAnswers at lines (map said replies) (map (λ a. a.said) answered ++ rest)
  pub all : AllAnswered at answered old now
  pub room : HaveRoom (length lines - place) now.slab (drop place lines)
  pub count : length left ≡ asking_count at (drop place lines)

pub answering-none : (at : ℕ) (lines : List TurnLine) (replies : List Reply) (s : Sessions) →
    HaveRoom (length lines) s.slab lines → length replies ≡ asking_count at lines →
    Answering at lines 0 replies replies s s
answering-none at lines replies s room count = record {
  answered = [];
  are = refl;
  answers = λ rest h. h;
  all = all-none at s;
  room = (let e : length lines ≡ length lines - 0 = omega arith in subst (λ n. HaveRoom n s.slab lines) e room);
  count = count;
}

-- the answer to one line: its own, or the first reply that is left
abbrev pub OneAnswer : ℕ → TurnLine → List Reply → Reply → List Reply → Type 0
OneAnswer at t left reply after = MatchOption (own_answer at t.line) (left ≡ reply ∷ after)
    (λ line. (said reply ≡ alone line) × (left ≡ after))

one-answer : (at : ℕ) (own : Option (List ℕ)) (t : TurnLine) (more : List TurnLine) (left after : List Reply)
    (reply : Reply)
    (rest : List Said) → own_answer at t.line ≡ own →
    MatchOption own (left ≡ reply ∷ after) (λ line. (said reply ≡ alone line) × (left ≡ after)) →
    AreAnswers at more (map said after) rest → AreAnswers at (t ∷ more) (map said left) (said reply ∷ rest)
one-answer at None t more left after reply rest e one h =
    rw e (said reply, map said after, rest, ap (map said) one, refl, h)
one-answer at (Some line) t more left after reply rest e one h =
    rw e (rest, ap (λ a. a ∷ rest) one.0, subst (λ l. AreAnswers at more (map said l) rest) (sym one.1) h)

count-after : (at : ℕ) (own : Option (List ℕ)) (t : TurnLine) (more : List TurnLine) (left after : List Reply)
    (reply : Reply) →
    own_answer at t.line ≡ own →
    MatchOption own (left ≡ reply ∷ after) (λ line. (said reply ≡ alone line) × (left ≡ after)) →
    length left ≡ asking_count at (t ∷ more) → length after ≡ asking_count at more
count-after at None t more left after reply e one h =
    let c : asking_count at (t ∷ more) ≡ 1 + asking_count at more =
    ap (λ o. cond (is_none o) 1 0 + asking_count at more) e in
    let l : length left ≡ length after + 1 = ap length one ∙ sym (add-one (length after)) in
    omega arith
count-after at (Some line) t more left after reply e one h =
    let c : asking_count at (t ∷ more) ≡ 0 + asking_count at more =
    ap (λ o. cond (is_none o) 1 0 + asking_count at more) e in
    let l : length left ≡ length after = ap length one.1 in
    omega arith

pub answering-one : (at : ℕ) (lines : List TurnLine) (place : ℕ) (t : TurnLine) (replies left after : List Reply)
    (old mid new : Sessions) (name : Option (List ℕ)) (reply : Reply) → Answering at lines place replies left old mid →
    place < length lines → drop place lines ≡ t ∷ drop (place + 1) lines →
    take (place + 1) lines ≡ take place lines ++ t ∷ [] → OneAnswer at t left reply after →
    IfSome (get mid.slab t.sid) (λ s. IsSomeAnd (get new.slab t.sid) (IsGiven s name reply)) →
    ((other : ℕ) → other ≢ t.sid → get new.slab other ≡ get mid.slab other) → name ≡ given_name at t.line →
    Answering at lines (place + 1) replies after old new
answering-one at lines place t replies left after old mid new name reply h within split more one g others is =
    let a : Answered = record { taken = t; said = said reply } in
    let n : ℕ = length lines - (place + 1) in
    let fewer : length lines - place ≡ n + 1 = omega arith in
    let rooms : HaveRoom (n + 1) mid.slab (t ∷ drop (place + 1) lines) =
    subst (λ ts. HaveRoom (n + 1) mid.slab ts) split
    (subst (λ k. HaveRoom k mid.slab (drop place lines)) fewer h.room) in
    let here : IsSomeAnd (get mid.slab t.sid) (HasRoom (n + 1)) =
    All-head (λ t. IsSomeAnd (get mid.slab t.sid) (HasRoom (n + 1))) t (drop (place + 1) lines) rooms in
    record {
      answered = h.answered ++ a ∷ [];
      are = map-append (λ (x : Answered). x.taken) h.answered (a ∷ []) ∙ ap (λ ts. ts ++ t ∷ []) h.are ∙ sym more;
      answers = λ rest k. subst (λ ys. AreAnswers at lines (map said replies) ys)
          (sym (append_assoc (map (λ (x : Answered). x.said) h.answered) (said reply ∷ []) rest)
          ∙ ap (λ ys. ys ++ rest) (sym (map-append (λ (x : Answered). x.said) h.answered (a ∷ []))))
          (h.answers (said reply ∷ rest) (subst (λ ts. AreAnswers at ts (map said left) (said reply ∷ rest)) (sym split)
          (one-answer at (own_answer at t.line) t (drop (place + 1) lines) left after reply rest refl one k)));
      all = all-push at h.answered a old mid new name reply h.all (room-one n (get mid.slab t.sid) here) g others is refl;
      room = rooms-after n t.sid mid.slab new.slab name reply (drop (place + 1) lines) g others
          (All-tail (λ t. IsSomeAnd (get mid.slab t.sid) (HasRoom (n + 1))) t (drop (place + 1) lines) rooms);
      count = count-after at (own_answer at t.line) t (drop (place + 1) lines) left after reply refl one
          (h.count ∙ ap (asking_count at) split);
    }

none-left : (left : List Reply) → length left ≡ 0 → map said left ≡ []
none-left [] e = refl
none-left (reply ∷ left) e = absurd (let l : suc (length left) ≡ 0 = e in omega arith)

-- all lines are answered
pub answering-done : (at : ℕ) (lines : List TurnLine) (place : ℕ) (replies left : List Reply) (old now : Sessions) →
    Answering at lines place replies left old now → length lines ≤ place →
    (answered : List Answered) × (map (λ a. a.taken) answered ≡ lines)
    × AreAnswers at lines (map said replies) (map (λ a. a.said) answered) × AllAnswered at answered old now
answering-done at lines place replies left old now h l =
    let none : drop place lines ≡ [] = drop_all place lines l in
    let nothing : map said left ≡ [] = none-left left (h.count ∙ ap (asking_count at) none) in (
      h.answered,
      h.are ∙ take_all place lines l,
      subst (AreAnswers at lines (map said replies)) (append-nil (map (λ a. a.said) h.answered))
          (h.answers [] (subst (λ ts. AreAnswers at ts (map said left) []) (sym none) (nothing, refl))),
      h.all,
    )

-- a reply is left for a line that asks something
pub one-left : (o : Option (List ℕ)) (left n : ℕ) → left ≡ cond (is_none o) 1 0 + n → IfNone o (0 < left)
one-left None left n e = omega arith
one-left (Some line) left n e = tt

some-room : (n : ℕ) (m : Option Session) → 1 ≤ n → IsSomeAnd m (HasRoom n) → IsSomeAnd m (HasRoom 1)
some-room n None l room = absurd room
some-room n (Some s) l room = let r : deque_len s.answers + n ≤ deque_capacity s.answers = room in omega arith

-- there is room for the answer to the next line
pub room-here : (at : ℕ) (lines : List TurnLine) (place : ℕ) (replies left : List Reply) (old now : Sessions)
    (t : TurnLine) →
    Answering at lines place replies left old now → place < length lines →
    drop place lines ≡ t ∷ drop (place + 1) lines → IsSomeAnd (get now.slab t.sid) (HasRoom 1)
room-here at lines place replies left old now t h l split =
    some-room (length lines - place) (get now.slab t.sid) (omega arith)
    (All-head (λ t. IsSomeAnd (get now.slab t.sid) (HasRoom (length lines - place))) t (drop (place + 1) lines)
    (subst (HaveRoom (length lines - place) now.slab) split h.room))
