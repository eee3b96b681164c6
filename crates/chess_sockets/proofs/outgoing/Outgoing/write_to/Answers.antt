-- A front of what waited was written, and the rest waits on.
use Rattle.std.proofs.Common.{◌≡◌, ◌≤◌, ◌-◌, ◌+◌, ◌++◌, ◌∙◌, ℕ, List, Option, length, refl, sym, ap, subst, take, drop, take-append-drop, arith}
use Rattle.std.specs.Io.KnownBytes.{Appends}
use Rattle.std.proofs.lemmas.Bool.{false≢true}
use Rattle.std.proofs.lemmas.List.{take_rest, drop-drop, drop_all, length-drop}
use Rattle.chess_sockets.specs.Sending.{HandsOn}
use Rattle.chess_sockets.proofs.outgoing.Outgoing.write_to.Goals as goal

front_of : {before after : Option (List ℕ)} (items : List ℕ) {given rest : List ℕ} (from count : ℕ) → given ≡ items →
    Appends before after (take count (take (length given - from) (drop from given))) → drop (from + count) items ≡ rest →
    HandsOn before after (drop from items) rest
front_of {before} {after} items from count same written left =
    let text = ap (λ l. take (length l - from) (drop from l)) same ∙ take_rest items from in
    record {
      front = take count (drop from items);
      appended = subst (λ l. Appends before after (take count l)) text written;
      split = sym (take-append-drop count (drop from items)) ∙ ap (λ l. take count (drop from items) ++ l)
          (drop-drop count from items ∙ left);
    }

-- how much was given to be written
length-given : {given : List ℕ} (items : List ℕ) (from : ℕ) → given ≡ items →
    length (take (length given - from) (drop from given)) ≡ length items - from
length-given items from same =
    ap (λ l. length (take (length l - from) (drop from l))) same ∙ (ap length (take_rest items from) ∙ length-drop from items)

pub returns-then-is_empty-clause-front : goal.returns-then-is_empty-clause-front
returns-then-is_empty-clause-front g c =
    front_of c.args.self.now.text.items c.args.self.now.sent c.transmit-written.result.count c.deref.ensures.value
    c.transmit-written.ensures.front (c.is_empty.ensures.0 c.if-is_empty.true ∙ sym c.clear.ensures.nothing)

pub returns-else-is_empty-clause-front : goal.returns-else-is_empty-clause-front
returns-else-is_empty-clause-front g c =
    front_of c.args.self.now.text.items c.args.self.now.sent c.transmit-written.result.count c.deref.ensures.value
    c.transmit-written.ensures.front refl

pub returns-then-is_empty-clause-all : goal.returns-then-is_empty-clause-all
returns-then-is_empty-clause-all g c =
    let items = c.args.self.now.text.items in
    let from = c.args.self.now.sent in
    let count = c.transmit-written.result.count in
    let given = length-given items from c.deref.ensures.value in
    let none : length items - (from + count) ≡ 0 =
    sym (length-drop (from + count) items) ∙ ap length (c.is_empty.ensures.0 c.if-is_empty.true) in (
      λ all. c.clear.ensures.nothing,
      λ empty. c.transmit-written.ensures.all.1 (omega (arith, none, given, c.transmit-written.ensures.within)),
    )

pub returns-else-is_empty-clause-all : goal.returns-else-is_empty-clause-all
returns-else-is_empty-clause-all g c =
    let items = c.args.self.now.text.items in
    let from = c.args.self.now.sent in
    let count = c.transmit-written.result.count in
    let given = length-given items from c.deref.ensures.value in (
      λ all.
          let whole : length items ≤ from + count = omega (arith, given, c.transmit-written.ensures.all.0 all) in
          drop_all (from + count) items whole,
      λ empty. absurd (false≢true (sym c.if-is_empty.false ∙ c.is_empty.ensures.1 empty)),
    )

pub returns-then-is_empty-clause-room : goal.returns-then-is_empty-clause-room
returns-then-is_empty-clause-room g c = λ nothing. c.clear.ensures.room

pub returns-else-is_empty-clause-room : goal.returns-else-is_empty-clause-room
returns-else-is_empty-clause-room g c = λ empty. absurd (false≢true (sym c.if-is_empty.false ∙ c.is_empty.ensures.1 empty))

pub returns-then-is_empty-clause-failed : goal.returns-then-is_empty-clause-failed
returns-then-is_empty-clause-failed g c = λ fault. c.transmit-written.ensures.failed fault

pub returns-else-is_empty-clause-failed : goal.returns-else-is_empty-clause-failed
returns-else-is_empty-clause-failed g c = λ fault. c.transmit-written.ensures.failed fault
