use Rattle.std.proofs.Common.{◌≡◌, ◌∙◌, true, Some, ap, map, take, length, sym, arith}
use Rattle.std.proofs.lemmas.Bool.{false≢true}
use Rattle.rec_codec.specs.Moves.{move_of, are_codes}
use Rattle.rec_codec.proofs.MoveListLemmas.{IsSound-read, read-codes, moves_of-codes_of, are_codes-codes_of}
use Rattle.rec_codec.proofs.moves.MoveList.from_field.Goals as goal
use Rattle.rec_codec.proofs.moves.MoveList.from_field.Goals.{else-count-ge1-via-then-count-ge1+then-count-le60+else-are_codes, else-count-ge1-via-then-count-ge1+else-count-le60, else-count-ge1-via-else-count-ge1}

pub invariant_of-result : goal.invariant_of-result
invariant_of-result c =
    IsSound-read c.args.count c.read_u16_into.new.dst c.if-count-ge1.true c.if-count-le60.true c.read_u16_into.auto.dst
    (sym c.are_codes.ensures ∙ c.if-are_codes.true)

pub returns-then-are_codes : goal.returns-then-are_codes
returns-then-are_codes c = λ list h e f.
    let read = read-codes list c.read_u16_into.new.dst c.args.field.now h c.read_u16_into.auto.dst f c.read_u16_into.ensures in
    ap Some (ap (λ n. map move_of (take n c.read_u16_into.new.dst)) e
    ∙ (ap (λ codes. map move_of (take (length list) codes)) read ∙ moves_of-codes_of list h.storable))

pub returns-else-count-ge1 : goal.returns-else-count-ge1
returns-else-count-ge1 c = λ list h e f.
    let some = h.some in
    let few = h.few in
    let read = read-codes list c.read_u16_into.new.dst c.args.field.now h c.read_u16_into.auto.dst f c.read_u16_into.ensures in
    let passes : are_codes c.args.count c.read_u16_into.new.dst ≡ true =
    ap (λ n. are_codes n c.read_u16_into.new.dst) e ∙ (ap (are_codes (length list)) read
    ∙ are_codes-codes_of list h.storable) in
    elim c.else-count-ge1.branch [
      | else-count-ge1-via-then-count-ge1+then-count-le60+else-are_codes w ↦ absurd (false≢true
          (sym w.if-are_codes.false ∙ (w.are_codes.ensures ∙ passes)))
      | else-count-ge1-via-then-count-ge1+else-count-le60 w ↦ absurd (omega arith)
      | else-count-ge1-via-else-count-ge1 w ↦ absurd (omega arith)
    ]
