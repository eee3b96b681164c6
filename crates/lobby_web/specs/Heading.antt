-- Where the heads of requests end among the bytes that come.
use Rattle.std.specs.Prelude.{ℕ, ◌≡◌, ◌+◌, ◌==◌, ◌||◌, Bool, true, false, List, [], ◌∷◌, length, min, nat_le}
use Rattle.std.specs.Prelude.{◌&&◌, not, nat_lt, if◌then◌else◌}
use Rattle.httparse.specs.Grammar.{RequestHead, IsRequestHead, print_request}
use Rattle.lobby_web.specs.declared.heading.Line.{Line}
use Rattle.lobby_web.specs.declared.heading.Line.TheVariants.{Blank, Within, Whole, Returned}
use Rattle.lobby_web.specs.declared.heading.Heading.{Heading}

-- What stands at the end of what came, once this byte has: a line feed ends a line, and a carriage return before it is
-- of its end.
abbrev pub line_after : Line → ℕ → Line
line_after Blank b = if b == 10 || b == 13 then Blank else Within
line_after Within b = if b == 10 then Whole else Within
line_after Whole b = if b == 10 then Blank else (if b == 13 then Returned else Within)
line_after Returned b = if b == 10 then Blank else Within

-- This byte ends an empty line behind one that is not empty, and so a head, if one was there.
abbrev pub ends_head : Line → ℕ → Bool
ends_head Blank b = false
ends_head Within b = false
ends_head Whole b = b == 10
ends_head Returned b = b == 10

-- no head has this byte: a control that is neither a tab nor of the end of a line (TLS begins with one)
abbrev pub is_foreign : ℕ → Bool
is_foreign b = nat_lt b 32 && not (b == 9 || b == 10 || b == 13)

abbrev pub fresh : Heading
fresh = record { line = Blank; length = 0 }

abbrev pub further : Heading → ℕ → Heading
further h b = record {
  line = line_after h.line b;
  length = if ends_head h.line b then 0 else min 16384 (h.length + 1);
}

abbrev pub heading_after : Heading → List ℕ → Heading
heading_after h [] = h
heading_after h (b ∷ bytes) = heading_after (further h b) bytes

-- One of these bytes ends a head, or is none of a head.
abbrev pub has_end : Heading → List ℕ → Bool
has_end h [] = false
has_end h (b ∷ bytes) = (ends_head h.line b || is_foreign b) || has_end (further h b) bytes

-- A head has begun, of a request or of what is none.
abbrev pub has_begun : Heading → Bool
has_begun h = nat_lt 0 h.length

-- how far a head is once all these bytes have come
abbrev pub heading_of : List ℕ → Heading
heading_of received = heading_after fresh received

-- What came is read once these bytes have come behind others: one of them ends a head, or is none of a head; or there
-- are none, which is the peer's end; or so many came without an end as no head may have.
abbrev pub is_read : Heading → List ℕ → Bool
is_read h bytes =
    length bytes == 0 || has_end h bytes || nat_le 16384 (heading_after h bytes).length

-- The head of each request as HTTP/1 has it (RFC 9112, 2 and 5), which begins where no line is open, has an end among
-- its bytes, and behind it no line is open.
abbrev pub HeadsEnd : Type 0
HeadsEnd =
    (h : RequestHead) → IsRequestHead h → (heading : Heading) → heading.line ≡ Blank →
    (has_end heading (print_request h) ≡ true) × ((heading_after heading (print_request h)).line ≡ Blank)
