-- The order of players by which they have their starting numbers.
use Rattle.std.specs.Prelude.{ℕ, suc, ◌==◌, Bool, not, ◌&&◌, ◌||◌, nat_lt, List, [], ◌∷◌, length, insert, codes}
use Rattle.std.specs.Prelude.{if◌then◌else◌}
use Rattle.std.specs.Ordering.{is_lt, nat_cmp}
use Rattle.std.specs.Cmp.Lexicographic.{slice_cmp}
use Rattle.night_report.specs.declared.particulars.Particulars.{Particulars}
use Rattle.std.specs.Str.{bytes_eq}

-- FIDE's titles, the highest first, and behind them what is none
abbrev pub title_place : List ℕ → ℕ
title_place text =
    if bytes_eq text (codes "GM") then 0
    else (if bytes_eq text (codes "IM") then 1
    else (if bytes_eq text (codes "WGM") then 2
    else (if bytes_eq text (codes "FM") then 3
    else (if bytes_eq text (codes "WIM") then 4
    else (if bytes_eq text (codes "CM") then 5
    else (if bytes_eq text (codes "WFM") then 6
    else (if bytes_eq text (codes "WCM") then 7 else 8)))))))

-- texts in the order of their bytes
abbrev pub is_before : List ℕ → List ℕ → Bool
is_before one other = is_lt (slice_cmp nat_cmp one other)

-- numbers of digits, without zeros before them; nothing is less than each
abbrev pub is_less : List ℕ → List ℕ → Bool
is_less one other = nat_lt (length one) (length other) || (length one == length other && is_before one other)

abbrev pub is_named_before : Particulars → Particulars → Bool
is_named_before p q =
    nat_lt (title_place p.title.now) (title_place q.title.now)
    || (title_place p.title.now == title_place q.title.now && is_before p.full_name.now q.full_name.now)

-- the higher rating, then the higher title, then the full name
abbrev pub precedes : Particulars → Particulars → Bool
precedes p q = is_less q.rating.now p.rating.now || (not (is_less p.rating.now q.rating.now) && is_named_before p q)

-- how many stand before the first of these before whom a player stands
abbrev pub place_of : Particulars → List Particulars → ℕ
place_of p [] = 0
place_of p (q ∷ qs) = if precedes p q then 0 else suc (place_of p qs)

-- players, one after the other, each put before the first of the others before whom the player stands
abbrev pub in_order : List Particulars → List Particulars → List Particulars
in_order ordered [] = ordered
in_order ordered (p ∷ ps) = in_order (insert ordered (place_of p ordered) p) ps
