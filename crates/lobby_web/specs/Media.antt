-- Which files are served, by the endings of their names, and their media types.
use Rattle.std.specs.Prelude.{ℕ, List, Option, Some, None, codes, nat_eq, if◌then◌else◌}
use Rattle.std.specs.List.{ends_with}
use Rattle.lobby_web.specs.declared.site.Kind.{Kind}
use Rattle.lobby_web.specs.declared.site.Kind.TheVariants.{Html, Css, Script, Svg, Pgn, Games, Json, Figures}

abbrev pub kind_of : List ℕ → Option Kind
kind_of name =
    if ends_with nat_eq name (codes ".html") then Some Html
    else (if ends_with nat_eq name (codes ".css") then Some Css
    else (if ends_with nat_eq name (codes ".js") then Some Script
    else (if ends_with nat_eq name (codes ".svg") then Some Svg
    else None)))

abbrev pub media_type : Kind → List ℕ
media_type Html = codes "text/html; charset=utf-8"
media_type Css = codes "text/css; charset=utf-8"
media_type Script = codes "text/javascript; charset=utf-8"
media_type Svg = codes "image/svg+xml"
media_type Pgn = codes "application/x-chess-pgn; charset=utf-8"
media_type Games = codes "application/json"
media_type Json = codes "application/json"
media_type Figures = codes "text/plain; version=0.0.4; charset=utf-8"
