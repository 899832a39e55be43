-- The lines of everything that changed between two moments, and the names of all values.
use Rattle.std.specs.Prelude.{ℕ, List, [], ◌∷◌, ◌++◌, map, codes, decimal, slice_index_or}
use Rattle.std.specs.List.{concat, range_with_len}
use Rattle.sv_explain.specs.declared.value.Word.TheVariants as word
use Rattle.sv_explain.specs.declared.shown.RegisterShown.{RegisterShown}
use Rattle.sv_explain.specs.declared.shown.LinksShown.{LinksShown}
use Rattle.sv_explain.specs.declared.shown.ScannerShown.{ScannerShown}
use Rattle.sv_explain.specs.declared.shown.ExchangeShown.{ExchangeShown}
use Rattle.sv_explain.specs.declared.shown.StatusesShown.{StatusesShown}
use Rattle.sv_explain.specs.declared.shown.Shown.{Shown}
use Rattle.sv_explain.specs.declared.shown.ConnShown.{ConnShown}
use Rattle.sv_explain.specs.Lines.{lines_of, links_lines, numbers_line}
use Rattle.sv_explain.specs.Shown.{never_opened}
use Rattle.sv_explain.specs.Values.{channel_values, conn_values, measurement_values, message_values, number_or_word, register_values, settings_values, status_values}

-- the lines of connection `c` and of its interrupt channel
abbrev pub conn_lines : ℕ → ConnShown → ConnShown → List ℕ
conn_lines c old new =
    lines_of (99 ∷ decimal c ++ 46 ∷ []) (codes "role" ∷ codes "faulted" ∷ codes "wait" ∷ codes "output" ∷ [])
    (conn_values old) (conn_values new)
    ++ lines_of (105 ∷ decimal c ++ 46 ∷ []) (codes "open" ∷ codes "output" ∷ []) (channel_values old) (channel_values new)

-- the lines of all connections
abbrev pub conns_lines : List ConnShown → List ConnShown → List ℕ
conns_lines old new =
    concat (map (λ c. conn_lines c (slice_index_or old c never_opened) (slice_index_or new c never_opened)) (range_with_len 0 16))

-- the lines of the links, of the lock, and of the links that have service requests enabled
abbrev pub all_links_lines : LinksShown → LinksShown → List ℕ
all_links_lines old new = links_lines (codes "link.") (codes "none") (λ link. 99 ∷ decimal link.conn) old.links.items new.links.items
    ++ (lines_of [] (codes "lock" ∷ []) (number_or_word word.None old.lock ∷ []) (number_or_word word.None new.lock ∷ [])
    ++ links_lines (codes "srq.") (codes "off") (λ link. codes "on") old.asking.items new.asking.items)

-- the lines of the scanner: its settings, its scan list, and its measurement
abbrev pub scanner_lines : ScannerShown → ScannerShown → List ℕ
scanner_lines old new =
    lines_of [] (codes "source" ∷ codes "count" ∷ codes "range" ∷ codes "monitor" ∷ codes "upper" ∷ codes "lower" ∷ codes "limits" ∷ [])
    (settings_values old.settings) (settings_values new.settings) ++ (numbers_line (codes "list") old.list.items new.list.items
    ++ lines_of [] (codes "state" ∷ codes "scan" ∷ codes "place" ∷ codes "readings" ∷ codes "reading" ∷ [])
    (measurement_values old.measurement) (measurement_values new.measurement))

-- the lines of message exchange and of the errors
abbrev pub exchange_lines : ExchangeShown → ExchangeShown → List ℕ
exchange_lines old new =
    lines_of [] (codes "text" ∷ codes "held" ∷ codes "answers" ∷ codes "response" ∷ codes "lost" ∷ [])
    (message_values old.message) (message_values new.message)
    ++ numbers_line (codes "errors") old.errors.items new.errors.items

-- the lines of a status register whose name is `owner`
abbrev pub register_lines : List ℕ → RegisterShown → RegisterShown → List ℕ
register_lines owner old new = lines_of owner (codes "enable" ∷ codes "ptr" ∷ codes "ntr" ∷ codes "cond" ∷ codes "event" ∷ [])
    (register_values old) (register_values new)

-- the lines of the limit, questionable and operation registers, and of the standard status
abbrev pub status_lines : StatusesShown → StatusesShown → List ℕ
status_lines old new = register_lines (codes "lim.") old.limit new.limit
    ++ (register_lines (codes "ques.") old.questionable new.questionable ++ (register_lines (codes "oper.") old.operation new.operation
    ++ lines_of [] (codes "opc" ∷ codes "ese" ∷ codes "esr" ∷ codes "sre" ∷ codes "stb" ∷ codes "rqs" ∷ [])
    (status_values old.standard) (status_values new.standard)))

-- the lines of everything that changed
abbrev pub changes : Shown → Shown → List ℕ
changes old new = conns_lines old.conns.items new.conns.items ++ (all_links_lines old.links new.links
    ++ (scanner_lines old.scanner new.scanner ++ (exchange_lines old.exchange new.exchange ++ status_lines old.statuses new.statuses)))
