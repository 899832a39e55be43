-- A suspended call, as an entry of the queue of suspended calls.
use Rattle.std.specs.Prelude.{◌≡◌, ◌+◌, ◌<◌, ◌≤◌, List, Some}
use Rattle.sv_links.specs.declared.waiting.Entry.{Entry}
use Rattle.sv_links.specs.Queue.{entry_of, without, wait_measure, queue_measure}

-- The entry is in the queue of suspended calls, and the number of the entry's connection is below
-- 16. The bound on the steps that the entry's call can still take, plus the bound for all other
-- suspended calls, is at most the bound for the whole queue.
abbrev pub IsKept : Entry → List Entry → Type 0
IsKept entry entries = (entry.conn < 16) × (entry_of entry.conn entries ≡ Some entry)
    × (queue_measure (without entry.conn entries) + wait_measure entry.wait ≤ queue_measure entries)
