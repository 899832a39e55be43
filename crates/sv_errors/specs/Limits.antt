-- The ranges of the instrument's numbers.
use Rattle.std.specs.Prelude.{ℕ, ◌*◌, ℤ, pos, neg_ℤ, int_le, ◌&&◌, Bool, List, length, nat_le}
use Rattle.std.specs.List.{list_all}

-- how many channels there are; they are numbered from 1
abbrev pub channel_count : ℕ
channel_count = 128

-- how many channels a channel list may have
abbrev pub longest_list : ℕ
longest_list = 128

-- how many scans a measurement may have
abbrev pub most_scans : ℕ
most_scans = 16

-- how many readings a measurement may have
abbrev pub most_readings : ℕ
most_readings = most_scans * longest_list

-- whether there is a channel of this number
abbrev pub is_channel : ℕ → Bool
is_channel number = nat_le 1 number && nat_le number channel_count

-- whether a list has 1 to 128 numbers, and each is the number of a channel
abbrev pub is_channel_list : List ℕ → Bool
is_channel_list channels = nat_le 1 (length channels) && (nat_le (length channels) longest_list && list_all is_channel channels)

-- the largest magnitude of a voltage that can be passed to the instrument, in microvolts: 1,000 V
abbrev pub most_microvolts : ℕ
most_microvolts = 1000000000

-- whether a voltage, in microvolts, is at most 1,000 V in magnitude
abbrev pub is_within : ℤ → Bool
is_within value = int_le (neg_ℤ (pos most_microvolts)) value && int_le value (pos most_microvolts)
