-- The filter keeps all that the replay of an event prints.
use Rattle.std.proofs.Common.{◌≡◌, ℕ, ◌==◌, false, List, [], ◌∷◌, ◌++◌, codes, Result, Ok, Err, refl, sym, ap, subst, ◌∙◌, inl, inr, append-nil}
use Rattle.std.specs.Prelude.{decimal}
use Rattle.hex.specs.Hex.{encode_lower}
use Rattle.sv_links.specs.Channels.{ChannelAct}
use Rattle.sv_history.specs.declared.event.Port.{Port}
use Rattle.sv_history.specs.declared.event.Port.TheVariants.{Conn, Intr}
use Rattle.sv_history.specs.declared.event.Did.{Did}
use Rattle.sv_history.specs.declared.event.Refused.{Refused}
use Rattle.sv_history.specs.Act.{Act}
use Rattle.sv_history.specs.Event.{PlainEvent}
use Rattle.sv_history.specs.Connection.{waiting_on}
use Rattle.sv_history.specs.Print.{refusal_number, refusal_line, port_line, lines_of, head_of, ports_after, print_of}
use Rattle.sv_server.specs.declared.replay.ReplayFault.{ReplayFault}
use Rattle.sv_server.specs.declared.replay.ReplayFault.TheVariants.{NoMemory, Write}
use Rattle.sv_server.specs.Replay.Replays.{IsReplayWritten}
use Rattle.sv_replay.specs.Filtered.{is_told, filtered}
use Rattle.sv_replay.proofs.Filter.Left.{newline_is_line, prepend_to_line, byte_before_line, IsKeptByFilter, left_none, left_append, left_line}
use Rattle.sv_replay.proofs.Filter.Unbroken.{decimal_has_no_newline, hex_has_no_newline}

left_refusal : (refusal : Refused) → IsKeptByFilter (refusal_line refusal)
left_refusal refusal =
    left_line (refusal_line refusal) (prepend_to_line (codes "refused ") (decimal (refusal_number refusal) ++ 10 ∷ []) refl
    (prepend_to_line (decimal (refusal_number refusal)) (10 ∷ []) (decimal_has_no_newline (refusal_number refusal)) newline_is_line)) refl

left_head : (did : Result Did Refused) → IsKeptByFilter (head_of did)
left_head (Ok did) = left_none
left_head (Err refusal) = left_refusal refusal

-- The filter keeps the line with a port's unsent bytes, which begins with the letter of the port.
left_bytes : (letter c : ℕ) (bytes : List ℕ) → (letter == 10) ≡ false
    → ((rest : List ℕ) → is_told (letter ∷ rest) ≡ false) → IsKeptByFilter ((letter ∷ decimal c) ++ 32 ∷ (encode_lower bytes ++ 10 ∷ []))
left_bytes letter c bytes other plain = left_line ((letter ∷ decimal c) ++ 32 ∷ (encode_lower bytes ++ 10 ∷ []))
    (byte_before_line letter (decimal c ++ 32 ∷ (encode_lower bytes ++ 10 ∷ [])) other
    (prepend_to_line (decimal c) (32 ∷ (encode_lower bytes ++ 10 ∷ [])) (decimal_has_no_newline c)
    (byte_before_line 32 (encode_lower bytes ++ 10 ∷ []) refl
    (prepend_to_line (encode_lower bytes) (10 ∷ []) (hex_has_no_newline bytes) newline_is_line))))
    (plain (decimal c ++ 32 ∷ (encode_lower bytes ++ 10 ∷ [])))

left_port : (port : Port) (bytes : List ℕ) → IsKeptByFilter (port_line port bytes)
left_port port [] = left_none
left_port (Conn c) (byte ∷ bytes) = left_bytes 99 c (byte ∷ bytes) refl (λ rest. refl)
left_port (Intr c) (byte ∷ bytes) = left_bytes 105 c (byte ∷ bytes) refl (λ rest. refl)

left_ports : (channel_log : List ChannelAct) (ports : List Port) (log : List Act) → IsKeptByFilter (lines_of channel_log ports log)
left_ports channel_log [] log = left_none
left_ports channel_log (port ∷ others) log = left_append (port_line port (waiting_on channel_log port log))
    (lines_of channel_log others log)
    (left_port port (waiting_on channel_log port log)) (left_ports channel_log others log)

left_print : (did : Result Did Refused) (channel_log : List ChannelAct) (log : List Act) → IsKeptByFilter (print_of did channel_log log)
left_print did channel_log log = left_append (head_of did) (lines_of channel_log (ports_after did) log) (left_head did)
    (left_ports channel_log (ports_after did) log)

left_whole : (text : List ℕ) → IsKeptByFilter text → filtered text ≡ text
left_whole text h = h.1 text ([], sym (append-nil text))

module _ (did : Result Did Refused) (channel_log : List ChannelAct) (log : List Act) (history : List PlainEvent) (text : List ℕ)
    (after : List PlainEvent) where
  pub written_on : IsReplayWritten did channel_log log history (Ok tt) text after → (behind : List ℕ)
      → filtered (text ++ behind) ≡ text ++ filtered behind
  written_on (kind, is, same) = (subst IsKeptByFilter (sym is) (left_print did channel_log log)).0

  pub written_stop : (fault : ReplayFault) → IsReplayWritten did channel_log log history (Err fault) text after → filtered text ≡ text
  written_stop NoMemory (kind, is, same) = left_whole text (subst IsKeptByFilter (sym is) (left_print did channel_log log))
  written_stop Write (inl (front, same)) = (left_head did).1 text front
  written_stop Write (inr (shown, others, part, split, front, is, same)) =
      ap filtered is ∙ (left_head did).0 (lines_of channel_log shown log ++ part)
      ∙ ap (λ (l : List ℕ). head_of did ++ l) ((left_ports channel_log shown log).0 part
      ∙ ap (λ (l : List ℕ). lines_of channel_log shown log ++ l) ((left_ports channel_log others log).1 part front)) ∙ sym is
